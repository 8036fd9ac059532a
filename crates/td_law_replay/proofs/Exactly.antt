-- Lines can be replayed to the end exactly where they are those of a consistent family.
use Rattle.std.proofs.Common.{◌≡◌, ◌≢◌, ◌↔◌, ◌<◌, ◌≤◌, ◌+◌, ◌-◌, List, ℕ, zero, suc, Bool, true, false}
use Rattle.std.proofs.Common.{if◌then◌else◌, nat_eq, length, refl, sym, ap, subst, ⊎_elim, arith}
use Rattle.std.proofs.lemmas.Bool.{eqb-true, eqb-false, ne_eqb}
use Rattle.td_base.specs.Lists.{In}
use Rattle.td_base.specs.declared.site.TheConstants.{MAX_SITE}
use Rattle.td_base.proofs.Lists.{map_In}
use Rattle.td_base.proofs.Elements.{CutAt, cut_at}
use Rattle.td_op.specs.declared.input.Input.{Input}
use Rattle.td_op.specs.declared.input.Input.TheVariants.{Local, Take, Next}
use Rattle.td_op.specs.declared.message.Message.TheVariants.{Op as AnOp, Vote as AVote}
use Rattle.td_op.specs.Input.{IsInput}
use Rattle.td_machine.specs.Machine.{start}
use Rattle.td_machine.specs.History.{History, Family, IsLegalFrom, IsConsistent, history}
use Rattle.td_law_logs.proofs.Moments.{legal_entry}
use Rattle.td_trace.specs.Entries.{told_of, traced, traced_history, traced_family}
use Rattle.td_trace.specs.declared.entry.TraceEntry.{TraceEntry}
use Rattle.td_law_replay.specs.Ended.{IsReplayed, IsConsistentTrace}
use Rattle.td_law_replay.specs.Judging.{SiteState, States, begin}
use Rattle.td_law_replay.specs.Replay.{put, Goes, Reaches, Begun, Then, AllDone}
use Rattle.td_law_replay.specs.Traced.{site_entries, IsTold, AreInRange}
use Rattle.td_law_replay.proofs.Telling.{entries_there}
use Rattle.td_law_replay.proofs.Going.{many}
use Rattle.td_law_replay.proofs.Progress.{Can, never_stops}
use Rattle.td_law_replay.proofs.Shown.{shows_all, votes_sent}

-- ---- how many entries are left at the first so many sites

abbrev entries_left : ℕ → States → ℕ
entries_left zero states = 0
entries_left (suc k) states = length (states (suc k)).left + entries_left k states

-- an entry that is done is one less
left_other : (k : ℕ) (states : States) (site : ℕ) (state : SiteState) → k < site
    → entries_left k (put states site state) ≡ entries_left k states
left_other zero states site state less = refl
left_other (suc k) states site state less =
    let apart : nat_eq (suc k) site ≡ false = ne_eqb (suc k) site (λ (e : suc k ≡ site). omega (arith, less, e)) in
    let here : length (put states site state (suc k)).left ≡ length (states (suc k)).left =
    ap (λ (b : Bool). length (if b then state else states (suc k)).left) apart in
    let rest : entries_left k (put states site state) ≡ entries_left k states =
    left_other k states site state (omega (arith, less)) in
    omega (arith, here, rest)

left_less : (k : ℕ) (states : States) (site : ℕ) (state : SiteState) → 0 < site → site ≤ k
    → length state.left + 1 ≡ length (states site).left
    → entries_left k (put states site state) + 1 ≡ entries_left k states
left_less zero states site state some within fewer = absurd (omega (arith, some, within))
left_less (suc k) states site state some within fewer =
    at (nat_eq (suc k) site) refl (λ w. left_less k states site state some w fewer)
  where
    at : (b : Bool) → nat_eq (suc k) site ≡ b
        → (site ≤ k → entries_left k (put states site state) + 1 ≡ entries_left k states)
        → length (if b then state else states (suc k)).left + entries_left k (put states site state) + 1
        ≡ length (states (suc k)).left + entries_left k states
    at true e ih =
        let same : suc k ≡ site = eqb-true (suc k) site e in
        let rest : entries_left k (put states site state) ≡ entries_left k states =
        left_other k states site state (omega (arith, same)) in
        let there : length (states site).left ≡ length (states (suc k)).left =
        ap (λ (s : ℕ). length (states s).left) (sym same) in
        omega (arith, rest, fewer, there)
    at false e ih =
        let apart : suc k ≢ site = eqb-false (suc k) site e in
        let rest : entries_left k (put states site state) + 1 ≡ entries_left k states =
        ih (omega (arith, within, apart)) in
        omega (arith, rest)

pub goes_less : (all : List (List TraceEntry)) (old new : States) → Goes all old new
    → entries_left (length all) new + 1 ≡ entries_left (length all) old
goes_less all old new g =
    subst (λ (z : States). entries_left (length all) z + 1 ≡ entries_left (length all) old) (sym g.is)
    (left_less (length all) old g.site (record { machine = g.to.machine; left = g.rest }) g.some g.within
    (fewer (length g.rest) (length (old g.site).left) (ap (λ (l : List TraceEntry). length l) g.next)))
  where
    fewer : (a b : ℕ) → b ≡ suc a → a + 1 ≡ b
    fewer a b e = omega (arith, e)

-- ---- a consistent family is replayed to the end

pub record Ends (all : List (List TraceEntry)) : Type 0 where
  pub states : States
  pub reaches : Reaches all states
  pub over : AllDone all states

run_on : (family : Family) → IsConsistent family → (bound : ℕ) (states : States)
    → Reaches (traced_family family) states
    → entries_left (length (traced_family family)) states < bound → Ends (traced_family family)
run_on family c zero states r less = absurd (omega (arith, less))
run_on family c (suc bound) states r less =
    ⊎_elim (λ (over : AllDone (traced_family family) states). record { states = states; reaches = r; over = over })
    (λ (g : Can family states).
    let fewer : entries_left (length (traced_family family)) g.0 + 1
    ≡ entries_left (length (traced_family family)) states =
    goes_less (traced_family family) states g.0 g.1 in
    run_on family c bound g.0 (Then r g.1) (omega (arith, less, fewer)))
    (never_stops family c states r)

pub run_to_end : (family : Family) → IsConsistent family → Ends (traced_family family)
run_to_end family c =
    run_on family c (suc (entries_left (length (traced_family family)) (begin (traced_family family))))
    (begin (traced_family family)) Begun (omega arith)

-- ---- its entries are in their ranges

told_valid : (input : Input) → IsInput input → IsTold (told_of input)
told_valid (Local request) v = v
told_valid (Take (AnOp x)) v = v.dot
told_valid (Take (AVote w)) v = v
told_valid Next v = tt

pub entries_valid : (family : Family) → IsConsistent family → AreInRange (traced_family family)
entries_valid family c =
    let some : 0 < length family = c.legal.some in
    let long : length (traced_family family) ≡ length family = many family in
    record {
      some = omega (arith, some, long);
      few = subst (λ (k : ℕ). k ≤ MAX_SITE) (sym long) c.legal.few;
      each = λ site up within l i. at site up (omega (arith, within, long)) l i;
    }
  where
    at : (site : ℕ) → 0 < site → site ≤ length family → (l : TraceEntry)
        → In l (site_entries (traced_family family) site) → IsTold l.told
    at site up within l i =
        let j : In l (traced_history (history family site)) =
        subst (λ (k : List TraceEntry). In l k) (entries_there family (site - 1)) i in
        let q = map_In traced l (history family site) j in
        let cut : CutAt q.0 (history family site) = cut_at q.0 (history family site) q.1 in
        subst (λ (k : TraceEntry). IsTold k.told) (sym q.2)
        (told_valid q.0.input
        (legal_entry (start site (length family)) cut.front q.0 cut.back
        (subst (λ (h : History). IsLegalFrom (start site (length family)) h) cut.is (c.legal.legal site up within))))

-- ---- so

pub exactly : (all : List (List TraceEntry)) → IsReplayed all ↔ IsConsistentTrace all
exactly all = (there, back)
  where
    there : IsReplayed all → IsConsistentTrace all
    there r =
        let k = shows_all all r.are r.states r.reaches r.over r.votes in
        record { family = k.0; consistent = k.1.consistent; is = k.1.is }

    replayed : (family : Family) → IsConsistent family → IsReplayed (traced_family family)
    replayed family c =
        let e : Ends (traced_family family) = run_to_end family c in
        record {
          are = entries_valid family c;
          states = e.states;
          reaches = e.reaches;
          over = e.over;
          votes = votes_sent family c e.states e.reaches e.over;
        }

    back : IsConsistentTrace all → IsReplayed all
    back p = subst (λ (l : List (List TraceEntry)). IsReplayed l) p.is (replayed p.family p.consistent)
