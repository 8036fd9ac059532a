-- What is known of operations wherever a replay comes.
use Rattle.std.proofs.Common.{◌≡◌, ◌<◌, ◌≤◌, ◌+◌, ◌-◌, List, [], ◌∷◌, ℕ, zero, suc, Bool, true, false, nat_eq}
use Rattle.std.proofs.Common.{nat_le, length, filter, Option, Some, None, if◌then◌else◌, refl}
use Rattle.std.proofs.Common.{sym, ap, ◌∙◌, subst, arith}
use Rattle.std.proofs.lemmas.Bool.{leb-true, leb-false}
use Rattle.std.proofs.lemmas.List.{get_or-set_same, length-set, length-replicate}
use Rattle.std.proofs.lemmas.Option.{same_Some}
use Rattle.std.specs.Prelude.{IfSome}
use Rattle.td_base.specs.Value.{DotValue}
use Rattle.td_base.proofs.Lists.{In-filter}
use Rattle.td_clock.specs.Vector.{vector_get, vector_set, vector_bump}
use Rattle.td_op.specs.Op.{OpValue, IsOp}
use Rattle.td_machine.specs.Machine.{Machine}
use Rattle.td_machine.specs.Ready.{next_ready, is_ready}
use Rattle.td_machine.proofs.StepKinds.{least_in}
use Rattle.td_trace.specs.declared.entry.TraceEntry.{TraceEntry}
use Rattle.td_law_replay.specs.Counting.{Count, no_count, count_entry, deps_from, made_deps}
use Rattle.td_law_replay.specs.Counting.{raised, with_use, used, makes}
use Rattle.td_law_replay.specs.Judging.{States, outline, made_op}
use Rattle.td_law_replay.specs.Replay.{Reaches}
use Rattle.td_law_replay.specs.Traced.{site_entries, AreInRange}
use Rattle.td_law_replay.proofs.Bare.{bare}
use Rattle.td_law_replay.proofs.Counts.{deps_made}
use Rattle.td_law_replay.proofs.Judging.{made_deps_within}
use Rattle.td_law_replay.proofs.Seen.{Seen, sized_of, found_dot}
use Rattle.td_law_replay.proofs.Sound.{seen_all}

-- ---- what entries tell of an operation is of all sites, and has the number of those before it at its own

raised_long : (site k : ℕ) (have : List ℕ) → length (raised site k have) ≡ length have
raised_long site zero have = refl
raised_long site (suc k) have =
    raised_long site k (vector_bump have site) ∙ length-set have (site - 1) (vector_get have site + 1)

use_long : (site : ℕ) (used_one : Option DotValue) (have : List ℕ) → length (with_use site used_one have) ≡ length have
use_long site None have = refl
use_long site (Some d) have = at (nat_eq d.site site)
  where
    at : (b : Bool) → length (if b then have else vector_bump have d.site) ≡ length have
    at true = refl
    at false = length-set have (d.site - 1) (vector_get have d.site + 1)

count_long : (site n : ℕ) (c : Count) (e : TraceEntry) → length (count_entry site n c e).have ≡ length c.have
count_long site n c e =
    use_long site (used e) (raised site (makes n c e) c.have) ∙ raised_long site (makes n c e) c.have

-- a list of numbers that the entries of a site tell of its q-th operation
record IsTold (site n q : ℕ) (deps : List ℕ) : Type 0 where
  pub long : length deps ≡ n
  pub own : vector_get deps site + 1 ≡ q

told_by : (site n q : ℕ) → 0 < site → site ≤ n → 0 < q → (c : Count) → length c.have ≡ n → (l : List TraceEntry)
    (deps : List ℕ) → deps_from site n q c l ≡ Some deps → IsTold site n q deps
told_by site n q some within first c long [] deps e = absurd cc
told_by site n q some within first c long (entry ∷ rest) deps e =
    at (nat_le q (vector_get (count_entry site n c entry).have site)) e
    (told_by site n q some within first (count_entry site n c entry) (count_long site n c entry ∙ long) rest deps)
  where
    at : (b : Bool)
        → (if b then Some (vector_set c.have site (q - 1)) else deps_from site n q (count_entry site n c entry) rest)
        ≡ Some deps
        → (deps_from site n q (count_entry site n c entry) rest ≡ Some deps → IsTold site n q deps)
        → IsTold site n q deps
    at true k ih =
        let is : vector_set c.have site (q - 1) ≡ deps = same_Some (vector_set c.have site (q - 1)) deps k in
        let there : site - 1 < length c.have = omega (arith, some, within, long) in
        let got : vector_get (vector_set c.have site (q - 1)) site ≡ q - 1 =
        get_or-set_same c.have (site - 1) (q - 1) 0 there in
        let own : vector_get deps site ≡ q - 1 = ap (λ (v : List ℕ). vector_get v site) (sym is) ∙ got in
        record {
          long = ap (λ (v : List ℕ). length v) (sym is) ∙ length-set c.have (site - 1) (q - 1) ∙ long;
          own = omega (arith, own, first);
        }
    at false k ih = ih k

told_of_dot : (all : List (List TraceEntry)) (d : DotValue) → 0 < d.site → 0 < d.seq → (deps : List ℕ)
    → made_deps all d ≡ Some deps → IsTold d.site (length all) d.seq deps
told_of_dot all d some first deps e =
    told_by d.site (length all) d.seq some (made_deps_within all d deps e) first (no_count (length all))
    (length-replicate (length all) 0) (site_entries all d.site) deps (deps_made all d deps e)

pub told_fit : (all : List (List TraceEntry)) (d : DotValue) → 0 < d.site → 0 < d.seq → (found : Option (List ℕ))
    → found ≡ made_deps all d → IfSome found (λ (v : List ℕ). (length v ≡ length all) × IsOp (outline d v))
told_fit all d some first None e = tt
told_fit all d some first (Some deps) e =
    let told = told_of_dot all d some first deps (sym e) in (
      told.long,
      record {
        own = subst (λ (n : ℕ). d.site ≤ n) (sym told.long) (made_deps_within all d deps (sym e));
        named = tt;
        next = told.own;
      },
    )

-- ---- operations that are made

module _ (all : List (List TraceEntry)) (t : AreInRange all) (states : States) (reaches : Reaches all states) where
  pub made_fit : (d : DotValue) (found : Option OpValue) → 0 < d.site → found ≡ made_op states d
      → (length all < d.site → made_op states d ≡ None)
      → IfSome found (λ (x : OpValue). (length x.deps ≡ length all) × (x.dot ≡ d) × (made_deps all x.dot ≡ Some x.deps))
  made_fit d None some e past = tt
  made_fit d (Some x) some e past = at (nat_le d.site (length all)) refl
    where
      at : (b : Bool) → nat_le d.site (length all) ≡ b
          → (length x.deps ≡ length all) × (x.dot ≡ d) × (made_deps all x.dot ≡ Some x.deps)
      at false f = absurd (none_some (sym (e ∙ past (leb-false d.site (length all) f))))
        where
          none_some : None ≡ Some x → ⊥
          none_some k = cc
      at true f =
          let within : d.site ≤ length all = leb-true d.site (length all) f in
          let s : Seen all d.site (states d.site) = seen_all all t states reaches d.site some within in
          let g = found_dot states d x (sym e) in (
            sized_of (bare (states d.site).machine) s.reached x g.0 ∙ s.sized,
            g.1,
            s.tells x g.0 (ap (λ (c : DotValue). c.site) g.1),
          )

  -- what waits at a site is the outline of what entries tell
  pub waits_as_told : (site : ℕ) → 0 < site → site ≤ length all → (x : OpValue) → made_deps all x.dot ≡ Some x.deps
      → (y : OpValue) → next_ready (states site).machine.have (states site).machine.waiting ≡ Some y → y.dot ≡ x.dot
      → y.deps ≡ x.deps
  waits_as_told site some within x told y least same =
      let s : Seen all site (states site) = seen_all all t states reaches site some within in
      let m : Machine = (states site).machine in
      let waits = s.outlines y
      (In-filter (is_ready m.have) y m.waiting (least_in (filter (is_ready m.have) m.waiting) y least)).0 in
      same_Some y.deps x.deps (sym waits.0 ∙ ap (λ (c : DotValue). made_deps all c) same ∙ told)

  pub site_there : (site : ℕ) → 0 < site → site ≤ length all → (states site).machine.site ≡ site
  site_there site some within = (seen_all all t states reaches site some within).here

  pub size_there : (site : ℕ) → 0 < site → site ≤ length all → (states site).machine.size ≡ length all
  size_there site some within = (seen_all all t states reaches site some within).sized
