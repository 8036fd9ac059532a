-- Rounds are a replay, and in a consistent family no entry stops them.
use Rattle.std.proofs.Common.{◌≡◌, ◌≢◌, ◌<◌, ◌≤◌, ◌++◌, List, [], ◌∷◌, ℕ, Bool, true, false, nat_eq}
use Rattle.std.proofs.Common.{length, refl, sym, ap, ◌∙◌, subst, ⊎_elim, true≢false, arith}
use Rattle.std.proofs.lemmas.Bool.{eqb-true, eqb-false}
use Rattle.td_machine.specs.Machine.{Machine}
use Rattle.td_machine.specs.Taking.{Stepped}
use Rattle.td_machine.specs.History.{History, Family, IsConsistent, history, machine_after}
use Rattle.td_base.proofs.Elements.{same_head}
use Rattle.td_law_agreement.proofs.EveryFamily.{none_unfit}
use Rattle.td_trace.specs.Entries.{told_of, traced, traced_history, traced_family}
use Rattle.td_trace.specs.declared.entry.TraceEntry.{TraceEntry}
use Rattle.td_law_replay.specs.Judging.{States, Judgement, Lost, Waits, Steps, judge}
use Rattle.td_law_replay.specs.Replay.{Goes, Reaches, Begun, Then, AllDone}
use Rattle.td_law_replay.specs.Replies.{NotUnfit}
use Rattle.td_law_replay.specs.Rounds.{GoesAt, Rests, Done, Waiting as WaitsHere, Course, Starts, Does}
use Rattle.td_law_replay.specs.Rounds.{Passes, Repeats, IsLostAt, IsWrongAt, IsStuck}
use Rattle.td_law_replay.proofs.Going.{Follows, Looked, Ready, Blocked, look}
use Rattle.td_law_replay.proofs.Progress.{Can, can_go, reached_follows, never_stops}
use Rattle.td_law_replay.specs.Ended.{IsBehind, outlined}
use Rattle.td_law_replay.proofs.Judging.{same_steps, lost_waits, lost_steps, waits_steps, none_left}

pub reaches_of : (all : List (List TraceEntry)) (states : States) (site : ℕ) (moved : Bool)
    → Course all states site moved
    → Reaches all states
reaches_of all _ _ _ Starts = Begun
reaches_of all _ _ _ (Does {old} {new} {site} {moved} before_ g) = Then (reaches_of all old site moved before_) g.goes
reaches_of all _ _ _ (Passes {states} {site} {moved} before_ within rests) = reaches_of all states site moved before_
reaches_of all _ _ _ (Repeats {states} {site} before_ last rests) = reaches_of all states site true before_

-- a round that did nothing so far: the sites before this one rest
resting : (all : List (List TraceEntry)) (states : States) (site : ℕ) (moved : Bool) → Course all states site moved
    → moved ≡ false → (other : ℕ) → 0 < other → other < site → Rests all other states
resting all _ _ _ Starts e other some less = absurd (omega (arith, some, less))
resting all _ _ _ (Does before_ g) e other some less = absurd (true≢false e)
resting all _ _ _ (Passes {states} {site} {moved} before_ within rests) e other some less =
    at (nat_eq other site) refl (resting all states site moved before_ e other some)
  where
    at : (b : Bool) → nat_eq other site ≡ b → (other < site → Rests all other states) → Rests all other states
    at true f ih = subst (λ (k : ℕ). Rests all k states) (sym (eqb-true other site f)) rests
    at false f ih = let apart : other ≢ site = eqb-false other site f in ih (omega (arith, less, apart))
resting all _ _ _ (Repeats before_ last rests) e other some less = absurd (omega (arith, some, less))

-- the next entry of a site comes to one thing
one_judged : (all : List (List TraceEntry)) (states : States) (site : ℕ) (e f : TraceEntry)
    (back rest : List TraceEntry) → (states site).left ≡ e ∷ back → (states site).left ≡ f ∷ rest → (j k : Judgement)
    → judge all states site (states site).machine e.told e.reply ≡ j
    → judge all states site (states site).machine f.told f.reply ≡ k → j ≡ k
one_judged all states site e f back rest next also j k first second =
    sym first
    ∙ ap (λ (l : TraceEntry). judge all states site (states site).machine l.told l.reply)
    (same_head e back f rest (sym next ∙ also))
    ∙ second

rests_not_goes : (all : List (List TraceEntry)) (states new : States) (g : Goes all states new)
    → Rests all g.site states → ⊥
rests_not_goes all states new g (Done none) = none_left g.entry g.rest (sym none ∙ g.next)
rests_not_goes all states new g (WaitsHere entry rest next waits) =
    waits_steps g.to
    (one_judged all states g.site entry g.entry rest g.rest next g.next Waits (Steps g.to) waits g.judged)

-- ---- of a consistent family

module _ (family : Family) (c : IsConsistent family) (states : States)
    (reaches : Reaches (traced_family family) states) where
  abbrev all : List (List TraceEntry)
  all = traced_family family

  abbrev n : ℕ
  n = length family

  follows : Follows family states
  follows = reached_follows family c states reaches

  -- what the next entry of a site comes to
  pub data Turn (site : ℕ) : Type 0 where
    Resting : Rests (traced_family family) site states → Turn site
    Going : (new : States) → GoesAt (traced_family family) site states new → Turn site

  pub turn : (site : ℕ) → 0 < site → site ≤ n → Turn site
  turn site some within =
      let s : IsBehind family site (states site) = follows site some within in
      from s.front s.back s.splits s.machine_is s.left
    where
      from : (front back : History) → history family site ≡ front ++ back
          → (states site).machine ≡ outlined (machine_after family site front)
          → (states site).left ≡ traced_history back
          → Turn site
      from front [] splits machine left = Resting (Done left)
      from front (e ∷ back) splits machine left =
          looked (look family c (none_unfit family c) states follows site some within front e back splits)
        where
          looked : Looked family states site front e → Turn site
          looked (Ready judged) =
              let g = can_go family c states follows site some within front e back splits machine left judged in
              Going g.0 (record { goes = g.1; here = refl })
          looked (Blocked judged w) =
              Resting
              (WaitsHere (traced e) (traced_history back) left
              (ap (λ (m : Machine). judge (traced_family family) states site m (told_of e.input) e.reply) machine
              ∙ judged))

  pub not_lost : (site : ℕ) → 0 < site → site ≤ n → (entry : TraceEntry)
      → IsLostAt (traced_family family) site states entry → ⊥
  not_lost site some within entry l = at (turn site some within)
    where
      lost_goes : (new : States) (g : Goes (traced_family family) states new)
          → IsLostAt (traced_family family) g.site states entry → ⊥
      lost_goes new g k =
          lost_steps g.to
          (one_judged (traced_family family) states g.site entry g.entry k.rest g.rest k.next g.next Lost (Steps g.to)
          k.lost g.judged)

      at : Turn site → ⊥
      at (Resting (Done none)) = none_left entry l.rest (sym none ∙ l.next)
      at (Resting (WaitsHere other rest next waits)) =
          lost_waits
          (one_judged (traced_family family) states site entry other l.rest rest l.next next Lost Waits l.lost waits)
      at (Going new g) =
          lost_goes new g.goes (subst (λ (k : ℕ). IsLostAt (traced_family family) k states entry) (sym g.here) l)

  pub not_wrong : (site : ℕ) → 0 < site → site ≤ n → (entry : TraceEntry)
      → IsWrongAt (traced_family family) site states entry → ⊥
  not_wrong site some within entry w = at (turn site some within)
    where
      wrong_goes : (new : States) (g : Goes (traced_family family) states new)
          → IsWrongAt (traced_family family) g.site states entry → ⊥
      wrong_goes new g k =
          let same : entry ≡ g.entry = same_head entry k.rest g.entry g.rest (sym k.next ∙ g.next) in
          let to : k.to ≡ g.to =
          same_steps g.to k.to
          (one_judged (traced_family family) states g.site g.entry entry g.rest k.rest g.next k.next (Steps g.to)
          (Steps k.to) g.judged k.judged) in
          ⊎_elim
          (λ (h : k.to.reply ≢ entry.reply).
          h (ap (λ (t : Stepped). t.reply) to ∙ g.reply ∙ ap (λ (l : TraceEntry). l.reply) (sym same)))
          (λ (h : NotUnfit entry.reply → ⊥).
          h (subst (λ (l : TraceEntry). NotUnfit l.reply) (sym same) g.fit)) k.wrong

      at : Turn site → ⊥
      at (Resting (Done none)) = none_left entry w.rest (sym none ∙ w.next)
      at (Resting (WaitsHere other rest next waits)) =
          waits_steps w.to
          (one_judged (traced_family family) states site other entry rest w.rest next w.next Waits (Steps w.to) waits
          w.judged)
      at (Going new g) =
          wrong_goes new g.goes (subst (λ (k : ℕ). IsWrongAt (traced_family family) k states entry) (sym g.here) w)

pub not_stuck : (family : Family) → IsConsistent family → (states : States) → IsStuck (traced_family family) states → ⊥
not_stuck family c states s =
    let r : Reaches (traced_family family) states = reaches_of (traced_family family) states s.site false s.course in
    ⊎_elim (λ (over : AllDone (traced_family family) states). s.left over)
    (λ (g : Can family states). rests_not_goes (traced_family family) states g.0 g.1
    (all_rest g.1.site g.1.some g.1.within))
    (never_stops family c states r)
  where
    all_rest : (site : ℕ) → 0 < site → site ≤ length (traced_family family) → Rests (traced_family family) site states
    all_rest site some within = at (nat_eq site s.site) refl
      where
        at : (b : Bool) → nat_eq site s.site ≡ b → Rests (traced_family family) site states
        at true f = subst (λ (k : ℕ). Rests (traced_family family) k states) (sym (eqb-true site s.site f)) s.rests
        at false f =
            let apart : site ≢ s.site = eqb-false site s.site f in
            let last : s.site ≡ length (traced_family family) = s.last in
            resting (traced_family family) states s.site false s.course refl site some
            (omega (arith, within, apart, last))
