-- The replay never stops: as long as an entry is left, the next entry of some site can be done. For what a site waits
-- for was made with all that its maker had used, so what that maker waits for in its turn has the smaller sum.
use Rattle.std.proofs.Common.{◌≡◌, ◌≢◌, ◌⊎◌, ◌<◌, ◌≤◌, ◌++◌, List, [], ◌∷◌, ℕ, zero, suc, Bool, true}
use Rattle.std.proofs.Common.{false, if◌then◌else◌, nat_eq, length, None, refl, sym, ap, ◌∙◌, subst}
use Rattle.std.proofs.Common.{inl, inr, ⊎_elim, append_assoc, append-nil, arith}
use Rattle.std.proofs.lemmas.Bool.{eqb-true, eqb-false}
use Rattle.td_base.specs.Lists.{In}
use Rattle.td_base.proofs.Lists.{In-append, In-back}
use Rattle.td_base.proofs.Elements.{CutAt, cut_at, same_head, same_tail}
use Rattle.td_op.specs.declared.entry.Entry.{Entry}
use Rattle.td_op.specs.Op.{OpValue}
use Rattle.td_op.specs.Past.{op_sum}
use Rattle.td_machine.specs.Machine.{Machine, start}
use Rattle.td_machine.specs.Taking.{Stepped}
use Rattle.td_machine.specs.Step.{step}
use Rattle.td_machine.specs.History.{History, Family, IsConsistent, IsOpOf, history, machine_after, log_of}
use Rattle.td_machine.proofs.Induction.{log_grows}
use Rattle.td_machine.proofs.Family.{made_at, older_in_past, past_is_smaller}
use Rattle.td_law_logs.proofs.Moments.{moment_of, after_one_more}
use Rattle.td_law_agreement.specs.Unfit.{NothingUnfit}
use Rattle.td_law_agreement.proofs.EveryFamily.{none_unfit}
use Rattle.td_trace.specs.Entries.{told_of, traced, traced_history, traced_family}
use Rattle.td_trace.specs.declared.entry.TraceEntry.{TraceEntry}
use Rattle.td_law_replay.specs.Judging.{States, made_op, Steps, judge}
use Rattle.td_law_replay.specs.Replay.{put, Goes, Reaches, Begun, Then, AllDone}
use Rattle.td_law_replay.proofs.Outlined.{outlined_step}
use Rattle.td_law_replay.proofs.Going.{Follows, many, follows_begin, Waiting, Looked, Ready}
use Rattle.td_law_replay.proofs.Going.{Blocked, look, fit, reply_is, not_yet}
use Rattle.td_law_replay.specs.Ended.{IsBehind, outlined}
use Rattle.td_law_replay.proofs.Judging.{same_steps, waits_steps}

-- an entry can be done
abbrev pub Can : Family → States → Type 0
Can family states = (new : States) × Goes (traced_family family) states new

module _ (family : Family) (c : IsConsistent family) (states : States) (follows : Follows family states) where
  abbrev pub n : ℕ
  n = length family

  pub unfit : NothingUnfit family
  unfit = none_unfit family c

  abbrev pub can_go : (site : ℕ) (some : 0 < site) (within : site ≤ n) (front : History) (e : Entry) (back : History)
      → history family site ≡ front ++ e ∷ back
      → (states site).machine ≡ outlined (machine_after family site front)
      → (states site).left ≡ traced_history (e ∷ back)
      → judge (traced_family family) states site (outlined (machine_after family site front)) (told_of e.input) e.reply
      ≡ Steps (outlined_step (step (machine_after family site front) e.input))
      → Can family states
  can_go site some within front e back splits machine left judged =
      let to : Stepped = outlined_step (step (machine_after family site front) e.input) in
      let now : States = put states site (record { machine = to.machine; left = traced_history back }) in
      let long : length (traced_family family) ≡ n = many family in (
        now,
        record {
          site = site;
          some = some;
          within = omega (arith, within, long);
          entry = traced e;
          rest = traced_history back;
          next = left;
          to = to;
          judged =
              ap (λ (m : Machine). judge (traced_family family) states site m (told_of e.input) e.reply) machine
              ∙ judged;
          reply = reply_is family c unfit states follows site some within front e back splits;
          fit = fit family c unfit states follows site some within front e back splits;
          is = refl;
        },
      )

  -- what the maker of an operation that is waited for uses next is in its past
  smaller : (x : OpValue) → IsOpOf family x → (some : 0 < x.dot.site) (within : x.dot.site ≤ n) (front : History)
      (e : Entry) (back : History) → history family x.dot.site ≡ front ++ e ∷ back
      → (In x (machine_after family x.dot.site front).log → ⊥) → (y : OpValue) → IsOpOf family y
      → y.dot.site ≢ x.dot.site
      → (step (machine_after family x.dot.site front) e.input).machine.log
      ≡ y ∷ (machine_after family x.dot.site front).log
      → op_sum y < op_sum x
  smaller x o some within front e back splits new y p apart takes =
      let site : ℕ = x.dot.site in
      let begun : Machine = start site n in
      let next : history family site ≡ (front ++ e ∷ []) ++ back = splits ∙ sym (append_assoc front (e ∷ []) back) in
      let t = moment_of family site some within (front ++ e ∷ []) back next in
      let g = log_grows family c t in
      let older : List OpValue = y ∷ (machine_after family site front).log in
      let is : log_of family site ≡ g.0 ++ older =
      g.1 ∙ ap (λ (l : List OpValue). g.0 ++ l)
      (ap (λ (m : Machine). m.log) (after_one_more begun front e) ∙ takes) in
      let there : In x (log_of family site) = (made_at family c x o).2 in
      let newer : In x g.0 =
      ⊎_elim (λ (i : In x g.0). i) (λ (i : In x older). absurd (old i))
      (In-append x g.0 older (subst (λ (l : List OpValue). In x l) is there)) in
      let s : CutAt x g.0 = cut_at x g.0 newer in
      let split : log_of family site ≡ s.front ++ x ∷ (s.back ++ older) =
      is ∙ ap (λ (l : List OpValue). l ++ older) s.is ∙ append_assoc s.front (x ∷ s.back) older in
      past_is_smaller family c y x p o
      (older_in_past family c s.front x (s.back ++ older) split o y (In-back y s.back older (inl refl)))
    where
      old : In x (y ∷ (machine_after family x.dot.site front).log) → ⊥
      old (inl k) = apart (ap (λ (z : OpValue). z.dot.site) (sym k))
      old (inr i) = new i

  -- where the last of a site's entries is done, its log is whole
  whole : (x : OpValue) → IsOpOf family x → (front : History) → history family x.dot.site ≡ front ++ []
      → In x (machine_after family x.dot.site front).log
  whole x o front splits =
      subst (λ (h : History). In x (machine_after family x.dot.site h).log) (splits ∙ append-nil front)
      (made_at family c x o).2

  -- who waits for an operation of a small sum finds a site that goes on
  abbrev Descends : ℕ → Type 0
  Descends bound =
      (site : ℕ) (front : History) (e : Entry) → Waiting family states site front e
      → (x : OpValue) → IsOpOf family x → made_op states x.dot ≡ None → op_sum x < bound → Can family states

  descend : (bound : ℕ) (x : OpValue) → IsOpOf family x → made_op states x.dot ≡ None → op_sum x < bound
      → Can family states
  descend zero x o unmade less = absurd (omega (arith, less))
  descend (suc bound) x o unmade less =
      let p = made_at family c x o in
      let s : IsBehind family x.dot.site (states x.dot.site) = follows x.dot.site p.0 p.1 in
      from s.front s.back s.splits s.machine_is s.left
      (not_yet family c unfit states follows x (p.0, p.1) unmade)
      (λ y q k l. descend bound y q k l)
    where
      from : (front back : History) → history family x.dot.site ≡ front ++ back
          → (states x.dot.site).machine ≡ outlined (machine_after family x.dot.site front)
          → (states x.dot.site).left ≡ traced_history back
          → (In x (machine_after family x.dot.site front).log → ⊥)
          → ((y : OpValue) → IsOpOf family y → made_op states y.dot ≡ None → op_sum y < bound → Can family states)
          → Can family states
      from front [] splits machine left new deeper = absurd (new (whole x o front splits))
      from front (e ∷ back) splits machine left new deeper =
          let p = made_at family c x o in
          looked (look family c unfit states follows x.dot.site p.0 p.1 front e back splits)
        where
          looked : Looked family states x.dot.site front e → Can family states
          looked (Ready judged) =
              let p = made_at family c x o in
              can_go x.dot.site p.0 p.1 front e back splits machine left judged
          looked (Blocked judged w) =
              let p = made_at family c x o in
              let lower : op_sum w.op < op_sum x =
              smaller x o p.0 p.1 front e back splits new w.op w.of_family w.other w.takes in
              deeper w.op w.of_family w.unmade (omega (arith, lower, less))

  -- a site with an entry left: it, or another, goes on
  pub at_site : (site : ℕ) → 0 < site → site ≤ n → ((states site).left ≡ []) ⊎ Can family states
  at_site site some within =
      let s : IsBehind family site (states site) = follows site some within in
      from s.front s.back s.splits s.machine_is s.left
    where
      from : (front back : History) → history family site ≡ front ++ back
          → (states site).machine ≡ outlined (machine_after family site front)
          → (states site).left ≡ traced_history back
          → ((states site).left ≡ []) ⊎ Can family states
      from front [] splits machine left = inl left
      from front (e ∷ back) splits machine left =
          inr (looked (look family c unfit states follows site some within front e back splits))
        where
          looked : Looked family states site front e → Can family states
          looked (Ready judged) = can_go site some within front e back splits machine left judged
          looked (Blocked judged w) = descend (suc (op_sum w.op)) w.op w.of_family w.unmade (omega arith)

  scan : (k : ℕ) → k ≤ n → ((site : ℕ) → 0 < site → site ≤ k → (states site).left ≡ []) ⊎ Can family states
  scan zero within = inl (λ site some less. absurd (omega (arith, some, less)))
  scan (suc k) within =
      ⊎_elim
      (λ (h : (site : ℕ) → 0 < site → site ≤ k → (states site).left ≡ []).
      ⊎_elim (λ (e : (states (suc k)).left ≡ []). inl (more h e)) (λ (g : Can family states). inr g)
      (at_site (suc k) (omega arith) within)) (λ (g : Can family states). inr g) (scan k (omega (arith, within)))
    where
      more : ((site : ℕ) → 0 < site → site ≤ k → (states site).left ≡ []) → (states (suc k)).left ≡ []
          → (site : ℕ) → 0 < site → site ≤ suc k → (states site).left ≡ []
      more h e site some less = at (nat_eq site (suc k)) refl
        where
          at : (b : Bool) → nat_eq site (suc k) ≡ b → (states site).left ≡ []
          at true f = subst (λ (s : ℕ). (states s).left ≡ []) (sym (eqb-true site (suc k) f)) e
          at false f =
              let apart : site ≢ suc k = eqb-false site (suc k) f in h site some (omega (arith, less, apart))

  pub goes_on : AllDone (traced_family family) states ⊎ Can family states
  goes_on =
      let long : length (traced_family family) ≡ n = many family in
      ⊎_elim
      (λ (h : (site : ℕ) → 0 < site → site ≤ n → (states site).left ≡ []).
      inl (λ site some within. h site some (omega (arith, within, long))))
      (λ (g : Can family states). inr g) (scan n (omega arith))

  -- ---- what is done keeps the replay on the histories

  kept_at : (site : ℕ) (some : 0 < site) (within : site ≤ n) (entry : TraceEntry) (rest : List TraceEntry)
      (to : Stepped)
      → (states site).left ≡ entry ∷ rest
      → judge (traced_family family) states site (states site).machine entry.told entry.reply ≡ Steps to
      → IsBehind family site (record { machine = to.machine; left = rest })
  kept_at site some within entry rest to next judged =
      let s : IsBehind family site (states site) = follows site some within in
      from s.front s.back s.splits s.machine_is (sym s.left ∙ next)
    where
      from : (front back : History) → history family site ≡ front ++ back
          → (states site).machine ≡ outlined (machine_after family site front)
          → traced_history back ≡ entry ∷ rest
          → IsBehind family site (record { machine = to.machine; left = rest })
      from front [] splits machine entries_are = absurd cc
      from front (e ∷ back) splits machine entries_are =
          looked (look family c unfit states follows site some within front e back splits)
        where
          same : traced e ≡ entry
          same = same_head (traced e) (traced_history back) entry rest entries_are

          judged_as : judge (traced_family family) states site (outlined (machine_after family site front))
              (told_of e.input) e.reply
              ≡ Steps to
          judged_as =
              ap (λ (l : TraceEntry). judge (traced_family family) states site
              (outlined (machine_after family site front)) l.told l.reply)
              same
              ∙ ap (λ (m : Machine). judge (traced_family family) states site m entry.told entry.reply) (sym machine)
              ∙ judged

          looked : Looked family states site front e
              → IsBehind family site (record { machine = to.machine; left = rest })
          looked (Blocked waits w) = absurd (waits_steps to (sym waits ∙ judged_as))
          looked (Ready steps) =
              let is : outlined_step (step (machine_after family site front) e.input) ≡ to =
              sym (same_steps (outlined_step (step (machine_after family site front) e.input)) to
              (sym steps ∙ judged_as)) in
              record {
                front = front ++ e ∷ [];
                back = back;
                splits = splits ∙ sym (append_assoc front (e ∷ []) back);
                machine_is =
                    ap (λ (t : Stepped). t.machine) (sym is)
                    ∙ ap outlined (sym (after_one_more (start site n) front e));
                left = sym (same_tail (traced e) (traced_history back) entry rest entries_are);
              }

  pub follows_goes : (new : States) → Goes (traced_family family) states new → Follows family new
  follows_goes new g site some within =
      subst (λ (z : States). IsBehind family site (z site)) (sym g.is) (at (nat_eq site g.site) refl)
    where
      at : (b : Bool) → nat_eq site g.site ≡ b
          → IsBehind family site (if b then record { machine = g.to.machine; left = g.rest } else states site)
      at false f = follows site some within
      at true f =
          subst (λ (s : ℕ). IsBehind family s (record { machine = g.to.machine; left = g.rest }))
          (sym (eqb-true site g.site f))
          (kept_at g.site g.some (let long : length (traced_family family) ≡ n = many family in
          let w : g.site ≤ length (traced_family family) = g.within in
          omega (arith, long, w)) g.entry g.rest g.to g.next g.judged)

-- ---- so it never stops

pub reached_follows : (family : Family) → IsConsistent family → (states : States)
    → Reaches (traced_family family) states
    → Follows family states
reached_follows family c _ Begun = follows_begin family
reached_follows family c _ (Then {old} {new} before_ g) =
    follows_goes family c old (reached_follows family c old before_) new g

pub never_stops : (family : Family) → IsConsistent family → (states : States) → Reaches (traced_family family) states
    → AllDone (traced_family family) states ⊎ Can family states
never_stops family c states r = goes_on family c states (reached_follows family c states r)
