-- What is known of a site wherever a replay comes, as it is kept.
use Rattle.std.proofs.Common.{◌≡◌, ◌<◌, ◌≤◌, ◌-◌, List, [], ◌∷◌, ℕ, zero, suc, true, false, nat_eq, set, slice_get}
use Rattle.std.proofs.Common.{get_or, option_and_then, refl, arith, ◌+◌, Bool, nat_lt, nat_le, if◌then◌else◌, length}
use Rattle.std.proofs.Common.{Option, Some, None, sym, ap, ◌∙◌, subst}
use Rattle.std.specs.List.{find}
use Rattle.std.proofs.lemmas.Bool.{and_right, lt-leb, eqb-true, eqb-false, leb-true, leb-false}
use Rattle.std.proofs.lemmas.List.{get_or_default, get_or-set_same, get_or-set_other, length-set}
use Rattle.std.proofs.lemmas.Option.{slice_get_past}
use Rattle.std.specs.Prelude.{IfSome}
use Rattle.td_base.specs.Value.{DotValue}
use Rattle.td_op.specs.Op.{OpValue}
use Rattle.td_machine.specs.Machine.{Machine, start}
use Rattle.td_machine.specs.Ready.{is_dot_of}
use Rattle.td_law_replay.specs.Counting.{made_deps}
use Rattle.td_law_replay.specs.Judging.{SiteState, begin, made_op}
use Rattle.td_law_replay.specs.Traced.{site_entries, AreInRange}
use Rattle.td_seat.specs.declared.made.Made.{Made}
use Rattle.td_check.specs.ReplayParts.{IsReplayParts, IsOutlineAt}
use Rattle.td_check.specs.Seated.{AreSeated}
use Rattle.td_check.specs.Sites.{ReplayValue, histories_of, machine_of, done_of, states_of, IsReplaying}
use Rattle.td_check.specs.States.{state_in}
use Rattle.td_check.proofs.Ranges.{in_range}
use Rattle.td_check.proofs.States.{state_is}
use Rattle.td_check.proofs.Told.{made_fit, waits_as_told, site_there, size_there}

module _ (made : Made) (r : ReplayValue) (parts : IsReplayParts made r) where
  many : (site : ℕ) → site ≤ r.trace.sites → site ≤ length (histories_of r)
  many site within = subst (λ (n : ℕ). site ≤ n) (sym parts.trace.each_history) within

  pub ranges : AreInRange (histories_of r)
  ranges = in_range r.trace parts.trace parts.some

  module _ (site : ℕ) (some : 0 < site) (within : site ≤ r.trace.sites) where
    machine_there : (states_of r site).machine ≡ machine_of r site
    machine_there =
        ap (λ (s : SiteState). s.machine) (state_is (histories_of r) r.machines r.done site some (many site within))

    pub site_of : IsReplaying r → (machine_of r site).site ≡ site
    site_of reaches =
        ap (λ (m : Machine). m.site) (sym machine_there)
        ∙ site_there (histories_of r) ranges (states_of r) reaches site some (many site within)

    pub size_of : IsReplaying r → (machine_of r site).size ≡ length (histories_of r)
    size_of reaches =
        ap (λ (m : Machine). m.size) (sym machine_there)
        ∙ size_there (histories_of r) ranges (states_of r) reaches site some (many site within)

    pub outlines_of : IsReplaying r → (x : OpValue) → made_deps (histories_of r) x.dot ≡ Some x.deps
        → IsOutlineAt (machine_of r site) x
    outlines_of reaches x told =
        subst (λ (m : Machine). IsOutlineAt m x) machine_there
        (waits_as_told (histories_of r) ranges (states_of r) reaches site some (many site within) x told)

  -- a site past the last one made nothing
  none_past : (d : DotValue) → length (histories_of r) < d.site → made_op (states_of r) d ≡ None
  none_past d past =
      ap (λ (b : Bool). find (is_dot_of d) (at b).machine.log)
      (and_right (nat_lt 0 d.site) (nat_le d.site (length (histories_of r))) (lt-leb d.site (length
      (histories_of r)) past))
    where
      at : Bool → SiteState
      at b = if b then state_in (histories_of r) r.machines r.done d.site else begin (histories_of r) d.site

  pub made_fits : IsReplaying r → (d : DotValue) (found : Option OpValue) → 0 < d.site → found ≡ made_op (states_of r) d
      → IfSome found (λ (x : OpValue). (length x.deps ≡ length (histories_of r)) × (x.dot ≡ d)
      × (made_deps (histories_of r) x.dot ≡ Some x.deps))
  made_fits reaches d found some e =
      made_fit (histories_of r) ranges (states_of r) reaches d found some e (none_past d)

  -- the machines are those of the states
  pub seated : AreSeated r.trace.sites (states_of r) r.machines
  seated =
      record {
        each = parts.each_machine;
        machine = λ site some within.
            got r.machines (site - 1) (start site (length (histories_of r))) (omega
            (arith, some, within, parts.each_machine))
            ∙ ap Some (sym (machine_there site some within));
      }
    where
      got : {X : Type 0} (xs : List X) (k : ℕ) (d : X) → k < length xs → slice_get xs k ≡ Some (get_or xs k d)
      got [] k d less = absurd (omega (arith, less))
      got (x ∷ xs) zero d less = refl
      got (x ∷ xs) (suc k) d less = got xs k d (omega (arith, less))

  -- with other machines, of as many sites
  pub with_machines : (machines : List Machine) → length machines ≡ length r.machines
      → IsReplayParts made (record r { machines = machines })
  with_machines machines same =
      record {
        trace = parts.trace;
        some = parts.some;
        told = parts.told;
        each_machine = same ∙ parts.each_machine;
        each_done = parts.each_done;
        within = parts.within;
      }

  -- with one more entry done
  pub with_one_more : (site : ℕ) → 0 < site → site ≤ r.trace.sites
      → done_of r site < length (site_entries (histories_of r) site)
      → IsReplayParts made (record r { done = set r.done (site - 1) (done_of r site + 1) })
  with_one_more site some within left =
      record {
        trace = parts.trace;
        some = parts.some;
        told = parts.told;
        each_machine = parts.each_machine;
        each_done = length-set r.done (site - 1) (done_of r site + 1) ∙ parts.each_done;
        within = λ other there most. at other (nat_eq other site) refl there most;
      }
    where
      at : (other : ℕ) (b : Bool) → nat_eq other site ≡ b → 0 < other → other ≤ r.trace.sites
          → get_or (set r.done (site - 1) (done_of r site + 1)) (other - 1) 0
          ≤ length (site_entries (histories_of r) other)
      at other true f there most =
          let e : other ≡ site = eqb-true other site f in
          let now : get_or (set r.done (site - 1) (done_of r site + 1)) (site - 1) 0 ≡ done_of r site + 1 =
          get_or-set_same r.done (site - 1) (done_of r site + 1) 0 (omega (arith, some, within, parts.each_done)) in
          let low : get_or (set r.done (site - 1) (done_of r site + 1)) (site - 1) 0
          ≤ length (site_entries (histories_of r) site) = omega (arith, now, left) in
          subst (λ (k : ℕ). get_or (set r.done (site - 1) (done_of r site + 1)) (k - 1) 0
          ≤ length (site_entries (histories_of r) k)) (sym e) low
      at other false f there most =
          subst (λ (k : ℕ). k ≤ length (site_entries (histories_of r) other))
          (sym (get_or-set_other r.done (site - 1) (other - 1) (done_of r site + 1) 0
          (λ e. let apart = eqb-false other site f in let sum = e in apart (omega (arith, some, there, sum)))))
          (parts.within other there most)

  -- whatever stands where there is no machine
  pub machine_any : (site : ℕ) → site ≤ r.trace.sites → (d : Machine)
      → machine_of r site ≡ get_or r.machines (site - 1) d
  machine_any site within d =
      get_or_default r.machines (site - 1) (start site (length (histories_of r))) d
      (omega (arith, within, parts.some, parts.each_machine))

  -- the operation at the seat of its site
  pub found_is : (d : DotValue) → 0 < d.site
      → option_and_then (λ (m : Machine). find (is_dot_of d) m.log) (slice_get r.machines (d.site - 1))
      ≡ made_op (states_of r) d
  found_is d some = at (nat_le d.site r.trace.sites) refl
    where
      at : (b : Bool) → nat_le d.site r.trace.sites ≡ b
          → option_and_then (λ (m : Machine). find (is_dot_of d) m.log) (slice_get r.machines (d.site - 1))
          ≡ made_op (states_of r) d
      at true f =
          ap (λ (o : Option Machine). option_and_then (λ (m : Machine). find (is_dot_of d) m.log) o)
          (seated.machine d.site some (leb-true d.site r.trace.sites f))
      at false f =
          let past : r.trace.sites < d.site = leb-false d.site r.trace.sites f in
          ap (λ (o : Option Machine). option_and_then (λ (m : Machine). find (is_dot_of d) m.log) o)
          (slice_get_past r.machines (d.site - 1) (omega (arith, past, parts.each_machine)))
          ∙ sym (none_past d (omega (arith, past, parts.trace.each_history)))

  -- whatever stands where no number is
  pub done_any : (site : ℕ) → site ≤ r.trace.sites → (d : ℕ) → get_or r.done (site - 1) d ≡ done_of r site
  done_any site within d =
      get_or_default r.done (site - 1) d 0 (omega (arith, within, parts.some, parts.each_done))
