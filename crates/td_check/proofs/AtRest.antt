-- All is settled exactly where each site is at rest with the operations of the first.
use Rattle.std.proofs.Common.{◌≡◌, ◌+◌, ◌-◌, ◌<◌, ◌≤◌, ◌==◌, ◌↔◌, ℕ, List, length, true, Some, slice_get, nat_eq}
use Rattle.std.proofs.Common.{sym, ap, subst, ◌∙◌, arith}
use Rattle.std.proofs.lemmas.Bool.{and_parts, and_from, eqb-true, eq-eqb}
use Rattle.std.proofs.lemmas.Cmp.{nat_list_eq_equiv}
use Rattle.std.proofs.lemmas.Option.{same_Some, slice_get_within}
use Rattle.std.specs.Cmp.Lexicographic.{pointwise, same_text}
use Rattle.std.specs.List.{list_all}
use Rattle.td_base.specs.Lists.{In}
use Rattle.td_base.proofs.Elements.{In-slice_get}
use Rattle.td_base.proofs.Searches.{each_passes, all_pass}
use Rattle.td_base.proofs.Places.{place_of}
use Rattle.td_machine.specs.Machine.{Machine, undecided}
use Rattle.td_law_replay.specs.Judging.{States}
use Rattle.td_check.specs.AtRest.{is_at_rest}
use Rattle.td_check.specs.Findings.{AreSettledStates}
use Rattle.td_check.specs.Seated.{AreSeated}
use Rattle.td_reader.specs.Values.{TraceValue}

rests : (have : List ℕ) (m : Machine) → is_at_rest have m ≡ true → (m.have ≡ have) × (undecided m ≡ 0)
rests have m h =
    let parts = and_parts (pointwise nat_eq m.have have) (undecided m == 0) h in
    (same_text m.have have (sym parts.0), eqb-true (undecided m) 0 parts.1)

rest : (have : List ℕ) (m : Machine) → m.have ≡ have → undecided m ≡ 0 → is_at_rest have m ≡ true
rest have m e none =
    and_from (pointwise nat_eq m.have have) (undecided m == 0)
    (subst (λ (v : List ℕ). pointwise nat_eq m.have v ≡ true) e (nat_list_eq_equiv.refl m.have))
    (eq-eqb (undecided m) 0 none)

module _ (t : TraceValue) (last : States) (machines : List Machine) (first : Machine)
    (seated : AreSeated t.sites last machines) (each : length t.histories ≡ t.sites)
    (here : slice_get machines 0 ≡ Some first) where
  at_site : list_all (is_at_rest first.have) machines ≡ true → (site : ℕ) → 0 < site → site ≤ length t.histories
      → ((last site).machine.have ≡ first.have) × (undecided (last site).machine ≡ 0)
  at_site h site some within =
      rests first.have (last site).machine
      (each_passes (is_at_rest first.have) machines h (last site).machine
      (In-slice_get machines (site - 1) (last site).machine (seated.machine site some (omega arith))))

  settled : list_all (is_at_rest first.have) machines ≡ true → AreSettledStates t last
  settled h = record {
    vectors =
        λ r s some_r within_r some_s within_s. (at_site h r some_r within_r).0 ∙ sym (at_site h s some_s within_s).0;
    decided = λ site some within. (at_site h site some within).1;
  }

  -- the machine at a place is that of its site
  site_at : (k : ℕ) (m : Machine) → slice_get machines k ≡ Some m → (k + 1 ≤ t.sites) × (m ≡ (last (k + 1)).machine)
  site_at k m e =
      let within : k < length machines = slice_get_within machines k m e in
      let upto : k + 1 ≤ t.sites = omega (arith, seated.each) in
      let place : k + 1 - 1 ≡ k = omega arith in (
        upto,
        same_Some m (last (k + 1)).machine
            (sym e ∙ sym (ap (slice_get machines) place) ∙ seated.machine (k + 1) (omega arith) upto),
      )

  at_rest : AreSettledStates t last → list_all (is_at_rest first.have) machines ≡ true
  at_rest s =
      all_pass (is_at_rest first.have) machines
      (λ (m : Machine) (i : In m machines).
      let place = place_of machines m i in
      let k : ℕ = place.0 in
      let p = site_at k m place.1 in
      let q = site_at 0 first here in
      let within : k + 1 ≤ length t.histories = omega (arith, p.0) in
      let least : 0 + 1 ≤ length t.histories = omega (arith, q.0) in
      rest first.have m
      (ap (λ (n : Machine). n.have) p.1 ∙ s.vectors (k + 1) (0 + 1) (omega arith) within (omega arith) least
      ∙ sym (ap (λ (n : Machine). n.have) q.1))
      (ap undecided p.1 ∙ s.decided (k + 1) (omega arith) within))

  pub settled_at_rest : (list_all (is_at_rest first.have) machines ≡ true) ↔ AreSettledStates t last
  settled_at_rest = (settled, at_rest)
