-- Why the vote on a candidate is No.
use Rattle.std.proofs.Common.{◌≡◌, ◌⊎◌, ℕ, List, Bool, true, false, ◌&&◌, ◌||◌, not}
use Rattle.std.proofs.Common.{refl, ap, ◌∙◌, inl, inr, true≢false}
use Rattle.std.proofs.lemmas.Bool.{or_parts}
use Rattle.std.specs.List.{list_all}
use Rattle.td_base.specs.Lists.{In}
use Rattle.td_base.specs.Value.{DotValue}
use Rattle.td_clock.specs.Vector.{vector_has}
use Rattle.td_path.specs.declared.slot.Slot.{Slot}
use Rattle.td_doc.specs.Answers.{is_rooted}
use Rattle.td_doc.specs.Document.{DocRow, row_id}
use Rattle.td_doc.specs.Slots.{rows_in_slot, is_known, is_known_row}
use Rattle.td_machine.specs.History.{Family, Moment, IsConsistent, machine_at}
use Rattle.td_machine.specs.Log.{Committed, commits}
use Rattle.td_machine.specs.Machine.{Machine}
use Rattle.td_machine.specs.Vote.{is_apart, votes_yes}
use Rattle.td_idle.specs.Against.{IsLateEdit, IsUnseenCommit, IsAgainst}
use Rattle.td_idle.specs.Candidate.{is_held_over, is_candidate}
use Rattle.td_idle.proofs.Lists.{one_fails}
use Rattle.td_idle.proofs.StillToCome.{knows_candidates}

-- a row of which the vector does not have all has a dot that it does not have
pub missing_dot : (v : List ℕ) (r : DocRow) → is_known_row v r ≡ false → (d : DotValue)
    × ((d ≡ (row_id r).dot) ⊎ In d r.deletes) × (vector_has v d ≡ false)
missing_dot v r h = at (vector_has v (row_id r).dot) refl h
  where
    at : (b : Bool) → vector_has v (row_id r).dot ≡ b → (b && list_all (vector_has v) r.deletes) ≡ false
        → (d : DotValue) × ((d ≡ (row_id r).dot) ⊎ In d r.deletes) × (vector_has v d ≡ false)
    at false e k = ((row_id r).dot, inl refl, e)
    at true e k = let f = one_fails (vector_has v) r.deletes k in (f.0, inr f.1, f.2)

module _ (family : Family) (c : IsConsistent family) (t u : Moment family) (slot : Slot)
    (good : is_candidate (machine_at family t) slot ≡ true) where
  abbrev there : Machine
  there = machine_at family u

  abbrev v : List ℕ
  v = (machine_at family t).have

  edited : is_known there.doc slot v ≡ false → (d : DotValue) × IsLateEdit family t u slot d
  edited h =
      let r = one_fails (is_known_row v) (rows_in_slot there.doc slot) h in
      let m = missing_dot v r.0 r.2 in (
        m.0,
        record {
          done = record { row = r.0; inside = r.1; done = m.1 };
          late = m.2;
          knew = λ e o is. knows_candidates family c t slot good e o (ap (vector_has v) is ∙ m.2);
        },
      )

  unseen : list_all (λ (k : Committed). vector_has v k.dot || is_apart there.doc slot k) (commits there.log) ≡ false
      → (k : Committed) × IsUnseenCommit there slot v k
  unseen h =
      let k = one_fails (λ (k : Committed). vector_has v k.dot || is_apart there.doc slot k) (commits there.log) h in
      let p = or_parts (vector_has v k.0.dot) (is_apart there.doc slot k.0) k.2 in
      (k.0, record { inside = k.1; unseen = p.0; near = p.1 })

  pub against : votes_yes there.doc there.holds (commits there.log) slot v ≡ false → IsAgainst family t u slot
  against h =
      at (is_rooted there.doc slot) (is_known there.doc slot v) (is_held_over there slot)
      (list_all (λ (k : Committed). vector_has v k.dot || is_apart there.doc slot k) (commits there.log)) refl refl
      refl refl h
    where
      at : (a b d e : Bool) → is_rooted there.doc slot ≡ a → is_known there.doc slot v ≡ b → is_held_over there slot ≡ d
          → list_all (λ (k : Committed). vector_has v k.dot || is_apart there.doc slot k) (commits there.log) ≡ e
          → (a && b && not d && e) ≡ false → IsAgainst family t u slot
      at false b d e p q r s n = inr (inr (inl p))
      at true false d e p q r s n = inl (edited q)
      at true true true e p q r s n = inr (inl r)
      at true true false false p q r s n = inr (inr (inr (unseen s)))
      at true true false true p q r s n = absurd (true≢false n)
