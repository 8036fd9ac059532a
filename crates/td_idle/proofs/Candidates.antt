-- What a candidate is.
use Rattle.std.proofs.Common.{◌≡◌, true, false, ◌&&◌, not}
use Rattle.std.proofs.lemmas.Bool.{and_parts, not-true}
use Rattle.td_path.specs.declared.slot.Slot.{Slot}
use Rattle.td_doc.specs.Slots.{is_empty_slot, is_known}
use Rattle.td_machine.specs.Machine.{Machine}
use Rattle.td_idle.specs.Stable.{stable}
use Rattle.td_idle.specs.Candidate.{is_held_over, is_candidate}

pub record IsFree (m : Machine) (slot : Slot) : Type 0 where
  pub some : is_empty_slot m.doc slot ≡ false
  pub known : is_known m.doc slot (stable m) ≡ true
  pub unheld : is_held_over m slot ≡ false

pub free : (m : Machine) (slot : Slot) → is_candidate m slot ≡ true → IsFree m slot
free m slot h =
    let a = and_parts (not (is_empty_slot m.doc slot) && is_known m.doc slot (stable m)) (not (is_held_over m slot)) h
    in
    let b = and_parts (not (is_empty_slot m.doc slot)) (is_known m.doc slot (stable m)) a.0 in
    record { some = not-true (is_empty_slot m.doc slot) b.0; known = b.1; unheld = not-true (is_held_over m slot) a.1 }
