-- What a write does to a disk.
use Rattle.std.proofs.Common.{◌≡◌, inl, inr, ℕ, ◌+◌, ◌≤◌, max, List, ◌++◌, length, take, drop, refl, sym, ◌∙◌}
use Rattle.std.proofs.Common.{ap, subst, arith, append_assoc, length-append, length-drop}
use Rattle.std.specs.Prelude.{Result, Ok, Err, OnOk, OnErr, ⊤}
use Rattle.std.proofs.lemmas.List.{take_at, drop_at, length-take-le}
use Rattle.td_disk.specs.Record.{RecordValue, device_of, noted}
use Rattle.td_disk.specs.Device.{overwritten, Torn, Follows}
use Rattle.td_disk.specs.Events.{Wrote, Device, Leaves, after, settled}

pub torn_same : (at n : ℕ) (file : List ℕ) → Torn at n file file
torn_same at n file = record { before = refl; behind = refl; no_shorter = omega arith; no_longer = omega arith }

module _ (file : List ℕ) (at : ℕ) (bytes : List ℕ) (within : at ≤ length file) where
  front : length (take at file) ≡ at
  front = length-take-le at file within

  ends : length (take at file ++ bytes) ≡ at + length bytes
  ends = length-append (take at file) bytes ∙ ap (λ (n : ℕ). n + length bytes) front

  pub long_overwritten : length (overwritten file at bytes) ≡ max (length file) (at + length bytes)
  long_overwritten =
      omega (
        arith,
        length-append (take at file ++ bytes) (drop (at + length bytes) file),
        ends,
        length-drop
            (at + length bytes) file,
      )

  pub torn_overwritten : Torn at (length bytes) file (overwritten file at bytes)
  torn_overwritten =
      record {
        before = ap (λ (l : List ℕ). take at l) (append_assoc (take at file) bytes (drop (at + length bytes) file))
            ∙ take_at (take at file) (bytes ++ drop (at + length bytes) file) at front;
        behind = drop_at (take at file ++ bytes) (drop (at + length bytes) file) (at + length bytes) ends;
        no_shorter = omega (arith, long_overwritten);
        no_longer = omega (arith, long_overwritten);
      }

-- a crash after a write leaves what it may have left before, torn in the range
wrote_follows : (d : Device) (at : ℕ) (bytes : List ℕ) → at ≤ length d.reads
    → Follows (Torn at (length bytes)) (Leaves d) (Leaves (after (Wrote at bytes) d))
wrote_follows d at bytes within c (inl is) = (
  d.reads,
  inl refl,
  subst
      (λ (f : List ℕ). Torn at (length bytes) d.reads f) (sym is) (torn_overwritten d.reads at bytes within),
)
wrote_follows d at bytes within c (inr torn) = (torn.0, inr torn.1, torn.2)

-- so it is whether the write was noted or not, of a record that is seen before and after
pub asked_follows : {E : Type 0} (asked : Result ⊤ E) (before old new after : RecordValue) (at : ℕ) (bytes : List ℕ)
    → old ≡ before → after ≡ new → at ≤ length (device_of before).reads
    → OnOk asked (new ≡ noted (Wrote at bytes) old) → OnErr asked (new ≡ old)
    → Follows (Torn at (length bytes)) (Leaves (device_of before)) (Leaves (device_of after))
asked_follows (Ok x) before old new after at bytes was is within ok err =
    subst (λ (r : RecordValue). Follows (Torn at (length bytes)) (Leaves (device_of before)) (Leaves (device_of r)))
    (sym (is ∙ ok ∙ ap (λ (r : RecordValue). noted (Wrote at bytes) r) was))
    (wrote_follows (device_of before) at bytes within)
asked_follows (Err x) before old new after at bytes was is within ok err =
    subst (λ (r : RecordValue). Follows (Torn at (length bytes)) (Leaves (device_of before)) (Leaves (device_of r)))
    (sym (is ∙ err ∙ was)) (λ c now. (c, now, torn_same at (length bytes) c))

pub settled_leaves : (first c : List ℕ) → Leaves (settled first) c → c ≡ first
settled_leaves first c (inl is) = is
settled_leaves first c (inr is) = is
