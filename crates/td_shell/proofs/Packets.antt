-- What is read of a packet is the message that it spells.
use Rattle.std.proofs.Common.{◌≡◌, ◌∷◌, ℕ, List, [], Option, Some, None, Result, Ok, Err, refl, ap, subst}
use Rattle.td_op.specs.declared.message.Message.{Message}
use Rattle.td_wire.specs.Reading.{message_at}
use Rattle.td_wire.specs.Spelling.{SpellsIn}
use Rattle.td_wire.proofs.Decoding.{spelled, whole_read}
use Rattle.td_shell.specs.Taking.{message_of, whole_message}

some_same : (x y : Message) → ◌≡◌ {A = Option Message} (Some x) (Some y) → x ≡ y
some_same x y e = cc

none_is_none : (x : Message) → ◌≡◌ {A = Option Message} None (Some x) → ⊥
none_is_none x e = cc

pub read : (m : Message) (bytes : List ℕ) → SpellsIn m bytes → message_of bytes ≡ Some m
read m bytes s = ap whole_message (whole_read bytes m s)

spelled_if : (m : Message) (bytes : List ℕ) (r : Result (Message × List ℕ) ℕ) → message_at bytes ≡ r
    → whole_message r ≡ Some m → SpellsIn m bytes
spelled_if m bytes (Ok (n, [])) is e =
    subst (λ (x : Message). SpellsIn x bytes) (some_same n m e) (spelled bytes n [] is refl)
spelled_if m bytes (Ok (n, b ∷ rest)) is e = absurd (none_is_none m e)
spelled_if m bytes (Err left) is e = absurd (none_is_none m e)

pub spelled_so : (m : Message) (bytes : List ℕ) → message_of bytes ≡ Some m → SpellsIn m bytes
spelled_so m bytes e = spelled_if m bytes (message_at bytes) refl e

-- bytes that spell nothing
pub none_read : (bytes : List ℕ) → ((m : Message) → SpellsIn m bytes → ⊥) → message_of bytes ≡ None
none_read bytes none = at (message_of bytes) refl
  where
    at : (o : Option Message) → message_of bytes ≡ o → message_of bytes ≡ None
    at None is = is
    at (Some m) is = absurd (none m (spelled_so m bytes is))
