-- Bytes that are read of their digits, a byte at a time.
use Rattle.std.proofs.Common.{◌≡◌, ◌≤◌, ◌-◌, ◌∷◌, ◌++◌, ℕ, List, [], Option, Some, Result, Ok, Err, length}
use Rattle.std.proofs.Common.{take, drop, refl, sym, ap, ◌∙◌, arith}
use Rattle.std.specs.Prelude.{slice_index_or}
use Rattle.std.proofs.lemmas.List.{append_assoc, take_all}
use Rattle.td_script.specs.declared.kind.Kind.{Kind}
use Rattle.td_script.specs.Hex.{bytes_of, byte_of, digit_of, onto_bytes}

-- the bytes that were read before, and those that are read behind them
abbrev pub behind_bytes : List ℕ → Result (List ℕ) Kind → Result (List ℕ) Kind
behind_bytes front (Ok bytes) = Ok (front ++ bytes)
behind_bytes front (Err kind) = Err kind

byte_then : (front : List ℕ) (byte : ℕ) (r : Result (List ℕ) Kind) → behind_bytes front (onto_bytes (Some byte) r)
    ≡ behind_bytes (front ++ byte ∷ []) r
byte_then front byte (Ok bytes) = ap Ok (sym (append_assoc front (byte ∷ []) bytes))
byte_then front byte (Err kind) = refl

-- a byte more
pub one_more : (word rest front next : List ℕ) (d e byte : ℕ) → 2 ≤ length rest
    → byte_of (digit_of (slice_index_or rest 0 d)) (digit_of (slice_index_or rest 1 e)) ≡ Some byte
    → next ≡ front ++ byte ∷ [] → bytes_of word ≡ behind_bytes front (bytes_of rest)
    → bytes_of word ≡ behind_bytes next (bytes_of (take (length rest - 2) (drop 2 rest)))
one_more word [] front next d e byte some is more so = absurd (omega arith)
one_more word (high ∷ []) front next d e byte some is more so = absurd (omega arith)
one_more word (high ∷ low ∷ rest) front next d e byte some is more so =
    let whole : take (length (high ∷ low ∷ rest) - 2) rest ≡ rest =
    take_all (length (high ∷ low ∷ rest) - 2) rest (omega arith) in
    so ∙ ap (λ (b : Option ℕ). behind_bytes front (onto_bytes b (bytes_of rest))) is
    ∙ byte_then front byte (bytes_of rest)
    ∙ (λ i. behind_bytes (sym more i) (bytes_of (sym whole i)))
