-- Bytes in hex: two digits for each, in small letters.
use Rattle.std.specs.Prelude.{ℕ, List, [], ◌∷◌, Option, Some, None, Result, Ok, Err}
use Rattle.std.specs.Prelude.{◌+◌, ◌-◌, ◌*◌, ◌/◌, ◌%◌, nat_lt, if◌then◌else◌}
use Rattle.std.specs.Int.{is_in_range}
use Rattle.std.specs.List.{flat_map}
use Rattle.td_script.specs.declared.kind.Kind.{Kind}
use Rattle.td_script.specs.declared.kind.Kind.TheVariants as Fault

-- the digit of a value below 16
abbrev pub hex_digit : ℕ → ℕ
hex_digit value = if nat_lt value 10 then 0x30 + value else 0x57 + value

abbrev pub hex_of : List ℕ → List ℕ
hex_of bytes = flat_map (λ byte. hex_digit (byte / 16) ∷ hex_digit (byte % 16) ∷ []) bytes

-- the value of a digit
abbrev pub digit_of : ℕ → Option ℕ
digit_of digit =
    if is_in_range 0x30 0x39 digit then Some (digit - 0x30) else
    if is_in_range 0x61 0x66 digit then Some (digit - 0x57) else
    None

abbrev pub byte_of : Option ℕ → Option ℕ → Option ℕ
byte_of (Some high) (Some low) = Some (16 * high + low)
byte_of _ _ = None

abbrev pub onto_bytes : Option ℕ → Result (List ℕ) Kind → Result (List ℕ) Kind
onto_bytes (Some byte) (Ok bytes) = Ok (byte ∷ bytes)
onto_bytes (Some byte) (Err kind) = Err kind
onto_bytes None read = Err Fault.Number

-- the bytes that have these digits
abbrev pub bytes_of : List ℕ → Result (List ℕ) Kind
bytes_of [] = Ok []
bytes_of (_ ∷ []) = Err Fault.Number
bytes_of (high ∷ low ∷ digits) = onto_bytes (byte_of (digit_of high) (digit_of low)) (bytes_of digits)
