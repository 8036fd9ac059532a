-- CRC-32C, bit by bit: a register of 32 bits that takes in the bytes, and the remainder of a division by a polynomial.
use Rattle.std.specs.Prelude.{ℕ, zero, suc, ◌*◌, ◌/◌, ◌%◌, List, [], ◌∷◌, bit_xor}

-- of Castagnoli, with the coefficient of the highest power in the lowest bit
abbrev pub polynomial : ℕ
polynomial = 0x82F63B78

-- the register moves by a bit; where that is 1, the polynomial comes in
unfoldable pub moved : ℕ → ℕ
moved r = bit_xor (r / 2) (r % 2 * polynomial)

abbrev pub moved_by : ℕ → ℕ → ℕ
moved_by zero r = r
moved_by (suc n) r = moved_by n (moved r)

-- a byte comes in, and the register moves by its bits
abbrev pub after_byte : ℕ → ℕ → ℕ
after_byte r byte = moved_by 8 (bit_xor r byte)

abbrev pub after_bytes : ℕ → List ℕ → ℕ
after_bytes r [] = r
after_bytes r (byte ∷ bytes) = after_bytes (after_byte r byte) bytes

abbrev pub ones : ℕ
ones = 0xFFFF_FFFF

abbrev pub flipped : ℕ → ℕ
flipped r = bit_xor ones r

-- the check of bytes behind those that have this check
abbrev pub crc32c_behind : ℕ → List ℕ → ℕ
crc32c_behind crc bytes = flipped (after_bytes (flipped crc) bytes)

abbrev pub crc32c : List ℕ → ℕ
crc32c bytes = crc32c_behind 0 bytes
