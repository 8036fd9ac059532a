-- How `PacketBytes` are kept, with a piece more.
use Rattle.std.proofs.Common.{◌≡◌, ◌≤◌, ◌+◌, ◌-◌, ◌++◌, ℕ, List, length, take, drop, replicate, sym, ap, ◌∙◌}
use Rattle.std.proofs.Common.{append_assoc, arith, length-append}
use Rattle.std.proofs.lemmas.List.{drop-replicate, drop_at}
use Rattle.td_base.specs.Padded.{IsPadded, padded_with_zeros, len_again}
use Rattle.td_base.proofs.Padding.{padded, front_again}
use Rattle.td_wire.specs.declared.length.TheConstants.{MAX_PACKET_LEN}

padded_parts : (bytes : List ℕ) → length bytes ≤ MAX_PACKET_LEN
    → IsPadded MAX_PACKET_LEN (length bytes) (padded_with_zeros MAX_PACKET_LEN bytes)
    × (take (length bytes) (padded_with_zeros MAX_PACKET_LEN bytes) ≡ bytes)
padded_parts bytes short = (padded MAX_PACKET_LEN bytes short, front_again MAX_PACKET_LEN bytes)

-- a piece, copied behind the bytes so far
pub extended : (len end : ℕ) (bytes piece copied : List ℕ) → IsPadded MAX_PACKET_LEN len bytes → copied ≡ piece
    → end ≡ len + length piece → end ≤ MAX_PACKET_LEN
    → IsPadded MAX_PACKET_LEN end (take len bytes ++ (copied ++ drop (end - len) (drop len bytes)))
    × (take end (take len bytes ++ (copied ++ drop (end - len) (drop len bytes))) ≡ take len bytes ++ piece)
extended len end bytes piece copied parts same end_is short =
    let front : List ℕ = take len bytes in
    let long : length front ≡ len = len_again MAX_PACKET_LEN len bytes parts in
    let behind : drop len bytes ≡ replicate (MAX_PACKET_LEN - length front) 0 = ap (drop len) parts.zeros
    ∙ drop_at front (replicate (MAX_PACKET_LEN - length front) 0) len long in
    let left : drop (end - len) (drop len bytes) ≡ replicate (MAX_PACKET_LEN - length front - (end - len)) 0 =
    ap (drop (end - len)) behind ∙ drop-replicate (end - len) (MAX_PACKET_LEN - length front) 0 in
    let size : length (front ++ piece) ≡ end = omega (arith, length-append front piece, long, end_is) in
    let count : MAX_PACKET_LEN - length front - (end - len) ≡ MAX_PACKET_LEN - length (front ++ piece) =
    omega (arith, size, long) in
    let array : front ++ (copied ++ drop (end - len) (drop len bytes))
    ≡ padded_with_zeros MAX_PACKET_LEN (front ++ piece) =
    ap (λ (ys : List ℕ). front ++ (copied ++ ys)) (left ∙ ap (λ (n : ℕ). replicate n 0) count)
    ∙ ap (λ (ys : List ℕ). front ++ (ys ++ replicate (MAX_PACKET_LEN - length (front ++ piece)) 0)) same
    ∙ sym (append_assoc front piece (replicate (MAX_PACKET_LEN - length (front ++ piece)) 0)) in
    let made = padded_parts (front ++ piece) (omega (arith, size, short)) in
    rw (array, ← size) made
