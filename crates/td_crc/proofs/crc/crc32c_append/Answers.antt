use Rattle.std.proofs.Common.{ap, sym, ◌∙◌, ◌≡◌, ℕ, List, take, ◌++◌, ◌∷◌, [], ◌+◌, add-one, get_or}
use Rattle.std.proofs.lemmas.List.{take_all}
use Rattle.std.proofs.Math.Seq.{take-suc}
use Rattle.td_crc.specs.Crc.{after_byte, after_bytes, flipped}
use Rattle.td_crc.proofs.Moves.{passed}
use Rattle.td_crc.proofs.crc.crc32c_append.Goals as goal

pub loop-byte-preserved : goal.loop-byte-preserved
loop-byte-preserved c =
    let start : ℕ = flipped c.args.crc in
    let bytes : List ℕ = c.args.bytes.now in
    let i : ℕ = c.loop-byte.byte-index in
    let byte : ℕ = get_or bytes i 0 in
    let next : take (i + 1) bytes ≡ take i bytes ++ byte ∷ [] =
    ap (λ (k : ℕ). take k bytes) (add-one i) ∙ take-suc bytes i 0 c.loop-byte-test.true in
    c.with_byte-register.ensures ∙ ap (λ (r : ℕ). after_byte r byte) c.loop-byte.invariant
    ∙ sym (passed start (take i bytes) (byte ∷ []))
    ∙ ap (after_bytes start) (sym next)

pub returns : goal.returns
returns c =
    ap (flipped) (c.loop-byte.invariant ∙ ap (after_bytes (flipped c.args.crc)) (take_all _ _ c.loop-byte-test.false))
