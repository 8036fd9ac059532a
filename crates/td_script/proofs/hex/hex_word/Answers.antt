use Rattle.std.proofs.Common.{◌≡◌, ◌∷◌, ◌++◌, ◌∙◌, [], Some, sym, rules}
use Rattle.td_script.proofs.HexLaws.{one_more}
use Rattle.td_script.proofs.hex.hex_word.Goals as goal

pub loop-rest-preserved : goal.loop-rest-preserved
loop-rest-preserved c =
    let is : c.byte_of.result ≡ Some c.in_ok-byte.byte = search rules in
    let more : c.push.new.self ≡ c.loop-rest.bytes ++ c.in_ok-byte.byte ∷ [] = search rules in
    one_more c.args.word.now c.loop-rest.rest.now c.loop-rest.bytes c.push.new.self _ _ c.in_ok-byte.byte
    c.in-len2-up.len_at_least (sym c.byte_of.ensures ∙ is) more c.loop-rest.invariant
