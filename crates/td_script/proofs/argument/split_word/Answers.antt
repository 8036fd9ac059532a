use Rattle.std.proofs.Common.{arith}
use Rattle.std.proofs.lemmas.Str.Pattern.{find_char}
use Rattle.td_script.proofs.Cutting.{word_cut}
use Rattle.td_script.proofs.argument.split_word.Goals as goal

pub returns : goal.returns
returns c =
    rw (c.split_at.ensures.front, c.split_at.ensures.back, c.unwrap_or-end.ensures)
    (word_cut c.args.text.now c.find.result (find_char 32 c.args.text.now c.find.result c.find.ensures.cases
    (omega arith)))
