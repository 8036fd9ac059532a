use Rattle.std.proofs.Common.{arith}
use Rattle.td_reader.proofs.places.ReadTrace.line_of_text.Goals as goal

pub overflow_add-result : goal.overflow_add-result
overflow_add-result c =
    omega (arith, c.texts_begin.ensures.few c.args.site c.requires, c.from.ensures, c.number.ensures.value)
