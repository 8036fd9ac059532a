use Rattle.std.proofs.Common.{arith}
use Rattle.td_base.proofs.RunPieces.{count_within}
use Rattle.td_live.proofs.ask.Ask.request.Goals as goal

pub made_atom-requires-in-PasteOn : goal.made_atom-requires-in-PasteOn
made_atom-requires-in-PasteOn c =
    omega (arith, c.len.ensures.len, count_within c.in-PasteOn.before c.len.ensures.run.each, c.len.ensures.run.short)
