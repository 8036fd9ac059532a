use Rattle.std.proofs.Common.{arith, ◌+◌, subst, sym}
use Rattle.td_gen.specs.Growth.{AreWithin}
use Rattle.td_gen.specs.declared.generator.TheConstants.{MAX_SIZE}
use Rattle.td_gen.specs.declared.progress.Progress.{Progress}
use Rattle.td_gen.proofs.Growing.{edits_within, more_edits}
use Rattle.td_gen.proofs.progress.Progress.turn.Goals as goal

pub settle-requires : goal.settle-requires
settle-requires c =
    let p : Progress = c.args.self.now in
    let edited_within = edits_within c.args.done p c.requires.within in
    let now = rw c.in_ok-edit.was at c.edit.ensures in
    subst (λ (q : Progress). AreWithin MAX_SIZE q.least) (sym now)
    (more_edits (c.args.done + 1) MAX_SIZE _ (omega (arith, c.requires.few)) edited_within)
