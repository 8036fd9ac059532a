use Rattle.std.proofs.Common.{◌∙◌, ap, sym}
use Rattle.std.specs.List.{concat}
use Rattle.std.proofs.lemmas.Bool.Decides.{Decides-eqb}
use Rattle.std.proofs.lemmas.Slice.Eq.{slice_eq-Decides}
use Rattle.td_breaks.proofs.Atoms.{same_atoms}
use Rattle.td_breaks.proofs.verdict.are_same.Goals as goal

pub returns-then-eq : goal.returns-then-eq
returns-then-eq c =
    let lengths = slice_eq-Decides Decides-eqb c.lengths.result.now c.lengths-2.result.now c.eq.result c.eq.ensures in
    let bytes = slice_eq-Decides Decides-eqb c.bytes.result.now c.bytes-then-eq.result.now c.eq-then-eq.result
    c.eq-then-eq.ensures in (
      λ e. same_atoms c.args.a.now c.args.b.now (sym c.lengths.ensures ∙ lengths.0 c.if-eq.true ∙ c.lengths-2.ensures)
          (sym c.bytes.ensures ∙ bytes.0 e ∙ c.bytes-then-eq.ensures),
      λ e. bytes.1 (c.bytes.ensures ∙ ap concat e ∙ sym c.bytes-then-eq.ensures),
    )
