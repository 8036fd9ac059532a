use Rattle.std.proofs.Common.{◌∙◌, [], sym, ap, subst, Some}
use Rattle.std.proofs.lemmas.Option.{slice_get-get_or}
use Rattle.td_base.specs.Atom.{IsAtom}
use Rattle.td_rope.proofs.Pieces.{one_atom}
use Rattle.td_rope.proofs.chunk.ChunkPart.atom.Goals as goal

pub of-requires : goal.of-requires
of-requires c =
    let is = c.bytes_of.ensures.bytes ∙ one_atom c.args.self.now c.args.index c.requires in
    subst IsAtom (sym is) (c.bytes_of.ensures.each c.args.index [] c.requires)

pub returns : goal.returns
returns c =
    slice_get-get_or c.args.self.now c.args.index [] c.requires
    ∙ ap Some (sym (c.of.ensures ∙ c.bytes_of.ensures.bytes ∙ one_atom c.args.self.now c.args.index c.requires))
