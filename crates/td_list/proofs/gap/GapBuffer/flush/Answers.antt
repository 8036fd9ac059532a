use Rattle.std.proofs.Common.{◌∙◌, List, sym, subst}
use Rattle.std.proofs.lemmas.List.{nil_from_length}
use Rattle.td_list.specs.Items.{Item, IsItem}
use Rattle.td_list.proofs.Halves.{put_none}
use Rattle.td_list.proofs.gap.GapBuffer.flush.Goals as goal

pub returns-then-len-eq0-clause-ok : goal.returns-then-len-eq0-clause-ok
returns-then-len-eq0-clause-ok g c =
    let items : List Item = g.S.Sequence.items c.args.list.now in
    sym (put_none c.args.at items c.args.self.now (nil_from_length c.args.self.now
    (sym c.len.ensures.value ∙ c.if-len-eq0.true)))

pub put_at-requires-clause-new : goal.put_at-requires-clause-new
put_at-requires-clause-new g c =
    let is = c.deref.ensures.value ∙ c.in_ok-close.ensures.ok ∙ c.self.view_is in
    λ x i j. c.requires.new x (subst (IsItem x) is i) j
