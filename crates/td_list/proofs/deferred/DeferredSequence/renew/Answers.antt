use Rattle.std.proofs.Common.{◌∙◌, List, not, sym, ap}
use Rattle.td_list.specs.Items.{Item}
use Rattle.td_list.proofs.Marks.{same_marks}
use Rattle.td_list.proofs.Reweighed.{pending_again}
use Rattle.td_list.proofs.deferred.DeferredSequence.renew.Goals as goal

pub invariant_of-self : goal.invariant_of-self
invariant_of-self g c =
    let items : List Item = g.S.Sequence.items c.self.inside.list in
    let named = sym c.name.ensures ∙ c.if-name.true ∙ c.name-in-Some.ensures in
    let marked = sym c.marked.ensures ∙ same_marks c.marked.result c.marked-then-name.result (ap not c.if-marked.true)
    ∙ c.marked-then-name.ensures in
    (pending_again c.self.inside.pending c.in-Some.pending items c.args.self.now c.in-Some.is c.self.invariant
    c.self.view_is c.args.item
    named marked c.requires.light).0

pub returns-then-marked : goal.returns-then-marked
returns-then-marked g c =
    let items : List Item = g.S.Sequence.items c.self.inside.list in
    let named = sym c.name.ensures ∙ c.if-name.true ∙ c.name-in-Some.ensures in
    let marked = sym c.marked.ensures ∙ same_marks c.marked.result c.marked-then-name.result (ap not c.if-marked.true)
    ∙ c.marked-then-name.ensures in
    (pending_again c.self.inside.pending c.in-Some.pending items c.args.self.now c.in-Some.is c.self.invariant
    c.self.view_is c.args.item
    named marked c.requires.light).1
