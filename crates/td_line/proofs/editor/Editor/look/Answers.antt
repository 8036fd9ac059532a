use Rattle.std.proofs.Common.{refl}
use Rattle.std.specs.Fn.{FnOnceReturnsAt}
use Rattle.td_line.proofs.Editing.{looked_is, shown_is}
use Rattle.td_line.proofs.editor.Editor.look.Goals as goal

pub invariant_of-self : goal.invariant_of-self
invariant_of-self g c =
    let e = c.look.ensures in (
      looked_is _ c.look.result _ c.look.new.self _ c.self.invariant.0 refl refl e.none e.some e.later e.legal,
      c.self.invariant.1,
    )

pub returns-clause-shown : goal.returns-clause-shown
returns-clause-shown g c =
    let e = c.look.ensures in
    rw (← c.self.view_is)
    (shown_is (λ x answer. FnOnceReturnsAt g.F.FnOnce c.args.f x answer) c.look.result _ c.look.new.self.seen
    c.self.invariant.0 e.shown e.later e.legal)
