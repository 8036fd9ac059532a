use Rattle.test_room.proofs.Staging.{editor_on}
use Rattle.test_room.proofs.room.stage.Stage.ask.Goals as goal

pub invariant_of-self : goal.invariant_of-self
invariant_of-self g c =
    editor_on c.self.inside.workers.items c.self.inside.editors.items c.args.place c.index_mut-editor.result.now
    c.submit.new.self
    c.index_mut-editor.ensures.value c.submit.ensures.later c.self.invariant
