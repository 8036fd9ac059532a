use Rattle.test_room.proofs.Staging.{editor_on}
use Rattle.test_room.proofs.room.stage.Stage.answer.Goals as goal

pub invariant_of-self : goal.invariant_of-self
invariant_of-self g c =
    editor_on c.self.inside.workers.items c.self.inside.editors.items c.args.place c.index_mut-editor.result.now
    c.poll.new.self
    c.index_mut-editor.ensures.value c.poll.ensures.later c.self.invariant

pub invariant_of-self-2 : goal.invariant_of-self-2
invariant_of-self-2 g c =
    editor_on c.self.inside.workers.items c.self.inside.editors.items c.args.place c.index_mut-editor.result.now
    c.poll.new.self
    c.index_mut-editor.ensures.value c.poll.ensures.later c.self.invariant
