use Rattle.std.proofs.Common.{◌≡◌, ◌∙◌, sym, ap, subst}
use Rattle.std.specs.Option.{option_to_list}
use Rattle.td_op.specs.declared.change.Change.{Change}
use Rattle.td_replica.specs.Replica.{ReplicaValue, after_step}
use Rattle.td_editor.specs.Screens.{IsInRange, hear_all}
use Rattle.td_editor.specs.Due.{MayTake}
use Rattle.td_editor.specs.Editors.{EditorValue, IsEditor}
use Rattle.td_editor.proofs.Shown.{goes_on, told_in_range}
use Rattle.td_editor.proofs.editor.Editor.step.Goals as goal

pub tell-requires-clause-range : goal.tell-requires-clause-range
tell-requires-clause-range g c =
    let e : EditorValue g.row.S-State.Denot =
    record { replica = c.self.inside.replica; screen = g.S.Screen.state c.self.inside.screen } in
    let told : c.last_change.result ≡ (after_step c.args.input.now c.self.inside.replica).change =
    c.last_change.ensures ∙ ap (λ (r : ReplicaValue). r.change) c.in_ok-reply.ensures.ok in
    λ (change : Change) is.
    subst (λ (s : g.row.S-State.Denot). IsInRange g.S.Screen.shows s change) (sym c.reserve.ensures.same)
    (told_in_range g.S.Screen.shows e c.args.input.now c.entries-entries.ensures.replica c.is_in_range.ensures
    c.self.invariant change (sym told ∙ is))

pub invariant_of-self-2 : goal.invariant_of-self-2
invariant_of-self-2 g c =
    let e : EditorValue g.row.S-State.Denot =
    record { replica = c.self.inside.replica; screen = g.S.Screen.state c.self.inside.screen } in
    let told : c.last_change.result ≡ (after_step c.args.input.now c.self.inside.replica).change =
    c.last_change.ensures ∙ ap (λ (r : ReplicaValue). r.change) c.in_ok-reply.ensures.ok in
    let replica : c.step_on.new.self ≡ after_step c.args.input.now c.self.inside.replica = c.in_ok-reply.ensures.ok in
    let heard : hear_all g.S.Screen.heard (option_to_list c.last_change.result) (g.S.Screen.state c.reserve.new.self)
    ≡ hear_all g.S.Screen.heard (option_to_list (after_step c.args.input.now c.self.inside.replica).change)
    (g.S.Screen.state c.self.inside.screen) =
    λ i. hear_all g.S.Screen.heard (option_to_list (told i)) (c.reserve.ensures.same i) in
    let screen : g.S.Screen.state c.tell.new.screen
    ≡ hear_all g.S.Screen.heard (option_to_list (after_step c.args.input.now c.self.inside.replica).change)
    (g.S.Screen.state c.self.inside.screen) =
    ◌∙◌ {b = hear_all g.S.Screen.heard (option_to_list c.last_change.result) (g.S.Screen.state c.reserve.new.self)}
    c.tell.ensures heard in
    let may : MayTake c.self.inside.replica.machine c.args.input.now =
    subst (λ (x : EditorValue g.row.S-State.Denot). MayTake x.replica.machine c.args.input.now) (sym c.self.view_is)
    c.requires in
    subst (λ (x : EditorValue g.row.S-State.Denot). IsEditor g.S.Screen.shows x)
    (λ i. record { replica = sym replica i; screen = sym screen i })
    (goes_on g.S.Screen.heard g.S.Screen.shows g.met.S.Screen.follows e c.args.input.now
    c.entries-entries.ensures.replica c.is_in_range.ensures may c.self.invariant)
