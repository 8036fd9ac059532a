use Rattle.std.proofs.Common.{◌≡◌, ◌∙◌, Result, Ok, Err, IfOk, OnErr, refl, sym, ap, subst}
use Rattle.td_op.specs.declared.message.Message.{Message}
use Rattle.td_editor.specs.declared.received.Received.TheVariants.{Stray}
use Rattle.td_editor.specs.Due.{IsDue}
use Rattle.td_editor.specs.Editors.{IsTaken, IsStopped, taking}
use Rattle.td_editor.proofs.editor.Editor.receive.Goals as goal

-- the message that was read, or m
abbrev read_or : {F : Type 0} → Message → Result Message F → Message
read_or m (Ok k) = k
read_or m (Err e) = m

pub returns-in-Ok-clause-took : goal.returns-in-Ok-clause-took
returns-in-Ok-clause-took g c m spelled =
    subst (λ (k : Message). IsDue c.args.self.now.replica.machine k
    → IfOk c.take.result (IsTaken g.S.Screen.heard k c.args.self.now c.take.new.self))
    (ap (read_or m) (sym c.in-Ok.is ∙ c.decode.ensures.only m spelled)) c.take.ensures.took

pub returns-in-Ok-clause-err : goal.returns-in-Ok-clause-err
returns-in-Ok-clause-err g c m spelled =
    subst (λ (k : Message). OnErr c.take.result
    (IsStopped g.S.Screen.heard (taking k c.args.self.now.replica.machine) c.args.self.now c.take.new.self))
    (ap (read_or m) (sym c.in-Ok.is ∙ c.decode.ensures.only m spelled)) c.take.ensures.err

pub returns-in-Ok-clause-stray : goal.returns-in-Ok-clause-stray
returns-in-Ok-clause-stray g c m spelled =
    subst (λ (k : Message). (IsDue c.args.self.now.replica.machine k → ⊥)
    → (c.take.result ≡ Ok Stray) × (c.take.new.self ≡ c.args.self.now))
    (ap (read_or m) (sym c.in-Ok.is ∙ c.decode.ensures.only m spelled)) c.take.ensures.stray

pub returns-in-Ok-clause-malformed : goal.returns-in-Ok-clause-malformed
returns-in-Ok-clause-malformed g c none = absurd (none c.in-Ok.message c.in-Ok.ensures.found)

pub returns-in-Err-clause-took : goal.returns-in-Err-clause-took
returns-in-Err-clause-took g c m spelled = absurd (c.in-Err.ensures.malformed m spelled)

pub returns-in-Err-clause-stray : goal.returns-in-Err-clause-stray
returns-in-Err-clause-stray g c m spelled = absurd (c.in-Err.ensures.malformed m spelled)

pub returns-in-Err-clause-malformed : goal.returns-in-Err-clause-malformed
returns-in-Err-clause-malformed g c none = (c.in-Err.fault, refl, c.in-Err.ensures.at, refl)
