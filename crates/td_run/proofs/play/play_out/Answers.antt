use Rattle.std.proofs.Common.{Err, ap, refl, ◌∙◌, inl, inr}
use Rattle.td_run.specs.declared.play.Halt.{Halt}
use Rattle.td_run.proofs.play.play_out.Goals as goal

pub returns-in-Ok : goal.returns-in-Ok
returns-in-Ok g c =
    let p = c.in-Ok.ensures.put in
    (p.0, p.1, inl (inl (refl, p.2)))

pub returns-in-Err-Memory : goal.returns-in-Err-Memory
returns-in-Err-Memory g c =
    let p = c.in-Err-Memory.ensures.halted in
    (p.0, p.1, inr (refl, p.2))

pub returns-in-Err-Write : goal.returns-in-Err-Write
returns-in-Err-Write g c =
    let p = c.in-Err-Write.ensures.halted in
    let rose = c.put_output.ensures.failed (c.in-Err-Write.is ∙ ap (λ (h : Halt). Err h) c.in-Err-Write.field-0-is) in
    (p.0, p.1, inl (inr (refl, rose, p.2)))
