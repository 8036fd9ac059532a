use Rattle.std.proofs.Common.{◌≡◌, Some, sym, ap, ◌∙◌, option_map}
use Rattle.td_trace.specs.declared.log.Did.TheVariants.{Look}
use Rattle.td_reader.specs.Said.{did_of}
use Rattle.td_check.specs.Looks.{did_at}
use Rattle.td_check.proofs.LooksTold.{told_text, text_told}
use Rattle.td_check.proofs.looks.is_told.Goals as goal

pub returns-in-Some-Look : goal.returns-in-Some-Look
returns-in-Some-Look c =
    let s = c.in-Some-Look in
    let t = c.args.trace.now in
    let p = c.args.place in
    let is : Some (Look s.field-0-0 s.field-0-1 s.told) ≡ did_at t p.editor p.index =
    sym (ap (option_map did_of) (s.is ∙ ap Some s.field-0-is)) ∙ c.did.ensures in (
      (λ k. told_text t p s.field-0-0 s.field-0-1 s.told c.args.text.now is (c.is.ensures.0 k)),
      (λ k. c.is.ensures.1 (text_told t p s.field-0-0 s.field-0-1 s.told c.args.text.now is k)),
    )
