use Rattle.std.proofs.Common.{◌≡◌, length, Some, None, sym, ◌∙◌, arith, eqb-true}
use Rattle.std.proofs.lemmas.Str.Pattern.{strip_prefix_char}
use Rattle.td_script.proofs.Reading.{no_argument, empty_argument}
use Rattle.td_script.proofs.argument.argument.Goals.{in_default-via-in-Some+else-not-is_empty}
use Rattle.td_script.proofs.argument.argument.Goals.{in_default-via-in_default}
use Rattle.td_script.proofs.argument.argument.Goals as goal

pub returns-in_default : goal.returns-in_default
returns-in_default c =
    elim c.in_default.branch [
      | in_default-via-in-Some+else-not-is_empty w ↦
          let none : length w.in-Some.text.now ≡ 0 = eqb-true (length w.in-Some.text.now) 0
          (sym w.is_empty.ensures ∙ w.if-not-is_empty.false) in
          empty_argument c.args.rest.now w.in-Some.text.now
          (strip_prefix_char 32 c.args.rest.now (Some w.in-Some.text) w.in-Some.ensures.cases (omega arith))
          (omega arith)
      | in_default-via-in_default w ↦ no_argument c.args.rest.now
          (strip_prefix_char 32 c.args.rest.now None w.in_default.ensures.cases (omega arith))
    ]
