use Rattle.std.proofs.Common.{◌≡◌, ◌∙◌, ◌++◌, ℕ, List, ap, arith}
use Rattle.std.specs.List.{flat_map, range_with_len}
use Rattle.td_marks.specs.declared.mark_op.TheConstants.{NAMES}
use Rattle.td_report.specs.Marks.{name_part}
use Rattle.td_report.proofs.Printing.{number_printed}
use Rattle.td_report.proofs.marks.push_all_names.Goals as goal

pub loop-name-preserved : goal.loop-name-preserved
loop-name-preserved c =
    c.in_ok-push_name.ensures
    ∙ ap (λ (front : List ℕ). front ++ name_part c.args.names c.loop-name.name) c.loop-name.invariant
    ∙ number_printed (name_part c.args.names) c.args.line.now c.loop-name.name

pub returns : goal.returns
returns c =
    let all : c.loop-name.name ≡ NAMES = omega (arith, c.loop-name.auto.name-end, c.loop-name-test.false) in
    c.loop-name.invariant
    ∙ ap (λ (n : ℕ). c.args.line.now ++ flat_map (name_part c.args.names) (range_with_len 0 n)) all
