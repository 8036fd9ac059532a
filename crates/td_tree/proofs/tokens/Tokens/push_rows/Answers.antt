use Rattle.std.proofs.Common.{◌∙◌, ◌++◌, ℕ, List, get_or, sym, ap}
use Rattle.td_tree.specs.Parts.{table}
use Rattle.td_tree.proofs.Gathered.{in_place}
use Rattle.td_tree.proofs.Texts.{text_live, more_rows}
use Rattle.td_tree.proofs.tokens.Tokens.push_rows.Goals as goal

pub push_row-requires : goal.push_row-requires
push_row-requires c = c.requires.known (get_or c.args.rows.now c.loop-row.row-index 0)
    (in_place c.args.rows.now 0 c.loop-row.row-index c.loop-row-test.true)

pub loop-row-preserved : goal.loop-row-preserved
loop-row-preserved c =
    let entries = table c.args.self.now in
    let rows = c.args.rows.now in
    let k = c.loop-row.row-index in
    let live = c.requires.live (get_or rows k 0) (in_place rows 0 k c.loop-row-test.true) in
    more_rows entries rows k c.loop-row-test.true c.args.text.now c.loop-row.text c.push_row.new.text
    c.loop-row.invariant
    (c.in_ok-push_row.ensures.ok ∙ ap (λ (q : List ℕ). c.loop-row.text ++ q)
    (sym (text_live entries (get_or rows k 0) live)))
