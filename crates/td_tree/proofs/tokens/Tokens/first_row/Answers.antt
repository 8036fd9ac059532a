use Rattle.std.proofs.Common.{◌≡◌, ◌∙◌, ◌++◌, drop, sym, ap, Some, ℕ}
use Rattle.td_list.specs.Items.{first_name, items_after}
use Rattle.td_brackets.specs.RowNumbers.{first_number}
use Rattle.td_tree.specs.Reading.{shown_at, shown}
use Rattle.td_tree.specs.Parts.{Parts}
use Rattle.td_tree.proofs.Orders.{first_follows}
use Rattle.td_tree.proofs.tokens.Tokens.first_row.Goals as goal

pub returns-in-Some-clause-id : goal.returns-in-Some-clause-id
returns-in-Some-clause-id c =
    let p = c.args.self.now in
    first_follows p c.requires (Some c.in-Some.name)
    (sym (c.in-Some.ensures ∙ ap (λ (q : Parts). first_name q.items) c.self.view_is)) c.row_from.result
    (λ name e i m f. c.row_from.ensures.row i m (f ∙ same name c.in-Some.name (sym e))
    ∙ ap (λ (x : ℕ). first_number (drop 0 (shown_at p i) ++ shown p (items_after x p.items)))
    (same c.in-Some.name name e))
    (λ e. absurd cc)
  where
    same : (a b : ℕ) → Some a ≡ Some b → a ≡ b
    same a b e = cc
