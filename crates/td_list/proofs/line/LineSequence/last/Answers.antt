use Rattle.std.proofs.Common.{◌≡◌, ◌-◌, ◌∙◌, ℕ, List, length, ap, arith, drop}
use Rattle.td_list.specs.Items.{Item, first_name}
use Rattle.td_list.proofs.Ends.{last_at}
use Rattle.td_list.proofs.line.LineSequence.last.Goals as goal

pub returns-else-is_empty : goal.returns-else-is_empty
returns-else-is_empty c =
    let long : c.len.result ≡ length c.args.self.now =
    omega (arith, c.len.ensures, c.self.inside.items.ok.0, ap (λ (q : List Item). length q) c.self.view_is) in
    let at : c.len.result - 1 ≡ length c.args.self.now - 1 = omega arith in
    c.name_at.ensures ∙ ap (λ (n : ℕ). first_name (drop n c.args.self.now)) at ∙ last_at c.args.self.now
