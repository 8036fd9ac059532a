use Rattle.std.proofs.Common.{◌≡◌, ◌∙◌, ◌/◌, ◌++◌, ℕ, List, rules, ap, sym, subst}
use Rattle.std.specs.Result.{OnOk}
use Rattle.td_brackets.specs.Brackets.{Leaf}
use Rattle.td_tree.specs.Parts.{table, token_of}
use Rattle.td_tree.proofs.Texts.{one_shown, leaf_known, leaf_lives}
use Rattle.td_tree.proofs.tokens.Tokens.push_item.Goals as goal

pub push_rows-requires-clause-known : goal.push_rows-requires-clause-known
push_rows-requires-clause-known c =
    let is : token_of c.args.self.now c.args.item ≡ Leaf c.part.result.now = search rules in
    leaf_known c.args.self.now c.requires.tree c.args.item c.requires.there c.part.result.now is

pub push_rows-requires-clause-live : goal.push_rows-requires-clause-live
push_rows-requires-clause-live c =
    let is : token_of c.args.self.now c.args.item ≡ Leaf c.part.result.now = search rules in
    leaf_lives c.args.self.now c.requires.tree c.args.item c.requires.there c.part.result.now is

pub returns-in-1-clause-ok : goal.returns-in-1-clause-ok
returns-in-1-clause-ok c =
    subst (λ (q : List ℕ). OnOk c.push_row.result (c.push_row.new.text ≡ c.args.text.now ++ q))
    (sym (one_shown c.args.self.now c.requires.tree c.args.item c.requires.there (sym c.weight.ensures ∙ c.in-1.is)
    ∙ ap (λ (n : ℕ). (table c.args.self.now (n / 3)).atom) (sym c.name.ensures))) c.push_row.ensures.ok
