use Rattle.std.proofs.Common.{rules, ◌≡◌, ◌∷◌, ◌++◌, [], ℕ, List, ap, ◌∙◌, sym, subst, unwrap_or, inl, refl}
use Rattle.std.specs.BTreeMap.Entry.{map_with_value}
use Rattle.std.specs.BTreeMap.{get, is_at}
use Rattle.std.specs.Map.{lookup}
use Rattle.td_base.specs.Lists.{In}
use Rattle.td_base.specs.Order.{id_cmp}
use Rattle.td_base.specs.Value.{AtomIdValue}
use Rattle.td_base.proofs.Lists.{In-front, In-back}
use Rattle.td_marks.specs.Index.{listed, numbers_at}
use Rattle.td_marks.proofs.Listed.{stood, stays_listed, is_listed}
use Rattle.td_marks.proofs.index.Index.add.Goals as goal

pub returns-in_err-push-clause-kept : goal.returns-in_err-push-clause-kept
returns-in_err-push-clause-kept c = λ x k i.
    let w = c.push.new.self in
    let n = map_with_value c.in_ok-self.field-0 w in
    let same : w.items ≡ numbers_at c.args.self.now c.args.id =
    c.in_err-push.ensures.items
    ∙ stood (get id_cmp c.args.self.now.lists c.args.id) c.or_insert-numbers.result.now c.new.result
    (c.or_insert-numbers.ensures.value ∙ ap (λ o. unwrap_or o c.new.result) c.in_ok-self.ensures.value)
    c.new.ensures.items in
    let u : In k (listed (lookup (is_at (id_cmp x)) n.entries)) =
    stays_listed x c.args.id (get id_cmp c.args.self.now.lists x) (lookup (is_at (id_cmp x)) n.entries) w k
    ((c.in_ok-self.ensures.update.0 w).0 x)
    (λ e j. subst (In k) (ap (numbers_at c.args.self.now) (sym e) ∙ sym same) j) i in
    search rules

pub returns-clause-kept : goal.returns-clause-kept
returns-clause-kept c = λ x k i.
    let w = c.push.new.self in
    let n = map_with_value c.in_ok-self.field-0 w in
    let same : w.items ≡ numbers_at c.args.self.now c.args.id ++ c.args.number ∷ [] =
    c.in_ok-push.ensures.items
    ∙ ap (λ (l : List ℕ). l ++ c.args.number ∷ [])
    (stood (get id_cmp c.args.self.now.lists c.args.id) c.or_insert-numbers.result.now c.new.result
    (c.or_insert-numbers.ensures.value ∙ ap (λ o. unwrap_or o c.new.result) c.in_ok-self.ensures.value)
    c.new.ensures.items) in
    let u : In k (listed (lookup (is_at (id_cmp x)) n.entries)) =
    stays_listed x c.args.id (get id_cmp c.args.self.now.lists x) (lookup (is_at (id_cmp x)) n.entries) w k
    ((c.in_ok-self.ensures.update.0 w).0 x)
    (λ e j. subst (In k) (sym same)
    (In-front k (numbers_at c.args.self.now c.args.id) (c.args.number ∷ [])
    (subst (In k) (ap (numbers_at c.args.self.now) (sym e)) j))) i in
    search rules

pub returns-clause-listed : goal.returns-clause-listed
returns-clause-listed c =
    let x : AtomIdValue = c.args.id in
    let k : ℕ = c.args.number in
    let w = c.push.new.self in
    let n = map_with_value c.in_ok-self.field-0 w in
    let there : In k w.items =
    subst (In k) (sym c.in_ok-push.ensures.items)
    (In-back k c.or_insert-numbers.result.now.items (k ∷ []) (inl refl)) in
    let u : In k (listed (lookup (is_at (id_cmp x)) n.entries)) =
    is_listed x (get id_cmp c.args.self.now.lists x) (lookup (is_at (id_cmp x)) n.entries) w k
    ((c.in_ok-self.ensures.update.0 w).0 x) there in
    search rules
