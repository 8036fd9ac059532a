use Rattle.std.proofs.Common.{◌≡◌, ◌∙◌, refl, ap, sym, List, if◌then◌else◌, [], ◌∷◌, ◌++◌}
use Rattle.std.proofs.Common.{arith}
use Rattle.std.proofs.lemmas.Grind.{common_steps}
use Rattle.td_base.specs.Value.{AtomIdValue}
use Rattle.td_base.specs.Equality.{same_dot}
use Rattle.td_base.proofs.Lists.{any_none}
use Rattle.td_identities.specs.declared.numbers.Stray.{Stray}
use Rattle.td_identities.specs.Numbers.{NumbersValue, nth, with_run}
use Rattle.td_identities.specs.Identities.{number_of, insert_of, with_strays}
use Rattle.td_identities.proofs.Strays.{put_first, put_stray}
use Rattle.td_identities.proofs.identities.Identities.put.Goals as goal

pub returns-then-is_unused : goal.returns-then-is_unused
unfolding number_of
returns-then-is_unused c = λ x.
    let sites = c.args.self.now.sites.items in
    let strays = c.args.self.now.strays.items in
    let id = c.id.view_is in
    let free = c.if-is_unused.ensures in
    put_first sites c.set_insert.new.sites.items strays c.args.id c.new-numbers.result
    (sym (ap (λ (y : AtomIdValue). y.offset) id) ∙ c.if-id-eq0.true)
    (ap (λ (y : AtomIdValue). (insert_of sites y.dot).count) (sym id) ∙ free.rows refl)
    (λ s i. ap (λ (y : AtomIdValue). same_dot s.id.dot y.dot) (sym id)
    ∙ any_none (λ (t : Stray). same_dot t.id.dot c.id.inside.dot) strays s (free.strays refl) i)
    (λ d. c.set_insert.ensures d ∙ ap (λ (y : AtomIdValue). if same_dot y.dot d then c.new-numbers.result else
    insert_of sites d) id) x
    ∙ ap (λ (n : NumbersValue). with_run c.args.id n x (with_strays strays x (nth (insert_of sites x.dot) x.offset)))
    c.new-numbers.ensures

pub returns-else-id-eq0 : goal.returns-else-id-eq0
unfolding number_of
returns-else-id-eq0 c = λ x.
    let sites = c.args.self.now.sites.items in
    let strays = c.args.self.now.strays.items in
    let s : Stray = record { id = c.args.id; numbers = c.new-numbers.result } in
    let pushed : c.push.new.self.items ≡ strays ++ s ∷ [] =
    grind (arith, common_steps, c.push.ensures.items, c.unwrap.ensures) in
    ap (λ (l : List Stray). with_strays l x (nth (insert_of sites x.dot) x.offset)) pushed
    ∙ put_stray sites strays s x
    ∙ ap (λ (n : NumbersValue). with_run c.args.id n x (with_strays strays x (nth (insert_of sites x.dot) x.offset)))
    c.new-numbers.ensures
