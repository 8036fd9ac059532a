use Rattle.std.proofs.Common.{◌≡◌, List, length, map, sym, ap, ◌∙◌, subst, rules}
use Rattle.std.specs.List.{AllByRecursion}
use Rattle.td_live.specs.Desks.{DeskValue, IsDesk}
use Rattle.td_live.specs.Drafts.{book_of}
use Rattle.td_live.proofs.Drafts.{taking_none, taking_next, taking_last, taking_all}
use Rattle.td_live.proofs.ending.take_apart.Goals as goal

pub loop-desks-init : goal.loop-desks-init
loop-desks-init c =
    taking_none c.args.desks.items c.new-editors.result.items c.new-books.result.items (search rules) (search rules)

pub loop-desks-preserved : goal.loop-desks-preserved
loop-desks-preserved c =
    let n = c.take_next_apart.new in
    taking_next c.args.desks.items c.loop-desks.desks.items n.desks.items c.loop-desks.editors.items n.editors.items
    c.loop-desks.books.items n.books.items c.loop-desks.invariant c.in_ok-take_next_apart.ensures

pub returns-clause-editors : goal.returns-clause-editors
returns-clause-editors c =
    let none : length c.loop-desks.desks.items ≡ 0 = search rules in
    let t = taking_all c.args.desks.items c.loop-desks.editors.items c.loop-desks.books.items
    (taking_last c.args.desks.items c.loop-desks.desks.items c.loop-desks.editors.items c.loop-desks.books.items none
    c.loop-desks.invariant) in
    t.3 ∙ sym (ap (λ (l : List DeskValue). map (λ (d : DeskValue). d.editor) l) t.1)

pub returns-clause-books : goal.returns-clause-books
returns-clause-books c =
    let none : length c.loop-desks.desks.items ≡ 0 = search rules in
    let t = taking_all c.args.desks.items c.loop-desks.editors.items c.loop-desks.books.items
    (taking_last c.args.desks.items c.loop-desks.desks.items c.loop-desks.editors.items c.loop-desks.books.items none
    c.loop-desks.invariant) in
    t.4 ∙ sym (ap (λ (l : List DeskValue). map book_of l) t.1)

pub returns-clause-desks : goal.returns-clause-desks
returns-clause-desks c =
    let none : length c.loop-desks.desks.items ≡ 0 = search rules in
    let t = taking_all c.args.desks.items c.loop-desks.editors.items c.loop-desks.books.items
    (taking_last c.args.desks.items c.loop-desks.desks.items c.loop-desks.editors.items c.loop-desks.books.items none
    c.loop-desks.invariant) in
    subst (λ (l : List DeskValue). AllByRecursion IsDesk l) (sym t.1) t.2
