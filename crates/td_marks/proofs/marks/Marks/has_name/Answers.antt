use Rattle.std.proofs.Common.{rules, tests, ◌≡◌, ◌∙◌, ◌&&◌, not, ℕ, Bool, List, subst}
use Rattle.std.specs.Prelude.{slice_get}
use Rattle.std.specs.List.{list_any}
use Rattle.std.proofs.lemmas.Iterator.{YieldsList-from_slice}
use Rattle.std.proofs.lemmas.Iterator.Search.{any_from_yields_List}
use Rattle.td_clock.specs.Vector.{vector_has}
use Rattle.td_marks.specs.Index.{passes}
use Rattle.td_marks.specs.Mark.{MarkOpValue, adds}
use Rattle.td_marks.specs.Marks.{IsInTurn, MarksValue}
use Rattle.td_marks.proofs.Names.{named_by}
use Rattle.td_marks.proofs.marks.Marks.has_name.Goals as goal

pub returns : goal.returns
returns c =
    let ops : List MarkOpValue = c.args.self.now.ops in
    let removed : List ℕ = c.removed-removed.result in
    let stands : ℕ → Bool = λ (k : ℕ).
    passes (λ (a : MarkOpValue). adds c.args.id c.args.name a && not (vector_has removed a.dot)) (slice_get ops k) in
    let ran : c.any.result ≡ list_any stands c.args.numbers.now =
    any_from_yields_List stands c.any.new.self _ c.any.result c.any.ensures.ran
    (YieldsList-from_slice c.args.numbers.now cc) (λ x b q k. search (rules, tests)) in
    ran
    ∙ named_by ops c.args.numbers.now removed c.args.id c.args.name
    (subst (λ (m : MarksValue). IsInTurn m.ops) c.self.view_is c.self.invariant.marks.turn) c.requires
    c.removed-removed.ensures
