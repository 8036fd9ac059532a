use Rattle.std.proofs.Common.{◌≡◌, ◌∙◌, ◌&&◌, List, ℕ, Bool, Option, Some, arith, ap, subst, sym}
use Rattle.std.proofs.lemmas.Option.{same_Some}
use Rattle.std.specs.Prelude.{IfSome}
use Rattle.td_base.specs.Value.{AtomIdValue}
use Rattle.td_base.proofs.Elements.{some_of}
use Rattle.td_doc.specs.Allocation.{id_after}
use Rattle.td_doc.specs.Answers.{IsRow}
use Rattle.td_doc.specs.Document.{DocRow, find_row}
use Rattle.td_machine.specs.Machine.{Machine}
use Rattle.td_idle.specs.Certificate.{is_covered}
use Rattle.td_idle.proofs.Lists.{all_front}
use Rattle.td_doc.proofs.Walking.{comes, comes_to_a_row, goes_to_the_end}
use Rattle.td_idle.proofs.conditions.are_covered.Goals as goal

pub loop-preserved : goal.loop-preserved
loop-preserved g c =
    let m : Machine = c.args.replica.now.machine in
    let k : ℕ = c.loop.counter in
    let x : AtomIdValue = c.in-Some.id in
    let last : Option AtomIdValue = c.loop.last in
    let next : id_after m.doc last ≡ Some x =
    sym (c.after.ensures ∙ ap (λ (z : List DocRow). id_after z last) c.doc-in-loop.ensures) ∙ c.in-Some.is in
    let come = comes m.doc k x (id_after m.doc last) c.requires.document c.loop.invariant.at next in
    let row : IsRow m.doc x = comes_to_a_row m.doc last x next in
    let s = some_of (find_row x m.doc) row in
    let test : DocRow → Bool = is_covered m c.args.idle.now.tops.items c.args.idle.now.unknown.items in
    record {
      count = c.loop.invariant.count;
      row = λ (y : AtomIdValue) e. subst (IsRow m.doc) (same_Some x y e) row;
      at = come.goes_on;
      so_far = ap (λ (a : Bool). a && c.is_covered-all.result) c.loop.invariant.so_far
          ∙ all_front test m.doc k s.0 c.is_covered-all.result (sym come.found ∙ s.1)
          (subst (λ (o : Option DocRow). IfSome o (λ r. c.is_covered-all.result ≡ test r)) s.1
          c.is_covered-all.ensures);
    }

pub returns-in_default : goal.returns-in_default
returns-in_default g c =
    absurd (goes_to_the_end c.args.replica.now.machine.doc c.loop.counter c.after.result
    (omega (arith, c.loop.invariant.count))
    (c.after.ensures ∙ (ap (λ (z : List DocRow). id_after z c.loop.last) c.doc-in-loop.ensures ∙ c.loop.invariant.at))
    c.in_default.not-Some)
