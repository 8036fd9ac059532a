use Rattle.std.proofs.Common.{List, sym, ap, ◌∙◌, subst}
use Rattle.std.proofs.lemmas.List.{reverse-reverse}
use Rattle.std.specs.Prelude.{reverse}
use Rattle.td_base.specs.declared.bit.Bit.TheVariants.{Left, Right}
use Rattle.td_path.specs.declared.slot.Slot.{Slot}
use Rattle.td_machine.specs.Machine.{Machine}
use Rattle.td_idle.specs.Stable.{stable}
use Rattle.td_idle.specs.Walk.{along, IsListed, AreTops, AreTopsOn}
use Rattle.td_idle.proofs.UnknownRows.{listed_turned}
use Rattle.td_idle.proofs.Walked.{both_sides}
use Rattle.td_idle.proofs.top.tops.Goals as goal

pub returns-clause-unknown : goal.returns-clause-unknown
returns-clause-unknown g c =
    c.reverse-4.ensures.items ∙ (ap reverse c.reverse-2.ensures.items ∙ reverse-reverse c.args.unknown.now.items)

pub returns-clause-tops : goal.returns-clause-tops
returns-clause-tops g c = λ l.
    let m : Machine = c.args.replica.now.machine in
    let t : IsListed (stable m) (along Left m.doc) (reverse c.args.ids.now.items) (reverse c.args.unknown.now.items) =
    listed_turned (stable m) m.doc c.args.ids.now.items c.args.unknown.now.items l in
    let lefts : AreTopsOn m Left c.in_ok-tops.tops.items =
    c.in_ok-tops.ensures
    (record {
      all = c.deref.ensures.value ∙ (c.reverse.ensures.items ∙ t.all);
      some = c.deref-2.ensures.value ∙ (c.reverse-2.ensures.items ∙ t.some);
    }) in
    let rights : AreTopsOn m Right c.in_ok-tops_on.field-0.items =
    c.in_ok-tops_on.ensures
    (record {
      all = c.deref-3.ensures.value
          ∙ (c.reverse-3.ensures.items
          ∙ (ap reverse c.reverse.ensures.items ∙ (reverse-reverse c.args.ids.now.items ∙ l.all)));
      some = c.deref-4.ensures.value ∙ (returns-clause-unknown g c ∙ l.some);
    }) in
    subst (λ (ts : List Slot). AreTops m ts) (sym c.in_ok-append.ensures.items)
    (both_sides m c.in_ok-tops.tops.items c.in_ok-tops_on.field-0.items lefts rights)
