use Rattle.std.proofs.Common.{ap, inl, inr, refl, subst}
use Rattle.td_path.specs.declared.slot.Slot.TheVariants.{At}
use Rattle.td_idle.specs.declared.walk.Walk.{Walk}
use Rattle.td_idle.specs.Walk.{IsAdded}
use Rattle.td_idle.proofs.top.pass.Goals as goal

pub returns-then-inside-gt0 : goal.returns-then-inside-gt0
returns-then-inside-gt0 g c =
    record {
      passed = ap (λ (w : Walk). w.passed) c.pass.ensures;
      side = inl (c.if-inside-gt0.true, ap (λ (w : Walk). w.inside) c.pass.ensures, refl);
    }

pub returns : goal.returns
returns g c =
    record {
      passed = ap (λ (w : Walk). w.passed) c.pass.ensures;
      side = inr (subst
          (λ next. IsAdded c.args.replica.now.machine next (At c.args.id c.args.bit) c.args.tops.now.items
          c.add_side.new.tops.items c.in_ok-walk.field-0)
          c.next.ensures
          (record { top = c.in_ok-walk.ensures.tops; many = c.in_ok-walk.ensures.rows }));
    }
