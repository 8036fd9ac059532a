use Rattle.std.proofs.Common.{◌≤◌, List, length, sym, subst, arith, Some}
use Rattle.td_list.specs.Items.{Item, IsItem, AreApart}
use Rattle.td_list.specs.declared.gap.TheConstants.{MOST}
use Rattle.td_list.proofs.Halves.{found_there, found_place}
use Rattle.td_list.proofs.gap.GapBuffer.find.Goals as goal

pub returns-then-name-self-clause-none : goal.returns-then-name-self-clause-none
returns-then-name-self-clause-none c = λ i.
    let l : c.self.inside.least ≤ c.args.name = c.self.invariant.bound c.args.name
    (subst (IsItem c.args.name) (sym c.self.view_is) i) in
    omega arith

pub returns-in-Some-clause-there : goal.returns-in-Some-clause-there
returns-in-Some-clause-there c = found_there c.args.self.now c.args.name (Some c.in-Some.place) c.in-Some.ensures.some

pub returns-in-Some-clause-place : goal.returns-in-Some-clause-place
returns-in-Some-clause-place c = found_place c.args.self.now c.args.name
    (subst AreApart c.self.view_is c.self.invariant.apart) (Some c.in-Some.place) c.in-Some.ensures.some

pub returns-in-None-clause-there : goal.returns-in-None-clause-there
returns-in-None-clause-there c = found_there c.args.self.now c.args.name c.find_from-in-None.result
    c.find_from-in-None.ensures.some

pub returns-in-None-clause-place : goal.returns-in-None-clause-place
returns-in-None-clause-place c = found_place c.args.self.now c.args.name
    (subst AreApart c.self.view_is c.self.invariant.apart) c.find_from-in-None.result c.find_from-in-None.ensures.some

pub returns-then-name-self-clause-few : goal.returns-then-name-self-clause-few
returns-then-name-self-clause-few c = subst (λ (xs : List Item). length xs ≤ MOST) c.self.view_is c.self.invariant.few

pub returns-in-Some-clause-few : goal.returns-in-Some-clause-few
returns-in-Some-clause-few c = subst (λ (xs : List Item). length xs ≤ MOST) c.self.view_is c.self.invariant.few

pub returns-in-None-clause-few : goal.returns-in-None-clause-few
returns-in-None-clause-few c = subst (λ (xs : List Item). length xs ≤ MOST) c.self.view_is c.self.invariant.few
