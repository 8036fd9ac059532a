use Rattle.std.proofs.Common.{◌∙◌, ap, sym, subst, arith}
use Rattle.std.proofs.lemmas.List.{get_or_default}
use Rattle.td_list.specs.Items.{IsItem, place_of}
use Rattle.td_list.proofs.Lines.{found}
use Rattle.td_list.proofs.Parted.{place_below}
use Rattle.td_list.proofs.line.Line.place.Goals as goal

pub index-requires : goal.index-requires
index-requires c =
    let l = c.self.inside in
    let f = found l.items.items l.places.items c.self.invariant.0.each c.args.name
    (subst (IsItem c.args.name) (sym c.self.view_is) c.requires) in
    omega (arith, f.0, l.places.ok.0)

pub returns-clause-value : goal.returns-clause-value
returns-clause-value c =
    let l = c.self.inside in
    let f = found l.items.items l.places.items c.self.invariant.0.each c.args.name
    (subst (IsItem c.args.name) (sym c.self.view_is) c.requires) in
    c.index.ensures ∙ get_or_default l.places.items c.args.name c.index.result.now 0 f.0 ∙ f.1
    ∙ ap (place_of c.args.name) c.self.view_is

pub returns-clause-bound : goal.returns-clause-bound
returns-clause-bound c =
    let b = place_below c.args.name c.args.self.now c.requires in
    let e = returns-clause-value c in
    omega arith
