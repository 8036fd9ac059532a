use Rattle.std.proofs.Common.{◌≡◌, ◌++◌, ◌∷◌, [], sym, ap, subst}
use Rattle.std.specs.List.{AllByRecursion}
use Rattle.td_view.specs.Publishes.{again}
use Rattle.td_view.specs.Values.{ReaderValue, ToldValue}
use Rattle.td_room.proofs.Looks.{first_told, all_within}
use Rattle.td_room.proofs.looking.end_views.Goals as goal

pub see_all-requires : goal.see_all-requires
see_all-requires g c =
    let w = c.args.writer in
    let t : ToldValue = record { views = w.views; list = w.publishes ++ again w.shown 1 ∷ [] } in
    let e : c.index.result.now ≡ t = first_told c.in_ok-ended.tolds.items [] c.index.result.now t
    c.in_ok-ended.ensures c.index.ensures in
    subst (λ (x : ToldValue). AllByRecursion (λ (r : ReaderValue). r.views ≡ x.views) c.args.readers.items) (sym e)
    c.requires.views

pub returns : goal.returns
returns g c =
    let w = c.args.writer in
    let t : ToldValue = record { views = w.views; list = w.publishes ++ again w.shown 1 ∷ [] } in
    let e : c.index.result.now ≡ t = first_told c.in_ok-ended.tolds.items [] c.index.result.now t
    c.in_ok-ended.ensures c.index.ensures in
    all_within w.views w.publishes w.shown c.index.result.now.list c.args.readers.items
    (ap (λ (x : ToldValue). x.list) e) c.see_all.ensures
