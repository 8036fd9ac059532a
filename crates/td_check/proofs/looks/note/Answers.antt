use Rattle.std.proofs.Common.{rules, ◌≡◌, ◌++◌, ◌∷◌, [], List, ap, ◌∙◌, unwrap_or}
use Rattle.std.specs.BTreeMap.Entry.{map_with_value}
use Rattle.std.specs.BTreeMap.{get, is_at}
use Rattle.std.specs.Map.{lookup}
use Rattle.td_check.specs.Looks.{places_at, noted_at, listed, spot_cmp}
use Rattle.td_check.proofs.LooksNoted.{noted, stood}
use Rattle.td_check.specs.declared.looks.Place.{Place}
use Rattle.td_check.proofs.looks.note.Goals as goal

pub returns : goal.returns
returns c = λ q.
    let w = c.push.new.self in
    let n = map_with_value c.in_ok-due.field-0 w in
    let is : w.items ≡ places_at c.args.due.now c.args.spot ++ c.args.place ∷ [] =
    c.in_ok-push.ensures.items
    ∙ ap (λ (l : List Place). l ++ c.args.place ∷ [])
    (stood (get spot_cmp c.args.due.now c.args.spot) c.or_insert.result.now c.new.result
    (c.or_insert.ensures.value ∙ ap (λ o. unwrap_or o c.new.result) c.in_ok-due.ensures.value)
    c.new.ensures.items) in
    let u : listed (lookup (is_at (spot_cmp q)) n.entries)
    ≡ noted_at c.args.spot c.args.place q (places_at c.args.due.now q) =
    noted c.args.due.now n.entries c.args.spot q w c.args.place
    ((c.in_ok-due.ensures.update.0 w).0 q) is in
    search rules
