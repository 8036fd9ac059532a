use Rattle.std.proofs.Common.{◌≡◌, ◌≤◌, ◌+◌, ◌∙◌, ◌++◌, ℕ, List, length, get_or, ap, take, drop, sym, subst}
use Rattle.std.proofs.Common.{arith, ⊎_elim, append_assoc, length-append, take-append-drop}
use Rattle.td_list.specs.Items.{Item, weight_of, AreApart, IsItem}
use Rattle.td_list.specs.Places.{nothing, ArePlaces}
use Rattle.td_list.proofs.Names.{splice-apart, item-splice, item_at}
use Rattle.td_list.proofs.Weights.{weight-put}
use Rattle.td_list.proofs.Lines.{line_apart, found, front_same}
use Rattle.td_list.proofs.line.Line.put.Goals as goal
use Rattle.td_list.proofs.line.Line.put.Goals.{After-deref}

now_is : (c : After-deref) → c.deref.result.now ≡ take c.args.place c.self.inside.items.items ++ c.args.piece.now
    ++ drop c.args.place c.self.inside.items.items
now_is c = c.deref.ensures.value ∙ c.put_each.ensures
    ∙ ap (λ (q : List Item). take c.args.place q ++ c.args.piece.now ++ drop c.args.place q) c.reserve.ensures.items

pub note-requires-clause-apart : goal.note-requires-clause-apart
note-requires-clause-apart c =
    let items = c.self.inside.items.items in
    subst AreApart (sym (now_is (goal.at.note-requires-clause-apart c).After-deref))
    (splice-apart c.args.place items c.args.piece.now
    (line_apart items c.self.inside.places.items c.self.invariant.0.each) c.requires.apart
    (λ x i j. c.requires.new x i (subst (IsItem x) c.self.view_is j)))

pub note-requires-clause-within : goal.note-requires-clause-within
note-requires-clause-within c = λ k h.
    let items = c.self.inside.items.items in
    let now = now_is (goal.at.note-requires-clause-within c).After-deref in
    let x : ℕ = (get_or c.deref.result.now k nothing).name in
    ⊎_elim
    (λ (i : IsItem x items). (c.grow.ensures.old x
    (found items c.self.inside.places.items c.self.invariant.0.each x i).0).0)
    (λ (i : IsItem x c.args.piece.now). c.in_ok-grow.ensures.ok x i)
    (item-splice x c.args.place c.args.piece.now items (subst (IsItem x) now (item_at c.deref.result.now k h)))

pub note-requires-clause-noted : goal.note-requires-clause-noted
note-requires-clause-noted c = λ k l h.
    let items = c.self.inside.items.items in
    let place = c.args.place in
    let now = now_is (goal.at.note-requires-clause-noted c).After-deref in
    let long : place ≤ length items = let e = ap (λ (q : List Item). length q) c.self.view_is in
    omega (arith, c.requires.place) in
    let same : get_or c.deref.result.now k nothing ≡ get_or items k nothing =
    ap (λ (q : List Item). get_or q k nothing) (now
    ∙ append_assoc (take place items) c.args.piece.now (drop place items))
    ∙ front_same items (c.args.piece.now ++ drop place items) place k l long in
    let e = c.self.invariant.0.each k (omega arith) in
    ap (λ (i : Item). get_or c.grow.new.homes.items i.name 0) same
    ∙ (c.grow.ensures.old (get_or items k nothing).name e.0).1 ∙ e.1

pub invariant_of-self-2 : goal.invariant_of-self-2
invariant_of-self-2 c =
    let items = c.self.inside.items.items in
    let place = c.args.place in
    let piece = c.args.piece.now in
    let now : c.put_each.new.items.items ≡ take place items ++ piece ++ drop place items =
    c.put_each.ensures ∙ ap (λ (q : List Item). take place q ++ piece ++ drop place q) c.reserve.ensures.items in
    let put = ap weight_of now in
    let long = ap (λ (q : List Item). length q) now in
    let whole = weight-put place items piece in
    let heavy = ap weight_of c.self.view_is in (
      record {
        each = subst (λ (q : List Item). ArePlaces q c.note.new.places.items) c.deref.ensures.value c.note.ensures;
        few = let f = c.self.invariant.0.few in let e = long_put place items piece in
            omega (arith, c.if-len-piece.false, c.len.ensures, c.self.inside.items.ok.0);
        light = omega (arith, c.requires.light);
      },
      omega (arith, c.self.invariant.1, c.weight_of.ensures),
    )
  where
    long_put : (place : ℕ) (items piece : List Item) → length (take place items ++ piece ++ drop place items)
        ≡ length items + length piece
    long_put place items piece =
        let one = length-append (take place items ++ piece) (drop place items) in
        let two = length-append (take place items) piece in
        let three = sym (length-append (take place items) (drop place items))
        ∙ ap (λ (q : List Item). length q) (take-append-drop place items) in
        omega arith
