-- Names are of the set of operations, and of the live atoms with their identities.
use Rattle.std.proofs.Common.{◌≡◌, ◌++◌, ◌∷◌, ◌==◌, ◌&&◌, ℕ, List, [], Bool, true, false, map, not, refl, sym}
use Rattle.std.proofs.Common.{ap, ◌∙◌, true≢false, if◌then◌else◌}
use Rattle.std.specs.List.{concat, list_any}
use Rattle.std.proofs.lemmas.Bool.{and_parts, and_from, eq-eqb, eqb-true, false_from_ne_true}
use Rattle.std.proofs.lemmas.List.{append_assoc}
use Rattle.std.proofs.lemmas.Simd.{map-map}
use Rattle.td_base.specs.Lists.{In}
use Rattle.td_base.specs.RunAtoms.{NamedAtom}
use Rattle.td_base.specs.Value.{AtomIdValue}
use Rattle.td_base.proofs.Elements.{both_tests}
use Rattle.td_base.proofs.Lists.{any_found, any_from}
use Rattle.td_doc.specs.Array.{named}
use Rattle.td_doc.specs.Document.{DocRow, IsDocument, live_rows, row_id, text_of}
use Rattle.td_doc.specs.Flatten.{flatten}
use Rattle.td_doc.proofs.Flattened.{flatten_keeps_live}
use Rattle.td_path.specs.declared.slot.Slot.{Slot}
use Rattle.td_marks.specs.Laws.{SameOps, DiffersFromFirst, NeighboursDiffer}
use Rattle.td_marks.specs.Mark.{MarkOpValue, adds, bits_below, has_name, names_of, removes}
use Rattle.td_marks.specs.Text.{joined, marked_atom, marked_atoms, marked_text, put_before}
use Rattle.td_marks.specs.declared.mark_op.TheConstants.{NAMES}
use Rattle.td_marks.specs.declared.piece.Piece.{Piece}

-- ---- sets of operations

any_of_set : (test : MarkOpValue → Bool) (ops others : List MarkOpValue) → SameOps ops others
    → list_any test ops ≡ list_any test others
any_of_set test ops others h =
    both_tests (list_any test ops) (list_any test others)
    (λ e. let f = any_found test ops e in any_from test others f.0 ((h f.0).0 f.1) f.2)
    (λ e. let f = any_found test others e in any_from test ops f.0 ((h f.0).1 f.1) f.2)

name_of_set : (ops others : List MarkOpValue) → SameOps ops others → (x : AtomIdValue) (m : ℕ)
    → has_name ops x m ≡ has_name others x m
name_of_set ops others h x m =
    ap (λ (test : MarkOpValue → Bool). list_any test ops)
    (λ i a. adds x m a && not (any_of_set (removes x m a.dot) ops others h i))
    ∙ any_of_set (λ (a : MarkOpValue). adds x m a && not (list_any (removes x m a.dot) others)) ops others h

pub names_of_set : (ops others : List MarkOpValue) → SameOps ops others → (x : AtomIdValue)
    → names_of ops x ≡ names_of others x
names_of_set ops others h x = ap (bits_below NAMES) (λ i m. name_of_set ops others h x m i)

pub text_of_set : (ops others : List MarkOpValue) → SameOps ops others → (rows : List DocRow)
    → marked_text ops rows ≡ marked_text others rows
text_of_set ops others h rows =
    λ i. joined (map (λ (r : DocRow). record { text = r.atom; names = names_of_set ops others h (row_id r) i })
    (live_rows rows))

-- ---- live atoms with their identities

abbrev marked_named : List MarkOpValue → NamedAtom → Piece
marked_named ops a = record { text = a.atom; names = names_of ops a.id }

pub text_of_named : (ops : List MarkOpValue) (rows more : List DocRow)
    → map named (live_rows rows) ≡ map named (live_rows more) → marked_text ops rows ≡ marked_text ops more
text_of_named ops rows more e =
    ap joined (sym (map-map (marked_named ops) named (live_rows rows))
    ∙ ap (map (marked_named ops)) e ∙ map-map (marked_named ops) named (live_rows more))

pub flatten_keeps_marks : (ops : List MarkOpValue) (rows : List DocRow) (slot : Slot) → IsDocument rows
    → marked_text ops (flatten slot rows) ≡ marked_text ops rows
flatten_keeps_marks ops rows slot d = text_of_named ops (flatten slot rows) rows (flatten_keeps_live rows slot d)

-- ---- adds win over what had not seen them

no_removal : (x : AtomIdValue) (m : ℕ) (a : MarkOpValue) (ops : List MarkOpValue)
    → ((r : MarkOpValue) → In r ops → removes x m a.dot r ≡ false) → list_any (removes x m a.dot) ops ≡ false
no_removal x m a ops h =
    false_from_ne_true (list_any (removes x m a.dot) ops) (λ (e : list_any (removes x m a.dot) ops ≡ true).
    let f = any_found (removes x m a.dot) ops e in
    true≢false (sym f.2 ∙ h f.0 f.1))

pub add_stays : (ops : List MarkOpValue) (x : AtomIdValue) (m : ℕ) (a : MarkOpValue) → In a ops → adds x m a ≡ true
    → ((r : MarkOpValue) → In r ops → removes x m a.dot r ≡ false) → has_name ops x m ≡ true
add_stays ops x m a i e none =
    any_from (λ (o : MarkOpValue). adds x m o && not (list_any (removes x m o.dot) ops)) ops a i
    (and_from (adds x m a) (not (list_any (removes x m a.dot) ops)) e (ap not (no_removal x m a ops none)))

pub removal_takes : (ops : List MarkOpValue) (x : AtomIdValue) (m : ℕ) (r : MarkOpValue) → In r ops
    → ((a : MarkOpValue) → In a ops → adds x m a ≡ true → removes x m a.dot r ≡ true) → has_name ops x m ≡ false
removal_takes ops x m r i h =
    false_from_ne_true (has_name ops x m) (λ (e : has_name ops x m ≡ true).
    let f = any_found (λ (o : MarkOpValue). adds x m o && not (list_any (removes x m o.dot) ops)) ops e in
    let p = and_parts (adds x m f.0) (not (list_any (removes x m f.0.dot) ops)) f.2 in
    let gone : list_any (removes x m f.0.dot) ops ≡ true = any_from (removes x m f.0.dot) ops r i (h f.0 f.1 p.0) in
    true≢false (sym p.1 ∙ ap not gone))

-- ---- pieces

before_text : (p : Piece) (pieces : List Piece)
    → concat (map (λ (q : Piece). q.text) (put_before p pieces))
    ≡ p.text ++ concat (map (λ (q : Piece). q.text) pieces)
before_text p [] = refl
before_text p (q ∷ pieces) = at (p.names == q.names)
  where
    at : (b : Bool)
        → concat (map (λ (q : Piece). q.text)
        (if b then record p { text = p.text ++ q.text } ∷ pieces else p ∷ q ∷ pieces))
        ≡ p.text ++ (q.text ++ concat (map (λ (q : Piece). q.text) pieces))
    at true = append_assoc p.text q.text (concat (map (λ (q : Piece). q.text) pieces))
    at false = refl

joined_text : (pieces : List Piece)
    → concat (map (λ (q : Piece). q.text) (joined pieces)) ≡ concat (map (λ (q : Piece). q.text) pieces)
joined_text [] = refl
joined_text (p ∷ pieces) =
    before_text p (joined pieces) ∙ ap (λ (t : List ℕ). p.text ++ t) (joined_text pieces)

pub pieces_text : (ops : List MarkOpValue) (rows : List DocRow)
    → concat (map (λ (p : Piece). p.text) (marked_text ops rows)) ≡ text_of rows
pieces_text ops rows =
    joined_text (marked_atoms ops rows)
    ∙ ap concat (map-map (λ (p : Piece). p.text) (marked_atom ops) (live_rows rows))

before_differs : (p : Piece) (pieces : List Piece) → NeighboursDiffer pieces → NeighboursDiffer (put_before p pieces)
before_differs p [] d = (tt, tt)
before_differs p (q ∷ pieces) d = at (p.names == q.names) refl
  where
    first : (pieces : List Piece) → p.names ≡ q.names → DiffersFromFirst q pieces
        → DiffersFromFirst (record p { text = p.text ++ q.text }) pieces
    first [] e other = tt
    first (r ∷ pieces) e other = λ (f : p.names ≡ r.names). other (sym e ∙ f)

    at : (b : Bool) → p.names == q.names ≡ b
        → NeighboursDiffer (if b then record p { text = p.text ++ q.text } ∷ pieces else p ∷ q ∷ pieces)
    at true e = (first pieces (eqb-true p.names q.names e) d.0, d.1)
    at false e =
        (λ (f : p.names ≡ q.names). true≢false (sym (eq-eqb p.names q.names f) ∙ e), d)

joined_differ : (pieces : List Piece) → NeighboursDiffer (joined pieces)
joined_differ [] = tt
joined_differ (p ∷ pieces) = before_differs p (joined pieces) (joined_differ pieces)

pub pieces_differ : (ops : List MarkOpValue) (rows : List DocRow) → NeighboursDiffer (marked_text ops rows)
pieces_differ ops rows = joined_differ (marked_atoms ops rows)
