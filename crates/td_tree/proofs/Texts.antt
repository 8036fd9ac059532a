-- The text of rows, one after another.
use Rattle.std.proofs.Common.{◌≡◌, ◌≢◌, ◌+◌, ◌/◌, ◌<◌, ◌∙◌, ℕ, List, [], ◌∷◌, ◌++◌, if◌then◌else◌, length, take}
use Rattle.std.proofs.Common.{get_or, Option, Some, None, refl, sym, ap, subst, arith, append_assoc, length-append}
use Rattle.std.proofs.lemmas.List.{append-nil, take_more}
use Rattle.td_base.specs.Lists.{In}
use Rattle.td_base.specs.Value.{DotValue}
use Rattle.td_base.proofs.Lists.{In-map}
use Rattle.td_doc.specs.Document.{text_of, is_empty_list}
use Rattle.td_list.specs.Items.{Item, first_name}
use Rattle.td_list.specs.Places.{nothing}
use Rattle.td_brackets.specs.Brackets.{Token, Leaf, Entry}
use Rattle.td_brackets.specs.RowNumbers.{row_numbers_at, text_of_numbers}
use Rattle.td_brackets.proofs.Entries.{text_is}
use Rattle.td_tree.specs.Parts.{Parts, table, token_of, token_weight, tokens, doc_rows, IsTree}
use Rattle.td_tree.specs.Reading.{shown_at, shown}
use Rattle.td_tree.specs.Walks.{IsStretch}
use Rattle.td_tree.proofs.ItemKinds.{Kind, IsOpen, IsRow, IsLeaf, IsClose, kind_of, leaf_live}
use Rattle.td_tree.proofs.Shown.{shown-append, shown_more, shown_inside, shown_stays, entries}
use Rattle.td_tree.proofs.KnownWalks.{all_stretch}
use Rattle.td_tree.proofs.Walked.{Walked, ended}

pub text-append : (table : ℕ → Entry) (xs ys : List ℕ) → text_of_numbers table (xs ++ ys) ≡ text_of_numbers table xs
    ++ text_of_numbers table ys
text-append table [] ys = refl
text-append table (x ∷ xs) ys = ap (λ (q : List ℕ). (if is_empty_list (table x).deletes then (table x).atom else [])
    ++ q) (text-append table xs ys) ∙ sym (append_assoc
    (if is_empty_list (table x).deletes then (table x).atom else []) (text_of_numbers table xs)
    (text_of_numbers table ys))

-- a live row
pub text_live : (table : ℕ → Entry) (x : ℕ) → (table x).deletes ≡ [] → text_of_numbers table (x ∷ []) ≡ (table x).atom
text_live table x e = append-nil (if is_empty_list (table x).deletes then (table x).atom else [])
    ∙ ap (λ (ds : List DotValue). if is_empty_list ds then (table x).atom else []) e

-- the text of some rows more
pub text_more : (table : ℕ → Entry) (xs ys : List ℕ) (start text later : List ℕ) → text ≡ start
    ++ text_of_numbers table xs → later ≡ text ++ text_of_numbers table ys
    → later ≡ start ++ text_of_numbers table (xs ++ ys)
text_more table xs ys start text later e f =
    f ∙ ap (λ (q : List ℕ). q ++ text_of_numbers table ys) e
    ∙ append_assoc start (text_of_numbers table xs) (text_of_numbers table ys)
    ∙ ap (λ (q : List ℕ). start ++ q) (sym (text-append table xs ys))

pub more_rows : (table : ℕ → Entry) (rows : List ℕ) (k : ℕ) → k < length rows → (start text later : List ℕ) → text
    ≡ start ++ text_of_numbers table (take k rows)
    → later ≡ text ++ text_of_numbers table (get_or rows k 0 ∷ []) → later ≡ start
    ++ text_of_numbers table (take (k + 1) rows)
more_rows table rows k b start text later e f =
    text_more table (take k rows) (get_or rows k 0 ∷ []) start text later e f
    ∙ ap (λ (q : List ℕ). start ++ text_of_numbers table q) (sym (take_more rows k 0 b))

pub more_items : (p : Parts) (items : List Item) (k : ℕ) → k < length items → (start text later : List ℕ) → text
    ≡ start ++ text_of_numbers (table p) (shown p (take k items))
    → later ≡ text ++ text_of_numbers (table p) (shown_at p (get_or items k nothing)) → later ≡ start
    ++ text_of_numbers (table p) (shown p (take (k + 1) items))
more_items p items k b start text later e f =
    text_more (table p) (shown p (take k items)) (shown_at p (get_or items k nothing)) start text later e f
    ∙ ap (λ (q : List ℕ). start ++ text_of_numbers (table p) q) (sym (shown_more p items k b))

-- what an item shows that weighs as much as a row: the row that names it
pub one_shown : (p : Parts) → IsTree p → (i : Item) → In i p.items → i.weight ≡ 1
    → text_of_numbers (table p) (shown_at p i) ≡ (table p (i.name / 3)).atom
one_shown p t i m e = at (kind_of p t i m)
  where
    weighed : i.weight ≡ token_weight (table p) (token_of p i)
    weighed = (t.each i m).weighed

    live : (ds : List DotValue) → ◌≡◌ {A = ℕ} (if is_empty_list ds then 1 else 0) 1 → ds ≡ []
    live [] f = refl
    live (d ∷ ds) f = absurd (omega arith)

    alone : (before after : List ℕ) (r : ℕ) → length (before ++ r ∷ after) ≡ 1 → before ++ r ∷ after ≡ r ∷ []
    alone [] [] r f = refl
    alone [] (x ∷ after) r f = absurd (omega arith)
    alone (x ∷ before) after r f = let long = length-append before (r ∷ after) in absurd (omega arith)

    at : Kind p i → text_of_numbers (table p) (shown_at p i) ≡ (table p (i.name / 3)).atom
    at (IsOpen f g) = let none = sym e ∙ weighed ∙ ap (token_weight (table p)) g in absurd (omega arith)
    at (IsClose f g) = let none = sym e ∙ weighed ∙ ap (token_weight (table p)) g in absurd (omega arith)
    at (IsRow f h g) =
        ap (λ (u : Token). text_of_numbers (table p) (row_numbers_at u)) g
        ∙ text_live (table p) (i.name / 3) (live (table p (i.name / 3)).deletes
        (sym (ap (token_weight (table p)) g) ∙ sym weighed ∙ e))
    at (IsLeaf f h l) =
        ap (λ (u : Token). text_of_numbers (table p) (row_numbers_at u)) l.is
        ∙ ap (text_of_numbers (table p)) (alone l.before l.after (i.name / 3)
        (sym (ap (token_weight (table p)) l.is) ∙ sym weighed ∙ e))
        ∙ text_live (table p) (i.name / 3) (leaf_live p t i m (i.name / 3) l)

-- the rows of a leaf are rows, and live
module _ (p : Parts) (t : IsTree p) (i : Item) (m : In i p.items) (rs : List ℕ) (e : token_of p i ≡ Leaf rs) (r : ℕ)
    (n : In r rs) where
  pub leaf_known : r < length p.rows
  leaf_known = (shown_stays p t r (shown_inside p p.items i r m
      (subst (λ (u : Token). In r (row_numbers_at u)) (sym e) n))).0

  pub leaf_lives : (table p r).deletes ≡ []
  leaf_lives = t.brackets.live rs r (subst (λ (u : Token). In u (tokens p)) e (In-map (token_of p) i p.items m)) n

-- the items that follow on a walk
pub pushed : (p : Parts) (done items : List Item) (start text later : List ℕ) → text ≡ start
    ++ text_of_numbers (table p) (shown p done) → later ≡ text ++ text_of_numbers (table p) (shown p items)
    → later ≡ start ++ text_of_numbers (table p) (shown p (done ++ items))
pushed p done items start text later e f =
    text_more (table p) (shown p done) (shown p items) start text later e f
    ∙ ap (λ (q : List ℕ). start ++ text_of_numbers (table p) q) (sym (shown-append p done items))

pub some_none : (at : Option ℕ) (name : ℕ) → at ≡ Some name → at ≢ None
some_none at name e f = absurd (no (sym e ∙ f))
  where
    no : Some name ≡ None → ⊥
    no e = cc

module _ (p : Parts) (t : IsTree p) (first : Option ℕ) (begin : first ≡ first_name p.items) where
  abbrev pub s : IsStretch p first None
  s = all_stretch p first begin

  -- at the end of all items, all is pushed
  pub pushed_all : (start text : List ℕ) (at : Option ℕ) → at ≡ None
      → ((w : Walked p p.items [] at) × (text ≡ start ++ text_of_numbers (table p) (shown p w.done))) → text ≡ start
      ++ text_of (doc_rows p)
  pushed_all start text at e w =
      w.1 ∙ ap (λ (q : List ℕ). start ++ q) (ap (λ (q : List Item). text_of_numbers (table p) (shown p q))
      (sym (ended p t first None s at e w.0)) ∙ sym (text_is (table p) (shown p p.items) (doc_rows p)
      (entries p t)))
