-- Parts of leaves, down to a row.
use Rattle.std.proofs.Common.{◌≡◌, ◌+◌, ◌-◌, ◌/◌, ◌<◌, ℕ, suc, List, [], ◌∷◌, ◌++◌, false}
use Rattle.std.proofs.Common.{length, refl, sym, ap, ◌∙◌, subst, arith}
use Rattle.td_base.specs.declared.bit.Bit.TheVariants.{Left, Right}
use Rattle.td_path.specs.declared.slot.Slot.{Slot}
use Rattle.td_path.specs.declared.slot.Slot.TheVariants.{At}
use Rattle.td_doc.specs.Document.{is_empty_list}
use Rattle.td_list.specs.Items.{Item}
use Rattle.td_brackets.specs.Brackets.{Token, Leaf, move_all, slot_round, IsBrackets, rows_of, LeafIn}
use Rattle.td_brackets.proofs.Deeper.{RowTold, told_top, leaf_left, leaf_right}
use Rattle.td_tree.specs.Parts.{Parts, table, array_at, part, row_of_array, leaf_item}
use Rattle.td_tree.specs.Parts.{tokens_of, tokens, doc_rows, IsPart, IsTree}
use Rattle.td_tree.proofs.ArrayParts.{part_length, part_split}
use Rattle.td_tree.proofs.ItemTokens.{leaf_token, tokens-append}

module _ (p : Parts) (a from n : ℕ) (h : IsPart p a from n) where
  abbrev mid : ℕ
  mid = from + n / 2

  abbrev before : List ℕ
  before = part (array_at p a) from (n / 2)

  abbrev after : List ℕ
  after = part (array_at p a) (mid + 1) (n - n / 2 - 1)

  abbrev top : ℕ
  top = row_of_array p a mid

  suc_mid : suc mid ≡ mid + 1
  suc_mid = omega arith

  pub halves : part (array_at p a) from n ≡ before ++ top ∷ after
  halves =
      let some = h.some in
      part_split (array_at p a) from (n / 2) (n - n / 2 - 1) n mid (omega arith) refl h.within
      ∙ ap (λ (k : ℕ). before ++ top ∷ part (array_at p a) k (n - n / 2 - 1)) suc_mid

  half_long : length before ≡ n / 2
  half_long = let within = h.within in part_length (array_at p a) from (n / 2) (omega arith)

  pub half : length before ≡ length (before ++ top ∷ after) / 2
  half =
      let whole : length (part (array_at p a) from n) ≡ n = part_length (array_at p a) from n h.within in
      half_long ∙ ap (λ (k : ℕ). k / 2) (sym whole ∙ ap length halves)

  nonempty : (xs : List ℕ) → 0 < length xs → is_empty_list xs ≡ false
  nonempty [] l = absurd (omega arith)
  nonempty (x ∷ xs) l = refl

  module _ (round : Slot) (l : LeafIn (table p) (doc_rows p) (part (array_at p a) from n) round) where
    parted : LeafIn (table p) (doc_rows p) (before ++ top ∷ after) round
    parted = subst (λ (q : List ℕ). LeafIn (table p) (doc_rows p) q round) halves l

    pub told : RowTold (table p) (doc_rows p) top round before after
    told = told_top (table p) (doc_rows p) before top after round half parted

    pub into_left : 0 < n / 2 → LeafIn (table p) (doc_rows p) before (At (table p top).id Left)
    into_left s = leaf_left (table p) (doc_rows p) before top after round half parted
        (nonempty before (omega (arith, half_long)))

    pub into_right : 0 < n - n / 2 - 1 → LeafIn (table p) (doc_rows p) after (At (table p top).id Right)
    into_right s =
        let within = h.within in
        let some = h.some in
        let long = part_length (array_at p a) (mid + 1) (n - n / 2 - 1) (omega arith) in
        leaf_right (table p) (doc_rows p) before top after round half parted (nonempty after (omega arith))

  pub left_part : 0 < n / 2 → IsPart p a from (n / 2)
  left_part s = let within = h.within in record {
    array = h.array;
    some = s;
    within = omega arith;
    stand = λ k l m. h.stand k l (omega arith);
  }

  pub right_part : 0 < n - n / 2 - 1 → IsPart p a (mid + 1) (n - n / 2 - 1)
  right_part s = let within = h.within in record
      { array = h.array; some = s; within = omega arith; stand = λ k l m. h.stand k (omega arith) (omega arith) }

-- a leaf among the tokens
pub leaf_among : (p : Parts) → IsTree p → (a from n : ℕ) → IsPart p a from n → (front back : List Item) → p.items
    ≡ front ++ leaf_item p a from n ∷ back
    → LeafIn (table p) (doc_rows p) (part (array_at p a) from n)
    (slot_round (table p) (move_all [] (tokens_of p front)))
leaf_among p t a from n h front back e =
    let is : tokens p ≡ tokens_of p front ++ Leaf (part (array_at p a) from n) ∷ tokens_of p back =
    ap (tokens_of p) e ∙ tokens-append p front (leaf_item p a from n ∷ back)
    ∙ ap (λ (q : Token). tokens_of p front ++ q ∷ tokens_of p back) (leaf_token p a from n h) in
    record {
      front = tokens_of p front;
      back = tokens_of p back;
      brackets = subst (IsBrackets (table p)) is t.brackets;
      same = ap (rows_of (table p)) is;
      round_is = refl;
    }
