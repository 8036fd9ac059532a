-- The tokens parted by those of a row.
use Rattle.std.proofs.Common.{ℕ, List, [], ◌∷◌, ◌++◌, sym, ap, ◌∙◌, subst, ⊎_elim, ◌≡◌}
use Rattle.td_base.specs.declared.bit.Bit.TheVariants.{Right}
use Rattle.td_base.specs.Lists.{In}
use Rattle.td_doc.specs.Allocation.{first_id}
use Rattle.td_brackets.specs.Brackets.{Token, Open, Close, Entry, Level, move_all, IsBrackets}
use Rattle.td_brackets.specs.Laws.{Sides}
use Rattle.td_brackets.proofs.Words.{Node, node, word_moves}
use Rattle.td_brackets.proofs.NodeRows.{rows_then, left_slot, right_slot, follows, first_is}
use Rattle.td_brackets.proofs.Flattens.{flatten_right, flatten_left}

-- a list split at one of its elements
pub record SplitAt (t : Token) (tokens : List Token) : Type 0 where
  pub front : List Token
  pub back : List Token
  pub is : tokens ≡ front ++ t ∷ back

pub split_at : (t : Token) (tokens : List Token) → In t tokens → SplitAt t tokens
split_at t [] i = absurd i
split_at t (s ∷ tokens) i =
    ⊎_elim (λ (e : t ≡ s). record { front = []; back = tokens; is = ap (λ (q : Token). q ∷ tokens) (sym e) })
    (λ (k : In t tokens). let a = split_at t tokens k in
    record { front = s ∷ a.front; back = a.back; is = ap (λ (q : List Token). s ∷ q) a.is }) i

sides_at : (table : ℕ → Entry) (front tokens : List Token) (x : ℕ) → IsBrackets table (front ++ Open x ∷ tokens)
    → Sides table (front ++ Open x ∷ tokens) x
sides_at table front tokens x b =
    let n : Node x front tokens = node front tokens x b.word in
    let base : List Level = move_all [] front in
    record {
      front = front;
      left = n.left;
      right = n.right;
      back = n.back;
      is = ap (λ (q : List Token). front ++ Open x ∷ q) n.is;
      left_word = n.left_word;
      right_word = n.right_word;
      in_left = left_slot table front tokens x b;
      in_right = right_slot table front tokens x b;
      next = follows table front tokens x b
          ∙ ap first_id (sym (rows_then table ((x, Right) ∷ base) ((x, Right) ∷ base) n.right (Close x ∷ n.back)
          (word_moves ((x, Right) ∷ base) n.right n.right_word)))
          ∙ first_is table ((x, Right) ∷ base) (n.right ++ Close x ∷ n.back);
      flat_right = flatten_right table front tokens x b;
      flat_left = flatten_left table front tokens x b;
    }

pub sides_of : (table : ℕ → Entry) (tokens : List Token) (x : ℕ) → IsBrackets table tokens → In (Open x) tokens
    → Sides table tokens x
sides_of table tokens x b i =
    let a = split_at (Open x) tokens i in
    subst (λ (q : List Token). Sides table q x) (sym a.is)
    (sides_at table a.front a.back x (subst (IsBrackets table) a.is b))
