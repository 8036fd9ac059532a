-- The slot that goes on behind a token.
use Rattle.std.proofs.Common.{◌≡◌, ◌+◌, ◌-◌, ◌*◌, ◌/◌, ◌%◌, ◌<◌, ◌∙◌, ℕ, zero, suc, List, [], ◌∷◌, ◌++◌}
use Rattle.std.proofs.Common.{length, Option, Some, None, refl, sym, ap, subst, inl, inr, ⊎_elim, arith}
use Rattle.std.proofs.Common.{append_assoc, length-append, Bool, false, nat_eq, if◌then◌else◌}
use Rattle.std.proofs.lemmas.Bool.{eq-eqb}
use Rattle.std.proofs.lemmas.Bool.Decides.{nat_tests}
use Rattle.std.proofs.lemmas.List.{append-nil}
use Rattle.td_base.specs.declared.bit.Bit.{Bit}
use Rattle.td_base.specs.declared.bit.Bit.TheVariants.{Left, Right}
use Rattle.td_base.specs.Lists.{In}
use Rattle.td_base.proofs.Lists.{In-back}
use Rattle.td_path.specs.declared.slot.Slot.TheVariants.{Root, At}
use Rattle.td_list.specs.Items.{Item, IsItem, AreApart, first_name, items_before, items_after, items_from_end}
use Rattle.td_list.proofs.Parted.{parted, after_is, before_at, after_at}
use Rattle.td_list.proofs.Names.{apart-parts, item-back}
use Rattle.td_brackets.specs.Brackets.{Token, Open, Atom, Close, Leaf, Level, move, move_all, AllFit, Fits, slot_round}
use Rattle.td_brackets.specs.Laws.{whole}
use Rattle.td_brackets.proofs.Words.{move-append, fit-append}
use Rattle.td_brackets.proofs.Standing.{whole_moves}
use Rattle.td_tree.specs.declared.tree_row.RowState.{RowState}
use Rattle.td_tree.specs.declared.tree_row.RowState.TheVariants.{Node, InArray, Gone}
use Rattle.td_tree.specs.Parts.{Parts, state_at, table, array_at, part, row_token}
use Rattle.td_tree.specs.Parts.{kind_token, token_of, tokens_of, tokens, IsTree}
use Rattle.td_tree.proofs.ItemTokens.{tokens-append}
use Rattle.td_tree.proofs.Lists.{rest_long}
use Rattle.td_tree.proofs.Trees.{node_of}
use Rattle.td_tree.proofs.NodeParts.{NodeAt, node_at, close_there}
use Rattle.td_tree.proofs.RowPlaces.{item_of, known_name}
use Rattle.td_tree.specs.Walks.{StepsOver, ended_side}

-- what is read behind some items, with the item there
pub record Over (p : Parts) (stack : List Level) (at : Option ℕ) : Type 0 where
  pub front : List Item
  pub back : List Item
  pub is : p.items ≡ front ++ back
  pub here : first_name back ≡ at
  pub moved : move_all [] (tokens_of p front) ≡ stack

module _ (p : Parts) (t : IsTree p) where
  front_same : (front : List Item) (i : Item) (back : List Item) (x : ℕ) → p.items ≡ front ++ i ∷ back → i.name ≡ x
      → items_before x p.items ≡ front
  front_same front i back x e f = ap (items_before x) e
      ∙ before_at x front i back f (λ k. apart-parts front (i ∷ back) (subst AreApart e t.apart) x k (inl (sym f)))

  back_same : (front : List Item) (i : Item) (back : List Item) (x : ℕ) → p.items ≡ front ++ i ∷ back → i.name ≡ x
      → items_after x p.items ≡ back
  back_same front i back x e f = ap (items_after x) e
      ∙ after_at x front i back f (λ k. apart-parts front (i ∷ back) (subst AreApart e t.apart) x k (inl (sym f)))

  pub over_starts : (front : List Item) (i : Item) (back : List Item) (x : ℕ) → p.items ≡ front ++ i ∷ back → i.name
      ≡ x → (next : Option ℕ) → next ≡ first_name (items_after x p.items)
      → Over p (move_all [] (tokens_of p (front ++ i ∷ []))) next
  over_starts front i back x e f next n = record {
    front = front ++ i ∷ [];
    back = back;
    is = e ∙ sym (append_assoc front (i ∷ []) back);
    here = ap first_name (sym (back_same front i back x e f)) ∙ sym n;
    moved = refl;
  }

  -- the item there
  pub record Here (stack : List Level) (name : ℕ) : Type 0 where
    pub front : List Item
    pub item : Item
    pub back : List Item
    pub is : p.items ≡ front ++ item ∷ back
    pub named : item.name ≡ name
    pub there : In item p.items
    pub moved : move_all [] (tokens_of p front) ≡ stack

  pub here_at : (stack : List Level) (name : ℕ) → Over p stack (Some name) → Here stack name
  here_at stack name o = at_back o.front o.back o.is o.here o.moved
    where
      same : (a b : ℕ) → Some a ≡ Some b → a ≡ b
      same a b e = cc

      at_back : (front back : List Item) → p.items ≡ front ++ back → first_name back ≡ Some name
          → move_all [] (tokens_of p front) ≡ stack → Here stack name
      at_back front [] e f m = absurd cc
      at_back front (i ∷ back) e f m = record {
        front = front;
        item = i;
        back = back;
        is = e;
        named = same i.name name f;
        there = subst (In i) (sym e) (In-back i front (i ∷ back) (inl refl));
        moved = m;
      }

  -- over a leaf
  leaf_kind : (k q w a c : ℕ) (s : RowState) → k ≡ 1 → s ≡ InArray a c → (rs : List ℕ)
      × (kind_token k q (row_token p s q w) ≡ Leaf rs)
  leaf_kind zero q w a c s e f = absurd (omega arith)
  leaf_kind (suc zero) q w a c s e f = (part (array_at p a) (c - w / 2) w, ap (λ (z : RowState). row_token p z q w) f)
  leaf_kind (suc (suc k)) q w a c s e f = absurd (omega arith)

  pub over_leaf : (stack : List Level) (name : ℕ) → Over p stack (Some name) → name % 3 ≡ 1 → (a c : ℕ)
      → state_at p (name / 3) ≡ InArray a c → (next : Option ℕ) → next ≡ first_name (items_after name p.items)
      → Over p stack next
  over_leaf stack name o k a c e next n =
      let h = here_at stack name o in
      let leaf = leaf_kind (h.item.name % 3) (h.item.name / 3) h.item.weight a c (state_at p (h.item.name / 3))
      (ap (λ (x : ℕ). x % 3) h.named ∙ k) (ap (λ (x : ℕ). state_at p (x / 3)) h.named ∙ e) in
      record {
        front = h.front ++ h.item ∷ [];
        back = h.back;
        is = h.is ∙ sym (append_assoc h.front (h.item ∷ []) h.back);
        here = ap first_name (sym (back_same h.front h.item h.back name h.is h.named)) ∙ sym n;
        moved = ap (move_all []) (tokens-append p h.front (h.item ∷ []))
            ∙ move-append [] (tokens_of p h.front) (token_of p h.item ∷ [])
            ∙ ap (λ (q : Token). move (move_all [] (tokens_of p h.front)) q) leaf.1 ∙ h.moved;
      }

  pub group_tokens : (x : ℕ) (m : NodeAt p x) → tokens_of p
      (m.opens ∷ (m.left ++ m.atom ∷ (m.right ++ m.closes ∷ []))) ≡ whole x (tokens_of p m.left) (tokens_of p m.right)
  group_tokens x m =
      (λ i. m.open_is i ∷ tokens_of p (m.left ++ m.atom ∷ (m.right ++ m.closes ∷ [])))
      ∙ ap (λ (q : List Token). Open x ∷ q)
      (tokens-append p m.left (m.atom ∷ (m.right ++ m.closes ∷ []))
      ∙ ap (λ (q : List Token). tokens_of p m.left ++ q)
      ((λ i. m.atom_is i ∷ tokens_of p (m.right ++ m.closes ∷ []))
      ∙ ap (λ (q : List Token). Atom x ∷ q) (tokens-append p m.right (m.closes ∷ [])
      ∙ ap (λ (q : Token). tokens_of p m.right ++ q ∷ []) m.close_is)))

  -- over the brackets of a row
  pub over_node : (stack : List Level) (name : ℕ) → Over p stack (Some name) → name % 3 ≡ 0 → (next : Option ℕ) → next
      ≡ first_name (items_after (name + 2) p.items) → Over p stack next
  over_node stack name o k next n =
      let h = here_at stack name o in
      let x : ℕ = name / 3 in
      let first : name ≡ 3 * x = omega arith in
      let last : name + 2 ≡ 3 * x + 2 = omega arith in
      let known : x < length p.rows = subst (λ (y : ℕ). y / 3 < length p.rows) h.named (t.each h.item h.there).known in
      let node : state_at p x ≡ Node = ap (λ (y : ℕ). state_at p (y / 3)) (sym h.named)
      ∙ node_of p t h.item h.there (λ e. other (name % 3) k (sym (ap (λ (y : ℕ). y % 3) h.named) ∙ e)) in
      let m = node_at p t x known node in
      let same : h.front ≡ m.front = sym (front_same h.front h.item h.back name h.is h.named)
      ∙ front_same m.front m.opens (m.left ++ m.atom ∷ (m.right ++ m.closes ∷ m.back)) name m.is
      (m.open_named ∙ sym first) in
      let group : List Item = m.opens ∷ (m.left ++ m.atom ∷ (m.right ++ m.closes ∷ [])) in
      let parts : p.items ≡ (m.front ++ (m.opens ∷ (m.left ++ m.atom ∷ m.right))) ++ m.closes ∷ m.back = m.is
      ∙ regroup m.front m.opens m.left m.atom m.right m.closes m.back in
      record {
        front = m.front ++ group;
        back = m.back;
        is = m.is ∙ regroup_all m.front m.opens m.left m.atom m.right m.closes m.back;
        here = ap first_name (sym (back_same (m.front ++ (m.opens ∷ (m.left ++ m.atom ∷ m.right))) m.closes m.back
            (name + 2) parts (m.close_named ∙ sym last))) ∙ sym n;
        moved =
            ap (move_all []) (tokens-append p m.front group
            ∙ ap (λ (q : List Token). tokens_of p m.front ++ q) (group_tokens x m))
            ∙ move-append [] (tokens_of p m.front) (whole x (tokens_of p m.left) (tokens_of p m.right))
            ∙ whole_moves (table p) (move_all [] (tokens_of p m.front)) x (tokens_of p m.left) (tokens_of p m.right)
            m.left_word m.right_word
            ∙ ap (λ (q : List Item). move_all [] (tokens_of p q)) (sym same) ∙ h.moved;
      }
    where
      other : (k : ℕ) → k ≡ 0 → k ≡ 1 → ⊥
      other k e f = omega arith

      regroup : (f : List Item) (o : Item) (l : List Item) (a : Item) (r : List Item) (c : Item) (b : List Item) → f
          ++ o ∷ (l ++ a ∷ (r ++ c ∷ b)) ≡ (f ++ (o ∷ (l ++ a ∷ r))) ++ c ∷ b
      regroup f o l a r c b = simp append_assoc

      regroup_all : (f : List Item) (o : Item) (l : List Item) (a : Item) (r : List Item) (c : Item) (b : List Item)
          → f ++ o ∷ (l ++ a ∷ (r ++ c ∷ b)) ≡ (f ++ (o ∷ (l ++ a ∷ (r ++ c ∷ [])))) ++ b
      regroup_all f o l a r c b = simp append_assoc

  -- where the slot ends

  fits_here : (stack : List Level) (name : ℕ) (h : Here stack name) → Fits stack (token_of p h.item)
  fits_here stack name h =
      let is : tokens p ≡ tokens_of p h.front ++ token_of p h.item ∷ tokens_of p h.back = ap (tokens_of p) h.is
      ∙ tokens-append p h.front (h.item ∷ h.back) in
      subst (λ (s : List Level). Fits s (token_of p h.item)) h.moved
      (fit-append [] (tokens_of p h.front) (token_of p h.item ∷ tokens_of p h.back)
      (subst (AllFit []) is t.brackets.word.0)).1.0

  end_slot : (stack : List Level) (x : ℕ) (bit : Bit) (l : Level) (rest : List Level) → stack ≡ l ∷ rest → l
      ≡ (x, bit) → At (table p x).id bit ≡ slot_round (table p) stack
  end_slot stack x bit l rest e f = (λ i. At (table p ((sym f i).0)).id ((sym f i).1))
      ∙ ap (slot_round (table p)) (sym e)

  atom_ends : (stack : List Level) (x : ℕ) → Fits stack (Atom x) → At (table p x).id Left ≡ slot_round (table p) stack
  atom_ends [] x f = absurd f
  atom_ends (l ∷ stack) x f = end_slot (l ∷ stack) x Left l stack refl f

  close_ends : (stack : List Level) (x : ℕ) → Fits stack (Close x) → At (table p x).id Right
      ≡ slot_round (table p) stack
  close_ends [] x f = absurd f
  close_ends (l ∷ stack) x f = end_slot (l ∷ stack) x Right l stack refl f

  atom_kind : (k q w : ℕ) (s : RowState) → k ≡ 1 → ((a c : ℕ) → s ≡ InArray a c → ⊥)
      → kind_token k q (row_token p s q w) ≡ Atom q
  atom_kind zero q w s e h = absurd (omega arith)
  atom_kind (suc zero) q w Node e h = refl
  atom_kind (suc zero) q w (InArray a c) e h = absurd (h a c refl)
  atom_kind (suc zero) q w Gone e h = refl
  atom_kind (suc (suc k)) q w s e h = absurd (omega arith)

  close_kind : (k q w : ℕ) (s : RowState) → k ≡ 2 → kind_token k q (row_token p s q w) ≡ Close q
  close_kind zero q w s e = absurd (omega arith)
  close_kind (suc zero) q w s e = absurd (omega arith)
  close_kind (suc (suc k)) q w s e = refl

  pub ends_left : (stack : List Level) (name : ℕ) → Over p stack (Some name) → name % 3 ≡ 1
      → ((a c : ℕ) → state_at p (name / 3) ≡ InArray a c → ⊥) → At (table p (name / 3)).id Left
      ≡ slot_round (table p) stack
  ends_left stack name o k e =
      let h = here_at stack name o in
      let token : token_of p h.item ≡ Atom (h.item.name / 3) =
      atom_kind (h.item.name % 3) (h.item.name / 3) h.item.weight (state_at p (h.item.name / 3))
      (ap (λ (x : ℕ). x % 3) h.named ∙ k) (λ a c f. e a c (ap (λ (x : ℕ). state_at p (x / 3)) (sym h.named) ∙ f)) in
      ap (λ (x : ℕ). At (table p (x / 3)).id Left) (sym h.named)
      ∙ atom_ends stack (h.item.name / 3) (subst (Fits stack) token (fits_here stack name h))

  pub ends_right : (stack : List Level) (name : ℕ) → Over p stack (Some name) → name % 3 ≡ 2
      → At (table p (name / 3)).id Right ≡ slot_round (table p) stack
  ends_right stack name o k =
      let h = here_at stack name o in
      let token : token_of p h.item ≡ Close (h.item.name / 3) =
      close_kind (h.item.name % 3) (h.item.name / 3) h.item.weight (state_at p (h.item.name / 3))
      (ap (λ (x : ℕ). x % 3) h.named ∙ k) in
      ap (λ (x : ℕ). At (table p (x / 3)).id Right) (sym h.named)
      ∙ close_ends stack (h.item.name / 3) (subst (Fits stack) token (fits_here stack name h))

  pub ends_root : (stack : List Level) → Over p stack None → Root ≡ slot_round (table p) stack
  ends_root stack o = ap (slot_round (table p)) (sym
      (sym o.moved ∙ ap (move_all []) (sym (ap (tokens_of p) (o.is ∙ nothing o.front o.back o.here)))
      ∙ t.brackets.word.1))
    where
      nothing : (front back : List Item) → first_name back ≡ None → front ++ back ≡ front
      nothing front [] e = append-nil front
      nothing front (i ∷ back) e = absurd cc

  -- the steps of the walk

  pub next_there : (x : ℕ) → IsItem x p.items → (y : ℕ) → first_name (items_after x p.items) ≡ Some y → IsItem y p.items
  next_there x h y e =
      let q = parted x p.items h in
      subst (IsItem y) (sym q.is) (item-back y (q.front) (q.item ∷ q.back)
      (inr (first_in q.back (sym (ap first_name (after_is x p.items h)) ∙ e))))
    where
      same : (a b : ℕ) → Some a ≡ Some b → a ≡ b
      same a b e = cc

      first_in : (items : List Item) → first_name items ≡ Some y → IsItem y items
      first_in [] f = absurd cc
      first_in (i ∷ items) f = inl (sym (same i.name y f))

  node_here : (name : ℕ) → IsItem name p.items → name % 3 ≡ 0 → (name / 3 < length p.rows)
      × (state_at p (name / 3) ≡ Node)
  node_here name h k =
      let i = item_of p t name h in (
        known_name p t name h,
        ap (λ (y : ℕ). state_at p (y / 3)) (sym i.2) ∙ node_of p t i.0 i.1
            (λ e. other (name % 3) k (sym (ap (λ (y : ℕ). y % 3) i.2) ∙ e)),
      )
    where
      other : (k : ℕ) → k ≡ 0 → k ≡ 1 → ⊥
      other k e f = omega arith

  close_of : (name : ℕ) → name % 3 ≡ 0 → 3 * (name / 3) + 2 ≡ name + 2
  close_of name k = omega arith

  open_of : (name : ℕ) → name % 3 ≡ 0 → 3 * (name / 3) ≡ name
  open_of name k = omega arith

  pub last_there : (name last : ℕ) → IsItem name p.items → StepsOver p name (Some last) → IsItem last p.items
  last_there name last h o =
      ⊎_elim
      (λ (a : (name % 3 ≡ 0) × (last ≡ name + 2)).
      let n = node_here name h a.0 in
      subst (λ (y : ℕ). IsItem y p.items) (close_of name a.0 ∙ sym a.1)
      (close_there p (name / 3) (node_at p t (name / 3) n.0 n.1)))
      (λ (b : (name % 3 ≡ 1) × (last ≡ name) × ((a : ℕ) × (k : ℕ) × (state_at p (name / 3) ≡ InArray a k))). subst
      (λ (y : ℕ). IsItem y p.items) (sym b.1) h) o

  pub goes_over : (name last : ℕ) → StepsOver p name (Some last) → (next : Option ℕ) → next
      ≡ first_name (items_after last p.items) → (stack : List Level) → Over p stack (Some name) → Over p stack next
  goes_over name last o next e stack w =
      ⊎_elim (λ (a : (name % 3 ≡ 0) × (last ≡ name + 2)). over_node stack name w a.0 next
      (e ∙ ap (λ (y : ℕ). first_name (items_after y p.items)) a.1))
      (λ (b : (name % 3 ≡ 1) × (last ≡ name) × ((a : ℕ) × (k : ℕ) × (state_at p (name / 3) ≡ InArray a k))).
      over_leaf stack name w b.0 b.2.0 b.2.1 b.2.2 next (e ∙ ap (λ (y : ℕ). first_name (items_after y p.items)) b.1)) o

  pub gets_shorter : (name last : ℕ) → IsItem name p.items → StepsOver p name (Some last) → (next : Option ℕ) → next
      ≡ first_name (items_after last p.items) → length (items_from_end next p.items) < length
      (items_from_end (Some name) p.items)
  gets_shorter name last h o next e =
      ⊎_elim
      (λ (a : (name % 3 ≡ 0) × (last ≡ name + 2)).
      let n = node_here name h a.0 in
      let m = node_at p t (name / 3) n.0 n.1 in
      let parts : p.items ≡ (m.front ++ (m.opens ∷ (m.left ++ m.atom ∷ m.right))) ++ m.closes ∷ m.back = m.is
      ∙ regroup m.front m.opens m.left m.atom m.right m.closes m.back in
      let all : p.items ≡ (m.front ++ (m.opens ∷ (m.left ++ m.atom ∷ (m.right ++ m.closes ∷ [])))) ++ m.back = m.is
      ∙ regroup_all m.front m.opens m.left m.atom m.right m.closes m.back in
      let after = back_same (m.front ++ (m.opens ∷ (m.left ++ m.atom ∷ m.right))) m.closes m.back last parts
      (m.close_named ∙ close_of name a.0 ∙ sym a.1) in
      let later : length (items_from_end next p.items)
      ≡ length m.back = rest_long p.items t.apart m.back next (ap first_name (sym after) ∙ sym e)
      (m.front ++ (m.opens ∷ (m.left ++ m.atom ∷ (m.right ++ m.closes ∷ [])))) all in
      let now : length (items_from_end (Some name) p.items)
      ≡ length (m.opens ∷ (m.left ++ m.atom ∷ (m.right ++ m.closes ∷ m.back))) =
      rest_long p.items t.apart (m.opens ∷ (m.left ++ m.atom ∷ (m.right ++ m.closes ∷ m.back))) (Some name)
      (ap Some (m.open_named ∙ open_of name a.0)) m.front m.is in
      let one = length-append m.left (m.atom ∷ (m.right ++ m.closes ∷ m.back)) in
      let two = length-append m.right (m.closes ∷ m.back) in
      omega arith)
      (λ (b : (name % 3 ≡ 1) × (last ≡ name) × ((a : ℕ) × (k : ℕ) × (state_at p (name / 3) ≡ InArray a k))).
      let q = parted name p.items h in
      let later : length (items_from_end next p.items) ≡ length q.back =
      rest_long p.items t.apart q.back next (ap first_name (sym (after_is name p.items h))
      ∙ ap (λ (y : ℕ). first_name (items_after y p.items)) (sym b.1) ∙ sym e) (q.front ++ q.item ∷ [])
      (q.is ∙ sym (append_assoc q.front (q.item ∷ []) q.back)) in
      let now : length (items_from_end (Some name) p.items)
      ≡ length (q.item ∷ q.back) = rest_long p.items t.apart (q.item ∷ q.back) (Some name) (ap Some q.named)
      q.front q.is in
      omega arith) o
    where
      regroup : (f : List Item) (o : Item) (l : List Item) (a : Item) (r : List Item) (c : Item) (b : List Item) → f
          ++ o ∷ (l ++ a ∷ (r ++ c ∷ b)) ≡ (f ++ (o ∷ (l ++ a ∷ r))) ++ c ∷ b
      regroup f o l a r c b = simp append_assoc

      regroup_all : (f : List Item) (o : Item) (l : List Item) (a : Item) (r : List Item) (c : Item) (b : List Item)
          → f ++ o ∷ (l ++ a ∷ (r ++ c ∷ b)) ≡ (f ++ (o ∷ (l ++ a ∷ (r ++ c ∷ [])))) ++ b
      regroup_all f o l a r c b = simp append_assoc

  pub ends_here : (stack : List Level) (name : ℕ) → Over p stack (Some name) → StepsOver p name None
      → At (table p (name / 3)).id (ended_side name) ≡ slot_round (table p) stack
  ends_here stack name o s =
      ⊎_elim
      (λ (a : (name % 3 ≡ 1) × ((b k : ℕ) → state_at p (name / 3) ≡ InArray b k → ⊥)). ap
      (λ (q : Bool). At (table p (name / 3)).id (if q then Left else Right)) (eq-eqb (name % 3) 1 a.0)
      ∙ ends_left stack name o a.0 a.1)
      (λ (b : name % 3 ≡ 2). ap (λ (q : Bool). At (table p (name / 3)).id (if q then Left else Right))
      (not_one (name % 3) b) ∙ ends_right stack name o b) s
    where
      not_one : (k : ℕ) → k ≡ 2 → nat_eq k 1 ≡ false
      not_one k e = grind (arith, nat_tests)
