-- A tree stays whole where leaves are opened, and where a row is deleted.
use Rattle.std.proofs.Common.{◌≡◌, ◌≢◌, ◌⊎◌, ◌<◌, ◌∙◌, ℕ, List, [], ◌∷◌, if◌then◌else◌, Bool, true, false, length}
use Rattle.std.proofs.Common.{get_or, ◌+◌, ◌-◌, ◌≤◌, ◌++◌, ◌&&◌, nat_le, nat_lt, arith, Option, Some, None, refl}
use Rattle.std.proofs.Common.{sym, ap, subst, inl, inr, ⊎_elim, is_some, length-append}
use Rattle.std.specs.Prelude.{IsTrue, IsNone}
use Rattle.std.specs.List.{AllByRecursion}
use Rattle.std.specs.Ordering.{is_lt, is_eq}
use Rattle.std.proofs.lemmas.Bool.{and_parts, cases_eq, cases_lt, le-leb, leb-true}
use Rattle.std.proofs.lemmas.Bool.{lt-ltb, ltb-true, false_from_ne_true}
use Rattle.std.proofs.lemmas.List.{get_or_append_left, get_or-append-add}
use Rattle.td_base.specs.Equality.{same_dot}
use Rattle.td_base.proofs.Equals.{same_dot_true, same_dot_refl}
use Rattle.td_identities.specs.Numbers.{is_in_run, with_run}
use Rattle.td_base.specs.Value.{DotValue, AtomIdValue}
use Rattle.td_base.specs.Order.{dot_cmp}
use Rattle.td_clock.specs.Vector.{vector_has}
use Rattle.td_doc.specs.Document.{DocRow, find_row}
use Rattle.td_doc.specs.Deletion.{add_dot}
use Rattle.td_doc.specs.Answers.{IsRow, IsFresh}
use Rattle.td_brackets.specs.Brackets.{Entry}
use Rattle.td_identities.specs.declared.identities.Identities.{Identities}
use Rattle.td_identities.specs.Identities.{number_of}
use Rattle.td_tree.specs.declared.tree_row.RowState.{RowState}
use Rattle.td_tree.specs.declared.tree_row.RowState.TheVariants.{Node as IsNode, InArray, Gone}
use Rattle.td_tree.specs.Parts.{Parts, RowValue, nobody, row_at, state_at, table}
use Rattle.td_tree.specs.Parts.{doc_rows, IsTree, IsMoreOpen, IsDeleted}
use Rattle.td_tree.specs.Whole.{IsSeen, IsWhole}
use Rattle.td_tree.proofs.RowsFound.{found_row}
use Rattle.td_tree.specs.Places.{run_rows}
use Rattle.td_tree.proofs.PutRun.{run_long, run_row_at, fresh_unfound}

-- leaves opened

pub open_whole : (p q : Parts) (identities : Identities) (seen : List ℕ) → IsWhole p identities seen → IsMoreOpen p q
    → IsWhole q identities seen
open_whole p q identities seen w k = record {
  tree = k.tree;
  named = record {
    found = λ id r e. let f = w.named.found id r e in
        (subst (λ (n : ℕ). r < n) (sym k.long) f.0, (λ i. (k.entries i r).id) ∙ f.1);
    here = λ r l. ⊎_elim (λ (g : state_at p r ≡ Gone). inl (k.gone r g))
        (λ (e : number_of identities (table p r).id ≡ Some r). inr
        ((λ i. number_of identities (k.entries i r).id) ∙ e)) (w.named.here r (subst (λ (n : ℕ). r < n) k.long l));
  };
  each_seen = λ r l. subst (λ (t : ℕ → Entry). IsSeen seen (t r)) (sym k.entries)
      (w.each_seen r (subst (λ (n : ℕ). r < n) k.long l));
}

-- a row deleted

more_seen : (seen now : List ℕ) → ((d : DotValue) → IsTrue (vector_has seen d) → IsTrue (vector_has now d))
    → (dots : List DotValue) → AllByRecursion (λ (d : DotValue). IsTrue (vector_has seen d)) dots
    → AllByRecursion (λ (d : DotValue). IsTrue (vector_has now d)) dots
more_seen seen now h [] a = tt
more_seen seen now h (d ∷ dots) a = (h d a.0, more_seen seen now h dots a.1)

pub entry_more : (seen now : List ℕ) → ((d : DotValue) → IsTrue (vector_has seen d) → IsTrue (vector_has now d))
    → (e : Entry) → IsSeen seen e → IsSeen now e
entry_more seen now h e s = record { made = h e.id.dot s.made; deletes = more_seen seen now h e.deletes s.deletes }

module _ (P : DotValue → Type 0) where
  added_at : (d e : DotValue) (dots : List DotValue) → P d → AllByRecursion P (e ∷ dots)
      → AllByRecursion P (add_dot d dots) → (b c : Bool)
      → AllByRecursion P (if b then d ∷ e ∷ dots else if c then e ∷ dots else e ∷ add_dot d dots)
  added_at d e dots h a r true c = (h, a)
  added_at d e dots h a r false true = a
  added_at d e dots h a r false false = (a.0, r)

  added : (d : DotValue) (dots : List DotValue) → P d → AllByRecursion P dots → AllByRecursion P (add_dot d dots)
  added d [] h a = (h, tt)
  added d (e ∷ dots) h a = added_at d e dots h a (added d dots h a.1) (is_lt (dot_cmp d e)) (is_eq (dot_cmp d e))

pub deleted_whole : (p q : Parts) (identities : Identities) (seen now : List ℕ) (x : ℕ) (by : DotValue)
    → IsWhole p identities seen → IsDeleted p q x by
    → ((d : DotValue) → IsTrue (vector_has seen d) → IsTrue (vector_has now d)) → IsTrue (vector_has now by)
    → IsWhole q identities now
deleted_whole p q identities seen now x by w k kept sees = record {
  tree = k.tree;
  named = record {
    found = λ id r e. let f = w.named.found id r e in (subst (λ (n : ℕ). r < n) (sym k.long) f.0, k.ids r ∙ f.1);
    here = λ r l. ⊎_elim (λ (g : state_at p r ≡ Gone). inl (k.states r ∙ g))
        (λ (e : number_of identities (table p r).id ≡ Some r). inr (ap (number_of identities) (k.ids r) ∙ e))
        (w.named.here r (subst (λ (n : ℕ). r < n) k.long l));
  };
  each_seen = λ r l.
      let was = entry_more seen now kept (table p r) (w.each_seen r (subst (λ (n : ℕ). r < n) k.long l)) in
      ⊎_elim
      (λ (e : r ≡ x).
      let was_x = subst (λ (s : ℕ). IsSeen now (table p s)) e was in
      subst (λ (s : ℕ). IsSeen now (table q s)) (sym e)
      (record {
        made = subst (λ (i : AtomIdValue). IsTrue (vector_has now i.dot)) (sym (k.ids x)) was_x.made;
        deletes = subst (AllByRecursion (λ (d : DotValue). IsTrue (vector_has now d))) (sym k.deletes)
            (added (λ (d : DotValue). IsTrue (vector_has now d)) by (table p x).deletes sees was_x.deletes);
      }))
      (λ (n : r ≢ x). subst (IsSeen now) (sym (k.others r n)) was) (cases_eq r x);
}

-- a row that is not gone is a row
pub is_row_at : (p : Parts) (t : IsTree p) (r : ℕ) → r < length p.rows → state_at p r ≢ Gone → (id : AtomIdValue)
    → (table p r).id ≡ id → IsRow (doc_rows p) id
is_row_at p t r l s id e =
    let f = found_row p t r l s in
    ap is_some (ap (λ (x : AtomIdValue). find_row x (doc_rows p)) (sym e) ∙ f.found)

-- new rows

cases_gone : (s : RowState) → (s ≡ Gone) ⊎ (s ≢ Gone)
cases_gone IsNode = inr (λ e. absurd cc)
cases_gone (InArray a k) = inr (λ e. absurd cc)
cases_gone Gone = inl refl

-- those of a run, from an identity on
abbrev pub later : AtomIdValue → ℕ → AtomIdValue
later id i = record { dot = id.dot; offset = id.offset + i }

run_is : (id : AtomIdValue) (count : ℕ) (x : AtomIdValue) → is_in_run id count x ≡ true → (i : ℕ) × (i < count)
    × (x ≡ later id i)
run_is id count x e =
    let first : same_dot id.dot x.dot ≡ true = (and_parts (same_dot id.dot x.dot)
    (nat_le id.offset x.offset && nat_lt (x.offset - id.offset) count) e).0 in
    let rest : (nat_le id.offset x.offset && nat_lt (x.offset - id.offset) count)
    ≡ true = (and_parts (same_dot id.dot x.dot) (nat_le id.offset x.offset && nat_lt (x.offset - id.offset) count)
    e).1 in
    let low : id.offset ≤ x.offset = leb-true id.offset x.offset
    ((and_parts (nat_le id.offset x.offset) (nat_lt (x.offset - id.offset) count) rest).0) in
    let high : x.offset - id.offset < count = ltb-true (x.offset - id.offset) count
    ((and_parts (nat_le id.offset x.offset) (nat_lt (x.offset - id.offset) count) rest).1) in
    let dots : x.dot ≡ id.dot = sym (same_dot_true id.dot x.dot first) in
    let offsets : x.offset ≡ id.offset + (x.offset - id.offset) = omega arith in
    (x.offset - id.offset, high, λ i. record { dot = dots i; offset = offsets i })

run_here : (id : AtomIdValue) (count i : ℕ) → i < count → is_in_run id count (later id i) ≡ true
run_here id count i l =
    ap (λ (b : Bool). b && (nat_le id.offset (id.offset + i) && nat_lt (id.offset + i - id.offset) count))
    (same_dot_refl id.dot)
    ∙ ap (λ (b : Bool). b && nat_lt (id.offset + i - id.offset) count)
    (le-leb id.offset (id.offset + i) (omega arith)) ∙ lt-ltb (id.offset + i - id.offset) count (omega arith)

run_at : (id : AtomIdValue) (n count : ℕ) (x : AtomIdValue) (o : Option ℕ) (r : ℕ) (b : Bool) → is_in_run id count x
    ≡ b → with_run id (record { first = n; count = count }) x o ≡ Some r
    → ((i : ℕ) × (i < count) × (x ≡ later id i) × (r ≡ n + i)) ⊎ (o ≡ Some r)
run_at id n count x o r true e f =
    let k = run_is id count x e in
    let now : Some (n + (x.offset - id.offset)) ≡ Some r =
    sym (ap (λ (b : Bool). if b then Some (n + (x.offset - id.offset)) else o) e) ∙ f in
    inl (k.0, k.1, k.2, number r k.0 x.offset (ap (λ (y : AtomIdValue). y.offset) k.2) now)
  where
    same : (a b : ℕ) → Some a ≡ Some b → a ≡ b
    same a b e = cc

    number : (r i a : ℕ) → a ≡ id.offset + i → Some (n + (a - id.offset)) ≡ Some r → r ≡ n + i
    number r i a e f = let g = same (n + (a - id.offset)) r f in omega arith
run_at id n count x o r false e f = inr (sym (ap (λ (b : Bool). if b then Some (n + (x.offset - id.offset)) else o) e)
    ∙ f)

pub run_new : (id : AtomIdValue) (n count i : ℕ) (o : Option ℕ) → i < count
    → with_run id (record { first = n; count = count }) (later id i) o ≡ Some (n + i)
run_new id n count i o l =
    let same : n + (id.offset + i - id.offset) ≡ n + i = omega arith in
    ap (λ (b : Bool). if b then Some (n + (id.offset + i - id.offset)) else o) (run_here id count i l) ∙ ap Some same

run_other : (id : AtomIdValue) (n count : ℕ) (x : AtomIdValue) (o : Option ℕ) → ((i : ℕ) → i < count → x ≢ later id i)
    → with_run id (record { first = n; count = count }) x o ≡ o
run_other id n count x o h = ap (λ (b : Bool). if b then Some (n + (x.offset - id.offset)) else o)
    (false_from_ne_true (is_in_run id count x) (λ e. let k = run_is id count x e in h k.0 k.1 k.2))

-- the rows of a run are new
pub record IsNewRow (p : Parts) (id : AtomIdValue) (v : RowValue) : Type 0 where
  pub named : v.entry.id ≡ id
  pub live : v.entry.deletes ≡ []
  pub unknown : find_row id (doc_rows p) ≡ None

not_found : (k : DocRow) → Some k ≡ None → ⊥
not_found k e = cc

module _ (p q : Parts) (old new : Identities) (seen now : List ℕ) (id : AtomIdValue) (more : List RowValue)
    (w : IsWhole p old seen)
    (each : (i : ℕ) → i < length more → IsNewRow p (later id i) (get_or more i nobody))
    (rows : q.rows ≡ p.rows ++ more) (tree : IsTree q)
    (numbers : (x : AtomIdValue) → number_of new x
    ≡ with_run id (record { first = length p.rows; count = length more }) x (number_of old x))
    (kept : (d : DotValue) → IsTrue (vector_has seen d) → IsTrue (vector_has now d))
    (sees : IsTrue (vector_has now id.dot)) where
  abbrev n : ℕ
  n = length p.rows

  long : length q.rows ≡ n + length more
  long = ap length rows ∙ length-append p.rows more

  before : (r : ℕ) → r < n → row_at q r ≡ row_at p r
  before r l = ap (λ (k : List RowValue). get_or k r nobody) rows ∙ get_or_append_left p.rows more nobody r l

  behind : (i : ℕ) → row_at q (n + i) ≡ get_or more i nobody
  behind i = ap (λ (k : List RowValue). get_or k (n + i) nobody) rows ∙ get_or-append-add p.rows more i nobody

  -- a row is of before, or one of the run
  which : (r : ℕ) → r < length q.rows → (r < n) ⊎ ((i : ℕ) × (i < length more) × (r ≡ n + i))
  which r l = ⊎_elim (λ (b : r < n). inl b) (λ (b : n ≤ r). inr (r - n, omega (arith, long), omega arith))
      (cases_lt r n)

  still_named : (r : ℕ) → r < n → number_of old (table p r).id ≡ Some r → (state_at p r ≡ Gone)
      ⊎ (state_at p r ≢ Gone) → (state_at q r ≡ Gone) ⊎ (number_of new (table q r).id ≡ Some r)
  still_named r l f d =
      ⊎_elim (λ (g : state_at p r ≡ Gone). inl (ap (λ (v : RowValue). v.state) (before r l) ∙ g))
      (λ (g : state_at p r ≢ Gone).
      let there = found_row p w.tree r l g in
      inr (ap (λ (v : RowValue). number_of new v.entry.id) (before r l) ∙ numbers (table p r).id
      ∙ run_other id n (length more) (table p r).id (number_of old (table p r).id)
      (λ i m e. absurd (not_found there.row (sym there.found ∙ ap (λ (x : AtomIdValue). find_row x (doc_rows p)) e
      ∙ (each i m).unknown)))
      ∙ f)) d

  here : (r : ℕ) → r < length q.rows → (state_at q r ≡ Gone) ⊎ (number_of new (table q r).id ≡ Some r)
  here r l =
      ⊎_elim
      (λ (b : r < n).
      ⊎_elim (λ (g : state_at p r ≡ Gone). inl (ap (λ (v : RowValue). v.state) (before r b) ∙ g))
      (λ (f : number_of old (table p r).id ≡ Some r). still_named r b f (cases_gone (state_at p r))) (w.named.here r b))
      (λ (k : (i : ℕ) × (i < length more) × (r ≡ n + i)).
      inr (ap (λ (s : ℕ). number_of new (table q s).id) k.2
      ∙ ap (λ (v : RowValue). number_of new v.entry.id) (behind k.0) ∙ ap (number_of new) (each k.0 k.1).named
      ∙ numbers (later id k.0) ∙ run_new id n (length more) k.0 (number_of old (later id k.0)) k.1 ∙ ap Some (sym k.2)))
      (which r l)

  found : (x : AtomIdValue) (r : ℕ) → number_of new x ≡ Some r → (r < length q.rows) × ((table q r).id ≡ x)
  found x r e =
      ⊎_elim
      (λ (k : (i : ℕ) × (i < length more) × (x ≡ later id i) × (r ≡ n + i)). (
        omega (arith, k.1, k.3, long),
        ap (λ (s : ℕ). (table q s).id) k.3
            ∙ ap (λ (v : RowValue). v.entry.id) (behind k.0) ∙ (each k.0 k.1).named ∙ sym k.2,
      ))
      (λ (f : number_of old x ≡ Some r). let g = w.named.found x r f in
      (omega (arith, g.0, long), ap (λ (v : RowValue). v.entry.id) (before r g.0) ∙ g.1))
      (run_at id n (length more) x (number_of old x) r (is_in_run id (length more) x) refl (sym (numbers x) ∙ e))

  each_seen : (r : ℕ) → r < length q.rows → IsSeen now (table q r)
  each_seen r l =
      ⊎_elim (λ (b : r < n). subst (λ (v : RowValue). IsSeen now v.entry) (sym (before r b))
      (entry_more seen now kept (table p r) (w.each_seen r b)))
      (λ (k : (i : ℕ) × (i < length more) × (r ≡ n + i)).
      subst (λ (s : ℕ). IsSeen now (table q s)) (sym k.2)
      (subst (λ (v : RowValue). IsSeen now v.entry) (sym (behind k.0))
      (record {
        made = subst (λ (x : AtomIdValue). IsTrue (vector_has now x.dot)) (sym (each k.0 k.1).named) sees;
        deletes = subst (AllByRecursion (λ (d : DotValue). IsTrue (vector_has now d))) (sym (each k.0 k.1).live) tt;
      })))
      (which r l)

  pub more_whole : IsWhole q new now
  more_whole = record { tree = tree; named = record { found = found; here = here }; each_seen = each_seen }

pub put_whole : (p q : Parts) (old new : Identities) (seen now : List ℕ) (id : AtomIdValue) (atom : List ℕ)
    → IsWhole p old seen → find_row id (doc_rows p) ≡ None
    → q.rows ≡ p.rows ++ record { entry = record { id = id; atom = atom; deletes = [] }; state = IsNode } ∷ []
    → IsTree q
    → ((x : AtomIdValue) → number_of new x ≡ with_run id (record { first = length p.rows; count = 1 }) x
    (number_of old x))
    → ((d : DotValue) → IsTrue (vector_has seen d) → IsTrue (vector_has now d)) → IsTrue (vector_has now id.dot)
    → IsWhole q new now
put_whole p q old new seen now id atom w none rows tree numbers kept sees =
    more_whole p q old new seen now id (record {
      entry = record { id = id; atom = atom; deletes = [] };
      state = IsNode;
    } ∷ []) w only rows tree numbers kept sees
  where
    first : (i : ℕ) → i ≡ 0 → IsNewRow p (later id i)
        (get_or (record { entry = record { id = id; atom = atom; deletes = [] }; state = IsNode } ∷ []) i nobody)
    first i e =
        let same : id.offset ≡ id.offset + 0 = omega arith in
        let same_id : id ≡ later id 0 = λ j. record { dot = id.dot; offset = same j } in
        subst (λ (k : ℕ). IsNewRow p (later id k) (get_or
        (record { entry = record { id = id; atom = atom; deletes = [] }; state = IsNode } ∷ []) k nobody)) (sym e)
        (record {
          named = same_id;
          live = refl;
          unknown =
              ap (λ (x : AtomIdValue). find_row x (doc_rows p)) (sym same_id) ∙ none;
        })

    only : (i : ℕ) → i < 1 → IsNewRow p (later id i)
        (get_or (record { entry = record { id = id; atom = atom; deletes = [] }; state = IsNode } ∷ []) i nobody)
    only i l = first i (omega arith)

pub none_of : (o : Option DocRow) → IsNone o → o ≡ None
none_of None h = refl
none_of (Some q) h = absurd cc

-- the rows of an insert's run
pub run_whole : (p q : Parts) (old new : Identities) (seen now : List ℕ) (dot : DotValue) (run : List (List ℕ))
    → IsWhole p old seen → IsFresh (doc_rows p) dot
    → q.rows ≡ p.rows ++ run_rows (length p.arrays) dot 0 run → IsTree q
    → ((x : AtomIdValue) → number_of new x ≡ with_run (record { dot = dot; offset = 0 })
    (record { first = length p.rows; count = length run }) x (number_of old x))
    → ((d : DotValue) → IsTrue (vector_has seen d) → IsTrue (vector_has now d)) → IsTrue (vector_has now dot)
    → IsWhole q new now
run_whole p q old new seen now dot run w fresh rows tree numbers kept sees =
    let long = run_long (length p.arrays) dot 0 run in
    more_whole p q old new seen now (record { dot = dot; offset = 0 }) (run_rows (length p.arrays) dot 0 run) w
    (λ i l.
    let at = run_row_at (length p.arrays) dot 0 run i (subst (λ (n : ℕ). i < n) long l) in
    record {
      named = ap (λ (v : RowValue). v.entry.id) at;
      live = ap (λ (v : RowValue). v.entry.deletes) at;
      unknown = none_of (find_row (record { dot = dot; offset = 0 + i }) (doc_rows p))
          (fresh_unfound (doc_rows p) dot (0 + i) fresh);
    }) rows tree
    (λ x. numbers x ∙ ap (λ (n : ℕ). with_run (record { dot = dot; offset = 0 })
    (record { first = length p.rows; count = n }) x (number_of old x)) (sym long)) kept sees

-- other identities with the same numbers
pub same_whole : (p : Parts) (old new : Identities) (seen : List ℕ) → IsWhole p old seen
    → ((x : AtomIdValue) → number_of new x ≡ number_of old x) → IsWhole p new seen
same_whole p old new seen w h = record {
  tree = w.tree;
  named = record {
    found = λ x r e. w.named.found x r (sym (h x) ∙ e);
    here = λ r l. ⊎_elim (λ (g : state_at p r ≡ Gone). inl g)
        (λ (f : number_of old (table p r).id ≡ Some r). inr (h (table p r).id ∙ f)) (w.named.here r l);
  };
  each_seen = w.each_seen;
}
