-- How the parts of `Marks` hang together.
use Rattle.std.proofs.Common.{◌≡◌, ◌≤◌, ◌<◌, ◌+◌, ◌-◌, ◌++◌, ◌∷◌, [], ◌==◌, ℕ, suc, List, Bool, true, false, length}
use Rattle.std.proofs.Common.{replicate}
use Rattle.std.proofs.Common.{Some, None, refl, sym, ap, ◌∙◌, subst, arith, if◌then◌else◌, ◌⊎◌, ◌||◌, inl, inr, ⊎_elim}
use Rattle.std.proofs.Common.{length-append}
use Rattle.std.specs.List.{AllByRecursion}
use Rattle.std.specs.Prelude.{slice_get, nat_le, nat_lt, sum}
use Rattle.std.proofs.lemmas.Bool.{and_from, eq-eqb, le-leb, lt-leb, leb-false, cases_lt, ne_eqb}
use Rattle.std.proofs.lemmas.List.{length-replicate, length-set}
use Rattle.std.proofs.lemmas.Option.{none-some, same_Some, slice_get_within}
use Rattle.td_base.specs.Lists.{In}
use Rattle.td_base.specs.Value.{DotValue, AtomIdValue, IsDot}
use Rattle.td_base.specs.declared.dot.TheConstants.{MAX_SEQ}
use Rattle.td_base.proofs.Elements.{In-slice_get, get_front}
use Rattle.td_base.proofs.Lists.{all_in, all_of, In-append}
use Rattle.td_base.proofs.Places.{get_behind}
use Rattle.td_clock.specs.Vector.{vector_has, vector_get, vector_bump}
use Rattle.td_marks.specs.Index.{KeepsListed, numbers_at}
use Rattle.td_marks.specs.Making.{mark_refusal}
use Rattle.td_marks.specs.Mark.{MarkOpValue}
use Rattle.td_marks.specs.Marks.{MarksValue, IsInTurn, IsMarkOp, count_of, counts, next_dot}
use Rattle.td_marks.specs.Marks.IsInTurn.{none_came, came_next}
use Rattle.td_marks.specs.MarksParts.{AreMarksParts}
use Rattle.td_marks.specs.Taking.{is_had, is_of_size, take_answer}
use Rattle.td_marks.specs.declared.index.Index.{Index}
use Rattle.td_marks.specs.declared.mark_fault.MarkFault.TheVariants.{Position, Wide, Limit}
use Rattle.td_marks.specs.declared.mark_op.TheConstants.{MAX_ATOMS}
use Rattle.td_marks.specs.declared.mark_taken.MarkTaken.TheVariants.{New, Repeat, Gap, Size}
use Rattle.td_marks.proofs.Counts.{counts_none, counts_more, get_counts, had_counted, sum_more, sum_none}

-- no operations
pub new_parts : (site n : ℕ) (index : Index) → 1 ≤ site → site ≤ n → AreMarksParts site (replicate n 0) [] index
new_parts site n index first own =
    let long : length (replicate n 0) ≡ n = length-replicate n 0 in
    record {
      marks = record {
        first = first;
        own = subst (λ (m : ℕ). site ≤ m) (sym long) own;
        each = tt;
        turn = none_came;
      };
      counted = sym (counts_none n) ∙ ap (λ (m : ℕ). counts m []) (sym long);
      number = sym (sum_none n);
      listed = λ x k o e i. absurd (none-some o e);
    }

-- the answer to an operation of the size
pub answer_at : (m : MarksValue) (o : MarkOpValue) (had later : Bool) → length o.seen ≡ m.size → o.dot.site ≤ m.size
    → is_had o.dot m.ops ≡ had → nat_lt (count_of o.dot.site m.ops + 1) o.dot.seq ≡ later
    → take_answer m o ≡ (if had then Repeat else if later then Gap (count_of o.dot.site m.ops + 1) else New)
answer_at m o had later size within h l =
    let s : is_of_size m.size o ≡ true = and_from (length o.seen == m.size) (nat_le o.dot.site m.size)
    (eq-eqb (length o.seen) m.size size) (le-leb o.dot.site m.size within) in
    λ i. if s i
    then (if h i then Repeat else if l i then Gap (count_of o.dot.site m.ops + 1) else New)
    else Size

-- what is new is the next of its site
is_new : (fits had later : Bool) (want : ℕ)
    → (if fits then (if had then Repeat else if later then Gap want else New) else Size) ≡ New
    → (had ≡ false) × (later ≡ false)
is_new false had later want e = absurd cc
is_new true true later want e = absurd cc
is_new true false true want e = absurd cc
is_new true false false want e = (refl, refl)

pub taken_next : (m : MarksValue) (o : MarkOpValue) → IsInTurn m.ops → 1 ≤ o.dot.seq → take_answer m o ≡ New
    → o.dot ≡ next_dot o.dot.site m.ops
taken_next m o turn some e =
    let count : ℕ = count_of o.dot.site m.ops in
    let n = is_new (is_of_size m.size o) (is_had o.dot m.ops) (nat_lt (count + 1) o.dot.seq) (count + 1) e in
    let behind = leb-false o.dot.seq count (sym (had_counted o.dot m.ops turn some) ∙ n.0) in
    let within = leb-false (suc (count + 1)) o.dot.seq n.1 in
    let seq : o.dot.seq ≡ count + 1 = omega (arith, behind, within) in
    λ i. record { site = o.dot.site; seq = seq i }

-- the operation is of one of n sites, and made where there are n
pub record IsOfSize (n : ℕ) (o : MarkOpValue) : Type 0 where
  pub size : length o.seen ≡ n
  pub first : 1 ≤ o.dot.site
  pub within : o.dot.site ≤ n
  pub seq : 1 ≤ o.dot.seq

module _ (site : ℕ) (have : List ℕ) (ops : List MarkOpValue) (index : Index)
    (p : AreMarksParts site have ops index) where
  pub get_is_count : (s : ℕ) → 1 ≤ s → s ≤ length have → vector_get have s ≡ count_of s ops
  get_is_count s some few =
      ap (λ (v : List ℕ). vector_get v s) p.counted ∙ get_counts (length have) s ops some few

  pub has_is_had : (d : DotValue) → 1 ≤ d.site → d.site ≤ length have → 1 ≤ d.seq → vector_has have d ≡ is_had d ops
  has_is_had d some few seq =
      ap (nat_le d.seq) (get_is_count d.site some few) ∙ sym (had_counted d ops p.marks.turn seq)

  -- each operation that is there is one
  pub op_at : (k : ℕ) (o : MarkOpValue) → slice_get ops k ≡ Some o → IsMarkOp (length have) o
  op_at k o e = all_in (IsMarkOp (length have)) ops p.marks.each o (In-slice_get ops k o e)

  abbrev marks : MarksValue
  marks = record { site = site; size = length have; ops = ops }

  pub answer_repeat : (o : MarkOpValue) → IsOfSize (length have) o → vector_has have o.dot ≡ true
      → Repeat ≡ take_answer marks o
  answer_repeat o s h =
      sym (answer_at marks o true (nat_lt (count_of o.dot.site ops + 1) o.dot.seq) s.size s.within
      (sym (has_is_had o.dot s.first s.within s.seq) ∙ h) refl)

  pub answer_gap : (o : MarkOpValue) (n : ℕ) → IsOfSize (length have) o → vector_has have o.dot ≡ false
      → n ≡ vector_get have o.dot.site → n + 1 < o.dot.seq → Gap (n + 1) ≡ take_answer marks o
  answer_gap o n s h e behind =
      let count : n ≡ count_of o.dot.site ops = e ∙ get_is_count o.dot.site s.first s.within in
      ap (λ (k : ℕ). Gap (k + 1)) count
      ∙ sym (answer_at marks o false true s.size s.within (sym (has_is_had o.dot s.first s.within s.seq) ∙ h)
      (le-leb (suc (count_of o.dot.site ops + 1)) o.dot.seq (omega (arith, count, behind))))

  pub answer_new : (o : MarkOpValue) (n : ℕ) → IsOfSize (length have) o → vector_has have o.dot ≡ false
      → n ≡ vector_get have o.dot.site → o.dot.seq ≤ n + 1 → New ≡ take_answer marks o
  answer_new o n s h e next =
      let count : n ≡ count_of o.dot.site ops = e ∙ get_is_count o.dot.site s.first s.within in
      sym (answer_at marks o false false s.size s.within (sym (has_is_had o.dot s.first s.within s.seq) ∙ h)
      (lt-leb (suc (count_of o.dot.site ops + 1)) o.dot.seq (omega (arith, count, next))))

  -- there is a number for the next operation of a site
  pub room_for : (o : MarkOpValue) → IsDot o.dot → o.dot.site ≤ length have → o.dot ≡ next_dot o.dot.site ops
      → vector_get have o.dot.site < MAX_SEQ
  room_for o range within next =
      let seq : o.dot.seq ≡ count_of o.dot.site ops + 1 = ap (λ (d : DotValue). d.seq) next in
      let count = get_is_count o.dot.site range.site.least within in
      omega (arith, seq, count, range.greatest)

  -- an index that has all that was listed, and perhaps more
  pub other_index : (later : Index) → KeepsListed index later → AreMarksParts site have ops later
  other_index later kept = record {
    marks = p.marks;
    counted = p.counted;
    number = p.number;
    listed = λ x k o e i. kept x k (p.listed x k o e i);
  }

  -- with one more operation
  pub kept_parts : (o : MarkOpValue) (later : Index) → IsMarkOp (length have) o → 1 ≤ o.dot.site
      → o.dot ≡ next_dot o.dot.site ops → KeepsListed index later
      → ((x : AtomIdValue) → In x o.atoms → In (sum have) (numbers_at later x))
      → AreMarksParts site (vector_bump have o.dot.site) (ops ++ o ∷ []) later
  kept_parts o later is first next kept listed = record {
    marks = record {
      first = p.marks.first;
      own = subst (λ (n : ℕ). site ≤ n) (sym long) p.marks.own;
      each = subst (λ (n : ℕ). AllByRecursion (IsMarkOp n) (ops ++ o ∷ [])) (sym long)
          (all_of (IsMarkOp (length have)) (ops ++ o ∷ []) each);
      turn = came_next ops o p.marks.turn next;
    };
    counted =
        ap (λ (v : List ℕ). vector_bump v o.dot.site) p.counted
        ∙ sym (counts_more (length have) ops o first is.site)
        ∙ ap (λ (n : ℕ). counts n (ops ++ o ∷ [])) (sym long);
    number =
        length-append ops (o ∷ []) ∙ ap (λ (n : ℕ). n + 1) p.number ∙ sym (sum_more have o.dot.site first is.site);
    listed = λ x k q e i. there k q x e i (cases_lt k (length ops));
  }
    where
      long : length (vector_bump have o.dot.site) ≡ length have
      long = length-set have (o.dot.site - 1) (vector_get have o.dot.site + 1)

      each : (q : MarkOpValue) → In q (ops ++ o ∷ []) → IsMarkOp (length have) q
      each q i =
          ⊎_elim
          (λ (k : In q ops). all_in (IsMarkOp (length have)) ops p.marks.each q k)
          (λ (k : In q (o ∷ [])). ⊎_elim
          (λ (e : q ≡ o). subst (IsMarkOp (length have)) (sym e) is) (λ (none : ⊥). absurd none) k)
          (In-append q ops (o ∷ []) i)

      there : (k : ℕ) (q : MarkOpValue) (x : AtomIdValue) → slice_get (ops ++ o ∷ []) k ≡ Some q → In x q.atoms
          → (k < length ops) ⊎ (length ops ≤ k) → In k (numbers_at later x)
      there k q x e i (inl before) = kept x k (p.listed x k q (sym (get_front ops (o ∷ []) k before) ∙ e) i)
      there k q x e i (inr behind) =
          let within = slice_get_within (ops ++ o ∷ []) k q e in
          let all = length-append ops (o ∷ []) in
          let last : k ≡ length ops = omega (arith, behind, within, all) in
          let same : q ≡ o = same_Some q o (sym e ∙ ap (slice_get (ops ++ o ∷ [])) last ∙ get_behind ops o []) in
          subst (λ (n : ℕ). In n (numbers_at later x)) (sym (last ∙ p.number))
          (listed x (subst (λ (r : MarkOpValue). In x r.atoms) same i))

-- ---- what is made

refusal_at : (live made index count : ℕ) (d : Bool) → 1 ≤ count → index + count ≤ live → count ≤ MAX_ATOMS
    → nat_le MAX_SEQ made ≡ d → mark_refusal live made index count ≡ (if d then Some (Limit made) else None)
refusal_at live made index count d some within few e =
    λ i. if ne_eqb count 0 (λ (z : count ≡ 0). none_of z some) i || lt-leb (suc live) (index + count) (omega arith) i
    then Some (Position live)
    else if lt-leb (suc MAX_ATOMS) count (omega arith) i then Some (Wide count)
    else if e i then Some (Limit made) else None
  where
    none_of : count ≡ 0 → 1 ≤ count → ⊥
    none_of z h = omega (arith, z, h)

pub none_refused : (live made index count : ℕ) → 1 ≤ count → index + count ≤ live → count ≤ MAX_ATOMS
    → made < MAX_SEQ → mark_refusal live made index count ≡ None
none_refused live made index count some within few next =
    refusal_at live made index count false some within few (lt-leb MAX_SEQ made next)

pub limit_refused : (live made index count : ℕ) → 1 ≤ count → index + count ≤ live → count ≤ MAX_ATOMS
    → MAX_SEQ ≤ made → mark_refusal live made index count ≡ Some (Limit made)
limit_refused live made index count some within few past =
    refusal_at live made index count true some within few (le-leb MAX_SEQ made past)
