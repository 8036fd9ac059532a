-- Each operation of a consistent family was made at its site, where it knew all that was known there. So pasts are in
-- order.
use Rattle.std.proofs.Common.{◌≡◌, ◌⊎◌, ◌<◌, ◌≤◌, ◌+◌, ◌++◌, ℕ, suc, List, [], ◌∷◌, Bool, true, false, if◌then◌else◌}
use Rattle.std.proofs.Common.{nat_eq, length, Some, refl, sym, ap, ◌∙◌, subst, inl, inr, ⊎_elim, append_assoc, arith}
use Rattle.std.proofs.lemmas.Bool.{eq-eqb, leb-true, le-leb}
use Rattle.std.specs.Prelude.{IsTrue}
use Rattle.td_base.specs.Value.{DotValue, AtomIdValue}
use Rattle.td_base.specs.Lists.{In}
use Rattle.td_base.proofs.Lists.{In-append, In-back}
use Rattle.td_path.specs.declared.slot.Slot.{Slot}
use Rattle.td_clock.specs.Vector.{vector_get, vector_has, vector_bump, vector_covers}
use Rattle.td_clock.proofs.VectorLemmas.{covers_itself, covers_along, covered_dots, sum_grows}
use Rattle.td_op.specs.declared.message.Message.{Message}
use Rattle.td_op.specs.declared.message.Message.TheVariants.{Op as AnOp, Vote as AVote}
use Rattle.td_op.specs.declared.body.Body.{Body}
use Rattle.td_op.specs.declared.body.Body.TheVariants.{Insert, Propose}
use Rattle.td_op.specs.declared.vote.Vote.{Vote}
use Rattle.td_op.specs.Op.{OpValue, IsOp, named_atom}
use Rattle.td_op.specs.Past.{in_past, op_sum}
use Rattle.td_op.specs.Insertion.{Inserts}
use Rattle.td_machine.specs.Counts.{counts, ops_of, IsNext, IsInTurn}
use Rattle.td_machine.specs.Machine.{Machine, next_op}
use Rattle.td_machine.specs.History.{Family, Moment, IsConsistent, IsOpOf, machine_at, log_of}
use Rattle.td_base.proofs.Elements.{In-behind, cut_at, CutAt}
use Rattle.td_machine.proofs.Vectors.{bump_covers}
use Rattle.td_machine.specs.Parts.{Part, Makes, Proposes, Takes, Agrees, Declines, IsBuilt}
use Rattle.td_machine.proofs.Parts.{IsDone, Own, Other, by_parts}
use Rattle.td_machine.proofs.Turns.{length_counts, placed, counted, by_each}
use Rattle.td_machine.proofs.Counting.{total, older_in_turn, numbered, past_found, Found}
use Rattle.td_machine.proofs.Naming.{IsSound, sound, names}
use Rattle.td_machine.proofs.Induction.{IsSent, the_end, built_at, log_grows}

-- ---- one number, one operation

seq_within : (n : ℕ) (x : OpValue) (log : List OpValue) → IsInTurn n log → In x log
    → x.dot.seq ≤ length (ops_of x.dot.site log)
seq_within n x [] c i = absurd i
seq_within n x (y ∷ log) c (inl e) =
    let number : y.dot.seq ≡ length (ops_of y.dot.site log) + 1 = numbered n y log c.0 c.1 in
    let one : length (ops_of y.dot.site (y ∷ log)) ≡ suc (length (ops_of y.dot.site log)) =
    ap (λ (b : Bool). length (if b then y ∷ ops_of y.dot.site log else ops_of y.dot.site log))
    (eq-eqb y.dot.site y.dot.site refl) in
    subst (λ (z : OpValue). z.dot.seq ≤ length (ops_of z.dot.site (y ∷ log))) (sym e) (omega (arith, number, one))
seq_within n x (y ∷ log) c (inr i) = longer (nat_eq y.dot.site x.dot.site) (seq_within n x log c.1 i)
  where
    longer : (b : Bool) → x.dot.seq ≤ length (ops_of x.dot.site log)
        → x.dot.seq ≤ length (if b then y ∷ ops_of x.dot.site log else ops_of x.dot.site log)
    longer true h = omega (arith, h)
    longer false h = h

pub not_older : (n : ℕ) (x y : OpValue) (log : List OpValue) → IsNext (counts n log) x → IsInTurn n log → In y log
    → x.dot ≡ y.dot → ⊥
not_older n x y log next c i e =
    let number : x.dot.seq ≡ length (ops_of x.dot.site log) + 1 = numbered n x log next c in
    let below : y.dot.seq ≤ length (ops_of y.dot.site log) = seq_within n y log c i in
    let seq : x.dot.seq ≡ y.dot.seq = ap (λ (d : DotValue). d.seq) e in
    let count : length (ops_of x.dot.site log) ≡ length (ops_of y.dot.site log) =
    ap (λ (d : DotValue). length (ops_of d.site log)) e in
    omega (arith, number, below, seq, count)

pub unique : (n : ℕ) (x y : OpValue) (log : List OpValue) → IsInTurn n log → In x log → In y log → x.dot ≡ y.dot → x ≡ y
unique n x y [] c i j e = absurd i
unique n x y (z ∷ log) c (inl p) (inl q) e = p ∙ sym q
unique n x y (z ∷ log) c (inl p) (inr j) e =
    absurd (not_older n x y log (subst (λ (w : OpValue). IsNext (counts n log) w) (sym p) c.0) c.1 j e)
unique n x y (z ∷ log) c (inr i) (inl q) e =
    absurd (not_older n y x log (subst (λ (w : OpValue). IsNext (counts n log) w) (sym q) c.0) c.1 i (sym e))
unique n x y (z ∷ log) c (inr i) (inr j) e = unique n x y log c.1 i j e

-- what is in a causal log is had by the vector that counts it
pub counted_had : (n : ℕ) (y : OpValue) (log : List OpValue) → IsInTurn n log → In y log
    → IsTrue (vector_has (counts n log) y.dot)
counted_had n y log c i =
    let s : CutAt y log = cut_at y log i in
    let next = (older_in_turn n s.front y s.back (subst (λ (l : List OpValue). IsInTurn n l) s.is c)).0 in
    let within : y.dot.site ≤ length (counts n s.back) = next.within in
    let size : length (counts n s.back) ≡ n = length_counts n s.back in
    let below : y.dot.seq ≤ length (ops_of y.dot.site log) = seq_within n y log c i in
    let count : vector_get (counts n log) y.dot.site ≡ length (ops_of y.dot.site log) =
    total n y.dot.site log next.some (omega (arith, within, size)) c in
    le-leb y.dot.seq (vector_get (counts n log) y.dot.site) (omega (arith, below, count))

-- ---- a longer log counts more

counts_cover : (n : ℕ) (front log : List OpValue) → IsInTurn n (front ++ log)
    → IsTrue (vector_covers (counts n (front ++ log)) (counts n log))
counts_cover n [] log c = covers_itself (counts n log)
counts_cover n (x ∷ front) log c =
    covers_along (vector_bump (counts n (front ++ log)) x.dot.site) (counts n (front ++ log)) (counts n log)
    (bump_covers (counts n (front ++ log)) x.dot.site c.0.some c.0.within) (counts_cover n front log c.1)

-- ---- what a site made, it had and sent, and it knew all that was known there

module _ {Came : Message → Type 0} {site size : ℕ} where
  -- the vector of each operation made at the site counts what is older in the log
  own_deps : (m : Machine) → IsBuilt Came site size m → (newer : List OpValue) (x : OpValue) (older : List OpValue)
      → m.log ≡ newer ++ x ∷ older → x.dot.site ≡ m.site → x.deps ≡ counts m.size older
  own_deps = by_each (λ s n x older. x.dot.site ≡ s → x.deps ≡ counts n older) comes
    where
      comes : (m : Machine) → IsBuilt Came site size m → (x : OpValue) → IsDone Came m x → x.dot.site ≡ m.site
          → x.deps ≡ counts m.size m.log
      comes m b x (Own body may) e = (counted m b).0
      comes m b x (Other y fit) e = absurd (fit.offered.other e)

  pub sent_ops : (m : Machine) → IsBuilt Came site size m → (x : OpValue) → In (AnOp x) m.sent
      → In x m.log × (x.dot.site ≡ m.site)
  sent_ops =
      by_parts (λ (m : Machine). (x : OpValue) → In (AnOp x) m.sent → In x m.log × (x.dot.site ≡ m.site))
      (λ some within x i. absurd i) keeps
    where
      more : (m : Machine) (y x : OpValue) → (In (AnOp x) m.sent → In x m.log × (x.dot.site ≡ m.site))
          → In (AnOp x) m.sent → In x (y ∷ m.log) × (x.dot.site ≡ m.site)
      more m y x h i = let k = h i in (inr k.0, k.1)

      made : (m : Machine) (body : Body) (x : OpValue) → (In (AnOp x) m.sent → In x m.log × (x.dot.site ≡ m.site))
          → In (AnOp x) m.sent ⊎ In (AnOp x) (AnOp (next_op m body) ∷ [])
          → In x (next_op m body ∷ m.log) × (x.dot.site ≡ m.site)
      made m body x h (inl i) = more m (next_op m body) x h i
      made m body x h (inr (inl e)) =
          let k : x ≡ next_op m body = same x (next_op m body) e in (inl k, ap (λ (z : OpValue). z.dot.site) k)
        where
          same : (x y : OpValue) → AnOp x ≡ AnOp y → x ≡ y
          same x y e = cc
      made m body x h (inr (inr i)) = absurd i

      voted : (sent : List Message) (v : Vote) (x : OpValue) → In (AnOp x) sent ⊎ In (AnOp x) (AVote v ∷ [])
          → In (AnOp x) sent
      voted sent v x (inl i) = i
      voted sent v x (inr (inl e)) = absurd cc
      voted sent v x (inr (inr i)) = absurd i

      keeps : (m n : Machine) → IsBuilt Came site size m → Part Came m n
          → ((x : OpValue) → In (AnOp x) m.sent → In x m.log × (x.dot.site ≡ m.site))
          → (x : OpValue) → In (AnOp x) n.sent → In x n.log × (x.dot.site ≡ n.site)
      keeps m n b (Makes body e may) h =
          λ x i. made m body x (h x) (In-append (AnOp x) m.sent (AnOp (next_op m body) ∷ []) i)
      keeps m n b (Proposes slot may) h =
          λ x i. made m (Propose slot) x (h x) (In-append (AnOp x) m.sent (AnOp (next_op m (Propose slot)) ∷ []) i)
      keeps m n b (Takes y e fit) h = λ x i. more m y x (h x) i
      keeps m n b (Agrees y slot e fit says) h =
          λ x i. more m y x (h x) (voted m.sent _ x (In-append (AnOp x) m.sent _ i))
      keeps m n b (Declines y slot e fit says) h =
          λ x i. more m y x (h x) (voted m.sent _ x (In-append (AnOp x) m.sent _ i))
      keeps m n b part h = h

-- ---- one consistent family

module _ (family : Family) (c : IsConsistent family) where
  abbrev n : ℕ
  n = length family

  abbrev Legal : ℕ → Type 0
  Legal site = (0 < site) × (site ≤ n)

  -- made at its site
  abbrev Made : OpValue → Type 0
  Made x = Legal x.dot.site × In x (log_of family x.dot.site)

  -- the last moment of a site
  abbrev end : (site : ℕ) → Legal site → Moment family
  end site l = the_end family site l.0 l.1

  pub log_in_turn : (t : Moment family) → IsInTurn n (machine_at family t).log
  log_in_turn t =
      let b = built_at family c t in
      subst (λ (k : ℕ). IsInTurn k (machine_at family t).log) (placed (machine_at family t) b).3
      (counted (machine_at family t) b).1

  -- what comes was sent, so it was made at its site
  made_or_own : (t : Moment family) (m : Machine) → IsBuilt (IsSent family t.site) t.site n m → (x : OpValue)
      → IsDone (IsSent family t.site) m x → Made x ⊎ (x.dot.site ≡ m.site)
  made_or_own t m b x (Own body may) = inr refl
  made_or_own t m b x (Other y fit) =
      let own : y.dot.site ≤ length y.deps = fit.offered.valid.op.own in
      let sized : length y.deps ≡ m.size = fit.offered.sized in
      let size : m.size ≡ n = (placed m b).3 in
      let l : Legal y.dot.site = (fit.offered.valid.dot.site.least, omega (arith, own, sized, size)) in
      let home : Moment family = end y.dot.site l in
      inl (l, (sent_ops (machine_at family home) (built_at family c home) y fit.offered.came.sent).0)

  -- what a site has made or taken at a moment is an operation of the family, and was made at its site
  pub in_end : (t : Moment family) (x : OpValue) → In x (machine_at family t).log → In x (log_of family t.site)
  in_end t x i =
      let g = log_grows family c t in
      subst (λ (log : List OpValue). In x log) (sym g.1) (In-back x g.0 (machine_at family t).log i)

  pub op_at : (t : Moment family) (x : OpValue) → In x (machine_at family t).log → IsOpOf family x
  op_at t x i = record { site = t.site; some = t.some; within = t.within; inside = in_end t x i }

  made_then : (t : Moment family) (x : OpValue) → In x (machine_at family t).log → Made x
  made_then t x i =
      let m : Machine = machine_at family t in
      let b = built_at family c t in
      let s : CutAt x m.log = cut_at x m.log i in
      ⊎_elim (λ (k : Made x). k)
      (λ (e : x.dot.site ≡ m.site).
      let own : t.site ≡ x.dot.site = sym (e ∙ (placed m b).2) in (
        subst Legal own (t.some, t.within),
        subst (λ (site : ℕ). In x (log_of family site)) own (in_end t x i),
      ))
      (by_each (λ site size y older. Made y ⊎ (y.dot.site ≡ site)) (made_or_own t) m b s.front x s.back s.is)

  made_there : (x : OpValue) → IsOpOf family x → Made x
  made_there x o = made_then (end o.site (o.some, o.within)) x o.inside

  -- where it stands in the log of its site
  pub record Place (x : OpValue) : Type 0 where
    pub newer : List OpValue
    pub older : List OpValue
    pub is : log_of family x.dot.site ≡ newer ++ x ∷ older
    pub deps : x.deps ≡ counts n older
    pub next : IsNext (counts n older) x
    pub turn : IsInTurn n older

  deps_there : (x : OpValue) (l : Legal x.dot.site) (newer older : List OpValue)
      → log_of family x.dot.site ≡ newer ++ x ∷ older → x.deps ≡ counts n older
  deps_there x l newer older is =
      let m : Machine = machine_at family (end x.dot.site l) in
      let b = built_at family c (end x.dot.site l) in
      let p = placed m b in
      own_deps m b newer x older is (sym p.2) ∙ ap (λ (k : ℕ). counts k older) p.3

  pub place : (x : OpValue) → IsOpOf family x → Place x
  place x o =
      let m : Made x = made_there x o in
      let s : CutAt x (log_of family x.dot.site) = cut_at x (log_of family x.dot.site) m.1 in
      let k =
      older_in_turn n s.front x s.back
      (subst (λ (log : List OpValue). IsInTurn n log) s.is (log_in_turn (end x.dot.site m.0))) in
      record {
        newer = s.front;
        older = s.back;
        is = s.is;
        deps = deps_there x m.0 s.front s.back s.is;
        next = k.0;
        turn = k.1;
      }

  positive : (x : OpValue) → IsOpOf family x → 0 < x.dot.seq
  positive x o =
      let p : Place x = place x o in
      let k : x.dot.seq ≡ vector_get (counts n p.older) x.dot.site + 1 = p.next.next in
      omega (arith, k)

  -- what is in the past of an operation of a log is older there
  pub past_in_older : (t : Moment family) (newer : List OpValue) (x : OpValue) (older : List OpValue)
      → (machine_at family t).log ≡ newer ++ x ∷ older → (y : OpValue) → IsOpOf family y → IsTrue (in_past y x)
      → In y older
  past_in_older t newer x older is y o past =
      let p = older_in_turn n newer x older (subst (λ (log : List OpValue). IsInTurn n log) is (log_in_turn t)) in
      let my : Made y = made_there y o in
      let f : Found y.dot older = past_found n x older p.0 p.1 y.dot my.0.0 (positive y o) past in
      let inside : In f.op (machine_at family t).log =
      subst (λ (log : List OpValue). In f.op log) (sym is) (In-behind f.op newer x older f.inside) in
      let there : In f.op (log_of family y.dot.site) =
      subst (λ (d : DotValue). In f.op (log_of family d.site)) f.is (made_then t f.op inside).1 in
      subst (λ (z : OpValue). In z older)
      (unique n f.op y (log_of family y.dot.site) (log_in_turn (end y.dot.site my.0)) there my.1 f.is) f.inside

  -- so it is in the log
  pub past_in_log : (t : Moment family) (x y : OpValue) → In x (machine_at family t).log → IsOpOf family y
      → IsTrue (in_past y x)
      → In y (machine_at family t).log
  past_in_log t x y i o past =
      let s : CutAt x (machine_at family t).log = cut_at x (machine_at family t).log i in
      subst (λ (log : List OpValue). In y log) (sym s.is)
      (In-behind y s.front x s.back (past_in_older t s.front x s.back s.is y o past))

  -- where it was made an operation knew all that was older there
  pub older_in_past : (newer : List OpValue) (x : OpValue) (older : List OpValue)
      → log_of family x.dot.site ≡ newer ++ x ∷ older
      → IsOpOf family x → (y : OpValue) → In y older → IsTrue (in_past y x)
  older_in_past newer x older is o y i =
      let l : Legal x.dot.site = (made_there x o).0 in
      let turn =
      older_in_turn n newer x older
      (subst (λ (log : List OpValue). IsInTurn n log) is (log_in_turn (end x.dot.site l))) in
      subst (λ (v : List ℕ). IsTrue (vector_has v y.dot)) (sym (deps_there x l newer older is))
      (counted_had n y older turn.1 i)

  pub past_covered : (x y : OpValue) → IsOpOf family x → IsOpOf family y → IsTrue (in_past x y)
      → IsTrue (vector_covers y.deps x.deps)
  past_covered x y o q past =
      let p : Place y = place y q in
      let s : CutAt x p.older =
      cut_at x p.older (past_in_older (end y.dot.site (made_there y q).0) p.newer y p.older p.is x o past) in
      let split : p.older ≡ (s.front ++ x ∷ []) ++ s.back = s.is ∙ sym (append_assoc s.front (x ∷ []) s.back) in
      let next : IsNext (counts n s.back) x =
      (older_in_turn n s.front x s.back (subst (λ (log : List OpValue). IsInTurn n log) s.is p.turn)).0 in
      let covered : IsTrue (vector_covers (counts n p.older) (counts n s.back)) =
      subst (λ (log : List OpValue). IsTrue (vector_covers (counts n log) (counts n s.back))) (sym split)
      (counts_cover n (s.front ++ x ∷ []) s.back (subst (λ (log : List OpValue). IsInTurn n log) split p.turn)) in
      subst (λ (v : List ℕ). IsTrue (vector_covers v x.deps)) (sym p.deps)
      (covers_along (counts n p.older) (counts n s.back) x.deps covered next.past)

  pub not_own_past : (x : OpValue) → IsOpOf family x → ¬ IsTrue (in_past x x)
  not_own_past x o past =
      let p : Place x = place x o in
      let number : vector_get x.deps x.dot.site + 1 ≡ x.dot.seq =
      ap (λ (v : List ℕ). vector_get v x.dot.site + 1) p.deps ∙ sym p.next.next in
      let known : x.dot.seq ≤ vector_get x.deps x.dot.site = leb-true x.dot.seq (vector_get x.deps x.dot.site) past in
      omega (arith, number, known)

  pub past_of_past : (x y z : OpValue) → IsOpOf family x → IsOpOf family y → IsOpOf family z → IsTrue (in_past x y)
      → IsTrue (in_past y z) → IsTrue (in_past x z)
  past_of_past x y z o p q first second = covered_dots z.deps y.deps (past_covered y z p q second) x.dot first

  pub size_of : (x : OpValue) → IsOpOf family x → length x.deps ≡ n
  size_of x o = let p : Place x = place x o in p.next.size ∙ length_counts n p.older

  pub past_is_smaller : (x y : OpValue) → IsOpOf family x → IsOpOf family y → IsTrue (in_past x y) → op_sum x < op_sum y
  past_is_smaller x y o q past =
      sum_grows y.deps x.deps (size_of y q ∙ sym (size_of x o)) (past_covered x y o q past)
      (λ (e : y.deps ≡ x.deps). not_own_past x o (subst (λ (v : List ℕ). IsTrue (vector_has v x.dot)) e past))

  -- ---- what operations are

  sound_of : (x : OpValue) → IsOpOf family x → IsSound x
  sound_of x o =
      let t : Moment family = end o.site (o.some, o.within) in
      let s : CutAt x (log_of family o.site) = cut_at x (log_of family o.site) o.inside in
      sound (machine_at family t) (built_at family c t) s.front x s.back s.is

  pub valid_of : (x : OpValue) → IsOpOf family x → IsOp x
  valid_of x o = (sound_of x o).op

  pub full_of : (x : OpValue) → IsOpOf family x → (slot : Slot) (run : List (List ℕ)) → x.body ≡ Insert slot run
      → 0 < length run
  full_of x o = (sound_of x o).full

  pub inserted_in_past : (x : OpValue) → IsOpOf family x → (z : AtomIdValue) → named_atom x.body ≡ Some z
      → (y : OpValue) × IsOpOf family y × IsTrue (in_past y x) × Inserts y z
  inserted_in_past x o z e =
      let l : Legal x.dot.site = (made_there x o).0 in
      let t : Moment family = end x.dot.site l in
      let m : Machine = machine_at family t in
      let b = built_at family c t in
      let p : Place x = place x o in
      let y = names m b p.newer x p.older p.is (sym (placed m b).2) z e in
      let inside : In y.0 (log_of family x.dot.site) =
      subst (λ (log : List OpValue). In y.0 log) (sym p.is) (In-behind y.0 p.newer x p.older y.1) in
      (y.0, op_at t y.0 inside, older_in_past p.newer x p.older p.is o y.0 y.1, y.2)

  -- and it was made there
  pub made_at : (x : OpValue) → IsOpOf family x → (0 < x.dot.site) × (x.dot.site ≤ n) × In x (log_of family x.dot.site)
  made_at x o = let m : Made x = made_there x o in (m.0.0, m.0.1, m.1)
