-- The operations of a part of a consistent family are well rooted; so are those of a site at every moment.
use Rattle.std.proofs.Common.{◌≡◌, ◌≢◌, ◌<◌, ℕ, List, [], ◌∷◌, length, Some, refl, sym, ap, ◌∙◌, subst, arith}
use Rattle.std.specs.Prelude.{IsTrue}
use Rattle.td_base.specs.Value.{DotValue, AtomIdValue}
use Rattle.td_base.specs.Lists.{In, Successive}
use Rattle.td_base.proofs.Lists.{all_of}
use Rattle.td_clock.specs.Vector.{vector_has}
use Rattle.td_path.specs.declared.slot.Slot.{Slot}
use Rattle.td_path.specs.declared.slot.Slot.TheVariants.{Root, At}
use Rattle.td_op.specs.declared.body.Body.{Body}
use Rattle.td_op.specs.declared.body.Body.TheVariants.{Insert, Delete, Propose, Commit, Abort}
use Rattle.td_op.specs.Op.{OpValue, named_atom}
use Rattle.td_machine.specs.Counts.{IsInTurn}
use Rattle.td_op.specs.Insertion.{Inserts, insertion_by, insertion_of}
use Rattle.td_machine.specs.History.{Family, Moment, IsConsistent, machine_at}
use Rattle.td_machine.proofs.Family.{not_older, valid_of, full_of, inserted_in_past, size_of}
use Rattle.td_machine.proofs.Family.{log_in_turn, past_covered, past_in_log, op_at}
use Rattle.td_op.specs.declared.insertion.Insertion.{Insertion}
use Rattle.td_order.specs.Insertions.{IsInsertionOf, IsAtomOf}
use Rattle.td_order.specs.LineUp.{DotsDiffer, line_up}
use Rattle.td_order.proofs.OrderOfPart.{past_before}
use Rattle.td_op.specs.Past.{in_past}
use Rattle.td_order.specs.Causal.{IsCausal, IsRootedIn, IsWellRooted}
use Rattle.td_law_logs.specs.Part.{IsPartOf}
use Rattle.td_op.proofs.InsertionLemmas.{from_op}

pub dots_differ : (n : ℕ) (log : List OpValue) → IsInTurn n log → DotsDiffer log
dots_differ n [] c = tt
dots_differ n (x ∷ log) c =
    (all_of (λ (y : OpValue). x.dot ≢ y.dot) log (λ y i e. not_older n x y log c.0 c.1 i e), dots_differ n log c.1)

-- an insertion is its operation
pub record IsInsertBy (a : Insertion) (x : OpValue) : Type 0 where
  pub dot : a.dot ≡ x.dot
  pub deps : a.deps ≡ x.deps
  pub body : x.body ≡ Insert a.slot a.run

pub insertion_parts : (x : OpValue) (a : Insertion) → insertion_of x ≡ Some a → IsInsertBy a x
insertion_parts x a e = at x.body refl e
  where
    same : (d : DotValue) (v : List ℕ) (slot : Slot) (run : List (List ℕ))
        → insertion_by d v (Insert slot run) ≡ Some a → record { dot = d; deps = v; slot = slot; run = run } ≡ a
    same d v slot run k = cc

    at : (b : Body) → x.body ≡ b → insertion_by x.dot x.deps b ≡ Some a → IsInsertBy a x
    at (Insert slot run) f k =
        let s = same x.dot x.deps slot run k in
        record {
          dot = sym (ap (λ (i : Insertion). i.dot) s);
          deps = sym (ap (λ (i : Insertion). i.deps) s);
          body = f ∙ ap (λ (i : Insertion). Insert i.slot i.run) s;
        }
    at (Delete target) f k = absurd cc
    at (Propose slot) f k = absurd cc
    at (Commit p) f k = absurd cc
    at (Abort p) f k = absurd cc

module _ (family : Family) (c : IsConsistent family) (log : List OpValue) (part : IsPartOf family log) where
  causal : IsCausal log
  causal =
      record {
        valid = λ x i. valid_of family c x (part.inside x i);
        one_size = λ x y i j. size_of family c x (part.inside x i) ∙ sym (size_of family c y (part.inside y j));
        knows = λ x y i j past. past_covered family c x y (part.inside x i) (part.inside y j) past;
      }

  full : (a : Insertion) → IsInsertionOf log a → a.run ≢ []
  full a i e =
      let p = insertion_parts i.op a i.is in
      let long : 0 < length a.run = full_of family c i.op (part.inside i.op i.inside) a.slot a.run p.body in
      let none : length a.run ≡ 0 = ap (λ (r : List (List ℕ)). length r) e in
      omega (arith, long, none)

  -- an insert in the log that puts an atom
  put_by : (y : OpValue) (z : AtomIdValue) → In y log → Inserts y z → IsAtomOf log z
  put_by y z i h =
      record {
        insertion = h.insertion;
        inside = record { op = y; inside = i; is = h.is };
        among = h.among;
      }

  rooted : (a : Insertion) → IsInsertionOf log a → IsRootedIn log a a.slot
  unfolding put_by
  rooted a i = at a.slot (insertion_parts i.op a i.is).body
    where
      at : (slot : Slot) → i.op.body ≡ Insert slot a.run → IsRootedIn log a slot
      at Root e = tt
      at (At z bit) e =
          let p = insertion_parts i.op a i.is in
          let h = inserted_in_past family c i.op (part.inside i.op i.inside) z (ap named_atom e) in
          let inside = part.pasts i.op h.0 i.inside h.1 h.2 in
          let before : IsTrue (vector_has a.deps h.0.dot) =
          subst (λ (v : List ℕ). IsTrue (vector_has v h.0.dot)) (sym p.deps) h.2 in
          let dot : h.3.insertion.dot ≡ h.0.dot = (from_op h.0 h.3.insertion h.3.is).dot in
          (put_by h.0 z inside h.3, subst (λ (d : DotValue). IsTrue (vector_has a.deps d)) (sym dot) before)

  pub part_rooted : IsWellRooted log
  part_rooted = record { apart = part.apart; causal = causal; full = full; rooted = rooted }

  pub part_past : Successive (λ (x y : OpValue). ¬ IsTrue (in_past x y)) (line_up log)
  part_past = past_before log causal

module _ (family : Family) (c : IsConsistent family) (t : Moment family) where
  -- what a site has at a moment is a part of the family
  pub moment_part : IsPartOf family (machine_at family t).log
  moment_part =
      record {
        apart = dots_differ (length family) (machine_at family t).log (log_in_turn family c t);
        inside = op_at family c t;
        pasts = past_in_log family c t;
      }
