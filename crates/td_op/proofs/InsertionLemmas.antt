-- The insertions among operations.
use Rattle.std.proofs.Common.{◌≡◌, ◌⊎◌, ℕ, List, [], ◌∷◌, Option, Some, None, refl}
use Rattle.std.proofs.Common.{sym, ap, ◌∙◌, subst, inl, inr, ⊎_elim}
use Rattle.std.specs.List.{cons_option}
use Rattle.td_base.specs.Value.{DotValue, AtomIdValue}
use Rattle.td_base.specs.Lists.{In}
use Rattle.td_base.proofs.RunIds.{run_id_dot}
use Rattle.td_op.specs.declared.body.Body.{Body}
use Rattle.td_op.specs.declared.body.Body.TheVariants.{Insert, Delete, Propose, Commit, Abort}
use Rattle.td_op.specs.declared.insertion.Insertion.{Insertion}
use Rattle.td_op.specs.Op.{OpValue}
use Rattle.td_op.specs.Insertion.{Inserts, insertion_by, insertion_of, insertions}

-- an insertion has the dot and the dependencies of its operation
pub record From (i : Insertion) (o : OpValue) : Type 0 where
  pub dot : i.dot ≡ o.dot
  pub deps : i.deps ≡ o.deps

from_body : (d : DotValue) (v : List ℕ) (b : Body) (i : Insertion) → insertion_by d v b ≡ Some i → (i.dot ≡ d)
    × (i.deps ≡ v)
from_body d v (Insert s run) i e = let a : record { dot = d; deps = v; slot = s; run = run } ≡ i = cc in
    (ap (λ (x : Insertion). x.dot) (sym a), ap (λ (x : Insertion). x.deps) (sym a))
from_body d v (Delete t) i e = cc
from_body d v (Propose s) i e = cc
from_body d v (Commit p) i e = cc
from_body d v (Abort p) i e = cc

pub from_op : (o : OpValue) (i : Insertion) → insertion_of o ≡ Some i → From i o
from_op o i e = let r = from_body o.dot o.deps o.body i e in record { dot = r.0; deps = r.1 }

-- the atoms that an operation puts have its dot
pub inserted_dot : (x : OpValue) (atom : AtomIdValue) → Inserts x atom → atom.dot ≡ x.dot
inserted_dot x atom h = run_id_dot h.insertion.dot 0 h.insertion.run atom h.among ∙ (from_op x h.insertion h.is).dot

In-cons_option : (i : Insertion) (m : Option Insertion) (is : List Insertion) → In i (cons_option m is) → (m ≡ Some i)
    ⊎ In i is
In-cons_option i None is h = inr h
In-cons_option i (Some j) is h = ⊎_elim (λ e. inl (ap (λ x. Some x) (sym e))) (λ k. inr k) h

cons_option-In : (i : Insertion) (m : Option Insertion) (is : List Insertion) → (m ≡ Some i) ⊎ In i is
    → In i (cons_option m is)
cons_option-In i None is h = ⊎_elim (λ (e : None ≡ Some i). absurd (cc)) (λ k. k) h
cons_option-In i (Some j) is h = ⊎_elim (λ (e : Some j ≡ Some i). let p : j ≡ i = cc in inl (sym p)) (λ k. inr k) h

pub In-insertions : (ops : List OpValue) (i : Insertion) → In i (insertions ops) → (o : OpValue) × In o ops
    × (insertion_of o ≡ Some i)
In-insertions [] i h = absurd h
In-insertions (o ∷ ops) i h =
    ⊎_elim (λ e. (o, inl refl, e)) (λ k. let r = In-insertions ops i k in (r.0, inr r.1, r.2))
    (In-cons_option i (insertion_of o) (insertions ops) h)

pub insertions-In : (ops : List OpValue) (o : OpValue) (i : Insertion) → In o ops → insertion_of o ≡ Some i
    → In i (insertions ops)
insertions-In [] o i h e = absurd h
insertions-In (p ∷ ops) o i h e =
    cons_option-In i (insertion_of p) (insertions ops)
    (⊎_elim (λ (k : o ≡ p). inl (subst (λ x. insertion_of x ≡ Some i) k e)) (λ k. inr (insertions-In ops o i k e)) h)
