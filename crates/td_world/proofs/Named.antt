-- What a site of a consistent family sent names no operation of another site that this one has still to make.
use Rattle.std.proofs.Common.{◌≡◌, ◌<◌, ◌≤◌, ℕ, List, Bool, true, false, nat_eq, length, refl, sym, subst, arith}
use Rattle.std.proofs.lemmas.Bool.{eqb-true, eqb-false, leb-true, le-leb}
use Rattle.std.specs.Prelude.{IsTrue}
use Rattle.td_base.specs.Value.{DotValue}
use Rattle.td_base.specs.Lists.{In}
use Rattle.td_base.proofs.Elements.{In-behind, cut_at, CutAt}
use Rattle.td_clock.specs.Vector.{vector_get, vector_has}
use Rattle.td_op.specs.declared.message.Message.{Message}
use Rattle.td_op.specs.declared.message.Message.TheVariants.{Op as AnOp, Vote as AVote}
use Rattle.td_op.specs.Op.{OpValue}
use Rattle.td_machine.specs.Machine.{Machine, made}
use Rattle.td_machine.specs.History.{Family, IsConsistent, IsOpOf, IsReached, IsAddressed, machine, log_of, known_of}
use Rattle.td_machine.proofs.Family.{sent_ops, made_at}
use Rattle.td_machine.proofs.Induction.{IsSent, the_end, built_at, reached_at}
use Rattle.td_machine.proofs.OwnProposals.{logged_had}
use Rattle.td_machine.specs.Parts.{IsBuilt}
use Rattle.td_machine.proofs.Reached.{past_of}
use Rattle.td_machine.proofs.Turns.{placed}
use Rattle.td_world.proofs.Sending.{IsSending, sending}

module _ (family : Family) (c : IsConsistent family) where
  -- a site's machine at the end
  pub built_end : (site : ℕ) → 0 < site → site ≤ length family
      → IsBuilt (IsSent family site) site (length family) (machine family site)
  built_end site some within = built_at family c (the_end family site some within)

  pub reached_end : (site : ℕ) → 0 < site → site ≤ length family → IsReached (machine family site)
  reached_end site some within = reached_at family c (the_end family site some within)

  pub site_is : (site : ℕ) → 0 < site → site ≤ length family → (machine family site).site ≡ site
  site_is site some within = (placed (machine family site) (built_end site some within)).2

  pub size_is : (site : ℕ) → 0 < site → site ≤ length family → (machine family site).size ≡ length family
  size_is site some within = (placed (machine family site) (built_end site some within)).3

  pub sending_end : (site : ℕ) → 0 < site → site ≤ length family → IsSending (machine family site)
  sending_end site some within = sending (machine family site) (built_end site some within)

  -- an operation is one of those that its site made
  pub made_home : (y : OpValue) → IsOpOf family y → y.dot.seq ≤ made (machine family y.dot.site)
  made_home y o =
      let k = made_at family c y o in
      let m : Machine = machine family y.dot.site in
      let had : y.dot.seq ≤ vector_get m.have y.dot.site =
      leb-true y.dot.seq (vector_get m.have y.dot.site) (logged_had m (built_end y.dot.site k.0 k.1) y k.2) in
      subst (λ (s : ℕ). y.dot.seq ≤ vector_get m.have s) (sym (site_is y.dot.site k.0 k.1)) had

  made_of : (y : OpValue) → IsOpOf family y → (d : DotValue) → y.dot ≡ d → d.seq ≤ made (machine family d.site)
  made_of y o d e = subst (λ (z : DotValue). z.seq ≤ made (machine family z.site)) e (made_home y o)

  -- what an operation knew of a site was made there
  pub past_there : (s : ℕ) → 0 < s → s ≤ length family → (x : OpValue) → In x (log_of family s) → (site : ℕ)
      → 0 < site → 0 < vector_get x.deps site
      → (y : OpValue) × IsOpOf family y × (y.dot ≡ record { site = site; seq = vector_get x.deps site })
      × IsTrue (vector_has x.deps y.dot)
  past_there s some within x i site up less =
      let split : CutAt x (log_of family s) = cut_at x (log_of family s) i in
      let d : DotValue = record { site = site; seq = vector_get x.deps site } in
      let has : IsTrue (vector_has x.deps d) =
      le-leb (vector_get x.deps site) (vector_get x.deps site) (omega arith) in
      let y =
      past_of (machine family s) (reached_end s some within) split.front x split.back split.is d up less has in
      let inside : In y.0 (log_of family s) =
      subst (λ (log : List OpValue). In y.0 log) (sym split.is) (In-behind y.0 split.front x split.back y.1) in (
        y.0,
        record { site = s; some = some; within = within; inside = inside },
        y.2,
        subst (λ (e : DotValue). IsTrue (vector_has x.deps e)) (sym y.2) has,
      )

  pub own_named : (s : ℕ) → 0 < s → s ≤ length family → (site : ℕ) → 0 < site → site ≤ length family
      → (message : Message) → In message (machine family s).sent → IsAddressed site message
      → known_of site message ≤ made (machine family site)
  own_named s some within site up low (AnOp x) i to = at (nat_eq (vector_get x.deps site) 0) refl
    where
      at : (b : Bool) → nat_eq (vector_get x.deps site) 0 ≡ b → vector_get x.deps site ≤ made (machine family site)
      at true e = let none : vector_get x.deps site ≡ 0 = eqb-true (vector_get x.deps site) 0 e in omega (arith, none)
      at false e =
          let other = eqb-false (vector_get x.deps site) 0 e in
          let inside = (sent_ops (machine family s) (built_end s some within) x i).0 in
          let y = past_there s some within x inside site up (positive (vector_get x.deps site) other) in
          made_of y.0 y.1 (record { site = site; seq = vector_get x.deps site }) y.2
        where
          positive : (k : ℕ) → (k ≡ 0 → ⊥) → 0 < k
          positive k apart = omega (arith, apart)
  own_named s some within site up low (AVote v) i to =
      let q = (sending_end s some within).votes v i in
      let k : v.proposal.seq ≤ made (machine family v.proposal.site) =
      made_of q.0 (record { site = s; some = some; within = within; inside = q.1 }) v.proposal q.2 in
      subst (λ (t : ℕ). v.proposal.seq ≤ made (machine family t)) to k
