-- No edit that touches the slot of a commit is concurrent with it.
use Rattle.std.proofs.Common.{◌≡◌, ◌++◌, List, ◌∷◌, length, refl, sym, ap, ◌∙◌, subst, inl, inr, ⊎_elim}
use Rattle.td_base.specs.Lists.{In}
use Rattle.td_op.specs.declared.body.Body.{Body}
use Rattle.td_op.specs.declared.body.Body.TheVariants.{Insert, Delete, Propose, Commit, Abort}
use Rattle.td_op.specs.Op.{OpValue}
use Rattle.td_doc.specs.Document.{DocRow}
use Rattle.td_doc.specs.Slots.{rows_in_slot}
use Rattle.td_machine.specs.Counts.{IsInTurn}
use Rattle.td_machine.specs.Touches.{IsRowOf}
use Rattle.td_machine.specs.Replay.{doc_of}
use Rattle.td_machine.specs.History.{Family, Moment, IsConsistent, IsOpOf, log_of, machine_at}
use Rattle.td_machine.proofs.Family.{made_at}
use Rattle.td_machine.proofs.Induction.{log_grows}
use Rattle.td_law_logs.specs.Logs.{IsLogOf, before, base_from, base, origin}
use Rattle.td_law_logs.proofs.Moments.{log_causal, moment_of, moment_log}
use Rattle.td_law_logs.proofs.Fitting.{moment_doc}
use Rattle.td_law_logs.proofs.Rows.{held_in}
use Rattle.td_law_logs.proofs.Bases.{before_is, log_at_is, past_of_base}
use Rattle.td_law_logs.proofs.Steps.{doc}
use Rattle.td_law_commitment.specs.Promises.{NoConcurrentEdit}
use Rattle.td_law_commitment.proofs.Voted.{voted}

module _ (family : Family) (c : IsConsistent family) where
  -- what a site's log had before an edit that it made is the base of the edit
  earlier_base : (e : OpValue) → IsOpOf family e → origin e.dot e.body ≡ e.dot → (newer earlier : List OpValue)
      → log_of family e.dot.site ≡ newer ++ e ∷ earlier → earlier ≡ base family e
  earlier_base e ke edit newer earlier is =
      let m = made_at family c e ke in
      let turn : IsInTurn (length family) (newer ++ e ∷ earlier) =
      subst (λ (z : List OpValue). IsInTurn (length family) z) is (log_causal family c e.dot.site m.0 m.1) in
      sym (ap (before e.dot) (log_at_is family c e.dot.site m.0 ∙ is)
      ∙ (before_is (length family) newer e earlier turn).0)
      ∙ ap (base_from family) (sym edit)

  -- an edit that touches the slot of a commit is in its past, or has it in its own
  pub no_concurrent_edit : NoConcurrentEdit family
  no_concurrent_edit d q e slot k ke t =
      let m = made_at family c e ke in
      let at : Moment family = moment_of family e.dot.site m.0 m.1 t.front t.back t.split in
      let g = log_grows family c at in
      let l : IsLogOf family (e ∷ t.earlier) = subst (λ (log : List OpValue). IsLogOf family log) t.newest
      (moment_log family c at) in
      let rows : (machine_at family at).doc ≡ doc_of (e ∷ t.earlier) = moment_doc family c at ∙ ap doc_of t.newest in
      let i : In t.row (rows_in_slot (doc_of (e ∷ t.earlier)) slot) =
      subst (λ (r : List DocRow). In t.row (rows_in_slot r slot)) rows t.inside in
      let h = held_in (doc_of (e ∷ t.earlier)) (doc family c (e ∷ t.earlier) l) slot t.row i in
      let same : t.earlier ≡ base family e =
      earlier_base e ke (edit e.body t.own) g.0 t.earlier (g.1 ∙ ap (λ (z : List OpValue). g.0 ++ z) t.newest) in
      ⊎_elim (λ (z : In e (base family d)). inl (past_of_base family c d e k.inside z))
      (λ (z : In d (base family e)). inr (past_of_base family c e d ke z))
      ((voted family c).beside e d q slot ke k t.row
      (subst (λ (log : List OpValue). In t.row (doc_of (e ∷ log))) same h.0) t.own h.1)
    where
      edit : (b : Body) → IsRowOf e b t.row → origin e.dot b ≡ e.dot
      edit (Insert s run) o = refl
      edit (Delete target) o = refl
      edit (Propose s) o = absurd o
      edit (Commit p) o = absurd o
      edit (Abort p) o = absurd o
