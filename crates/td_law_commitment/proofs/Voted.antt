-- Every consistent family is voted: what was taken of votes and holds is proved.
use Rattle.std.proofs.Common.{◌≡◌, ◌⊎◌, ◌++◌, ℕ, List, [], ◌∷◌, length, true, Option, Some}
use Rattle.std.proofs.Common.{None, refl, sym, ap, ◌∙◌, subst, inl, inr, ⊎_elim}
use Rattle.td_base.specs.Lists.{In}
use Rattle.td_path.specs.declared.slot.Slot.{Slot}
use Rattle.td_op.specs.declared.body.Body.{Body}
use Rattle.td_op.specs.declared.body.Body.TheVariants.{Insert, Delete, Propose, Commit, Abort}
use Rattle.td_op.specs.Op.{OpValue}
use Rattle.td_doc.specs.Document.{DocRow, row_id}
use Rattle.td_doc.specs.Array.{named}
use Rattle.td_doc.specs.Slots.{overlaps}
use Rattle.td_machine.specs.Touches.{IsRowOf}
use Rattle.td_machine.specs.History.{Family, IsConsistent, IsOpOf, log_of}
use Rattle.td_machine.proofs.Family.{made_at}
use Rattle.td_machine.specs.Replay.{doc_of}
use Rattle.td_law_logs.specs.Logs.{base_from, base, origin, slot_of, IsCommit}
use Rattle.td_law_logs.specs.Places.{slot_holds, overlap_of, Overlap}
use Rattle.td_law_logs.proofs.Words.{held_by, holds, born}
use Rattle.td_law_commitment.specs.Voted.{IsHeld, IsVoted}
use Rattle.td_law_logs.proofs.Passes.{same_id_from}
use Rattle.td_law_logs.proofs.Rows.{place_is}
use Rattle.td_law_logs.proofs.LogRows.{rows_born, born_in, run_places}
use Rattle.td_law_logs.proofs.Bases.{op_in, causal, one_op, home, base_log, known}
use Rattle.td_law_logs.proofs.Steps.{doc}
use Rattle.td_law_logs.proofs.Commits.{commit_of, commit_slot_of, edit_log}
use Rattle.td_law_commitment.proofs.Decided.{everywhere, kept, rooted, apart}
use Rattle.td_law_commitment.proofs.InTurn.{in_turn, no_edit_beside}
use Rattle.td_law_commitment.proofs.SiteRecord.{sw, facts, IsHere, suffix_at, meet_from}
use Rattle.td_order.specs.Show.{deletes}
use Rattle.td_law_logs.proofs.Suffixes.{Suffix, suffix_front}

module _ (family : Family) (c : IsConsistent family) where
  abbrev n : ℕ
  n = length family

  -- in turn
  turn : (d q : OpValue) (slot : Slot) (log : List OpValue) → IsHeld family d q slot log → (e : OpValue) → In e log
      → Overlap family log e d → In e (base family d)
  turn d q slot log h e i v =
      let l = h.of in
      let here : IsHere family c l.site l.some l.within log = (l.newer, l.is) in
      let s = first (doc_of log) (slot_of family e) (slot_of family d) v in
      let ke = op_in family c log l e i in
      let qe = commit_of family c e s.0 ke s.1 in
      let sd = commit_slot_of family c d q slot h.commit in
      let met = meet_from family c l.site l.some l.within log l e d s.0 slot s.1 sd
      (overlaps_of (doc_of log) (slot_of family e) (slot_of family d) s.0 slot s.1 sd v) in
      in_turn (sw family c l.site l.some l.within) (facts family c l.site l.some l.within) d log
      (record {
        commit = (q, slot, h.commit);
        since =
            suffix_at family c l.site l.some l.within d q slot h.commit log here h.proposed;
        open_yet = h.open_yet;
      })
      here e i (qe.0, s.0, qe.1) met
    where
      first : (rows : List DocRow) (s t : Option Slot) → overlap_of rows s t → (slot : Slot) × (s ≡ Some slot)
      first rows None t k = absurd k
      first rows (Some s) None k = absurd k
      first rows (Some s) (Some t) k = (s, refl)

      overlaps_of : (rows : List DocRow) (o p : Option Slot) (s t : Slot) → o ≡ Some s → p ≡ Some t
          → overlap_of rows o p → overlaps rows s t ≡ true
      overlaps_of rows o p s t f g k =
          subst (λ (z : Option Slot). overlap_of rows (Some s) z) g
          (subst (λ (z : Option Slot). overlap_of rows z p) f k)

  -- no edit beside
  no_edit : (e d q : OpValue) (slot : Slot) → IsOpOf family e → IsCommit family d q slot → (r : DocRow)
      → In r (doc_of (e ∷ base family e)) → IsRowOf e e.body r → slot_holds slot r.path ≡ true
      → In e (base family d) ⊎ In d (base family e)
  no_edit e d q slot ke kd r i own hold = from e.body refl
    where
      kind : (b : Body) → e.body ≡ b → origin e.dot b ≡ e.dot
          → (born e (row_id r) ≡ true) ⊎ (deletes (row_id r) e.body ≡ true)
          → In e (base family d) ⊎ In d (base family e)
      kind b f g which =
          let m = made_at family c e ke in
          let h = home family c e ke in
          let bs : base_from family e.dot ≡ base family e = ap (base_from family) (sym (ap (origin e.dot) f ∙ g)) in
          let le = edit_log family c e ke (ap (origin e.dot) f ∙ g) in
          let split : log_of family e.dot.site ≡ h.newer ++ e ∷ base family e =
          h.is ∙ ap (λ (z : List OpValue). h.newer ++ e ∷ z) bs in
          let here : IsHere family c e.dot.site m.0 m.1 (log_of family e.dot.site) = ([], refl) in
          let se : Suffix (e ∷ base family e) (log_of family e.dot.site) =
          subst (λ (z : List OpValue). Suffix (e ∷ base family e) z) (sym split)
          (suffix_front h.newer (e ∷ base family e)) in
          let sv = suffix_at family c e.dot.site m.0 m.1 d q slot kd (log_of family e.dot.site) here
          (everywhere family c d q slot kd e.dot.site m.0 m.1) in
          let holds_d : holds family d r.path ≡ true =
          ap (λ (z : Option Slot). held_by z r.path) (commit_slot_of family c d q slot kd) ∙ hold in
          let place = place_is (doc_of (e ∷ base family e)) (doc family c (e ∷ base family e) le) r i in
          let result = no_edit_beside (sw family c e.dot.site m.0 m.1) (facts family c e.dot.site m.0 m.1) e
          (row_id r) (base family e) (refl, which) (h.newer, split) r.path place
          d (log_of family e.dot.site) (q, slot, kd) holds_d here sv se in
          ⊎_elim (λ z. inl z)
          (λ (z : (In d (base family e) → ⊥) → ⊥). ⊎_elim (λ (k : In d (base family e)). inr k)
          (λ (k : In d (base family e) → ⊥). absurd (z k))
          (known family c d (base family e) kd.inside (base_log family c e ke))) result

      from : (b : Body) → e.body ≡ b → In e (base family d) ⊎ In d (base family e)
      from (Insert s run) f = kind (Insert s run) f refl (inl is_born)
        where
          is_born : born e (row_id r) ≡ true
          is_born =
              let le = edit_log family c e ke (ap (origin e.dot) f) in
              let y = rows_born n (e ∷ base family e) (causal family c (e ∷ base family e) le) r i in
              let dot : y.op.dot ≡ e.dot = sym (run_places y.op.dot 0 y.run (named r) y.among).dot
              ∙ subst (λ (b : Body). IsRowOf e b r) f own in
              let same : y.op ≡ e =
              one_op family c y.op e (op_in family c (e ∷ base family e) le y.op y.inside) ke dot in
              subst (λ (z : OpValue). born z (row_id r) ≡ true) same (born_in (e ∷ base family e) (named r) y)
      from (Delete target) f =
          kind (Delete target) f refl
          (inr (ap (λ (b : Body). deletes (row_id r) b) f
          ∙ same_id_from target (row_id r) (sym (subst (λ (b : Body). IsRowOf e b r) f own))))
      from (Propose s) f = absurd (subst (λ (b : Body). IsRowOf e b r) f own)
      from (Commit p) f = absurd (subst (λ (b : Body). IsRowOf e b r) f own)
      from (Abort p) f = absurd (subst (λ (b : Body). IsRowOf e b r) f own)

  pub voted : IsVoted family
  voted = record {
    everywhere = everywhere family c;
    kept = kept family c;
    rooted = rooted family c;
    apart =
        apart family c;
    in_turn = turn;
    beside = no_edit;
  }
