-- The record of one site, for the logs of each site of a consistent family; so "in turn" and "no edit beside" hold
-- there.
use Rattle.std.proofs.Common.{◌≡◌, ◌≢◌, ◌⊎◌, ◌<◌, ◌≤◌, ◌++◌, ℕ, List, [], ◌∷◌, length, Bool, true, false, ◌&&◌}
use Rattle.std.proofs.Common.{◌||◌, not, nat_eq, Option, Some, None, refl, sym, ap, ◌∙◌, subst, inl, inr, ⊎_elim}
use Rattle.std.proofs.Common.{true≢false, append_assoc, length-append, append-nil, arith}
use Rattle.std.proofs.lemmas.Bool.{and_parts, or_left, or_right, not-true, eqb-true, eq-eqb, cases_Bool, or_cases}
use Rattle.std.specs.Prelude.{IsTrue}
use Rattle.std.specs.List.{list_all, list_any}
use Rattle.std.specs.Option.{option_map, is_some}
use Rattle.td_base.specs.declared.bit.Bit.{Bit}
use Rattle.td_base.specs.Value.{DotValue, AtomIdValue}
use Rattle.td_base.specs.Lists.{In}
use Rattle.td_base.proofs.Lists.{In-map}
use Rattle.td_clock.specs.Vector.{vector_has}
use Rattle.td_path.specs.Infix.{Pair, Pairs}
use Rattle.td_path.specs.declared.slot.Slot.{Slot}
use Rattle.td_path.specs.declared.slot.Slot.TheVariants.{Root, At}
use Rattle.td_op.specs.declared.body.Body.{Body}
use Rattle.td_op.specs.declared.body.Body.TheVariants.{Insert, Delete, Propose, Commit, Abort}
use Rattle.td_op.specs.declared.message.Message.TheVariants.{Vote as AVote}
use Rattle.td_op.specs.declared.vote.Vote.{Vote}
use Rattle.td_op.specs.Op.{OpValue, named_atom}
use Rattle.td_op.specs.Past.{in_past}
use Rattle.td_doc.specs.Document.{DocRow, row_id, find_row, IsDocument}
use Rattle.td_doc.specs.Array.{named, array}
use Rattle.td_base.specs.RunAtoms.{run_atoms}
use Rattle.td_doc.specs.Slots.{rows_in_slot, is_within, is_atom_within, contains_slot, overlaps, is_known, is_known_row}
use Rattle.td_path.specs.Slot.{same_slot, is_root, slot_atom}
use Rattle.td_doc.proofs.ArrayRows.{array_names}
use Rattle.td_doc.proofs.SubtreeRows.{row_of}
use Rattle.td_doc.proofs.Rules.{found}
use Rattle.td_machine.specs.Hold.{Hold}
use Rattle.td_machine.specs.Log.{decides, Committed, commits}
use Rattle.td_machine.specs.Making.{effect}
use Rattle.td_machine.specs.Taking.{vote_on}
use Rattle.td_machine.specs.Vote.{is_apart, votes_yes}
use Rattle.td_doc.specs.Answers.{is_rooted}
use Rattle.td_machine.specs.Counts.{IsInTurn}
use Rattle.td_machine.specs.History.{Family, IsConsistent, IsOpOf, machine, log_of}
use Rattle.td_base.proofs.Elements.{cut_at, CutAt, same_head}
use Rattle.td_machine.proofs.Family.{not_older, made_at, inserted_in_past}
use Rattle.td_law_logs.proofs.Moments.{log_causal}
use Rattle.td_base.proofs.Searches.{each_passes}
use Rattle.td_machine.specs.Replay.{doc_of}
use Rattle.td_law_logs.proofs.DocumentFacts.{by_id, by_path, id_at}
use Rattle.td_law_logs.proofs.Paths.{IsBelow, fork, cancel}
use Rattle.td_law_commitment.proofs.SiteWords.{SiteWords, Overlap as SlotsMeet, one_slot}
use Rattle.td_law_commitment.proofs.SiteWords.{in_first, in_second, Held, Site}
use Rattle.td_law_logs.specs.Logs.{IsLogOf, since, before, log_at, base_from, base, origin, slot_of, IsCommit}
use Rattle.td_law_logs.specs.Places.{passes, slot_holds, place_of, at}
use Rattle.td_law_logs.proofs.Words.{held_by, holds, atom_at, focus, focus_by, born, born_by}
use Rattle.td_law_logs.proofs.DocumentFacts.{nobody}
use Rattle.td_law_commitment.specs.Voted.{IsHeld}
use Rattle.td_law_logs.proofs.Passes.{Passes, passes_parts, passes_from}
use Rattle.td_law_logs.proofs.Rows.{Standing, standing, place_is, place_at, on_way, holds_of, held_in}
use Rattle.td_law_logs.proofs.Rows.{in_slot, within_of, contains_root, both_hold, root_first, root_second}
use Rattle.td_law_logs.proofs.Rows.{same_overlap, atom_overlap, atom_overlap_back}
use Rattle.td_law_logs.proofs.LogRows.{rows_born, born_true, born_inserted, born_dot, run_places}
use Rattle.td_law_logs.proofs.Bases.{op_in, tail, causal, past_older, past_in, one_op, in_base, base_log}
use Rattle.td_law_logs.proofs.Bases.{base_onward, known, before_is, proposal_of, log_at_is}
use Rattle.td_law_logs.proofs.Steps.{commit_slot, commit_body, doc, slot_known, stays}
use Rattle.td_law_logs.proofs.Commits.{focus_commit, commit_of, commit_slot_of}
use Rattle.td_law_logs.proofs.RowsBefore.{RowWas, same_path, put_in, within_slot, row_was}
use Rattle.td_law_logs.proofs.RowsBefore.{Hangs, hangs, AtMiddle, at_middle}
use Rattle.td_law_logs.proofs.SameRows.{fits_all}
use Rattle.td_law_commitment.proofs.Traces.{Came, Yes, traced_end, IsClear}
use Rattle.td_law_commitment.proofs.Decided.{everywhere, rooted, apart, came, said_yes}
use Rattle.td_law_commitment.proofs.Decided.{one_decision, decides_own, HoldAt, hold_at}
use Rattle.td_law_commitment.proofs.SiteFacts.{dots_from, commit_listed}
use Rattle.td_order.specs.Show.{deletes}
use Rattle.td_base.proofs.Equals.{same_id_true}
use Rattle.td_law_logs.proofs.Suffixes.{Suffix, whole, more, suffix_front, suffix_in, suffix_keeps}
use Rattle.td_path.proofs.SlotEquals.{same_slot_refl, same_slot_true}

abbrev pub first_or : OpValue → List OpValue → OpValue
first_or d [] = d
first_or d (x ∷ log) = x

abbrev pub SlotsAlike : Option Slot → Option Slot → Type 0
SlotsAlike None t = ⊥
SlotsAlike (Some s) None = ⊥
SlotsAlike (Some s) (Some t) = (s ≡ t) ⊎ ((s ≡ Root) ⊎ (t ≡ Root))

alike_from : (o p : Option Slot) (s t : Slot) → o ≡ Some s → p ≡ Some t → (s ≡ t) ⊎ ((s ≡ Root) ⊎ (t ≡ Root))
    → SlotsAlike o p
alike_from o p s t e f h =
    subst (λ (z : Option Slot). SlotsAlike z p) (sym e) (subst (λ (z : Option Slot). SlotsAlike (Some s) z) (sym f) h)

alike_to : (o p : Option Slot) (s t : Slot) → o ≡ Some s → p ≡ Some t → SlotsAlike o p
    → (s ≡ t) ⊎ ((s ≡ Root) ⊎ (t ≡ Root))
alike_to o p s t e f h =
    subst (λ (z : Option Slot). SlotsAlike (Some s) z) f (subst (λ (z : Option Slot). SlotsAlike z p) e h)

root_is : (s : Slot) → is_root s ≡ true → s ≡ Root
root_is Root h = refl
root_is (At x b) h = absurd (true≢false (sym h))

module _ (family : Family) (c : IsConsistent family) (site : ℕ) (some : 0 < site)
    (within : site ≤ length family) where
  abbrev n : ℕ
  n = length family

  abbrev L : List OpValue
  L = log_of family site

  abbrev pub IsHere : List OpValue → Type 0
  IsHere log = (newer : List OpValue) × (log_of family site ≡ newer ++ log)

  abbrev pub of_site : (log : List OpValue) → IsHere log → IsLogOf family log
  of_site log l = record { site = site; some = some; within = within; newer = l.0; is = l.1 }

  abbrev pub IsACommit : OpValue → Type 0
  IsACommit d = (q : OpValue) × (slot : Slot) × IsCommit family d q slot

  abbrev pub proposal : OpValue → OpValue
  proposal d = first_or d (since (origin d.dot d.body) (log_of family site))

  abbrev pub vote : OpValue → List OpValue
  vote d = before (origin d.dot d.body) (log_of family site)

  abbrev pub Edits : OpValue → AtomIdValue → Type 0
  Edits e y = (e.dot.site ≡ site) × ((born e y ≡ true) ⊎ (deletes y e.body ≡ true))

  abbrev pub sw : SiteWords OpValue AtomIdValue Pairs
  sw =
      record {
        IsLog = IsHere;
        at = at;
        born = born;
        holds = holds family;
        SameSlot = λ e d. SlotsAlike (slot_of family e) (slot_of family d);
        IsCommit = IsACommit;
        focus = focus family;
        base = base family;
        proposal = proposal;
        vote = vote;
        Edits = Edits;
      }

  here_tail : (o : OpValue) (log : List OpValue) → IsHere (o ∷ log) → IsHere log
  here_tail o log l = (l.0 ++ o ∷ [], l.1 ∙ sym (append_assoc l.0 (o ∷ []) log))

  -- where the site met the proposal of a commit
  record VotedAt (d q : OpValue) : Type 0 where
    front : List OpValue
    back : List OpValue
    is : log_of family site ≡ front ++ q ∷ back
    proposal_is : proposal d ≡ q

  voted_at : (d q : OpValue) (slot : Slot) → IsCommit family d q slot → VotedAt d q
  voted_at d q slot k =
      let s : CutAt q L = cut_at q L (everywhere family c d q slot k site some within) in
      let b = before_is n s.front q s.back
      (subst (λ (z : List OpValue). IsInTurn n z) s.is (log_causal family c site some within)) in
      let o : origin d.dot d.body ≡ q.dot = ap (origin d.dot) k.is in
      record {
        front = s.front;
        back = s.back;
        is = s.is;
        proposal_is = ap (λ (z : DotValue). first_or d (since z L)) o
            ∙ (ap (λ (z : List OpValue). first_or d (since q.dot z)) s.is ∙ ap (first_or d) b.1);
      }

  -- the site's logs that have an operation go back to it
  pub suffix_at : (d q : OpValue) (slot : Slot) → IsCommit family d q slot → (log : List OpValue) → IsHere log
      → In q log → Suffix (proposal d ∷ vote d) log
  suffix_at d q slot k log l i =
      let v = voted_at d q slot k in
      let s : CutAt q log = cut_at q log i in
      let whole_is : L ≡ (l.0 ++ s.front) ++ q ∷ s.back =
      l.1 ∙ (ap (λ (z : List OpValue). l.0 ++ z) s.is ∙ sym (append_assoc l.0 s.front (q ∷ s.back))) in
      let b = before_is n (l.0 ++ s.front) q s.back
      (subst (λ (z : List OpValue). IsInTurn n z) whole_is (log_causal family c site some within)) in
      let o : origin d.dot d.body ≡ q.dot = ap (origin d.dot) k.is in
      let vote_here : vote d ≡ s.back = ap (λ (z : DotValue). before z L) o ∙ (ap (before q.dot) whole_is ∙ b.0) in
      subst (λ (z : OpValue). Suffix (z ∷ vote d) log) (sym v.proposal_is)
      (subst (λ (z : List OpValue). Suffix (q ∷ z) log) (sym vote_here)
      (subst (λ (z : List OpValue). Suffix (q ∷ s.back) z) (sym s.is) (suffix_front s.front (q ∷ s.back))))

  held_of : (d q : OpValue) (slot : Slot) (log : List OpValue) → IsCommit family d q slot → IsHere log → Held sw d log
      → IsHeld family d q slot log
  held_of d q slot log k l h =
      let v = voted_at d q slot k in
      record {
        of = of_site log l;
        commit = k;
        proposed =
            suffix_in (proposal d ∷ vote d) log h.since q (inl (sym v.proposal_is));
        open_yet = h.open_yet;
      }

  -- ---- overlaps

  meet_to : (log : List OpValue) → IsLogOf family log → (e d : OpValue) (s t : Slot) → slot_of family e ≡ Some s
      → slot_of family d ≡ Some t → SlotsMeet sw log e d → overlaps (doc_of log) s t ≡ true
  meet_to log l e d s t f g (one_slot h) =
      let k = doc family c log l in
      ⊎_elim (λ (q : s ≡ t). same_overlap (doc_of log) k s t q)
      (λ (q : (s ≡ Root) ⊎ (t ≡ Root)). ⊎_elim
      (λ (r : s ≡ Root). subst (λ (z : Slot). overlaps (doc_of log) z t ≡ true) (sym r)
      (root_first (doc_of log) k t))
      (λ (r : t ≡ Root). subst (λ (z : Slot). overlaps (doc_of log) s z ≡ true) (sym r)
      (root_second (doc_of log) k s)) q)
      (alike_to (slot_of family e) (slot_of family d) s t f g h)
  meet_to log l e d s t f g (in_first p h k) =
      atom_overlap (doc_of log) (doc family c log l) s t p
      (subst (λ (a : AtomIdValue). at log a ≡ Some p) (focus_commit family d t g) h)
      (sym (ap (λ (z : Option Slot). held_by z p) f) ∙ k)
  meet_to log l e d s t f g (in_second p h k) =
      atom_overlap_back (doc_of log) (doc family c log l) t s p
      (subst (λ (a : AtomIdValue). at log a ≡ Some p) (focus_commit family e s f) h)
      (sym (ap (λ (z : Option Slot). held_by z p) g) ∙ k)

  within_at : (log : List OpValue) → IsLogOf family log → (y : AtomIdValue) (s : Slot)
      → is_within (doc_of log) y s ≡ true → (p : Pairs) × (at log y ≡ Some p) × (slot_holds s p ≡ true)
  within_at log l y s h =
      let r = row_of y (rows_in_slot (doc_of log) s) h in
      let i = held_in (doc_of log) (doc family c log l) s r.0 r.1 in
      (r.0.path, place_at (doc_of log) (doc family c log l) r.0 y i.0 r.2, i.1)

  -- the first slot contains the second
  contains_from : (log : List OpValue) → IsLogOf family log → (s t : Slot) → contains_slot (doc_of log) s t ≡ true
      → ((s ≡ t) ⊎ (s ≡ Root)) ⊎ ((p : Pairs) × (at log (atom_at t) ≡ Some p) × (slot_holds s p ≡ true))
  contains_from log l s t h =
      ⊎_elim
      (λ (k : (same_slot s t || is_root s) ≡ true). ⊎_elim
      (λ (m : same_slot s t ≡ true). inl (inl (same_slot_true s t m)))
      (λ (m : is_root s ≡ true). inl (inr (root_is s m))) (or_cases _ _ k))
      (λ (k : is_atom_within (doc_of log) s t ≡ true). inr (by_atom t k)) (or_cases _ _ h)
    where
      by_atom : (u : Slot) → is_atom_within (doc_of log) s u ≡ true
          → (p : Pairs) × (at log (atom_at u) ≡ Some p) × (slot_holds s p ≡ true)
      by_atom Root k = absurd (true≢false (sym k))
      by_atom (At y b) k = within_at log l y s k

  pub meet_from : (log : List OpValue) → IsLogOf family log → (e d : OpValue) (s t : Slot) → slot_of family e ≡ Some s
      → slot_of family d ≡ Some t → overlaps (doc_of log) s t ≡ true → SlotsMeet sw log e d
  meet_from log l e d s t f g h =
      ⊎_elim
      (λ (k : contains_slot (doc_of log) s t ≡ true). ⊎_elim
      (λ (m : (s ≡ t) ⊎ (s ≡ Root)). one_slot
      (alike_from (slot_of family e) (slot_of family d) s t f g (⊎_elim (λ z. inl z) (λ z. inr (inl z)) m)))
      (λ (m : (p : Pairs) × (at log (atom_at t) ≡ Some p) × (slot_holds s p ≡ true)). in_first m.0
      (subst (λ (a : AtomIdValue). at log a ≡ Some m.0) (sym (focus_commit family d t g)) m.1)
      (ap (λ (z : Option Slot). held_by z m.0) f ∙ m.2)) (contains_from log l s t k))
      (λ (k : contains_slot (doc_of log) t s ≡ true). ⊎_elim
      (λ (m : (t ≡ s) ⊎ (t ≡ Root)). one_slot
      (alike_from (slot_of family e) (slot_of family d) s t f g
      (⊎_elim (λ (z : t ≡ s). inl (sym z)) (λ z. inr (inr z)) m)))
      (λ (m : (p : Pairs) × (at log (atom_at s) ≡ Some p) × (slot_holds t p ≡ true)). in_second m.0
      (subst (λ (a : AtomIdValue). at log a ≡ Some m.0) (sym (focus_commit family e s f)) m.1)
      (ap (λ (z : Option Slot). held_by z m.0) g ∙ m.2)) (contains_from log l t s k))
      (or_cases _ _ h)

  -- ---- rows

  row_op : (log : List OpValue) → IsLogOf family log → (x : AtomIdValue) (p : Pairs) → at log x ≡ Some p
      → (y : OpValue) × In y log × (y.dot ≡ x.dot)
  row_op log l x p h =
      let s = standing (doc_of log) x p h in
      let b = rows_born n log (causal family c log l) s.row s.inside in (
        b.op,
        b.inside,
        sym (run_places b.op.dot 0 b.run (named s.row) b.among).dot
            ∙ ap (λ (z : AtomIdValue). z.dot) s.named,
      )

  no_site : (o : OpValue) → IsOpOf family o → born o nobody ≡ true → ⊥
  no_site o k h = let m : 0 < o.dot.site = (made_at family c o k).0 in
      let d : o.dot.site ≡ 0 = ap (λ (z : DotValue). z.site) (born_dot o nobody h) in omega (arith, m, d)

  nobody_out : (log : List OpValue) → IsLogOf family log → (p : Pairs) → at log nobody ≡ Some p → ⊥
  nobody_out log l p h =
      let y = row_op log l nobody p h in
      let m : 0 < y.0.dot.site = (made_at family c y.0 (op_in family c log l y.0 y.1)).0 in
      let d : y.0.dot.site ≡ 0 = ap (λ (z : DotValue). z.site) y.2 in
      omega (arith, m, d)

  new_dot : (o : OpValue) (log : List OpValue) → IsLogOf family (o ∷ log) → (y : OpValue) → In y log → o.dot ≡ y.dot
      → ⊥
  new_dot o log l y i e = let k = causal family c (o ∷ log) l in not_older n o y log k.0 k.1 i e

  s_stays : (o : OpValue) (log : List OpValue) (x : AtomIdValue) (p : Pairs) → IsHere (o ∷ log) → at log x ≡ Some p
      → holds family o p ≡ false → at (o ∷ log) x ≡ Some p
  s_stays o log x p l h k =
      let lo = of_site (o ∷ log) l in
      let y = row_op log (tail family c o log lo) x p h in
      let other : born o x ≡ false =
      ⊎_elim (λ (b : born o x ≡ true). absurd (new_dot o log lo y.0 y.1 (born_dot o x b ∙ sym y.2))) (λ b. b)
      (cases_Bool (born o x)) in
      stays family c o log x lo other (λ q e. subst (λ (z : Pairs). holds family o z ≡ false) (one p q (sym h ∙ e)) k)
      ∙ h
    where
      one : (a b : Pairs) → Some a ≡ Some b → a ≡ b
      one a b e = cc

  s_was : (o : OpValue) (log : List OpValue) (x : AtomIdValue) (p : Pairs) → IsHere (o ∷ log)
      → at (o ∷ log) x ≡ Some p
      → (born o x ≡ true)
      ⊎ ((q : Pairs) × (at log x ≡ Some q)
      × (((holds family o q ≡ false) × (q ≡ p)) ⊎ ((holds family o q ≡ true) × (holds family o p ≡ true))))
  s_was o log x p l h = from (row_was family c o log lo s.row s.inside)
    where
      lo : IsLogOf family (o ∷ log)
      lo = of_site (o ∷ log) l

      lt : IsLogOf family log
      lt = tail family c o log lo

      s : Standing (doc_of (o ∷ log)) x p
      s = standing (doc_of (o ∷ log)) x p h

      from : RowWas family o log s.row
          → (born o x ≡ true)
          ⊎ ((q : Pairs) × (at log x ≡ Some q)
          × (((holds family o q ≡ false) × (q ≡ p)) ⊎ ((holds family o q ≡ true) × (holds family o p ≡ true))))
      from (same_path q i id e) =
          let w : at log x ≡ Some q.path = place_at (doc_of log) (doc family c log lt) q x i (sym id ∙ s.named) in
          let same : q.path ≡ p = sym e ∙ s.stands in
          inr (
            q.path,
            w,
            ⊎_elim (λ (k : holds family o q.path ≡ true). inr
                (k, subst (λ (z : Pairs). holds family o z ≡ true) same k))
                (λ (k : holds family o q.path ≡ false). inl (k, same)) (cases_Bool (holds family o q.path)),
          )
      from (put_in slot run sp e f i) =
          inl (born_true o x
          (record {
            slot = slot;
            run = run;
            is = e;
            atom = named s.row;
            among =
                subst (In (named s.row)) (array_names sp (run_atoms o.dot run))
                (In-map named s.row (array sp (run_atoms o.dot run)) i);
            named = s.named;
          }))
      from (within_slot slot sp e f q i id hq hr) =
          let d = doc family c log lt in
          inr (
            q.path,
            place_at (doc_of log) d q x i (sym id ∙ s.named),
            inr (
              ap (λ (z : Option Slot). held_by z q.path) e ∙ holds_of (doc_of log) d slot sp q.path f hq,
              subst (λ (z : Pairs). holds family o z ≡ true) s.stands
                  (ap (λ (z : Option Slot). held_by z s.row.path) e ∙ holds_of (doc_of log) d slot sp s.row.path f hr),
            ),
          )

  s_own : (d : OpValue) (log : List OpValue) (p : Pairs) → IsHere log → at log (focus family d) ≡ Some p
      → holds family d p ≡ true → ⊥
  s_own d log p l h k = let s = commit_slot family d p k in from s.slot s.is s.holds
    where
      lo : IsLogOf family log
      lo = of_site log l

      from : (slot : Slot) → slot_of family d ≡ Some slot → slot_holds slot p ≡ true → ⊥
      from Root e m =
          nobody_out log lo p (subst (λ (a : AtomIdValue). at log a ≡ Some p) (focus_commit family d Root e) h)
      from (At z b) e m =
          let w = standing (doc_of log) z p
          (subst (λ (a : AtomIdValue). at log a ≡ Some p) (focus_commit family d (At z b) e) h) in
          let q = passes_parts z b p m in
          let y = on_way (doc_of log) (doc family c log lo) w.row q.front q.side z (b, q.next) q.rest w.inside
          (w.stands ∙ q.is) in
          let same : y.0 ≡ w.row = by_id (doc_of log) (doc family c log lo) y.0 w.row y.1 w.inside
          (y.3 ∙ sym w.named) in
          let paths : q.front ++ (q.side, z) ∷ [] ≡ q.front ++ (q.side, z) ∷ (b, q.next) ∷ q.rest =
          sym y.2 ∙ (ap (λ (r : DocRow). r.path) same ∙ (w.stands ∙ q.is)) in
          let long : length (q.front ++ (q.side, z) ∷ []) ≡ length (q.front ++ (q.side, z) ∷ (b, q.next) ∷ q.rest) =
          ap (λ (t : Pairs). length t) paths in
          let one = length-append q.front ((q.side, z) ∷ []) in
          let two = length-append q.front ((q.side, z) ∷ (b, q.next) ∷ q.rest) in
          omega (arith, long, one, two)

  s_nested : (d e : OpValue) (log : List OpValue) (x : AtomIdValue) (p : Pairs) → IsHere log → at log x ≡ Some p
      → holds family e p ≡ true → holds family d p ≡ true → SlotsMeet sw log e d
  s_nested d e log x p l h i j =
      let s = commit_slot family e p i in
      let t = commit_slot family d p j in
      meet_from log (of_site log l) e d s.slot t.slot s.is t.is
      (both_hold (doc_of log) (doc family c log (of_site log l)) s.slot t.slot x p h s.holds t.holds)

  -- ---- commits and their proposals

  no_kinds : (s : Slot) (p : DotValue) → Propose s ≡ Commit p → ⊥
  no_kinds s p e = cc

  asks : (d : OpValue) → (k : IsACommit d) → (proposal d).body ≡ Propose k.1
  asks d k = ap (λ (z : OpValue). z.body) (voted_at d k.0 k.1 k.2).proposal_is ∙ k.2.asks

  bare_body : (o : OpValue) (s : Slot) (x : AtomIdValue) → o.body ≡ Propose s → born o x ≡ true → ⊥
  bare_body o s x e h = true≢false (sym h ∙ ap (λ (b : Body). born_by o.dot b x) e)

  s_old_focus : (o e : OpValue) (log : List OpValue) → IsHere (o ∷ log) → In e log ⊎ Held sw e log
      → born o (focus family e) ≡ true → ⊥
  s_old_focus o e log l old h = from e.body refl
    where
      lo : IsLogOf family (o ∷ log)
      lo = of_site (o ∷ log) l

      lt : IsLogOf family log
      lt = tail family c o log lo

      ke : IsOpOf family e
      ke = ⊎_elim (λ (i : In e log). op_in family c log lt e i) (λ (k : Held sw e log). k.commit.2.inside) old

      ko : IsOpOf family o
      ko = op_in family c (o ∷ log) lo o (inl refl)

      -- an atom that something of the log names is of an older insert
      named : (q : OpValue) → IsOpOf family q → In q log → (z : AtomIdValue) → named_atom q.body ≡ Some z
          → focus family e ≡ z → ⊥
      named q kq i z k f =
          let y = inserted_in_past family c q kq z k in
          let j = past_in family c log lt q y.0 i y.1 y.2 in
          let d : y.0.dot ≡ z.dot = born_dot y.0 z (born_inserted y.0 z y.3) in
          new_dot o log lo y.0 j (born_dot o (focus family e) h ∙ (ap (λ (t : AtomIdValue). t.dot) f ∙ sym d))

      none : focus family e ≡ nobody → ⊥
      none f = no_site o ko (subst (λ (a : AtomIdValue). born o a ≡ true) f h)

      edit : (b : Body) → e.body ≡ b → ((d : DotValue) → b ≡ Commit d → ⊥) → (z : AtomIdValue) → named_atom b ≡ Some z
          → focus_by (slot_of family e) b ≡ z → ⊥
      edit b f other z k g =
          ⊎_elim (λ (i : In e log). named e ke i z (ap named_atom f ∙ k) (ap (focus_by (slot_of family e)) f ∙ g))
          (λ (m : Held sw e log). other m.commit.0.dot (sym f ∙ m.commit.2.is)) old

      by_slot : (q : OpValue) (slot : Slot) → IsCommit family e q slot → In q log → (s : Slot) → slot ≡ s → ⊥
      by_slot q slot k i Root f =
          none (focus_commit family e slot (commit_slot_of family c e q slot k) ∙ ap atom_at f)
      by_slot q slot k i (At z b) f = named q k.proposed i z (ap named_atom k.asks ∙ ap slot_atom f)
          (focus_commit family e slot (commit_slot_of family c e q slot k) ∙ ap atom_at f)

      from : (b : Body) → e.body ≡ b → ⊥
      from (Insert Root run) f = none (ap (focus_by (slot_of family e)) f)
      from (Insert (At z bit) run) f = edit (Insert (At z bit) run) f (λ d k. cc) z refl refl
      from (Delete z) f = edit (Delete z) f (λ d k. cc) z refl refl
      from (Propose slot) f = none (ap (focus_by (slot_of family e)) f)
      from (Abort p) f = none (ap (focus_by (slot_of family e)) f)
      from (Commit p) f =
          ⊎_elim
          (λ (i : In e log).
          let q = proposal_of family c e p ke f in
          by_slot q.op q.slot
          (record {
            inside = ke;
            proposed = q.of;
            asks = q.asks;
            is =
                f ∙ ap (λ (d : DotValue). Commit d) (sym q.dot);
          }) (past_in family c log lt e q.op i q.of q.past) q.slot
          refl)
          (λ (m : Held sw e log). by_slot m.commit.0 m.commit.1 m.commit.2
          (held_of e m.commit.0 m.commit.1 log m.commit.2 (here_tail o log l) m).proposed m.commit.1 refl) old

  s_held : (d : OpValue) (log : List OpValue) → IsACommit d → IsHere (d ∷ log) → Held sw d log
  s_held d log k l =
      let lo = of_site (d ∷ log) l in
      let p = proposal_of family c d k.0.dot k.2.inside k.2.is in
      let same : p.op ≡ k.0 = one_op family c p.op k.0 p.of k.2.proposed p.dot in
      record {
        commit = k;
        since = suffix_at d k.0 k.1 k.2 log (here_tail d log l)
            (past_older family c d log lo k.0 k.2.proposed
            (subst (λ (z : OpValue). IsTrue (in_past z d)) same p.past));
        open_yet = λ i. new_dot d log lo d i refl;
      }

  s_apart : (d e : OpValue) (log : List OpValue) → IsHere log → Held sw d log → Held sw e log → (d ≡ e → ⊥)
      → SlotsMeet sw log d e → ⊥
  s_apart d e log l hd he differ m =
      let kd = hd.commit in
      let ke = he.commit in
      let lo = of_site log l in
      let o = meet_to log lo d e kd.1 ke.1 (commit_slot_of family c d kd.0 kd.1 kd.2)
      (commit_slot_of family c e ke.0 ke.1 ke.2) m in
      true≢false
      (sym o ∙ apart family c d kd.0 e ke.0 kd.1 ke.1 log (held_of d kd.0 kd.1 log kd.2 l hd)
      (held_of e ke.0 ke.1 log ke.2 l he)
      (λ q. differ
      (one_decision family c kd.0.dot d e true true kd.2.inside ke.2.inside
      (ap (decides kd.0.dot) kd.2.is ∙ decides_own family c kd.0.dot)
      (ap (decides kd.0.dot) (ke.2.is ∙ ap (λ (z : OpValue). Commit z.dot) (sym q))
      ∙ decides_own family c kd.0.dot))))

  -- ---- the vote

  vote_log : (d : OpValue) → IsHere (proposal d ∷ vote d) → IsLogOf family (vote d)
  vote_log d l = tail family c (proposal d) (vote d) (of_site (proposal d ∷ vote d) l)

  -- where the proposal is of another site, the vote was Yes
  vote_rule : (d : OpValue) → (k : IsACommit d) → (l : IsHere (proposal d ∷ vote d)) → k.0.dot.site ≢ site
      → (holds : List Hold) × (votes_yes (doc_of (vote d)) holds (commits (vote d)) k.1 k.0.deps ≡ true)
  vote_rule d k l out =
      let v = voted_at d k.0 k.1 k.2 in
      let lq : IsLogOf family (k.0 ∷ vote d) =
      of_site (k.0 ∷ vote d) (l.0, l.1 ∙ ap (λ (z : OpValue). l.0 ++ z ∷ vote d) v.proposal_is) in
      let w = came family c k.0 (vote d) lq in
      let u = w.vote k.1 out k.2.asks in
      let yes : u.0.yes ≡ true = said (said_yes family c d k.0 k.1 k.2 site some within) u.0
      (w.to_sent (AVote u.0) u.1) u.2 in
      let says : vote_on k.0 k.1 w.from ≡ true = sym u.3 ∙ yes in
      let docs : w.from.doc ≡ doc_of (vote d) = w.from_good.fit.logged ∙ ap doc_of w.from_log in (
        w.from.holds,
        subst (λ (rows : List DocRow). votes_yes rows w.from.holds (commits (vote d)) k.1 k.0.deps ≡ true) docs
            (subst (λ (log : List OpValue). votes_yes w.from.doc w.from.holds (commits log) k.1 k.0.deps ≡ true)
            w.from_log says),
      )
    where
      said : (site ≡ d.dot.site) ⊎ Yes family c site k.0.dot → (u : Vote) → In (AVote u) (machine family site).sent
          → u.proposal ≡ k.0.dot → u.yes ≡ true
      said (inl e) u i f =
          let p = proposal_of family c d k.0.dot k.2.inside k.2.is in
          absurd (out (p.site ∙ sym e))
      said (inr y) u i f =
          let t = traced_end family c site some within in
          ap (λ (z : Vote). z.yes) (t.good.core.one_vote u y.0 i y.1 (f ∙ sym y.2)) ∙ y.3

  base_of : (d : OpValue) → (k : IsACommit d) → base_from family k.0.dot ≡ base family d
  base_of d k = ap (base_from family) (sym (ap (origin d.dot) k.2.is))

  -- an own proposal knew all that was there
  own_vote : (d : OpValue) → (k : IsACommit d) → k.0.dot.site ≡ site → vote d ≡ base family d
  own_vote d k e =
      ap (λ (z : DotValue). before z L) (ap (origin d.dot) k.2.is)
      ∙ (ap (before k.0.dot)
      (sym (subst (λ (s : ℕ). log_at family s ≡ log_of family site) (sym e) (log_at_is family c site some)))
      ∙ base_of d k)

  -- what the vector of the proposal has is in the base
  known_to : (d : OpValue) → (k : IsACommit d) → (e : OpValue) → IsOpOf family e → IsTrue (in_past e k.0)
      → In e (base family d)
  known_to d k e ke h = subst (λ (z : List OpValue). In e z) (base_of d k) (in_base family c k.0 e k.2.proposed ke h)

  four : (a b x y : Bool) → (a && b && x && y) ≡ true → (a ≡ true) × (b ≡ true) × (y ≡ true)
  four a b x y h =
      let one = and_parts (a && b && x) y h in
      let two = and_parts (a && b) x one.0 in
      let three = and_parts a b two.0 in
      (three.0, three.1, one.1)

  s_saw_commits : (d e : OpValue) → IsACommit d → IsHere (proposal d ∷ vote d) → In e (vote d) → IsACommit e
      → SlotsMeet sw (vote d) e d → In e (base family d)
  s_saw_commits d e k l i ke m = from (nat_eq k.0.dot.site site) refl
    where
      lv : IsLogOf family (vote d)
      lv = vote_log d l

      from : (t : Bool) → nat_eq k.0.dot.site site ≡ t → In e (base family d)
      from true f = subst (λ (z : List OpValue). In e z) (own_vote d k (eqb-true k.0.dot.site site f)) i
      from false f =
          let r = vote_rule d k l (λ g. true≢false (sym (eq-eqb k.0.dot.site site g) ∙ f)) in
          let parts = four (is_rooted (doc_of (vote d)) k.1) (is_known (doc_of (vote d)) k.1 k.0.deps)
          (not (list_any (λ (h : Hold). overlaps (doc_of (vote d)) h.slot k.1) r.0))
          (list_all (λ (x : Committed). vector_has k.0.deps x.dot || is_apart (doc_of (vote d)) k.1 x)
          (commits (vote d))) r.1 in
          let p = proposal_of family c e ke.0.dot ke.2.inside ke.2.is in
          let same : p.op ≡ ke.0 = one_op family c p.op ke.0 p.of ke.2.proposed p.dot in
          let j : In ke.0 (vote d) =
          past_in family c (vote d) lv e ke.0 i ke.2.proposed
          (subst (λ (z : OpValue). IsTrue (in_past z e)) same p.past) in
          let listed =
          commit_listed (vote d) e ke.0.dot ke.1 i ke.2.is
          (slot_known family c ke.0 ke.1 ke.2.proposed ke.2.asks (vote d) lv j) in
          let test = each_passes (λ (x : Committed). vector_has k.0.deps x.dot || is_apart (doc_of (vote d)) k.1 x)
          (commits (vote d)) parts.2 _ listed in
          ⊎_elim (λ (h : vector_has k.0.deps e.dot ≡ true). known_to d k e ke.2.inside h)
          (λ (h : (is_rooted (doc_of (vote d)) ke.1 && not (overlaps (doc_of (vote d)) ke.1 k.1)) ≡ true).
          let a = and_parts (is_rooted (doc_of (vote d)) ke.1) (not (overlaps (doc_of (vote d)) ke.1 k.1)) h in
          absurd (true≢false
          (sym (meet_to (vote d) lv e d ke.1 k.1 (commit_slot_of family c e ke.0 ke.1 ke.2)
          (commit_slot_of family c d k.0 k.1 k.2) m) ∙ not-true (overlaps (doc_of (vote d)) ke.1 k.1) a.1)))
          (or_cases _ _ test)

  s_saw_rows : (d e : OpValue) (y : AtomIdValue) (p : Pairs) → IsACommit d → IsHere (proposal d ∷ vote d)
      → In e (vote d) → Edits e y → at (vote d) y ≡ Some p → holds family d p ≡ true → In e (base family d)
  s_saw_rows d e y p k l i edit here h = from (nat_eq k.0.dot.site site) refl
    where
      lv : IsLogOf family (vote d)
      lv = vote_log d l

      ke : IsOpOf family e
      ke = op_in family c (vote d) lv e i

      from : (t : Bool) → nat_eq k.0.dot.site site ≡ t → In e (base family d)
      from true f = subst (λ (z : List OpValue). In e z) (own_vote d k (eqb-true k.0.dot.site site f)) i
      from false f =
          let r = vote_rule d k l (λ g. true≢false (sym (eq-eqb k.0.dot.site site g) ∙ f)) in
          let parts = four (is_rooted (doc_of (vote d)) k.1) (is_known (doc_of (vote d)) k.1 k.0.deps)
          (not (list_any (λ (z : Hold). overlaps (doc_of (vote d)) z.slot k.1) r.0))
          (list_all (λ (x : Committed). vector_has k.0.deps x.dot || is_apart (doc_of (vote d)) k.1 x)
          (commits (vote d))) r.1 in
          let s = standing (doc_of (vote d)) y p here in
          let hold : slot_holds k.1 p ≡ true =
          sym (ap (λ (z : Option Slot). held_by z p) (commit_slot_of family c d k.0 k.1 k.2)) ∙ h in
          let j = in_slot (doc_of (vote d)) (doc family c (vote d) lv) k.1 s.row s.inside
          (subst (λ (z : Pairs). slot_holds k.1 z ≡ true) (sym s.stands) hold) in
          let row = each_passes (is_known_row k.0.deps) (rows_in_slot (doc_of (vote d)) k.1) parts.1 s.row j in
          let both = and_parts (vector_has k.0.deps (row_id s.row).dot) (list_all (vector_has k.0.deps) s.row.deletes)
          row in
          ⊎_elim
          (λ (b : born e y ≡ true). known_to d k e ke
          (subst (λ (z : DotValue). vector_has k.0.deps z ≡ true)
          (ap (λ (z : AtomIdValue). z.dot) s.named ∙ sym (born_dot e y b)) both.0))
          (λ (b : deletes y e.body ≡ true).
          let m = dots_from n (vote d) (causal family c (vote d) lv) (fits_all family c (vote d) lv) e i s.row
          s.inside (subst (λ (z : AtomIdValue). deletes z e.body ≡ true) (sym s.named) b) in
          known_to d k e ke (each_passes (vector_has k.0.deps) s.row.deletes both.1 e.dot m)) edit.1

  suffix_here : (part log : List OpValue) → Suffix part log → IsHere log → IsHere part
  suffix_here part log s l = suffix_keeps IsHere here_tail part log s l

  -- what is a row later was one since its insert
  row_since : (part log : List OpValue) → Suffix part log → IsHere log → (z : AtomIdValue) (y : OpValue) → In y part
      → y.dot ≡ z.dot → (p : Pairs) → at log z ≡ Some p → (q : Pairs) × (at part z ≡ Some q)
  row_since part log whole l z y i e p h = (p, h)
  row_since part log (more {list = rest} o s) l z y i e p h =
      ⊎_elim
      (λ (b : born o z ≡ true). absurd
      (new_dot o rest (of_site (o ∷ rest) l) y (suffix_in part rest s y i) (born_dot o z b ∙ sym e)))
      (λ (b : (q : Pairs) × (at rest z ≡ Some q)
      × (((holds family o q ≡ false) × (q ≡ p)) ⊎ ((holds family o q ≡ true) × (holds family o p ≡ true)))).
      row_since part rest s (here_tail o rest l) z y i e b.0 b.1)
      (s_was o rest z p l h)

  propose_doc : (d : OpValue) → (k : IsACommit d) → doc_of (proposal d ∷ vote d) ≡ doc_of (vote d)
  propose_doc d k = ap (λ (b : Body). effect (vote d) (proposal d).dot b (doc_of (vote d))) (asks d k)

  s_slot_row : (d o : OpValue) (log : List OpValue) → IsACommit d → IsHere (proposal d ∷ vote d)
      → Suffix (o ∷ log) (vote d) → (p : Pairs) → at log (focus family d) ≡ Some p
      → (q : Pairs) × (at (o ∷ log) (focus family d) ≡ Some q)
  s_slot_row d o log k l s p h = from k.1 refl
    where
      lv : IsHere (vote d)
      lv = here_tail (proposal d) (vote d) l

      lo : IsHere (o ∷ log)
      lo = suffix_here (o ∷ log) (vote d) s lv

      lt : IsLogOf family log
      lt = of_site log (here_tail o log lo)

      held : IsHeld family d k.0 k.1 (proposal d ∷ vote d)
      held =
          let v = voted_at d k.0 k.1 k.2 in
          let lq = of_site (proposal d ∷ vote d) l in
          record {
            of = lq;
            commit = k.2;
            proposed = inl (sym v.proposal_is);
            open_yet =
                λ (i : (d ≡ proposal d) ⊎ In d (vote d)). ⊎_elim
                (λ (e : d ≡ proposal d). no_kinds k.1 k.0.dot
                (sym (asks d k) ∙ (ap (λ (z : OpValue). z.body) (sym e) ∙ k.2.is)))
                (λ (i : In d (vote d)).
                let q = proposal_of family c d k.0.dot k.2.inside k.2.is in
                let same : q.op ≡ k.0 = one_op family c q.op k.0 q.of k.2.proposed q.dot in
                let j : In k.0 (vote d) = past_in family c (vote d) (of_site (vote d) lv) d k.0 i k.2.proposed
                (subst (λ (z : OpValue). IsTrue (in_past z d)) same q.past) in
                new_dot (proposal d) (vote d) lq k.0 j (ap (λ (z : OpValue). z.dot) v.proposal_is)) i;
          }

      rooted_at : is_rooted (doc_of (vote d)) k.1 ≡ true
      rooted_at = subst (λ (rows : List DocRow). is_rooted rows k.1 ≡ true) (propose_doc d k)
          (rooted family c d k.0 k.1 (proposal d ∷ vote d) held)

      foc : focus family d ≡ atom_at k.1
      foc = focus_commit family d k.1 (commit_slot_of family c d k.0 k.1 k.2)

      some_place : (rows : List DocRow) (z : AtomIdValue) → is_some (find_row z rows) ≡ true
          → (q : Pairs) × (place_of z rows ≡ Some q)
      some_place rows z m = look (find_row z rows) m
        where
          look : (o : Option DocRow) → is_some o ≡ true
              → (q : Pairs) × (option_map (λ (r : DocRow). r.path) o ≡ Some q)
          look None g = absurd (true≢false (sym g))
          look (Some r) g = (r.path, refl)

      from : (slot : Slot) → k.1 ≡ slot → (q : Pairs) × (at (o ∷ log) (focus family d) ≡ Some q)
      from Root e =
          absurd (nobody_out log lt p (subst (λ (a : AtomIdValue). at log a ≡ Some p) (foc ∙ ap atom_at e) h))
      from (At z b) e =
          let f : focus family d ≡ z = foc ∙ ap atom_at e in
          let y = row_op log lt z p (subst (λ (a : AtomIdValue). at log a ≡ Some p) f h) in
          let end =
          some_place (doc_of (vote d)) z
          (subst (λ (s : Slot). is_rooted (doc_of (vote d)) s ≡ true) e rooted_at) in
          let q = row_since (o ∷ log) (vote d) s lv z y.0 (inr y.1) y.2 end.0 end.1 in
          (q.0, subst (λ (a : AtomIdValue). at (o ∷ log) a ≡ Some q.0) (sym f) q.1)

  -- ---- an edit is refused where a hold has it

  born_kind : (e : OpValue) (b : Body) (x : AtomIdValue) → e.body ≡ b → born e x ≡ true → born_by e.dot b x ≡ true
  born_kind e b x f h = ap (λ (z : Body). born_by e.dot z x) (sym f) ∙ h

  kills_kind : (e : OpValue) (b : Body) (x : AtomIdValue) → e.body ≡ b → deletes x e.body ≡ true → deletes x b ≡ true
  kills_kind e b x f h = ap (λ (z : Body). deletes x z) (sym f) ∙ h

  not_commit : (e : OpValue) (b : Body) → e.body ≡ b → ((p : DotValue) → b ≡ Commit p → ⊥) → (p : Pairs)
      → holds family e p ≡ false
  not_commit e b f other p =
      ⊎_elim (λ (h : holds family e p ≡ true). let s = commit_slot family e p h in
      let m = commit_body family e s.slot s.is in absurd (other m.0 (sym f ∙ m.1))) (λ h. h)
      (cases_Bool (holds family e p))

  -- an old row is not on the way of a new atom
  not_new : (e : OpValue) (log : List OpValue) → IsHere (e ∷ log) → (r : DocRow) → In r (doc_of log)
      → (front : Pairs) (side : Bit) (id : AtomIdValue) (rest : Pairs) → id.dot ≡ e.dot
      → r.path ≡ front ++ (side, id) ∷ rest → ⊥
  not_new e log l r i front side id [] d k =
      let lo = of_site (e ∷ log) l in
      let lt = tail family c e log lo in
      let y = row_op log lt (row_id r) r.path (place_is (doc_of log) (doc family c log lt) r i) in
      new_dot e log lo y.0 y.1
      (sym d ∙ (ap (λ (z : AtomIdValue). z.dot) (sym (id_at r front (side, id) k)) ∙ sym y.2))
  not_new e log l r i front side id (u ∷ rest) d k =
      let lo = of_site (e ∷ log) l in
      let lt = tail family c e log lo in
      let q = on_way (doc_of log) (doc family c log lt) r front side id u rest i k in
      let y = row_op log lt (row_id q.0) q.0.path (place_is (doc_of log) (doc family c log lt) q.0 q.1) in
      new_dot e log lo y.0 y.1 (sym d ∙ (ap (λ (z : AtomIdValue). z.dot) (sym q.3) ∙ sym y.2))

  s_refused : (e d : OpValue) (y : AtomIdValue) (p : Pairs) (log : List OpValue) → Edits e y → IsHere (e ∷ log)
      → at (e ∷ log) y ≡ Some p → holds family d p ≡ true → Held sw d log → ⊥
  s_refused e d y p log edit l here hold hd = from e.body refl
    where
      lo : IsLogOf family (e ∷ log)
      lo = of_site (e ∷ log) l

      lt : IsLogOf family log
      lt = tail family c e log lo

      d0 : IsDocument (doc_of log)
      d0 = doc family c log lt

      holds_slot : slot_holds hd.commit.1 p ≡ true
      holds_slot =
          sym (ap (λ (z : Option Slot). held_by z p) (commit_slot_of family c d hd.commit.0 hd.commit.1 hd.commit.2))
          ∙ hold

      found_hold : (w : Came family c site (machine family site).sent e log)
          → HoldAt family c hd.commit.0 hd.commit.1 w.from
      found_hold w =
          let h = held_of d hd.commit.0 hd.commit.1 log hd.commit.2 (here_tail e log l) hd in
          hold_at family c d hd.commit.0 hd.commit.1 log
          (record {
            of = of_site log (here_tail e log l);
            commit = hd.commit.2;
            proposed = h.proposed;
            open_yet =
                h.open_yet;
          })
          (record { m = w.from; log_is = w.from_log; good = w.from_good; sent = w.from_sent })

      clear_of : (w : Came family c site (machine family site).sent e log) → (b : Body) → e.body ≡ b
          → (h : HoldAt family c hd.commit.0 hd.commit.1 w.from) → IsClear family c b w.from
      clear_of w b f h = subst (λ (z : Body). IsClear family c z w.from) f (w.clear edit.0)

      no_contains : (s : Slot) (run : List (List ℕ)) → e.body ≡ Insert s run
          → contains_slot (doc_of log) hd.commit.1 s ≡ false
      no_contains s run f =
          let w = came family c e log (of_site (e ∷ log) l) in
          let h = found_hold w in
          let k : contains_slot w.from.doc h.hold.slot s ≡ false = clear_of w (Insert s run) f h h.hold h.inside in
          subst (λ (rows : List DocRow). contains_slot rows hd.commit.1 s ≡ false)
          (w.from_good.fit.logged ∙ ap doc_of w.from_log)
          (subst (λ (z : Slot). contains_slot w.from.doc z s ≡ false) h.slot_is k)

      no_within : (target : AtomIdValue) → e.body ≡ Delete target → is_within (doc_of log) target hd.commit.1 ≡ false
      no_within target f =
          let w = came family c e log (of_site (e ∷ log) l) in
          let h = found_hold w in
          let k : is_within w.from.doc target h.hold.slot ≡ false = clear_of w (Delete target) f h h.hold h.inside in
          subst (λ (rows : List DocRow). is_within rows target hd.commit.1 ≡ false)
          (w.from_good.fit.logged ∙ ap doc_of w.from_log)
          (subst (λ (z : Slot). is_within w.from.doc target z ≡ false) h.slot_is k)

      -- a delete moves no row
      delete_out : (target : AtomIdValue) → e.body ≡ Delete target → deletes y (Delete target) ≡ true → ⊥
      delete_out target f k = moved (s_was e log y p l here)
        where
          same : target ≡ y
          same = same_id_true target y k

          moved : (born e y ≡ true)
              ⊎ ((r : Pairs) × (at log y ≡ Some r)
              × (((holds family e r ≡ false) × (r ≡ p)) ⊎ ((holds family e r ≡ true) × (holds family e p ≡ true))))
              → ⊥
          moved (inl b) = true≢false (sym (born_kind e (Delete target) y f b))
          moved (inr (r, u, inr m)) = true≢false (sym m.0 ∙ not_commit e (Delete target) f (λ x z. cc) r)
          moved (inr (r, u, inl m)) =
              let s = standing (doc_of log) y r u in
              let i = within_of (doc_of log) d0 hd.commit.1 s.row s.inside
              (subst (λ (z : Pairs). slot_holds hd.commit.1 z ≡ true) (sym (s.stands ∙ m.1)) holds_slot) in
              true≢false
              (sym (subst (λ (z : AtomIdValue). is_within (doc_of log) z hd.commit.1 ≡ true)
              (s.named ∙ sym same) i) ∙ no_within target f)

      rooted_here : is_rooted (doc_of log) hd.commit.1 ≡ true
      rooted_here =
          rooted family c d hd.commit.0 hd.commit.1 log
          (held_of d hd.commit.0 hd.commit.1 log hd.commit.2 (here_tail e log l) hd)

      some_row : (z : AtomIdValue) → is_some (find_row z (doc_of log)) ≡ true
          → (r : DocRow) × In r (doc_of log) × (row_id r ≡ z)
      some_row z m = look (find_row z (doc_of log)) refl m
        where
          look : (o : Option DocRow) → find_row z (doc_of log) ≡ o → is_some o ≡ true
              → (r : DocRow) × In r (doc_of log) × (row_id r ≡ z)
          look None g k = absurd (true≢false (sym k))
          look (Some r) g k = let x = found z r (doc_of log) g in (r, x.0, x.1)

      -- a new row in the slot of the commit: so the slot has that of the insert
      insert_out : (se : Slot) (run : List (List ℕ)) → e.body ≡ Insert se run → born e y ≡ true → ⊥
      insert_out se run f b = at_row (row_was family c e log lo s.row s.inside)
        where
          s : Standing (doc_of (e ∷ log)) y p
          s = standing (doc_of (e ∷ log)) y p here

          at_row : RowWas family e log s.row → ⊥
          at_row (same_path r i id k) =
              let z = row_op log lt (row_id r) r.path (place_is (doc_of log) d0 r i) in
              new_dot e log lo z.0 z.1
              (born_dot e y b ∙ (ap (λ (t : AtomIdValue). t.dot) (sym s.named ∙ id) ∙ sym z.2))
          at_row (within_slot t sp g k r i id hq hr) = let m = commit_body family e t g in
              not_both se run m.0 (sym f ∙ m.1)
            where
              not_both : (u : Slot) (x : List (List ℕ)) (o : DotValue) → Insert u x ≡ Commit o → ⊥
              not_both u x o h = cc
          at_row (put_in t run' sp g k i) = true≢false (sym (contained hd.commit.1 refl) ∙ no_contains se run f)
            where
              one : (u v : Slot) (x z : List (List ℕ)) → Insert u x ≡ Insert v z → u ≡ v
              one u v x z h = cc

              se_is : t ≡ se
              se_is = one t se run' run (sym g ∙ f)

              m : AtMiddle sp (run_atoms e.dot run') s.row
              m = at_middle (length (run_atoms e.dot run')) sp (run_atoms e.dot run') s.row i

              mine : m.atom.id.dot ≡ e.dot
              mine = (run_places e.dot 0 run' m.atom m.among).dot

              h : Hangs log t sp
              h = hangs log t sp k

              path : p ≡ h.base ++ (h.side, m.atom.id) ∷ m.more
              path = sym s.stands
                  ∙ (m.path
                  ∙ (ap (λ (z : Pairs). z ++ m.more) (h.path m.atom.id)
                  ∙ append_assoc h.base ((h.side, m.atom.id) ∷ []) m.more))

              contained : (u : Slot) → hd.commit.1 ≡ u → contains_slot (doc_of log) hd.commit.1 se ≡ true
              contained Root v = subst (λ (z : Slot). contains_slot (doc_of log) z se ≡ true) (sym v)
                  (contains_root (doc_of log) d0 se)
              contained (At z bit) v = subst (λ (x : Slot). contains_slot (doc_of log) x se ≡ true) (sym v)
                  (lie (fork h.base (h.side, m.atom.id) m.more (a.front ++ (a.side, z) ∷ [])
                  ((bit, a.next) ∷ a.rest) both))
                where
                  a : Passes z bit p
                  a = passes_parts z bit p (subst (λ (x : Slot). slot_holds x p ≡ true) v holds_slot)

                  both : h.base ++ (h.side, m.atom.id) ∷ m.more ≡ (a.front ++ (a.side, z) ∷ []) ++ (bit, a.next)
                      ∷ a.rest
                  both = sym path ∙ (a.is ∙ sym (append_assoc a.front ((a.side, z) ∷ []) ((bit, a.next) ∷ a.rest)))

                  r0 : (r : DocRow) × In r (doc_of log) × (row_id r ≡ z)
                  r0 = some_row z (subst (λ (x : Slot). is_rooted (doc_of log) x ≡ true) v rooted_here)

                  -- the slot's atom stands where the new path passes it
                  zp : r0.0.path ≡ a.front ++ (a.side, z) ∷ []
                  zp =
                      let x = on_way (doc_of (e ∷ log)) (doc family c (e ∷ log) lo) s.row a.front a.side z
                      (bit, a.next) a.rest s.inside (s.stands ∙ a.is) in
                      let u = s_stays e log z r0.0.path l (place_at (doc_of log) d0 r0.0 z r0.1 r0.2)
                      (not_commit e (Insert se run) f (λ o g. cc) r0.0.path) in
                      let v' = place_at (doc_of (e ∷ log)) (doc family c (e ∷ log) lo) x.0 z x.1 x.3 in
                      same (r0.0.path) x.0.path (sym u ∙ v') ∙ x.2
                    where
                      same : (x y : Pairs) → Some x ≡ Some y → x ≡ y
                      same x y g = cc

                  no_empty : (x : Pairs) (u : Pair) (r : Pairs) → [] ≡ (x ++ u ∷ []) ++ r → ⊥
                  no_empty [] u r g = cc
                  no_empty (t ∷ x) u r g = cc

                  first_pair_is : (x : Pairs) (u v : Pair) (r t : Pairs) → x ++ u ∷ r ≡ x ++ v ∷ t → u ≡ v
                  first_pair_is x u v r t g = same_head u r v t (cancel x (u ∷ r) (v ∷ t) g)

                  below : (r : Pairs) → h.base ≡ (a.front ++ (a.side, z) ∷ []) ++ r → (x : DocRow) → In x (doc_of log)
                      → t ≡ At (row_id x) h.side → h.base ≡ x.path → contains_slot (doc_of log) (At z bit) se ≡ true
                  below [] g x ix o k' =
                      let xp : x.path ≡ r0.0.path =
                      sym k' ∙ (g ∙ (append-nil (a.front ++ (a.side, z) ∷ []) ∙ sym zp)) in
                      let xr : x ≡ r0.0 = by_path (doc_of log) d0 x r0.0 ix r0.1 xp in
                      let pair : (h.side, m.atom.id) ≡ (bit, a.next) =
                      first_pair_is (a.front ++ (a.side, z) ∷ []) (h.side, m.atom.id) (bit, a.next) m.more a.rest
                      (ap (λ (y : Pairs). y ++ (h.side, m.atom.id) ∷ m.more)
                      (sym (append-nil (a.front ++ (a.side, z) ∷ [])) ∙ sym g) ∙ both) in
                      let slots : se ≡ At z bit = sym se_is ∙ (o ∙ (λ j. At ((ap row_id xr ∙ r0.2) j) (pair j).0)) in
                      or_left _ _ (or_left _ _ (same_slot_refl (At z bit) se (sym slots)))
                  below (u ∷ r) g x ix o k' =
                      let pair : u ≡ (bit, a.next) = first_pair_is (a.front ++ (a.side, z) ∷ []) u (bit, a.next)
                      (r ++ (h.side, m.atom.id) ∷ m.more) a.rest
                      (sym (append_assoc (a.front ++ (a.side, z) ∷ []) (u ∷ r) ((h.side, m.atom.id) ∷ m.more))
                      ∙ (ap (λ (y : Pairs). y ++ (h.side, m.atom.id) ∷ m.more) (sym g) ∙ both)) in
                      let xp : x.path ≡ a.front ++ (a.side, z) ∷ (bit, a.next) ∷ r =
                      sym k' ∙ (g
                      ∙ (ap (λ (y : Pair). (a.front ++ (a.side, z) ∷ []) ++ y ∷ r) pair
                      ∙ append_assoc a.front ((a.side, z) ∷ []) ((bit, a.next) ∷ r))) in
                      let inside =
                      within_of (doc_of log) d0 (At z bit) x ix
                      (subst (λ (y : Pairs). passes z bit y ≡ true) (sym xp)
                      (passes_from z bit a.front a.side a.next r)) in
                      subst (λ (y : Slot). contains_slot (doc_of log) (At z bit) y ≡ true) (sym o ∙ se_is)
                      (or_right (same_slot (At z bit) (At (row_id x) h.side) || is_root (At z bit)) _ inside)

                  lie : IsBelow (a.front ++ (a.side, z) ∷ []) h.base
                      ⊎ ((after : Pairs) × (a.front ++ (a.side, z) ∷ [] ≡ h.base ++ (h.side, m.atom.id) ∷ after))
                      → contains_slot (doc_of log) (At z bit) se ≡ true
                  lie (inr (after, g)) =
                      absurd (not_new e log l r0.0 r0.1 h.base h.side m.atom.id after mine (zp ∙ g))
                  lie (inl (r, g)) =
                      ⊎_elim (λ (o : (t ≡ Root) × (h.base ≡ [])). absurd
                      (no_empty a.front (a.side, z) r (sym o.1 ∙ g)))
                      (λ (o : (x : DocRow) × In x (doc_of log) × (t ≡ At (row_id x) h.side) × (h.base ≡ x.path)).
                      below r g o.0 o.1 o.2 o.3) h.how

      from : (b : Body) → e.body ≡ b → ⊥
      from (Insert se run) f =
          ⊎_elim (λ (b : born e y ≡ true). insert_out se run f b)
          (λ (b : deletes y e.body ≡ true). true≢false (sym (kills_kind e (Insert se run) y f b))) edit.1
      from (Delete target) f =
          ⊎_elim (λ (b : born e y ≡ true). true≢false (sym (born_kind e (Delete target) y f b)))
          (λ (b : deletes y e.body ≡ true). delete_out target f (kills_kind e (Delete target) y f b)) edit.1
      from (Propose s) f =
          ⊎_elim (λ (b : born e y ≡ true). true≢false (sym (born_kind e (Propose s) y f b)))
          (λ (b : deletes y e.body ≡ true). true≢false (sym (kills_kind e (Propose s) y f b))) edit.1
      from (Commit o) f =
          ⊎_elim (λ (b : born e y ≡ true). true≢false (sym (born_kind e (Commit o) y f b)))
          (λ (b : deletes y e.body ≡ true). true≢false (sym (kills_kind e (Commit o) y f b))) edit.1
      from (Abort o) f =
          ⊎_elim (λ (b : born e y ≡ true). true≢false (sym (born_kind e (Abort o) y f b)))
          (λ (b : deletes y e.body ≡ true). true≢false (sym (kills_kind e (Abort o) y f b))) edit.1

  -- ---- the record

  s_committed : (o : OpValue) (log : List OpValue) (p : Pairs) → IsHere (o ∷ log) → holds family o p ≡ true
      → IsACommit o
  s_committed o log p l h =
      let s = commit_slot family o p h in
      let q = commit_of family c o s.slot (op_in family c (o ∷ log) (of_site (o ∷ log) l) o (inl refl)) s.is in
      (q.0, s.slot, q.1)

  pub facts : Site sw
  facts =
      record {
        tail = here_tail;
        known = λ e d log l k. known family c e (base family d)
            (op_in family c (e ∷ log) (of_site (e ∷ log) l) e (inl refl)) (base_log family c d k.2.inside);
        onward = base_onward family c;
        stays = s_stays;
        was = s_was;
        own = s_own;
        nested = s_nested;
        committed = s_committed;
        no_commit = λ d k m. no_kinds k.1 m.0.dot (sym (asks d k) ∙ m.2.is);
        old_focus = s_old_focus;
        bears_not = λ d x k h. true≢false (sym (born_kind d (Commit k.0.dot) x k.2.is h));
        bare = λ d x k h. bare_body (proposal d) k.1 x (asks d k) h;
        no_edit = λ d y k e. ⊎_elim (λ (b : born (proposal d) y ≡ true). bare_body (proposal d) k.1 y (asks d k) b)
            (λ (b : deletes y (proposal d).body ≡ true). true≢false
            (sym (kills_kind (proposal d) (Propose k.1) y (asks d k) b))) e.1;
        held = s_held;
        holds_apart = s_apart;
        saw_commits = s_saw_commits;
        saw_rows = s_saw_rows;
        slot_row = s_slot_row;
        refused = s_refused;
      }
