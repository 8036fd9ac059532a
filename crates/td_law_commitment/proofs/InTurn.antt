-- At one site: a commit that overlaps a held slot is in the base of the hold's proposal; and an edit that touches a
-- slot voted on later is in the base of the proposal.
use Rattle.std.proofs.Common.{◌≡◌, ◌⊎◌, ◌<◌, ◌≤◌, ℕ, zero, suc, List, ◌∷◌, length, true, false, Some}
use Rattle.std.proofs.Common.{refl, sym, ◌∙◌, subst, inl, inr, ⊎_elim, true≢false, arith}
use Rattle.td_base.specs.Lists.{In}
use Rattle.td_law_commitment.proofs.SiteWords.{SiteWords, Overlap, one_slot, in_first, in_second, Held, Site}
use Rattle.std.proofs.lemmas.Bool.{cases_Bool}
use Rattle.td_law_logs.proofs.Suffixes.{Suffix, whole, more, suffix_keeps, suffix_in}
use Rattle.td_law_logs.proofs.Suffixes.{suffix_few, suffix_next, ends, split_end}
use Rattle.std.proofs.lemmas.Option.{same_Some}

module _ {Op Id Path : Type 0} (w : SiteWords Op Id Path) (f : Site w) where
  abbrev Older : Op → List Op → Type 0
  Older e log = In e log ⊎ Held w e log

  -- where a row was before a step, and whether the step's commit holds it
  abbrev Before : Op → List Op → Id → Path → Type 0
  Before o log x p =
      (q : Path) × (w.at log x ≡ Some q)
      × (((w.holds o q ≡ false) × (q ≡ p)) ⊎ ((w.holds o q ≡ true) × (w.holds o p ≡ true)))

  focus_was : (o e : Op) (log : List Op) → w.IsLog (o ∷ log) → Older e log → (p : Path)
      → w.at (o ∷ log) (w.focus e) ≡ Some p → Before o log (w.focus e) p
  focus_was o e log l old p h = ⊎_elim (λ b. absurd (f.old_focus o e log l old b)) (λ k. k)
      (f.was o log (w.focus e) p l h)

  -- a commit makes no overlap of its own slot
  back_self : (o c : Op) (log : List Op) → w.IsLog (o ∷ log) → Older o log → Older c log → Overlap w (o ∷ log) o c
      → Overlap w log o c
  back_self o c log l oo oc (one_slot s) = one_slot s
  back_self o c log l oo oc (in_first p e h) =
      let b = focus_was o c log l oc p e in
      ⊎_elim (λ (k : (w.holds o b.0 ≡ false) × (b.0 ≡ p)). absurd
      (true≢false (sym h ∙ subst (λ z. w.holds o z ≡ false) k.1 k.0)))
      (λ (k : (w.holds o b.0 ≡ true) × (w.holds o p ≡ true)). in_first b.0 b.1 k.0) b.2
  back_self o c log l oo oc (in_second p e h) =
      let b = focus_was o o log l oo p e in
      ⊎_elim (λ (k : (w.holds o b.0 ≡ false) × (b.0 ≡ p)). in_second b.0 b.1
      (subst (λ z. w.holds c z ≡ true) (sym k.1) h))
      (λ (k : (w.holds o b.0 ≡ true) × (w.holds o p ≡ true)). absurd (f.own o log b.0 (f.tail o log l) b.1 k.0)) b.2

  -- nor of two others, where it overlaps the second of them nowhere
  back_other : (o e c : Op) (log : List Op) → w.IsLog (o ∷ log) → (w.IsCommit o → Older o log) → Older e log
      → Older c log → (w.IsCommit o → Overlap w log o c → ⊥) → Overlap w (o ∷ log) e c → Overlap w log e c
  back_other o e c log l oo oe oc n (one_slot s) = one_slot s
  back_other o e c log l oo oe oc n (in_first p h k) =
      let b = focus_was o c log l oc p h in
      ⊎_elim (λ (q : (w.holds o b.0 ≡ false) × (b.0 ≡ p)). in_first b.0 b.1
      (subst (λ z. w.holds e z ≡ true) (sym q.1) k))
      (λ (q : (w.holds o b.0 ≡ true) × (w.holds o p ≡ true)). absurd
      (n (f.committed o log b.0 l q.0) (in_first b.0 b.1 q.0))) b.2
  back_other o e c log l oo oe oc n (in_second p h k) =
      let b = focus_was o e log l oe p h in
      ⊎_elim (λ (q : (w.holds o b.0 ≡ false) × (b.0 ≡ p)). in_second b.0 b.1
      (subst (λ z. w.holds c z ≡ true) (sym q.1) k))
      (λ (q : (w.holds o b.0 ≡ true) × (w.holds o p ≡ true)).
      let ic = f.committed o log b.0 l q.0 in
      absurd (n ic (back_self o c log l (oo ic) oc (f.nested c o (o ∷ log) (w.focus e) p l h q.1 k)))) b.2

  -- a commit of the log that overlaps a held slot is in the base of the hold's proposal
  in_turn_from : (c : Op) → w.IsCommit c → (log : List Op) → Suffix (w.proposal c ∷ w.vote c) log → w.IsLog log
      → (In c log → ⊥) → (e : Op) → In e log → w.IsCommit e → Overlap w log e c → In e (w.base c)
  in_turn_from c kc log whole l n e i k v =
      ⊎_elim (λ (q : e ≡ w.proposal c). absurd (f.no_commit c kc (subst (λ z. w.IsCommit z) q k)))
      (λ (j : In e (w.vote c)). f.saw_commits c e kc l j k (at_vote v j))
      i
    where
      at_vote : Overlap w (w.proposal c ∷ w.vote c) e c → In e (w.vote c) → Overlap w (w.vote c) e c
      at_vote (one_slot s) j = one_slot s
      at_vote (in_first p h q) j =
          ⊎_elim (λ b. absurd (f.bare c (w.focus c) kc b))
          (λ (b : Before (w.proposal c) (w.vote c) (w.focus c) p). ⊎_elim
          (λ (m : (w.holds (w.proposal c) b.0 ≡ false) × (b.0 ≡ p)). in_first b.0 b.1
          (subst (λ z. w.holds e z ≡ true) (sym m.1) q))
          (λ (m : (w.holds (w.proposal c) b.0 ≡ true) × (w.holds (w.proposal c) p ≡ true)). absurd
          (f.no_commit c kc (f.committed (w.proposal c) (w.vote c) b.0 l m.0))) b.2)
          (f.was (w.proposal c) (w.vote c) (w.focus c) p l h)
      at_vote (in_second p h q) j =
          let b = focus_was (w.proposal c) e (w.vote c) l (inl j) p h in
          ⊎_elim
          (λ (m : (w.holds (w.proposal c) b.0 ≡ false) × (b.0 ≡ p)). in_second b.0 b.1
          (subst (λ z. w.holds c z ≡ true) (sym m.1) q))
          (λ (m : (w.holds (w.proposal c) b.0 ≡ true) × (w.holds (w.proposal c) p ≡ true)). absurd
          (f.no_commit c kc (f.committed (w.proposal c) (w.vote c) b.0 l m.0))) b.2
  in_turn_from c kc log (more {list = rest} o s) l n e i k v =
      let hc : Held w c rest = record { commit = kc; since = s; open_yet = λ j. n (inr j) } in
      let lr = f.tail o rest l in
      let differ : o ≡ c → ⊥ = λ q. n (inl (sym q)) in
      let clear : w.IsCommit o → Overlap w rest o c
      → ⊥ = λ ic. f.holds_apart o c rest lr (f.held o rest ic l) hc differ in
      ⊎_elim
      (λ (q : e ≡ o).
      let ic = subst (λ z. w.IsCommit z) q k in
      absurd (clear ic
      (back_self o c rest l (inr (f.held o rest ic l)) (inr hc) (subst (λ z. Overlap w (o ∷ rest) z c) q v))))
      (λ (j : In e rest). in_turn_from c kc rest s lr (λ z. n (inr z)) e j k
      (back_other o e c rest l (λ ic. inr (f.held o rest ic l)) (inl j) (inr hc) clear v))
      i

  pub in_turn : (c : Op) (log : List Op) → Held w c log → w.IsLog log → (e : Op) → In e log → w.IsCommit e
      → Overlap w log e c → In e (w.base c)
  in_turn c log h l e i k v = in_turn_from c h.commit log h.since l h.open_yet e i k v

  suffix_log : (part log : List Op) → Suffix part log → w.IsLog log → w.IsLog part
  suffix_log part log s l = suffix_keeps w.IsLog f.tail part log s l

  module _ (e : Op) (y : Id) (before : List Op) (edit : w.Edits e y) (le : w.IsLog (e ∷ before)) (p : Path)
      (here : w.at (e ∷ before) y ≡ Some p) where
    -- the edit is in the base of each commit that it touches and that the site votes on later
    abbrev Touched : ℕ → Type 0
    Touched bound = (c : Op) → w.IsCommit c → w.holds c p ≡ true → w.IsLog (w.proposal c ∷ w.vote c)
        → Suffix (e ∷ before) (w.vote c) → length (w.vote c) < bound → In e (w.base c)

    -- how the site's log stands between the edit and the vote
    data State (c : Op) (log : List Op) : Type 0 where
      unmoved : w.at log y ≡ Some p → State c log
      overlapped : (g : Op) → In g log → w.IsCommit g → (In g (w.base c) → ⊥) → Overlap w log g c → State c log
      settled : In e (w.base c) → State c log

    module _ (bound : ℕ) (ih : Touched bound) (c : Op) (kc : w.IsCommit c) (hc : w.holds c p ≡ true)
        (lv : w.IsLog (w.proposal c ∷ w.vote c)) (few : length (w.vote c) ≤ bound) where
      vote_log : w.IsLog (w.vote c)
      vote_log = f.tail (w.proposal c) (w.vote c) lv

      take_over : (o : Op) (rest : List Op) → w.IsLog (o ∷ rest) → Suffix (o ∷ rest) (w.vote c) → w.IsCommit o
          → (In o (w.base c) → ⊥) → Overlap w rest o c → State c (o ∷ rest)
      take_over o rest l s ic n (one_slot k) = overlapped o (inl refl) ic n (one_slot k)
      take_over o rest l s ic n (in_first a h k) =
          let r = f.slot_row c o rest kc lv s a h in
          ⊎_elim (λ b. absurd (away b))
          (λ (b : Before o rest (w.focus c) r.0).
          let same : b.0 ≡ a = same_Some _ _ (sym b.1 ∙ h) in
          ⊎_elim (λ (m : (w.holds o b.0 ≡ false) × (b.0 ≡ r.0)). absurd
          (true≢false (sym k ∙ subst (λ z. w.holds o z ≡ false) same m.0)))
          (λ (m : (w.holds o b.0 ≡ true) × (w.holds o r.0 ≡ true)). overlapped o (inl refl) ic n
          (in_first r.0 r.1 m.1)) b.2)
          (f.was o rest (w.focus c) r.0 l r.1)
        where
          away : w.born o (w.focus c) ≡ true → ⊥
          away b = f.bears_not o (w.focus c) ic b
      take_over o rest l s ic n (in_second a h k) =
          ⊎_elim (λ m. absurd (f.own o rest a (f.tail o rest l) h m))
          (λ m. overlapped o (inl refl) ic n (in_second a (f.stays o rest (w.focus o) a l h m) k))
          (cases_Bool (w.holds o a))

      step_over : (o : Op) (rest : List Op) → w.IsLog (o ∷ rest) → Suffix (o ∷ rest) (w.vote c) → (g : Op) → In g rest
          → w.IsCommit g → (In g (w.base c) → ⊥) → Overlap w rest g c → State c (o ∷ rest)
      step_over o rest l s g i ig n (one_slot k) = overlapped g (inr i) ig n (one_slot k)
      step_over o rest l s g i ig n (in_first a h k) =
          ⊎_elim
          (λ m.
          let ic = f.committed o rest a l m in
          ⊎_elim (λ (q : In o (w.base c)). absurd
          (n (f.onward g o c
          (in_turn o rest (f.held o rest ic l) (f.tail o rest l) g i ig
          (f.nested o g rest (w.focus c) a (f.tail o rest l) h k m)) q)))
          (λ q. take_over o rest l s ic q (in_first a h m)) (f.known o c rest l kc))
          (λ m. overlapped g (inr i) ig n (in_first a (f.stays o rest (w.focus c) a l h m) k))
          (cases_Bool (w.holds o a))
      step_over o rest l s g i ig n (in_second a h k) =
          ⊎_elim
          (λ m.
          let ic = f.committed o rest a l m in
          ⊎_elim (λ (q : In o (w.base c)). absurd
          (n (f.onward g o c (in_turn o rest (f.held o rest ic l) (f.tail o rest l) g i ig (in_second a h m)) q)))
          (λ q. take_over o rest l s ic q (f.nested c o rest (w.focus g) a (f.tail o rest l) h m k))
          (f.known o c rest l kc))
          (λ m. overlapped g (inr i) ig n (in_second a (f.stays o rest (w.focus g) a l h m) k))
          (cases_Bool (w.holds o a))

      step : (o : Op) (rest : List Op) → w.IsLog (o ∷ rest) → Suffix (o ∷ rest) (w.vote c) → Suffix (e ∷ before) rest
          → State c rest → State c (o ∷ rest)
      step o rest l s t (settled i) = settled i
      step o rest l s t (overlapped g i ig n v) = step_over o rest l s g i ig n v
      step o rest l s t (unmoved u) =
          ⊎_elim moved (λ m. unmoved (f.stays o rest y p l u m)) (cases_Bool (w.holds o p))
        where
          moved : w.holds o p ≡ true → State c (o ∷ rest)
          moved m =
              ⊎_elim (λ (q : In o (w.base c)). settled (f.onward e o c in_base q))
              (λ q. take_over o rest l s ic q (f.nested c o rest y p (f.tail o rest l) u m hc))
              (f.known o c rest l kc)
            where
              ic : w.IsCommit o
              ic = f.committed o rest p l m

              h : Held w o rest
              h = f.held o rest ic l

              lo : w.IsLog (w.proposal o ∷ w.vote o)
              lo = suffix_log (w.proposal o ∷ w.vote o) rest h.since (f.tail o rest l)

              later : length (w.vote o) < bound
              later =
                  let a = suffix_few (w.proposal o ∷ w.vote o) rest h.since in
                  let b = suffix_few (o ∷ rest) (w.vote c) s in
                  omega arith

              early : Suffix (w.proposal o ∷ w.vote o) (e ∷ before) → ⊥
              early k = ⊎_elim (λ (q : w.proposal o ≡ e). f.no_edit o y ic (subst (λ z. w.Edits z y) (sym q) edit))
                  (λ (j : Suffix (w.proposal o ∷ w.vote o) before). f.refused e o y p before edit le here m
                  (record {
                    commit = ic;
                    since = j;
                    open_yet =
                        λ i. h.open_yet (suffix_in (e ∷ before) rest t o (inr i));
                  }))
                  (split_end (w.proposal o) (w.vote o) e before k)

              late : Suffix (e ∷ before) (w.proposal o ∷ w.vote o) → In e (w.base o)
              late k = ⊎_elim (λ (q : e ≡ w.proposal o). absurd (f.no_edit o y ic (subst (λ z. w.Edits z y) q edit)))
                  (λ (j : Suffix (e ∷ before) (w.vote o)). ih o ic m lo j later)
                  (split_end e before (w.proposal o) (w.vote o) k)

              in_base : In e (w.base o)
              in_base =
                  ⊎_elim (λ k. absurd (early k)) (λ k. late k)
                  (ends (w.proposal o ∷ w.vote o) rest h.since (e ∷ before) t)

      walk : (log : List Op) → Suffix (e ∷ before) log → Suffix log (w.vote c) → State c log
      walk log whole s = unmoved here
      walk log (more {list = rest} o t) s = step o rest (suffix_log (o ∷ rest) (w.vote c) s vote_log) s t
          (walk rest t (suffix_next o rest (w.vote c) s))

      at_end : Suffix (e ∷ before) (w.vote c) → State c (w.vote c) → In e (w.base c)
      at_end t (settled i) = i
      at_end t (overlapped g i ig n v) = absurd (n (f.saw_commits c g kc lv i ig v))
      at_end t (unmoved u) = f.saw_rows c e y p kc lv (suffix_in (e ∷ before) (w.vote c) t e (inl refl)) edit u hc

      voted : Suffix (e ∷ before) (w.vote c) → In e (w.base c)
      voted t = at_end t (walk (w.vote c) t whole)

    touched : (bound : ℕ) → Touched bound
    touched zero c kc hc lv t few = absurd (omega arith)
    touched (suc bound) c kc hc lv t few = voted bound (touched bound) c kc hc lv (omega arith) t

    -- an edit that touches the slot of a commit on whose proposal its site votes Yes, at whatever moment, is in the
    -- base of the commit, or has the commit before it
    pub no_edit_beside : (c : Op) (log : List Op) → w.IsCommit c → w.holds c p ≡ true → w.IsLog log
        → Suffix (w.proposal c ∷ w.vote c) log → Suffix (e ∷ before) log → In e (w.base c) ⊎ (((In c before → ⊥) → ⊥))
    no_edit_beside c log kc hc l sv se = ⊎_elim early late (ends (w.proposal c ∷ w.vote c) log sv (e ∷ before) se)
      where
        early : Suffix (w.proposal c ∷ w.vote c) (e ∷ before) → In e (w.base c) ⊎ (((In c before → ⊥) → ⊥))
        early k = ⊎_elim (λ (q : w.proposal c ≡ e). absurd (f.no_edit c y kc (subst (λ z. w.Edits z y) (sym q) edit)))
            (λ (j : Suffix (w.proposal c ∷ w.vote c) before). inr
            (λ n. f.refused e c y p before edit le here hc (record { commit = kc; since = j; open_yet = n })))
            (split_end (w.proposal c) (w.vote c) e before k)

        late : Suffix (e ∷ before) (w.proposal c ∷ w.vote c) → In e (w.base c) ⊎ (((In c before → ⊥) → ⊥))
        late k = ⊎_elim (λ (q : e ≡ w.proposal c). absurd (f.no_edit c y kc (subst (λ z. w.Edits z y) q edit)))
            (λ (j : Suffix (e ∷ before) (w.vote c)). inl
            (touched (suc (length (w.vote c))) c kc hc (suffix_log (w.proposal c ∷ w.vote c) log sv l) j
            (omega arith)))
            (split_end e before (w.proposal c) (w.vote c) k)
