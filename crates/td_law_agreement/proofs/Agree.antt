-- Whatever the order in which a site took them, each edit finds its atom where its maker had it, and each commit finds
-- in its slot the rows that its proposer had there.
use Rattle.std.proofs.Common.{◌≡◌, ◌⊎◌, ◌<◌, ◌≤◌, ℕ, zero, suc, List, [], ◌∷◌, length, Bool, true, false, Option}
use Rattle.std.proofs.Common.{Some, None, refl, sym, ap, ◌∙◌, subst, inl, inr, ⊎_elim, true≢false, arith}
use Rattle.td_base.specs.Lists.{In}
use Rattle.td_law_agreement.proofs.Words.{Words, renames, holds_some, IsBorn, Nested}
use Rattle.td_law_agreement.proofs.Words.{one_slot, atom_within, within_atom}
use Rattle.td_law_agreement.proofs.Words.{Agrees, Pending, Family, Slots, Tops, MetAt, Met, one, earlier, behind, met}
use Rattle.td_law_agreement.proofs.Words.{met_back}
use Rattle.std.proofs.lemmas.Bool.{cases_Bool, false_from_ne_true}
use Rattle.td_law_logs.proofs.Suffixes.{Suffix, whole, more, suffix_keeps, suffix_in, suffix_few}
use Rattle.std.proofs.lemmas.Option.{same_Some}

module _ {Op Id Path : Type 0} (w : Words Op Id Path) (f : Family w) where
  suffix_log : (part log : List Op) → Suffix part log → w.IsLog log → w.IsLog part
  suffix_log part log s l = suffix_keeps w.IsLog f.tail part log s l

  -- every operation of the log agreed when it was taken
  abbrev AllAgree : List Op → Type 0
  AllAgree log = (o : Op) (part : List Op) → Suffix (o ∷ part) log → Agrees w o part

  -- an operation of a log, with the log before it
  record Taken (log : List Op) (e : Op) : Type 0 where
    part : List Op
    suffix : Suffix (e ∷ part) log

  taken : (log : List Op) (e : Op) → In e log → Taken log e
  taken [] e i = absurd i
  taken (o ∷ log) e i =
      ⊎_elim
      (λ (p : e ≡ o). record { part = log; suffix = subst (λ x. Suffix (x ∷ log) (o ∷ log)) (sym p) whole })
      (λ k. let t = taken log e k in record { part = t.part; suffix = more o t.suffix })
      i

  base_within : (log : List Op) → w.IsLog log → (e : Op) → In e log → (g : Op) → In g (w.base e) → In g log
  base_within log l e i g k =
      let t = taken log e i in
      suffix_in (e ∷ t.part) log t.suffix g
      (inr ((f.ready e t.part (suffix_log (e ∷ t.part) log t.suffix l)).base_in g k))

  -- the last commit that renamed an atom
  pub data Last (log : List Op) (x : Id) : Type 0 where
    never : ((g : Op) → In g log → renames w g x ≡ false) → w.at log x ≡ w.birth x → Last log x
    by : (e : Op) → In e log → renames w e x ≡ true → w.at log x ≡ w.after e x
        → ((g : Op) → In g log → renames w g x ≡ true → (g ≡ e) ⊎ In g (w.base e)) → Last log x

  renames_some : (o : Op) (x : Id) (m : Option Path) → w.at (w.base o) x ≡ m → holds_some w o m ≡ true
      → (path : Path) × (m ≡ Some path) × (w.holds o path ≡ true)
  renames_some o x None e h = absurd (true≢false (sym h))
  renames_some o x (Some path) e h = (path, refl, h)

  renamed_from : (o : Op) (x : Id) → renames w o x ≡ true
      → (path : Path) × (w.at (w.base o) x ≡ Some path) × (w.holds o path ≡ true)
  renamed_from o x h = renames_some o x (w.at (w.base o) x) refl h

  renames_by : (o : Op) (x : Id) (path : Path) → w.at (w.base o) x ≡ Some path → w.holds o path ≡ true
      → renames w o x ≡ true
  renames_by o x path e h = ap (λ m. holds_some w o m) e ∙ h

  -- the last renaming before o, of an atom that o renames, is in o's base
  last_in_base : (o : Op) (log : List Op) (x : Id) → w.IsLog (o ∷ log) → Agrees w o log → renames w o x ≡ true
      → Last log x → (g : Op) → In g log → renames w g x ≡ true → In g (w.base o)
  last_in_base o log x l a r (never n e) g i h = absurd (true≢false (sym h ∙ n g i))
  last_in_base o log x l a r (by e k s at all) g i h =
      let p = renamed_from o x r in
      let here : w.at log x ≡ Some p.0 = a.there x p.0 p.2 p.1 in
      let inside = f.after_within e x p.0 (f.member e log (f.tail o log l) k) (sym at ∙ here) in
      let b : In e (w.base o) =
      (f.ready o log l).in_turn e k (f.both_hold o e log x p.0 (f.tail o log l) here inside p.2) in
      ⊎_elim (λ (q : g ≡ e). subst (λ z. In z (w.base o)) (sym q) b) (λ q. f.base_onward g e o q b) (all g i h)

  agree_tail : (o : Op) (log : List Op) → AllAgree (o ∷ log) → AllAgree log
  agree_tail o log a e part s = a e part (more o s)

  last_step : (o : Op) (log : List Op) (x : Id) → w.IsLog (o ∷ log) → Agrees w o log → w.born o x ≡ false → Last log x
      → (b : Bool) → renames w o x ≡ b → Last (o ∷ log) x
  last_step o log x l a n t true r =
      by o (inl refl) r (f.renamed o log x l a r)
      (λ g i h. ⊎_elim (λ q. inl q) (λ k. inr (last_in_base o log x l a r t g k h)) i)
  last_step o log x l a n t false r =
      carry t (f.stays o log x l n
      (λ path e. false_from_ne_true (w.holds o path)
      (λ h. true≢false (sym (renames_by o x path (a.here x path h e) h) ∙ r))))
    where
      carry : Last log x → w.at (o ∷ log) x ≡ w.at log x → Last (o ∷ log) x
      carry (never m e) u =
          never (λ g i. ⊎_elim (λ (q : g ≡ o). subst (λ z. renames w z x ≡ false) (sym q) r) (λ k. m g k) i) (u ∙ e)
      carry (by e k s at all) u =
          by e (inr k) s (u ∙ at)
          (λ g i h. ⊎_elim (λ (q : g ≡ o). absurd (true≢false (sym (subst (λ z. renames w z x ≡ true) q h) ∙ r)))
          (λ j. all g j h) i)

  -- no commit before an atom's insert renames it
  unborn : (o : Op) (log : List Op) (x : Id) → w.IsLog (o ∷ log) → w.born o x ≡ true → (g : Op) → In g (o ∷ log)
      → renames w g x ≡ false
  unborn o log x l b g i =
      false_from_ne_true (renames w g x) (λ h.
      let t = taken (o ∷ log) g i in
      let born = f.renames_born g t.part x (suffix_log (g ∷ t.part) (o ∷ log) t.suffix l) h in
      let same : born.0 ≡ o =
      f.born_once born.0 o x (f.base_member born.0 g born.1) (f.member o (o ∷ log) l (inl refl)) born.2 b in
      let within : In o (w.base g) = subst (λ z. In z (w.base g)) same born.1 in
      ⊎_elim (λ (q : g ≡ o). f.base_not o (subst (λ z. In o (w.base z)) q within))
      (λ k. (f.ready o log l).once (base_within log (f.tail o log l) g k o within)) i)

  last : (log : List Op) → w.IsLog log → AllAgree log → (x : Id) → IsBorn w log x → Last log x
  last [] l a x b = absurd b.1
  last (o ∷ log) l a x b =
      ⊎_elim
      (λ (q : w.born o x ≡ true). never (unborn o log x l q) (f.born_at o log x l q (a o log whole).focus))
      (λ (q : w.born o x ≡ false).
      last_step o log x l (a o log whole) q
      (last log (f.tail o log l) (agree_tail o log a) x
      (b.0, ⊎_elim (λ (e : b.0 ≡ o). absurd (true≢false (sym b.2 ∙ (ap (λ z. w.born z x) e ∙ q)))) (λ k. k) b.1, b.2))
      (renames w o x) refl)
      (cases_Bool (w.born o x))

  -- with the same renamings an atom stands in the same place
  same_place : (log part : List Op) (x : Id) → Last log x → Last part x
      → ((g : Op) → In g log → renames w g x ≡ true → In g part)
      → ((g : Op) → In g part → renames w g x ≡ true → In g log) → w.at log x ≡ w.at part x
  same_place log part x (never n e) (never m u) p q = e ∙ sym u
  same_place log part x (never n e) (by g i r u all) p q = absurd (true≢false (sym r ∙ n g (q g i r)))
  same_place log part x (by g i r u all) (never m e) p q = absurd (true≢false (sym r ∙ m g (p g i r)))
  same_place log part x (by g i r u all) (by h j s v every) p q =
      ⊎_elim (λ (k : g ≡ h). u ∙ (ap (λ z. w.after z x) k ∙ sym v))
      (λ (k : In g (w.base h)). ⊎_elim (λ (m : h ≡ g). u ∙ (ap (λ z. w.after z x) (sym m) ∙ sym v))
      (λ m. absurd (f.base_one_way g h k m)) (all h (q h j s) s))
      (every g (p g i r) r)

  -- two renamings of an atom in one log come one in the base of the other
  in_order : (log : List Op) → w.IsLog log → AllAgree log → (x : Id) (g e : Op) → In g log → In e log
      → renames w g x ≡ true → renames w e x ≡ true → (g ≡ e) ⊎ (In g (w.base e) ⊎ In e (w.base g))
  in_order [] l a x g e i j r s = absurd i
  in_order (o ∷ log) l a x g e i j r s =
      ⊎_elim
      (λ (p : g ≡ o). ⊎_elim (λ (q : e ≡ o). inl (p ∙ sym q))
      (λ (q : In e log). inr
      (inr (subst (λ z. In e (w.base z)) (sym p)
      (last_in_base o log x l (a o log whole) (subst (λ z. renames w z x ≡ true) p r)
      (old o log l a x e q s) e q s)))) j)
      (λ (p : In g log). ⊎_elim
      (λ (q : e ≡ o). inr
      (inl (subst (λ z. In g (w.base z)) (sym q)
      (last_in_base o log x l (a o log whole) (subst (λ z. renames w z x ≡ true) q s)
      (old o log l a x g p r) g p r))))
      (λ q. in_order log (f.tail o log l) (agree_tail o log a) x g e p q r s) j)
      i
    where
      old : (o : Op) (log : List Op) → w.IsLog (o ∷ log) → AllAgree (o ∷ log) → (x : Id) (g : Op) → In g log
          → renames w g x ≡ true → Last log x
      old o log l a x g i r =
          let t = taken log g i in
          let lg = f.tail o log l in
          let b = f.renames_born g t.part x (suffix_log (g ∷ t.part) log t.suffix lg) r in
          last log lg (agree_tail o log a) x (b.0, base_within log lg g i b.0 b.1, b.2)

  -- the oldest commit of log that renames x and is not in part
  pub data Oldest (log part : List Op) (x : Id) : Type 0 where
    none_out : ((g : Op) → In g log → renames w g x ≡ true → In g part) → Oldest log part x
    out : (e : Op) (before : List Op) → Suffix (e ∷ before) log → renames w e x ≡ true → (In e part → ⊥)
        → ((g : Op) → In g before → renames w g x ≡ true → In g part) → Oldest log part x

  oldest_step : (o : Op) (log part : List Op) (x : Id) → Oldest log part x → (b : Bool) → renames w o x ≡ b
      → In o part ⊎ (In o part → ⊥) → Oldest (o ∷ log) part x
  oldest_step o log part x (out e before s r n all) b q k = out e before (more o s) r n all
  oldest_step o log part x (none_out all) false q k =
      none_out (λ g i r. ⊎_elim (λ (p : g ≡ o). absurd (true≢false (sym (subst (λ z. renames w z x ≡ true) p r) ∙ q)))
      (λ j. all g j r) i)
  oldest_step o log part x (none_out all) true q k =
      ⊎_elim (λ (h : In o part). none_out
      (λ g i r. ⊎_elim (λ (p : g ≡ o). subst (λ z. In z part) (sym p) h) (λ j. all g j r) i))
      (λ n. out o log whole q n all) k

  oldest : (log part : List Op) → w.IsLog log → w.IsLog part → (x : Id) → Oldest log part x
  oldest [] part k l x = none_out (λ g i r. absurd i)
  oldest (o ∷ log) part k l x = oldest_step o log part x (oldest log part (f.tail o log k) l x) (renames w o x) refl
      (f.known o part (f.member o (o ∷ log) k (inl refl)) l)

  -- where the oldest renaming that part lacks came, the atom stood as in part
  first_out : (log part : List Op) (x : Id) → w.IsLog log → AllAgree log → w.IsLog part
      → ((g : Op) → In g part → In g log) → Last part x
      → (e : Op) (before : List Op) → w.IsLog (e ∷ before) → In e log → renames w e x ≡ true → (In e part → ⊥)
      → ((g : Op) → In g before → renames w g x ≡ true → In g part) → Last (w.base e) x
      → w.at (w.base e) x ≡ w.at part x
  first_out log part x l a lp into lastp e before le ie r n older laste =
      same_place (w.base e) part x laste lastp
      (λ g i h. older g ((f.ready e before le).base_in g i) h)
      (λ g i h.
      ⊎_elim (λ (q : g ≡ e). absurd (n (subst (λ z. In z part) q i)))
      (λ (q : In g (w.base e) ⊎ In e (w.base g)). ⊎_elim (λ k. k) (λ k. absurd (n (base_within part lp g i e k))) q)
      (in_order log l a x g e (into g i) ie h r))

  module _ (o : Op) (log : List Op) (l : Pending w o log)
      (all : (part : List Op) → w.IsLog part → length part ≤ length log → AllAgree part) where
    log_is : w.IsLog log
    log_is = l.is

    base_is : w.IsLog (w.base o)
    base_is = l.base_log

    last_here : (x : Id) → IsBorn w log x → Last log x
    last_here x b = last log log_is (all log log_is (omega arith)) x b

    last_base : (x : Id) → IsBorn w (w.base o) x → Last (w.base o) x
    last_base x b = last (w.base o) base_is (all (w.base o) base_is l.base_few) x b

    born_more : (x : Id) → IsBorn w (w.base o) x → IsBorn w log x
    born_more x b = (b.0, l.base_in b.0 b.1, b.2)

    last_of : (e : Op) (before : List Op) → Suffix (e ∷ before) log → (x : Id) → renames w e x ≡ true
        → Last (w.base e) x
    last_of e before s x r =
        let le = suffix_log (e ∷ before) log s log_is in
        let few1 = (f.ready e before le).base_few in
        let few2 = suffix_few (e ∷ before) log s in
        let few : length (w.base e) ≤ length log = omega arith in
        last (w.base e) ((f.ready e before le).base_log) (all (w.base e) ((f.ready e before le).base_log) few) x
        (f.renames_born e before x le r)

    first_place : (x : Id) → IsBorn w (w.base o) x → (e : Op) (before : List Op) → Suffix (e ∷ before) log
        → renames w e x ≡ true → (In e (w.base o) → ⊥)
        → ((g : Op) → In g before → renames w g x ≡ true → In g (w.base o)) → w.at (w.base e) x ≡ w.at (w.base o) x
    first_place x b e before s r n older =
        first_out log (w.base o) x log_is (all log log_is (omega arith)) base_is (λ g i. l.base_in g i)
        (last_base x b) e before (suffix_log (e ∷ before) log s log_is)
        (suffix_in (e ∷ before) log s e (inl refl)) r n older (last_of e before s x r)

    alike : (x : Id) → IsBorn w (w.base o) x → ((g : Op) → In g log → renames w g x ≡ true → In g (w.base o))
        → w.at log x ≡ w.at (w.base o) x
    alike x b h = same_place log (w.base o) x (last_here x (born_more x b)) (last_base x b) h (λ g i r. l.base_in g i)

    -- no commit outside an edit's base renames the atom that the edit names
    focus_renamed : w.edits o ≡ true → (g : Op) → In g log → renames w g (w.focus o) ≡ true → In g (w.base o)
    focus_renamed h g i r = cases (oldest log (w.base o) log_is base_is (w.focus o))
      where
        cases : Oldest log (w.base o) (w.focus o) → In g (w.base o)
        cases (none_out k) = k g i r
        cases (out e before s q n older) =
            let same = first_place (w.focus o) (l.focus_born h) e before s q n older in
            let p = renamed_from e (w.focus o) q in
            ⊎_elim
            (λ (k : In o (w.base e)). absurd
            (l.once (suffix_in (e ∷ before) log s o
            (inr ((f.ready e before (suffix_log (e ∷ before) log s log_is)).base_in o k)))))
            (λ k. absurd (n k))
            (f.touches o e p.0 l.of (f.member e log log_is (suffix_in (e ∷ before) log s e (inl refl))) h
            (sym same ∙ p.1) p.2)

    at_focus : w.edits o ≡ true → w.at log (w.focus o) ≡ w.at (w.base o) (w.focus o)
    at_focus h = alike (w.focus o) (l.focus_born h) (λ g i r. focus_renamed h g i r)

    -- of a commit: a commit that overlaps it where it is taken is in its base
    turn : (e : Op) → In e log → w.Overlap log e o → In e (w.base o)
    turn e i v = l.in_turn e i v

    here : (x : Id) (path : Path) → w.holds o path ≡ true → w.at log x ≡ Some path → w.at (w.base o) x ≡ Some path
    here x path h e = cases (last_here x (f.row_born log x path log_is e))
      where
        b : IsBorn w log x
        b = f.row_born log x path log_is e

        cases : Last log x → w.at (w.base o) x ≡ Some path
        cases (never n u) =
            let i : In b.0 (w.base o) = ⊎_elim (λ k. k) (λ k. absurd (l.once (base_within log log_is b.0 b.1 o k)))
            (f.touches_born b.0 o x path (f.member b.0 log log_is b.1) l.of b.2 (sym u ∙ e) h) in
            sym (alike x (b.0, i, b.2) (λ g j r. absurd (true≢false (sym r ∙ n g j)))) ∙ e
        cases (by g i r u every) =
            let k : In g (w.base o) =
            turn g i (f.both_hold o g log x path log_is e
            (f.after_within g x path (f.member g log log_is i) (sym u ∙ e)) h) in
            let t = taken log g i in
            let born = f.renames_born g t.part x (suffix_log (g ∷ t.part) log t.suffix log_is) r in
            sym (alike x (born.0, base_within (w.base o) base_is g k born.0 born.1, born.2)
            (λ c j q. ⊎_elim (λ (m : c ≡ g). subst (λ z. In z (w.base o)) (sym m) k) (λ m. f.base_onward c g o m k)
            (every c j q))) ∙ e

    -- no commit outside o's base renames the atom of o's slot
    focus_kept : (p slot_path : Path) → w.holds o slot_path ≡ true → w.at (w.base o) (w.focus o) ≡ Some p → (e : Op)
        → In e log → renames w e (w.focus o) ≡ true → In e (w.base o)
    focus_kept p slot_path h u e i r = cases (last_here (w.focus o) born)
      where
        row : (q : Path) × (w.at log (w.focus o) ≡ Some q)
        row = l.held_row p slot_path h u

        born : IsBorn w log (w.focus o)
        born = f.row_born log (w.focus o) row.0 log_is row.1

        cases : Last log (w.focus o) → In e (w.base o)
        cases (never n v) = absurd (true≢false (sym r ∙ n e i))
        cases (by g j s v every) =
            let k : In g (w.base o) =
            turn g j (f.holds_focus o g log row.0 slot_path log_is h row.1
            (f.after_within g (w.focus o) row.0 (f.member g log log_is j) (sym v ∙ row.1))) in
            ⊎_elim (λ (m : e ≡ g). subst (λ z. In z (w.base o)) (sym m) k) (λ m. f.base_onward e g o m k)
            (every e i r)

    -- no commit outside o's base renames an atom that o's slot had there
    abbrev Kept : ℕ → Type 0
    Kept bound = (x : Id) (path : Path) → w.depth path < bound → w.holds o path ≡ true → w.at (w.base o) x ≡ Some path
        → (e : Op) → In e log → renames w e x ≡ true → In e (w.base o)

    kept_step : (bound : ℕ) → Kept bound → Kept (suc bound)
    kept_step bound ih x path d h u e i r = cases (oldest log (w.base o) log_is base_is x)
      where
        born : IsBorn w (w.base o) x
        born = f.row_born (w.base o) x path base_is u

        cases : Oldest log (w.base o) x → In e (w.base o)
        cases (none_out k) = k e i r
        cases (out c before s q n older) = absurd (n (nest (f.nested o c x path h inside)))
          where
            same : w.at (w.base c) x ≡ w.at (w.base o) x
            same = first_place x born c before s q n older

            there : w.at (w.base c) x ≡ Some path
            there = same ∙ u

            p : (path : Path) × (w.at (w.base c) x ≡ Some path) × (w.holds c path ≡ true)
            p = renamed_from c x q

            inside : w.holds c path ≡ true
            inside = let k : p.0 ≡ path = same_Some _ _ (sym p.1 ∙ there) in subst (λ z. w.holds c z ≡ true) k p.2

            ci : In c log
            ci = suffix_in (c ∷ before) log s c (inl refl)

            lc : w.IsLog (w.base c)
            lc = (f.ready c before (suffix_log (c ∷ before) log s log_is)).base_log

            nest : Nested w o c x path → In c (w.base o)
            nest (one_slot v) = turn c ci (v log log_is)
            nest (atom_within a at in') =
                focus_kept a path h (at (w.base o) base_is u) c ci
                (renames_by c (w.focus o) a (at (w.base c) lc there) in')
            nest (within_atom z a at in' less over) =
                let lt : w.depth a < bound = omega arith in
                let zu = at (w.base o) base_is u in
                let zb = f.row_born (w.base o) z a base_is zu in
                turn c ci (over log a log_is (alike z zb (λ g j m. ih z a lt in' zu g j m) ∙ zu) in')

    kept : (bound : ℕ) → Kept bound
    kept zero x path d h u e i r = absurd (omega arith)
    kept (suc bound) x path d h u e i r = kept_step bound (kept bound) x path d h u e i r

    there : (x : Id) (path : Path) → w.holds o path ≡ true → w.at (w.base o) x ≡ Some path → w.at log x ≡ Some path
    there x path h u =
        alike x (f.row_born (w.base o) x path base_is u)
        (λ g i r. kept (suc (w.depth path)) x path (omega arith) h u g i r) ∙ u

    -- a delete of an atom that o's slot had is in o's base
    killed : (x : Id) (path : Path) → w.holds o path ≡ true → w.at (w.base o) x ≡ Some path → (d : Op) → In d log
        → w.kills d x ≡ true → In d (w.base o)
    killed x path h u d i kill =
        ⊎_elim (λ k. k) (λ n. absurd (away n (oldest (w.base o) (w.base d) base_is ready.base_log x)))
        (f.known d (w.base o) (f.member d log log_is i) base_is)
      where
        t : Taken log d
        t = taken log d i

        ld : w.IsLog (d ∷ t.part)
        ld = suffix_log (d ∷ t.part) log t.suffix log_is

        ready : Pending w d t.part
        ready = f.ready d t.part ld

        edit : (w.edits d ≡ true) × (w.focus d ≡ x)
        edit = f.kills_edit d x kill

        few : length (w.base d) ≤ length log
        few = let a = ready.base_few in let b = suffix_few (d ∷ t.part) log t.suffix in omega arith

        born : IsBorn w (w.base d) x
        born = subst (λ z. IsBorn w (w.base d) z) edit.1 (ready.focus_born edit.0)

        last_d : Last (w.base d) x
        last_d = last (w.base d) ready.base_log (all (w.base d) ready.base_log few) x born

        born_o : IsBorn w (w.base o) x
        born_o = f.row_born (w.base o) x path base_is u

        to_log : (g : Op) → In g (w.base d) → In g log
        to_log g k = base_within log log_is d i g k

        at_focus_of : (p : Path) → w.at (w.base d) x ≡ Some p → w.at (w.base d) (w.focus d) ≡ Some p
        at_focus_of p e = ap (λ z. w.at (w.base d) z) edit.1 ∙ e

        away : (In d (w.base o) → ⊥) → Oldest (w.base o) (w.base d) x → ⊥
        away n (none_out k) =
            let same = same_place (w.base d) (w.base o) x last_d (last_base x born_o)
            (λ g j r. kept (suc (w.depth path)) x path (omega arith) h u g (to_log g j) r) k in
            ⊎_elim (λ q. n q) (λ q. l.once (to_log o q))
            (f.touches d o path (f.member d log log_is i) l.of edit.0 (at_focus_of path (same ∙ u)) h)
        away n (out e before s r m older) =
            let le = suffix_log (e ∷ before) (w.base o) s base_is in
            let ie = suffix_in (e ∷ before) (w.base o) s e (inl refl) in
            let few_e = (f.ready e before le).base_few in
            let few_s = suffix_few (e ∷ before) (w.base o) s in
            let few_o = l.base_few in
            let few_all : length (w.base e) ≤ length log = omega arith in
            let le' = (f.ready e before le).base_log in
            let last_e = last (w.base e) le' (all (w.base e) le' few_all) x (f.renames_born e before x le r) in
            let same = first_out log (w.base d) x log_is (all log log_is (omega arith)) ready.base_log to_log last_d e
            before le (l.base_in e ie) r m older last_e in
            let p = renamed_from e x r in
            ⊎_elim (λ (q : In d (w.base e)). n (base_within (w.base o) base_is e ie d q)) (λ q. m q)
            (f.touches d e p.0 (f.member d log log_is i) (f.member e (w.base o) base_is ie) edit.0
            (at_focus_of p.0 (sym same ∙ p.1)) p.2)

    agrees : Agrees w o log
    agrees = record { focus = at_focus; here = here; there = there; killed = killed }

  all_from : (bound : ℕ) → ((o : Op) (log : List Op) → w.IsLog (o ∷ log) → length log < bound → Agrees w o log)
      → (log : List Op) → w.IsLog log → length log ≤ bound → AllAgree log
  all_from bound h log l few o part s =
      let k = suffix_few (o ∷ part) log s in
      let less : length part < bound = omega arith in
      h o part (suffix_log (o ∷ part) log s l) less

  pub agree_upto : (bound : ℕ) (o : Op) (log : List Op) → w.IsLog (o ∷ log) → length log < bound → Agrees w o log
  agree_upto zero o log l few = absurd (omega arith)
  agree_upto (suc bound) o log l few =
      agrees o log (f.ready o log l)
      (λ part lp k. all_from bound (λ e before le lt. agree_upto bound e before le lt) part lp (omega arith))

  pub agree : (o : Op) (log : List Op) → w.IsLog (o ∷ log) → Agrees w o log
  agree o log l = agree_upto (suc (length log)) o log l (omega arith)

  pub agree_all : (log : List Op) → w.IsLog log → AllAgree log
  agree_all log l o part s = agree o part (suffix_log (o ∷ part) log s l)

  pub agree_pending : (o : Op) (log : List Op) → Pending w o log → Agrees w o log
  agree_pending o log p = agrees o log p (λ part l few. agree_all part l)

  pub last_in : (log : List Op) → w.IsLog log → (x : Id) → IsBorn w log x → Last log x
  last_in log l x b = last log l (agree_all log l) x b

  module _ (t : Slots w) where
    met_order : (c d : Op) (x : Id) → renames w c x ≡ true → renames w d x ≡ true → MetAt w c d → In c (w.base d)
    met_order c d x r s m = ⊎_elim taken_before held m.had
      where
        p : (path : Path) × (w.at (w.base d) x ≡ Some path) × (w.holds d path ≡ true)
        p = renamed_from d x s

        here : w.at m.log x ≡ Some p.0
        here = (agree_pending d m.log m.pending).there x p.0 p.2 p.1

        held : Pending w c m.log → In c (w.base d)
        held k =
            let q = renamed_from c x r in
            let at = (agree_pending c m.log k).there x q.0 q.2 q.1 in
            let e : q.0 ≡ p.0 = same_Some _ _ (sym at ∙ here) in
            absurd (m.apart
            (f.both_hold d c m.log x p.0 m.pending.is here (subst (λ z. w.holds c z ≡ true) e q.2) p.2))

        taken_before : In c m.log → In c (w.base d)
        taken_before i = cases (last_in m.log m.pending.is x (f.row_born m.log x p.0 m.pending.is here))
          where
            cases : Last m.log x → In c (w.base d)
            cases (never n e) = absurd (true≢false (sym r ∙ n c i))
            cases (by g j v at every) =
                let k : In g (w.base d) =
                m.pending.in_turn g j
                (f.both_hold d g m.log x p.0 m.pending.is here
                (f.after_within g x p.0 (f.member g m.log m.pending.is j) (sym at ∙ here)) p.2) in
                ⊎_elim (λ (q : c ≡ g). subst (λ z. In z (w.base d)) (sym q) k) (λ q. f.base_onward c g d q k)
                (every c i r)

    -- any two commits of a family that rename one atom come one in the base of the other
    pub compared : (c d : Op) (x : Id) → w.Is c → w.Is d → renames w c x ≡ true → renames w d x ≡ true
        → (c ≡ d) ⊎ (In c (w.base d) ⊎ In d (w.base c))
    compared c d x kc kd r s = cases (t.votes c d x kc kd r s)
      where
        cases : Met w c d → (c ≡ d) ⊎ (In c (w.base d) ⊎ In d (w.base c))
        cases (one e) = inl e
        cases (earlier i) = inr (inl i)
        cases (behind i) = inr (inr i)
        cases (met m) = inr (inl (met_order c d x r s m))
        cases (met_back m) = inr (inr (met_order d c x s r m))

    -- where c is before a in one slot, each other insert d of the slot is after c or before a
    pub epochs : (c a d : Op) → w.IsLog (a ∷ w.base a) → w.IsLog (d ∷ w.base d) → In c (w.base a) → t.SameSlot c a
        → t.SameSlot c d → In c (w.base d) ⊎ In d (w.base a)
    epochs c a d la ld i sa sd = start (oldest (w.base a) [] lm (nil_log (w.base a) lm) y)
      where
        kd : w.Is d
        kd = f.member d (d ∷ w.base d) ld (inl refl)

        lm : w.IsLog (w.base a)
        lm = f.tail a (w.base a) la

        lb : w.IsLog (w.base d)
        lb = f.tail d (w.base d) ld

        nil_log : (log : List Op) → w.IsLog log → w.IsLog []
        nil_log [] l = l
        nil_log (o ∷ log) l = nil_log log (f.tail o log l)

        m : (x : Id) × (w.born c x ≡ true) × (path : Path) × (w.birth x ≡ Some path) × (t.top c path ≡ true)
        m = t.middle a c (f.member c (w.base a) lm i) sa

        y : Id
        y = m.0

        unmoved : (log : List Op) → w.IsLog log → ((g : Op) → In g log → renames w g y ≡ true → ⊥) → IsBorn w log y
            → w.at log y ≡ Some m.2
        unmoved log l n b = cases (last_in log l y b)
          where
            cases : Last log y → w.at log y ≡ Some m.2
            cases (never k e) = e ∙ m.3
            cases (by g j r at every) = absurd (n g j r)

        start : Oldest (w.base a) [] y → In c (w.base d) ⊎ In d (w.base a)
        start (none_out k) =
            absurd (t.free a la y m.2 (unmoved (w.base a) lm (λ g j r. k g j r) (c, i, m.1))
            (sym (t.same_rows a c m.2 sa) ∙ m.4))
        start (out e old s r n older) =
            ⊎_elim at_slot within (t.nest c e y m.2 (f.member e (w.base a) lm ie) m.4 holds)
          where
            le : w.IsLog (e ∷ old)
            le = suffix_log (e ∷ old) (w.base a) s lm

            ie : In e (w.base a)
            ie = suffix_in (e ∷ old) (w.base a) s e (inl refl)

            lbe : w.IsLog (w.base e)
            lbe = (f.ready e old le).base_log

            born : IsBorn w (w.base e) y
            born = f.renames_born e old y le r

            c_before : In c (w.base e)
            c_before =
                subst (λ z. In z (w.base e))
                (f.born_once born.0 c y (f.base_member born.0 e born.1) (f.member c (w.base a) lm i) born.2 m.1)
                born.1

            place : w.at (w.base e) y ≡ Some m.2
            place = unmoved (w.base e) lbe (λ g j q. older g ((f.ready e old le).base_in g j) q) born

            holds : w.holds e m.2 ≡ true
            holds = let p = renamed_from e y r in let k : p.0 ≡ m.2 = same_Some _ _ (sym p.1 ∙ place) in
                subst (λ z. w.holds e z ≡ true) k p.2

            at_slot : ((d : Op) → w.Is d → t.SameSlot c d → In d (w.base e) ⊎ In e (w.base d))
                → In c (w.base d) ⊎ In d (w.base a)
            at_slot k =
                ⊎_elim (λ j. inr (base_within (w.base a) lm e ie d j)) (λ j. inl (f.base_onward c e d c_before j))
                (k d kd sd)

            within : ((p : Path) × (w.edits c ≡ true)
                × ((log : List Op) → w.IsLog log → w.at log y ≡ Some m.2 → w.at log (w.focus c) ≡ Some p)
                × (w.holds e p ≡ true)) → In c (w.base d) ⊎ In d (w.base a)
            within k = cases (oldest (w.base a) (w.base d) lm lb x)
              where
                x : Id
                x = w.focus c

                edit : (w.edits d ≡ true) × (w.focus d ≡ w.focus c)
                edit = t.same_focus c d sd k.1

                re : renames w e x ≡ true
                re = renames_by e x k.0 (k.2 (w.base e) lbe place) k.3

                born_d : IsBorn w (w.base d) x
                born_d = subst (λ z. IsBorn w (w.base d) z) edit.1 ((f.ready d (w.base d) ld).focus_born edit.0)

                cases : Oldest (w.base a) (w.base d) x → In c (w.base d) ⊎ In d (w.base a)
                cases (none_out all) = inl (f.base_onward c e d c_before (all e ie re))
                cases (out g earlier' s' r' n' older') =
                    let lg = suffix_log (g ∷ earlier') (w.base a) s' lm in
                    let ig = suffix_in (g ∷ earlier') (w.base a) s' g (inl refl) in
                    let lbg = (f.ready g earlier' lg).base_log in
                    let same =
                    same_place (w.base g) (w.base d) x
                    (last_in (w.base g) lbg x (f.renames_born g earlier' x lg r'))
                    (last_in (w.base d) lb x born_d)
                    (λ h j q. older' h ((f.ready g earlier' lg).base_in h j) q)
                    (λ h j q. ⊎_elim (λ (u : h ≡ g). absurd (n' (subst (λ z. In z (w.base d)) u j)))
                    (λ (u : In h (w.base g) ⊎ In g (w.base h)). ⊎_elim (λ v. v)
                    (λ v. absurd (n' (base_within (w.base d) lb h j g v))) u)
                    (compared h g x (f.base_member h d j) (f.member g (w.base a) lm ig) q r')) in
                    let p = renamed_from g x r' in
                    ⊎_elim (λ j. inr (base_within (w.base a) lm g ig d j)) (λ j. absurd (n' j))
                    (f.touches d g p.0 kd (f.member g (w.base a) lm ig) edit.0
                    (ap (λ z. w.at (w.base d) z) edit.1 ∙ (sym same ∙ p.1)) p.2)

    module _ (u : Tops w t) where
      -- what a site finds in the slot of an insert that it takes: the middle atoms of the inserts of the slot that are
      -- not in the insert's past
      pub record Sibling (a : Op) (log : List Op) (y : Id) : Type 0 where
        pub ins : Op
        pub inside : In ins log
        pub slot : t.SameSlot ins a
        pub apart : In ins (w.base a) → ⊥
        pub born : w.born ins y ≡ true
        pub middle : u.Middle ins y
        pub never : (g : Op) → In g log → renames w g y ≡ true → ⊥

      no_touch : (a : Op) (log : List Op) → w.IsLog (a ∷ log) → (e : Op) → In e log → (In e (w.base a) → ⊥)
          → In a (w.base e) ⊎ In e (w.base a) → ⊥
      no_touch a log l e i n (inl k) = (f.ready a log l).once (base_within log (f.tail a log l) e i a k)
      no_touch a log l e i n (inr k) = n k

      pub siblings_there : (a : Op) (log : List Op) → w.IsLog (a ∷ log) → w.IsLog (a ∷ w.base a)
          → (y : Id) (path : Path) → w.at log y ≡ Some path → t.top a path ≡ true → Sibling a log y
      siblings_there a log l la y path here top =
          found (f.known born.0 (w.base a) (f.member born.0 log log_is born.1) base_is)
        where
          ready : Pending w a log
          ready = f.ready a log l

          log_is : w.IsLog log
          log_is = f.tail a log l

          base_is : w.IsLog (w.base a)
          base_is = ready.base_log

          all : (part : List Op) → w.IsLog part → length part ≤ length log → AllAgree part
          all part lp few = agree_all part lp

          born : IsBorn w log y
          born = f.row_born log y path log_is here

          inner : (g : Op) → In g log → renames w g y ≡ true → In g (w.base a)
          inner g i r = cases (last_in log log_is y born)
            where
              outer : (e : Op) → In e log → (In e (w.base a) → ⊥) → w.holds e path ≡ true → ⊥
              outer e j n h =
                  ⊎_elim
                  (λ (k : (d : Op) → w.Is d → t.SameSlot a d → In d (w.base e) ⊎ In e (w.base d)). no_touch a log l e
                  j n (k a ready.of (t.same_itself a path top)))
                  (λ (k : (p : Path) × (w.edits a ≡ true)
                  × ((part : List Op) → w.IsLog part → w.at part y ≡ Some path → w.at part (w.focus a) ≡ Some p)
                  × (w.holds e p ≡ true)).
                  no_touch a log l e j n
                  (f.touches a e k.0 ready.of (f.member e log log_is j) k.1
                  (sym (at_focus a log ready all k.1) ∙ k.2 log log_is here) k.3))
                  (t.nest a e y path (f.member e log log_is j) top h)

              cases : Last log y → In g (w.base a)
              cases (never m e) = absurd (true≢false (sym r ∙ m g i))
              cases (by e j q at every) =
                  let h = f.after_within e y path (f.member e log log_is j) (sym at ∙ here) in
                  let k : In e (w.base a) =
                  ⊎_elim (λ z. z) (λ n. absurd (outer e j n h))
                  (f.known e (w.base a) (f.member e log log_is j) base_is) in
                  ⊎_elim (λ (z : g ≡ e). subst (λ x. In x (w.base a)) (sym z) k) (λ z. f.base_onward g e a z k)
                  (every g i r)

          found : In born.0 (w.base a) ⊎ (In born.0 (w.base a) → ⊥) → Sibling a log y
          found (inl i) =
              let same = alike a log ready all y (born.0, i, born.2) inner in
              absurd (t.free a la y path (sym same ∙ here) (top))
          found (inr n) = made (u.birth_tops a born.0 y path (f.member born.0 log log_is born.1) born.2 birth top)
            where
              fresh : (g : Op) → In g log → renames w g y ≡ true → ⊥
              fresh g i r =
                  let k = taken log g i in
                  let lk = suffix_log (g ∷ k.part) log k.suffix log_is in
                  let b = f.renames_born g k.part y lk r in
                  let same : b.0 ≡ born.0 =
                  f.born_once b.0 born.0 y (f.base_member b.0 g b.1) (f.member born.0 log log_is born.1) b.2
                  born.2 in
                  n (subst (λ z. In z (w.base a)) same (base_within (w.base a) base_is g (inner g i r) b.0 b.1))

              birth : w.birth y ≡ Some path
              birth = cases (last_in log log_is y born)
                where
                  cases : Last log y → w.birth y ≡ Some path
                  cases (never m e) = sym e ∙ here
                  cases (by e j q at every) = absurd (fresh e j q)

              made : (t.SameSlot born.0 a × u.Middle born.0 y)
                  ⊎ ((w.edits a ≡ true) × (w.born born.0 (w.focus a) ≡ true)) → Sibling a log y
              made (inl m) =
                  record {
                    ins = born.0;
                    inside = born.1;
                    slot = m.0;
                    apart = n;
                    born = born.2;
                    middle = m.1;
                    never =
                        fresh;
                  }
              made (inr m) =
                  let b = ready.focus_born m.0 in
                  absurd (n
                  (subst (λ z. In z (w.base a))
                  (f.born_once b.0 born.0 (w.focus a) (f.base_member b.0 a b.1)
                  (f.member born.0 log log_is born.1) b.2 m.1) b.1))

      pub siblings_all : (a : Op) (log : List Op) → w.IsLog (a ∷ log) → (c : Op) → In c log → t.SameSlot c a
          → (In c (w.base a) → ⊥) → (y : Id) → w.born c y ≡ true → u.Middle c y
          → (path : Path) × (w.at log y ≡ Some path) × (t.top a path ≡ true) × (w.birth y ≡ Some path)
      siblings_all a log l c i s n y b m = here (last_in log log_is y (c, i, b))
        where
          ready : Pending w a log
          ready = f.ready a log l

          log_is : w.IsLog log
          log_is = f.tail a log l

          all : (part : List Op) → w.IsLog part → length part ≤ length log → AllAgree part
          all part lp few = agree_all part lp

          put : (path : Path) × (w.birth y ≡ Some path) × (t.top a path ≡ true)
          put = u.middle_tops a c y (f.member c log log_is i) s m

          nil_log : (part : List Op) → w.IsLog part → w.IsLog []
          nil_log [] k = k
          nil_log (o ∷ part) k = nil_log part (f.tail o part k)

          away : (e : Op) → In c (w.base e) → In e (w.base a) → ⊥
          away e k j = n (f.base_onward c e a k j)

          fresh : (g : Op) → In g log → renames w g y ≡ true → ⊥
          fresh g j r = cases (oldest log [] log_is (nil_log log log_is) y)
            where
              cases : Oldest log [] y → ⊥
              cases (none_out k) = k g j r
              cases (out e old v q k older) = held (t.nest a e y put.0 (f.member e log log_is ie) put.2 holds)
                where
                  le : w.IsLog (e ∷ old)
                  le = suffix_log (e ∷ old) log v log_is

                  ie : In e log
                  ie = suffix_in (e ∷ old) log v e (inl refl)

                  lbe : w.IsLog (w.base e)
                  lbe = (f.ready e old le).base_log

                  eb : IsBorn w (w.base e) y
                  eb = f.renames_born e old y le q

                  c_before : In c (w.base e)
                  c_before =
                      subst (λ z. In z (w.base e))
                      (f.born_once eb.0 c y (f.base_member eb.0 e eb.1) (f.member c log log_is i) eb.2 b) eb.1

                  place : w.at (w.base e) y ≡ Some put.0
                  place = at_birth (last_in (w.base e) lbe y eb)
                    where
                      at_birth : Last (w.base e) y → w.at (w.base e) y ≡ Some put.0
                      at_birth (never z x) = x ∙ put.1
                      at_birth (by h x z at every) = absurd (older h ((f.ready e old le).base_in h x) z)

                  holds : w.holds e put.0 ≡ true
                  holds = let p = renamed_from e y q in let z : p.0 ≡ put.0 = same_Some _ _ (sym p.1 ∙ place) in
                      subst (λ x. w.holds e x ≡ true) z p.2

                  held : ((d : Op) → w.Is d → t.SameSlot a d → In d (w.base e) ⊎ In e (w.base d))
                      ⊎ ((p : Path) × (w.edits a ≡ true)
                      × ((part : List Op) → w.IsLog part → w.at part y ≡ Some put.0 → w.at part (w.focus a) ≡ Some p)
                      × (w.holds e p ≡ true)) → ⊥
                  held (inl z) = no_touch a log l e ie (away e c_before) (z a ready.of (t.same_itself a put.0 put.2))
                  held (inr z) =
                      away e c_before
                      (focus_renamed a log ready all z.1 e ie
                      (renames_by e (w.focus a) z.0 (z.2 (w.base e) lbe place) z.3))

          here : Last log y → (path : Path) × (w.at log y ≡ Some path) × (t.top a path ≡ true)
              × (w.birth y ≡ Some path)
          here (never z x) = (put.0, x ∙ put.1, put.2, put.1)
          here (by e x z at every) = absurd (fresh e x z)
