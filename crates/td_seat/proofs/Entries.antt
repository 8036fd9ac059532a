-- What the entries of a site say that it made, when one more is counted.
use Rattle.std.proofs.Common.{◌≡◌, ◌≢◌, ◌⊎◌, ◌<◌, ◌≤◌, ◌+◌, ◌-◌, ◌++◌, ◌==◌, ℕ, zero, suc, List, [], ◌∷◌, replicate}
use Rattle.std.proofs.Common.{Bool, true, false, if◌then◌else◌, length, fold, option_and_then, Option, Some, None}
use Rattle.std.proofs.Common.{refl, sym, ap, ◌∙◌, subst, inl, inr, arith}
use Rattle.std.specs.Prelude.{nat_le, IfSome}
use Rattle.std.proofs.lemmas.Bool.{leb-false, le-leb, lt-leb, eqb-true, eqb-false, ne_eqb, cases_lt}
use Rattle.std.proofs.lemmas.List.{append-nil, length-set, length-replicate, set-set, set-get_or, get_or-replicate}
use Rattle.std.proofs.lemmas.List.{get_or-set_same}
use Rattle.td_base.specs.Value.{DotValue}
use Rattle.td_clock.specs.Vector.{vector_get, vector_set, vector_bump}
use Rattle.td_trace.specs.declared.entry.TraceEntry.{TraceEntry}
use Rattle.td_law_replay.specs.Counting.{Count, no_count, count_entry, makes, raised}
use Rattle.td_law_replay.specs.Counting.{with_use, used, deps_from, more_yes}
use Rattle.td_law_replay.specs.Counting.{more_no}
use Rattle.td_law_replay.proofs.Counts.{count_entries, count_snoc, deps_skip}
use Rattle.td_law_replay.specs.Counting.{in_vector}
use Rattle.td_seat.specs.declared.counted.Counted.{Counted}
use Rattle.td_seat.specs.Votes.{AreVotes}
use Rattle.td_seat.specs.OwnOps.{AreOwnOps, with_more}
use Rattle.td_seat.specs.Counted.{AreCounted, count_all, told_deps}
use Rattle.td_seat.proofs.OwnParts.{Told, bump_same, bump_other, retold}

-- ---- along the entries

pub counted_all : (site n : ℕ) (c : Count) (entries : List TraceEntry)
    → fold (count_entry site n) c entries ≡ count_entries site n c entries
counted_all site n c [] = refl
counted_all site n c (e ∷ entries) = counted_all site n (count_entry site n c e) entries

pub count_more : (site n : ℕ) (entries : List TraceEntry) (e : TraceEntry)
    → count_all site n (entries ++ e ∷ []) ≡ count_entry site n (count_all site n entries) e
count_more site n entries e =
    counted_all site n (no_count n) (entries ++ e ∷ []) ∙ count_snoc site n (no_count n) entries e
    ∙ ap (λ (c : Count). count_entry site n c e) (sym (counted_all site n (no_count n) entries))

length_raised : (site k : ℕ) (v : List ℕ) → length (raised site k v) ≡ length v
length_raised site zero v = refl
length_raised site (suc k) v =
    length_raised site k (vector_bump v site) ∙ length-set v (site - 1) (vector_get v site + 1)

length_used : (site : ℕ) (o : Option DotValue) (v : List ℕ) → length (with_use site o v) ≡ length v
length_used site None v = refl
length_used site (Some d) v = at (d.site == site)
  where
    at : (b : Bool) → length (if b then v else vector_bump v d.site) ≡ length v
    at true = refl
    at false = length-set v (d.site - 1) (vector_get v d.site + 1)

length_counted : (site n : ℕ) (c : Count) (entries : List TraceEntry)
    → length (count_entries site n c entries).have ≡ length c.have
length_counted site n c [] = refl
length_counted site n c (e ∷ entries) =
    length_counted site n (count_entry site n c e) entries
    ∙ length_used site (used e) (raised site (makes n c e) c.have) ∙ length_raised site (makes n c e) c.have

-- ---- numbers

raised_is : (site k : ℕ) (v : List ℕ) → site - 1 < length v
    → raised site k v ≡ vector_set v site (vector_get v site + k)
raised_is site zero v inside =
    sym (set-get_or v (site - 1) 0) ∙ ap (λ (m : ℕ). vector_set v site m) (none (vector_get v site))
  where
    none : (m : ℕ) → m ≡ m + 0
    none m = omega arith
raised_is site (suc k) v inside =
    raised_is site k (vector_bump v site)
    (omega (arith, inside, length-set v (site - 1) (vector_get v site + 1)))
    ∙ set-set v (site - 1) (vector_get v site + 1) (vector_get (vector_bump v site) site + k)
    ∙ ap (λ (m : ℕ). vector_set v site m) number
  where
    number : vector_get (vector_bump v site) site + k ≡ vector_get v site + suc k
    number = omega (arith, bump_same v site inside)

raised_number : (site k : ℕ) (v : List ℕ) → site - 1 < length v
    → vector_get (raised site k v) site ≡ vector_get v site + k
raised_number site k v inside =
    ap (λ (w : List ℕ). vector_get w site) (raised_is site k v inside)
    ∙ get_or-set_same v (site - 1) (vector_get v site + k) 0 inside

used_number : (site : ℕ) (o : Option DotValue) (v : List ℕ) → 1 ≤ site → IfSome o (λ (d : DotValue). 1 ≤ d.site)
    → vector_get (with_use site o v) site ≡ vector_get v site
used_number site None v some range = refl
used_number site (Some d) v some range = at (d.site == site) refl
  where
    at : (b : Bool) → (d.site == site) ≡ b
        → vector_get (if b then v else vector_bump v d.site) site ≡ vector_get v site
    at true e = refl
    at false e = bump_other v site d.site some range (eqb-false d.site site e)

-- ---- so many more that are made

module _ (site : ℕ) (v : List ℕ) (told : Told) (inside : site - 1 < length v) where
  more_told : (k q : ℕ) → q ≤ vector_get v site → with_more site k v told q ≡ told q
  more_told zero q low = refl
  more_told (suc k) q low =
      ap (λ (b : Bool). if b then in_vector (raised site k v) else with_more site k v told q)
      (ne_eqb q (vector_get (raised site k v) site + 1)
      (λ e. absurd (omega (arith, e, low, raised_number site k v inside))))
      ∙ more_told k q low

  more_untold : (k q : ℕ) → vector_get v site + k < q → with_more site k v told q ≡ told q
  more_untold zero q high = refl
  more_untold (suc k) q high =
      ap (λ (b : Bool). if b then in_vector (raised site k v) else with_more site k v told q)
      (ne_eqb q (vector_get (raised site k v) site + 1)
      (λ e. absurd (omega (arith, e, high, raised_number site k v inside))))
      ∙ more_untold k q (omega (arith, high))

  more_made : (k q : ℕ) → vector_get v site < q → q ≤ vector_get v site + k
      → with_more site k v told q ≡ in_vector (vector_set v site (q - 1))
  more_made zero q low high = absurd (omega (arith, low, high))
  more_made (suc k) q low high = at (q == vector_get (raised site k v) site + 1) refl (more_made k q low)
    where
      number : vector_get (raised site k v) site ≡ vector_get v site + k
      number = raised_number site k v inside

      at : (b : Bool) → (q == vector_get (raised site k v) site + 1) ≡ b
          → (q ≤ vector_get v site + k → with_more site k v told q ≡ in_vector (vector_set v site (q - 1)))
          → (if b then in_vector (raised site k v) else with_more site k v told q)
          ≡ in_vector (vector_set v site (q - 1))
      at true e further =
          let here : q ≡ vector_get (raised site k v) site + 1 =
          eqb-true q (vector_get (raised site k v) site + 1) e in
          let last : vector_get v site + k ≡ q - 1 = omega (arith, here, number) in
          ap in_vector (raised_is site k v inside ∙ ap (λ (m : ℕ). vector_set v site m) last)
      at false e further =
          let other : q ≢ vector_get (raised site k v) site + 1 =
          eqb-false q (vector_get (raised site k v) site + 1) e in
          further (omega (arith, other, number, low, high))

-- ---- what is told

-- what was told is told again
pub deps_found : (site n q : ℕ) (c : Count) (front rest : List TraceEntry) → vector_get c.have site < q
    → q ≤ vector_get (count_entries site n c front).have site
    → deps_from site n q c (front ++ rest) ≡ deps_from site n q c front
deps_found site n q c [] rest low high = absurd (omega (arith, low, high))
deps_found site n q c (e ∷ front) rest low high =
    at (nat_le q (vector_get (count_entry site n c e).have site)) refl
    (λ k. deps_found site n q (count_entry site n c e) front rest k high)
  where
    at : (b : Bool) → nat_le q (vector_get (count_entry site n c e).have site) ≡ b
        → (vector_get (count_entry site n c e).have site < q
        → deps_from site n q (count_entry site n c e) (front ++ rest)
        ≡ deps_from site n q (count_entry site n c e) front)
        → (if b then Some (vector_set c.have site (q - 1))
        else deps_from site n q (count_entry site n c e) (front ++ rest))
        ≡ (if b then Some (vector_set c.have site (q - 1)) else deps_from site n q (count_entry site n c e) front)
    at true f further = refl
    at false f further = further (leb-false q (vector_get (count_entry site n c e).have site) f)

-- what is not counted is not told
deps_untold : (site n q : ℕ) (c : Count) (front : List TraceEntry)
    → vector_get (count_entries site n c front).have site < q → deps_from site n q c front ≡ None
deps_untold site n q c front high =
    ap (deps_from site n q c) (sym (append-nil front)) ∙ deps_skip site n q c front [] high

-- one entry more tells so many operations more
module _ (site n : ℕ) (entries : List TraceEntry) (e : TraceEntry) (some : 1 ≤ site) (within : site ≤ n)
    (range : IfSome (used e) (λ (d : DotValue). 1 ≤ d.site)) where
  inside_have : (c : Count) → count_entries site n (no_count n) entries ≡ c → site - 1 < length c.have
  inside_have c is =
      omega (
        arith,
        ap (λ (d : Count). length d.have) is,
        length_counted site n (no_count n) entries,
        length-replicate {A = ℕ} n 0,
        some,
        within,
      )

  now_number : (c : Count) → count_entries site n (no_count n) entries ≡ c
      → vector_get (count_entry site n c e).have site ≡ vector_get c.have site + makes n c e
  now_number c is =
      used_number site (used e) (raised site (makes n c e) c.have) some range
      ∙ raised_number site (makes n c e) c.have (inside_have c is)

  entry_told : (c : Count) → count_entries site n (no_count n) entries ≡ c → (q : ℕ) → 1 ≤ q
      → with_more site (makes n c e) c.have (told_deps site n entries) q ≡ told_deps site n (entries ++ e ∷ []) q
  entry_told c is q least =
      at (cases_lt (vector_get c.have site) q) (cases_lt (vector_get c.have site + makes n c e) q)
    where
      k : ℕ
      k = makes n c e

      inside : site - 1 < length c.have
      inside = inside_have c is

      none : vector_get (replicate n 0) site ≡ 0
      none = get_or-replicate n (site - 1) 0 0 (omega (arith, some, within))

      is_number : vector_get (count_entries site n (no_count n) entries).have site ≡ vector_get c.have site
      is_number = ap (λ (d : Count). vector_get d.have site) is

      -- the last entry alone
      last : vector_get c.have site < q
          → deps_from site n q (no_count n) (entries ++ e ∷ []) ≡ deps_from site n q c (e ∷ [])
      last high =
          deps_skip site n q (no_count n) entries (e ∷ []) (omega (arith, high, is_number))
          ∙ ap (λ (d : Count). deps_from site n q d (e ∷ [])) is

      at : (vector_get c.have site < q) ⊎ (q ≤ vector_get c.have site)
          → (vector_get c.have site + makes n c e < q) ⊎ (q ≤ vector_get c.have site + makes n c e)
          → with_more site (makes n c e) c.have (told_deps site n entries) q
          ≡ told_deps site n (entries ++ e ∷ []) q
      at (inr low) other =
          more_told site c.have (told_deps site n entries) inside k q low
          ∙ ap (option_and_then in_vector)
          (sym (deps_found site n q (no_count n) entries (e ∷ []) (omega (arith, none, least))
          (omega (arith, is_number, low))))
      at (inl high) (inl past) =
          more_untold site c.have (told_deps site n entries) inside k q past
          ∙ ap (option_and_then in_vector)
          (deps_untold site n q (no_count n) entries (omega (arith, is_number, high))
          ∙ sym (ap (λ (b : Bool). if b then Some (vector_set c.have site (q - 1)) else None)
          (lt-leb q (vector_get (count_entry site n c e).have site) (omega (arith, now_number c is, past))))
          ∙ sym (last high))
      at (inl high) (inr made) =
          more_made site c.have (told_deps site n entries) inside k q high made
          ∙ ap (option_and_then in_vector)
          (sym (ap (λ (b : Bool). if b then Some (vector_set c.have site (q - 1)) else None)
          (le-leb q (vector_get (count_entry site n c e).have site) (omega (arith, now_number c is, made))))
          ∙ sym (last high))

  pub told_more : (q : ℕ) → 1 ≤ q
      → with_more site (makes n (count_all site n entries) e) (count_all site n entries).have
      (told_deps site n entries) q
      ≡ told_deps site n (entries ++ e ∷ []) q
  told_more = entry_told (count_all site n entries) (sym (counted_all site n (no_count n) entries))

-- ---- an entry is counted

pub entry_counted : (site n : ℕ) (entries : List TraceEntry) (e : TraceEntry) (made : ℕ) (one : Option DotValue)
    → made ≡ makes n (count_all site n entries) e → one ≡ used e → IfSome one (λ (d : DotValue). 1 ≤ d.site)
    → (counted : Counted)
    → AreOwnOps site n (with_use site one (raised site made (count_all site n entries).have))
    (with_more site made (count_all site n entries).have (told_deps site n entries)) counted.ops
    → AreVotes (more_yes e.told e.reply (count_all site n entries).yes)
    (more_no e.told e.reply (count_all site n entries).no) counted.votes
    → AreCounted site n (entries ++ e ∷ []) counted
entry_counted site n entries e made one made_is one_is range counted ops votes =
    let so_far : Count = count_all site n entries in
    let told : Told = told_deps site n (entries ++ e ∷ []) in
    let in_range : IfSome (used e) (λ (d : DotValue). 1 ≤ d.site) =
    subst (λ (o : Option DotValue). IfSome o (λ (d : DotValue). 1 ≤ d.site)) one_is range in
    let now : AreOwnOps site n (count_entry site n so_far e).have told counted.ops =
    retold site n (with_use site one (raised site made so_far.have))
    (with_more site made so_far.have (told_deps site n entries))
    counted.ops.site counted.ops.have counted.ops.is_past counted.ops.deps.rows ops
    (count_entry site n so_far e).have told
    (λ i. with_use site (one_is i) (raised site (made_is i) so_far.have))
    (λ q some.
    ap (λ (k : ℕ). with_more site k so_far.have (told_deps site n entries) q) made_is
    ∙ told_more site n entries e ops.some ops.within in_range q some) in
    record {
      ops =
          subst (λ (c : Count). AreOwnOps site n c.have told counted.ops) (sym (count_more site n entries e)) now;
      votes =
          subst (λ (c : Count). AreVotes c.yes c.no counted.votes) (sym (count_more site n entries e)) votes;
    }
