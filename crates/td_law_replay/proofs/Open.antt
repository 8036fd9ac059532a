-- What is told of the votes on undecided proposals, and what keeps it.
use Rattle.std.proofs.Common.{◌≡◌, ◌<◌, ◌≤◌, ◌+◌, ◌||◌, List, [], ◌∷◌, ℕ, suc, Bool, true, false, if◌then◌else◌}
use Rattle.std.proofs.Common.{length, filter, Some, refl, sym, ap, ◌∙◌, subst, true≢false, arith}
use Rattle.std.specs.List.{list_any, find}
use Rattle.std.proofs.lemmas.Option.{same_Some}
use Rattle.td_base.specs.Value.{DotValue}
use Rattle.td_base.specs.Equality.{same_dot}
use Rattle.td_base.proofs.Equals.{same_dot_refl, same_dot_true}
use Rattle.td_base.proofs.Searches.{find_In}
use Rattle.td_machine.specs.Decision.{Ballot, is_on, is_open, counted, new_ballot, revise, close}
use Rattle.td_machine.proofs.Ballots.{closed_in, find_ballot}
use Rattle.td_law_replay.specs.Counting.{how_often}

abbrev pub has : DotValue → List DotValue → Bool
has p dots = list_any (λ (d : DotValue). same_dot d p) dots

-- an undecided proposal has as many Yes as were counted, with its own, and no No
abbrev pub OnOpen : List DotValue → List DotValue → List Ballot → Type 0
OnOpen ays nays ballots =
    (p : DotValue) (b : Ballot) → find (is_on p) ballots ≡ Some b → is_open b ≡ true
    → (length b.yes ≡ how_often p ays + 1) × (has p nays ≡ false)

-- and one that is not yet made has none
abbrev pub Fresh : List DotValue → List DotValue → ℕ → ℕ → Type 0
Fresh ays nays site k = (p : DotValue) → p.site ≡ site → k < p.seq → (how_often p ays ≡ 0) × (has p nays ≡ false)

pub fresh_more : (ays nays : List DotValue) (site k l : ℕ) → k ≤ l → Fresh ays nays site k → Fresh ays nays site l
fresh_more ays nays site k l more h p e less = h p e (omega (arith, more, less))

-- ---- closing

close_finds : (p q : DotValue) (t : Bool) (ballots : List Ballot) (b : Ballot)
    → find (is_on p) (revise q (close t) ballots) ≡ Some b → is_open b ≡ true → find (is_on p) ballots ≡ Some b
close_finds p q t [] b e o = absurd cc
close_finds p q t (x ∷ xs) b e o = at (is_on q x) (is_on p x) refl e (λ k. close_finds p q t xs b k o)
  where
    at : (on here : Bool) → is_on p x ≡ here
        → find (is_on p) ((if on then close t x else x) ∷ revise q (close t) xs) ≡ Some b
        → (find (is_on p) (revise q (close t) xs) ≡ Some b → find (is_on p) xs ≡ Some b)
        → (if here then Some x else find (is_on p) xs) ≡ Some b
    at true true f k ih =
        let found : Some (close t x) ≡ Some b =
        sym (ap (λ (y : Bool). if y then Some (close t x) else find (is_on p) (revise q (close t) xs)) f) ∙ k in
        absurd (true≢false (sym o ∙ sym (ap is_open (same_Some (close t x) b found))))
    at true false f k ih =
        ih (sym (ap (λ (y : Bool). if y then Some (close t x) else find (is_on p) (revise q (close t) xs)) f) ∙ k)
    at false true f k ih =
        sym (ap (λ (y : Bool). if y then Some x else find (is_on p) (revise q (close t) xs)) f) ∙ k
    at false false f k ih =
        ih (sym (ap (λ (y : Bool). if y then Some x else find (is_on p) (revise q (close t) xs)) f) ∙ k)

pub open_closed : (ays nays : List DotValue) (q : DotValue) (t : Bool) (ballots : List Ballot)
    → OnOpen ays nays ballots
    → OnOpen ays nays (revise q (close t) ballots)
open_closed ays nays q t ballots h p b e o = h p b (close_finds p q t ballots b e o) o

-- ---- a ballot is opened

times_other : (p q : DotValue) (dots : List DotValue) → same_dot q p ≡ false
    → how_often p (q ∷ dots) ≡ how_often p dots
times_other p q dots e = ap (λ (b : Bool). length (if b then q ∷ those else those)) e
  where
    those : List DotValue
    those = filter (λ (d : DotValue). same_dot d p) dots

times_same : (p q : DotValue) (dots : List DotValue) → same_dot q p ≡ true
    → how_often p (q ∷ dots) ≡ suc (how_often p dots)
times_same p q dots e = ap (λ (b : Bool). length (if b then q ∷ those else those)) e
  where
    those : List DotValue
    those = filter (λ (d : DotValue). same_dot d p) dots

pub open_new : (ays nays : List DotValue) (q : DotValue) (ballots : List Ballot) → OnOpen ays nays ballots
    → (how_often q ays ≡ 0) × (has q nays ≡ false) → OnOpen ays nays (new_ballot q ∷ ballots)
open_new ays nays q ballots h f p b e o = at (same_dot q p) refl e
  where
    at : (t : Bool) → same_dot q p ≡ t → (if t then Some (new_ballot q) else find (is_on p) ballots) ≡ Some b
        → (length b.yes ≡ how_often p ays + 1) × (has p nays ≡ false)
    at true s k =
        let d : q ≡ p = same_dot_true q p s in
        let one : length b.yes ≡ 1 = ap (λ (x : Ballot). length x.yes) (sym (same_Some (new_ballot q) b k)) in
        let none : how_often p ays ≡ 0 = subst (λ (x : DotValue). how_often x ays ≡ 0) d f.0 in
        (omega (arith, one, none), subst (λ (x : DotValue). has x nays ≡ false) d f.1)
    at false s k = h p b k o

-- ---- a vote is counted

revise_same : (q : DotValue) (voter : ℕ) (ballots : List Ballot) → revise q (counted voter false) ballots ≡ ballots
revise_same q voter [] = refl
revise_same q voter (x ∷ xs) = at (is_on q x) (revise_same q voter xs)
  where
    at : (on : Bool) → revise q (counted voter false) xs ≡ xs
        → (if on then counted voter false x else x) ∷ revise q (counted voter false) xs ≡ x ∷ xs
    at true e = ap (λ (l : List Ballot). x ∷ l) e
    at false e = ap (λ (l : List Ballot). x ∷ l) e

record Counted (p q : DotValue) (voter : ℕ) (ballots : List Ballot) (b : Ballot) : Type 0 where
  pub old : Ballot
  pub found : find (is_on p) ballots ≡ Some old
  pub is : b ≡ (if is_on q old then counted voter true old else old)

count_finds : (p q : DotValue) (voter : ℕ) (ballots : List Ballot) (b : Ballot)
    → find (is_on p) (revise q (counted voter true) ballots) ≡ Some b → Counted p q voter ballots b
count_finds p q voter [] b e = absurd cc
count_finds p q voter (x ∷ xs) b e = at (is_on q x) (is_on p x) refl refl e (λ k. count_finds p q voter xs b k)
  where
    more : is_on p x ≡ false → Counted p q voter xs b → Counted p q voter (x ∷ xs) b
    more f r = record {
      old = r.old;
      found = ap (λ (y : Bool). if y then Some x else find (is_on p) xs) f ∙ r.found;
      is = r.is;
    }

    at : (on here : Bool) → is_on q x ≡ on → is_on p x ≡ here
        → find (is_on p) ((if on then counted voter true x else x) ∷ revise q (counted voter true) xs) ≡ Some b
        → (find (is_on p) (revise q (counted voter true) xs) ≡ Some b → Counted p q voter xs b)
        → Counted p q voter (x ∷ xs) b
    at true true g f k ih =
        let found : Some (counted voter true x) ≡ Some b =
        sym (ap (λ (y : Bool). if y then Some (counted voter true x) else find (is_on p)
        (revise q (counted voter true) xs)) f)
        ∙ k in
        record {
          old = x;
          found = ap (λ (y : Bool). if y then Some x else find (is_on p) xs) f;
          is =
              sym (same_Some (counted voter true x) b found)
              ∙ ap (λ (y : Bool). if y then counted voter true x else x) (sym g);
        }
    at true false g f k ih =
        more f
        (ih (sym (ap (λ (y : Bool). if y then Some (counted voter true x) else find (is_on p)
        (revise q (counted voter true) xs)) f)
        ∙ k))
    at false true g f k ih =
        let found : Some x ≡ Some b =
        sym (ap (λ (y : Bool). if y then Some x else find (is_on p) (revise q (counted voter true) xs)) f) ∙ k in
        record {
          old = x;
          found = ap (λ (y : Bool). if y then Some x else find (is_on p) xs) f;
          is = sym (same_Some x b found) ∙ ap (λ (y : Bool). if y then counted voter true x else x) (sym g);
        }
    at false false g f k ih =
        more f (ih (sym (ap (λ (y : Bool). if y then Some x else find (is_on p) (revise q (counted voter true) xs)) f)
        ∙ k))

pub open_yes : (ays nays : List DotValue) (q : DotValue) (voter : ℕ) (ballots : List Ballot) → OnOpen ays nays ballots
    → OnOpen (q ∷ ays) nays (revise q (counted voter true) ballots)
open_yes ays nays q voter ballots h p b e o =
    let r : Counted p q voter ballots b = count_finds p q voter ballots b e in
    let of_p : r.old.proposal ≡ p = (find_ballot p ballots r.old r.found).1 in
    at r of_p (same_dot r.old.proposal q) refl r.is
  where
    at : (r : Counted p q voter ballots b) → r.old.proposal ≡ p → (on : Bool) → same_dot r.old.proposal q ≡ on
        → b ≡ (if on then counted voter true r.old else r.old)
        → (length b.yes ≡ how_often p (q ∷ ays) + 1) × (has p nays ≡ false)
    at r of_p true s k =
        let opened : is_open r.old ≡ true = sym (ap is_open k) ∙ o in
        let old = h p r.old r.found opened in
        let before : length r.old.yes ≡ how_often p ays + 1 = old.0 in
        let now : length b.yes ≡ suc (length r.old.yes) = ap (λ (x : Ballot). length x.yes) k in
        let here : q ≡ p = sym (same_dot_true r.old.proposal q s) ∙ of_p in
        let more : how_often p (q ∷ ays) ≡ suc (how_often p ays) =
        times_same p q ays (subst (λ (d : DotValue). same_dot q d ≡ true) here (same_dot_refl q)) in
        (omega (arith, before, now, more), old.1)
    at r of_p false s k =
        let opened : is_open r.old ≡ true = sym (ap is_open k) ∙ o in
        let old = h p r.old r.found opened in
        let before : length r.old.yes ≡ how_often p ays + 1 = old.0 in
        let now : length b.yes ≡ length r.old.yes = ap (λ (x : Ballot). length x.yes) k in
        let same : how_often p (q ∷ ays) ≡ how_often p ays = times_other p q ays (other (same_dot q p) refl) in
        (omega (arith, before, now, same), old.1)
      where
        other : (t : Bool) → same_dot q p ≡ t → same_dot q p ≡ false
        other false f = f
        other true f =
            absurd (true≢false (sym (subst (λ (d : DotValue). same_dot r.old.proposal d ≡ true)
            (of_p ∙ sym (same_dot_true q p f)) (same_dot_refl r.old.proposal)) ∙ s))

pub open_no : (ays nays : List DotValue) (q : DotValue) (voter : ℕ) (ballots : List Ballot) → OnOpen ays nays ballots
    → OnOpen ays (q ∷ nays) (revise q (close false) (revise q (counted voter false) ballots))
open_no ays nays q voter ballots h p b e o =
    let plain : find (is_on p) (revise q (close false) ballots) ≡ Some b =
    ap (λ (l : List Ballot). find (is_on p) (revise q (close false) l)) (sym (revise_same q voter ballots)) ∙ e in
    let f = find_In (is_on p) (revise q (close false) ballots) b plain in
    let c = closed_in q false ballots b f.0 o in
    let old = h p b (close_finds p q false ballots b plain o) o in
    (old.0, ap (λ (t : Bool). t || has p nays) (other f.1 c.1 (same_dot q p) refl) ∙ old.1)
  where
    other : is_on p b ≡ true → is_on q b ≡ false → (t : Bool) → same_dot q p ≡ t → same_dot q p ≡ false
    other on off false f = f
    other on off true f =
        absurd (true≢false (sym on ∙ sym (ap (λ (d : DotValue). same_dot b.proposal d) (same_dot_true q p f)) ∙ off))
