-- What happens to ballots: one is closed, one is counted.
use Rattle.std.proofs.Common.{◌≡◌, ◌<◌, ◌≤◌, ℕ, suc, List, [], ◌∷◌, Bool, true, false, if◌then◌else◌, length}
use Rattle.std.proofs.Common.{filter, Some, refl, sym, ap, ◌∙◌, inl, inr, true≢false, arith}
use Rattle.std.specs.List.{find}
use Rattle.td_base.specs.Value.{DotValue}
use Rattle.td_base.specs.Lists.{In}
use Rattle.td_base.proofs.Lists.{map_In}
use Rattle.td_base.proofs.Searches.{find_In}
use Rattle.td_base.proofs.Equals.{same_dot_true}
use Rattle.td_base.specs.Equality.{same_dot}
use Rattle.td_machine.specs.Decision.{Ballot, is_on, is_open, counted, count_open, revise, close}
use Rattle.std.proofs.lemmas.Option.{same_Some}

-- ---- how many are open

-- one more, where the Bool is true
abbrev one_if : Bool → ℕ → ℕ
one_if b n = if b then suc n else n

count_cons : (x : Ballot) (xs : List Ballot) → count_open (x ∷ xs) ≡ one_if (is_open x) (count_open xs)
count_cons x xs = at (is_open x)
  where
    at : (b : Bool) → length (if b then x ∷ filter is_open xs else filter is_open xs) ≡ one_if b (count_open xs)
    at true = refl
    at false = refl

-- a change that opens none leaves no more open
fewer_cons : (x y : Ballot) (xs ys : List Ballot) → (is_open y ≡ true → is_open x ≡ true)
    → count_open ys ≤ count_open xs
    → count_open (y ∷ ys) ≤ count_open (x ∷ xs)
fewer_cons x y xs ys h k =
    let old : count_open (x ∷ xs) ≡ one_if (is_open x) (count_open xs) = count_cons x xs in
    let new : count_open (y ∷ ys) ≡ one_if (is_open y) (count_open ys) = count_cons y ys in
    let less : one_if (is_open y) (count_open ys) ≤ one_if (is_open x) (count_open xs) = at (is_open y) (is_open x) h in
    omega (arith, old, new, less)
  where
    at : (b c : Bool) → (b ≡ true → c ≡ true) → one_if b (count_open ys) ≤ one_if c (count_open xs)
    at true true e = omega (arith, k)
    at true false e = absurd (true≢false (sym (e refl)))
    at false true e = omega (arith, k)
    at false false e = k

revise_fewer : (p : DotValue) (change : Ballot → Ballot) → ((b : Ballot) → is_open (change b) ≡ true → is_open b ≡ true)
    → (xs : List Ballot) → count_open (revise p change xs) ≤ count_open xs
revise_fewer p change h [] = omega arith
revise_fewer p change h (x ∷ xs) =
    fewer_cons x (if is_on p x then change x else x) xs (revise p change xs) (at (is_on p x))
    (revise_fewer p change h xs)
  where
    at : (b : Bool) → is_open (if b then change x else x) ≡ true → is_open x ≡ true
    at true = h x
    at false = λ e. e

-- to close a ballot opens none
pub close_fewer : (p : DotValue) (commit : Bool) (xs : List Ballot)
    → count_open (revise p (close commit) xs) ≤ count_open xs
close_fewer p commit xs = revise_fewer p (close commit) (λ b e. absurd (true≢false (sym e))) xs

abbrev Closes : DotValue → Bool → List Ballot → Type 0
Closes p commit xs = count_open (revise p (close commit) xs) < count_open xs

-- to close an open one leaves fewer open
pub closes : (p : DotValue) (commit : Bool) (b : Ballot) (xs : List Ballot) → find (is_on p) xs ≡ Some b
    → is_open b ≡ true
    → Closes p commit xs
closes p commit b [] f o = absurd cc
closes p commit b (x ∷ xs) f o = at (is_on p x) f (λ k. closes p commit b xs k o)
  where
    at : (on : Bool) → (if on then Some x else find (is_on p) xs) ≡ Some b
        → (find (is_on p) xs ≡ Some b → Closes p commit xs)
        → count_open ((if on then close commit x else x) ∷ revise p (close commit) xs) < count_open (x ∷ xs)
    at true e ih =
        let here : is_open x ≡ true = ap is_open (same_Some x b e) ∙ o in
        let less : count_open (revise p (close commit) xs) ≤ count_open xs = close_fewer p commit xs in
        let now : count_open (x ∷ xs) ≡ suc (count_open xs) =
        count_cons x xs ∙ ap (λ (z : Bool). one_if z (count_open xs)) here in
        omega (arith, less, now)
    at false e ih =
        let less : count_open (revise p (close commit) xs) < count_open xs = ih e in
        let closed : List Ballot = revise p (close commit) xs in
        let old : count_open (x ∷ xs) ≡ one_if (is_open x) (count_open xs) = count_cons x xs in
        let new : count_open (x ∷ closed) ≡ one_if (is_open x) (count_open closed) = count_cons x closed in
        let both = one_less (is_open x) (count_open closed) (count_open xs) less in
        omega (arith, old, new, both)
      where
        one_less : (c : Bool) (m n : ℕ) → m < n → one_if c m < one_if c n
        one_less true m n h = omega (arith, h)
        one_less false m n h = h

-- a counted vote keeps the proposal and whether it is open
pub counted_same : (voter : ℕ) (says : Bool) (b : Ballot)
    → ((counted voter says b).proposal ≡ b.proposal) × (is_open (counted voter says b) ≡ is_open b)
counted_same voter true b = (refl, refl)
counted_same voter false b = (refl, refl)

pub counted_fewer : (p : DotValue) (voter : ℕ) (says : Bool) (xs : List Ballot)
    → count_open (revise p (counted voter says) xs) ≤ count_open xs
counted_fewer p voter says xs = revise_fewer p (counted voter says) (λ b e. sym (counted_same voter says b).1 ∙ e) xs

-- ---- what is found, and what is in a changed list

pub find_ballot : (p : DotValue) (ballots : List Ballot) (b : Ballot) → find (is_on p) ballots ≡ Some b
    → In b ballots × (b.proposal ≡ p)
find_ballot p ballots b e =
    let f = find_In (is_on p) ballots b e in (f.0, same_dot_true b.proposal p f.1)

pub found_counted : (p : DotValue) (voter : ℕ) (says : Bool) (b : Ballot) (xs : List Ballot)
    → find (is_on p) xs ≡ Some b
    → find (is_on p) (revise p (counted voter says) xs) ≡ Some (counted voter says b)
found_counted p voter says b [] f = absurd cc
found_counted p voter says b (x ∷ xs) f = at (is_on p x) refl f (λ k. found_counted p voter says b xs k)
  where
    at : (on : Bool) → is_on p x ≡ on → (if on then Some x else find (is_on p) xs) ≡ Some b
        → (find (is_on p) xs ≡ Some b → find (is_on p) (revise p (counted voter says) xs) ≡ Some (counted voter says b))
        → find (is_on p) ((if on then counted voter says x else x) ∷ revise p (counted voter says) xs)
        ≡ Some (counted voter says b)
    at true e k ih =
        let here : is_on p (counted voter says x) ≡ true =
        ap (λ (d : DotValue). same_dot d p) (counted_same voter says x).0 ∙ e in
        ap
        (λ (t : Bool). if t then Some (counted voter says x) else find (is_on p) (revise p (counted voter says) xs))
        here
        ∙ ap (λ (c : Ballot). Some (counted voter says c)) (same_Some x b k)
    at false e k ih =
        ap (λ (t : Bool). if t then Some x else find (is_on p) (revise p (counted voter says) xs)) e ∙ ih k

pub closed_in : (p : DotValue) (commit : Bool) (ballots : List Ballot) (b : Ballot)
    → In b (revise p (close commit) ballots)
    → is_open b ≡ true → In b ballots × (is_on p b ≡ false)
closed_in p commit [] b i o = absurd i
closed_in p commit (c ∷ ballots) b (inl e) o = at (is_on p c) refl e
  where
    at : (t : Bool) → is_on p c ≡ t → b ≡ (if t then close commit c else c) → In b (c ∷ ballots) × (is_on p b ≡ false)
    at true f k = absurd (true≢false (sym o ∙ ap is_open k))
    at false f k = (inl k, ap (is_on p) k ∙ f)
closed_in p commit (c ∷ ballots) b (inr i) o = let r = closed_in p commit ballots b i o in (inr r.0, r.1)

-- each ballot of a changed list is one of before, with its proposal
pub record Before (ballots : List Ballot) (b : Ballot) : Type 0 where
  pub ballot : Ballot
  pub inside : In ballot ballots
  pub on : b.proposal ≡ ballot.proposal
  pub opened : is_open b ≡ true → is_open ballot ≡ true

pub revised_in : (p : DotValue) (change : Ballot → Ballot)
    → ((b : Ballot) → ((change b).proposal ≡ b.proposal) × (is_open (change b) ≡ true → is_open b ≡ true))
    → (ballots : List Ballot) (b : Ballot) → In b (revise p change ballots) → Before ballots b
revised_in p change same ballots b i =
    let q = map_In (λ (c : Ballot). if is_on p c then change c else c) b ballots i in
    let k = at q.0 (is_on p q.0) in
    record {
      ballot = q.0;
      inside = q.1;
      on = ap (λ (c : Ballot). c.proposal) q.2 ∙ k.0;
      opened = λ o. k.1 (sym (ap is_open q.2) ∙ o);
    }
  where
    at : (c : Ballot) (t : Bool)
        → ((if t then change c else c).proposal ≡ c.proposal)
        × (is_open (if t then change c else c) ≡ true → is_open c ≡ true)
    at c true = same c
    at c false = (refl, (λ e. e))

pub counted_in : (p : DotValue) (voter : ℕ) (says : Bool) (ballots : List Ballot) (b : Ballot)
    → In b (revise p (counted voter says) ballots) → Before ballots b
counted_in p voter says =
    revised_in p (counted voter says)
    (λ c. ((counted_same voter says c).0, (λ e. sym (counted_same voter says c).1 ∙ e)))
