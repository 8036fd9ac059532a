-- A ballot at its place: it is found there, changed there, and put there.
use Rattle.std.proofs.Common.{◌≡◌, ◌≢◌, ◌⊎◌, ◌<◌, ℕ, zero, suc, List, [], ◌∷◌, ◌++◌, Bool, true, false, if◌then◌else◌}
use Rattle.std.proofs.Common.{length, take, drop, get_or, set, map, Option, Some, None, Result, Ok, Err, refl, sym}
use Rattle.std.proofs.Common.{ap, ◌∙◌, subst, inl, inr, ⊎_elim, true≢false, arith, append_assoc, take-append-drop}
use Rattle.std.specs.Prelude.{IsSome, IsNone, is_ok, is_err, is_some, reverse, insert}
use Rattle.std.specs.List.{find}
use Rattle.std.specs.declared.cmp.Ordering.TheVariants.{Less}
use Rattle.std.proofs.lemmas.List.{map-set, set-get_or, get_or_default, reverse-append}
use Rattle.std.specs.Ordering.{is_lt}
use Rattle.std.proofs.lemmas.Option.{same_Some}
use Rattle.std.proofs.lemmas.List.Elements.{recursion_from_All}
use Rattle.std.proofs.lemmas.List.Sorted.{IsPermutation-reverse, IsPermutation-sym}
use Rattle.td_base.specs.Value.{DotValue}
use Rattle.td_base.specs.Lists.{In, Successive}
use Rattle.td_base.specs.Order.{dot_cmp, dot_lt}
use Rattle.td_base.specs.Equality.{same_dot}
use Rattle.td_base.proofs.Lists.{all_in, all_of, In-append, In-permutation, Contains-In_at, across, successive_append}
use Rattle.td_base.proofs.Lists.{successive_front, successive_back, successive_map, map_successive}
use Rattle.td_base.proofs.Searches.{find_one}
use Rattle.td_base.proofs.Equals.{same_dot_true, same_dot_refl, same_dot_other}
use Rattle.td_base.proofs.Rising.{rises_tri}
use Rattle.td_machine.specs.Decision.{Ballot, is_on, outcome, revise, close}
use Rattle.td_coord.specs.Tally.{own_ballot, started, put_ballot, close_due}
use Rattle.td_coord.specs.TallyParts.{IsRising}
use Rattle.td_coord.specs.Places.{IsPlace}
use Rattle.td_coord.proofs.Rising.{not_below_itself, other_way}
use Rattle.td_base.proofs.Reversed.{map-reverse}
use Rattle.td_base.proofs.Orders.{less_of}

abbrev Before : Ballot → Ballot → Type 0
Before b c = dot_cmp b.proposal c.proposal ≡ Less

-- ballots before one another are on different proposals

before_other : (b c : Ballot) → Before b c → b.proposal ≢ c.proposal
before_other b c h e = not_below_itself c.proposal (subst (λ (d : DotValue). dot_cmp d c.proposal ≡ Less) e h)

one_on : (p : DotValue) (xs : List Ballot) → IsRising xs → (b c : Ballot) → In b xs → In c xs → is_on p b ≡ true
    → is_on p c ≡ true → c ≡ b
one_on p xs rising b c i j h k =
    let same : c.proposal ≡ b.proposal = same_dot_true c.proposal p k ∙ sym (same_dot_true b.proposal p h) in
    ⊎_elim (λ (e : c ≡ b). e)
    (λ (q : Before c b ⊎ Before b c). absurd
    (⊎_elim (λ (a : Before c b). before_other c b a same) (λ (a : Before b c). before_other b c a (sym same)) q))
    (rises_tri Before xs rising c b j i)

in_reverse : (b : Ballot) (xs : List Ballot) → In b xs → In b (reverse xs)
in_reverse b xs i = In-permutation xs (reverse xs) b (IsPermutation-reverse xs) i

from_reverse : (b : Ballot) (xs : List Ballot) → In b (reverse xs) → In b xs
from_reverse b xs i = In-permutation (reverse xs) xs b (IsPermutation-sym xs (reverse xs) (IsPermutation-reverse xs)) i

is_on_its_own : (p : DotValue) (b : Ballot) → b.proposal ≡ p → is_on p b ≡ true
is_on_its_own p b e = ap (λ (d : DotValue). same_dot d p) e ∙ same_dot_refl p

-- ---- where it is found

pub found_at : (p : DotValue) (xs : List Ballot) (k : ℕ) (b : Ballot) → IsRising xs → IsPlace p xs (Ok k)
    → b ≡ get_or xs k b → find (is_on p) (reverse xs) ≡ Some b
found_at p xs k b rising place read =
    let i : In b xs = Contains-In_at b xs k place.0 (sym read) in
    let on : is_on p b ≡ true = is_on_its_own p b (ap (λ (c : Ballot). c.proposal) read ∙ place.1 b) in
    find_one (is_on p) (reverse xs) b (in_reverse b xs i) on
    (λ c j h. one_on p xs rising b c i (from_reverse c xs j) on h)

pub one_found : (p : DotValue) (xs : List Ballot) (k : ℕ) (b c : Ballot) → IsRising xs → IsPlace p xs (Ok k)
    → b ≡ get_or xs k b → find (is_on p) (reverse xs) ≡ Some c → c ≡ b
one_found p xs k b c rising place read found = same_Some c b (sym found ∙ found_at p xs k b rising place read)

-- between smaller and greater proposals

front_below : (p : DotValue) (xs : List Ballot) (k : ℕ) → IsPlace p xs (Err k) → (c : Ballot) → In c (take k xs)
    → dot_cmp c.proposal p ≡ Less
front_below p xs k place =
    all_in (λ (c : Ballot). dot_cmp c.proposal p ≡ Less) (take k xs)
    (recursion_from_All (λ (c : Ballot). dot_cmp c.proposal p ≡ Less) (take k xs) place.1)

back_above : (p : DotValue) (xs : List Ballot) (k : ℕ) → IsPlace p xs (Err k) → (c : Ballot) → In c (drop k xs)
    → dot_cmp p c.proposal ≡ Less
back_above p xs k place =
    all_in (λ (c : Ballot). dot_cmp p c.proposal ≡ Less) (drop k xs)
    (recursion_from_All (λ (c : Ballot). dot_cmp p c.proposal ≡ Less) (drop k xs) place.2)

-- where no ballot is on it none is found
pub none_on : (p : DotValue) (ballots : List Ballot) → ((c : Ballot) → In c ballots → c.proposal ≢ p)
    → find (is_on p) ballots ≡ None
none_on p [] others = refl
none_on p (x ∷ ballots) others =
    ap (λ (t : Bool). if t then Some x else find (is_on p) ballots) (same_dot_other x.proposal p (others x (inl refl)))
    ∙ none_on p ballots (λ c i. others c (inr i))

pub not_found : (p : DotValue) (xs : List Ballot) (k : ℕ) → IsPlace p xs (Err k) → find (is_on p) (reverse xs) ≡ None
not_found p xs k place =
    none_on p (reverse xs)
    (λ c i same. ⊎_elim
    (λ (j : In c (take k xs)). not_below_itself p
    (subst (λ (d : DotValue). dot_cmp d p ≡ Less) same (front_below p xs k place c j)))
    (λ (j : In c (drop k xs)). not_below_itself p
    (subst (λ (d : DotValue). dot_cmp p d ≡ Less) same (back_above p xs k place c j)))
    (In-append c (take k xs) (drop k xs)
    (subst (λ (q : List Ballot). In c q) (sym (take-append-drop k xs)) (from_reverse c xs i))))

-- a ballot that is found has a place
pub is_placed : (p : DotValue) (xs : List Ballot) (r : Result ℕ ℕ) → IsPlace p xs r
    → IsSome (find (is_on p) (reverse xs)) → is_ok r ≡ true
is_placed p xs (Ok k) place some = refl
is_placed p xs (Err k) place some = absurd (true≢false (sym some ∙ ap is_some (not_found p xs k place)))

-- and one that is not found has none
pub is_gap : (p : DotValue) (xs : List Ballot) (r : Result ℕ ℕ) → IsRising xs → IsPlace p xs r
    → IsNone (find (is_on p) (reverse xs)) → is_err r ≡ true
is_gap p xs (Err k) rising place none = refl
is_gap p [] (Ok k) rising place none = absurd (omega (arith, place.0))
is_gap p (x ∷ xs) (Ok k) rising place none =
    let b : Ballot = get_or (x ∷ xs) k x in
    let read : b ≡ get_or (x ∷ xs) k b = get_or_default (x ∷ xs) k x b place.0 in
    absurd (true≢false (sym (ap is_some (found_at p (x ∷ xs) k b rising place read)) ∙ none))

-- ---- where it is changed

-- where no ballot is on it none changes
pub none_revised : (p : DotValue) (change : Ballot → Ballot) (xs : List Ballot)
    → ((c : Ballot) → In c xs → c.proposal ≢ p) → revise p change xs ≡ xs
none_revised p change [] others = refl
none_revised p change (x ∷ xs) others =
    let head : (if is_on p x then change x else x) ≡ x =
    ap (λ (t : Bool). if t then change x else x) (same_dot_other x.proposal p (others x (inl refl))) in
    let rest = none_revised p change xs (λ c i. others c (inr i)) in
    λ i. head i ∷ rest i

revised_here : (p : DotValue) (change : Ballot → Ballot) (xs : List Ballot) (k : ℕ) (b new : Ballot) → IsRising xs
    → k < length xs → b ≡ get_or xs k b → b.proposal ≡ p → change b ≡ new → revise p change xs ≡ set xs k new
revised_here p change [] k b new rising within read on changed = absurd (omega arith)
revised_here p change (x ∷ xs) zero b new rising within read on changed =
    let here : x.proposal ≡ p = ap (λ (c : Ballot). c.proposal) (sym read) ∙ on in
    let head : (if is_on p x then change x else x) ≡ new =
    ap (λ (t : Bool). if t then change x else x) (is_on_its_own p x here) ∙ ap change (sym read) ∙ changed in
    let rest : revise p change xs ≡ xs =
    none_revised p change xs
    (λ c i e. before_other x c (all_in (Before x) xs rising.0 c i) (here ∙ sym e)) in
    λ i. head i ∷ rest i
revised_here p change (x ∷ xs) (suc k) b new rising within read on changed =
    let less : k < length xs = omega arith in
    let i : In b xs = Contains-In_at b xs k less (sym read) in
    let other : is_on p x ≡ false =
    same_dot_other x.proposal p (λ e. before_other x b (all_in (Before x) xs rising.0 b i) (e ∙ sym on)) in
    let head : (if is_on p x then change x else x) ≡ x = ap (λ (t : Bool). if t then change x else x) other in
    let rest = revised_here p change xs k b new rising.1 less read on changed in
    λ j. head j ∷ rest j

pub revised_at : (p : DotValue) (change : Ballot → Ballot) (xs : List Ballot) (k : ℕ) (b new : Ballot) → IsRising xs
    → IsPlace p xs (Ok k) → b ≡ get_or xs k b → change b ≡ new → reverse (set xs k new) ≡ revise p change (reverse xs)
revised_at p change xs k b new rising place read changed =
    let on : b.proposal ≡ p = ap (λ (c : Ballot). c.proposal) read ∙ place.1 b in
    ap reverse (sym (revised_here p change xs k b new rising place.0 read on changed))
    ∙ sym (map-reverse (λ (c : Ballot). if is_on p c then change c else c) xs)

pub still_rising : (xs : List Ballot) (k : ℕ) (b new : Ballot) → IsRising xs → b ≡ get_or xs k b
    → new.proposal ≡ b.proposal → IsRising (set xs k new)
still_rising xs k b new rising read same =
    let kept : map (λ (c : Ballot). c.proposal) (set xs k new) ≡ map (λ (c : Ballot). c.proposal) xs =
    map-set (λ (c : Ballot). c.proposal) xs k new
    ∙ ap (set (map (λ (c : Ballot). c.proposal) xs) k) (same ∙ ap (λ (c : Ballot). c.proposal) read)
    ∙ sym (map-set (λ (c : Ballot). c.proposal) xs k (get_or xs k b))
    ∙ ap (map (λ (c : Ballot). c.proposal)) (set-get_or xs k b) in
    map_successive (λ (d e : DotValue). dot_cmp d e ≡ Less) (λ (c : Ballot). c.proposal) (set xs k new)
    (subst (λ (ds : List DotValue). Successive (λ (d e : DotValue). dot_cmp d e ≡ Less) ds) (sym kept)
    (successive_map (λ (d e : DotValue). dot_cmp d e ≡ Less) (λ (c : Ballot). c.proposal) xs rising))

-- ---- where it is put

pub put_rising : (p : DotValue) (xs : List Ballot) (k : ℕ) (b : Ballot) → IsRising xs → IsPlace p xs (Err k)
    → b.proposal ≡ p → IsRising (insert xs k b)
put_rising p xs k b rising place on =
    let front : List Ballot = take k xs in
    let back : List Ballot = drop k xs in
    let whole : IsRising (front ++ back) = subst IsRising (sym (take-append-drop k xs)) rising in
    let smaller : (c : Ballot) → In c front → Before c b = λ c i.
    subst (λ (d : DotValue). dot_cmp c.proposal d ≡ Less) (sym on) (front_below p xs k place c i) in
    let greater : (c : Ballot) → In c back → Before b c = λ c i.
    subst (λ (d : DotValue). dot_cmp d c.proposal ≡ Less) (sym on) (back_above p xs k place c i) in
    successive_append Before front (b ∷ back) (successive_front Before front back whole)
    (all_of (Before b) back greater, successive_back Before front back whole)
    (λ c d i j. ⊎_elim (λ (e : d ≡ b). subst (λ (q : Ballot). Before c q) (sym e) (smaller c i))
    (λ (l : In d back). across Before front back whole c d i l) j)

put_between : (b : Ballot) (greater smaller : List Ballot)
    → ((c : Ballot) → In c greater → dot_lt b.proposal c.proposal ≡ true)
    → ((c : Ballot) → In c smaller → dot_lt b.proposal c.proposal ≡ false)
    → put_ballot b (greater ++ smaller) ≡ greater ++ b ∷ smaller
put_between b [] [] above below = refl
put_between b [] (c ∷ smaller) above below =
    ap (λ (t : Bool). if t then c ∷ put_ballot b smaller else b ∷ c ∷ smaller) (below c (inl refl))
put_between b (c ∷ greater) smaller above below =
    ap (λ (t : Bool). if t then c ∷ put_ballot b (greater ++ smaller) else b ∷ c ∷ greater ++ smaller)
    (above c (inl refl))
    ∙ ap (λ (q : List Ballot). c ∷ q) (put_between b greater smaller (λ d i. above d (inr i)) below)

not_above : (b c : Ballot) → Before c b → dot_lt b.proposal c.proposal ≡ false
not_above b c h = ap is_lt (other_way c.proposal b.proposal Less h)

pub put_reversed : (p : DotValue) (xs : List Ballot) (k : ℕ) (b : Ballot) → IsPlace p xs (Err k) → b.proposal ≡ p
    → reverse (insert xs k b) ≡ put_ballot b (reverse xs)
put_reversed p xs k b place on =
    let front : List Ballot = take k xs in
    let back : List Ballot = drop k xs in
    let above : (c : Ballot) → In c (reverse back) → dot_lt b.proposal c.proposal ≡ true = λ c i.
    ap is_lt
    (subst (λ (d : DotValue). dot_cmp d c.proposal ≡ Less) (sym on)
    (back_above p xs k place c (from_reverse c back i))) in
    let below : (c : Ballot) → In c (reverse front) → dot_lt b.proposal c.proposal ≡ false = λ c i.
    not_above b c
    (subst (λ (d : DotValue). dot_cmp c.proposal d ≡ Less) (sym on)
    (front_below p xs k place c (from_reverse c front i))) in
    reverse-append front (b ∷ back) ∙ ap (λ (q : List Ballot). q ++ reverse front) (reverse-append (b ∷ []) back)
    ∙ append_assoc (reverse back) (b ∷ []) (reverse front)
    ∙ sym (put_between b (reverse back) (reverse front) above below)
    ∙ ap (put_ballot b) (sym (reverse-append front back) ∙ ap reverse (take-append-drop k xs))

-- ---- the greatest proposal

abbrev pub AreBelow : DotValue → List Ballot → Type 0
AreBelow p ballots = (c : Ballot) → In c ballots → dot_lt c.proposal p ≡ true

below_other : (p : DotValue) (ballots : List Ballot) → AreBelow p ballots → (c : Ballot) → In c ballots
    → c.proposal ≢ p
below_other p ballots below c i e =
    not_below_itself p
    (subst (λ (d : DotValue). dot_cmp d p ≡ Less) e (less_of (dot_cmp c.proposal p) (below c i)))

-- no ballot is on a proposal greater than all
pub newest_not_found : (p : DotValue) (ballots : List Ballot) → AreBelow p ballots → find (is_on p) ballots ≡ None
newest_not_found p ballots below = none_on p ballots (below_other p ballots below)

-- its ballot is the first
pub newest_first : (b : Ballot) (ballots : List Ballot) → AreBelow b.proposal ballots
    → put_ballot b ballots ≡ b ∷ ballots
newest_first b ballots below =
    put_between b [] ballots (λ c i. absurd i)
    (λ c i. not_above b c (less_of (dot_cmp c.proposal b.proposal) (below c i)))

-- and is closed where that is due, as a machine does it
pub newest_started : (n own : ℕ) (p : DotValue) (ballots : List Ballot) → AreBelow p ballots
    → put_ballot (started n own p) ballots
    ≡ close_due p (outcome n true (own_ballot own p)) (own_ballot own p ∷ ballots)
newest_started n own p ballots below =
    newest_first (started n own p) ballots below ∙ at (outcome n true (own_ballot own p))
  where
    at : (o : Option Bool)
        → record (own_ballot own p) { decision = o } ∷ ballots ≡ close_due p o (own_ballot own p ∷ ballots)
    at None = refl
    at (Some commit) =
        let b : Ballot = own_ballot own p in
        let head : (if same_dot p p then close commit b else b) ≡ close commit b =
        ap (λ (t : Bool). if t then close commit b else b) (same_dot_refl p) in
        let rest = none_revised p (close commit) ballots (below_other p ballots below) in
        λ i. sym head i ∷ sym rest i
