-- Strays and the lists of the sites as maps.
use Rattle.std.proofs.Common.{◌≡◌, ◌+◌, ◌-◌, ◌<◌, ◌≤◌, ◌≢◌, ◌⊎◌, ⊎_elim, ℕ, List, [], ◌∷◌, ◌++◌, Bool, true}
use Rattle.std.proofs.Common.{false, ◌&&◌, ◌==◌, if◌then◌else◌, nat_le, nat_lt, length, take, get_or, set}
use Rattle.std.proofs.Common.{refl, sym, ap, ◌∙◌, inl, inr, arith, Option, Some, None}
use Rattle.std.proofs.lemmas.List.{take_more, take_all, get_or-set_other}
use Rattle.std.proofs.lemmas.Grind.{get_or-set_at}
use Rattle.std.proofs.lemmas.Bool.{le-leb, eqb-true, eqb-false}
use Rattle.td_base.specs.Lists.{In}
use Rattle.td_base.specs.Value.{DotValue, AtomIdValue}
use Rattle.td_base.specs.Equality.{same_dot}
use Rattle.td_base.proofs.Equals.{same_dot_true}
use Rattle.td_identities.specs.declared.numbers.Stray.{Stray}
use Rattle.td_identities.specs.Numbers.{NumbersValue, no_numbers, nth, with_run}
use Rattle.td_identities.specs.Identities.{insert_of, with_strays}

-- the latest stray counts
pub strays-append : (front back : List Stray) (x : AtomIdValue) (number : Option ℕ)
    → with_strays (front ++ back) x number ≡ with_strays back x (with_strays front x number)
strays-append [] back x number = refl
strays-append (s ∷ front) back x number = strays-append front back x (with_run s.id s.numbers x number)

not_in_run : (id : AtomIdValue) (n : NumbersValue) (x : AtomIdValue) (number : Option ℕ) → same_dot id.dot x.dot
    ≡ false → with_run id n x number ≡ number
not_in_run id n x number e = ap (λ (b : Bool). if
    b && (nat_le id.offset x.offset && nat_lt (x.offset - id.offset) n.count) then Some
    (n.first + (x.offset - id.offset)) else number) e

-- where none is of the insert
pub no_strays : (strays : List Stray) (x : AtomIdValue) (number : Option ℕ)
    → ((s : Stray) → In s strays → same_dot s.id.dot x.dot ≡ false) → with_strays strays x number ≡ number
no_strays [] x number h = refl
no_strays (s ∷ strays) x number h =
    ap (with_strays strays x) (not_in_run s.id s.numbers x number (h s (inl refl)))
    ∙ no_strays strays x number (λ t i. h t (inr i))

-- the numbers of an insert that had none
first_numbers : (n : NumbersValue) (id x : AtomIdValue) → id.offset ≡ 0 → same_dot id.dot x.dot ≡ true
    → nth n x.offset ≡ with_run id n x None
first_numbers n id x z e =
    (let same : x.offset ≡ x.offset - id.offset = omega arith in
    λ i. if nat_lt (same i) n.count then Some (n.first + same i) else None)
    ∙ ap (λ (b : Bool). if b && nat_lt (x.offset - id.offset) n.count then Some (n.first + (x.offset - id.offset))
    else None) (sym (le-leb id.offset x.offset (omega arith)))
    ∙ ap (λ (b : Bool). if b && (nat_le id.offset x.offset && nat_lt (x.offset - id.offset) n.count) then Some
    (n.first + (x.offset - id.offset)) else None) (sym e)

nth_none : (m : NumbersValue) (place : ℕ) → m.count ≡ 0 → nth m place ≡ None
nth_none m place z = ap (λ (b : Bool). if b then Some (m.first + place) else None) (below_none place m.count z)
  where
    below_none : (p c : ℕ) → c ≡ 0 → nat_lt p c ≡ false
    below_none p c z = grind (arith, le-leb)

pub none_yet : (place : ℕ) → nth no_numbers place ≡ None
none_yet place = nth_none no_numbers place refl

-- an insert with no numbers gets some
pub put_first : (sites new : List (List NumbersValue)) (strays : List Stray) (id : AtomIdValue) (n : NumbersValue)
    → id.offset ≡ 0 → (insert_of sites id.dot).count ≡ 0
    → ((s : Stray) → In s strays → same_dot s.id.dot id.dot ≡ false)
    → ((d : DotValue) → insert_of new d ≡ (if same_dot id.dot d then n else insert_of sites d)) → (x : AtomIdValue)
    → with_strays strays x (nth (insert_of new x.dot) x.offset)
    ≡ with_run id n x (with_strays strays x (nth (insert_of sites x.dot) x.offset))
put_first sites new strays id n z none apart set x = at (same_dot id.dot x.dot) refl
  where
    at : (b : Bool) → same_dot id.dot x.dot ≡ b → with_strays strays x (nth (insert_of new x.dot) x.offset)
        ≡ with_run id n x (with_strays strays x (nth (insert_of sites x.dot) x.offset))
    at true e =
        let same = same_dot_true id.dot x.dot e in
        let free : (s : Stray) → In s strays → same_dot s.id.dot x.dot
        ≡ false = λ s i. ap (same_dot s.id.dot) (sym same) ∙ apart s i in
        no_strays strays x (nth (insert_of new x.dot) x.offset) free
        ∙ ap (λ (m : NumbersValue). nth m x.offset) (set x.dot
        ∙ ap (λ (b : Bool). if b then n else insert_of sites x.dot) e)
        ∙ first_numbers n id x z e
        ∙ ap (with_run id n x) (sym (no_strays strays x (nth (insert_of sites x.dot) x.offset) free
        ∙ nth_none (insert_of sites x.dot) x.offset (ap (λ (d : DotValue). (insert_of sites d).count) (sym same)
        ∙ none)))
    at false e =
        ap (λ (m : NumbersValue). with_strays strays x (nth m x.offset))
        (set x.dot ∙ ap (λ (b : Bool). if b then n else insert_of sites x.dot) e)
        ∙ sym (not_in_run id n x (with_strays strays x (nth (insert_of sites x.dot) x.offset)) e)

-- another list of inserts with the same numbers
pub same_numbers : (sites new : List (List NumbersValue)) → ((d : DotValue) → insert_of new d ≡ insert_of sites d)
    → (strays same : List Stray) → same ≡ strays → (x : AtomIdValue)
    → with_strays same x (nth (insert_of new x.dot) x.offset)
    ≡ with_strays strays x (nth (insert_of sites x.dot) x.offset)
same_numbers sites new h strays same e x =
    ap (λ (l : List Stray). with_strays l x (nth (insert_of new x.dot) x.offset)) e
    ∙ ap (λ (m : NumbersValue). with_strays strays x (nth m x.offset)) (h x.dot)

-- the operations of a site, with the same numbers
pub same_site : (sites : List (List NumbersValue)) (site : ℕ) (operations : List NumbersValue) → site < length sites
    → ((k : ℕ) → get_or operations k no_numbers ≡ get_or (get_or sites site []) k no_numbers) → (d : DotValue)
    → insert_of (set sites site operations) d ≡ insert_of sites d
same_site sites site operations h same d =
    ⊎_elim (λ (e : d.site ≡ site). ap (λ (l : List NumbersValue). get_or l d.seq no_numbers)
    (get_or-set_at sites site d.site operations [] e h) ∙ same d.seq
    ∙ ap (λ (s : ℕ). get_or (get_or sites s []) d.seq no_numbers) (sym e))
    (λ (n : d.site ≢ site). ap (λ (l : List NumbersValue). get_or l d.seq no_numbers)
    (get_or-set_other sites site d.site operations [] n)) (same_or_other d.site site)
  where
    same_or_other : (a b : ℕ) → (a ≡ b) ⊎ (a ≢ b)
    same_or_other a b = at (a == b) refl
      where
        at : (t : Bool) → (a == b) ≡ t → (a ≡ b) ⊎ (a ≢ b)
        at true e = inl (eqb-true a b e)
        at false e = inr (eqb-false a b e)

-- one more of them
pub more_strays : (strays : List Stray) (i : ℕ) (s : Stray) → i < length strays → s ≡ get_or strays i s
    → (x : AtomIdValue) (number : Option ℕ)
    → with_run s.id s.numbers x (with_strays (take i strays) x number) ≡ with_strays (take (i + 1) strays) x number
more_strays strays i s h e x number =
    ap (λ (t : Stray). with_run t.id t.numbers x (with_strays (take i strays) x number)) e
    ∙ sym (ap (λ (l : List Stray). with_strays l x number) (take_more strays i s h)
    ∙ strays-append (take i strays) (get_or strays i s ∷ []) x number)

pub all_strays : (strays : List Stray) (i : ℕ) → length strays ≤ i → (x : AtomIdValue) (number : Option ℕ)
    → with_strays (take i strays) x number ≡ with_strays strays x number
all_strays strays i h x number = ap (λ (l : List Stray). with_strays l x number) (take_all i strays h)

-- a stray more
pub put_stray : (sites : List (List NumbersValue)) (strays : List Stray) (s : Stray) (x : AtomIdValue)
    → with_strays (strays ++ s ∷ []) x (nth (insert_of sites x.dot) x.offset)
    ≡ with_run s.id s.numbers x (with_strays strays x (nth (insert_of sites x.dot) x.offset))
put_stray sites strays s x = strays-append strays (s ∷ []) x (nth (insert_of sites x.dot) x.offset)
