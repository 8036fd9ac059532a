-- Rows that have met, one after another: then each two workers have.
use Rattle.std.proofs.Common.{◌≡◌, ◌≢◌, ◌<◌, ◌≤◌, ◌+◌, ℕ, zero, suc, List, [], ◌∷◌, Bool, true}
use Rattle.std.proofs.Common.{false, cond, not, nat_eq, length, drop, map, filter, slice_get, Some}
use Rattle.std.proofs.Common.{refl, sym, ap, ◌∙◌, subst, inl, inr, arith}
use Rattle.std.specs.List.{AllByRecursion, range_with_len}
use Rattle.std.proofs.lemmas.Bool.Decides.{nat_tests}
use Rattle.std.proofs.lemmas.Option.{same_Some}
use Rattle.td_base.specs.Lists.{In, Successive}
use Rattle.td_base.proofs.Lists.{In-filter, In-map}
use Rattle.td_base.proofs.Elements.{same_head, same_tail}
use Rattle.td_law_meeting.specs.Peers.{PeerValue, Met}
use Rattle.td_law_meeting.specs.Accounts.{Account, WorkersMet}
use Rattle.td_law_meeting.specs.Rows.{MatchesFirsts, AllMatch, rows_of}

number_of : PeerValue → ℕ
number_of p = p.site

abbrev pub others_from : ℕ → ℕ → ℕ → List ℕ
others_from k n site = filter (λ (j : ℕ). not (nat_eq j site)) (range_with_len k n)

-- the workers of sites k, k + 1 and so on, with peers for the others of these
abbrev Stand : ℕ → ℕ → List Account → Type 0
Stand k n accounts =
    (place : ℕ) (a : Account) → slice_get accounts place ≡ Some a
    → (a.site ≡ k + place) × (map (λ (p : PeerValue). p.site) a.peers ≡ others_from k n a.site)

-- the first peer is no longer looked at
abbrev without_first : Account → Account
without_first a = record a { peers = drop 1 a.peers }

numbers_least : (k n s : ℕ) → In s (range_with_len k n) → k ≤ s
numbers_least k zero s i = absurd i
numbers_least k (suc n) s (inl e) = omega (arith, e)
numbers_least k (suc n) s (inr i) = omega (arith, numbers_least (k + 1) n s i)

not_self : (a b : ℕ) → a ≢ b → not (nat_eq a b) ≡ true
not_self a b h = grind (arith, nat_tests)

self : (a b : ℕ) → a ≡ b → not (nat_eq a b) ≡ false
self a b h = grind (arith, nat_tests)

-- the first number stands before those of the others
pub first_kept : (k n site : ℕ) → k ≢ site → others_from k (suc n) site ≡ k ∷ others_from (k + 1) n site
first_kept k n site h =
    ap (λ (b : Bool). cond b (k ∷ others_from (k + 1) n site) (others_from (k + 1) n site)) (not_self k site h)

pub first_left : (k n : ℕ) → others_from k (suc n) k ≡ range_with_len (k + 1) n
first_left k n =
    ap (λ (b : Bool). cond b (k ∷ others_from (k + 1) n k) (others_from (k + 1) n k)) (self k k refl)
    ∙ all_kept (k + 1) n (omega arith)
  where
    all_kept : (j m : ℕ) → k < j → others_from j m k ≡ range_with_len j m
    all_kept j zero l = refl
    all_kept j (suc m) l =
        ap (λ (b : Bool). cond b (j ∷ others_from (j + 1) m k) (others_from (j + 1) m k)) (not_self j k (above j k l))
        ∙ ap (λ (w : List ℕ). j ∷ w) (all_kept (j + 1) m (omega (arith, l)))
      where
        above : (a b : ℕ) → b < a → a ≢ b
        above a b h e = absurd (omega (arith, h, e))

rest_numbers : (a : Account) (k : ℕ) (ns : List ℕ) → map (λ (p : PeerValue). p.site) a.peers ≡ k ∷ ns
    → map (λ (p : PeerValue). p.site) (without_first a).peers ≡ ns
rest_numbers a k ns e = at a.peers e
  where
    at : (ps : List PeerValue) → map (λ (p : PeerValue). p.site) ps ≡ k ∷ ns
        → map (λ (p : PeerValue). p.site) (drop 1 ps) ≡ ns
    at [] f = absurd (cc f)
    at (p ∷ ps) f = same_tail p.site (map (λ (q : PeerValue). q.site) ps) k ns f

-- a worker behind the first has a first peer for it, and its others for those behind
record Behind (k n : ℕ) (a : Account) : Type 0 where
  later : k < a.site
  numbers : map (λ (p : PeerValue). p.site) a.peers ≡ k ∷ others_from (k + 1) n a.site

behind : (k n : ℕ) (first : Account) (accounts : List Account) → Stand k (suc n) (first ∷ accounts)
    → (place : ℕ) (a : Account) → slice_get accounts place ≡ Some a → (a.site ≡ k + 1 + place) × Behind k n a
behind k n first accounts s place a e =
    let h = s (suc place) a e in
    let site : a.site ≡ k + 1 + place = h.0 ∙ shift k place in
    let later : k < a.site = omega (arith, site) in
    (site, record { later = later; numbers = h.1 ∙ first_kept k n a.site (below k a.site later) })
  where
    shift : (x y : ℕ) → x + suc y ≡ x + 1 + y
    shift x y = omega arith

    below : (a b : ℕ) → a < b → a ≢ b
    below a b l e = absurd (omega (arith, l, e))

get_map : {X Y : Type 0} (f : X → Y) (xs : List X) (place : ℕ) (y : Y) → slice_get (map f xs) place ≡ Some y
    → (x : X) × (slice_get xs place ≡ Some x) × (f x ≡ y)
get_map f [] place y e = absurd cc
get_map f (x ∷ xs) zero y e = (x, refl, same_Some (f x) y e)
get_map f (x ∷ xs) (suc place) y e = get_map f xs place y e

stand_rest : (k n : ℕ) (first : Account) (accounts : List Account) → Stand k (suc n) (first ∷ accounts)
    → Stand (k + 1) n (map without_first accounts)
stand_rest k n first accounts s place b e =
    let f = get_map without_first accounts place b e in
    let a = f.0 in
    let h = behind k n first accounts s place a f.1 in
    subst (λ (c : Account). (c.site ≡ k + 1 + place)
    × (map (λ (p : PeerValue). p.site) c.peers ≡ others_from (k + 1) n c.site)) f.2
    (h.0, rest_numbers a k (others_from (k + 1) n a.site) h.1.numbers)

rows_rest : (accounts : List Account) → map (drop 1) (rows_of accounts) ≡ rows_of (map without_first accounts)
rows_rest [] = refl
rows_rest (a ∷ accounts) = ap (λ (w : List (List PeerValue)). drop 1 a.peers ∷ w) (rows_rest accounts)

-- a peer that is not for the first stands behind it
in_rest : (ps : List PeerValue) (k : ℕ) (ns : List ℕ) (p : PeerValue) → map (λ (q : PeerValue). q.site) ps ≡ k ∷ ns
    → In p ps → p.site ≢ k → In p (drop 1 ps)
in_rest [] k ns p e i other = absurd i
in_rest (q ∷ ps) k ns p e (inl f) other =
    absurd (other (ap (λ (x : PeerValue). x.site) f ∙ same_head q.site (map (λ (x : PeerValue). x.site) ps) k ns e))
in_rest (q ∷ ps) k ns p e (inr i) other = i

-- and one that is for the first is the first
in_first : (ps : List PeerValue) (q : PeerValue) (k n site : ℕ) (p : PeerValue)
    → map (λ (x : PeerValue). x.site) (q ∷ ps) ≡ k ∷ others_from (k + 1) n site → In p (q ∷ ps) → p.site ≡ k → p ≡ q
in_first ps q k n site p e (inl f) is = f
in_first ps q k n site p e (inr i) is =
    let tail = same_tail q.site (map (λ (x : PeerValue). x.site) ps) k (others_from (k + 1) n site) e in
    let j : In p.site (others_from (k + 1) n site) =
    subst (λ (ns : List ℕ). In p.site ns) tail (In-map (λ (x : PeerValue). x.site) p ps i) in
    let f = In-filter (λ (x : ℕ). not (nat_eq x site)) p.site (range_with_len (k + 1) n) j in
    absurd (omega (arith, numbers_least (k + 1) n p.site f.0, is))

-- the first worker has met each one behind it
met_firsts : (k n j site : ℕ) (ps : List PeerValue) (accounts : List Account) → site ≡ k
    → map (λ (p : PeerValue). p.site) ps ≡ range_with_len j (length accounts)
    → ((place : ℕ) (a : Account) → slice_get accounts place ≡ Some a → (a.site ≡ j + place) × Behind k n a)
    → MatchesFirsts Met ps (rows_of accounts)
    → (place : ℕ) (b : Account) → slice_get accounts place ≡ Some b
    → (p q : PeerValue) → In p ps → p.site ≡ b.site → In q b.peers → q.site ≡ site → Met p q
met_firsts k n j site ps [] is e h m place b at p q ip ep iq eq = absurd (cc at)
met_firsts k n j site [] (a ∷ accounts) is e h m place b at p q ip ep iq eq = absurd ip
met_firsts k n j site (x ∷ ps) (a ∷ accounts) is e h m zero b at p q ip ep iq eq =
    let same : a ≡ b = same_Some a b at in
    let ha = h zero a refl in
    let tail = same_tail x.site (map (λ (v : PeerValue). v.site) ps) j (range_with_len (j + 1) (length accounts)) e in
    let number : p.site ≡ j = ep ∙ ap (λ (c : Account). c.site) (sym same) ∙ ha.0 ∙ zero_right j in
    first a.peers ha.1.numbers m (subst (λ (c : Account). In q c.peers) (sym same) iq) (is_x tail number ip)
  where
    zero_right : (y : ℕ) → y + 0 ≡ y
    zero_right y = omega arith

    is_x : map (λ (v : PeerValue). v.site) ps ≡ range_with_len (j + 1) (length accounts) → p.site ≡ j
        → In p (x ∷ ps) → p ≡ x
    is_x f number (inl g) = g
    is_x f number (inr i) =
        let w : In p.site (range_with_len (j + 1) (length accounts)) =
        subst (λ (ns : List ℕ). In p.site ns) f (In-map (λ (v : PeerValue). v.site) p ps i) in
        absurd (omega (arith, numbers_least (j + 1) (length accounts) p.site w, number))

    first : (row : List PeerValue) → map (λ (v : PeerValue). v.site) row ≡ k ∷ others_from (k + 1) n a.site
        → MatchesFirsts Met (x ∷ ps) (row ∷ rows_of accounts) → In q row → p ≡ x → Met p q
    first [] f w i ex = absurd i
    first (y ∷ row) f w i ex =
        let ey : q ≡ y = in_first row y k n a.site q f i (eq ∙ is) in
        subst (λ (v : PeerValue × PeerValue). Met v.0 v.1) (λ r. (sym ex r, sym ey r)) w.0
met_firsts k n j site (x ∷ ps) (a ∷ accounts) is e h m (suc place) b at p q ip ep iq eq =
    let hb = h (suc place) b at in
    let tail = same_tail x.site (map (λ (v : PeerValue). v.site) ps) j (range_with_len (j + 1) (length accounts)) e in
    let head = same_head x.site (map (λ (v : PeerValue). v.site) ps) j (range_with_len (j + 1) (length accounts)) e in
    met_firsts k n (j + 1) site ps accounts is tail
    (λ place' c f. let g = h (suc place') c f in (g.0 ∙ shift j place', g.1))
    (split a.peers m) place b at p q (behind_x head hb.0 ip) ep iq eq
  where
    shift : (y z : ℕ) → y + suc z ≡ y + 1 + z
    shift y z = omega arith

    split : (row : List PeerValue) → MatchesFirsts Met (x ∷ ps) (row ∷ rows_of accounts)
        → MatchesFirsts Met ps (rows_of accounts)
    split [] w = absurd w
    split (y ∷ row) w = w.1

    behind_x : x.site ≡ j → b.site ≡ j + suc place → In p (x ∷ ps) → In p ps
    behind_x head there (inl f) =
        let g : p.site ≡ x.site = ap (λ (v : PeerValue). v.site) f in absurd (omega (arith, g, head, there, ep))
    behind_x head there (inr i) = i

all_placed : {X : Type 0} (P : X → Type 0) (xs : List X) → ((place : ℕ) (x : X) → slice_get xs place ≡ Some x → P x)
    → AllByRecursion P xs
all_placed P [] h = record {}
all_placed P (x ∷ xs) h = (h zero x refl, all_placed P xs (λ place y e. h (suc place) y e))

-- what holds of the rest of each two holds of them, since neither of them has its first for the other
successive_rest : (k n : ℕ) (accounts : List Account)
    → ((place : ℕ) (a : Account) → slice_get accounts place ≡ Some a → Behind k n a)
    → Successive WorkersMet (map without_first accounts) → Successive WorkersMet accounts
successive_rest k n [] h s = record {}
successive_rest k n (a ∷ accounts) h s = (
  all_placed (WorkersMet a) accounts (λ place b at. wider b (h (suc place) b at)
      (placed (map without_first accounts) place (without_first b) (map_at accounts place b at) s.0)),
  successive_rest k n accounts (λ place b at. h (suc place) b at) s.1,
)
  where
    map_at : (xs : List Account) (place : ℕ) (b : Account) → slice_get xs place ≡ Some b
        → slice_get (map without_first xs) place ≡ Some (without_first b)
    map_at [] place b e = absurd (cc e)
    map_at (x ∷ xs) zero b e = ap (λ (c : Account). Some (without_first c)) (same_Some x b e)
    map_at (x ∷ xs) (suc place) b e = map_at xs place b e

    placed : (xs : List Account) (place : ℕ) (b : Account) → slice_get xs place ≡ Some b
        → AllByRecursion (WorkersMet (without_first a)) xs → WorkersMet (without_first a) b
    placed [] place b e all = absurd (cc e)
    placed (x ∷ xs) zero b e all = subst (λ (c : Account). WorkersMet (without_first a) c) (same_Some x b e) all.0
    placed (x ∷ xs) (suc place) b e all = placed xs place b e all.1

    wider : (b : Account) → Behind k n b → WorkersMet (without_first a) (without_first b) → WorkersMet a b
    wider b hb m p q ip ep iq eq =
        let ha = h zero a refl in
        m p q
        (in_rest a.peers k (others_from (k + 1) n a.site) p ha.numbers ip (later b.site p.site hb.later ep)) ep
        (in_rest b.peers k (others_from (k + 1) n b.site) q hb.numbers iq (later a.site q.site ha.later eq)) eq
      where
        later : (s t : ℕ) → k < s → t ≡ s → t ≢ k
        later s t l e f = absurd (omega (arith, l, e, f))

all_met : (n k : ℕ) (accounts : List Account) → length accounts ≡ n → Stand k n accounts
    → AllMatch Met n (rows_of accounts) → Successive WorkersMet accounts
all_met n k [] e s m = record {}
all_met zero k (a ∷ accounts) e s m = absurd (omega (arith, e))
all_met (suc n) k (a ∷ accounts) e s m =
    let few : length accounts ≡ n = omega (arith, e) in
    let first = s zero a refl in
    let site : a.site ≡ k = first.0 ∙ zero_right k in
    let numbers : map (λ (p : PeerValue). p.site) a.peers ≡ range_with_len (k + 1) (length accounts) =
    first.1 ∙ ap (others_from k (suc n)) site ∙ first_left k n ∙ ap (range_with_len (k + 1)) (sym few) in
    let next : Successive WorkersMet (map without_first accounts) =
    all_met n (k + 1) (map without_first accounts) (mapped accounts ∙ few) (stand_rest k n a accounts s)
    (subst (λ (rows : List (List PeerValue)). AllMatch Met n rows) (rows_rest accounts) m.1) in (
      all_placed (WorkersMet a) accounts
          (met_firsts k n (k + 1) a.site a.peers accounts site numbers (behind k n a accounts s) m.0),
      successive_rest k n accounts (λ place b at. (behind k n a accounts s place b at).1) next,
    )
  where
    zero_right : (y : ℕ) → y + 0 ≡ y
    zero_right y = omega arith

    mapped : (xs : List Account) → length (map without_first xs) ≡ length xs
    mapped [] = refl
    mapped (x ∷ xs) = ap suc (mapped xs)

-- the workers of sites 1 to n whose rows have met
pub have_met : (accounts : List Account)
    → ((place : ℕ) (a : Account) → slice_get accounts place ≡ Some a
    → (a.site ≡ place + 1) × (map (λ (p : PeerValue). p.site) a.peers ≡ others_from 1 (length accounts) a.site))
    → AllMatch Met (length accounts) (rows_of accounts) → Successive WorkersMet accounts
have_met accounts s m =
    all_met (length accounts) 1 accounts refl
    (λ place a e. let h = s place a e in (h.0 ∙ turned place, h.1)) m
  where
    turned : (y : ℕ) → y + 1 ≡ 1 + y
    turned y = omega arith
