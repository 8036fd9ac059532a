-- Lists whose elements stand for others, and lists that were added to at their end.
use Rattle.std.proofs.Common.{◌≡◌, ℕ, zero, suc, List, [], ◌∷◌, ◌++◌, length, take, Option, Some, refl, sym, ap, subst}
use Rattle.std.specs.List.{filter_map, cons_option, slice_get}
use Rattle.std.specs.Option.{option_and_then, IsSome}
use Rattle.td_history.specs.Standing.{StandFor, IsGrown}

module _ {X Y : Type 0} (f : X → Option Y) where
  pub stand_filter_map : (xs : List X) (ys : List Y) → StandFor f xs ys → filter_map f xs ≡ ys
  stand_filter_map [] [] h = refl
  stand_filter_map [] (y ∷ ys) h = absurd h
  stand_filter_map (x ∷ xs) [] h = absurd h
  stand_filter_map (x ∷ xs) (y ∷ ys) h = λ i. cons_option (h.0 i) (stand_filter_map xs ys h.1 i)

  -- they still do, by what gives at least as much
  pub stand_on : (g : X → Option Y) → ((x : X) (y : Y) → f x ≡ Some y → g x ≡ Some y) → (xs : List X) (ys : List Y)
      → StandFor f xs ys → StandFor g xs ys
  stand_on g more [] [] h = h
  stand_on g more [] (y ∷ ys) h = absurd h
  stand_on g more (x ∷ xs) [] h = absurd h
  stand_on g more (x ∷ xs) (y ∷ ys) h = (more x y h.0, stand_on g more xs ys h.1)

  pub stand_push : (xs : List X) (ys : List Y) (x : X) (y : Y) → StandFor f xs ys → f x ≡ Some y
      → StandFor f (xs ++ x ∷ []) (ys ++ y ∷ [])
  stand_push [] [] x y h e = (e, tt)
  stand_push [] (b ∷ ys) x y h e = absurd h
  stand_push (a ∷ xs) [] x y h e = absurd h
  stand_push (a ∷ xs) (b ∷ ys) x y h e = (h.0, stand_push xs ys x y h.1 e)

  pub stand_get : (xs : List X) (ys : List Y) (k : ℕ) → StandFor f xs ys
      → option_and_then f (slice_get xs k) ≡ slice_get ys k
  stand_get [] [] k h = refl
  stand_get [] (y ∷ ys) k h = absurd h
  stand_get (x ∷ xs) [] k h = absurd h
  stand_get (x ∷ xs) (y ∷ ys) zero h = h.0
  stand_get (x ∷ xs) (y ∷ ys) (suc k) h = stand_get xs ys k h.1

  -- an element stands for something
  pub stand_some : (xs : List X) (ys : List Y) (k : ℕ) (x : X) → StandFor f xs ys → slice_get xs k ≡ Some x
      → IsSome (f x)
  stand_some [] ys k x h at = absurd (cc)
  stand_some (z ∷ xs) [] k x h at = absurd h
  stand_some (z ∷ xs) (y ∷ ys) zero x h at =
      let is : z ≡ x = cc in
      subst (λ q. IsSome (f q)) is (subst IsSome (sym h.0) refl)
  stand_some (z ∷ xs) (y ∷ ys) (suc k) x h at = stand_some xs ys k x h.1 at

  pub stand_length : (xs : List X) (ys : List Y) → StandFor f xs ys → length xs ≡ length ys
  stand_length [] [] h = refl
  stand_length [] (y ∷ ys) h = absurd h
  stand_length (x ∷ xs) [] h = absurd h
  stand_length (x ∷ xs) (y ∷ ys) h = ap suc (stand_length xs ys h.1)

-- what a list had it still has, once more was added
pub grown_get : {X : Type 0} (old new : List X) (k : ℕ) (x : X) → IsGrown old new → slice_get old k ≡ Some x
    → slice_get new k ≡ Some x
grown_get [] new k x g e = absurd (cc)
grown_get (y ∷ old) [] k x g e = absurd (cc)
grown_get (y ∷ old) (z ∷ new) zero x g e = cc
grown_get {X = X} (y ∷ old) (z ∷ new) (suc k) x g e = grown_get old new k x (tails g) e
  where
    tails : z ∷ take (length old) new ≡ y ∷ old → take (length old) new ≡ old
    tails h = cc

pub grown_push : {X : Type 0} (xs : List X) (x : X) → IsGrown xs (xs ++ x ∷ [])
grown_push [] x = refl
grown_push (y ∷ xs) x = ap (λ q. y ∷ q) (grown_push xs x)

pub grown_none : {X : Type 0} (xs : List X) → IsGrown xs xs
grown_none [] = refl
grown_none (y ∷ xs) = ap (λ q. y ∷ q) (grown_none xs)

-- the last of a list
pub push_get : {X : Type 0} (xs : List X) (x : X) → slice_get (xs ++ x ∷ []) (length xs) ≡ Some x
push_get [] x = refl
push_get (y ∷ xs) x = push_get xs x
