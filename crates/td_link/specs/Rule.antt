-- The rule of a link: of what its queue holds, and of what each pass knows.
use Rattle.std.specs.Prelude.{◌≡◌, ◌≢◌, ℕ, Bool, true, List, [], ◌++◌, Option, Some, None, All}
use mathlib.Core.Option.{some}
use lib.ListN.{get_elem?}
use Rattle.td_link.specs.declared.log.Log.{Log}

module _ {T M : Type 0} where
  abbrev pub log : Bool → Bool → Option M → List T → List T → Log T M
  log pushes pops mark sent taken =
      record { pushes = pushes; pops = pops; mark = mark; sent = sent; taken = taken }

  -- what the pass of this number knows, where these numbers are those of the two ends: one that may push knows what
  -- was sent, one that may pop what was taken, and both the mark
  abbrev pub Knows : ℕ → ℕ → Option M → List T → List T → ℕ → Log T M → Type 0
  Knows sender taker mark sent taken port v =
      (v.pushes ≡ true → (port ≡ sender) × (v.mark ≡ mark) × (v.sent ≡ sent))
      × (v.pops ≡ true → (port ≡ taker) × (v.mark ≡ mark) × (v.taken ≡ taken))

  -- each item in the queue fits the mark, and nothing is sent before there is a mark
  abbrev pub AllFit : (M → T → Type 0) → Option M → List T → List T → Type 0
  AllFit fits mark sent items = ((m : M) → mark ≡ Some m → All (fits m) items) × (mark ≡ None → sent ≡ [])

  -- one pass may push and one may pop, both know what they did and the mark, and what was taken, and then what the
  -- queue holds, is what was sent
  pub record Linked (fits : M → T → Type 0) (items : List T) (views : List (Log T M)) : Type 0 where
    -- the numbers of the two passes
    pub sender : ℕ
    pub taker : ℕ
    pub mark : Option M
    pub sent : List T
    pub taken : List T
    pub whole : sent ≡ taken ++ items
    pub fit : AllFit fits mark sent items
    pub known : (port : ℕ) (v : Log T M) → get_elem? views port ≡ some v → Knows sender taker mark sent taken port v

  -- what the pass of a sender knows, and of a taker
  abbrev pub IsTxPass : Log T M → Type 0
  IsTxPass v = (v.pushes ≡ true) × (v.mark ≢ None)

  abbrev pub IsRxPass : Log T M → Type 0
  IsRxPass v = (v.pops ≡ true) × (v.mark ≢ None)
