-- What waits, in the order of dots.
use Rattle.std.proofs.Common.{List, [], ◌∷◌, Bool, true, false, if◌then◌else◌, inl, inr}
use Rattle.td_base.specs.Order.{dot_lt}
use Rattle.td_base.specs.Lists.{In}
use Rattle.td_op.specs.Op.{OpValue}
use Rattle.td_machine.specs.Ready.{put_waiting}

-- one more, and those that waited
pub In-put_waiting : (x : OpValue) (waiting : List OpValue) (y : OpValue) → In y (put_waiting x waiting)
    → In y (x ∷ waiting)
In-put_waiting x [] y i = i
In-put_waiting x (z ∷ waiting) y i = at (dot_lt z.dot x.dot) i (In-put_waiting x waiting y)
  where
    at : (b : Bool) → In y (if b then z ∷ put_waiting x waiting else x ∷ z ∷ waiting)
        → (In y (put_waiting x waiting) → In y (x ∷ waiting)) → In y (x ∷ z ∷ waiting)
    at true (inl e) ih = inr (inl e)
    at true (inr j) ih = later (ih j)
      where
        later : In y (x ∷ waiting) → In y (x ∷ z ∷ waiting)
        later (inl e) = inl e
        later (inr k) = inr (inr k)
    at false j ih = j
