-- What was so at a moment of a call. A queue leaves no trace of a look that found it empty or full, so these two words
-- are abstract: `try_take` and `try_send` give them, by the two lemmas below, which are for their proofs alone, and a
-- crate above passes them on.
use Rattle.std.specs.Prelude.{◌≡◌, ℕ, List, ◌++◌}
use Rattle.crossbeam_queue.specs.Fifo.{Held}

module _ {T : Type 0} where
  -- when these items had been taken, the queue was empty at a moment
  pub WasEmpty : List T → Type 0
  WasEmpty taken = Held 0 (λ items. (sent : List T) × (sent ≡ taken ++ items))

  -- when these items had been sent, the queue held `cap` items at a moment
  pub WasFull : ℕ → List T → Type 0
  WasFull cap sent = Held cap (λ items. (taken : List T) × (sent ≡ taken ++ items))

  -- from what the queue tells of a look that found it empty
  pub was_empty : (taken : List T) → Held 0 (λ items. (sent : List T) × (sent ≡ taken ++ items)) → WasEmpty taken
  unfolding WasEmpty
  was_empty taken held = held

  -- and of one that found it full
  pub was_full : (cap : ℕ) (sent : List T) → Held cap (λ items. (taken : List T) × (sent ≡ taken ++ items))
      → WasFull cap sent
  unfolding WasFull
  was_full cap sent held = held
