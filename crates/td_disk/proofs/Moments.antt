-- How a run of calls of a disk goes on.
use Rattle.std.proofs.Common.{inl, inr, ⊎_elim, ℕ, List, arith}
use Rattle.std.specs.Prelude.{Result, Ok, Err, OnErr}
use Rattle.td_disk.specs.declared.disk.Disk as disk
use Rattle.td_disk.specs.Device.{Elapses}
use Rattle.td_disk.specs.Moments.{LeavesOnly}

module _ {D : Type 0} (w : disk.Ghosts D) where
  -- before the first call
  pub started : (old : D) (P : List ℕ → Type 0) → ((c : List ℕ) → w.left_since old (w.clock old) c → P c)
      → LeavesOnly w old old P
  started old P here = record { later = omega arith; each = here; before = λ t c le left. inl left }

  -- one call more, after which a crash leaves what has P
  pub goes_on : (old mid new : D) (P leaves : List ℕ → Type 0) → LeavesOnly w old mid P
      → Elapses (w.clock mid) (w.clock new) (w.left_since mid) (w.left_since new) leaves
      → ((c : List ℕ) → leaves c → P c) → LeavesOnly w old new P
  goes_on old mid new P leaves so_far time here = record {
    later = omega (arith, so_far.later, time.later);
    each = λ c left. ⊎_elim (so_far.each c) (here c) (time.nothing_else (w.clock old) c so_far.later left);
    before = λ t c le left. ⊎_elim (so_far.before t c le) (λ now. inr (here c now))
        (time.nothing_else t c (omega (arith, le, so_far.later)) left);
  }

  -- what has P has Q
  pub weakened : (old new : D) (P Q : List ℕ → Type 0) → LeavesOnly w old new P → ((c : List ℕ) → P c → Q c)
      → LeavesOnly w old new Q
  weakened old new P Q only is = record {
    later = only.later;
    each = λ c left. is c (only.each c left);
    before = λ t c le left. ⊎_elim (λ was. inl was) (λ p. inr (is c p)) (only.before t c le left);
  }

  -- one run of calls behind another
  pub joined : (old mid new : D) (P : List ℕ → Type 0) → LeavesOnly w old mid P → LeavesOnly w mid new P
      → LeavesOnly w old new P
  joined old mid new P first second = record {
    later = omega (arith, first.later, second.later);
    each = λ c left. ⊎_elim (first.each c) (λ p. p) (second.before (w.clock old) c first.later left);
    before = λ t c le left. ⊎_elim (first.before t c le) (λ p. inr p)
        (second.before t c (omega (arith, le, first.later)) left);
  }

-- what holds anyway
pub at_err : {T E : Type 0} (r : Result T E) (P : Type 0) → P → OnErr r P
at_err (Ok x) P p = tt
at_err (Err x) P p = p
