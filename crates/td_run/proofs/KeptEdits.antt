-- Edits of a kept script, one after another.
use Rattle.std.proofs.Common.{◌≡◌, ◌<◌, ◌+◌, ◌-◌, ◌∷◌, ℕ, suc, Option, None}
use Rattle.std.proofs.Common.{ap, ◌∙◌, arith}
use Rattle.td_op.specs.declared.request.Request.TheVariants.{Delete}
use Rattle.td_world.specs.World.{WorldValue}
use Rattle.td_run.specs.declared.kept.outcome.Refusal.{Refusal}
use Rattle.td_report.specs.Asking.{deletes}
use Rattle.td_run.specs.KeptAsking.{KeptAsked, ask_kept, asked_once, done_before_kept, goes_on_kept}

-- edits that were done before others
pub kept_done_twice : (k n : ℕ) (a : KeptAsked)
    → done_before_kept k (done_before_kept n a) ≡ done_before_kept (k + n) a
kept_done_twice k n a =
    let same : k + (n + a.done) ≡ k + n + a.done = omega arith in
    λ i. record { world = a.world; done = same i; refusal = a.refusal }

-- the next of the deletes that are left
pub next_kept_delete : (site index count done : ℕ) (w : WorldValue) → done < count
    → ask_kept site (deletes index (count - done)) w
    ≡ goes_on_kept (asked_once site (Delete index) w).refusal (asked_once site (Delete index) w).world 1
    (ask_kept site (deletes index (count - (done + 1))) (asked_once site (Delete index) w).world)
next_kept_delete site index count done w less =
    let more : count - done ≡ suc (count - (done + 1)) = omega arith in
    ap (λ (k : ℕ). ask_kept site (deletes index k) w) more

-- an edit that is done, and the others behind it
pub once_more : (done atoms : ℕ) (others : KeptAsked) (refusal : Option Refusal) (w : WorldValue) → refusal ≡ None
    → done_before_kept done (goes_on_kept refusal w atoms others) ≡ done_before_kept (done + atoms) others
once_more done atoms others refusal w none =
    ap (λ (r : Option Refusal). done_before_kept done (goes_on_kept r w atoms others)) none
    ∙ kept_done_twice done atoms others
