-- What becomes of an operation that is offered.
use Rattle.std.specs.Prelude.{ℕ, List, Bool, ◌||◌, if◌then◌else◌}
use Rattle.td_base.specs.Value.{DotValue}
use Rattle.td_op.specs.Op.{OpValue}
use Rattle.td_machine.specs.Ready.{is_had, is_ready}
use Rattle.td_causal.specs.declared.offer.Offer.{Offer}
use Rattle.td_causal.specs.declared.offer.Offer.TheVariants.{Repeat, Later, Ready}
use Rattle.td_causal.specs.Waiting.{Numbers, put_in_order}

-- the answer, at a site that has these; it may wait there already
abbrev pub offer_answer : List ℕ → OpValue → Bool → Offer
offer_answer have x waits = if is_had have x || waits then Repeat else if is_ready have x then Ready else Later

-- what waits after it
abbrev pub kept_after : Offer → DotValue × ℕ → Numbers → Numbers
kept_after Repeat w waiting = waiting
kept_after Later w waiting = put_in_order w waiting
kept_after Ready w waiting = waiting
