-- The examples meet the conditions that they are said to meet.
use Rattle.std.proofs.Common.{refl}
use Rattle.td_base.specs.Lists.{IsSublist, done, kept, left_out}
use Rattle.td_order.specs.Causal.{HasEpochs, IsPart, IsWellRooted}
use Rattle.td_order.specs.Example.{history, known_to_second, p_typed, d_put, known_to_third, without_epochs}
use Rattle.td_order.proofs.Conditions.{differ_from, well_rooted_from, epochs_from, part_from}

pub example_rooted : IsWellRooted history
example_rooted = well_rooted_from history refl

pub example_epochs : HasEpochs history
example_epochs = epochs_from history refl

without_p : IsSublist known_to_second history
without_p = kept _ (kept _ (kept _ (kept _ (kept _ (left_out p_typed (kept _ done))))))

pub example_part : IsPart known_to_second history
example_part = part_from known_to_second history (differ_from history refl) without_p refl refl

pub others_rooted : IsWellRooted without_epochs
others_rooted = well_rooted_from without_epochs refl

others_kept : IsSublist known_to_third without_epochs
others_kept = kept _ (left_out d_put (kept _ done))

pub others_part : IsPart known_to_third without_epochs
others_part = part_from known_to_third without_epochs (differ_from without_epochs refl) others_kept refl refl

pub ruleset others = (others_rooted, others_part)

pub ruleset example = (example_rooted, example_epochs, example_part)
