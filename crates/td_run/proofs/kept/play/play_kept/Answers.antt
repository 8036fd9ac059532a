use Rattle.std.proofs.Common.{arith, [], ◌≡◌, ◌<◌, ◌≤◌, ℕ, List, length, ap, get_or, sym, subst, ◌∙◌}
use Rattle.std.proofs.lemmas.List.Elements.{All-get_or}
use Rattle.td_script.specs.declared.kept.command.KeptCommand.{KeptCommand}
use Rattle.td_world.specs.World.{new_world, size}
use Rattle.td_world.proofs.Replicas.{new_length}
use Rattle.td_run.specs.KeptPrinting.{kept_effects}
use Rattle.td_run.specs.Printing.{Printed, own_text, taken_text}
use Rattle.td_run.specs.Sites.{MayStandKept}
use Rattle.td_run.proofs.KeptPlayed.{IsUnderWay, behind_text, kept_commands_stand, one_command_more, output_then}
use Rattle.td_run.proofs.KeptSizes.{size_kept}
use Rattle.td_run.proofs.kept.play.play_kept.Goals as goal

pub loop-command-init : goal.loop-command-init
loop-command-init g c =
    let n : ℕ = c.args.script.now.sites in
    let start = sym c.in_ok-player.ensures in
    let commands : List KeptCommand = c.args.script.now.commands in
    record {
      same = ap (λ (p : Printed). size p.world) c.in_ok-player.ensures ∙ new_length n n 1;
      own = λ i. behind_text (start i).text (kept_effects own_text commands (start i).world);
      taken = λ i. behind_text (start i).text (kept_effects taken_text commands (start i).world);
    }

pub perform-requires : goal.perform-requires
perform-requires g c =
    let n : ℕ = c.args.script.now.sites in
    let commands : List KeptCommand = c.args.script.now.commands in
    let k : ℕ = c.loop-command.command-index in
    let command : KeptCommand = c.command-item.result in
    let items = c.as_slice-command-items in
    let less : k < length commands =
    subst (λ (all : List KeptCommand). k < length all) items.ensures c.loop-command-test.true in
    let is : command ≡ get_or commands k command =
    subst (λ (all : List KeptCommand). command ≡ get_or all k command) items.ensures c.command-item.is in
    let stands : MayStandKept n (get_or commands k command) =
    All-get_or (MayStandKept n) commands k command less (kept_commands_stand n commands c.requires) in
    subst (λ (m : ℕ). MayStandKept m command) (sym c.loop-command.invariant.same)
    (subst (MayStandKept n) (sym is) stands)

pub loop-command-preserved : goal.loop-command-preserved
loop-command-preserved g c =
    let n : ℕ = c.args.script.now.sites in
    let commands : List KeptCommand = c.args.script.now.commands in
    let k : ℕ = c.loop-command.command-index in
    let held : Printed = c.loop-command.player in
    let command : KeptCommand = c.command-item.result in
    let items = c.as_slice-command-items in
    let less : k < length commands =
    subst (λ (all : List KeptCommand). k < length all) items.ensures c.loop-command-test.true in
    let is : command ≡ get_or commands k command =
    subst (λ (all : List KeptCommand). command ≡ get_or all k command) items.ensures c.command-item.is in
    record {
      same = ap (λ (p : Printed). size p.world) c.in_ok-perform.ensures.own
          ∙ size_kept own_text command held.world ∙ c.loop-command.invariant.same;
      own = one_command_more own_text commands (new_world n) k command held c.perform.new.player
          less is c.in_ok-perform.ensures.own c.loop-command.invariant.own;
      taken = one_command_more taken_text commands (new_world n) k command held c.perform.new.player
          less is c.in_ok-perform.ensures.taken c.loop-command.invariant.taken;
    }

pub returns : goal.returns
returns g c =
    let n : ℕ = c.args.script.now.sites in
    let commands : List KeptCommand = c.args.script.now.commands in
    let k : ℕ = c.loop-command.command-index in
    let before = c.loop-command.invariant in
    let view : c.loop-command.player ≡ record {
      world = c.player-2.inside.world.world;
      marks = [];
      text = c.player-2.inside.text;
    } = sym c.player-2.view_is in
    let past : length commands ≤ k =
    subst (λ (all : List KeptCommand). length all ≤ k) c.as_slice-command-items.ensures
    (omega (arith, c.loop-command-test.false)) in
    output_then c.args.script.now k
    (record { world = c.player-2.inside.world.world; marks = []; text = c.player-2.inside.text }) past
    (subst (λ (p : Printed). IsUnderWay own_text commands (new_world n) k p) view before.own)
    (subst (λ (p : Printed). IsUnderWay taken_text commands (new_world n) k p) view before.taken)
    (c.is_spent.ensures.world (sym c.is_spent.ensures.spent ∙ c.if-is_spent.false))
