-- The commands of a kept script: they may stand in it, and are played one after another.
use Rattle.std.proofs.Common.{◌≡◌, ◌<◌, ◌≤◌, ◌+◌, ◌++◌, ◌∷◌, [], ℕ, List, length, drop, get_or, ap, sym, subst, ◌∙◌}
use Rattle.std.specs.Prelude.{All}
use Rattle.std.proofs.lemmas.List.{append-nil, append_assoc, drop_all, drop_more}
use Rattle.std.proofs.lemmas.List.Elements.{All-weaker, All-cons, All-nil}
use Rattle.td_script.specs.KeptScript.{AreKeptCommands, IsKeptCommand}
use Rattle.td_script.specs.declared.kept.command.KeptCommand.{KeptCommand}
use Rattle.td_script.specs.declared.kept.command.KeptCommand.TheVariants.{Sites, Ins, Del, Flat, Cancel, Give, Show}
use Rattle.td_script.specs.declared.kept.command.KeptCommand.TheVariants.{Crash}
use Rattle.td_script.specs.declared.kept.script.KeptScript.{KeptScript}
use Rattle.td_world.specs.Promises.{IsPromised}
use Rattle.td_world.specs.World.{WorldValue, IsWorld, new_world}
use Rattle.td_world.proofs.Promised.{promised}
use Rattle.td_run.specs.KeptPrinting.{kept_effect, kept_effects, IsKeptOutputOf}
use Rattle.td_run.specs.Printing.{Effect, Printed, Shown, and_then, in_turn, own_text, taken_text}
use Rattle.td_run.specs.Sites.{MayStandKept}

stands : (sites : ℕ) (command : KeptCommand) → IsKeptCommand sites command → MayStandKept sites command
stands sites (Sites n) is = tt
stands sites (Ins site index atoms) is = is.0.1
stands sites (Del site index count) is = is.0.1
stands sites (Flat site place) is = is.0.1
stands sites (Cancel site proposal) is = is.0.1
stands sites (Give site number) is = is.0.1
stands sites (Show site) is = is.1
stands sites (Crash site k choice index atom) is = (is.0.1, is.1)

pub kept_commands_stand : (sites : ℕ) (commands : List KeptCommand) → AreKeptCommands sites commands
    → All (MayStandKept sites) commands
kept_commands_stand sites [] are = All-nil (MayStandKept sites)
kept_commands_stand sites (first ∷ others) are =
    All-cons (MayStandKept sites) first others (subst (MayStandKept sites) (sym are.0) tt)
    (All-weaker (IsKeptCommand sites) (MayStandKept sites) (stands sites) others are.2)

-- an effect, behind what was printed before it
abbrev pub behind_text : List ℕ → Effect → Effect
behind_text text e = record { world = e.world; text = text ++ e.text }

-- what comes of all commands, by what was had after so many
abbrev pub IsUnderWay : Shown → List KeptCommand → WorldValue → ℕ → Printed → Type 0
IsUnderWay shown commands w k p =
    kept_effects shown commands w ≡ behind_text p.text (kept_effects shown (drop k commands) p.world)

-- one effect behind another
behind_twice : (text : List ℕ) (first rest : Effect) → behind_text text (in_turn first rest)
    ≡ behind_text (text ++ first.text) rest
behind_twice text first rest =
    λ i. record { world = rest.world; text = sym (append_assoc text first.text rest.text) i }

-- one command more was done
pub one_command_more : (shown : Shown) (commands : List KeptCommand) (w : WorldValue) (k : ℕ) (command : KeptCommand)
    (p q : Printed) → k < length commands → command ≡ get_or commands k command
    → q ≡ and_then p (kept_effect shown command p.world) → IsUnderWay shown commands w k p
    → IsUnderWay shown commands w (k + 1) q
one_command_more shown commands w k command p q less is done before =
    let first : drop k commands ≡ command ∷ drop (k + 1) commands =
    drop_more commands k command less ∙ ap (λ (c : KeptCommand). c ∷ drop (k + 1) commands) (sym is) in
    let effect : Effect = kept_effect shown command p.world in
    before ∙ ap (λ (left : List KeptCommand). behind_text p.text (kept_effects shown left p.world)) first
    ∙ behind_twice p.text effect (kept_effects shown (drop (k + 1) commands) effect.world)
    ∙ (λ i. behind_text (sym done i).text (kept_effects shown (drop (k + 1) commands) (sym done i).world))

-- all commands were done
all_done : (shown : Shown) (commands : List KeptCommand) (w : WorldValue) (k : ℕ) (p : Printed)
    → length commands ≤ k → IsUnderWay shown commands w k p
    → kept_effects shown commands w ≡ record { world = p.world; text = p.text }
all_done shown commands w k p past before =
    before ∙ ap (λ (left : List KeptCommand). behind_text p.text (kept_effects shown left p.world))
    (drop_all k commands past) ∙ (λ i. record { world = p.world; text = append-nil p.text i })

-- what was printed then is the output, where the world is one
pub output_then : (script : KeptScript) (k : ℕ) (p : Printed) → length script.commands ≤ k
    → IsUnderWay own_text script.commands (new_world script.sites) k p
    → IsUnderWay taken_text script.commands (new_world script.sites) k p
    → IsWorld p.world → IsKeptOutputOf script p.text
output_then script k p past own taken is_world =
    let w : WorldValue = new_world script.sites in
    let owned = all_done own_text script.commands w k p past own in
    let took = all_done taken_text script.commands w k p past taken in
    record {
      own = ap (λ (e : Effect). e.text) (sym owned);
      taken = ap (λ (e : Effect). e.text) (sym took);
      promises = λ some. subst (λ (e : Effect). IsPromised e.world) (sym owned) (promised p.world is_world);
    }
