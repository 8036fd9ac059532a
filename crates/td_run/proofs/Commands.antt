-- The commands of a script, and of a generated one, may stand in it.
use Rattle.std.proofs.Common.{◌≡◌, ◌≤◌, ℕ, List, [], ◌∷◌, refl, subst, sym, arith}
use Rattle.std.specs.Prelude.{All}
use Rattle.std.proofs.lemmas.List.Elements.{All-weaker, All-cons, All-nil}
use Rattle.td_base.specs.declared.site.TheConstants.{MAX_SITE}
use Rattle.td_gen.specs.Commands.{IsGenerated}
use Rattle.td_gen.specs.Generator.{generated}
use Rattle.td_gen.proofs.Commands.{generated_are}
use Rattle.td_script.specs.Script.{AreCommands, IsCommand}
use Rattle.td_script.specs.declared.command.Command.{Command}
use Rattle.td_script.specs.declared.command.Command.TheVariants.{Sites, Ins, Paste, Del, Flat, FlatAuto, Cancel}
use Rattle.td_script.specs.declared.command.Command.TheVariants.{Give, GiveAll, Settle, Show, Tree, Count}
use Rattle.td_script.specs.declared.command.Command.TheVariants.{Mark, Meet, Marks}
use Rattle.td_script.specs.declared.command.Place.TheVariants.{Root, Beside}
use Rattle.td_run.specs.Sites.{MayStand}

-- ---- of a script

stands : (sites : ℕ) (command : Command) → IsCommand sites command → MayStand sites command
stands sites (Sites n) is = tt
stands sites (Ins site index atoms) is = is.0.1
stands sites (Paste site index atoms) is = (is.0.1, is.2.each)
stands sites (Del site index count) is = is.0.1
stands sites (Flat site Root) is = is.1
stands sites (Flat site (Beside index bit)) is = is.0.1
stands sites (FlatAuto site) is = is.1
stands sites (Cancel site proposal) is = is.0.1
stands sites (Give site number) is = is.0.1
stands sites (GiveAll site) is = is.1
stands sites Settle is = tt
stands sites (Show site) is = is.1
stands sites (Tree site) is = is.1
stands sites (Count site) is = is.1
stands sites (Mark site add name index count) is = (is.0.1, is.1)
stands sites (Meet site other) is = (is.0.1, is.1.1)
stands sites (Marks site) is = is.1

pub commands_stand : (sites : ℕ) (commands : List Command) → AreCommands sites commands → All (MayStand sites) commands
commands_stand sites [] are = All-nil (MayStand sites)
commands_stand sites (first ∷ others) are =
    All-cons (MayStand sites) first others (subst (MayStand sites) (sym are.0) tt)
    (All-weaker (IsCommand sites) (MayStand sites) (stands sites) others are.2)

-- a script with sites has no more than there may be
pub few_sites : (sites : ℕ) (commands : List Command) → AreCommands sites commands → sites ≤ MAX_SITE
few_sites sites [] are = omega (arith, are)
few_sites sites (first ∷ others) are = are.1.1

-- and one without has no commands
pub no_command : (sites : ℕ) (commands : List Command) → AreCommands sites commands → sites ≡ 0 → commands ≡ []
no_command sites [] are none = refl
no_command sites (first ∷ others) are none = absurd (omega (arith, are.1.0, none))

-- ---- of a generated one

stands_there : (command : Command) → IsGenerated command → MayStand 3 command
stands_there (Sites n) is = tt
stands_there (Ins site index atoms) is = is
stands_there (Paste site index atoms) is = absurd is
stands_there (Del site index count) is = is
stands_there (Flat site Root) is = is
stands_there (Flat site (Beside index bit)) is = absurd is
stands_there (FlatAuto site) is = absurd is
stands_there (Cancel site proposal) is = absurd is
stands_there (Give site number) is = absurd is
stands_there (GiveAll site) is = absurd is
stands_there Settle is = tt
stands_there (Show site) is = absurd is
stands_there (Tree site) is = absurd is
stands_there (Count site) is = absurd is
stands_there (Mark site add name index count) is = absurd is
stands_there (Meet site other) is = absurd is
stands_there (Marks site) is = absurd is

pub generated_stand : (size number : ℕ) → All (MayStand 3) (generated size number).commands
generated_stand size number =
    All-weaker IsGenerated (MayStand 3) stands_there (generated size number).commands (generated_are size number)
