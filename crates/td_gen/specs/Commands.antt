-- Which commands a generated script has.
use Rattle.std.specs.Prelude.{◌≤◌, ⊤}
use Rattle.td_script.specs.declared.command.Command.{Command}
use Rattle.td_script.specs.declared.command.Command.TheVariants.{Sites, Ins, Del, Flat, Settle}
use Rattle.td_script.specs.declared.command.Place.TheVariants.{Root}
use Rattle.td_gen.specs.declared.generator.TheConstants.{SITES}

-- edits and flattens of the whole text at its sites, and settles
abbrev pub IsGenerated : Command → Type 0
IsGenerated (Sites n) = ⊤
IsGenerated (Ins site index atoms) = site ≤ SITES
IsGenerated (Del site index count) = site ≤ SITES
IsGenerated (Flat site Root) = site ≤ SITES
IsGenerated Settle = ⊤
IsGenerated other = ⊥
