-- Which sites a command of a script names.
use Rattle.std.specs.Prelude.{◌<◌, ◌≤◌, ⊤, ℕ, All}
use Rattle.std.specs.Int.{IsInRange}
use Rattle.td_base.specs.Atom.{IsAtom}
use Rattle.td_marks.specs.declared.mark_op.TheConstants.{NAMES}
use Rattle.td_script.specs.declared.command.Command.{Command}
use Rattle.td_script.specs.declared.command.Command.TheVariants.{Sites, Ins, Paste, Del, Flat, FlatAuto, Cancel}
use Rattle.td_script.specs.declared.command.Command.TheVariants.{Give, GiveAll, Settle, Show, Tree, Count}
use Rattle.td_script.specs.declared.command.Command.TheVariants.{Mark, Meet, Marks}
use Rattle.td_script.specs.declared.kept.command.KeptCommand.{KeptCommand}
use Rattle.td_script.specs.declared.kept.command.KeptCommand.TheVariants as Kept
use Rattle.td_script.specs.declared.kept.script.TheConstants.{DISK_CALLS}

-- the sites that it names are of so many, what it pastes is atoms, and what it marks with a name
abbrev pub MayStand : ℕ → Command → Type 0
MayStand sites (Sites n) = ⊤
MayStand sites (Ins site index atoms) = site ≤ sites
MayStand sites (Paste site index atoms) = (site ≤ sites) × All IsAtom atoms
MayStand sites (Del site index count) = site ≤ sites
MayStand sites (Flat site place) = site ≤ sites
MayStand sites (FlatAuto site) = site ≤ sites
MayStand sites (Cancel site proposal) = site ≤ sites
MayStand sites (Give site number) = site ≤ sites
MayStand sites (GiveAll site) = site ≤ sites
MayStand sites Settle = ⊤
MayStand sites (Show site) = site ≤ sites
MayStand sites (Tree site) = site ≤ sites
MayStand sites (Count site) = site ≤ sites
MayStand sites (Mark site add name index count) = (site ≤ sites) × (name < NAMES)
MayStand sites (Meet site other) = (site ≤ sites) × (other ≤ sites)
MayStand sites (Marks site) = site ≤ sites

-- the same of a command of a kept script, and a crash has one of the disk calls fail
abbrev pub MayStandKept : ℕ → KeptCommand → Type 0
MayStandKept sites (Kept.Sites n) = ⊤
MayStandKept sites (Kept.Ins site index atoms) = site ≤ sites
MayStandKept sites (Kept.Del site index count) = site ≤ sites
MayStandKept sites (Kept.Flat site place) = site ≤ sites
MayStandKept sites (Kept.Cancel site proposal) = site ≤ sites
MayStandKept sites (Kept.Give site number) = site ≤ sites
MayStandKept sites (Kept.Show site) = site ≤ sites
MayStandKept sites (Kept.Crash site k choice index atom) = (site ≤ sites) × IsInRange 1 DISK_CALLS k
