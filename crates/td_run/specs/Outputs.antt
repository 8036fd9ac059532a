-- What is promised of the bytes that a script prints, and of the summary of a generated one.
use Rattle.std.specs.Prelude.{◌≡◌, ◌<◌, ℕ, List, [], ◌∷◌, Option, length}
use Rattle.std.specs.Io.KnownBytes.{Appends}
use Rattle.td_doc.specs.Document.{live_atoms}
use Rattle.td_machine.specs.Machine.{Machine}
use Rattle.td_order.specs.Show.{shown_atoms}
use Rattle.td_gen.specs.Generator.{generated}
use Rattle.td_report.specs.Numbers.{summary_of}
use Rattle.td_script.specs.declared.script.Script.{Script}
use Rattle.td_world.specs.World.{WorldValue, machine_of}
use Rattle.td_world.specs.Promises.{IsPromised}
use Rattle.td_run.specs.Printing.{Printed, PrintsScript, behind, own_text, taken_text}

-- a script was played to its end
pub record IsPlayedBy (script : Script) (p : Printed) : Type 0 where
  -- where `show` prints the text of the document that a site has
  pub own : PrintsScript own_text script p
  -- and the same is printed where `show` prints the atoms inserted and not deleted by the operations that the site has
  -- taken, in the one order that the insertions alone fix
  pub taken : PrintsScript taken_text script p
  -- and of all that happened the six promises hold (a script without a command has no site)
  pub promises : 0 < script.sites → IsPromised p.world

-- the bytes are what a script prints
pub record IsOutputOf (script : Script) (bytes : List ℕ) : Type 0 where
  pub end : Printed
  pub played : IsPlayedBy script end
  pub text : bytes ≡ end.text

-- a script was played to its end, where this world is, and what it prints was put
pub record IsPlayedAndPut (before after : Option (List ℕ)) (script : Script) (world : WorldValue) : Type 0 where
  pub end : Printed
  pub played : IsPlayedBy script end
  pub world_is : world ≡ end.world
  pub put : Appends before after end.text

-- a front of what was printed was put, and the rest is there still
abbrev pub PutsOut : Option (List ℕ) → Option (List ℕ) → Printed → Printed → Type 0
PutsOut before after old new = (front : List ℕ) × Appends before after front × (old ≡ behind front new)

-- the machines of the three sites of a generated script
abbrev pub machines : WorldValue → List Machine
machines w = machine_of w 1 ∷ machine_of w 2 ∷ machine_of w 3 ∷ []

-- the summary of a generated script at its end, with these atoms
abbrev pub summary : ℕ → ℕ → WorldValue → List (List ℕ) → List ℕ
summary size number w atoms = summary_of size number (length (generated size number).commands) (machines w) atoms

-- the bytes are the summary of the generated script
pub record IsSummary (size number : ℕ) (bytes : List ℕ) : Type 0 where
  pub end : Printed
  pub played : IsPlayedBy (generated size number) end
  -- its atoms are those that the document of site 1 shows
  pub own : bytes ≡ summary size number end.world (live_atoms (machine_of end.world 1).doc)
  -- and those that the operations show that site 1 has taken
  pub taken : bytes ≡ summary size number end.world (shown_atoms (machine_of end.world 1).log)
