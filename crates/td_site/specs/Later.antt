-- A site that goes on.
use Rattle.std.specs.Prelude.{◌≡◌, ◌++◌, ◌⊎◌, true, false}
use Rattle.std.specs.List.{AllByRecursion}
use mathlib.Core.List.{IsPrefix}
use Rattle.td_op.specs.declared.entry.Entry.{Entry}
use Rattle.td_op.specs.declared.input.Input.TheVariants.{Next}
use Rattle.td_machine.specs.History.{History}
use Rattle.td_machine.specs.Machine.{Machine}
use Rattle.td_replica.specs.Replica.{is_idle, has_ready}
use Rattle.td_site.specs.Sites.{SiteValue}

-- the same site, later
pub record LaterSite (s t : SiteValue) : Type 0 where
  pub entries : IsPrefix s.replica.entries t.replica.entries
  pub sent : IsPrefix s.replica.machine.sent t.replica.machine.sent
  pub site : t.replica.machine.site ≡ s.replica.machine.site
  pub size : t.replica.machine.size ≡ s.replica.machine.size
  pub views : t.writer.views ≡ s.writer.views
  pub publishes : IsPrefix s.writer.publishes t.writer.publishes

-- an operation that waited was taken or dropped
abbrev pub TookNext : Entry → Type 0
TookNext e = (e.input ≡ Next) × (is_idle e.reply ≡ false)

-- the history goes on by such entries alone
pub record OnlyNexts (old new : History) : Type 0 where
  pub more : History
  pub goes_on : old ++ more ≡ new
  pub nexts : AllByRecursion TookNext more

-- no operation that waits can be taken
abbrev pub NothingReady : Machine → Type 0
NothingReady m = has_ready m ≡ false

-- something is left to do: the last step is not shown, or an operation that waits can be taken
abbrev pub HasWorkLeft : SiteValue → Type 0
HasWorkLeft s = (s.late ≡ true) ⊎ (has_ready s.replica.machine ≡ true)
