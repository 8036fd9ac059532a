-- What the program does for a site on a disk: its words, and how it runs.
use Rattle.std.specs.Prelude.{◌≡◌, ◌≤◌, ◌⊎◌, ℕ, List}
use Rattle.std.specs.Fmt.{decimal}
use Rattle.td_base.specs.declared.site.TheConstants.{MAX_SITE}
use Rattle.td_disk.specs.declared.disk.Disk as disk
use Rattle.td_disk.specs.Gated.{disk_of}
use Rattle.td_doc.specs.declared.doc.Doc as doc
use Rattle.td_io.specs.declared.source.Source as source
use Rattle.td_io.specs.declared.sink.Sink as sink
use Rattle.td_journal.specs.declared.fault.OpenFault.{OpenFault}
use Rattle.td_journal.specs.declared.fault.OpenFault.TheVariants as Why
use Rattle.td_journal.specs.declared.kept.Kept.{Kept}
use Rattle.td_journal.specs.Seen.{journal_of}
use Rattle.td_shell.specs.declared.status.Status.{Status}
use Rattle.td_shell.specs.declared.status.Status.TheVariants.{Memory, Bad, Disk}
use Rattle.td_shell.specs.Opening.{IsOpenedOn, IsOpenRefused}
use Rattle.td_shell.specs.Talk.{IsTalk}

-- a site among so many
pub record IsMember (site n : ℕ) : Type 0 where
  pub some : 1 ≤ site
  pub within : site ≤ n
  pub few : n ≤ MAX_SITE

-- the words spell that
pub record AreWordsOf (site_word sites_word : List ℕ) (site n : ℕ) : Type 0 where
  pub site_is : site_word ≡ decimal site
  pub sites_is : sites_word ≡ decimal n

abbrev pub status_of_refused : OpenFault → Status
status_of_refused (Why.Bad at) = Bad at
status_of_refused Why.Disk = Disk
status_of_refused Why.Memory = Memory

-- a journal was begun or opened, and a shell talked there
pub record HasTalked {D K S W : Type 0} (d : doc.Ghosts D) (w : disk.Ghosts K) (s : source.Ghosts S)
    (k : sink.Ghosts W) (site n : ℕ) (before after : K) (src src' : S) (dst dst' : W) (status : Status) : Type 0 where
  pub old : Kept D K d w
  pub new : Kept D K d w
  pub opened : IsOpenedOn w site n before old
  pub talk : IsTalk s k old new src src' dst dst' status
  pub disk_is : after ≡ disk_of (journal_of new)

-- none was, and nothing was read or put
pub record HasRefused {K S W : Type 0} (w : disk.Ghosts K) (site n : ℕ) (before after : K) (src src' : S)
    (dst dst' : W) (status : Status) : Type 0 where
  pub why : OpenFault
  pub refused : IsOpenRefused w site n before after why
  pub status_is : status ≡ status_of_refused why
  pub unread : src' ≡ src
  pub unput : dst' ≡ dst

abbrev pub IsShellRun : {D K S W : Type 0} → doc.Ghosts D → disk.Ghosts K → source.Ghosts S → sink.Ghosts W
    → (site n : ℕ) → (before after : K) → (src src' : S) → (dst dst' : W) → Status → Type 0
IsShellRun d w s k site n before after src src' dst dst' status =
    HasTalked d w s k site n before after src src' dst dst' status
    ⊎ HasRefused w site n before after src src' dst dst' status
