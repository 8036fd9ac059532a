-- What the program does with its words.
use Rattle.std.specs.Prelude.{◌≡◌, ◌⊎◌, ℕ, List, [], ◌∷◌, IsUtf8}
use Rattle.td_disk.specs.declared.disk.Disk as disk
use Rattle.td_disk.specs.Moments.{IsSynced}
use Rattle.td_doc.specs.declared.doc.Doc as doc
use Rattle.td_io.specs.declared.source.Source as source
use Rattle.td_io.specs.declared.sink.Sink as sink
use Rattle.td_shell.specs.declared.status.Status.{Status}
use Rattle.td_shell.specs.declared.status.Status.TheVariants.{Disk, Usage}
use Rattle.td_shell.specs.Running.{AreWordsOf, IsMember, IsShellRun}

-- a file, whose name is a text, and a site among so many
pub record AreWords (file site_word sites_word : List ℕ) (site n : ℕ) : Type 0 where
  pub text : IsUtf8 file
  pub member : IsMember site n
  pub words : AreWordsOf site_word sites_word site n

-- behind the name of the program
abbrev pub AreArguments : List (List ℕ) → ℕ → ℕ → Type 0
AreArguments (name ∷ file ∷ site_word ∷ sites_word ∷ []) site n = AreWords file site_word sites_word site n
AreArguments _ site n = ⊥

-- the site ran on a disk that was opened; or none was, and nothing was read or put
abbrev pub IsRunOnFile : {D K S W : Type 0} → doc.Ghosts D → disk.Ghosts K → source.Ghosts S → sink.Ghosts W
    → (site n : ℕ) → (src src' : S) → (dst dst' : W) → Status → Type 0
IsRunOnFile {K = K} d w s k site n src src' dst dst' status =
    ((before : K) × (after : K) × IsSynced w before × IsShellRun d w s k site n before after src src' dst dst' status)
    ⊎ ((status ≡ Disk) × (src' ≡ src) × (dst' ≡ dst))

-- that of the words, where they are of the form; or they are not, and nothing was read or put
abbrev pub IsRunByWords : {D K S W : Type 0} → doc.Ghosts D → disk.Ghosts K → source.Ghosts S → sink.Ghosts W
    → List (List ℕ) → (src src' : S) → (dst dst' : W) → Status → Type 0
IsRunByWords d w s k words src src' dst dst' status =
    ((site : ℕ) × (n : ℕ) × AreArguments words site n × IsRunOnFile d w s k site n src src' dst dst' status)
    ⊎ ((status ≡ Usage) × ((site n : ℕ) → ¬ AreArguments words site n) × (src' ≡ src) × (dst' ≡ dst))
