-- What a run of a shell promises: which lines it did, what it kept, and what it put.
use Rattle.std.specs.Prelude.{◌≡◌, ◌≤◌, ◌<◌, ◌⊎◌, ◌++◌, ⊤, ℕ, List, [], ◌∷◌, All, Option, Some, Result, length, take}
use Rattle.std.specs.Prelude.{IfSome, IfErr, OnOk}
use Rattle.std.specs.Io.KnownBytes.{Appends, Consumes}
use Rattle.td_disk.specs.declared.disk.Disk as disk
use Rattle.td_disk.specs.Gated.{disk_of}
use Rattle.td_disk.specs.Moments.{LeavesOnly}
use Rattle.td_doc.specs.declared.doc.Doc as doc
use Rattle.td_io.specs.declared.source.Source as source
use Rattle.td_io.specs.declared.sink.Sink as sink
use Rattle.td_io.specs.Count.{Rose}
use Rattle.td_io.specs.Whole.{AppendsPart}
use Rattle.td_op.specs.declared.input.Input.{Input}
use Rattle.td_journal.specs.declared.kept.Kept.{Kept}
use Rattle.td_journal.specs.Journal.{inputs_of}
use Rattle.td_journal.specs.Seen.{replica_of, journal_of, inputs_in, IsOwnJournal, IsOwnJournalOfEither}
use Rattle.td_replica.specs.Replica.{ReplicaValue}
use Rattle.td_script.specs.Lines.{lines_of}
use Rattle.td_shell.specs.declared.status.Status.{Status}
use Rattle.td_shell.specs.declared.status.Status.TheVariants.{Done, Memory, Usage, Read, Write, Full, Bad, Disk}
use Rattle.td_shell.specs.declared.halt.Halt.{Halt}
use Rattle.td_shell.specs.declared.halt.Halt.TheVariants.{Memory as Wanting, Write as Unwritten}
use Rattle.td_shell.specs.Answers.{Effect, all_answers, answer, answers_to_end, numbered}
use Rattle.td_shell.specs.Lines.{IsInLine, ended}
use Rattle.td_shell.specs.Sending.{cut_answer}
use Rattle.td_shell.specs.Staging.{HasFailed, IsAllKept, IsHalted, IsKeptAs, IsSamePlace}
use Rattle.td_shell.specs.Wanting.{IsFull}

-- ---- one line

-- it was not done, and nothing was put; or it was, and its answer could not be put whole
abbrev pub IsUnanswered : {D K W : Type 0} {d : doc.Ghosts D} → (w : disk.Ghosts K) → (k : sink.Ghosts W) → Effect
    → (old new : Kept D K d w) → (before after : W) → Halt → Type 0
IsUnanswered w k e old new before after Unwritten =
    (replica_of new ≡ e.replica) × IsAllKept w new × Rose (k.faults before) (k.faults after)
    × AppendsPart (k.held before) (k.held after) e.text
IsUnanswered w k e old new before after halt = (after ≡ before) × IsHalted w old new e.replica halt

-- it was done, and its answer put; or not. A crash at any moment leaves what was there before, or all that it does.
pub record IsLineAnswered {D K W T : Type 0} {d : doc.Ghosts D} (w : disk.Ghosts K) (k : sink.Ghosts W) (e : Effect)
    (old new : Kept D K d w) (before after : W) (result : Result T Halt) : Type 0 where
  pub replica : OnOk result (replica_of new ≡ e.replica)
  pub kept : OnOk result (IsAllKept w new)
  pub put : OnOk result (Appends (k.held before) (k.held after) e.text)
  pub halted : IfErr result (IsUnanswered w k e old new before after)
  pub counts : w.faults (disk_of (journal_of old)) ≤ w.faults (disk_of (journal_of new))
  pub place : IsSamePlace old new
  pub any_moment : LeavesOnly w (disk_of (journal_of old)) (disk_of (journal_of new))
      (IsOwnJournalOfEither old (inputs_in old) (inputs_of e.replica.entries))

-- ---- the end

-- what is said of a line that the end cuts off was not put, or not whole
abbrev pub IsUncut : {W : Type 0} → (k : sink.Ghosts W) → List ℕ → (before after : W) → Halt → Type 0
IsUncut k text before after Unwritten =
    Rose (k.faults before) (k.faults after) × AppendsPart (k.held before) (k.held after) text
IsUncut k text before after Wanting = after ≡ before
IsUncut k text before after _ = ⊥

-- ---- all lines

-- all inputs of a replica once it did these lines
abbrev pub inputs_by : List (List ℕ) → ReplicaValue → List Input
inputs_by lines r = inputs_of (all_answers lines r).replica.entries

-- the file is a journal of what the first so many of these lines do
abbrev pub IsOfFront : {D K : Type 0} {d : doc.Ghosts D} {w : disk.Ghosts K} → Kept D K d w → List (List ℕ) → List ℕ
    → Type 0
IsOfFront k lines file =
    (front : List (List ℕ)) × (back : List (List ℕ)) × (lines ≡ front ++ back)
    × IsOwnJournal k (inputs_by front (replica_of k)) file

-- these lines, and the next one that stands in the rest
abbrev pub and_next : List (List ℕ) → List ℕ → List (List ℕ)
and_next lines rest = lines ++ take 1 (lines_of rest)

-- the lines that were begun: these, and where the disk failed the next one
abbrev pub begun : Status → List (List ℕ) → List ℕ → List (List ℕ)
begun Disk lines rest = and_next lines rest
begun status lines rest = lines

-- The replica did these lines, and all of that is kept. Where it stopped within the next line, a crash leaves a journal
-- of what these did, and where the disk failed, that, or with the next line all of it.
abbrev pub IsKeptBy : {D K : Type 0} {d : doc.Ghosts D} → (w : disk.Ghosts K) → ReplicaValue → Kept D K d w
    → List (List ℕ) → List ℕ → Status → Type 0
IsKeptBy w r k lines rest Disk =
    (c : List ℕ) → w.leaves (disk_of (journal_of k)) c
    → IsOwnJournalOfEither k (inputs_by lines r) (inputs_by (and_next lines rest) r) c
IsKeptBy w r k lines rest Memory = IsKeptAs w k (inputs_by lines r)
IsKeptBy w r k lines rest (Full len) = IsKeptAs w k (inputs_by lines r)
IsKeptBy w r k lines rest status = (replica_of k ≡ (all_answers lines r).replica) × IsAllKept w k

-- nothing of the input is left, and behind the last LF these bytes
abbrev pub IsAtTheEnd : Option (List ℕ) → Option (List ℕ) → List ℕ → Type 0
IsAtTheEnd before after rest = IfSome before (λ _. after ≡ Some []) × IsInLine rest

-- the bytes that were taken: these lines, each ended by LF, and then the rest, which at Done is cut off by the end
pub record IsHeard (before after : Option (List ℕ)) (lines : List (List ℕ)) (rest : List ℕ) (status : Status) : Type 0
  where
    pub taken : Consumes before after (ended lines ++ rest)
    pub in_line : All IsInLine lines
    pub to_end : status ≡ Done → IsAtTheEnd before after rest

-- the answer that came last, and those before it: to the last of these lines, or to a rest that the end cuts off
abbrev pub IsLastAnswer : List (List ℕ) → List ℕ → ReplicaValue → Type 0 → (front last : List ℕ) → Type 0
IsLastAnswer lines rest r at_end front last =
    ((others : List (List ℕ)) × (line : List ℕ) × (lines ≡ others ++ line ∷ []) × (front ≡ (all_answers others r).text)
    × (last ≡ (answer (numbered 0 lines) line (all_answers others r).replica).text))
    ⊎ (at_end × (front ≡ (all_answers lines r).text) × (last ≡ cut_answer (numbered 0 lines) rest))

-- it was put in part, behind all others
pub record PutsPart (lines : List (List ℕ)) (rest : List ℕ) (r : ReplicaValue) (at_end : Type 0)
    (before after : Option (List ℕ)) : Type 0 where
  pub front : List ℕ
  pub last : List ℕ
  pub is_last : IsLastAnswer lines rest r at_end front last
  pub count : ℕ
  pub part : count < length last
  pub put : Appends before after (front ++ take count last)

-- what was put of the answers: all, but where the sink failed
abbrev pub AreAnswersPut : Status → List (List ℕ) → List ℕ → ReplicaValue → Type 0 → (before after : Option (List ℕ))
    → Type 0
AreAnswersPut Done lines rest r at_end before after = Appends before after (answers_to_end lines rest r)
AreAnswersPut Write lines rest r at_end before after = PutsPart lines rest r at_end before after
AreAnswersPut status lines rest r at_end before after = Appends before after (all_answers lines r).text

-- Each status other than Done has its cause: the source, the sink or the disk failed, or a step of the next line has no
-- room. Of want of memory no more is known.
abbrev pub IsCaused : {D K S W : Type 0} {d : doc.Ghosts D} {w : disk.Ghosts K} → source.Ghosts S → sink.Ghosts W
    → (old new : Kept D K d w) → (src src' : S) → (dst dst' : W) → List (List ℕ) → List ℕ → Status → Type 0
IsCaused s k old new src src' dst dst' lines rest Done = ⊤
IsCaused s k old new src src' dst dst' lines rest Memory = ⊤
IsCaused s k old new src src' dst dst' lines rest Read = Rose (s.faults src) (s.faults src')
IsCaused s k old new src src' dst dst' lines rest Write = Rose (k.faults dst) (k.faults dst')
IsCaused {w = w} s k old new src src' dst dst' lines rest Disk = HasFailed w old new
IsCaused s k old new src src' dst dst' lines rest (Full len) =
    IsFull new (all_answers (and_next lines rest) (replica_of old)).replica len
IsCaused s k old new src src' dst dst' lines rest Usage = ⊥
IsCaused s k old new src src' dst dst' lines rest (Bad at) = ⊥

-- by what the source and the sink tell of themselves: of the kept replica, the source and the sink before and after,
-- and the status
pub record IsTalk {D K S W : Type 0} {d : doc.Ghosts D} {w : disk.Ghosts K} (s : source.Ghosts S) (k : sink.Ghosts W)
    (old new : Kept D K d w) (src src' : S) (dst dst' : W) (status : Status) : Type 0 where
  -- these lines of the input were done, from the first on, and no more was taken than stands in the rest
  pub lines : List (List ℕ)
  pub rest : List ℕ
  pub heard : IsHeard (s.left src) (s.left src') lines rest status
  -- all that they did is kept
  pub kept : IsKeptBy w (replica_of old) new lines rest status
  pub place : IsSamePlace old new
  -- and a crash at any moment before left all that the first so many did
  pub any_moment : LeavesOnly w (disk_of (journal_of old)) (disk_of (journal_of new))
      (IsOfFront old (begun status lines rest))
  -- nothing was put but their answers
  pub put : AreAnswersPut status lines rest (replica_of old) (IsAtTheEnd (s.left src) (s.left src') rest) (k.held dst)
      (k.held dst')
  pub caused : IsCaused s k old new src src' dst dst' lines rest status
