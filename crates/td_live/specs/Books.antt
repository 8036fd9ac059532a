-- The books of a live script when its threads are done: what each editor did so far, and what is left of its lines.
use Rattle.std.specs.Prelude.{◌≡◌, ◌<◌, ◌≤◌, ◌+◌, ◌++◌, ℕ, List, [], ◌∷◌, map, length}
use Rattle.std.specs.Prelude.{drop, Option, Some, None, slice_get}
use Rattle.std.specs.List.{AllZip}
use mathlib.Core.List.{IsPrefix}
use Rattle.td_op.specs.declared.reply.Reply.{Reply}
use Rattle.td_machine.specs.History.{Family, history}
use Rattle.td_line.specs.declared.answer.Answer.{Answer}
use Rattle.td_line.specs.Calls.{local_at}
use Rattle.td_script.specs.declared.live.editor_line.EditorLine.{EditorLine}
use Rattle.td_trace.specs.declared.log.Did.{Did}
use Rattle.td_trace.specs.declared.log.Did.TheVariants.{Call, Look}
use Rattle.td_trace.specs.declared.log.EditorLog.{EditorLog}
use Rattle.td_trace.specs.Editors.{nothing_yet, site_calls_at}
use Rattle.td_trace.specs.Family.{IsLogOf}
use Rattle.td_live.specs.Following.{Rest, Act, Leads, AreActs, all_of, replied}
use Rattle.td_live.specs.Desks.{sofar_of}

pub record BookValue : Type 0 where
  -- the site of the editor
  pub home : ℕ
  -- what is still to do
  pub rest : Rest
  -- what was done
  pub did : List Did

-- what the trace tells of it, when no more is done
abbrev pub log_of : BookValue → EditorLog
log_of b = record { home = b.home; did = b.did }

-- ---- a book goes on

-- how many calls were done
abbrev pub calls_done : List Did → ℕ
calls_done did = (sofar_of nothing_yet did).calls

-- the call that is next is this entry, with this reply
abbrev pub with_call : ℕ → Reply → BookValue → BookValue
with_call entry reply b = record b {
  rest = replied reply b.rest (drop 1 b.rest.asks);
  did = b.did ++ Call (calls_done b.did + 1) entry ∷ [];
}

-- the look that is next is at this text, behind so many entries
abbrev pub with_look : ℕ → List ℕ → BookValue → BookValue
with_look upto text b = record b {
  rest = record b.rest { lines = drop 1 b.rest.lines };
  did = b.did ++ Look (calls_done b.did) upto text ∷ [];
}

abbrev pub with_answer : Option Answer → BookValue → BookValue
with_answer None b = b
with_answer (Some a) b = with_call a.entry a.reply b

-- of all the answers of the editor, the one that the book has not yet, where there is one
abbrev pub brought_up : List Answer → BookValue → BookValue
brought_up answers b = with_answer (slice_get answers (calls_done b.did)) b

-- ---- books and a family

-- what the book tells was done at its site, and follows these lines as far as it goes
pub record IsBook (family : Family) (lines : List EditorLine) (b : BookValue) : Type 0 where
  pub logged : IsLogOf family (log_of b)
  pub acts : List Act
  pub are : AreActs (history family b.home) b.did acts
  pub leads : Leads (all_of lines) acts b.rest

-- each request of the histories is the entry of exactly one call, and no other entry is that of a call
abbrev pub AreEntriesOfCalls : Family → List EditorLog → Type 0
AreEntriesOfCalls family logs =
    (site k : ℕ) → 0 < site → site ≤ length family → site_calls_at site k logs ≡ local_at (history family site) k

-- the books of all editors, which have these lines
pub record AreBooks (family : Family) (lines : List (List EditorLine)) (books : List BookValue) : Type 0 where
  pub each : AllZip (IsBook family) lines books
  pub counted : AreEntriesOfCalls family (map log_of books)

-- the same sites, and the history of each goes on
pub record AreHistoriesGrown (old new : Family) : Type 0 where
  pub size : length new ≡ length old
  pub histories : (site : ℕ) → 0 < site → site ≤ length old → IsPrefix (history old site) (history new site)

-- the family and a book of it go on: each request that the family has more is a call that the book has more
pub record GoesFurther (old : Family) (b : BookValue) (new : Family) (c : BookValue) : Type 0 where
  pub home : c.home ≡ b.home
  pub grown : AreHistoriesGrown old new
  pub kept : IsPrefix b.did c.did
  pub follows : (lines : List EditorLine) → IsBook old lines b → IsBook new lines c
  pub counts : (site k : ℕ) → 0 < site → site ≤ length old
      → site_calls_at site k (log_of c ∷ []) + local_at (history old site) k
      ≡ site_calls_at site k (log_of b ∷ []) + local_at (history new site) k
