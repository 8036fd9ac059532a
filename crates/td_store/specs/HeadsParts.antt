-- How `Heads` keeps its operations: as records whose runs and dependencies stand in a list of runs and a list of
-- vectors; a letter stands in the record itself. Operations share a vector: at the site of an operation its number
-- counts for nothing, since of its own site an operation knows exactly those before it.
use Rattle.std.specs.Prelude.{◌≡◌, ◌≤◌, ◌<◌, ◌+◌, ◌-◌, ◌^◌, ℕ, List, [], ◌∷◌, length, slice_index_or, All}
use Rattle.td_base.specs.Atom.{IsAtom}
use Rattle.td_base.specs.Value.{DotValue}
use Rattle.td_base.specs.declared.site.TheConstants.{MAX_SITE}
use Rattle.td_clock.specs.Vector.{vector_set}
use Rattle.td_op.specs.declared.body.Body.{Body}
use Rattle.td_op.specs.declared.body.Body.TheVariants.{Insert, Delete, Propose, Commit, Abort}
use Rattle.td_op.specs.Op.{OpValue, IsOp}
use Rattle.td_store.specs.declared.compact_body.CompactBody.{CompactBody}
use Rattle.td_store.specs.declared.compact_body.CompactBody.TheVariants.{Insert as CompactInsert}
use Rattle.td_store.specs.declared.compact_body.CompactBody.TheVariants.{Letter as CompactLetter}
use Rattle.td_store.specs.declared.compact_body.CompactBody.TheVariants.{Delete as CompactDelete}
use Rattle.td_store.specs.declared.compact_body.CompactBody.TheVariants.{Propose as CompactPropose}
use Rattle.td_store.specs.declared.compact_body.CompactBody.TheVariants.{Commit as CompactCommit}
use Rattle.td_store.specs.declared.compact_body.CompactBody.TheVariants.{Abort as CompactAbort}
use Rattle.td_store.specs.declared.heads.CompactOp.{CompactOp}
use Rattle.td_store.specs.Compact.{slot_of}
use Rattle.td_store.specs.Lists.{RunsValue, VectorsValue}

-- the body that a compact one stands for, with its run from the list
abbrev pub body_of : List (List (List ℕ)) → CompactBody → Body
body_of runs (CompactInsert slot run) = Insert (slot_of slot) (slice_index_or runs run [])
body_of runs (CompactLetter slot letter) = Insert (slot_of slot) ((letter ∷ []) ∷ [])
body_of runs (CompactDelete target) = Delete target
body_of runs (CompactPropose slot) = Propose (slot_of slot)
body_of runs (CompactCommit proposal) = Commit proposal
body_of runs (CompactAbort proposal) = Abort proposal

-- its run is in the list, or is a letter
abbrev pub HasRun : List (List (List ℕ)) → CompactBody → Type 0
HasRun runs (CompactInsert slot run) = run < length runs
HasRun runs (CompactLetter slot letter) = IsAtom (letter ∷ [])
HasRun runs (CompactDelete target) = Unit {0}
HasRun runs (CompactPropose slot) = Unit {0}
HasRun runs (CompactCommit proposal) = Unit {0}
HasRun runs (CompactAbort proposal) = Unit {0}

-- the dependencies that a vector gives an operation with this dot
abbrev pub deps_of : List ℕ → DotValue → List ℕ
deps_of row dot = vector_set row dot.site (dot.seq - 1)

-- the operation that a record stands for
abbrev pub op_of : List (List ℕ) → List (List (List ℕ)) → CompactOp → OpValue
op_of rows runs op = record {
  dot = op.dot;
  deps = deps_of (slice_index_or rows op.row []) op.dot;
  body = body_of runs op.body;
}

-- its vector and its run are in the lists, and it stands for an operation of one of so many sites
pub record IsKept (size : ℕ) (rows : List (List ℕ)) (runs : List (List (List ℕ))) (stored : CompactOp) : Type 0 where
  pub site : stored.dot.site ≤ size
  pub row : stored.row < length rows
  pub run : HasRun runs stored.body
  pub op : IsOp (op_of rows runs stored)

-- there is room for so many more operations
pub record AreHeadsParts (size room capacity : ℕ) (ops : List CompactOp) (runs : RunsValue) (rows : VectorsValue)
    : Type 0 where
  pub some : 1 ≤ size
  pub short : size ≤ MAX_SITE
  pub kept : All (IsKept size rows.rows runs.runs) ops
  pub rows_size : rows.size ≡ size
  pub rows_room : room ≤ rows.room
  pub runs_room : room ≤ runs.room
  pub ops_room : length ops + room ≤ capacity
  pub places : length ops + room < 2 ^ 32
