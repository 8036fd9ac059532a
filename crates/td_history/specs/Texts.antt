-- The texts that operations insert and that requests put.
use Rattle.std.specs.Prelude.{ℕ, List, [], ◌∷◌, Option, Some, None}
use Rattle.std.specs.List.{slice_get}
use Rattle.std.specs.Option.{option_and_then}
use Rattle.td_op.specs.declared.body.Body.{Body}
use Rattle.td_op.specs.declared.body.Body.TheVariants.{Insert, Delete, Propose, Commit, Abort}
use Rattle.td_op.specs.declared.request.Request.{Request}
use Rattle.td_op.specs.declared.request.Request.TheVariants.{Insert as AskInsert, InsertAfter, Paste, PasteAfter}
use Rattle.td_op.specs.declared.request.Request.TheVariants.{Delete as AskDelete, DeleteAtom}
use Rattle.td_op.specs.declared.request.Request.TheVariants.{Propose as AskPropose, ProposeAt, Cancel}
use Rattle.td_op.specs.Op.{OpValue}

-- the text of an insert
abbrev pub run_of : Body → Option (List (List ℕ))
run_of (Insert slot run) = Some run
run_of (Delete target) = None
run_of (Propose slot) = None
run_of (Commit proposal) = None
run_of (Abort proposal) = None

-- the text of the operation of a number
abbrev pub run_at : List OpValue → ℕ → Option (List (List ℕ))
run_at ops number = option_and_then (λ (x : OpValue). run_of x.body) (slice_get ops number)

-- the text that a request puts
abbrev pub run_asked : Request → Option (List (List ℕ))
run_asked (AskInsert index atom) = Some (atom ∷ [])
run_asked (InsertAfter after atom) = Some (atom ∷ [])
run_asked (Paste index run) = Some run
run_asked (PasteAfter after run) = Some run
run_asked (AskDelete index) = None
run_asked (DeleteAtom id) = None
run_asked (AskPropose slot) = None
run_asked (ProposeAt index bit) = None
run_asked (Cancel proposal) = None
