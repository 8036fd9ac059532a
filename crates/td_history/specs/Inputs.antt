-- The input that a compact one stands for.
use Rattle.std.specs.Prelude.{ℕ, List, Option, Some}
use Rattle.std.specs.List.{slice_get}
use Rattle.std.specs.Option.{option_map, option_and_then}
use Rattle.td_op.specs.declared.request.Request.TheVariants.{Delete as AskDelete, DeleteAtom as AskDeleteAtom}
use Rattle.td_op.specs.declared.request.Request.TheVariants.{Propose as AskPropose, ProposeAt as AskProposeAt}
use Rattle.td_op.specs.declared.request.Request.TheVariants.{Cancel as AskCancel}
use Rattle.td_op.specs.declared.input.Input.{Input}
use Rattle.td_op.specs.declared.input.Input.TheVariants.{Local, Take, Next}
use Rattle.td_op.specs.declared.message.Message.TheVariants.{Op as AnOp, Vote as AVote}
use Rattle.td_op.specs.Op.{OpValue}
use Rattle.td_store.specs.Compact.{slot_of}
use Rattle.td_history.specs.declared.put.CompactPut.{CompactPut}
use Rattle.td_history.specs.declared.input.CompactInput.{CompactInput}
use Rattle.td_history.specs.declared.input.CompactInput.TheVariants.{Done, Refused, Delete as CompactDelete}
use Rattle.td_history.specs.declared.input.CompactInput.TheVariants.{DeleteAtom as CompactDeleteAtom}
use Rattle.td_history.specs.declared.input.CompactInput.TheVariants.{Propose as CompactPropose}
use Rattle.td_history.specs.declared.input.CompactInput.TheVariants.{ProposeAt as CompactProposeAt}
use Rattle.td_history.specs.declared.input.CompactInput.TheVariants.{Cancel as CompactCancel, Taken, Offered}
use Rattle.td_history.specs.declared.input.CompactInput.TheVariants.{Vote as CompactVote, Next as CompactNext}
use Rattle.td_history.specs.Puts.{put_of}
use Rattle.td_history.specs.Texts.{run_at}
use Rattle.td_history.specs.Votes.{vote_of}

-- a text, put where a compact request says
abbrev pub put_input : CompactPut → Option (List (List ℕ)) → Option Input
put_input put text = option_and_then (λ (t : List (List ℕ)). option_map Local (put_of t put)) text

-- an operation, taken
abbrev pub taken_input : Option OpValue → Option Input
taken_input op = option_map (λ (x : OpValue). Take (AnOp x)) op

-- among the operations by their numbers, the texts that no operation has, and the operations that were offered alone
abbrev pub input_of : List OpValue → List (List (List ℕ)) → List OpValue → CompactInput → Option Input
input_of ops texts offered (Done put number) = put_input put (run_at ops number)
input_of ops texts offered (Refused put text) = put_input put (slice_get texts text)
input_of ops texts offered (CompactDelete index) = Some (Local (AskDelete index))
input_of ops texts offered (CompactDeleteAtom id) = Some (Local (AskDeleteAtom id))
input_of ops texts offered (CompactPropose slot) = Some (Local (AskPropose (slot_of slot)))
input_of ops texts offered (CompactProposeAt bit index) = Some (Local (AskProposeAt index bit))
input_of ops texts offered (CompactCancel proposal) = Some (Local (AskCancel proposal))
input_of ops texts offered (Taken number) = taken_input (slice_get ops number)
input_of ops texts offered (Offered number) = taken_input (slice_get offered number)
input_of ops texts offered (CompactVote vote) = Some (Take (AVote (vote_of vote)))
input_of ops texts offered CompactNext = Some Next
