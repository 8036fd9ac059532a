-- The entry that a compact one stands for.
use Rattle.std.specs.Prelude.{ℕ, List, Option, Some}
use Rattle.std.specs.List.{slice_get}
use Rattle.std.specs.Option.{option_map, option_and_then}
use Rattle.td_base.specs.Value.{DotValue}
use Rattle.td_op.specs.declared.entry.Entry.{Entry}
use Rattle.td_op.specs.declared.input.Input.{Input}
use Rattle.td_op.specs.declared.input.Input.TheVariants.{Local, Next}
use Rattle.td_op.specs.declared.request.Request.TheVariants.{Delete}
use Rattle.td_op.specs.declared.reply.Reply.{Reply}
use Rattle.td_op.specs.declared.reply.Reply.TheVariants.{Made, New, Later, Taken as WasTaken}
use Rattle.td_op.specs.Op.{OpValue}
use Rattle.td_history.specs.declared.put.CompactPut.TheVariants.{Insert}
use Rattle.td_history.specs.declared.entry.CompactEntry.{CompactEntry}
use Rattle.td_history.specs.declared.entry.CompactEntry.TheVariants.{Inserted, Deleted, Taken, Kept, Resumed, Whole}
use Rattle.td_history.specs.declared.entry.WholeEntry.{WholeEntry}
use Rattle.td_history.specs.EntriesValue.{EntriesValue}
use Rattle.td_history.specs.Inputs.{input_of, put_input, taken_input}
use Rattle.td_history.specs.Replies.{reply_of}
use Rattle.td_history.specs.Texts.{run_at}

-- one that is kept whole, among the operations by their numbers, the texts that no operation has, and the operations
-- that were offered alone
abbrev pub whole_among : List OpValue → List (List (List ℕ)) → List OpValue → WholeEntry → Option Entry
whole_among ops texts offered c =
    option_map (λ (input : Input). record { input = input; reply = reply_of c.reply })
    (input_of ops texts offered c.input)

-- an input, with a reply that may name the operation of a number
abbrev pub entry_with : List OpValue → (DotValue → Reply) → ℕ → Option Input → Option Entry
entry_with ops reply number input =
    option_and_then (λ (op : OpValue).
    option_map (λ (i : Input). record { input = i; reply = reply op.dot }) input) (slice_get ops number)

-- among the same, and the entries that are kept whole
abbrev pub entry_among : List OpValue → List (List (List ℕ)) → List OpValue → List WholeEntry → CompactEntry
    → Option Entry
entry_among ops texts offered wholes (Inserted index number) =
    entry_with ops (λ (dot : DotValue). Made dot) number (put_input (Insert index) (run_at ops number))
entry_among ops texts offered wholes (Deleted index number) =
    entry_with ops (λ (dot : DotValue). Made dot) number (Some (Local (Delete index)))
entry_among ops texts offered wholes (Taken number) =
    entry_with ops (λ (dot : DotValue). New) number (taken_input (slice_get ops number))
entry_among ops texts offered wholes (Kept number) =
    entry_with ops (λ (dot : DotValue). Later) number (taken_input (slice_get ops number))
entry_among ops texts offered wholes (Resumed number) =
    entry_with ops (λ (dot : DotValue). WasTaken dot) number (Some Next)
entry_among ops texts offered wholes (Whole place) =
    option_and_then (whole_among ops texts offered) (slice_get wholes place)

abbrev pub entry_of : List OpValue → EntriesValue → CompactEntry → Option Entry
entry_of ops e c = entry_among ops e.texts e.offered e.wholes c
