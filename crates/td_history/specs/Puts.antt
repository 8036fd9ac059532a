-- The request that puts a text where a compact one says.
use Rattle.std.specs.Prelude.{ℕ, List, Option, Some}
use Rattle.std.specs.List.{slice_get}
use Rattle.std.specs.Option.{option_map}
use Rattle.td_op.specs.declared.request.Request.{Request}
use Rattle.td_op.specs.declared.request.Request.TheVariants.{Insert, InsertAfter, Paste, PasteAfter}
use Rattle.td_history.specs.declared.put.CompactPut.{CompactPut}
use Rattle.td_history.specs.declared.put.CompactPut.TheVariants.{Insert as PutInsert, InsertAfter as PutInsertAfter}
use Rattle.td_history.specs.declared.put.CompactPut.TheVariants.{Paste as PutPaste, PasteAfter as PutPasteAfter}

abbrev pub put_of : List (List ℕ) → CompactPut → Option Request
put_of text (PutInsert index) = option_map (λ (atom : List ℕ). Insert index atom) (slice_get text 0)
put_of text (PutInsertAfter after) = option_map (λ (atom : List ℕ). InsertAfter after atom) (slice_get text 0)
put_of text (PutPaste index) = Some (Paste index text)
put_of text (PutPasteAfter after) = Some (PasteAfter after text)
