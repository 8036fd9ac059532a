-- The row that was put last.
use Rattle.std.specs.Prelude.{◌≡◌, ◌+◌, ◌*◌, ℕ, Some, IfSome, IsTrue, IsNone}
use Rattle.td_base.specs.Value.{AtomIdValue}
use Rattle.td_doc.specs.Answers.{is_live_id, is_rooted, live_before}
use Rattle.td_doc.specs.Document.{find_row}
use Rattle.td_doc.specs.Slots.{is_empty_slot}
use Rattle.td_identities.specs.declared.identities.Identities.{Identities}
use Rattle.td_identities.specs.Identities.{number_of}
use Rattle.td_list.specs.Items.{first_name, items_after}
use Rattle.td_path.specs.declared.slot.Slot.{Slot}
use Rattle.td_tree.specs.declared.last.Last.{Last}
use Rattle.td_tree.specs.declared.tree_row.RowState.TheVariants.{Node}
use Rattle.td_tree.specs.Parts.{Parts, state_at, doc_rows}
use Rattle.td_tree.specs.Places.{IsNewPlace}

-- it is a live row, with its number, and with its index where that is counted; it has brackets of its own, and its
-- atom stands right before the one that closes it
pub record IsLast (p : Parts) (identities : Identities) (last : Last) : Type 0 where
  pub live : IsTrue (is_live_id (doc_rows p) last.id)
  pub number : number_of identities last.id ≡ Some last.row
  pub index : IfSome last.index (λ n. n ≡ live_before last.id (doc_rows p))
  pub node : state_at p last.row ≡ Node
  pub alone : first_name (items_after (3 * last.row + 1) p.items) ≡ Some (3 * last.row + 2)

-- a slot without rows, and the item that ends it
pub record IsEmptyEnd (p : Parts) (slot : Slot) (end : ℕ) : Type 0 where
  pub rooted : IsTrue (is_rooted (doc_rows p) slot)
  pub empty : IsTrue (is_empty_slot (doc_rows p) slot)
  pub place : (id : AtomIdValue) → IsNone (find_row id (doc_rows p)) → IsNewPlace p slot id (Some end)
