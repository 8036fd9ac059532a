-- A document that is edited with one dot after another.
use Rattle.std.specs.Prelude.{◌≡◌, ◌⊎◌, ◌<◌, ◌≤◌, ◌+◌, ℕ, List, Option, Some, None}
use Rattle.td_base.specs.Value.{DotValue, AtomIdValue}
use Rattle.td_doc.specs.Answers.{IsFresh}
use Rattle.td_doc.specs.Deletion.{delete}
use Rattle.td_doc.specs.Document.{DocRow, live_id_at}
use Rattle.td_tree.specs.Parts.{Parts, doc_rows}

-- the parts of the document's tree, and the dot of the next edit
pub record Draft : Type 0 where
  pub parts : Parts
  pub next : DotValue

abbrev pub draft_rows : Draft → List DocRow
draft_rows w = doc_rows w.parts

-- the dots of a site, in turn
abbrev pub first_dot : ℕ → DotValue
first_dot site = record { site = site; seq = 1 }

abbrev pub dot_after : DotValue → DotValue
dot_after d = record { site = d.site; seq = d.seq + 1 }

-- the dot comes later: it is of a later site, or the same site's with this number or a later one
abbrev pub IsToCome : DotValue → DotValue → Type 0
IsToCome next d = (next.site < d.site) ⊎ ((d.site ≡ next.site) × (next.seq ≤ d.seq))

-- no row is of an insert that is to come
abbrev pub AreFreshFrom : DotValue → List DocRow → Type 0
AreFreshFrom next rows = (d : DotValue) → IsToCome next d → IsFresh rows d

-- the document after a delete of the live row at an index
abbrev pub delete_found : Option AtomIdValue → DotValue → List DocRow → List DocRow
delete_found None by rows = rows
delete_found (Some id) by rows = delete id by rows

abbrev pub delete_live : ℕ → DotValue → List DocRow → List DocRow
delete_live index by rows = delete_found (live_id_at rows index) by rows
