-- What is promised of rows and texts, whatever was flattened.
use Rattle.std.specs.Prelude.{◌≡◌, ◌≢◌, ◌⊎◌, ◌↔◌, List, true, map}
use Rattle.td_base.specs.Value.{DotValue, AtomIdValue}
use Rattle.td_base.specs.Lists.{In, StandsBefore, IsSublist}
use Rattle.td_op.specs.declared.body.Body.TheVariants.{Commit}
use Rattle.td_op.specs.Op.{OpValue}
use Rattle.td_doc.specs.Document.{row_id, live_atoms, text_of}
use Rattle.td_machine.specs.Machine.{Machine}
use Rattle.td_machine.specs.History.{Family, Moment, machine_at}
use Rattle.td_order.specs.Order.{order}
use Rattle.td_order.specs.Show.{show, shown_atoms, is_deleted}

-- the identities of the rows, in the order of the document
abbrev pub row_ids : Machine → List AtomIdValue
row_ids m = map row_id m.doc

-- rows are part of the order: they are some of its atoms, in its order, and each atom that is no row is deleted
pub record RowsInOrder (m : Machine) : Type 0 where
  pub part : IsSublist (row_ids m) (order m.log)
  pub gone : (x : AtomIdValue) → In x (order m.log) → In x (row_ids m) ⊎ (is_deleted m.log x ≡ true)

abbrev pub RowsArePart : Family → Type 0
RowsArePart family = (t : Moment family) → RowsInOrder (machine_at family t)

-- no flatten was committed so far
abbrev pub NoCommit : List OpValue → Type 0
NoCommit log = (x : OpValue) (proposal : DotValue) → In x log → x.body ≢ Commit proposal

-- where none was, the rows are all of the order
abbrev pub RowsAreTheOrder : Family → Type 0
RowsAreTheOrder family =
    (t : Moment family) → NoCommit (machine_at family t).log
    → row_ids (machine_at family t) ≡ order (machine_at family t).log

-- two atoms that are rows at two moments, of one site or of two, stand in one order at both
abbrev pub RowsAgree : Family → Type 0
RowsAgree family =
    (t u : Moment family) (x y : AtomIdValue) → StandsBefore x y (row_ids (machine_at family t))
    → In x (row_ids (machine_at family u)) → In y (row_ids (machine_at family u))
    → StandsBefore x y (row_ids (machine_at family u))

-- at every moment a site shows the atoms that its operations show
abbrev pub ConvergentAtoms : Family → Type 0
ConvergentAtoms family =
    (t : Moment family) → live_atoms (machine_at family t).doc ≡ shown_atoms (machine_at family t).log

-- convergent text: at every moment a site shows the text that its operations show
abbrev pub ConvergentText : Family → Type 0
ConvergentText family = (t : Moment family) → text_of (machine_at family t).doc ≡ show (machine_at family t).log

-- so two moments with the same operations show one text, in whatever order these came
abbrev pub TextsConverge : Family → Type 0
TextsConverge family =
    (t u : Moment family) → ((x : OpValue) → In x (machine_at family t).log ↔ In x (machine_at family u).log)
    → text_of (machine_at family t).doc ≡ text_of (machine_at family u).doc
