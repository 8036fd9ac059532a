use Rattle.std.proofs.Common.{◌≡◌, ◌≢◌, ◌<◌, length, sym, subst, None}
use Rattle.td_doc.specs.Document.{find_row}
use Rattle.td_identities.specs.Identities.{number_of}
use Rattle.td_tree.specs.declared.tree_row.RowState.TheVariants.{Gone}
use Rattle.td_tree.specs.Parts.{Parts, state_at, doc_rows}
use Rattle.td_tree.proofs.RowsFound.{none_found, gone_found}
use Rattle.td_tree.proofs.LastRow.{last_is, last_row}
use Rattle.td_tree.proofs.tree.Tree.number.Goals as goal

pub returns-clause-known : goal.returns-clause-known
returns-clause-known c =
    let p : Parts = c.self.inside.tokens in
    let k = last_is p c.self.inside.identities c.self.inside.last c.in-Some.last c.self.invariant.1 c.in-Some.is in
    subst (λ (q : Parts). c.in-Some.last.row < length q.rows) c.self.view_is
    (last_row p c.self.inside.identities c.self.inside.seen c.self.invariant.0 c.in-Some.last k).0

pub returns-clause-stands : goal.returns-clause-stands
returns-clause-stands c =
    let p : Parts = c.self.inside.tokens in
    let k = last_is p c.self.inside.identities c.self.inside.last c.in-Some.last c.self.invariant.1 c.in-Some.is in
    subst (λ (q : Parts). state_at q c.in-Some.last.row ≢ Gone) c.self.view_is
    (last_row p c.self.inside.identities c.self.inside.seen c.self.invariant.0 c.in-Some.last k).1

pub state-requires : goal.state-requires
state-requires c = (c.self.invariant.0.named.found c.args.id c.in-Some-number.row (sym c.in-Some-number.ensures)).0

pub returns-in-Gone-clause-none : goal.returns-in-Gone-clause-none
returns-in-Gone-clause-none c =
    subst (λ (p : Parts). find_row c.args.id (doc_rows p) ≡ None) c.self.view_is
    (gone_found c.self.inside.tokens c.self.invariant.0.tree (number_of c.self.inside.identities)
    c.self.invariant.0.named c.args.id c.in-Some-number.row (sym c.in-Some-number.ensures) (sym c.in-Gone.ensures))

pub returns-in-None-clause-none : goal.returns-in-None-clause-none
returns-in-None-clause-none c =
    subst (λ (p : Parts). find_row c.args.id (doc_rows p) ≡ None) c.self.view_is
    (none_found c.self.inside.tokens c.self.invariant.0.tree (number_of c.self.inside.identities)
    c.self.invariant.0.named c.args.id (sym c.in-None.ensures))
