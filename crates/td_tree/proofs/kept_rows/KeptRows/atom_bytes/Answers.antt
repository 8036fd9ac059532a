use Rattle.std.proofs.Common.{◌≡◌, ◌<◌, ◌∙◌, ℕ, List, length, get_or, ap, sym, subst, refl, arith}
use Rattle.std.proofs.lemmas.List.{get_or_read_under}
use Rattle.td_brackets.specs.Brackets.{Entry}
use Rattle.td_tree.specs.declared.tree_row.TreeRow.{TreeRow}
use Rattle.td_tree.specs.KeptRows.{Column, several_at}
use Rattle.td_tree.specs.RowAtom.{atom_from, IsFrom}
use Rattle.td_tree.specs.Parts.{nobody}
use Rattle.td_tree.proofs.KeptRows.{no_row, entries_long, entry_of}
use Rattle.td_tree.proofs.PlacedAtoms.{found_at}
use Rattle.td_tree.proofs.kept_rows.KeptRows.atom_bytes.Goals as goal

pub index-requires : goal.index-requires
index-requires c =
    let was = ap (λ (k : Column). length k.entries) c.self.view_is in
    let long = entries_long 0 c.self.inside.long.items (several_at c.self.inside.several) 0 c.self.inside.rows.items in
    omega (arith, c.self.inside.rows.ok.0, c.requires)

pub bytes-requires : goal.bytes-requires
bytes-requires c =
    let was = ap (λ (k : Column). length k.entries) c.self.view_is in
    let long = entries_long 0 c.self.inside.long.items (several_at c.self.inside.several) 0 c.self.inside.rows.items in
    let low : c.args.row < length c.self.inside.rows.items = omega (arith, c.requires) in
    let row : c.index.result.now ≡ get_or c.self.inside.rows.items c.args.row no_row =
    get_or_read_under c.self.inside.rows.items c.args.row (length c.self.inside.rows.items) c.index.result.now no_row
    c.index.ensures low refl in
    subst (λ (p : List (List ℕ) × TreeRow). IsFrom 0 (length p.0) p.1.atom)
    (λ i. (sym c.deref.ensures.value i, sym row i))
    (found_at 0 (length c.self.inside.long.items) c.self.inside.rows.items c.args.row low c.self.invariant.found)

pub returns-clause-bytes : goal.returns-clause-bytes
returns-clause-bytes c =
    let was = ap (λ (k : Column). length k.entries) c.self.view_is in
    let long = entries_long 0 c.self.inside.long.items (several_at c.self.inside.several) 0 c.self.inside.rows.items in
    let low : c.args.row < length c.self.inside.rows.items = omega (arith, c.requires) in
    let row : c.index.result.now ≡ get_or c.self.inside.rows.items c.args.row no_row =
    get_or_read_under c.self.inside.rows.items c.args.row (length c.self.inside.rows.items) c.index.result.now no_row
    c.index.ensures low refl in
    c.bytes.ensures.bytes ∙ (λ i. atom_from 0 (c.deref.ensures.value i) (row i).atom)
    ∙ sym (ap (λ (e : Entry). e.atom) (entry_of 0 c.self.inside.long.items (several_at c.self.inside.several)
    c.self.inside.rows.items c.args.row low))
    ∙ ap (λ (k : Column). (get_or k.entries c.args.row nobody.entry).atom) c.self.view_is
