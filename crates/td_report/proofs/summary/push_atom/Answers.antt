use Rattle.std.proofs.Common.{◌≡◌, ◌∙◌, ◌++◌, List, OnOk, Some, ap, subst, sym}
use Rattle.std.specs.List.{flat_map}
use Rattle.td_doc.specs.Document.{DocRow}
use Rattle.td_doc.specs.declared.doc.Row.{Row}
use Rattle.td_script.specs.Texts.{escaped}
use Rattle.td_report.specs.Parts.{if_any}
use Rattle.td_report.proofs.LiveRows.{atom_shown, shown_is_told}
use Rattle.td_report.proofs.summary.push_atom.Goals as goal

pub unreachable-requires : goal.unreachable-requires
unreachable-requires g c =
    shown_is_told (g.D.Doc.rows c.args.doc.now) c.args.index c.in-Some.id c.requires
    (sym c.live_at.ensures ∙ c.in-Some.is)
    (λ (told : Row) e. c.in_default-find.not-Some told (c.find.ensures ∙ e))

pub returns : goal.returns
returns g c =
    let rows : List DocRow = g.D.Doc.rows c.args.doc.now in
    let shown = atom_shown rows c.args.index c.in-Some.id c.in-Some-find.row c.requires
    (sym c.live_at.ensures ∙ c.in-Some.is)
    (sym c.find.ensures ∙ c.in-Some-find.is) in
    subst
    (λ o. OnOk c.push_escaped.result (c.push_escaped.new.line ≡ c.args.lines.now ++ if_any (flat_map escaped) o))
    (ap Some c.bytes.ensures.bytes ∙ sym shown)
    c.push_escaped.ensures
