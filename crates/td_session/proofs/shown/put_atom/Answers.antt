use Rattle.std.proofs.Common.{◌≡◌, ◌∙◌, ℕ, List, insert, subst, sym}
use Rattle.std.specs.Prelude.{OnOk}
use Rattle.td_session.proofs.LiveAtoms.{atom_shown, shown_is_told, some_shown}
use Rattle.td_session.proofs.shown.put_atom.Goals as goal

pub unreachable-requires : goal.unreachable-requires
unreachable-requires g c =
    some_shown (g.D.Doc.rows c.args.doc.now) c.args.index c.requires.index (sym c.live_at.ensures ∙ c.in_default.is)

pub unreachable-requires-in_default-find : goal.unreachable-requires-in_default-find
unreachable-requires-in_default-find g c =
    shown_is_told (g.D.Doc.rows c.args.doc.now) c.args.index c.in-Some.id c.requires.rules
    (sym c.live_at.ensures ∙ c.in-Some.is) (sym c.find.ensures ∙ c.in_default-find.is)

pub returns : goal.returns
returns g c =
    let shown = atom_shown (g.D.Doc.rows c.args.doc.now) c.args.index c.in-Some.id c.in-Some-find.row c.requires.rules
    (sym c.live_at.ensures ∙ c.in-Some.is) (sym c.find.ensures ∙ c.in-Some-find.is) in
    subst (λ (atom : List ℕ). OnOk c.put.result (c.put.new.self ≡ insert c.args.rope.now c.args.index atom)) shown
    c.put.ensures.ok
