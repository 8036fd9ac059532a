use Rattle.std.proofs.Common.{◌≡◌, ◌∙◌, ◌++◌, ◌∷◌, ◌-◌, [], ℕ, List, ap, refl, set}
use Rattle.std.proofs.lemmas.List.{set-get_or}
use Rattle.std.proofs.lemmas.Result.{on_ok_weaker}
use Rattle.td_marks.specs.declared.piece.Piece.{Piece}
use Rattle.td_marks.proofs.Pieces.{no_pieces, put_within, put_behind, put_first}
use Rattle.td_marks.proofs.piece.add_atom.Goals.{in-Some+else-last-names, in_default}
use Rattle.td_marks.proofs.piece.add_atom.Goals as goal

pub returns-then-last-names : goal.returns-then-last-names
returns-then-last-names c =
    on_ok_weaker c.push.result
    (λ more front joined.
    put_within c.args.pieces.now.items front c.args.atom.now c.args.names _ c.in-Some.last.now c.push.new.self
    c.args.pieces.now.ok.0 (c.in-Some.ensures.variant.0 refl) c.in-Some.ensures.value c.if-last-names.true more joined)
    c.push.ensures.ok

pub returns : goal.returns
returns c = λ front joined.
    let pieces : List Piece = c.args.pieces.now.items in
    let text = c.in_ok-push.ensures.ok ∙ ap (λ (t : List ℕ). t ++ c.args.atom.now) c.new-text.ensures in
    let piece : List Piece → List Piece =
    λ before. before ++ record { text = c.args.atom.now; names = c.args.names } ∷ [] in
    c.in_ok-push-2.ensures.items
    ∙ (λ i. c.match-last_mut.pieces.items ++ record { text = text i; names = c.args.names } ∷ [])
    ∙ (elim c.match-last_mut.branch [
      | in-Some+else-last-names w ↦
          let put : c.match-last_mut.pieces.items
          ≡ set pieces (c.args.pieces.now.len - 1) w.in-Some.last.now = ap (λ v. v.items) w.pieces-is in
          let last = w.in-Some.ensures.value in
          let same : c.match-last_mut.pieces.items ≡ pieces =
          put ∙ ap (set pieces (c.args.pieces.now.len - 1)) last
          ∙ set-get_or pieces (c.args.pieces.now.len - 1) w.in-Some.last.now in
          ap piece same
          ∙ put_behind pieces front c.args.atom.now c.args.names _ w.in-Some.last.now c.args.pieces.now.ok.0
          (w.in-Some.ensures.variant.0 refl) last w.if-last-names.false joined
      | in_default w ↦
          let none : pieces ≡ [] =
          no_pieces pieces c.args.pieces.now.len c.args.pieces.now.ok.0 w.in_default.ensures.variant.1 in
          ap (λ v. piece v.items) w.pieces-is
          ∙ put_first pieces front c.args.atom.now c.args.names none joined
    ])
