use Rattle.std.proofs.Common.{rules, ◌≡◌, ℕ, ◌-◌, List, ◌++◌, ◌∷◌, [], length, take, drop, set, refl, ap, ◌∙◌}
use Rattle.td_journal.proofs.Pieces.{added}
use Rattle.td_journal.proofs.piece.Piece.push.Goals as goal

pub returns-clause-ok : goal.returns-clause-ok
returns-clause-ok c =
    let items : List ℕ = c.self.inside.items.items in
    let bytes : List ℕ = c.args.bytes.now in
    let gate : ℕ = c.len-gate.result - 1 in
    let at : gate ≡ length items - 1 = search rules in
    let more : c.extend_from_slice.new.self.items ≡ items ++ drop 1 bytes = search rules in
    let last : c.push.new.self.items ≡ c.extend_from_slice.new.self.items ++ 0 ∷ [] = search rules in
    let seen : take (length items - 1) items ≡ c.args.self.now = search rules in
    (added items bytes c.extend_from_slice.new.self.items c.push.new.self.items (set c.push.new.self.items gate 1) gate
    c.self.invariant c.requires at more last refl).front_is
    ∙ ap (λ (l : List ℕ). l ++ bytes) seen
