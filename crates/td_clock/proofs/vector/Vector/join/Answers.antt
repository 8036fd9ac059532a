use Rattle.std.proofs.Common.{arith, refl, sym, ap, ◌∙◌, ◌≡◌, ◌<◌, List, ℕ, length, take}
use Rattle.td_clock.specs.Vector.{vector_join}
use Rattle.td_clock.specs.VectorParts.{IsVectorParts}
use Rattle.td_clock.proofs.VectorLemmas.{joined_to, join_more, join_parts}
use Rattle.td_clock.proofs.vector.Vector.join.Goals as goal

pub loop-i-init : goal.loop-i-init
loop-i-init c = record { size = refl; numbers = refl }

pub loop-i-preserved : goal.loop-i-preserved
loop-i-preserved c =
    let i : ℕ = c.loop-i.i in
    let within : i < length c.self.inside.numbers = omega (arith, c.self.invariant.vector.short) in
    let inside : i < length c.other.inside.numbers = omega (arith, within) in
    record {
      size = c.loop-i.invariant.size;
      numbers = join_more i c.self.inside.numbers c.other.inside.numbers c.loop-i.self-inside.numbers c.max.result
          within inside c.loop-i.invariant.numbers c.max.ensures;
    }

-- what is kept after the loop
all_joined : (n m i : ℕ) (own others v w now : List ℕ) (size : ℕ) → IsVectorParts n own → IsVectorParts m others
    → take n own ≡ v → take m others ≡ w → length v ≡ length w
    → i ≡ n → size ≡ n → now ≡ joined_to i own others → IsVectorParts size now × (take size now ≡ vector_join v w)
all_joined n m i own others v w now size left right is_v is_w same end long done =
    let one_size : m ≡ n = right.size_again ∙ ap length is_w ∙ sym same ∙ sym (ap length is_v) ∙ sym left.size_again in
    let result = join_parts n own others now left (rw one_size at right) (rw end at done) in
    rw (long, ← is_v, ← is_w, one_size) result

pub invariant_of-self : goal.invariant_of-self
invariant_of-self c =
    (all_joined c.self.inside.size c.other.inside.size c.loop-i.i c.self.inside.numbers c.other.inside.numbers
    c.args.self.now c.args.other.now c.loop-i.self-inside.numbers
    c.loop-i.self-inside.size c.self.invariant c.other.invariant c.self.view_is c.other.view_is c.requires
    (omega arith) c.loop-i.invariant.size c.loop-i.invariant.numbers).0

pub returns : goal.returns
returns c =
    (all_joined c.self.inside.size c.other.inside.size c.loop-i.i c.self.inside.numbers c.other.inside.numbers
    c.args.self.now c.args.other.now c.loop-i.self-inside.numbers
    c.loop-i.self-inside.size c.self.invariant c.other.invariant c.self.view_is c.other.view_is c.requires
    (omega arith) c.loop-i.invariant.size c.loop-i.invariant.numbers).1
