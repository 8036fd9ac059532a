use Rattle.std.proofs.Common.{Some, ap, arith, refl, sym, ◌∙◌, ◌≡◌, ◌<◌, [], length, take, drop, ℕ, ◌+◌, List, get_or}
use Rattle.std.specs.List.{concat}
use Rattle.td_base.specs.Run.{IsRun}
use Rattle.td_base.specs.RunParts.{ends_of, bytes_of}
use Rattle.std.specs.Int.Count.{count_trailing_zeros}
use Rattle.std.proofs.lemmas.Option.{slice_get-get_or}
use Rattle.td_base.proofs.RunLemmas.{IsNextAtom, next_atom, atom_bytes}
use Rattle.td_base.proofs.run.Run.atom.Goals as goal

-- the atom behind those that were passed
passed : (atoms : List (List ℕ)) (i start ends : ℕ) → IsRun atoms → i < length atoms → start
    ≡ length (concat (take i atoms)) → ends ≡ ends_of (drop i atoms)
    → IsNextAtom 64 atoms i (get_or atoms i []) × (start + (count_trailing_zeros 64 ends + 1)
    ≡ length (concat (take (i + 1) atoms)))
passed atoms i start ends run within at marked =
    let next = next_atom 64 atoms i (omega arith) run within in
    let size = next.end in
    (next, rw marked (omega arith))

pub loop-init : goal.loop-init
loop-init c = record { start = refl; ends = rw (← c.self.view_is) c.self.invariant.ends_again }

pub overflow_add-start : goal.overflow_add-start
overflow_add-start c =
    let next = passed c.args.self.now c.loop.counter c.loop.start c.loop.ends c.len.ensures.run (omega arith)
    c.loop.invariant.start c.loop.invariant.ends in
    omega (arith, next.1, next.0.short)

pub overflow_shr-ends : goal.overflow_shr-ends
overflow_shr-ends c =
    let atoms : List (List ℕ) = c.args.self.now in
    let i : ℕ = c.loop.counter in
    let next = passed atoms i c.loop.start c.loop.ends c.len.ensures.run (omega arith) c.loop.invariant.start
    c.loop.invariant.ends in
    let later = next_atom 64 atoms (i + 1) (omega arith) c.len.ensures.run (omega arith) in
    omega (arith, next.1, later.is.some)

pub loop-preserved : goal.loop-preserved
loop-preserved c =
    let next = passed c.args.self.now c.loop.counter c.loop.start c.loop.ends c.len.ensures.run (omega arith)
    c.loop.invariant.start c.loop.invariant.ends in
    record {
      start = next.1;
      ends = rw (c.loop.invariant.ends, next.0.end) next.0.behind;
    }

pub overflow_add-end : goal.overflow_add-end
overflow_add-end c =
    let next = passed c.args.self.now c.loop.counter c.loop.start c.loop.ends c.len.ensures.run (omega arith)
    c.loop.invariant.start c.loop.invariant.ends in
    omega (arith, next.1, next.0.short)

pub overflow_add-end-2 : goal.overflow_add-end-2
overflow_add-end-2 c =
    let next = passed c.args.self.now c.loop.counter c.loop.start c.loop.ends c.len.ensures.run (omega arith)
    c.loop.invariant.start c.loop.invariant.ends in
    omega (arith, next.1, next.0.short)

pub slice_bounds-of-end : goal.slice_bounds-of-end
slice_bounds-of-end c =
    let next = passed c.args.self.now c.loop.counter c.loop.start c.loop.ends c.len.ensures.run (omega arith)
    c.loop.invariant.start c.loop.invariant.ends in
    omega (arith, next.1, next.0.short)

pub of-requires : goal.of-requires
of-requires c =
    let atoms : List (List ℕ) = c.args.self.now in
    let i : ℕ = c.args.i in
    let here : c.loop.counter ≡ i = omega arith in
    let start = rw here at c.loop.invariant.start in
    let next = passed atoms i c.loop.start c.loop.ends c.len.ensures.run (omega arith) start
    (rw here at c.loop.invariant.ends) in
    let kept : c.self.inside.bytes ≡ bytes_of atoms = rw (← c.self.view_is) c.self.invariant.bytes_again in
    let end : ℕ = c.loop.start + count_trailing_zeros 64 c.loop.ends + 1 in
    rw (atom_bytes atoms i c.loop.start end c.self.inside.bytes (omega arith) kept start
    (omega (arith, next.1, next.0.start))) next.0.is

pub returns : goal.returns
returns c =
    let atoms : List (List ℕ) = c.args.self.now in
    let i : ℕ = c.args.i in
    let here : c.loop.counter ≡ i = omega arith in
    let start = rw here at c.loop.invariant.start in
    let next = passed atoms i c.loop.start c.loop.ends c.len.ensures.run (omega arith) start
    (rw here at c.loop.invariant.ends) in
    let kept : c.self.inside.bytes ≡ bytes_of atoms = rw (← c.self.view_is) c.self.invariant.bytes_again in
    let end : ℕ = c.loop.start + count_trailing_zeros 64 c.loop.ends + 1 in
    let piece = atom_bytes atoms i c.loop.start end c.self.inside.bytes (omega arith) kept start
    (omega (arith, next.1, next.0.start)) in
    ap Some (c.of.ensures ∙ piece) ∙ sym (slice_get-get_or atoms i [] (omega arith))
