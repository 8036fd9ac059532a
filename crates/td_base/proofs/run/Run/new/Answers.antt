use Rattle.std.proofs.Common.{rules, tests, arith, refl, ap, ◌≡◌, ◌<◌, length, take, ℕ}
use Rattle.std.proofs.Common.{◌+◌, ◌≤◌, List, get_or, length-append}
use Rattle.std.specs.List.{concat}
use Rattle.td_base.specs.Atom.{IsAtom}
use Rattle.td_base.specs.Run.{IsRun}
use Rattle.td_base.specs.RunParts.{IsRunParts, atoms_of, ends_of, bytes_of}
use Rattle.std.proofs.lemmas.List.{take_all}
use Rattle.std.proofs.lemmas.List.Elements.{All-take}
use Rattle.td_base.proofs.RunLemmas.{with_next, concat_push, front_short, write_next, mark_end, parts_of}
use Rattle.td_base.proofs.run.Run.new.Goals as goal

-- with the next atom the bytes are still within the run
next_within : (atoms : List (List ℕ)) (i : ℕ) (atom : List ℕ) (end : ℕ) → i < length atoms → atom
    ≡ get_or atoms i atom → end ≡ length (concat (take i atoms)) + length atom
    → end ≤ length (concat atoms)
next_within atoms i atom end within read at =
    let next = ap (λ (front : List (List ℕ)). length (concat front)) (with_next atoms i atom within read) in
    let size = ap length (concat_push (take i atoms) atom) in
    omega (arith, length-append (concat (take i atoms)) atom, front_short atoms (i + 1))

pub overflow_add-end : goal.overflow_add-end
overflow_add-end c =
    let short = next_within c.args.atoms.now c.loop-atom.atom-index c.atom-item.result _ c.loop-atom-test.true
    c.atom-item.is refl in
    rw c.bytes-piece.ensures.bytes (omega arith)

pub slice_bounds-bytes-end : goal.slice_bounds-bytes-end
slice_bounds-bytes-end c =
    let short = next_within c.args.atoms.now c.loop-atom.atom-index c.atom-item.result _ c.loop-atom-test.true
    c.atom-item.is refl in
    rw c.bytes-piece.ensures.bytes (omega arith)

pub loop-atom-preserved : goal.loop-atom-preserved
loop-atom-preserved c =
    let atoms : List (List ℕ) = c.args.atoms.now in
    let i : ℕ = c.loop-atom.atom-index in
    let atom : List ℕ = c.atom-item.result in
    let next = with_next atoms i atom c.loop-atom-test.true c.atom-item.is in
    let size = ap length (concat_push (take i atoms) atom) in
    let long = length-append (concat (take i atoms)) atom in
    let short = next_within atoms i atom _ c.loop-atom-test.true c.atom-item.is refl in
    record {
      at = rw (next, c.bytes-piece.ensures.bytes) (omega arith);
      bytes = rw (next, c.copy_from_slice.ensures.after, c.bytes-piece.ensures.bytes)
          (write_next (take i atoms) atom c.loop-atom.bytes c.loop-atom.end _ c.loop-atom.invariant.bytes
          c.loop-atom.invariant.at refl (omega arith));
      ends = rw (next, c.bytes-piece.ensures.bytes, c.loop-atom.invariant.ends)
          (mark_end 64 (take i atoms) atom _ (All-take IsAtom i atoms c.bytes_together-len.ensures.atoms)
          c.bytes-piece.ensures.atom.some (omega arith) (omega arith));
    }

-- at the end of the loop all atoms are kept
all_kept : (atoms : List (List ℕ)) (i : ℕ) (bytes : List ℕ) (ends : ℕ) → length atoms ≤ i → IsRun atoms → bytes
    ≡ bytes_of (take i atoms)
    → ends ≡ ends_of (take i atoms) → IsRunParts bytes ends × (atoms_of ends bytes ≡ atoms)
all_kept atoms i bytes ends end run kept marked =
    let all : take i atoms ≡ atoms = take_all i atoms end in
    parts_of atoms bytes ends run (rw all at kept) (rw all at marked)

pub invariant_of-result : goal.invariant_of-result
invariant_of-result c =
    let run : IsRun c.args.atoms.now = record {
      some = search (rules, tests);
      short = omega arith;
      each = c.bytes_together-len.ensures.atoms;
    } in
    (all_kept c.args.atoms.now c.loop-atom.atom-index c.loop-atom.bytes c.loop-atom.ends c.loop-atom-test.false run
    c.loop-atom.invariant.bytes c.loop-atom.invariant.ends).0

pub returns-clause-ok : goal.returns-clause-ok
returns-clause-ok c =
    let run : IsRun c.args.atoms.now = record {
      some = search (rules, tests);
      short = omega arith;
      each = c.bytes_together-len.ensures.atoms;
    } in (
      run,
      (all_kept c.args.atoms.now c.loop-atom.atom-index c.loop-atom.bytes c.loop-atom.ends c.loop-atom-test.false
          run c.loop-atom.invariant.bytes c.loop-atom.invariant.ends).1,
    )
