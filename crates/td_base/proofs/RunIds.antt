-- The identities of the atoms of a run.
use Rattle.std.proofs.Common.{inl, inr, ◌≡◌, ◌+◌, ◌<◌, ◌≤◌, ℕ, zero, suc, List, []}
use Rattle.std.proofs.Common.{◌∷◌, ◌++◌, length, take, ap, ◌∙◌, arith}
use Rattle.td_base.specs.declared.atom_id.TheConstants.{MAX_OFFSET}
use Rattle.td_base.specs.Run.{IsRun}
use Rattle.td_base.specs.Value.{DotValue, AtomIdValue}
use Rattle.td_base.specs.Lists.{In}
use Rattle.td_base.specs.RunAtoms.{NamedAtom, run_atoms_from, run_ids_from}
use Rattle.td_base.proofs.Lists.{In-map}
use Rattle.td_base.proofs.RunPieces.{count_within}

ids_next : (dot : DotValue) (k n : ℕ) (run : List (List ℕ)) → n < length run → run_ids_from dot k (take (suc n) run)
    ≡ run_ids_from dot k (take n run) ++ (record { dot = dot; offset = k + n } ∷ [])
ids_next dot k n [] h = absurd (omega arith)
ids_next dot k zero (atom ∷ run) h = let e : k ≡ k + 0 = omega arith in λ i. record { dot = dot; offset = e i } ∷ []
ids_next dot k (suc n) (atom ∷ run) h =
    let e : suc k + n ≡ k + suc n = omega arith in
    ap (λ ids. record { dot = dot; offset = k } ∷ ids)
    (ids_next dot (suc k) n run (omega arith) ∙ ap
    (λ m. run_ids_from dot (suc k) (take n run) ++ (record { dot = dot; offset = m } ∷ [])) e)

-- with one more atom
pub ids_more : (dot : DotValue) (n : ℕ) (run : List (List ℕ)) → n < length run → run_ids_from dot 0 (take (n + 1) run)
    ≡ run_ids_from dot 0 (take n run) ++ (record { dot = dot; offset = n } ∷ [])
ids_more dot n run h =
    let e : n + 1 ≡ suc n = omega arith in
    let z : 0 + n ≡ n = omega arith in
    ap (λ m. run_ids_from dot 0 (take m run)) e ∙ ids_next dot 0 n run h
    ∙ ap (λ m. run_ids_from dot 0 (take n run) ++ (record { dot = dot; offset = m } ∷ [])) z

-- every place in a run is an offset
pub offset_fits : (run : List (List ℕ)) (n : ℕ) → IsRun run → n < length run → n ≤ MAX_OFFSET
offset_fits run n is h = omega (arith, count_within run is.each, is.short)

-- each has the insert's dot
pub run_id_dot : (dot : DotValue) (k : ℕ) (run : List (List ℕ)) (x : AtomIdValue) → In x (run_ids_from dot k run)
    → x.dot ≡ dot
run_id_dot dot k [] x i = absurd i
run_id_dot dot k (atom ∷ run) x (inl e) = ap (λ (y : AtomIdValue). y.dot) e
run_id_dot dot k (atom ∷ run) x (inr i) = run_id_dot dot (suc k) run x i

pub run_atom_dot : (dot : DotValue) (k : ℕ) (run : List (List ℕ)) (a : NamedAtom) → In a (run_atoms_from dot k run)
    → a.id.dot ≡ dot
run_atom_dot dot k run a i = run_id_dot dot k run a.id (In-map (λ (b : NamedAtom). b.id) a (run_atoms_from dot k run) i)
