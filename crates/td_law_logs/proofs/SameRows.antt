-- Rows with one identity have one atom, in whatever logs of a family.
use Rattle.std.proofs.Common.{◌≡◌, ℕ, List, [], ◌∷◌, ◌++◌, length, true, Some, refl, sym, ap, ◌∙◌, subst, true≢false}
use Rattle.td_base.specs.Value.{DotValue, AtomIdValue}
use Rattle.td_base.specs.Lists.{In}
use Rattle.td_path.specs.Infix.{Pairs}
use Rattle.td_path.specs.declared.slot.Slot.{Slot}
use Rattle.td_path.specs.declared.slot.Slot.TheVariants.{Root, At}
use Rattle.td_op.specs.declared.body.Body.TheVariants.{Insert}
use Rattle.td_op.specs.Op.{OpValue}
use Rattle.td_doc.specs.Document.{DocRow, row_id, is_live, is_empty_list, IsDocument}
use Rattle.td_doc.specs.Array.{named}
use Rattle.td_base.specs.RunAtoms.{NamedAtom, run_atoms}
use Rattle.td_machine.specs.History.{Family, IsConsistent}
use Rattle.td_machine.specs.Replay.{doc_of}
use Rattle.td_law_logs.specs.Logs.{IsLogOf}
use Rattle.td_law_logs.specs.Places.{slot_holds, names_atom, place_of}
use Rattle.td_law_logs.proofs.Words.{atom_at}
use Rattle.td_law_logs.proofs.Passes.{passes_parts}
use Rattle.td_law_logs.proofs.Rows.{above_place}
use Rattle.td_law_logs.proofs.LogRows.{rows_born, run_places, run_one}
use Rattle.td_law_logs.proofs.Fitting.{Fits, fitting_of}
use Rattle.td_law_logs.proofs.Bases.{op_in, causal, one_op}

fits_tail : (newer log : List OpValue) → Fits (newer ++ log) → Fits log
fits_tail [] log f = f
fits_tail (x ∷ newer) log f = fits_tail newer log f.1

bare_of : (r : DocRow) → is_live r ≡ true → r.deletes ≡ []
bare_of r h = from r.deletes h
  where
    from : (d : List DotValue) → is_empty_list d ≡ true → d ≡ []
    from [] k = refl
    from (x ∷ d) k = absurd (true≢false (sym k))

-- the slot's atom stands where the path of a row in the slot passes it
pub focus_place : (rows others : List DocRow) → IsDocument rows → IsDocument others
    → (slot : Slot) (x : AtomIdValue) (path : Pairs) → place_of x rows ≡ Some path → place_of x others ≡ Some path
    → slot_holds slot path ≡ true
    → names_atom slot ≡ true → place_of (atom_at slot) rows ≡ place_of (atom_at slot) others
focus_place rows others d e Root x path h k g m = absurd (true≢false (sym m))
focus_place rows others d e (At z bit) x path h k g m =
    let p = passes_parts z bit path g in
    above_place rows d x path p.front p.side z (bit, p.next) p.rest h p.is
    ∙ sym (above_place others e x path p.front p.side z (bit, p.next) p.rest k p.is)

module _ (family : Family) (c : IsConsistent family) where
  abbrev n : ℕ
  n = length family

  pub fits_all : (log : List OpValue) → IsLogOf family log → Fits log
  fits_all log l =
      fits_tail l.newer log
      (subst (λ (z : List OpValue). Fits z) l.is (fitting_of family c l.site l.some l.within).fits)

  -- rows with one identity have one atom, in whatever logs
  pub same_named : (log other : List OpValue) → IsLogOf family log → IsLogOf family other → (r s : DocRow)
      → In r (doc_of log) → In s (doc_of other) → row_id r ≡ row_id s → named r ≡ named s
  same_named log other l m r s i j e =
      let a = rows_born n log (causal family c log l) r i in
      let b = rows_born n other (causal family c other m) s j in
      let p = run_places a.op.dot 0 a.run (named r) a.among in
      let q = run_places b.op.dot 0 b.run (named s) b.among in
      let dots : a.op.dot ≡ b.op.dot = sym p.dot ∙ (ap (λ (z : AtomIdValue). z.dot) e ∙ q.dot) in
      let same : a.op ≡ b.op = one_op family c a.op b.op (op_in family c log l a.op a.inside)
      (op_in family c other m b.op b.inside) dots in
      let runs : a.run ≡ b.run =
      one_run a.slot b.slot a.run b.run (sym a.is ∙ (ap (λ (z : OpValue). z.body) same ∙ b.is)) in
      run_one b.op.dot 0 b.run (named r) (named s)
      (subst (λ (z : List (List ℕ)). In (named r) (run_atoms b.op.dot z)) runs
      (subst (λ (z : DotValue). In (named r) (run_atoms z a.run)) dots a.among)) b.among e
    where
      one_run : (s t : Slot) (u v : List (List ℕ)) → Insert s u ≡ Insert t v → u ≡ v
      one_run s t u v k = cc

  pub one_row : (log other : List OpValue) → IsLogOf family log → IsLogOf family other → (r s : DocRow)
      → In r (doc_of log) → In s (doc_of other) → row_id s ≡ row_id r → s.path ≡ r.path → is_live r ≡ true
      → is_live s ≡ true → s ≡ r
  one_row log other l m r s i j id path lr ls =
      let a : s.atom ≡ r.atom = ap (λ (z : NamedAtom). z.atom) (sym (same_named log other l m r s i j (sym id))) in
      let d : s.deletes ≡ r.deletes = bare_of s ls ∙ sym (bare_of r lr) in
      λ k. record { path = path k; atom = a k; deletes = d k }
