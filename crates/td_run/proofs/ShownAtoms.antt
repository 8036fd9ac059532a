-- What a machine shows that a legal history reached: each is an atom, so the text is UTF-8; and they are fewer than
-- 2 ^ 32.
use Rattle.std.proofs.Common.{◌≡◌, ◌<◌, ◌≤◌, ◌+◌, ◌*◌, ◌^◌, ◌-◌, ◌++◌, ℕ, suc, List, [], ◌∷◌, Bool, true, false}
use Rattle.std.proofs.Common.{nat_eq, length, take, drop, Option, Some, None, if◌then◌else◌, All, get_or, set}
use Rattle.std.proofs.Common.{replicate, refl, sym, ap, subst, inl, inr, arith, append_assoc}
use Rattle.std.proofs.lemmas.Bool.{eqb-true}
use Rattle.std.proofs.lemmas.List.{length-append, length-drop, take-append-drop}
use Rattle.std.proofs.lemmas.List.Elements.{All-nil, All-head, All-tail, All-append, All-take, All-drop}
use Rattle.std.proofs.lemmas.List.Elements.{All-replicate, All-set}
use Rattle.std.proofs.lemmas.List.Sums.{sum_by-set, sum_by-le}
use Rattle.std.proofs.lemmas.List.Folds.{sum_by-replicate}
use Rattle.std.proofs.lemmas.Str.{IsUtf8-nil, IsUtf8-append}
use Rattle.std.proofs.lemmas.Option.{same_Some}
use Rattle.std.specs.List.{concat, sum_by}
use Rattle.std.specs.Prelude.{remove}
use Rattle.std.specs.Option.{option_and_then}
use Rattle.std.specs.Str.{IsUtf8}
use Rattle.td_base.specs.Atom.{IsAtom}
use Rattle.td_base.specs.Lists.{In}
use Rattle.td_base.specs.Run.{IsRun}
use Rattle.td_base.specs.Value.{DotValue}
use Rattle.td_base.specs.declared.dot.TheConstants.{MAX_SEQ}
use Rattle.td_base.specs.declared.site.TheConstants.{MAX_SITE}
use Rattle.td_base.proofs.RunIds.{offset_fits}
use Rattle.td_clock.specs.Vector.{vector_get}
use Rattle.td_doc.specs.Document.{DocRow, live_atoms, live_rows, text_of}
use Rattle.td_doc.specs.Answers.{is_live_id, live_before}
use Rattle.td_doc.specs.Insertion.{insert_run}
use Rattle.td_doc.proofs.Typing.{count_of_atoms}
use Rattle.td_op.specs.Change.{changed}
use Rattle.td_op.specs.Message.{IsBody}
use Rattle.td_op.specs.Op.{OpValue}
use Rattle.td_op.specs.Input.{IsInput}
use Rattle.td_op.specs.declared.body.Body.{Body}
use Rattle.td_op.specs.declared.body.Body.TheVariants.{Insert, Delete, Propose, Commit, Abort}
use Rattle.td_op.specs.declared.change.Change.TheVariants.{Cut}
use Rattle.td_op.specs.declared.input.Input.{Input}
use Rattle.td_machine.specs.Counts.{counts, IsInTurn}
use Rattle.td_machine.specs.History.{IsReached}
use Rattle.td_machine.specs.Machine.{Machine}
use Rattle.td_machine.specs.Request.{len}
use Rattle.td_machine.specs.Shown.{put_at_index, change_by, changed_by, op_over}
use Rattle.td_machine.specs.Step.{step}
use Rattle.td_machine.proofs.Changes.{changes}
use Rattle.td_machine.proofs.Induction.{built_of, by_steps, reached_step}
use Rattle.td_machine.proofs.Turns.{counted, length_counts}
use Rattle.td_machine.proofs.Walk.{step_grows}
use Rattle.td_law_replay.proofs.Telling.{same_site}
use Rattle.td_law_replay.proofs.Values.{values_of}

-- ---- a change of the atoms

-- these are atoms, and so many at most
pub record AreAtoms (most : ℕ) (atoms : List (List ℕ)) : Type 0 where
  pub each : All IsAtom atoms
  pub few : length atoms ≤ most

-- a run has no more atoms than bytes
few_atoms : (run : List (List ℕ)) → IsRun run → length run ≤ 64
few_atoms run is =
    let last : length run - 1 ≤ 63 = offset_fits run (length run - 1) is (omega (arith, is.some)) in
    omega (arith, last)

more_atoms : (k : ℕ) (atoms : List (List ℕ)) → AreAtoms k atoms → AreAtoms (k + 64) atoms
more_atoms k atoms a = record { each = a.each; few = omega (arith, a.few) }

put_atoms : (k index : ℕ) (run atoms : List (List ℕ)) → IsRun run → AreAtoms k atoms
    → AreAtoms (k + 64) (take index atoms ++ (run ++ drop index atoms))
put_atoms k index run atoms is a =
    let few : length run ≤ 64 = few_atoms run is in
    let whole : length (take index atoms ++ drop index atoms) ≡ length atoms =
    ap (λ (l : List (List ℕ)). length l) (take-append-drop index atoms) in
    let parts : length (take index atoms ++ drop index atoms) ≡ length (take index atoms) + length (drop index atoms) =
    length-append (take index atoms) (drop index atoms) in
    let outer : length (take index atoms ++ (run ++ drop index atoms))
    ≡ length (take index atoms) + length (run ++ drop index atoms) =
    length-append (take index atoms) (run ++ drop index atoms) in
    let inner : length (run ++ drop index atoms) ≡ length run + length (drop index atoms) =
    length-append run (drop index atoms) in
    record {
      each = All-append IsAtom (take index atoms) (run ++ drop index atoms) (All-take IsAtom index atoms a.each)
          (All-append IsAtom run (drop index atoms) is.each (All-drop IsAtom index atoms a.each));
      few = omega (arith, few, whole, parts, outer, inner, a.few);
    }

put_shown : (k index : ℕ) (run atoms : List (List ℕ)) → IsRun run → AreAtoms k atoms
    → AreAtoms (k + 64) (changed (put_at_index index run) atoms)
put_shown k index [] atoms is a = absurd (omega (arith, is.some))
put_shown k index (atom ∷ []) atoms is a = put_atoms k index (atom ∷ []) atoms is a
put_shown k index (atom ∷ next ∷ run) atoms is a =
    subst (AreAtoms (k + 64)) (sym (append_assoc (take index atoms) (atom ∷ next ∷ run) (drop index atoms)))
    (put_atoms k index (atom ∷ next ∷ run) atoms is a)

cut_atoms : (k index : ℕ) (atoms : List (List ℕ)) → AreAtoms k atoms → AreAtoms (k + 64) (remove atoms index)
cut_atoms k index atoms a =
    let parts : length (take index atoms ++ drop (suc index) atoms)
    ≡ length (take index atoms) + length (drop (suc index) atoms) =
    length-append (take index atoms) (drop (suc index) atoms) in
    let whole : length (take index atoms ++ drop index atoms) ≡ length atoms =
    ap (λ (l : List (List ℕ)). length l) (take-append-drop index atoms) in
    let all : length (take index atoms ++ drop index atoms) ≡ length (take index atoms) + length (drop index atoms) =
    length-append (take index atoms) (drop index atoms) in
    let back : length (drop index atoms) ≡ length atoms - index = length-drop index atoms in
    let less : length (drop (suc index) atoms) ≡ length atoms - suc index = length-drop (suc index) atoms in
    record {
      each = All-append IsAtom (take index atoms) (drop (suc index) atoms) (All-take IsAtom index atoms a.each)
          (All-drop IsAtom (suc index) atoms a.each);
      few = omega (arith, a.few, parts, whole, all, back, less);
    }

change_atoms : (k : ℕ) (dot : DotValue) (body : Body) (rows : List DocRow) (atoms : List (List ℕ)) → IsBody body
    → AreAtoms k atoms → AreAtoms (k + 64) (changed_by (change_by dot body rows) atoms)
change_atoms k dot (Insert slot run) rows atoms is a =
    put_shown k (live_before (record { dot = dot; offset = 0 }) (insert_run slot dot run rows)) run atoms is.1 a
change_atoms k dot (Delete target) rows atoms is a = at (is_live_id rows target)
  where
    at : (b : Bool)
        → AreAtoms (k + 64) (changed_by (if b then Some (Cut (live_before target rows)) else None) atoms)
    at true = cut_atoms k (live_before target rows) atoms a
    at false = more_atoms k atoms a
change_atoms k dot (Propose slot) rows atoms is a = more_atoms k atoms a
change_atoms k dot (Commit p) rows atoms is a = more_atoms k atoms a
change_atoms k dot (Abort p) rows atoms is a = more_atoms k atoms a

atoms_utf8 : (atoms : List (List ℕ)) → All IsAtom atoms → IsUtf8 (concat atoms)
atoms_utf8 [] h = IsUtf8-nil
atoms_utf8 (atom ∷ atoms) h =
    IsUtf8-append atom (concat atoms) (All-head IsAtom atom atoms h).text
    (atoms_utf8 atoms (All-tail IsAtom atom atoms h))

-- ---- a log

-- no site has more operations than an operation can have a number
counts_small : (n : ℕ) (log : List OpValue) → IsInTurn n log → ((x : OpValue) → In x log → x.dot.seq ≤ MAX_SEQ)
    → All (λ (k : ℕ). k ≤ MAX_SEQ) (counts n log)
counts_small n [] c h = All-replicate (λ (k : ℕ). k ≤ MAX_SEQ) n 0 (omega arith)
counts_small n (x ∷ log) c h =
    All-set (λ (k : ℕ). k ≤ MAX_SEQ) (counts n log) (x.dot.site - 1) (vector_get (counts n log) x.dot.site + 1)
    (subst (λ (k : ℕ). k ≤ MAX_SEQ) c.0.next (h x (inl refl))) (counts_small n log c.1 (λ y i. h y (inr i)))

abbrev total : List ℕ → ℕ
total v = sum_by (λ (k : ℕ). k) v

counts_all : (n : ℕ) (log : List OpValue) → IsInTurn n log → total (counts n log) ≡ length log
counts_all n [] c =
    let none : total (replicate n 0) ≡ n * 0 = sum_by-replicate (λ (k : ℕ). k) n 0 in omega (arith, none)
counts_all n (x ∷ log) c =
    let v : List ℕ = counts n log in
    let some : 0 < x.dot.site = c.0.some in
    let within : x.dot.site ≤ length v = c.0.within in
    let place : ℕ = x.dot.site - 1 in
    let more : total (set v place (get_or v place 0 + 1)) + get_or v place 0 ≡ total v + (get_or v place 0 + 1) =
    sum_by-set (λ (k : ℕ). k) v place (get_or v place 0 + 1) 0 (omega (arith, some, within)) in
    let rest : total v ≡ length log = counts_all n log c.1 in
    omega (arith, more, rest)

-- 64 sites with 65,535 operations each
log_few : (n : ℕ) (log : List OpValue) → n ≤ 64 → IsInTurn n log → ((x : OpValue) → In x log → x.dot.seq ≤ MAX_SEQ)
    → length log ≤ 4194240
log_few n log few c h =
    let all : total (counts n log) ≡ length log = counts_all n log c in
    let long : length (counts n log) ≡ n = length_counts n log in
    let below : total (counts n log) ≤ length (counts n log) * 65535 =
    sum_by-le (λ (k : ℕ). k) 65535 (counts n log) (counts_small n log c h) in
    omega (arith, all, long, below, few)

-- ---- machines

pub size_few : (m : Machine) → IsReached m → m.size ≤ MAX_SITE
size_few =
    by_steps (λ (m : Machine). m.size ≤ MAX_SITE) (λ site size some within few. few)
    (λ m input r valid h. subst (λ (k : ℕ). k ≤ MAX_SITE) (sym (same_site m input r valid).1) h)

-- each operation puts 64 atoms at most
abbrev Shows : Machine → Type 0
Shows m = AreAtoms (64 * length m.log) (live_atoms m.doc)

-- an operation that has so many older ones is of a longer log
over : (k : ℕ) (log : List OpValue) (x : OpValue) → op_over k log ≡ Some x → In x log × (k < length log)
over k [] x e = absurd cc
over k (y ∷ log) x e = at (nat_eq (length log) k) refl e (over k log x)
  where
    at : (b : Bool) → nat_eq (length log) k ≡ b → (if b then Some y else op_over k log) ≡ Some x
        → (op_over k log ≡ Some x → In x log × (k < length log)) → In x (y ∷ log) × (k < length (y ∷ log))
    at true f g older =
        let same : length log ≡ k = eqb-true (length log) k f in
        (inl (same_Some x y (sym g)), omega (arith, same))
    at false f g older = let q = older g in (inr q.0, omega (arith, q.1))

at_most : (j k : ℕ) (atoms : List (List ℕ)) → j ≤ k → AreAtoms j atoms → AreAtoms k atoms
at_most j k atoms less a = record { each = a.each; few = omega (arith, a.few, less) }

step_shows : (m : Machine) (input : Input) → IsReached m → IsInput input → Shows m → Shows (step m input).machine
step_shows m input r valid h =
    subst (AreAtoms (64 * length n.log)) (sym (changes m input r valid)) (at (op_over (length m.log) n.log) refl)
  where
    n : Machine
    n = (step m input).machine

    longer : length m.log ≤ length n.log
    longer =
        let g = step_grows m input valid (λ message e. tt) (built_of m r).built in
        let parts : length (g.0 ++ m.log) ≡ length g.0 + length m.log = length-append g.0 m.log in
        let same : length n.log ≡ length (g.0 ++ m.log) = ap (λ (l : List OpValue). length l) g.1 in
        omega (arith, parts, same)

    at : (o : Option OpValue) → op_over (length m.log) n.log ≡ o
        → AreAtoms (64 * length n.log)
        (changed_by (option_and_then (λ (x : OpValue). change_by x.dot x.body m.doc) o) (live_atoms m.doc))
    at None e = at_most (64 * length m.log) (64 * length n.log) (live_atoms m.doc) (omega (arith, longer)) h
    at (Some x) e =
        let q = over (length m.log) n.log x e in
        let after : List (List ℕ) = changed_by (change_by x.dot x.body m.doc) (live_atoms m.doc) in
        let body : IsBody x.body = (values_of n (reached_step m input r valid) x q.0).body in
        at_most (64 * length m.log + 64) (64 * length n.log) after (omega (arith, q.1))
        (change_atoms (64 * length m.log) x.dot x.body m.doc (live_atoms m.doc) body h)

shows : (m : Machine) → IsReached m → Shows m
shows =
    by_steps (λ (m : Machine). Shows m)
    (λ site size some within few. record { each = All-nil IsAtom; few = omega arith }) step_shows

pub text_utf8 : (m : Machine) → IsReached m → IsUtf8 (text_of m.doc)
text_utf8 m r = atoms_utf8 (live_atoms m.doc) (shows m r).each

pub len_short : (m : Machine) → IsReached m → len m < 2 ^ 32
len_short m r =
    let c = counted m (built_of m r).built in
    let log : length m.log ≤ 4194240 =
    log_few m.size m.log (size_few m r) c.1 (λ x i. (values_of m r x i).dot.greatest) in
    let atoms : length (live_atoms m.doc) ≤ 64 * length m.log = (shows m r).few in
    let same : length (live_atoms m.doc) ≡ length (live_rows m.doc) = count_of_atoms m.doc in
    omega (arith, log, atoms, same)
