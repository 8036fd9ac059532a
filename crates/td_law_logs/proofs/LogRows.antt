-- The document of a log: it obeys the rules, and each row is that of an atom of an insert in the log.
use Rattle.std.proofs.Common.{◌≡◌, ◌≢◌, ◌⊎◌, ◌<◌, ◌≤◌, ◌+◌, ℕ, suc, List, [], ◌∷◌, length, Bool, true}
use Rattle.std.proofs.Common.{false, ◌&&◌, ◌||◌, cond, not, Option, Some, None, refl, sym, ap, ◌∙◌}
use Rattle.std.proofs.Common.{subst, inl, inr, ⊎_elim, true≢false, arith}
use Rattle.std.proofs.lemmas.Bool.{lt-ltb, ltb-true, ltb-false, and_parts}
use Rattle.std.specs.Prelude.{nat_lt}
use Rattle.td_base.specs.Value.{DotValue, AtomIdValue}
use Rattle.td_base.specs.Lists.{In}
use Rattle.td_base.proofs.Lists.{map_In, In-map, In-filter, all_of}
use Rattle.td_base.proofs.RunIds.{run_atom_dot}
use Rattle.td_path.specs.declared.slot.Slot.{Slot}
use Rattle.td_op.specs.declared.body.Body.{Body}
use Rattle.td_op.specs.declared.body.Body.TheVariants.{Insert, Delete, Propose, Commit, Abort}
use Rattle.td_op.specs.Op.{OpValue}
use Rattle.td_op.specs.Insertion.{Inserts}
use Rattle.td_doc.specs.Document.{DocRow, row_id, has_id, is_live, IsDocument}
use Rattle.td_doc.specs.Array.{named}
use Rattle.td_base.specs.RunAtoms.{NamedAtom, run_atoms_from, run_atoms, run_ids_from}
use Rattle.td_doc.specs.Deletion.{mark_deleted, add_dot}
use Rattle.td_doc.specs.Flatten.{flatten}
use Rattle.td_doc.specs.Stretches.{kept_rows, is_in}
use Rattle.td_doc.specs.Slots.{slot_path}
use Rattle.td_doc.proofs.Rules.{run_adds}
use Rattle.td_doc.proofs.Flattened.{flatten_keeps_names}
use Rattle.td_machine.specs.Counts.{IsInTurn}
use Rattle.td_base.specs.Equality.{same_dot}
use Rattle.td_machine.specs.Log.{proposed_slot}
use Rattle.td_machine.specs.Making.{effect, flatten_found}
use Rattle.td_base.proofs.Equals.{same_dot_refl, same_dot_true}
use Rattle.td_machine.proofs.Documents.{after_effect, effect_document, no_rows}
use Rattle.td_machine.proofs.Family.{not_older}
use Rattle.td_machine.specs.Replay.{doc_of}
use Rattle.td_law_logs.proofs.WellRooted.{insertion_parts}
use Rattle.td_law_logs.proofs.Words.{born_by, born}

abbrev pub HasDot : List OpValue → DotValue → Type 0
HasDot log d = (y : OpValue) × In y log × (y.dot ≡ d)

-- it is a document, and each row is of an operation of the log
abbrev pub Obeys : List OpValue → List DocRow → Type 0
Obeys log rows = IsDocument rows × ((r : DocRow) → In r rows → HasDot log (row_id r).dot)

pub obeys : (n : ℕ) (log : List OpValue) → IsInTurn n log → Obeys log (doc_of log)
obeys n [] c = (no_rows, λ r i. absurd i)
obeys n (x ∷ log) c =
    let o : Obeys log (doc_of log) = obeys n log c.1 in (
      effect_document log x.dot x.body (doc_of log) o.0
          (all_of (λ (r : DocRow). (row_id r).dot ≢ x.dot) (doc_of log)
          (λ r i e. let h = o.1 r i in not_older n x h.0 log c.0 c.1 h.1 (sym e ∙ sym h.2))),
      after_effect (λ (z : AtomIdValue). HasDot (x ∷ log) z.dot) log x.dot x.body (doc_of log) o.0
          (λ r i. let h = o.1 r i in (h.0, inr h.1, h.2))
          (λ slot run e a i. (x, inl refl, sym (run_atom_dot x.dot 0 run a i))),
    )

pub doc_is : (n : ℕ) (log : List OpValue) → IsInTurn n log → IsDocument (doc_of log)
doc_is n log c = (obeys n log c).0

-- the identities of a run's atoms are among its identities
pub among : (dot : DotValue) (k : ℕ) (run : List (List ℕ)) (a : NamedAtom) → In a (run_atoms_from dot k run)
    → In a.id (run_ids_from dot k run)
among dot k run a i = In-map (λ (b : NamedAtom). b.id) a (run_atoms_from dot k run) i

-- ---- the atoms of a run, by their places

pub record Placed (d : DotValue) (k len : ℕ) (a : NamedAtom) : Type 0 where
  pub dot : a.id.dot ≡ d
  pub least : k ≤ a.id.offset
  pub less : a.id.offset < k + len

pub run_places : (d : DotValue) (k : ℕ) (run : List (List ℕ)) (a : NamedAtom) → In a (run_atoms_from d k run)
    → Placed d k (length run) a
run_places d k [] a i = absurd i
run_places d k (atom ∷ run) a (inl e) =
    let o : a.id.offset ≡ k = ap (λ (b : NamedAtom). b.id.offset) e in
    record { dot = ap (λ (b : NamedAtom). b.id.dot) e; least = omega (arith, o); less = omega (arith, o) }
run_places d k (atom ∷ run) a (inr i) =
    let p = run_places d (suc k) run a i in
    let l : suc k ≤ a.id.offset = p.least in
    let u : a.id.offset < suc k + length run = p.less in
    record { dot = p.dot; least = omega (arith, l); less = omega (arith, u) }

pub run_one : (d : DotValue) (k : ℕ) (run : List (List ℕ)) (a b : NamedAtom) → In a (run_atoms_from d k run)
    → In b (run_atoms_from d k run) → a.id ≡ b.id → a ≡ b
run_one d k [] a b i j e = absurd i
run_one d k (atom ∷ run) a b (inl p) (inl q) e = p ∙ sym q
run_one d k (atom ∷ run) a b (inl p) (inr j) e =
    let l : suc k ≤ b.id.offset = (run_places d (suc k) run b j).least in
    let o : a.id.offset ≡ k = ap (λ (z : NamedAtom). z.id.offset) p in
    let s : a.id.offset ≡ b.id.offset = ap (λ (z : AtomIdValue). z.offset) e in
    absurd (omega (arith, l, o, s))
run_one d k (atom ∷ run) a b (inr i) (inl q) e =
    let l : suc k ≤ a.id.offset = (run_places d (suc k) run a i).least in
    let o : b.id.offset ≡ k = ap (λ (z : NamedAtom). z.id.offset) q in
    let s : a.id.offset ≡ b.id.offset = ap (λ (z : AtomIdValue). z.offset) e in
    absurd (omega (arith, l, o, s))
run_one d k (atom ∷ run) a b (inr i) (inr j) e = run_one d (suc k) run a b i j e

pub run_has : (d : DotValue) (k : ℕ) (run : List (List ℕ)) (o : ℕ) → k ≤ o → o < k + length run
    → (a : NamedAtom) × In a (run_atoms_from d k run) × (a.id ≡ record { dot = d; offset = o })
run_has d k [] o least less = absurd (omega arith)
run_has d k (atom ∷ run) o least less = ⊎_elim here (later (λ l m. run_has d (suc k) run o l m)) (first k o least)
  where
    first : (k o : ℕ) → k ≤ o → (k ≡ o) ⊎ (suc k ≤ o)
    first k o h = at (nat_lt k o) refl
      where
        at : (b : Bool) → nat_lt k o ≡ b → (k ≡ o) ⊎ (suc k ≤ o)
        at true e = let l : k < o = ltb-true k o e in inr (omega (arith, l))
        at false e = inl (omega (arith, h, ltb-false k o e))

    here : k ≡ o → (a : NamedAtom) × In a (run_atoms_from d k (atom ∷ run)) × (a.id ≡ record { dot = d; offset = o })
    here e = (
      record { id = record { dot = d; offset = k }; atom = atom },
      inl refl,
      λ i. record { dot = d; offset = e i },
    )

    later : (suc k ≤ o → o < suc k + length run → (a : NamedAtom) × In a (run_atoms_from d (suc k) run)
        × (a.id ≡ record { dot = d; offset = o })) → suc k ≤ o
        → (a : NamedAtom) × In a (run_atoms_from d k (atom ∷ run)) × (a.id ≡ record { dot = d; offset = o })
    later more l = let r = more l (omega (arith, less)) in (r.0, inr r.1, r.2)

-- ---- which atoms an insert has

-- the atom is one of an insert in the log
pub record BornIn (log : List OpValue) (a : NamedAtom) : Type 0 where
  pub op : OpValue
  pub inside : In op log
  pub slot : Slot
  pub run : List (List ℕ)
  pub is : op.body ≡ Insert slot run
  pub among : In a (run_atoms op.dot run)

-- an insert with the atom x
pub record HasAtom (o : OpValue) (x : AtomIdValue) : Type 0 where
  pub slot : Slot
  pub run : List (List ℕ)
  pub is : o.body ≡ Insert slot run
  pub atom : NamedAtom
  pub among : In atom (run_atoms o.dot run)
  pub named : atom.id ≡ x

pub born_true : (o : OpValue) (x : AtomIdValue) → HasAtom o x → born o x ≡ true
born_true o x h =
    let p = run_places o.dot 0 h.run h.atom h.among in
    let d : same_dot o.dot x.dot ≡ true =
    subst (λ (z : DotValue). same_dot o.dot z ≡ true) (sym p.dot ∙ ap (λ (z : AtomIdValue). z.dot) h.named)
    (same_dot_refl o.dot) in
    let f : h.atom.id.offset ≡ x.offset = ap (λ (z : AtomIdValue). z.offset) h.named in
    let u : h.atom.id.offset < 0 + length h.run = p.less in
    let l : nat_lt x.offset (length h.run) ≡ true = lt-ltb x.offset (length h.run) (omega (arith, f, u)) in
    ap (λ (b : Body). born_by o.dot b x) h.is ∙ ((λ i. d i && nat_lt x.offset (length h.run)) ∙ l)

-- an operation that puts the atom has it
pub has_inserted : (o : OpValue) (x : AtomIdValue) → Inserts o x → HasAtom o x
has_inserted o x h =
    let p = insertion_parts o h.insertion h.is in
    let a = map_In (λ (b : NamedAtom). b.id) x (run_atoms h.insertion.dot h.insertion.run) h.among in
    record {
      slot = h.insertion.slot;
      run = h.insertion.run;
      is = p.body;
      atom = a.0;
      among = subst (λ (d : DotValue). In a.0 (run_atoms d h.insertion.run)) p.dot a.1;
      named = sym a.2;
    }

pub born_inserted : (o : OpValue) (x : AtomIdValue) → Inserts o x → born o x ≡ true
born_inserted o x h = born_true o x (has_inserted o x h)

pub born_parts : (o : OpValue) (x : AtomIdValue) → born o x ≡ true → HasAtom o x
born_parts o x h = at o.body refl h
  where
    at : (b : Body) → o.body ≡ b → born_by o.dot b x ≡ true → HasAtom o x
    at (Insert slot run) e k =
        let p = and_parts _ _ k in
        let d : o.dot ≡ x.dot = same_dot_true o.dot x.dot p.0 in
        let l : x.offset < length run = ltb-true x.offset (length run) p.1 in
        let r = run_has o.dot 0 run x.offset (omega arith) (omega (arith, l)) in
        record {
          slot = slot;
          run = run;
          is = e;
          atom = r.0;
          among = r.1;
          named =
              r.2 ∙ (λ i. record { dot = d i; offset = x.offset });
        }
    at (Delete target) e k = absurd (true≢false (sym k))
    at (Propose slot) e k = absurd (true≢false (sym k))
    at (Commit p) e k = absurd (true≢false (sym k))
    at (Abort p) e k = absurd (true≢false (sym k))

pub born_dot : (o : OpValue) (x : AtomIdValue) → born o x ≡ true → o.dot ≡ x.dot
born_dot o x h = let p = born_parts o x h in
    sym (run_places o.dot 0 p.run p.atom p.among).dot ∙ ap (λ (z : AtomIdValue). z.dot) p.named

pub born_in : (log : List OpValue) (a : NamedAtom) (b : BornIn log a) → born b.op a.id ≡ true
born_in log a b =
    born_true b.op a.id (record { slot = b.slot; run = b.run; is = b.is; atom = a; among = b.among; named = refl })

-- ---- each row is of an atom of an insert in the log

pub named_after : (log : List OpValue) (dot : DotValue) (body : Body) (rows : List DocRow) → IsDocument rows
    → (r : DocRow) → In r (effect log dot body rows)
    → ((q : DocRow) × In q rows × (named r ≡ named q))
    ⊎ ((slot : Slot) × (run : List (List ℕ)) × (body ≡ Insert slot run) × In (named r) (run_atoms dot run))
named_after log dot (Insert slot run) rows d r i =
    ⊎_elim (λ (k : In r rows). inl (r, k, refl)) (λ (k : In (named r) (run_atoms dot run)). inr (slot, run, refl, k))
    (run_adds slot dot run rows r i)
named_after log dot (Delete target) rows d r i =
    let q = map_In (mark_deleted target dot) r rows i in
    inl (q.0, q.1, ap named q.2 ∙ same (has_id target q.0) q.0)
  where
    same : (b : Bool) (q : DocRow)
        → named (cond b (record { path = q.path; atom = q.atom; deletes = add_dot dot q.deletes }) q) ≡ named q
    same true q = refl
    same false q = refl
named_after log dot (Propose slot) rows d r i = inl (r, i, refl)
named_after log dot (Abort p) rows d r i = inl (r, i, refl)
named_after log dot (Commit p) rows d r i = at (proposed_slot p log) i
  where
    at : (o : Option Slot) → In r (flatten_found o rows) → ((q : DocRow) × In q rows × (named r ≡ named q))
        ⊎ ((slot : Slot) × (run : List (List ℕ)) × (Commit p ≡ Insert slot run) × In (named r) (run_atoms dot run))
    at None j = inl (r, j, refl)
    at (Some slot) j =
        let q = map_In named (named r) (kept_rows rows slot)
        (subst (In (named r)) (flatten_keeps_names rows slot d) (In-map named r (flatten slot rows) j)) in
        inl (q.0, (In-filter (λ (z : DocRow). is_live z || not (is_in (slot_path rows slot) z)) q.0 rows q.1).0, q.2)

pub rows_born : (n : ℕ) (log : List OpValue) → IsInTurn n log → (r : DocRow) → In r (doc_of log)
    → BornIn log (named r)
rows_born n [] c r i = absurd i
rows_born n (x ∷ log) c r i =
    ⊎_elim
    (λ (k : (q : DocRow) × In q (doc_of log) × (named r ≡ named q)).
    let b = rows_born n log c.1 k.0 k.1 in
    record {
      op = b.op;
      inside = inr b.inside;
      slot = b.slot;
      run = b.run;
      is = b.is;
      among =
          subst (λ (z : NamedAtom). In z (run_atoms b.op.dot b.run)) (sym k.2) b.among;
    })
    (λ (k : (slot : Slot) × (run : List (List ℕ)) × (x.body ≡ Insert slot run) × In (named r) (run_atoms x.dot run)).
    record { op = x; inside = inl refl; slot = k.0; run = k.1; is = k.2; among = k.3 })
    (named_after log x.dot x.body (doc_of log) (doc_is n log c.1) r i)
