-- Each row is of an insert in the log, and each operation names an atom of an insert that was known where it was made.
use Rattle.std.proofs.Common.{◌≡◌, ◌<◌, ◌≤◌, ◌++◌, ℕ, List, ◌∷◌, Bool, true, false, length, Some}
use Rattle.std.proofs.Common.{refl, sym, ap, ◌∙◌, subst, inl, inr, true≢false, arith}
use Rattle.std.specs.Prelude.{IfSome}
use Rattle.std.specs.Option.{is_some}
use Rattle.td_base.specs.Value.{DotValue, AtomIdValue}
use Rattle.td_base.specs.Lists.{In}
use Rattle.td_path.specs.declared.slot.Slot.{Slot}
use Rattle.td_path.specs.declared.slot.Slot.TheVariants.{Root, At}
use Rattle.td_op.specs.declared.body.Body.{Body}
use Rattle.td_op.specs.declared.body.Body.TheVariants.{Insert, Delete, Propose, Commit, Abort}
use Rattle.td_op.specs.declared.message.Message.{Message}
use Rattle.td_op.specs.Op.{OpValue, IsOp, body_site, named_atom}
use Rattle.td_op.specs.Message.{IsBody}
use Rattle.td_doc.specs.Document.{DocRow, row_id, find_row}
use Rattle.td_doc.proofs.Rules.{found}
use Rattle.td_op.specs.Insertion.{Inserts, insertion_by}
use Rattle.td_op.proofs.InsertionLemmas.{inserted_dot}
use Rattle.td_base.specs.RunAtoms.{NamedAtom, run_atoms}
use Rattle.td_base.proofs.Lists.{In-map}
use Rattle.td_path.specs.Slot.{slot_atom}
use Rattle.td_doc.specs.Answers.{is_rooted}
use Rattle.td_machine.specs.Decision.{Ballot, revise, close, new_ballot}
use Rattle.td_machine.specs.Counts.{counts, IsInTurn}
use Rattle.td_machine.specs.Machine.{Machine, next_dot, next_op}
use Rattle.td_machine.specs.Making.{ballots_after}
use Rattle.td_base.proofs.Elements.{one_more, some_of, cut_at, CutAt}
use Rattle.std.proofs.lemmas.Option.{same_Some}
use Rattle.td_machine.proofs.Ballots.{find_ballot, revised_in, counted_in}
use Rattle.td_machine.specs.Parts.{IsOpenAt, MayMake, Part, Makes, Proposes, Counts, Takes, Agrees, Declines, IsBuilt}
use Rattle.td_machine.proofs.Parts.{IsDone, Own, Other, by_parts, by_operations}
use Rattle.td_machine.proofs.Turns.{length_counts, placed, counted, length_have, comes_next, by_each}
use Rattle.td_machine.proofs.Counting.{older_in_turn}
use Rattle.td_machine.proofs.Documents.{documents, after_effect}

-- the atom is of an insert in the log
abbrev pub IsInserted : List OpValue → AtomIdValue → Type 0
IsInserted log z = (y : OpValue) × In y log × Inserts y z

abbrev pub NamesIn : List OpValue → OpValue → Type 0
NamesIn log x = (z : AtomIdValue) → named_atom x.body ≡ Some z → IsInserted log z

-- a valid operation, whose run is not empty where it has one
pub record IsSound (x : OpValue) : Type 0 where
  pub op : IsOp x
  pub full : (slot : Slot) (run : List (List ℕ)) → x.body ≡ Insert slot run → 0 < length run

-- ---- own ballots are on own proposals

abbrev pub OfSite : ℕ → List Ballot → Type 0
OfSite site ballots = (b : Ballot) → In b ballots → b.proposal.site ≡ site

close_of_site : (p : DotValue) (commit : Bool) (ballots : List Ballot) (site : ℕ) → OfSite site ballots
    → OfSite site (revise p (close commit) ballots)
close_of_site p commit ballots site h b i =
    let r = revised_in p (close commit) (λ c. (refl, (λ e. absurd (true≢false (sym e))))) ballots b i in
    ap (λ (d : DotValue). d.site) r.on ∙ h r.ballot r.inside

after_of_site : (body : Body) (ballots : List Ballot) (site : ℕ) → OfSite site ballots
    → OfSite site (ballots_after body ballots)
after_of_site (Insert slot run) ballots site h = h
after_of_site (Delete target) ballots site h = h
after_of_site (Propose slot) ballots site h = h
after_of_site (Commit p) ballots site h = close_of_site p true ballots site h
after_of_site (Abort p) ballots site h = close_of_site p false ballots site h

-- ---- the atom that an own operation names

row_inserted : (m : Machine) → ((r : DocRow) → In r m.doc → IsInserted m.log (row_id r)) → (z : AtomIdValue)
    → is_some (find_row z m.doc) ≡ true → IsInserted m.log z
row_inserted m atoms z h =
    let r = some_of (find_row z m.doc) h in
    let f = found z r.0 m.doc r.1 in
    subst (IsInserted m.log) f.1 (atoms r.0 f.0)

slot_inserted : (m : Machine) → ((r : DocRow) → In r m.doc → IsInserted m.log (row_id r)) → (slot : Slot)
    → is_rooted m.doc slot ≡ true → (z : AtomIdValue) → slot_atom slot ≡ Some z → IsInserted m.log z
slot_inserted m atoms Root h z e = absurd cc
slot_inserted m atoms (At x bit) h z e = subst (IsInserted m.log) (same_Some x z e) (row_inserted m atoms x h)

own_full : (body : Body) (m : Machine) → MayMake body m → (slot : Slot) (run : List (List ℕ)) → body ≡ Insert slot run
    → 0 < length run
own_full (Insert s r) m may slot run e = subst (λ (q : List (List ℕ)). 0 < length q) (same s slot r run e) may.full
  where
    same : (s t : Slot) (r q : List (List ℕ)) → Insert s r ≡ Insert t q → r ≡ q
    same s t r q e = cc
own_full (Delete x) m may slot run e = absurd cc
own_full (Propose s) m may slot run e = absurd cc
own_full (Commit p) m may slot run e = absurd cc
own_full (Abort p) m may slot run e = absurd cc

module _ {Came : Message → Type 0} {site size : ℕ} where
  -- each row is of an insert in the log
  pub atoms : (m : Machine) → IsBuilt Came site size m → (r : DocRow) → In r m.doc → IsInserted m.log (row_id r)
  atoms =
      by_operations (λ s n doc have log. (r : DocRow) → In r doc → IsInserted log (row_id r))
      (λ some within r i. absurd i)
      (λ m b x done h.
      after_effect (IsInserted (x ∷ m.log)) m.log x.dot x.body m.doc (documents m b).0
      (λ r i. let k = h r i in (k.0, inr k.1, k.2))
      (λ slot run e a i. (
        x,
        inl refl,
        record {
          insertion = record { dot = x.dot; deps = x.deps; slot = slot; run = run };
          is = ap (insertion_by x.dot x.deps) e;
          among = In-map (λ (b : NamedAtom). b.id) a (run_atoms x.dot run) i;
        },
      )))

  pub own_ballots : (m : Machine) → IsBuilt Came site size m → OfSite m.site m.ballots
  own_ballots = by_parts (λ (m : Machine). OfSite m.site m.ballots) (λ some within b i. absurd i) keeps
    where
      keeps : (m n : Machine) → IsBuilt Came site size m → Part Came m n → OfSite m.site m.ballots
          → OfSite n.site n.ballots
      keeps m n b (Makes body e may) h = after_of_site body m.ballots m.site h
      keeps m n b (Proposes slot may) h =
          one_more (λ (c : Ballot). c.proposal.site ≡ m.site) (new_ballot (next_dot m)) m.ballots refl h
      keeps m n b (Counts v k) h = λ c i.
          let r =
          counted_in v.proposal v.voter v.yes m.ballots c i in ap (λ (d : DotValue). d.site) r.on ∙ h r.ballot r.inside
      keeps m n b (Takes x e fit) h = after_of_site x.body m.ballots m.site h
      keeps m n b (Agrees x slot e fit says) h = after_of_site x.body m.ballots m.site h
      keeps m n b (Declines x slot e fit says) h = after_of_site x.body m.ballots m.site h
      keeps m n b part h = h

  own_names : (body : Body) (m : Machine) → IsBuilt Came site size m → MayMake body m → NamesIn m.log (next_op m body)
  own_names (Insert slot run) m b may z e = slot_inserted m (atoms m b) slot may.rooted z e
  own_names (Delete x) m b may z e = subst (IsInserted m.log) (same_Some x z e) (row_inserted m (atoms m b) x may.row)
  own_names (Propose slot) m b may z e = slot_inserted m (atoms m b) slot may.rooted z e
  own_names (Commit p) m b may z e = absurd cc
  own_names (Abort p) m b may z e = absurd cc

  -- an inserted atom is of a site of the machine
  inserted_site : (m : Machine) → IsBuilt Came site size m → (z : AtomIdValue) → IsInserted m.log z
      → z.dot.site ≤ length m.have
  inserted_site m b z h =
      let split : CutAt h.0 m.log = cut_at h.0 m.log h.1 in
      let next =
      older_in_turn m.size split.front h.0 split.back
      (subst (λ (log : List OpValue). IsInTurn m.size log) split.is (counted m b).1) in
      let within : h.0.dot.site ≤ length (counts m.size split.back) = next.0.within in
      let size_ : length (counts m.size split.back) ≡ m.size = length_counts m.size split.back in
      let long : length m.have ≡ m.size = length_have m b in
      let same : z.dot.site ≡ h.0.dot.site = ap (λ (d : DotValue). d.site) (inserted_dot h.0 z h.2) in
      omega (arith, within, size_, long, same)

  open_site : (p : DotValue) (m : Machine) → IsBuilt Came site size m → IsOpenAt p m → p.site ≤ length m.have
  open_site p m b o =
      let f = find_ballot p m.ballots o.ballot o.found in
      let own : p.site ≡ m.site =
      sym (ap (λ (d : DotValue). d.site) f.1) ∙ own_ballots m b o.ballot f.0 in
      let long : length m.have ≡ m.size = length_have m b in
      let within : m.site ≤ m.size = (placed m b).1 in
      omega (arith, own, long, within)

  -- the site that an own operation names is that of its atom, or of an own proposal
  pub own_site : (body : Body) (m : Machine) → IsBuilt Came site size m → MayMake body m
      → IfSome (body_site body) (λ (s : ℕ). s ≤ length m.have)
  own_site (Insert Root run) m b may = tt
  own_site (Insert (At z bit) run) m b may = inserted_site m b z (own_names (Insert (At z bit) run) m b may z refl)
  own_site (Delete z) m b may = inserted_site m b z (own_names (Delete z) m b may z refl)
  own_site (Propose Root) m b may = tt
  own_site (Propose (At z bit)) m b may = inserted_site m b z (own_names (Propose (At z bit)) m b may z refl)
  own_site (Commit p) m b may = open_site p m b may.opened
  own_site (Abort p) m b may = open_site p m b may

  done_sound : (m : Machine) → IsBuilt Came site size m → (x : OpValue) → IsDone Came m x → IsSound x
  done_sound m b x (Own body may) =
      record {
        op = record {
          own = (comes_next m b (next_op m body) (Own body may)).within;
          named = own_site body m b may;
          next = refl;
        };
        full = own_full body m may;
      }
  done_sound m b x (Other y fit) =
      record {
        op = fit.offered.valid.op;
        full = λ slot run e. (subst (λ (body : Body). IsBody body) e fit.offered.valid.body).1.some;
      }

  done_names : (m : Machine) → IsBuilt Came site size m → (x : OpValue) → IsDone Came m x → x.dot.site ≡ m.site
      → NamesIn m.log x
  done_names m b x (Own body may) e = own_names body m b may
  done_names m b x (Other y fit) e = absurd (fit.offered.other e)

  -- each operation of the log is valid, and what was made here names an atom of an older insert
  pub sound : (m : Machine) → IsBuilt Came site size m → (newer : List OpValue) (x : OpValue) (older : List OpValue)
      → m.log ≡ newer ++ x ∷ older → IsSound x
  sound = by_each (λ s n x older. IsSound x) done_sound

  pub names : (m : Machine) → IsBuilt Came site size m → (newer : List OpValue) (x : OpValue) (older : List OpValue)
      → m.log ≡ newer ++ x ∷ older → x.dot.site ≡ m.site → NamesIn older x
  names = by_each (λ s n x older. x.dot.site ≡ s → NamesIn older x) done_names
