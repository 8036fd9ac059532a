-- Each operation of a log met what it names when it came.
use Rattle.std.proofs.Common.{◌≡◌, ◌<◌, ◌≤◌, ◌++◌, ℕ, List, [], ◌∷◌, length, Bool, true, false, ◌&&◌}
use Rattle.std.proofs.Common.{nat_eq, Some, None, refl, sym, ap, ◌∙◌, subst, if◌then◌else◌}
use Rattle.std.proofs.lemmas.Bool.{and_parts, eqb-true}
use Rattle.std.specs.Option.{is_some, is_none}
use Rattle.td_base.specs.Value.{DotValue}
use Rattle.td_base.proofs.Lists.{any_found}
use Rattle.td_base.proofs.Elements.{some_of}
use Rattle.td_path.specs.declared.slot.Slot.{Slot}
use Rattle.td_op.specs.declared.body.Body.{Body}
use Rattle.td_op.specs.declared.body.Body.TheVariants.{Insert, Delete, Propose, Commit, Abort}
use Rattle.td_op.specs.declared.message.Message.{Message}
use Rattle.td_op.specs.declared.reply.Why.{Why}
use Rattle.td_op.specs.declared.reply.Why.TheVariants.{Atom, Proposal, Vote as NoHold}
use Rattle.td_op.specs.Op.{OpValue}
use Rattle.td_doc.specs.Document.{DocRow, find_row}
use Rattle.td_doc.specs.Slots.{is_empty_slot}
use Rattle.td_doc.specs.Answers.{is_rooted}
use Rattle.td_machine.specs.Counts.{counts, IsInTurn}
use Rattle.td_machine.specs.Log.{proposed_slot, decision, is_undecided_of}
use Rattle.td_machine.specs.Hold.{is_of, is_held}
use Rattle.td_machine.specs.Machine.{Machine, start}
use Rattle.td_machine.specs.Replay.{doc_of}
use Rattle.td_machine.specs.Taking.{body_misfit}
use Rattle.td_machine.specs.History.{History, Family, Moment, IsConsistent, machine_at}
use Rattle.td_machine.specs.History.{history, machine, machine_after, log_of}
use Rattle.td_machine.specs.Parts.{MayMake, IsOpenAt, IsBuilt}
use Rattle.td_machine.proofs.Parts.{IsDone, Own, Other}
use Rattle.td_machine.proofs.Turns.{placed, counted, by_each}
use Rattle.td_machine.proofs.Documents.{logged, documents}
use Rattle.td_machine.proofs.Holding.{IsHolding, holding, open_held}
use Rattle.td_machine.proofs.Naming.{own_ballots}
use Rattle.td_machine.proofs.Ballots.{find_ballot}
use Rattle.td_machine.proofs.Induction.{the_end, built_at}
use Rattle.td_base.proofs.Equals.{same_dot_true}
use Rattle.td_law_logs.proofs.Moments.{moment_of, moment_then, after_one_more}
use Rattle.td_law_logs.specs.Entries.{EntryOf, machine_then}
use Rattle.td_doc.proofs.Placement.{alloc_empty}

-- the proposal that a decision is of is the site's own, and older in the log
pub record IsDecisionIn (log : List OpValue) (site : ℕ) (p : DotValue) : Type 0 where
  pub own : p.site ≡ site
  pub slot : Slot
  pub is : proposed_slot p log ≡ Some slot

abbrev pub FitsBody : List OpValue → ℕ → Body → Type 0
FitsBody log site (Insert slot run) = is_rooted (doc_of log) slot ≡ true
FitsBody log site (Delete target) = is_some (find_row target (doc_of log)) ≡ true
FitsBody log site (Propose slot) = Unit {0}
FitsBody log site (Commit p) = IsDecisionIn log site p
FitsBody log site (Abort p) = IsDecisionIn log site p

abbrev pub Fits : List OpValue → Type 0
Fits [] = Unit {0}
Fits (x ∷ log) = FitsBody log x.dot.site x.body × Fits log

-- what each machine of a site has, as the proofs here name it
pub record IsFitting (site size : ℕ) (m : Machine) : Type 0 where
  pub here : m.site ≡ site
  pub sized : m.size ≡ size
  pub is : m.have ≡ counts m.size m.log
  pub turn : IsInTurn m.size m.log
  pub logged : m.doc ≡ doc_of m.log
  pub holding : IsHolding m
  pub fits : Fits m.log

undecided_in : (log : List OpValue) (site : ℕ) (p : DotValue) → is_undecided_of site p log ≡ true
    → IsDecisionIn log site p
undecided_in log site p h =
    let a = and_parts (nat_eq p.site site && is_some (proposed_slot p log)) (is_none (decision p log)) h in
    let b = and_parts (nat_eq p.site site) (is_some (proposed_slot p log)) a.0 in
    let t = some_of (proposed_slot p log) b.1 in
    record { own = eqb-true p.site site b.0; slot = t.0; is = t.1 }

no_why : (b : Bool) (why : Why) → (if b then None else Some why) ≡ None → b ≡ true
no_why true why h = refl
no_why false why h = absurd cc

no_whys : (a b : Bool) (one two : Why) → (if a then (if b then None else Some one) else Some two) ≡ None → a ≡ true
no_whys true b one two h = refl
no_whys false b one two h = absurd cc

fits_each : (log : List OpValue)
    → ((newer : List OpValue) (x : OpValue) (older : List OpValue) → log ≡ newer ++ x ∷ older
    → FitsBody older x.dot.site x.body) → Fits log
fits_each [] h = tt
fits_each (x ∷ log) h = (h [] x log refl, fits_each log (λ newer y older e. h (x ∷ newer) y older (λ i. x ∷ e i)))

module _ {Came : Message → Type 0} {site size : ℕ} where
  open_in : (p : DotValue) (m : Machine) → IsBuilt Came site size m → IsOpenAt p m → IsDecisionIn m.log m.site p
  open_in p m b o =
      let h : IsHolding m = holding m b in
      let f = any_found (is_of p) m.holds (open_held p m h o) in
      let same : f.0.proposal ≡ p = same_dot_true f.0.proposal p f.2 in
      let g = find_ballot p m.ballots o.ballot o.found in
      record {
        own = sym (ap (λ (d : DotValue). d.site) g.1) ∙ own_ballots m b o.ballot g.0;
        slot = f.0.slot;
        is = subst (λ (d : DotValue). proposed_slot d m.log ≡ Some f.0.slot) same (h.known f.0 f.1);
      }

  fit_made : (body : Body) (m : Machine) → IsBuilt Came site size m → MayMake body m → FitsBody m.log m.site body
  fit_made (Insert slot run) m b may = subst (λ (rows : List DocRow). is_rooted rows slot ≡ true)
      (logged m b) may.rooted
  fit_made (Delete target) m b may = subst (λ (rows : List DocRow). is_some (find_row target rows) ≡ true)
      (logged m b) may.row
  fit_made (Propose slot) m b may = tt
  fit_made (Commit p) m b may = open_in p m b may.opened
  fit_made (Abort p) m b may = open_in p m b may

  fit_taken : (from : ℕ) (body : Body) (m : Machine) → IsBuilt Came site size m → body_misfit from body m ≡ None
      → FitsBody m.log from body
  fit_taken from (Insert slot run) m b e = subst (λ (rows : List DocRow). is_rooted rows slot ≡ true) (logged m b)
      (no_why (is_rooted m.doc slot) Atom e)
  fit_taken from (Delete target) m b e = subst (λ (rows : List DocRow). is_some (find_row target rows) ≡ true)
      (logged m b) (no_why (is_some (find_row target m.doc)) Atom e)
  fit_taken from (Propose slot) m b e = tt
  fit_taken from (Commit p) m b e =
      undecided_in m.log from p (no_whys (is_undecided_of from p m.log) (is_held p m.holds) NoHold Proposal e)
  fit_taken from (Abort p) m b e = undecided_in m.log from p (no_why (is_undecided_of from p m.log) Proposal e)

  fit_done : (m : Machine) → IsBuilt Came site size m → (x : OpValue) → IsDone Came m x
      → FitsBody m.log x.dot.site x.body
  fit_done m b x (Own body may) = fit_made body m b may
  fit_done m b x (Other y fit) = fit_taken y.dot.site y.body m b fit.fit

  pub fitted : (m : Machine) → IsBuilt Came site size m → IsFitting site size m
  fitted m b =
      let p = placed m b in
      let k = counted m b in
      record {
        here = p.2;
        sized = p.3;
        is = k.0;
        turn = k.1;
        logged = logged m b;
        holding = holding m b;
        fits = fits_each m.log (by_each (λ s n x older. FitsBody older x.dot.site x.body) fit_done m b);
      }

-- ---- each insertion is made in an empty slot

-- the slot of an insert is empty after the log
abbrev FindsFree : Body → List OpValue → Type 0
FindsFree body log = (slot : Slot) (run : List (List ℕ)) → body ≡ Insert slot run
    → is_empty_slot (doc_of log) slot ≡ true

module _ {Came : Message → Type 0} {site size : ℕ} where
  own_free : (body : Body) (m : Machine) → IsBuilt Came site size m → MayMake body m → FindsFree body m.log
  own_free (Insert t r) m b may slot run e =
      subst (λ (rows : List DocRow). is_empty_slot rows slot ≡ true) (logged m b)
      (subst (λ (u : Slot). is_empty_slot m.doc u ≡ true) (sym may.allocated ∙ same t slot r run e)
      (alloc_empty m.doc may.after (documents m b).0 may.row))
    where
      same : (s t : Slot) (r q : List (List ℕ)) → Insert s r ≡ Insert t q → s ≡ t
      same s t r q e = cc
  own_free (Delete x) m b may slot run e = absurd cc
  own_free (Propose t) m b may slot run e = absurd cc
  own_free (Commit p) m b may slot run e = absurd cc
  own_free (Abort p) m b may slot run e = absurd cc

  done_free : (m : Machine) → IsBuilt Came site size m → (x : OpValue) → IsDone Came m x → x.dot.site ≡ m.site
      → FindsFree x.body m.log
  done_free m b x (Own body may) e = own_free body m b may
  done_free m b x (Other y fit) e = absurd (fit.offered.other e)

module _ (family : Family) (c : IsConsistent family) where
  pub fitting_of : (site : ℕ) → 0 < site → site ≤ length family → IsFitting site (length family) (machine family site)
  fitting_of site some within = fitted (machine family site) (built_at family c (the_end family site some within))

  pub fitting_at : (site : ℕ) → 0 < site → site ≤ length family → (front back : History)
      → history family site ≡ front ++ back → IsFitting site (length family) (machine_after family site front)
  fitting_at site some within front back e =
      fitted (machine_after family site front) (built_at family c (moment_of family site some within front back e))

  -- the document of a moment is that of its log
  pub moment_doc : (t : Moment family) → (machine_at family t).doc ≡ doc_of (machine_at family t).log
  moment_doc t = logged (machine_at family t) (built_at family c t)

  pub entry_doc : (t : EntryOf family) → (machine_then family t).doc ≡ doc_of (machine_then family t).log
  entry_doc t =
      subst (λ (m : Machine). m.doc ≡ doc_of m.log) (after_one_more (start t.site (length family)) t.front t.entry)
      (moment_doc (moment_then family t))

  -- an insert found its slot empty where it was made
  pub free_home : (newer : List OpValue) (a : OpValue) (older : List OpValue) → 0 < a.dot.site
      → a.dot.site ≤ length family → log_of family a.dot.site ≡ newer ++ a ∷ older
      → (slot : Slot) (run : List (List ℕ)) → a.body ≡ Insert slot run → is_empty_slot (doc_of older) slot ≡ true
  free_home newer a older some within is =
      let m : Machine = machine family a.dot.site in
      let b = built_at family c (the_end family a.dot.site some within) in
      by_each (λ site size y older. y.dot.site ≡ site → FindsFree y.body older) done_free m b newer a older is
      (sym (placed m b).2)

pub fits_back : (newer : List OpValue) (x : OpValue) (log : List OpValue) → Fits (newer ++ x ∷ log)
    → FitsBody log x.dot.site x.body
fits_back [] x log f = f.0
fits_back (y ∷ newer) x log f = fits_back newer x log f.1
