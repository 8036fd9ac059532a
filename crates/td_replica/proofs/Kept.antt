-- The holds of a replica are apart, and keep their places where the document changes.
use Rattle.std.proofs.Common.{◌≡◌, ◌≤◌, ◌&&◌, ◌||◌, arith, ℕ, List, [], Bool, true, false, not, length}
use Rattle.std.proofs.Common.{Option, Some, None, Ok, Err, if◌then◌else◌, refl, sym, ap, ◌∙◌, subst, true≢false}
use Rattle.std.proofs.lemmas.Bool.{and_parts, not-true}
use Rattle.std.specs.List.{list_all, list_any}
use Rattle.std.specs.Option.{option_map}
use Rattle.std.specs.Prelude.{Result, OnOk, OnErr}
use Rattle.td_base.specs.Lists.{In}
use Rattle.td_base.specs.Value.{DotValue, AtomIdValue}
use Rattle.td_base.proofs.Elements.{some_of, successive_among}
use Rattle.td_base.specs.Equality.{same_dot}
use Rattle.td_base.proofs.Equals.{same_dot_true, same_dot_refl}
use Rattle.td_base.proofs.Lists.{any_found, any_none, successive_filter}
use Rattle.td_clock.specs.Vector.{vector_has}
use Rattle.td_path.specs.declared.slot.Slot.{Slot}
use Rattle.td_path.specs.declared.slot.Slot.TheVariants.{Root, At}
use Rattle.td_path.specs.declared.slot_path.SlotPath.TheVariants.{Below}
use Rattle.td_op.specs.declared.body.Body.{Body}
use Rattle.td_op.specs.declared.body.Body.TheVariants.{Insert, Delete, Propose, Commit, Abort}
use Rattle.td_op.specs.declared.reply.Why.TheVariants.{Proposal, Vote as NoHold}
use Rattle.td_op.specs.Op.{OpValue}
use Rattle.td_op.specs.declared.vote.Vote.{Vote}
use Rattle.td_doc.specs.Answers.{is_rooted}
use Rattle.td_doc.specs.Document.{DocRow, IsDocument, find_row}
use Rattle.td_doc.specs.Flatten.{flatten}
use Rattle.td_doc.specs.Slots.{slot_path, overlaps, is_known}
use Rattle.td_machine.specs.Counts.{counts, IsInTurn}
use Rattle.td_machine.specs.Hold.{Hold, is_of, is_held, release}
use Rattle.td_machine.specs.Log.{Committed, commits, proposed, proposed_slot, is_undecided_of}
use Rattle.td_machine.specs.Machine.{Machine, next_op}
use Rattle.td_machine.specs.Decision.{outcome, counted}
use Rattle.td_machine.specs.Making.{effect, flatten_found, done, make, holds_after}
use Rattle.td_machine.specs.Parts.{Anything, IsBuilt, Goes, Makes, Takes, MayMake, IsFit}
use Rattle.td_machine.specs.Parts.{IsCounting, IsProposing}
use Rattle.td_machine.specs.Taking.{body_misfit, vote_on}
use Rattle.td_machine.specs.Vote.{is_apart}
use Rattle.td_causal.specs.Waiting.{Numbers, AreStored}
use Rattle.td_coord.specs.Tally.{TallyValue}
use Rattle.td_history.specs.Past.{Past, IsAsBefore as IsPastAsBefore}
use Rattle.td_doc.proofs.ApartSlots.{overlaps_mutual}
use Rattle.td_machine.proofs.Documents.{documents}
use Rattle.td_machine.proofs.Holding.{holding, held_none, apart_pair, open_held}
use Rattle.td_machine.proofs.Stays.{SlotStays, insert_stays, delete_stays, flatten_stays, apart_stays}
use Rattle.td_vote.specs.ByPlace.{place_before, path_before, AreInPlace, AreHeldApart, AreSame}
use Rattle.td_vote.specs.Commits.{in_order}
use Rattle.td_vote.specs.Holds.{HoldsValue}
use Rattle.td_vote.proofs.Between.{not_in_its_slot}
use Rattle.td_vote.proofs.Placed.{same_less}
use Rattle.td_replica.specs.declared.state.Origin.{Origin}
use Rattle.td_replica.specs.declared.state.Origin.TheVariants.{Here, There, Waiting as Waited}
use Rattle.td_replica.specs.Parts.{IsState, CommitsNamed, AreKept, KeepsSlots, MayHold, with_note}
use Rattle.td_replica.specs.Steps.{IsEdit, IsDue, body_of}
use Rattle.td_replica.proofs.Deciding.{counting_open}

-- ---- by place, where the document changes, and where a hold ends

pub placed_kept : (rows after : List DocRow) (holds : HoldsValue) → KeepsSlots rows after holds.holds
    → AreKept rows holds → AreKept after holds
placed_kept rows after holds keeps k = record {
  same = k.same;
  order = successive_among (λ (g h : Hold). place_before rows g.slot h.slot ≡ true)
      (λ (g h : Hold). place_before after g.slot h.slot ≡ true) holds.by_place
      (λ g h i j b. (λ n. path_before (keeps g (k.same.to g i) n) (keeps h (k.same.to h j) n)) ∙ b) k.order;
}

pub released_kept : (rows : List DocRow) (p : DotValue) (holds after : HoldsValue)
    → after.holds ≡ release p holds.holds → after.by_place ≡ release p holds.by_place → AreKept rows holds
    → AreKept rows after
released_kept rows p holds after e f k = record {
  same = subst (λ (xs : List Hold). AreSame xs after.holds) (sym f)
      (subst (λ (xs : List Hold). AreSame (release p holds.by_place) xs) (sym e)
      (same_less p holds.by_place holds.holds k.same));
  order = subst (AreInPlace rows) (sym f)
      (successive_filter (λ (g h : Hold). place_before rows g.slot h.slot ≡ true)
      (λ (h : Hold). not (is_of p h)) holds.by_place k.order);
}

pub kept_same : (rows : List DocRow) (holds after : HoldsValue) → after.holds ≡ holds.holds
    → after.by_place ≡ holds.by_place → AreKept rows holds → AreKept rows after
kept_same rows holds after e f k = record {
  same = subst (λ (xs : List Hold). AreSame xs after.holds) (sym f)
      (subst (λ (xs : List Hold). AreSame holds.by_place xs) (sym e) k.same);
  order = subst (AreInPlace rows) (sym f) k.order;
}

pub none_kept : (rows : List DocRow) (holds : HoldsValue) → holds.holds ≡ [] → holds.by_place ≡ []
    → AreKept rows holds
none_kept rows holds e f = record {
  same = record { to = λ h i. absurd (subst (In h) f i); back = λ h i. absurd (subst (In h) e i) };
  order = subst (AreInPlace rows) (sym f) tt;
}

-- what a call that finds room comes to
pub found_room : {A E : Type 0} (r : Result A E) (places : ℕ) (P : Type 0) → OnOk r P → OnErr r (places ≡ 0)
    → 1 ≤ places → P
found_room (Ok a) places P p none some = p
found_room (Err x) places P p none some = absurd (omega arith)

-- a state whose document or holds are others, by which its holds are kept too
pub with_kept : (site : ℕ) (rows after : List DocRow) (have : List ℕ) (waiting : Numbers) (holds more : HoldsValue)
    (tally : TallyValue) (past : Past) → IsState site rows have waiting holds tally past
    → more.commits ≡ holds.commits → AreKept after more → IsState site after have waiting more tally past
with_kept site rows after have waiting holds more tally past s e k = record {
  some = s.some;
  within = s.within;
  past_site = s.past_site;
  past_size = s.past_size;
  own = s.own;
  tally_size = s.tally_size;
  counted = s.counted;
  in_turn = s.in_turn;
  commits = e ∙ s.commits;
  kept = k;
  named = s.named;
  stored = s.stored;
}

-- a state with other room
pub reserved : (site : ℕ) (rows : List DocRow) (have : List ℕ) (waiting : Numbers) (holds more : HoldsValue)
    (tally more_tally : TallyValue) (past after : Past) → IsState site rows have waiting holds tally past
    → more.holds ≡ holds.holds → more.by_place ≡ holds.by_place → more.commits ≡ holds.commits
    → (more_tally.size ≡ tally.size) × (more_tally.own ≡ tally.own) → IsPastAsBefore past after
    → IsState site rows have waiting more more_tally after
reserved site rows have waiting holds more tally more_tally past after s e f c t p = record {
  some = s.some;
  within = s.within;
  past_site = p.site ∙ s.past_site;
  past_size = p.size ∙ s.past_size;
  own = t.1 ∙ s.own;
  tally_size = t.0 ∙ s.tally_size;
  counted = subst (λ (log : List OpValue). have ≡ counts (length have) log) (sym p.log) s.counted;
  in_turn = subst (λ (log : List OpValue). IsInTurn (length have) log) (sym p.log) s.in_turn;
  commits = c ∙ s.commits ∙ ap (λ (log : List OpValue). in_order (commits log)) (sym p.log);
  kept = kept_same rows holds more e f s.kept;
  named = subst (λ (log : List OpValue). CommitsNamed log) (sym p.log) s.named;
  stored = subst (λ (ops : List OpValue). AreStored (length have) ops waiting) (sym p.ops) s.stored;
}

-- of two facts that a call comes to, the second
pub second_ok : {A E : Type 0} (r : Result A E) (P Q : Type 0) → OnOk r (P × Q) → OnOk r Q
second_ok (Ok a) P Q h = h.1
second_ok (Err x) P Q h = tt

-- a call on the document that does this, or finds no memory
pub changed_kept : {A E : Type 0} (r : Result A E) (rows told after : List DocRow) (holds : HoldsValue)
    → OnOk r (after ≡ told) → OnErr r (after ≡ rows) → KeepsSlots rows told holds.holds → AreKept rows holds
    → AreKept after holds
changed_kept (Ok a) rows told after holds e f keeps k =
    placed_kept rows after holds
    (subst (λ (to : List DocRow). KeepsSlots rows to holds.holds) (sym e) keeps) k
changed_kept (Err x) rows told after holds e f keeps k = subst (λ (to : List DocRow). AreKept to holds) (sym f) k

-- a commit that fits is of a held proposal
pub fit_held : (site : ℕ) (m : Machine) (p : DotValue) → body_misfit site (Commit p) m ≡ None
    → is_held p m.holds ≡ true
fit_held site m p e = at (is_undecided_of site p m.log) (is_held p m.holds) refl e
  where
    at : (a t : Bool) → is_held p m.holds ≡ t → (if a then (if t then None else Some NoHold) else Some Proposal) ≡ None
        → is_held p m.holds ≡ true
    at true true k f = k
    at true false k f = absurd cc
    at false t k f = absurd cc

-- ---- the machine's holds

module _ (m : Machine) (b : IsBuilt Anything m.site m.size m) where
  pub held_apart : AreHeldApart m.doc m.holds
  held_apart = record {
    document = (documents m b).0;
    rooted = (holding m b).rooted;
    apart = (holding m b).apart;
  }

  slot_same : (after : List DocRow) (s : Slot) → is_rooted m.doc s ≡ true → SlotStays m.doc after s
      → slot_path after s ≡ slot_path m.doc s
  slot_same after Root h k = refl
  slot_same after (At x bit) h k =
      let r = some_of (find_row x m.doc) h in
      let q = k r.0 r.1 in
      ap (option_map (λ (w : DocRow). Below w.path bit)) q.1 ∙ (λ i. Some (Below (q.2 i) bit))
      ∙ sym (ap (option_map (λ (w : DocRow). Below w.path bit)) r.1)

  held_same : (after : List DocRow) (h : Hold) → In h m.holds → SlotStays m.doc after h.slot
      → slot_path after h.slot ≡ slot_path m.doc h.slot
  held_same after h i k = slot_same after h.slot ((holding m b).rooted h i) k

  inserted : (slot : Slot) (dot : DotValue) (run : List (List ℕ))
      → IsDocument (effect m.log dot (Insert slot run) m.doc)
      → (s : Slot) → SlotStays m.doc (effect m.log dot (Insert slot run) m.doc) s
  inserted slot dot run d Root = tt
  inserted slot dot run d (At x bit) = insert_stays slot dot run m.doc d x

  deleted : (y : AtomIdValue) (dot : DotValue) → IsDocument (effect m.log dot (Delete y) m.doc)
      → (s : Slot) → SlotStays m.doc (effect m.log dot (Delete y) m.doc) s
  deleted y dot d Root = tt
  deleted y dot d (At x bit) = delete_stays y dot m.doc d x

  -- a flatten of a slot leaves its own atom
  own_stays : (s : Slot) → is_rooted m.doc s ≡ true → SlotStays m.doc (flatten s m.doc) s
  own_stays Root h = tt
  own_stays (At x bit) h =
      let r = some_of (find_row x m.doc) h in
      flatten_stays (At x bit) m.doc (documents m b).0 x (not_in_its_slot m.doc (documents m b).0 x bit r.0 r.1)

  -- and the atoms of the slots apart from it
  pub flatten_keeps : (g : Hold) → In g m.holds → KeepsSlots m.doc (flatten g.slot m.doc) m.holds
  flatten_keeps g i h j = at (is_of g.proposal h) refl
    where
      at : (t : Bool) → is_of g.proposal h ≡ t → slot_path (flatten g.slot m.doc) h.slot ≡ slot_path m.doc h.slot
      at true e =
          let one : g.slot ≡ h.slot = same_slot (same_dot_true h.proposal g.proposal e) in
          subst (λ (s : Slot). slot_path (flatten s m.doc) h.slot ≡ slot_path m.doc h.slot) (sym one)
          (held_same (flatten h.slot m.doc) h j (own_stays h.slot ((holding m b).rooted h j)))
        where
          some : (s t : Slot) → Some s ≡ Some t → s ≡ t
          some s t f = cc

          same_slot : h.proposal ≡ g.proposal → g.slot ≡ h.slot
          same_slot f = some g.slot h.slot (sym ((holding m b).known g i)
              ∙ ap (λ (q : DotValue). proposed_slot q m.log) (sym f) ∙ (holding m b).known h j)
      at false e =
          held_same (flatten g.slot m.doc) h j (apart_stays m.doc (documents m b).0 g.slot h.slot
          (apart_pair m.doc g h m.holds (holding m b).apart i j (λ f. differ f e)))
        where
          differ : g ≡ h → is_of g.proposal h ≡ false → ⊥
          differ f k = true≢false (sym (same_dot_refl g.proposal) ∙ ap (λ (q : Hold). same_dot q.proposal g.proposal) f
              ∙ k)

  -- what an operation does to the document leaves the slots held, where a commit is of a held proposal
  pub effect_keeps : (dot : DotValue) (body : Body) → (IsEdit body → IsDocument (effect m.log dot body m.doc))
      → ((p : DotValue) → body ≡ Commit p → is_held p m.holds ≡ true)
      → KeepsSlots m.doc (effect m.log dot body m.doc) m.holds
  effect_keeps dot (Insert slot run) d may h i =
      held_same (effect m.log dot (Insert slot run) m.doc) h i (inserted slot dot run (d tt) h.slot)
  effect_keeps dot (Delete y) d may h i =
      held_same (effect m.log dot (Delete y) m.doc) h i (deleted y dot (d tt) h.slot)
  effect_keeps dot (Propose slot) d may h i = refl
  effect_keeps dot (Abort p) d may h i = refl
  effect_keeps dot (Commit p) d may h i =
      let g = any_found (is_of p) m.holds (may p refl) in
      let slot : proposed_slot p m.log ≡ Some g.0.slot =
      ap (λ (q : DotValue). proposed_slot q m.log) (sym (same_dot_true g.0.proposal p g.2))
      ∙ (holding m b).known g.0 g.1 in
      subst (λ (rows : List DocRow). slot_path rows h.slot ≡ slot_path m.doc h.slot)
      (sym (ap (λ (o : Option Slot). flatten_found o m.doc) slot)) (flatten_keeps g.0 g.1 h i)

  -- an edit that is made
  pub made_keeps : (body : Body) → IsEdit body → MayMake body m
      → KeepsSlots m.doc (effect m.log (next_op m body).dot body m.doc) m.holds
  made_keeps body edit may =
      effect_keeps (next_op m body).dot body
      (λ e. (documents (make body m) (Goes b (Makes body (edit_alone body edit) may))).0)
      (λ p e. absurd (subst IsEdit e edit))
    where
      edit_alone : (c : Body) → IsEdit c → proposed c ≡ None
      edit_alone (Insert slot run) e = refl
      edit_alone (Delete y) e = refl
      edit_alone (Propose slot) e = absurd e
      edit_alone (Commit p) e = absurd e
      edit_alone (Abort p) e = absurd e

  -- an edit or a decision of another site
  pub taken_keeps : (x : OpValue) → IsFit Anything m x → proposed x.body ≡ None
      → KeepsSlots m.doc (effect m.log x.dot x.body m.doc) m.holds
  taken_keeps x fit alone =
      effect_keeps x.dot x.body (λ e. (documents (done x m) (Goes b (Takes x alone fit))).0)
      (λ p e. fit_held x.dot.site m p (ap (λ (c : Body). body_misfit x.dot.site c m) (sym e) ∙ fit.fit))

  -- the decision that a vote brings
  pub due_keeps : (v : Vote) (k : IsCounting Anything v m) (dot : DotValue) (body : Body) → IsDue v body m
      → KeepsSlots m.doc (effect m.log dot body m.doc) m.holds
  due_keeps v k dot body due =
      at (outcome m.size v.yes (counted v.voter v.yes k.ballot)) (due k.ballot k.found)
    where
      one : (a c : Body) → Some a ≡ Some c → a ≡ c
      one a c e = cc

      at : (o : Option Bool) → body_of v.proposal o ≡ Some body
          → KeepsSlots m.doc (effect m.log dot body m.doc) m.holds
      at None e = absurd cc
      at (Some true) e =
          subst (λ (c : Body). KeepsSlots m.doc (effect m.log dot c m.doc) m.holds) (one (Commit v.proposal) body e)
          (effect_keeps dot (Commit v.proposal) (λ f. absurd f)
          (λ p f. subst (λ (q : DotValue). is_held q m.holds ≡ true) (named v.proposal p f)
          (open_held v.proposal m (holding m b) (counting_open m b v k))))
        where
          named : (p q : DotValue) → Commit p ≡ Commit q → p ≡ q
          named p q f = cc
      at (Some false) e =
          subst (λ (c : Body). KeepsSlots m.doc (effect m.log dot c m.doc) m.holds) (one (Abort v.proposal) body e)
          (λ h i. refl)

  -- the flatten of a slot that may be proposed
  pub flatten_leaves : (slot : Slot) → IsProposing slot m → KeepsSlots m.doc (flatten slot m.doc) m.holds
  flatten_leaves slot may h i =
      held_same (flatten slot m.doc) h i (apart_stays m.doc (documents m b).0 slot h.slot
      (overlaps_mutual m.doc slot h.slot ∙ held_none (λ (t : Slot). overlaps m.doc t slot) m.holds may.free h i))

  -- ---- what may be held

  pub proposing_holds : (slot : Slot) → IsProposing slot m → MayHold m.doc slot m.holds
  proposing_holds slot may = record {
    apart = held_apart;
    rooted = may.rooted;
    free = λ h i. held_none (λ (t : Slot). overlaps m.doc t slot) m.holds may.free h i;
  }

  pub vote_holds : (x : OpValue) (slot : Slot) → vote_on x slot m ≡ true → MayHold m.doc slot m.holds
  vote_holds x slot says =
      let meets : Hold → Bool = λ h. overlaps m.doc h.slot slot in
      let all = and_parts (is_rooted m.doc slot && is_known m.doc slot x.deps && not (list_any meets m.holds))
      (list_all (λ (c : Committed). vector_has x.deps c.dot || is_apart m.doc slot c) (commits m.log)) says in
      let front = and_parts (is_rooted m.doc slot && is_known m.doc slot x.deps) (not (list_any meets m.holds)) all.0 in
      let first = and_parts (is_rooted m.doc slot) (is_known m.doc slot x.deps) front.0 in
      record {
        apart = held_apart;
        rooted = first.0;
        free = λ h i. any_none meets m.holds h (not-true (list_any meets m.holds) front.1) i;
      }

pub holds_noted : (origin : Origin) (x : OpValue) (m : Machine) → (with_note origin x m).holds
    ≡ holds_after x.body m.holds
holds_noted Here x m = refl
holds_noted There x m = refl
holds_noted (Waited number) x m = refl
