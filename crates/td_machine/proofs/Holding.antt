-- The holds of a machine never overlap, and the atom of a held slot is a row.
use Rattle.std.proofs.Common.{◌≡◌, ◌≢◌, ◌≤◌, ◌+◌, ◌||◌, ◌&&◌, ℕ, List, [], ◌∷◌, Bool, true, false}
use Rattle.std.proofs.Common.{not, if◌then◌else◌, map, filter, Option, Some, None, refl, sym, ap}
use Rattle.std.proofs.Common.{◌∙◌, subst, inl, inr, true≢false, arith}
use Rattle.std.proofs.lemmas.Bool.{and_parts, leb-true, le-leb, not-true}
use Rattle.std.specs.Prelude.{IsTrue}
use Rattle.std.specs.List.{list_all, list_any}
use Rattle.td_base.specs.Value.{DotValue, AtomIdValue}
use Rattle.td_base.specs.Lists.{In, Successive}
use Rattle.td_base.proofs.Lists.{In-filter, In-map, filter_In, all_in, all_of, any_found}
use Rattle.td_base.proofs.Lists.{any_from, any_none, successive_filter}
use Rattle.td_clock.specs.Vector.{vector_get, vector_has, vector_bump}
use Rattle.td_clock.proofs.VectorLemmas.{covered_dots}
use Rattle.td_path.specs.declared.slot.Slot.{Slot}
use Rattle.td_path.specs.declared.slot.Slot.TheVariants.{Root, At}
use Rattle.td_op.specs.declared.body.Body.{Body}
use Rattle.td_op.specs.declared.body.Body.TheVariants.{Insert, Delete, Propose, Commit, Abort}
use Rattle.td_op.specs.declared.message.Message.{Message}
use Rattle.td_op.specs.declared.reply.Why.TheVariants.{Proposal, Vote as NoHold}
use Rattle.td_op.specs.declared.vote.Vote.{Vote}
use Rattle.td_op.specs.Op.{OpValue}
use Rattle.td_doc.specs.Document.{DocRow, IsDocument}
use Rattle.td_doc.specs.Slots.{overlaps, is_known}
use Rattle.td_doc.specs.Insertion.{insert_run}
use Rattle.td_doc.specs.Deletion.{delete}
use Rattle.td_doc.specs.Flatten.{flatten}
use Rattle.td_doc.proofs.ApartSlots.{overlaps_mutual}
use Rattle.td_base.specs.Equality.{same_dot}
use Rattle.td_machine.specs.Log.{Committed, proposed, proposed_slot, commits, is_undecided_of}
use Rattle.td_machine.specs.Hold.{Hold, least_dot, held_by, is_of, is_held, release}
use Rattle.td_machine.specs.Vote.{is_apart}
use Rattle.td_doc.specs.Answers.{is_rooted}
use Rattle.td_machine.specs.Decision.{Ballot, is_open, counted, revise, close, new_ballot}
use Rattle.td_machine.specs.Counts.{IsNext}
use Rattle.td_machine.specs.Machine.{Machine, next_dot, next_op}
use Rattle.td_machine.specs.Making.{effect, flatten_found, holds_after, ballots_after, done}
use Rattle.td_machine.specs.Taking.{body_misfit, vote_on}
use Rattle.td_machine.proofs.Vectors.{bump_same, bump_covers}
use Rattle.td_base.proofs.Equals.{same_dot_refl, same_dot_true, same_dot_other}
use Rattle.td_machine.proofs.Ballots.{find_ballot, closed_in, counted_in}
use Rattle.td_machine.specs.Parts.{MayMake, IsProposing, IsOpenAt, IsBuilt, Goes, Part, Makes, Proposes, Counts, Takes}
use Rattle.td_machine.specs.Parts.{Agrees, Declines, proposed_here}
use Rattle.td_machine.proofs.Parts.{Own, Other, by_parts}
use Rattle.td_machine.proofs.Turns.{comes_next}
use Rattle.std.proofs.lemmas.Option.{same_Some}
use Rattle.td_base.proofs.Elements.{one_more, successive_among}
use Rattle.td_machine.proofs.Documents.{documents}
use Rattle.td_machine.proofs.Stays.{SlotStays, insert_stays, delete_stays, rooted_stays, overlap_same, apart_stays}

-- ---- holds by a test

-- no hold passes where no least one is found
pub held_none : (test : Slot → Bool) (holds : List Hold) → held_by test holds ≡ None → (h : Hold) → In h holds
    → test h.slot ≡ false
held_none test holds e h i = at (test h.slot) refl
  where
    nobody : (dots : List DotValue) → least_dot dots ≡ None → (d : DotValue) → In d dots → ⊥
    nobody [] f d j = j
    nobody (c ∷ dots) f d j = absurd cc

    at : (t : Bool) → test h.slot ≡ t → test h.slot ≡ false
    at true k =
        absurd
        (nobody (map (λ (g : Hold). g.proposal) (filter (λ (g : Hold). test g.slot) holds)) e h.proposal
        (In-map (λ (g : Hold). g.proposal) h (filter (λ (g : Hold). test g.slot) holds)
        (filter_In (λ (g : Hold). test g.slot) h holds i k)))
    at false k = k

-- ---- what holds of holds

abbrev Apart : List DocRow → Hold → Hold → Type 0
Apart rows g h = overlaps rows g.slot h.slot ≡ false

pub apart_pair : (rows : List DocRow) (g h : Hold) (holds : List Hold) → Successive (Apart rows) holds → In g holds
    → In h holds → g ≢ h → Apart rows g h
apart_pair rows g h (k ∷ holds) s (inl i) (inl j) n = absurd (n (i ∙ sym j))
apart_pair rows g h (k ∷ holds) s (inl i) (inr j) n =
    subst (λ (z : Hold). Apart rows z h) (sym i) (all_in (Apart rows k) holds s.0 h j)
apart_pair rows g h (k ∷ holds) s (inr i) (inl j) n =
    overlaps_mutual rows g.slot h.slot
    ∙ subst (λ (z : Hold). Apart rows z g) (sym j) (all_in (Apart rows k) holds s.0 g i)
apart_pair rows g h (k ∷ holds) s (inr i) (inr j) n = apart_pair rows g h holds s.1 i j n
apart_pair rows g h [] s i j n = absurd i

pub record Holding (rows : List DocRow) (have : List ℕ) (log : List OpValue) (holds : List Hold)
    (ballots : List Ballot) : Type 0 where
  pub rooted : (h : Hold) → In h holds → is_rooted rows h.slot ≡ true
  pub apart : Successive (Apart rows) holds
  -- the log tells the slot of each held proposal
  pub known : (h : Hold) → In h holds → proposed_slot h.proposal log ≡ Some h.slot
  pub had : (h : Hold) → In h holds → IsTrue (vector_has have h.proposal)
  -- an own open proposal is held
  pub held : (b : Ballot) → In b ballots → is_open b ≡ true → is_held b.proposal holds ≡ true

abbrev pub IsHolding : Machine → Type 0
IsHolding m = Holding m.doc m.have m.log m.holds m.ballots

-- some holds stay, with the atoms of their slots
kept_holding : (x : OpValue) (m : Machine) (after : List DocRow) (some : List Hold) (ballots : List Ballot)
    → IsDocument m.doc
    → IsDocument after → IsNext m.have x → IsHolding m → ((h : Hold) → In h some → In h m.holds)
    → Successive (Apart m.doc) some → ((h : Hold) → In h some → SlotStays m.doc after h.slot)
    → ((b : Ballot) → In b ballots → is_open b ≡ true → is_held b.proposal some ≡ true)
    → Holding after (vector_bump m.have x.dot.site) (x ∷ m.log) some ballots
kept_holding x m after some ballots d e next s up apart stays open_held =
    record {
      rooted = λ h i. rooted_stays m.doc after h.slot (s.rooted h (up h i)) (stays h i);
      apart = successive_among (Apart m.doc) (Apart after) some
          (λ g h i j k.
          overlap_same m.doc after d e g.slot h.slot (s.rooted g (up g i)) (s.rooted h (up h j)) (stays g i)
          (stays h j) ∙ k)
          apart;
      known = λ h i.
          ap (λ (b : Bool). if b then proposed x.body else proposed_slot h.proposal m.log)
          (same_dot_other x.dot h.proposal (new h (s.had h (up h i))))
          ∙ s.known h (up h i);
      had = λ h i.
          covered_dots (vector_bump m.have x.dot.site) m.have
          (bump_covers m.have x.dot.site next.some next.within) h.proposal
          (s.had h (up h i));
      held = open_held;
    }
  where
    new : (h : Hold) → IsTrue (vector_has m.have h.proposal) → x.dot ≢ h.proposal
    new h k f =
        let number : x.dot.seq ≡ vector_get m.have x.dot.site + 1 = next.next in
        let below : x.dot.seq ≤ vector_get m.have x.dot.site =
        leb-true x.dot.seq (vector_get m.have x.dot.site)
        (subst (λ (d : DotValue). IsTrue (vector_has m.have d)) (sym f) k) in
        omega (arith, number, below)

-- ---- a decision

released : (p : DotValue) (holds : List Hold) (h : Hold) → In h (release p holds) → In h holds × (is_of p h ≡ false)
released p holds h i = let k = In-filter (λ (g : Hold). not (is_of p g)) h holds i in (k.0, not-true (is_of p h) k.1)

pub release_keeps : (p q : DotValue) (holds : List Hold) → is_held q holds ≡ true → same_dot q p ≡ false
    → is_held q (release p holds) ≡ true
release_keeps p q holds h n =
    let g = any_found (is_of q) holds h in
    let other : is_of p g.0 ≡ false = ap (λ (d : DotValue). same_dot d p) (same_dot_true g.0.proposal q g.2) ∙ n in
    any_from (is_of q) (release p holds) g.0
    (filter_In (λ (k : Hold). not (is_of p k)) g.0 holds g.1 (ap not other)) g.2

still_held : (p : DotValue) (commit : Bool) (m : Machine) → IsHolding m → (b : Ballot)
    → In b (revise p (close commit) m.ballots) → is_open b ≡ true → is_held b.proposal (release p m.holds) ≡ true
still_held p commit m s b i o =
    let r = closed_in p commit m.ballots b i o in release_keeps p b.proposal m.holds (s.held b r.0 o) r.1

-- ---- an operation done

-- a commit is done of a held proposal alone
abbrev pub MayDo : Body → Machine → Type 0
MayDo (Commit p) m = is_held p m.holds ≡ true
MayDo (Insert slot run) m = Unit {0}
MayDo (Delete target) m = Unit {0}
MayDo (Propose slot) m = Unit {0}
MayDo (Abort p) m = Unit {0}

stays_all : (rows : List DocRow) (s : Slot) → SlotStays rows rows s
stays_all rows Root = tt
stays_all rows (At x bit) = λ r e. (r, e, refl)

insert_slot : (slot : Slot) (dot : DotValue) (run : List (List ℕ)) (rows : List DocRow)
    → IsDocument (insert_run slot dot run rows) → (s : Slot) → SlotStays rows (insert_run slot dot run rows) s
insert_slot slot dot run rows d Root = tt
insert_slot slot dot run rows d (At x bit) = insert_stays slot dot run rows d x

delete_slot : (y : AtomIdValue) (by : DotValue) (rows : List DocRow) → IsDocument (delete y by rows) → (s : Slot)
    → SlotStays rows (delete y by rows) s
delete_slot y by rows d Root = tt
delete_slot y by rows d (At x bit) = delete_stays y by rows d x

released_holding : (x : OpValue) (p : DotValue) (commit : Bool) (m : Machine) (after : List DocRow) → IsDocument m.doc
    → IsDocument after → IsNext m.have x → IsHolding m
    → ((h : Hold) → In h m.holds → is_of p h ≡ false → SlotStays m.doc after h.slot)
    → Holding after (vector_bump m.have x.dot.site) (x ∷ m.log) (release p m.holds) (revise p (close commit) m.ballots)
released_holding x p commit m after d e next s stays =
    kept_holding x m after (release p m.holds) (revise p (close commit) m.ballots) d e next s
    (λ h i. (released p m.holds h i).0)
    (successive_filter (Apart m.doc) (λ (g : Hold). not (is_of p g)) m.holds s.apart)
    (λ h i. let r = released p m.holds h i in stays h r.0 r.1) (still_held p commit m s)

body_holding : (x : OpValue) (body : Body) (m : Machine) → IsDocument m.doc → IsDocument (effect m.log x.dot body m.doc)
    → IsNext m.have x → MayDo body m → IsHolding m
    → Holding (effect m.log x.dot body m.doc) (vector_bump m.have x.dot.site) (x ∷ m.log) (holds_after body m.holds)
    (ballots_after body m.ballots)
body_holding x (Insert slot run) m d e next may s =
    kept_holding x m (insert_run slot x.dot run m.doc) m.holds m.ballots d e next s (λ h i. i) s.apart
    (λ h i. insert_slot slot x.dot run m.doc e h.slot) s.held
body_holding x (Delete target) m d e next may s =
    kept_holding x m (delete target x.dot m.doc) m.holds m.ballots d e next s (λ h i. i) s.apart
    (λ h i. delete_slot target x.dot m.doc e h.slot) s.held
body_holding x (Propose slot) m d e next may s =
    kept_holding x m m.doc m.holds m.ballots d e next s (λ h i. i) s.apart (λ h i. stays_all m.doc h.slot) s.held
body_holding x (Abort p) m d e next may s =
    released_holding x p false m m.doc d e next s (λ h i k. stays_all m.doc h.slot)
body_holding x (Commit p) m d e next may s =
    let g = any_found (is_of p) m.holds may in
    let slot : proposed_slot p m.log ≡ Some g.0.slot =
    ap (λ (q : DotValue). proposed_slot q m.log) (sym (same_dot_true g.0.proposal p g.2)) ∙ s.known g.0 g.1 in
    let flat : flatten_found (proposed_slot p m.log) m.doc ≡ flatten g.0.slot m.doc =
    ap (λ (o : Option Slot). flatten_found o m.doc) slot in
    released_holding x p true m (flatten_found (proposed_slot p m.log) m.doc) d e next s
    (λ h i k.
    subst (λ (rows : List DocRow). SlotStays m.doc rows h.slot) (sym flat)
    (apart_stays m.doc d g.0.slot h.slot
    (apart_pair m.doc g.0 h m.holds s.apart g.1 i (λ (f : g.0 ≡ h). true≢false (sym g.2 ∙ (ap (is_of p) f ∙ k))))))

done_holding : (x : OpValue) (m : Machine) → IsDocument m.doc → IsDocument (done x m).doc → IsNext m.have x
    → MayDo x.body m
    → IsHolding m → IsHolding (done x m)
done_holding x m d e next may s = body_holding x x.body m d e next may s

-- ---- a hold more

-- of a slot that is there and apart from the others
hold_more : (own : Hold) (rows : List DocRow) (have : List ℕ) (log : List OpValue) (holds : List Hold)
    (ballots : List Ballot) → Holding rows have log holds ballots → is_rooted rows own.slot ≡ true
    → ((h : Hold) → In h holds → overlaps rows h.slot own.slot ≡ false)
    → proposed_slot own.proposal log ≡ Some own.slot → IsTrue (vector_has have own.proposal)
    → Holding rows have log (own ∷ holds) ballots
hold_more own rows have log holds ballots s rooted free known had =
    record {
      rooted = one_more (λ (h : Hold). is_rooted rows h.slot ≡ true) own holds rooted s.rooted;
      apart = (all_of (Apart rows own) holds (λ h i. overlaps_mutual rows own.slot h.slot ∙ free h i), s.apart);
      known = one_more (λ (h : Hold). proposed_slot h.proposal log ≡ Some h.slot) own holds known s.known;
      had = one_more (λ (h : Hold). IsTrue (vector_has have h.proposal)) own holds had s.had;
      held = λ b i o. more (is_of b.proposal own) (is_held b.proposal holds) (s.held b i o);
    }
  where
    more : (b c : Bool) → c ≡ true → (b || c) ≡ true
    more true c h = refl
    more false c h = h

had_now : (x : OpValue) (have : List ℕ) → IsNext have x → IsTrue (vector_has (vector_bump have x.dot.site) x.dot)
had_now x have next =
    let number : x.dot.seq ≡ vector_get have x.dot.site + 1 = next.next in
    let now : vector_get (vector_bump have x.dot.site) x.dot.site ≡ vector_get have x.dot.site + 1 =
    bump_same have x.dot.site next.some next.within in
    le-leb x.dot.seq (vector_get (vector_bump have x.dot.site) x.dot.site) (omega (arith, number, now))

newest_slot : (x : OpValue) (log : List OpValue) → proposed_slot x.dot (x ∷ log) ≡ proposed x.body
newest_slot x log = ap (λ (b : Bool). if b then proposed x.body else proposed_slot x.dot log) (same_dot_refl x.dot)

pub open_held : (p : DotValue) (m : Machine) → IsHolding m → IsOpenAt p m → is_held p m.holds ≡ true
open_held p m s b =
    let f = find_ballot p m.ballots b.ballot b.found in
    ap (λ (q : DotValue). is_held q m.holds) (sym f.1) ∙ s.held b.ballot f.0 b.open_

-- ---- the machine

make_may : (body : Body) (m : Machine) → MayMake body m → IsHolding m → MayDo body m
make_may (Insert slot run) m may s = tt
make_may (Delete target) m may s = tt
make_may (Propose slot) m may s = tt
make_may (Commit p) m may s = open_held p m s may.opened
make_may (Abort p) m may s = tt

fit_may : (site : ℕ) (body : Body) (m : Machine) → body_misfit site body m ≡ None → MayDo body m
fit_may site (Insert slot run) m e = tt
fit_may site (Delete target) m e = tt
fit_may site (Propose slot) m e = tt
fit_may site (Abort p) m e = tt
fit_may site (Commit p) m e = at (is_undecided_of site p m.log) (is_held p m.holds) refl e
  where
    at : (a b : Bool) → is_held p m.holds ≡ b → (if a then (if b then None else Some NoHold) else Some Proposal) ≡ None
        → is_held p m.holds ≡ true
    at true true k f = k
    at true false k f = absurd cc
    at false b k f = absurd cc

-- the body of a proposal
pub proposal_is : (slot : Slot) (body : Body) → proposed body ≡ Some slot → body ≡ Propose slot
proposal_is slot (Propose s) e = ap (λ (t : Slot). Propose t) (same_Some s slot e)
proposal_is slot (Insert s run) e = absurd cc
proposal_is slot (Delete target) e = absurd cc
proposal_is slot (Abort p) e = absurd cc
proposal_is slot (Commit p) e = absurd cc

first_and_third : (a b c d : Bool) → (a && b && c && d) ≡ true → (a ≡ true) × (c ≡ true)
first_and_third a b c d h =
    let front = and_parts (a && b && c) d h in
    let two = and_parts (a && b) c front.0 in
    ((and_parts a b two.0).0, two.1)

propose_holding : (slot : Slot) (m : Machine) → IsNext m.have (next_op m (Propose slot)) → IsDocument m.doc
    → IsProposing slot m
    → IsHolding m → IsHolding (proposed_here slot m)
propose_holding slot m next d may s =
    let p : DotValue = next_dot m in
    let x : OpValue = next_op m (Propose slot) in
    let own : Hold = record { proposal = p; slot = slot } in
    let h =
    hold_more own m.doc (vector_bump m.have m.site) (x ∷ m.log) m.holds m.ballots (done_holding x m d d next tt s)
    may.rooted (λ h i. held_none (λ (t : Slot). overlaps m.doc t slot) m.holds may.free h i)
    (newest_slot x m.log) (had_now x m.have next) in
    record {
      rooted = h.rooted;
      apart = h.apart;
      known = h.known;
      had = h.had;
      held =
          one_more (λ (b : Ballot). is_open b ≡ true → is_held b.proposal (own ∷ m.holds) ≡ true) (new_ballot p)
          m.ballots
          (λ o. ap (λ (t : Bool). t || is_held p m.holds) (same_dot_refl p)) h.held;
    }

count_holding : (v : Vote) (m : Machine) → IsHolding m
    → Holding m.doc m.have m.log m.holds (revise v.proposal (counted v.voter v.yes) m.ballots)
count_holding v m s =
    record {
      rooted = s.rooted;
      apart = s.apart;
      known = s.known;
      had = s.had;
      held = λ b i o.
          let r = counted_in v.proposal v.voter v.yes m.ballots b i in
          ap (λ (q : DotValue). is_held q m.holds) r.on ∙ s.held r.ballot r.inside (r.opened o);
    }

-- a Yes holds the slot
agree_holding : (x : OpValue) (slot : Slot) (m : Machine) → IsNext m.have x → proposed x.body ≡ Some slot
    → vote_on x slot m ≡ true
    → IsHolding (done x m)
    → Holding (done x m).doc (done x m).have (done x m).log
    ((record { proposal = x.dot; slot = slot }) ∷ (done x m).holds) (done x m).ballots
agree_holding x slot m next e v s =
    let body : x.body ≡ Propose slot = proposal_is slot x.body e in
    let doc : (done x m).doc ≡ m.doc = ap (λ (b : Body). effect m.log x.dot b m.doc) body in
    let holds : (done x m).holds ≡ m.holds = ap (λ (b : Body). holds_after b m.holds) body in
    let overlap : Hold → Bool = λ h. overlaps m.doc h.slot slot in
    let parts = first_and_third (is_rooted m.doc slot) (is_known m.doc slot x.deps) (not (list_any overlap m.holds))
    (list_all (λ (c : Committed). vector_has x.deps c.dot || is_apart m.doc slot c) (commits m.log)) v in
    let none : list_any overlap m.holds ≡ false = not-true (list_any overlap m.holds) parts.1 in
    hold_more (record { proposal = x.dot; slot = slot }) (done x m).doc (done x m).have (done x m).log (done x m).holds
    (done x m).ballots s
    (subst (λ (r : List DocRow). is_rooted r slot ≡ true) (sym doc) parts.0)
    (λ h i.
    subst (λ (r : List DocRow). overlaps r h.slot slot ≡ false) (sym doc)
    (any_none overlap m.holds h none (subst (λ (hs : List Hold). In h hs) holds i)))
    (newest_slot x m.log ∙ e) (had_now x m.have next)

pub holding : {Came : Message → Type 0} {site size : ℕ} (m : Machine) → IsBuilt Came site size m → IsHolding m
holding {Came = Came} {site = site} {size = size} =
    by_parts (λ (m : Machine). IsHolding m)
    (λ some within. record {
      rooted = λ h i. absurd i;
      apart = tt;
      known = λ h i. absurd i;
      had = λ h i. absurd i;
      held = λ b i o. absurd i;
    })
    (λ m n b part h. keeps m n b part (documents m b).0 (documents n (Goes b part)).0 h)
  where
    keeps : (m n : Machine) → IsBuilt Came site size m → Part Came m n → IsDocument m.doc → IsDocument n.doc
        → IsHolding m → IsHolding n
    keeps m n b (Makes body e may) d f h =
        done_holding (next_op m body) m d f (comes_next m b (next_op m body) (Own body may)) (make_may body m may h) h
    keeps m n b (Proposes slot may) d f h =
        propose_holding slot m (comes_next m b (next_op m (Propose slot)) (Own (Propose slot) may)) d may h
    keeps m n b (Counts v k) d f h = count_holding v m h
    keeps m n b (Takes x e fit) d f h =
        done_holding x m d f (comes_next m b x (Other x fit)) (fit_may x.dot.site x.body m fit.fit) h
    keeps m n b (Agrees x slot e fit says) d f h =
        let next : IsNext m.have x = comes_next m b x (Other x fit) in
        agree_holding x slot m next e says (done_holding x m d f next (fit_may x.dot.site x.body m fit.fit) h)
    keeps m n b (Declines x slot e fit says) d f h =
        done_holding x m d f (comes_next m b x (Other x fit)) (fit_may x.dot.site x.body m fit.fit) h
    keeps m n b part d f h = h
