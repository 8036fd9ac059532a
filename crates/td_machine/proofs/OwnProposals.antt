-- Own ballots are on own proposals, and an open one on a proposal of which the log has no decision.
use Rattle.std.proofs.Common.{◌≡◌, ◌≢◌, ◌≤◌, ◌+◌, ◌&&◌, ℕ, List, [], ◌∷◌, Bool, true, false, if◌then◌else◌, nat_eq}
use Rattle.std.proofs.Common.{Option, Some, None, refl, sym, ap, ◌∙◌, subst, inl, inr, true≢false, arith}
use Rattle.std.proofs.lemmas.Bool.{le-leb, leb-true, and_parts}
use Rattle.std.specs.Prelude.{IsTrue}
use Rattle.std.specs.Option.{option_or, is_some, is_none}
use Rattle.td_base.specs.Value.{DotValue}
use Rattle.td_base.specs.Equality.{same_dot}
use Rattle.td_base.specs.Lists.{In}
use Rattle.td_base.proofs.Elements.{one_more}
use Rattle.td_base.proofs.Lists.{any_found}
use Rattle.td_base.proofs.Equals.{same_dot_refl, same_dot_true, same_dot_other}
use Rattle.td_clock.specs.Vector.{vector_get, vector_has, vector_bump}
use Rattle.td_clock.proofs.VectorLemmas.{covered_dots}
use Rattle.td_path.specs.declared.slot.Slot.{Slot}
use Rattle.td_op.specs.declared.body.Body.{Body}
use Rattle.td_op.specs.declared.body.Body.TheVariants.{Insert, Delete, Propose, Commit, Abort}
use Rattle.td_op.specs.declared.message.Message.{Message}
use Rattle.td_op.specs.declared.reply.Why.{Why}
use Rattle.td_op.specs.declared.reply.Why.TheVariants.{Proposal, Vote as NoHold}
use Rattle.td_op.specs.Op.{OpValue}
use Rattle.td_machine.specs.Counts.{counts, IsNext, IsInTurn}
use Rattle.td_machine.specs.Log.{proposed, decides, proposed_slot, decision, is_undecided_of}
use Rattle.td_machine.specs.Decision.{Ballot, is_on, is_open, new_ballot, revise, close}
use Rattle.td_machine.specs.Machine.{Machine, made, next_dot, next_op}
use Rattle.td_machine.specs.Making.{done, make, ballots_after}
use Rattle.td_machine.specs.Taking.{body_misfit}
use Rattle.td_machine.specs.Hold.{is_held, is_of}
use Rattle.td_machine.proofs.Vectors.{bump_same, bump_covers}
use Rattle.td_machine.proofs.Ballots.{find_ballot, closed_in, counted_in, revised_in}
use Rattle.td_machine.specs.Parts.{IsProposing, IsOpenAt, MayMake, IsFit, Part, proposed_here, Delays, Forgets, Makes}
use Rattle.td_machine.specs.Parts.{Proposes, Counts, Takes, Agrees, Declines, IsBuilt}
use Rattle.td_machine.proofs.Parts.{Own, Other, by_parts}
use Rattle.td_machine.proofs.Holding.{holding}
use Rattle.td_machine.proofs.Turns.{counted as in_turn, comes_next}

-- ---- what the log has is had

pub had_counts : (n : ℕ) (log : List OpValue) → IsInTurn n log → (y : OpValue) → In y log
    → IsTrue (vector_has (counts n log) y.dot)
had_counts n [] c y i = absurd i
had_counts n (x ∷ log) c y (inl e) =
    let next : IsNext (counts n log) x = c.0 in
    let number : x.dot.seq ≡ vector_get (counts n log) x.dot.site + 1 = next.next in
    let now : vector_get (vector_bump (counts n log) x.dot.site) x.dot.site
    ≡ vector_get (counts n log) x.dot.site + 1 = bump_same (counts n log) x.dot.site next.some next.within in
    subst (λ (z : OpValue). IsTrue (vector_has (counts n (x ∷ log)) z.dot)) (sym e)
    (le-leb x.dot.seq (vector_get (vector_bump (counts n log) x.dot.site) x.dot.site) (omega (arith, number, now)))
had_counts n (x ∷ log) c y (inr i) =
    let next : IsNext (counts n log) x = c.0 in
    covered_dots (vector_bump (counts n log) x.dot.site) (counts n log)
    (bump_covers (counts n log) x.dot.site next.some next.within) y.dot (had_counts n log c.1 y i)

pub proposal_in : (p : DotValue) (log : List OpValue) → is_some (proposed_slot p log) ≡ true
    → (y : OpValue) × In y log × (y.dot ≡ p)
proposal_in p [] h = absurd (true≢false (sym h))
proposal_in p (x ∷ log) h = at (same_dot x.dot p) refl h (λ k. proposal_in p log k)
  where
    at : (b : Bool) → same_dot x.dot p ≡ b → is_some (if b then proposed x.body else proposed_slot p log) ≡ true
        → (is_some (proposed_slot p log) ≡ true → (y : OpValue) × In y log × (y.dot ≡ p))
        → (y : OpValue) × In y (x ∷ log) × (y.dot ≡ p)
    at true e k ih = (x, inl refl, same_dot_true x.dot p e)
    at false e k ih = let q = ih k in (q.0, inr q.1, q.2)

module _ {Came : Message → Type 0} {site size : ℕ} where
  pub logged_had : (m : Machine) → IsBuilt Came site size m → (y : OpValue) → In y m.log
      → IsTrue (vector_has m.have y.dot)
  logged_had m b y i =
      let c = in_turn m b in
      subst (λ (v : List ℕ). IsTrue (vector_has v y.dot)) (sym c.0) (had_counts m.size m.log c.1 y i)

  pub proposed_had : (m : Machine) → IsBuilt Came site size m → (p : DotValue)
      → is_some (proposed_slot p m.log) ≡ true → IsTrue (vector_has m.have p)
  proposed_had m b p h =
      let q = proposal_in p m.log h in
      subst (λ (d : DotValue). IsTrue (vector_has m.have d)) q.2 (logged_had m b q.0 q.1)

-- a decision of another site that fits is of a proposal that is here and undecided
pub undecided_parts : (site : ℕ) (p : DotValue) (log : List OpValue) → is_undecided_of site p log ≡ true
    → (is_some (proposed_slot p log) ≡ true) × (is_none (decision p log) ≡ true)
undecided_parts site p log h =
    let a = and_parts (nat_eq p.site site && is_some (proposed_slot p log)) (is_none (decision p log)) h in
    ((and_parts (nat_eq p.site site) (is_some (proposed_slot p log)) a.0).1, a.1)

-- a decision that fits is of a proposal of its site that is undecided
pub commit_fits : (site : ℕ) (p : DotValue) (m : Machine) → body_misfit site (Commit p) m ≡ None
    → is_undecided_of site p m.log ≡ true
commit_fits site p m h = at (is_undecided_of site p m.log) refl h
  where
    at : (b : Bool) → is_undecided_of site p m.log ≡ b
        → ◌≡◌ {A = Option Why} (if b then (if is_held p m.holds then None else Some NoHold) else Some Proposal) None
        → is_undecided_of site p m.log ≡ true
    at true e k = e
    at false e k = absurd cc

pub abort_fits : (site : ℕ) (p : DotValue) (m : Machine) → body_misfit site (Abort p) m ≡ None
    → is_undecided_of site p m.log ≡ true
abort_fits site p m h = at (is_undecided_of site p m.log) refl h
  where
    at : (b : Bool) → is_undecided_of site p m.log ≡ b
        → ◌≡◌ {A = Option Why} (if b then None else Some Proposal) None
        → is_undecided_of site p m.log ≡ true
    at true e k = e
    at false e k = absurd cc

-- ---- own ballots, and what the log decides

pub record Polls (m : Machine) : Type 0 where
  pub had : (b : Ballot) → In b m.ballots → IsTrue (vector_has m.have b.proposal)
  pub undecided : (b : Ballot) → In b m.ballots → is_open b ≡ true → decision b.proposal m.log ≡ None
  -- a decision is of a proposal that is had
  pub known : (p : DotValue) → vector_has m.have p ≡ false → decision p m.log ≡ None

-- what the body decides, if it does, is had
abbrev pub DecidesHad : Machine → Body → Type 0
DecidesHad m (Insert slot run) = Unit {0}
DecidesHad m (Delete x) = Unit {0}
DecidesHad m (Propose slot) = Unit {0}
DecidesHad m (Commit q) = IsTrue (vector_has m.have q)
DecidesHad m (Abort q) = IsTrue (vector_has m.have q)

-- another proposal is not decided
other_undecided : (p q : DotValue) (d : Bool) → q ≢ p → (if same_dot q p then Some d else None) ≡ None
other_undecided p q d other = ap (λ (b : Bool). if b then Some d else None) (same_dot_other q p other)

not_had : (m : Machine) (p q : DotValue) → vector_has m.have p ≡ false → IsTrue (vector_has m.have q) → q ≢ p
not_had m p q none had e =
    true≢false (sym (subst (λ (d : DotValue). IsTrue (vector_has m.have d)) e had) ∙ none)

unknown_undecided : (m : Machine) (body : Body) → DecidesHad m body → (p : DotValue) → vector_has m.have p ≡ false
    → decides p body ≡ None
unknown_undecided m (Insert slot run) h p none = refl
unknown_undecided m (Delete x) h p none = refl
unknown_undecided m (Propose slot) h p none = refl
unknown_undecided m (Commit q) h p none = other_undecided p q true (not_had m p q none h)
unknown_undecided m (Abort q) h p none = other_undecided p q false (not_had m p q none h)

not_on : (q : DotValue) (b : Ballot) → is_on q b ≡ false → q ≢ b.proposal
not_on q b off e = true≢false (sym (ap (λ (d : DotValue). same_dot d q) (sym e) ∙ same_dot_refl q) ∙ off)

-- a ballot that is open afterwards was open, and its proposal is not decided
still_open : (m : Machine) (body : Body) (b : Ballot) → In b (ballots_after body m.ballots) → is_open b ≡ true
    → In b m.ballots × (decides b.proposal body ≡ None)
still_open m (Insert slot run) b i o = (i, refl)
still_open m (Delete x) b i o = (i, refl)
still_open m (Propose slot) b i o = (i, refl)
still_open m (Commit q) b i o =
    let c = closed_in q true m.ballots b i o in (c.0, other_undecided b.proposal q true (not_on q b c.1))
still_open m (Abort q) b i o =
    let c = closed_in q false m.ballots b i o in (c.0, other_undecided b.proposal q false (not_on q b c.1))

closed_had : (m : Machine) (q : DotValue) (commit : Bool)
    → ((b : Ballot) → In b m.ballots → IsTrue (vector_has m.have b.proposal)) → (b : Ballot)
    → In b (revise q (close commit) m.ballots) → IsTrue (vector_has m.have b.proposal)
closed_had m q commit h b i =
    let r = revised_in q (close commit) (λ c. (refl, (λ e. absurd (true≢false (sym e))))) m.ballots b i in
    subst (λ (d : DotValue). IsTrue (vector_has m.have d)) (sym r.on) (h r.ballot r.inside)

after_had : (m : Machine) (body : Body)
    → ((b : Ballot) → In b m.ballots → IsTrue (vector_has m.have b.proposal)) → (b : Ballot)
    → In b (ballots_after body m.ballots) → IsTrue (vector_has m.have b.proposal)
after_had m (Insert slot run) h = h
after_had m (Delete x) h = h
after_had m (Propose slot) h = h
after_had m (Commit q) h = closed_had m q true h
after_had m (Abort q) h = closed_had m q false h

done_polls : (x : OpValue) (m : Machine) → IsNext m.have x → DecidesHad m x.body → Polls m → Polls (done x m)
done_polls x m next h s =
    record {
      had = λ b i. more b.proposal (after_had m x.body s.had b i);
      undecided = λ b i o.
          let old = still_open m x.body b i o in
          ap (λ (d : Option Bool). option_or d (decision b.proposal m.log)) old.1 ∙ s.undecided b old.0 o;
      known = λ p none.
          let before : vector_has m.have p ≡ false = fewer p none in
          ap (λ (d : Option Bool). option_or d (decision p m.log)) (unknown_undecided m x.body h p before)
          ∙ s.known p before;
    }
  where
    more : (p : DotValue) → IsTrue (vector_has m.have p) → IsTrue (vector_has (vector_bump m.have x.dot.site) p)
    more p had =
        covered_dots (vector_bump m.have x.dot.site) m.have (bump_covers m.have x.dot.site next.some next.within) p had

    fewer : (p : DotValue) → vector_has (vector_bump m.have x.dot.site) p ≡ false → vector_has m.have p ≡ false
    fewer p none = at (vector_has m.have p) refl
      where
        at : (b : Bool) → vector_has m.have p ≡ b → vector_has m.have p ≡ false
        at true e = absurd (true≢false (sym (more p e) ∙ none))
        at false e = e

opened_had : (m : Machine) (p : DotValue) → Polls m → IsOpenAt p m → IsTrue (vector_has m.have p)
opened_had m p s o =
    let f = find_ballot p m.ballots o.ballot o.found in
    subst (λ (d : DotValue). IsTrue (vector_has m.have d)) f.1 (s.had o.ballot f.0)

made_had : (body : Body) (m : Machine) → Polls m → MayMake body m → DecidesHad m body
made_had (Insert slot run) m s may = tt
made_had (Delete x) m s may = tt
made_had (Propose slot) m s may = tt
made_had (Commit p) m s may = opened_had m p s may.opened
made_had (Abort p) m s may = opened_had m p s may

module _ {Came : Message → Type 0} {site size : ℕ} where
  taken_had : (m : Machine) → IsBuilt Came site size m → (from : ℕ) (body : Body) → body_misfit from body m ≡ None
      → DecidesHad m body
  taken_had m b from (Insert slot run) fit = tt
  taken_had m b from (Delete x) fit = tt
  taken_had m b from (Propose slot) fit = tt
  taken_had m b from (Commit p) fit =
      proposed_had m b p (undecided_parts from p m.log (commit_fits from p m fit)).0
  taken_had m b from (Abort p) fit =
      proposed_had m b p (undecided_parts from p m.log (abort_fits from p m fit)).0

  pub polls : (m : Machine) → IsBuilt Came site size m → Polls m
  polls =
      by_parts Polls
      (λ some within. record { had = λ b i. absurd i; undecided = λ b i o. absurd i; known = λ p none. refl })
      keeps
    where
      makes : (body : Body) (m : Machine) → IsBuilt Came site size m → MayMake body m → Polls m → Polls (make body m)
      makes body m b may s =
          let d = done_polls (next_op m body) m (comes_next m b (next_op m body) (Own body may))
          (made_had body m s may) s in
          record { had = d.had; undecided = d.undecided; known = d.known }

      takes : (x : OpValue) (m : Machine) → IsBuilt Came site size m → IsFit Came m x → Polls m → Polls (done x m)
      takes x m b fit s =
          done_polls x m (comes_next m b x (Other x fit)) (taken_had m b x.dot.site x.body fit.fit) s

      fresh : (m : Machine) → vector_has m.have (next_dot m) ≡ false
      fresh m = at (vector_has m.have (next_dot m)) refl
        where
          at : (b : Bool) → vector_has m.have (next_dot m) ≡ b → vector_has m.have (next_dot m) ≡ false
          at true e = let le : made m + 1 ≤ made m = leb-true (made m + 1) (made m) e in absurd (omega (arith, le))
          at false e = e

      opens : (slot : Slot) (m : Machine) → IsBuilt Came site size m → IsProposing slot m → Polls m
          → Polls (proposed_here slot m)
      opens slot m b may s =
          let d = makes (Propose slot) m b may s in
          record {
            had = one_more (λ (c : Ballot). IsTrue (vector_has (make (Propose slot) m).have c.proposal))
                (new_ballot (next_dot m)) m.ballots own_had d.had;
            undecided = one_more
                (λ (c : Ballot). is_open c ≡ true → decision c.proposal (make (Propose slot) m).log ≡ None)
                (new_ballot (next_dot m)) m.ballots (λ o. s.known (next_dot m) (fresh m)) d.undecided;
            known = d.known;
          }
        where
          own_had : IsTrue (vector_has (make (Propose slot) m).have (next_dot m))
          own_had =
              let next = comes_next m b (next_op m (Propose slot)) (Own (Propose slot) may) in
              let now : vector_get (vector_bump m.have m.site) m.site ≡ made m + 1 =
              bump_same m.have m.site next.some next.within in
              le-leb (made m + 1) (vector_get (vector_bump m.have m.site) m.site) (omega (arith, now))

      keeps : (m n : Machine) → IsBuilt Came site size m → Part Came m n → Polls m → Polls n
      keeps m n b (Makes body e may) s = makes body m b may s
      keeps m n b (Proposes slot may) s = opens slot m b may s
      keeps m n b (Counts v k) s =
          record {
            had = λ c i.
                let r = counted_in v.proposal v.voter v.yes m.ballots c i in
                subst (λ (d : DotValue). IsTrue (vector_has m.have d)) (sym r.on) (s.had r.ballot r.inside);
            undecided = λ c i o.
                let r = counted_in v.proposal v.voter v.yes m.ballots c i in
                ap (λ (d : DotValue). decision d m.log) r.on ∙ s.undecided r.ballot r.inside (r.opened o);
            known = s.known;
          }
      keeps m n b (Takes x e fit) s = takes x m b fit s
      keeps m n b (Agrees x slot e fit says) s =
          let d = takes x m b fit s in record { had = d.had; undecided = d.undecided; known = d.known }
      keeps m n b (Declines x slot e fit says) s =
          let d = takes x m b fit s in record { had = d.had; undecided = d.undecided; known = d.known }
      keeps m n b (Delays x o new late) s = record { had = s.had; undecided = s.undecided; known = s.known }
      keeps m n b (Forgets x i ready) s = record { had = s.had; undecided = s.undecided; known = s.known }

  -- the log tells the slot of an open one
  pub open_proposed : (m : Machine) → IsBuilt Came site size m → (b : Ballot) → In b m.ballots → is_open b ≡ true
      → is_some (proposed_slot b.proposal m.log) ≡ true
  open_proposed m built b i o =
      let held = any_found (is_of b.proposal) m.holds ((holding m built).held b i o) in
      let same : held.0.proposal ≡ b.proposal = same_dot_true held.0.proposal b.proposal held.2 in
      subst (λ (d : DotValue). is_some (proposed_slot d m.log) ≡ true) same
      (ap (λ (slot : Option Slot). is_some slot) ((holding m built).known held.0 held.1))
