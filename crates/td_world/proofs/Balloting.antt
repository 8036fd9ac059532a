-- The ballots of a machine: one for each own proposal, with the own Yes; and an open one has fewer than all votes.
use Rattle.std.proofs.Common.{◌≡◌, ◌≢◌, ◌⊎◌, ◌<◌, ◌≤◌, ◌+◌, ℕ, zero, suc, List, [], ◌∷◌, Bool, true, false}
use Rattle.std.proofs.Common.{not, if◌then◌else◌, nat_eq, length, filter, Option, Some, None, refl, sym, ap}
use Rattle.std.proofs.Common.{◌∙◌, subst, inl, inr, ⊎_elim, true≢false, arith}
use Rattle.std.proofs.lemmas.Bool.{eqb-true, eqb-false, leb-true, or_parts}
use Rattle.std.specs.Prelude.{IsTrue}
use Rattle.std.specs.List.{find, list_any}
use Rattle.std.specs.Option.{is_some, is_none}
use Rattle.td_base.specs.Value.{DotValue}
use Rattle.td_base.specs.Equality.{same_dot}
use Rattle.td_base.proofs.Equals.{same_dot_refl, same_dot_true}
use Rattle.td_base.specs.Lists.{In, Successive}
use Rattle.td_base.proofs.Lists.{filter_In, map_In, all_of, all_in, successive_imp, successive_map}
use Rattle.td_base.proofs.Passing.{filter_fewer}
use Rattle.td_clock.specs.Vector.{vector_has}
use Rattle.td_path.specs.declared.slot.Slot.{Slot}
use Rattle.td_op.specs.declared.body.Body.{Body}
use Rattle.td_op.specs.declared.body.Body.TheVariants.{Insert, Delete, Propose, Commit, Abort}
use Rattle.td_op.specs.declared.input.Input.{Input}
use Rattle.td_op.specs.declared.message.Message.{Message}
use Rattle.td_op.specs.declared.vote.Vote.{Vote}
use Rattle.td_op.specs.Op.{OpValue}
use Rattle.td_machine.specs.Log.{proposed}
use Rattle.td_machine.specs.Decision.{Ballot, is_on, is_open, is_counted, counted, outcome, revise, close, new_ballot}
use Rattle.td_machine.specs.Machine.{Machine, made, next_dot}
use Rattle.td_machine.specs.Making.{decide, ballots_after}
use Rattle.td_machine.specs.Taking.{Stepped, answer, vote_on, take_as, count, forget}
use Rattle.td_machine.specs.Making.{done}
use Rattle.td_machine.specs.Request.{perform}
use Rattle.td_machine.specs.Step.{step}
use Rattle.td_machine.specs.History.{IsReached}
use Rattle.td_machine.proofs.Ballots.{find_ballot, closed_in}
use Rattle.td_machine.specs.Parts.{IsBuilt, Part, Makes, Proposes, Counts, Takes, Agrees, Declines, Delays, Forgets}
use Rattle.td_machine.specs.Parts.{proposed_here, Anything}
use Rattle.td_machine.proofs.Parts.{by_parts}
use Rattle.td_machine.proofs.Turns.{placed}
use Rattle.td_machine.proofs.OwnProposals.{polls}
use Rattle.td_machine.proofs.StepKinds.{by_kinds}
use Rattle.td_machine.proofs.Induction.{built_of, by_steps}

-- ---- numbers

-- a list that has all numbers from 1 to n is as long
pub as_many : (n : ℕ) (xs : List ℕ) → ((k : ℕ) → 0 < k → k ≤ n → In k xs) → n ≤ length xs
as_many zero xs h = omega arith
as_many (suc n) xs h =
    let others : ℕ → Bool = λ (k : ℕ). not (nat_eq k (suc n)) in
    let fewer : length (filter others xs) < length xs =
    filter_fewer others (suc n) xs (h (suc n) (omega arith) (omega arith)) (not_itself (nat_eq (suc n) (suc n)) refl) in
    let rest : n ≤ length (filter others xs) =
    as_many n (filter others xs)
    (λ k some within. filter_In others k xs (h k some (omega (arith, within)))
    (other k within (nat_eq k (suc n)) refl)) in
    omega (arith, fewer, rest)
  where
    not_itself : (b : Bool) → nat_eq (suc n) (suc n) ≡ b → not b ≡ false
    not_itself true e = refl
    not_itself false e = absurd (eqb-false (suc n) (suc n) e refl)

    other : (k : ℕ) → k ≤ n → (b : Bool) → nat_eq k (suc n) ≡ b → not b ≡ true
    other k within true e = let same : k ≡ suc n = eqb-true k (suc n) e in absurd (omega (arith, same, within))
    other k within false e = refl

-- ---- one ballot for each proposal

abbrev Differ : Ballot → Ballot → Type 0
Differ a b = a.proposal ≢ b.proposal

pub record AreBallots (m : Machine) : Type 0 where
  pub apart : Successive Differ m.ballots
  -- with the own Yes
  pub own : (b : Ballot) → In b m.ballots → In m.site b.yes

pub one_ballot : (xs : List Ballot) → Successive Differ xs → (a b : Ballot) → In a xs → In b xs
    → a.proposal ≡ b.proposal → a ≡ b
one_ballot [] s a b i j e = absurd i
one_ballot (x ∷ xs) s a b (inl k) (inl l) e = k ∙ sym l
one_ballot (x ∷ xs) s a b (inl k) (inr j) e =
    absurd (all_in (Differ x) xs s.0 b j (ap (λ (z : Ballot). z.proposal) (sym k) ∙ e))
one_ballot (x ∷ xs) s a b (inr i) (inl l) e =
    absurd (all_in (Differ x) xs s.0 a i (ap (λ (z : Ballot). z.proposal) (sym l) ∙ sym e))
one_ballot (x ∷ xs) s a b (inr i) (inr j) e = one_ballot xs s.1 a b i j e

-- a change that keeps proposals, and takes no Yes away
pub record IsMild (change : Ballot → Ballot) : Type 0 where
  same : (b : Ballot) → (change b).proposal ≡ b.proposal
  kept : (b : Ballot) (k : ℕ) → In k b.yes → In k (change b).yes

revised_same : (p : DotValue) (change : Ballot → Ballot) → IsMild change → (b : Ballot)
    → (if is_on p b then change b else b).proposal ≡ b.proposal
revised_same p change mild b = at (is_on p b)
  where
    at : (t : Bool) → (if t then change b else b).proposal ≡ b.proposal
    at true = mild.same b
    at false = refl

revised_apart : (p : DotValue) (change : Ballot → Ballot) → IsMild change → (xs : List Ballot) → Successive Differ xs
    → Successive Differ (revise p change xs)
revised_apart p change mild xs s =
    successive_map Differ (λ (b : Ballot). if is_on p b then change b else b) xs
    (successive_imp Differ
    (λ (a b : Ballot). (if is_on p a then change a else a).proposal ≢ (if is_on p b then change b else b).proposal)
    (λ a b d e. d (sym (revised_same p change mild a) ∙ e ∙ revised_same p change mild b)) xs s)

revised_own : (p : DotValue) (change : Ballot → Ballot) → IsMild change → (site : ℕ) (xs : List Ballot)
    → ((b : Ballot) → In b xs → In site b.yes) → (b : Ballot) → In b (revise p change xs) → In site b.yes
revised_own p change mild site xs h b i =
    let q = map_In (λ (c : Ballot). if is_on p c then change c else c) b xs i in
    subst (λ (c : Ballot). In site c.yes) (sym q.2) (at (is_on p q.0) q.0 (h q.0 q.1))
  where
    at : (t : Bool) (c : Ballot) → In site c.yes → In site (if t then change c else c).yes
    at true c k = mild.kept c site k
    at false c k = k

pub close_mild : (commit : Bool) → IsMild (close commit)
close_mild commit = record { same = λ b. refl; kept = λ b k i. i }

pub counted_mild : (voter : ℕ) (says : Bool) → IsMild (counted voter says)
counted_mild voter true = record { same = λ b. refl; kept = λ b k i. inr i }
counted_mild voter false = record { same = λ b. refl; kept = λ b k i. i }

module _ {Came : Message → Type 0} {site size : ℕ} where
  pub balloting : (m : Machine) → IsBuilt Came site size m → AreBallots m
  balloting =
      by_parts (λ (m : Machine). AreBallots m) (λ some within. record { apart = tt; own = λ b i. absurd i }) keeps
    where
      revised : (p : DotValue) (change : Ballot → Ballot) → IsMild change → (m n : Machine) → n.site ≡ m.site
          → n.ballots ≡ revise p change m.ballots → AreBallots m → AreBallots n
      revised p change mild m n at is s =
          record {
            apart = subst (λ (l : List Ballot). Successive Differ l) (sym is)
                (revised_apart p change mild m.ballots s.apart);
            own = λ b i.
                subst (λ (k : ℕ). In k b.yes) (sym at)
                (revised_own p change mild m.site m.ballots s.own b (subst (λ (l : List Ballot). In b l) is i));
          }

      kept : (m n : Machine) → n.site ≡ m.site → n.ballots ≡ m.ballots → AreBallots m → AreBallots n
      kept m n at is s =
          record {
            apart = subst (λ (l : List Ballot). Successive Differ l) (sym is) s.apart;
            own = λ b i. subst (λ (k : ℕ). In k b.yes) (sym at) (s.own b (subst (λ (l : List Ballot). In b l) is i));
          }

      after : (body : Body) (m n : Machine) → n.site ≡ m.site → n.ballots ≡ ballots_after body m.ballots → AreBallots m
          → AreBallots n
      after (Insert slot run) m n at is s = kept m n at is s
      after (Delete x) m n at is s = kept m n at is s
      after (Propose slot) m n at is s = kept m n at is s
      after (Commit p) m n at is s = revised p (close true) (close_mild true) m n at is s
      after (Abort p) m n at is s = revised p (close false) (close_mild false) m n at is s

      new_apart : (m : Machine) → IsBuilt Came site size m → (b : Ballot) → In b m.ballots → next_dot m ≢ b.proposal
      new_apart m b c i e =
          let had : IsTrue (vector_has m.have (next_dot m)) =
          subst (λ (d : DotValue). IsTrue (vector_has m.have d)) (sym e) ((polls m b).had c i) in
          let less : made m + 1 ≤ made m = leb-true (made m + 1) (made m) had in
          omega (arith, less)

      keeps : (m n : Machine) → IsBuilt Came site size m → Part Came m n → AreBallots m → AreBallots n
      keeps m n b (Makes body e may) s = after body m n refl refl s
      keeps m n b (Proposes slot may) s =
          record {
            apart = (all_of (Differ (new_ballot (next_dot m))) m.ballots (new_apart m b), s.apart);
            own = λ c i.
                ⊎_elim (λ (e : c ≡ new_ballot (next_dot m)). subst (λ (z : Ballot). In m.site z.yes) (sym e) (inl refl))
                (λ (j : In c m.ballots). s.own c j) i;
          }
      keeps m n b (Counts v k) s = revised v.proposal (counted v.voter v.yes) (counted_mild v.voter v.yes) m n refl
          refl s
      keeps m n b (Takes y e fit) s = after y.body m n refl refl s
      keeps m n b (Agrees y slot e fit says) s = after y.body m n refl refl s
      keeps m n b (Declines y slot e fit says) s = after y.body m n refl refl s
      keeps m n b (Delays y o new late) s = kept m n refl refl s
      keeps m n b (Forgets y i ready) s = kept m n refl refl s

-- ---- an open ballot has fewer Yes than there are sites

abbrev Few : ℕ → List Ballot → Type 0
Few size ballots = (b : Ballot) → In b ballots → is_open b ≡ true → length b.yes < size

few_after : (size : ℕ) (body : Body) (ballots : List Ballot) → Few size ballots → Few size (ballots_after body ballots)
few_after size (Insert slot run) ballots h = h
few_after size (Delete x) ballots h = h
few_after size (Propose slot) ballots h = h
few_after size (Commit p) ballots h = λ b i o. h b (closed_in p true ballots b i o).0 o
few_after size (Abort p) ballots h = λ b i o. h b (closed_in p false ballots b i o).0 o

-- each ballot of a changed list is one of before, or one that was changed
revised_from : (p : DotValue) (change : Ballot → Ballot) (ballots : List Ballot) (b : Ballot)
    → In b (revise p change ballots)
    → In b ballots ⊎ ((c : Ballot) × In c ballots × (is_on p c ≡ true) × (b ≡ change c))
revised_from p change [] b i = absurd i
revised_from p change (c ∷ ballots) b (inl k) = at (is_on p c) refl k
  where
    at : (t : Bool) → is_on p c ≡ t → b ≡ (if t then change c else c)
        → In b (c ∷ ballots) ⊎ ((d : Ballot) × In d (c ∷ ballots) × (is_on p d ≡ true) × (b ≡ change d))
    at true e l = inr (c, inl refl, e, l)
    at false e l = inl (inl l)
revised_from p change (c ∷ ballots) b (inr i) =
    ⊎_elim (λ (j : In b ballots). inl (inr j))
    (λ (q : (d : Ballot) × In d ballots × (is_on p d ≡ true) × (b ≡ change d)). inr (q.0, inr q.1, q.2, q.3))
    (revised_from p change ballots b i)

-- a vote is counted on the one ballot
few_counted : (size : ℕ) (p : DotValue) (voter : ℕ) (says : Bool) (ballots : List Ballot) (b : Ballot)
    → Successive Differ ballots
    → find (is_on p) ballots ≡ Some b → is_open b ≡ true → length (counted voter says b).yes < size → Few size ballots
    → Few size (revise p (counted voter says) ballots)
few_counted size p voter says ballots b apart found opened less h c i o =
    ⊎_elim (λ (j : In c ballots). h c j o)
    (λ (q : (d : Ballot) × In d ballots × (is_on p d ≡ true) × (c ≡ counted voter says d)).
    let f = find_ballot p ballots b found in
    let same : q.0 ≡ b =
    one_ballot ballots apart q.0 b q.1 f.0 (same_dot_true q.0.proposal p q.2 ∙ sym f.1) in
    subst (λ (z : Ballot). length z.yes < size) (sym (q.3 ∙ ap (counted voter says) same)) less)
    (revised_from p (counted voter says) ballots c i)

-- a decision that is made closes what was counted
few_decided : (p : DotValue) (o : Option Bool) (m : Machine) (ballots : List Ballot) (voter : ℕ) (says : Bool)
    → m.ballots ≡ revise p (counted voter says) ballots
    → Successive Differ ballots
    → (b : Ballot) → find (is_on p) ballots ≡ Some b → is_open b ≡ true
    → (o ≡ None → length (counted voter says b).yes < m.size) → Few m.size ballots → Few m.size (decide p o m).ballots
few_decided p None m ballots voter says is apart b found opened less h =
    subst (λ (l : List Ballot). Few m.size l) (sym is)
    (few_counted m.size p voter says ballots b apart found opened (less refl) h)
few_decided p (Some commit) m ballots voter says is apart b found opened less h = at commit
  where
    closed : (d : Bool) (c : Ballot) → In c (revise p (close d) m.ballots) → is_open c ≡ true → length c.yes < m.size
    closed d c i o =
        let q = closed_in p d m.ballots c i o in
        ⊎_elim (λ (j : In c ballots). h c j o)
        (λ (r : (e : Ballot) × In e ballots × (is_on p e ≡ true) × (c ≡ counted voter says e)).
        absurd (true≢false (sym (on r.0 r.2 r.3) ∙ q.1)))
        (revised_from p (counted voter says) ballots c (subst (λ (l : List Ballot). In c l) is q.0))
      where
        on : (e : Ballot) → is_on p e ≡ true → c ≡ counted voter says e → is_on p c ≡ true
        on e k l = ap (is_on p) l ∙ (ap (λ (d : DotValue). same_dot d p) ((counted_mild voter says).same e) ∙ k)

    at : (d : Bool) → Few m.size (decide p (Some d) m).ballots
    at true = closed true
    at false = closed false

-- a proposal that is made
few_proposed : (m : Machine) (p : DotValue) (ballots : List Ballot) (o : Option Bool) → m.ballots
    ≡ new_ballot p ∷ ballots
    → (o ≡ None → 1 < m.size) → Few m.size ballots → Few m.size (decide p o m).ballots
few_proposed m p ballots None is more h = λ b i o.
    ⊎_elim (λ (e : b ≡ new_ballot p). subst (λ (z : Ballot). length z.yes < m.size) (sym e) (more refl))
    (λ (j : In b ballots). h b j o) (subst (λ (l : List Ballot). In b l) is i)
few_proposed m p ballots (Some commit) is more h = at commit
  where
    closed : (d : Bool) (c : Ballot) → In c (revise p (close d) m.ballots) → is_open c ≡ true → length c.yes < m.size
    closed d c i o =
        let q = closed_in p d m.ballots c i o in
        ⊎_elim
        (λ (e : c ≡ new_ballot p). absurd (true≢false (sym (ap (is_on p) e ∙ same_dot_refl p) ∙ q.1)))
        (λ (j : In c ballots). h c j o) (subst (λ (l : List Ballot). In c l) is q.0)

    at : (d : Bool) → Few m.size (decide p (Some d) m).ballots
    at true = closed true
    at false = closed false

open_uncounted : (voter : ℕ) (b : Ballot) → is_counted voter b ≡ false → is_open b ≡ true
open_uncounted voter b e = at b.decision (or_parts (is_some b.decision)
    (list_any (λ (site : ℕ). nat_eq voter site) b.yes) e).0
  where
    at : (o : Option Bool) → is_some o ≡ false → is_none o ≡ true
    at None f = refl
    at (Some d) f = absurd (true≢false f)

module _ (m : Machine) (r : IsReached m) (h : Few m.size m.ballots) where
  abbrev built : IsBuilt Anything (built_of m r).site (built_of m r).size m
  built = (built_of m r).built

  some_size : 0 < m.size
  some_size = let p = placed m built in let a : 0 < m.site = p.0 in let b : m.site ≤ m.size = p.1 in omega (arith, a, b)

  few_performed : (body : Body) → Few m.size (perform body m).ballots
  few_performed (Insert slot run) = h
  few_performed (Delete x) = h
  few_performed (Commit p) = few_after m.size (Commit p) m.ballots h
  few_performed (Abort p) = few_after m.size (Abort p) m.ballots h
  few_performed (Propose slot) =
      few_proposed (proposed_here slot m) (next_dot m) m.ballots (outcome m.size true (new_ballot (next_dot m))) refl
      (more (nat_eq 1 m.size) refl) h
    where
      more : (b : Bool) → nat_eq 1 m.size ≡ b → (if nat_eq 1 m.size then Some true else None) ≡ None → 1 < m.size
      more true e k = absurd (none_some (sym (ap (λ (t : Bool). if t then Some true else None) e) ∙ k))
        where
          none_some : Some true ≡ None → ⊥
          none_some l = cc
      more false e k = let d = eqb-false 1 m.size e in let s : 0 < m.size = some_size in at (nat_eq 1 m.size) d s
        where
          at : Bool → (1 ≡ m.size → ⊥) → 0 < m.size → 1 < m.size
          at b apart some = omega (arith, apart, some)

  few_taken : (slot : Option Slot) (x : OpValue) (n : Machine) → n.size ≡ m.size → n.ballots ≡ m.ballots
      → Few m.size (take_as slot x n).ballots
  few_taken None x n size same =
      subst (λ (l : List Ballot). Few m.size (ballots_after x.body l)) (sym same) (few_after m.size x.body m.ballots h)
  few_taken (Some slot) x n size same = at (vote_on x slot n)
    where
      at : (says : Bool) → Few m.size (answer x.dot slot says (done x n)).ballots
      at true =
          subst (λ (l : List Ballot). Few m.size (ballots_after x.body l)) (sym same)
          (few_after m.size x.body m.ballots h)
      at false =
          subst (λ (l : List Ballot). Few m.size (ballots_after x.body l)) (sym same)
          (few_after m.size x.body m.ballots h)

  few_voted : (v : Vote) (b : Ballot) → find (is_on v.proposal) m.ballots ≡ Some b → is_counted v.voter b ≡ false
      → Few m.size
      (decide v.proposal (outcome m.size v.yes (counted v.voter v.yes b))
      (record m { ballots = revise v.proposal (counted v.voter v.yes) m.ballots })).ballots
  few_voted v b found new =
      few_decided v.proposal (outcome m.size v.yes (counted v.voter v.yes b))
      (record m { ballots = revise v.proposal (counted v.voter v.yes) m.ballots }) m.ballots v.voter v.yes refl
      (balloting m built).apart b found opened
      (less v.yes)
      h
    where
      opened : is_open b ≡ true
      opened = open_uncounted v.voter b new

      less : (says : Bool) → outcome m.size says (counted v.voter says b) ≡ None
          → length (counted v.voter says b).yes < m.size
      less false e = absurd cc
      less true e = at (nat_eq (suc (length b.yes)) m.size) refl e
        where
          at : (t : Bool) → nat_eq (suc (length b.yes)) m.size ≡ t → (if t then Some true else None) ≡ None
              → suc (length b.yes) < m.size
          at true f k = absurd cc
          at false f k =
              let apart = eqb-false (suc (length b.yes)) m.size f in
              let fewer : length b.yes < m.size = h b (find_ballot v.proposal m.ballots b found).0 opened in
              omega (arith, apart, fewer)

same_decide : (p : DotValue) (o : Option Bool) (m : Machine) → (decide p o m).size ≡ m.size
same_decide p None m = refl
same_decide p (Some true) m = refl
same_decide p (Some false) m = refl

same_perform : (body : Body) (m : Machine) → (perform body m).size ≡ m.size
same_perform (Insert slot run) m = refl
same_perform (Delete x) m = refl
same_perform (Commit p) m = refl
same_perform (Abort p) m = refl
same_perform (Propose slot) m =
    same_decide (next_dot m) (outcome m.size true (new_ballot (next_dot m))) (proposed_here slot m)

same_take : (slot : Option Slot) (x : OpValue) (m : Machine) → (take_as slot x m).size ≡ m.size
same_take None x m = refl
same_take (Some slot) x m = at (vote_on x slot m)
  where
    at : (says : Bool) → (answer x.dot slot says (done x m)).size ≡ m.size
    at true = refl
    at false = refl

pub few_yes : (m : Machine) → IsReached m → (b : Ballot) → In b m.ballots → is_open b ≡ true → length b.yes < m.size
few_yes =
    by_steps (λ (m : Machine). Few m.size m.ballots) (λ site size some within few b i o. absurd i)
    (λ m input r valid h. keeps m input r h)
  where
    keeps : (m : Machine) (input : Input) → IsReached m → Few m.size m.ballots
        → Few (step m input).machine.size (step m input).machine.ballots
    keeps m input r h = by_kinds m (λ (s : Stepped). Few s.machine.size s.machine.ballots) input
        (record {
          stays = λ reply. h;
          makes = λ request a e is free room. sized (perform a.body m) (same_perform a.body m)
              (few_performed m r h a.body);
          cancels = λ request p e is. few_after m.size (Abort p) m.ballots h;
          delays = λ x e foreign late. h;
          takes = λ x e foreign ready fit.
              sized (take_as (proposed x.body) x m) (same_take (proposed x.body) x m)
              (few_taken m r h (proposed x.body) x m refl refl);
          counts = λ v b e found new within own.
              sized (count v b m)
              (same_decide v.proposal (outcome m.size v.yes (counted v.voter v.yes b))
              (record m { ballots = revise v.proposal (counted v.voter v.yes) m.ballots }))
              (few_voted m r h v b found new);
          drops = λ x why i ready. h;
          resumes = λ x i ready fit.
              sized (take_as (proposed x.body) x (forget x m))
              (same_take (proposed x.body) x (forget x m))
              (few_taken m r h (proposed x.body) x (forget x m) refl refl);
        })
      where
        sized : (n : Machine) → n.size ≡ m.size → Few m.size n.ballots → Few n.size n.ballots
        sized n e k = subst (λ (s : ℕ). Few s n.ballots) (sym e) k
