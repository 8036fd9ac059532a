-- What is counted from the entries of a site is what its machine has.
use Rattle.std.proofs.Common.{◌≡◌, ◌≢◌, ◌<◌, ◌≤◌, ◌+◌, ◌-◌, ◌||◌, ◌&&◌, List, ◌∷◌, ℕ, suc, Bool, true}
use Rattle.std.proofs.Common.{false, not, if◌then◌else◌, nat_eq, length, filter, Option, Some, None}
use Rattle.std.proofs.Common.{refl, sym, ap, ◌∙◌, subst, true≢false, arith}
use Rattle.std.proofs.lemmas.Bool.{eqb-true, leb-true, false_from_ne_true}
use Rattle.std.proofs.lemmas.List.{length-set}
use Rattle.std.specs.List.{list_any, find}
use Rattle.std.specs.Option.{is_some, is_none}
use Rattle.td_base.specs.Value.{DotValue}
use Rattle.td_base.specs.Equality.{same_dot}
use Rattle.td_base.specs.Lists.{In}
use Rattle.td_base.proofs.Equals.{same_dot_true}
use Rattle.td_clock.specs.Vector.{vector_get, vector_bump}
use Rattle.td_path.specs.declared.slot.Slot.{Slot}
use Rattle.td_op.specs.declared.body.Body.{Body}
use Rattle.td_op.specs.declared.body.Body.TheVariants.{Insert as InsertIn, Delete as DeleteOf}
use Rattle.td_op.specs.declared.body.Body.TheVariants.{Propose as ProposeOf, Commit, Abort}
use Rattle.td_op.specs.declared.input.Input.{Input}
use Rattle.td_op.specs.declared.input.Input.TheVariants.{Take}
use Rattle.td_op.specs.declared.message.Message.TheVariants.{Op as AnOp}
use Rattle.td_op.specs.declared.request.Request.{Request}
use Rattle.td_op.specs.declared.vote.Vote.{Vote}
use Rattle.td_op.specs.declared.reply.Reply.{Reply}
use Rattle.td_op.specs.declared.reply.Reply.TheVariants.{Made, Cancelled, Held, Position, Gone, Limit, NotOpen, New}
use Rattle.td_op.specs.declared.reply.Reply.TheVariants.{Later, Repeat, Unfit, Taken, Dropped, Idle}
use Rattle.td_op.specs.Op.{OpValue}
use Rattle.td_op.specs.Input.{IsInput}
use Rattle.td_op.specs.Message.{IsOpValue}
use Rattle.td_machine.specs.Log.{proposed}
use Rattle.td_machine.specs.Decision.{Ballot, is_on, is_open, is_counted}
use Rattle.td_machine.specs.Decision.{counted as counted_vote, outcome, new_ballot, revise}
use Rattle.td_machine.specs.Machine.{Machine, start, made, next_dot}
use Rattle.td_machine.specs.Making.{done, make, decide, hold, open_ballot, ballots_after}
use Rattle.td_machine.specs.Taking.{Stepped, stepped, take, take_as, answer, vote_on, keep_waiting, count, forget}
use Rattle.td_machine.specs.Request.{Aim, Attempt, Do, aim, perform}
use Rattle.td_machine.specs.Step.{step, IsRefusal}
use Rattle.td_machine.specs.History.{IsReached}
use Rattle.td_machine.proofs.StepKinds.{IsForeign}
use Rattle.td_machine.proofs.Turns.{placed, length_have}
use Rattle.td_machine.proofs.Vectors.{bump_same}
use Rattle.td_machine.proofs.Induction.{IsBuiltSomewhere, built_of}
use Rattle.td_machine.proofs.Reached.{waits_of_sites, ballots_of}
use Rattle.td_machine.proofs.Ballots.{find_ballot}
use Rattle.td_trace.specs.Entries.{told_of}
use Rattle.td_trace.specs.declared.told_input.ToldInput.{ToldInput}
use Rattle.td_trace.specs.declared.told_input.ToldInput.TheVariants.{Asked, TookOp, TookVote, Went}
use Rattle.td_law_replay.specs.Counting.{is_proposal, Count, no_count, count_entry, raised}
use Rattle.td_law_replay.specs.Counting.{how_often, made_by, with_use}
use Rattle.td_law_replay.specs.Replies.{is_new, taken_of}
use Rattle.td_law_replay.proofs.Ways.{by_ways, IsBodyOf, IsAimOf, aimed}
use Rattle.td_law_replay.proofs.Open.{has, OnOpen, Fresh, fresh_more, open_closed, open_new, open_yes, open_no}
use Rattle.td_law_replay.proofs.Counts.{is_made, bump_up}

pub record Matches (c : Count) (m : Machine) : Type 0 where
  pub have : c.have ≡ m.have
  pub votes : OnOpen c.yes c.no m.ballots
  pub fresh : Fresh c.yes c.no m.site (made m)

pub matches_start : (site n : ℕ) → Matches (no_count n) (start site n)
matches_start site n = record { have = refl; votes = λ p b e o. absurd cc; fresh = λ p e less. (refl, refl) }

-- ---- replies that are refusals

quiet : (reply : Reply) → IsRefusal reply
    → (is_made reply ≡ false) × (is_new reply ≡ false) × (taken_of reply ≡ None)
quiet (Made dot) r = absurd r
quiet Cancelled r = absurd r
quiet (Held by_) r = (refl, refl, refl)
quiet (Position len) r = (refl, refl, refl)
quiet (Gone x) r = (refl, refl, refl)
quiet (Limit many undecided) r = (refl, refl, refl)
quiet (NotOpen p) r = (refl, refl, refl)
quiet New r = absurd r
quiet Later r = absurd r
quiet Repeat r = (refl, refl, refl)
quiet (Unfit why) r = (refl, refl, refl)
quiet (Taken dot) r = absurd r
quiet (Dropped dot why) r = absurd r
quiet Idle r = (refl, refl, refl)

-- what is counted, with what is asked of the reply in its place
abbrev counted_by : ℕ → Count → ToldInput → ℕ → Bool → Option DotValue → Count
counted_by site c (Asked request) k w t = record { have = raised site k c.have; yes = c.yes; no = c.no }
counted_by site c (TookOp x) k w t =
    record { have = with_use site (if w then Some x else None) (raised site k c.have); yes = c.yes; no = c.no }
counted_by site c (TookVote v) k w t =
    record {
      have = raised site k c.have;
      yes = if w && v.yes then v.proposal ∷ c.yes else c.yes;
      no = if w && not v.yes then v.proposal ∷ c.no else c.no;
    }
counted_by site c Went k w t = record { have = with_use site t (raised site k c.have); yes = c.yes; no = c.no }

counted_is : (site n : ℕ) (c : Count) (told : ToldInput) (reply : Reply)
    → count_entry site n c (record { told = told; reply = reply })
    ≡ counted_by site c told (made_by n c told reply) (is_new reply) (taken_of reply)
counted_is site n c (Asked request) reply = refl
counted_is site n c (TookOp x) reply = refl
counted_is site n c (TookVote v) reply = refl
counted_is site n c Went reply = refl

counted_none : (site : ℕ) (c : Count) (told : ToldInput) → counted_by site c told 0 false None ≡ c
counted_none site c (Asked request) = refl
counted_none site c (TookOp x) = refl
counted_none site c (TookVote v) = refl
counted_none site c Went = refl

makes_none : (n : ℕ) (c : Count) (told : ToldInput) (reply : Reply) → is_made reply ≡ false → is_new reply ≡ false
    → made_by n c told reply ≡ 0
makes_none n c told (Made dot) d w = absurd (true≢false d)
makes_none n c told Cancelled d w = absurd (true≢false d)
makes_none n c told New d w = absurd (true≢false w)
makes_none n c told reply d w = refl

pub counted_silent : (site n : ℕ) (c : Count) (told : ToldInput) (reply : Reply) → is_made reply ≡ false
    → is_new reply ≡ false → taken_of reply ≡ None → count_entry site n c (record { told = told; reply = reply }) ≡ c
counted_silent site n c told reply d w t =
    counted_is site n c told reply
    ∙ ap (λ (k : ℕ). counted_by site c told k (is_new reply) (taken_of reply)) (makes_none n c told reply d w)
    ∙ ap (λ (b : Bool). counted_by site c told 0 b (taken_of reply)) w
    ∙ ap (λ (o : Option DotValue). counted_by site c told 0 false o) t
    ∙ counted_none site c told

counted_quiet : (site n : ℕ) (c : Count) (told : ToldInput) (reply : Reply) → IsRefusal reply
    → count_entry site n c (record { told = told; reply = reply }) ≡ c
counted_quiet site n c told reply r =
    let q = quiet reply r in counted_silent site n c told reply q.0 q.1 q.2

-- ---- what a taken operation changes

pub take_parts : (x : OpValue) (m : Machine)
    → ((take x m).have ≡ vector_bump m.have x.dot.site) × ((take x m).ballots ≡ ballots_after x.body m.ballots)
    × ((take x m).site ≡ m.site) × ((take x m).size ≡ m.size) × ((take x m).log ≡ x ∷ m.log)
take_parts x m = slotted (proposed x.body)
  where
    answered : (slot : Slot) (says : Bool)
        → ((answer x.dot slot says (done x m)).have ≡ vector_bump m.have x.dot.site)
        × ((answer x.dot slot says (done x m)).ballots ≡ ballots_after x.body m.ballots)
        × ((answer x.dot slot says (done x m)).site ≡ m.site)
        × ((answer x.dot slot says (done x m)).size ≡ m.size)
        × ((answer x.dot slot says (done x m)).log ≡ x ∷ m.log)
    answered slot true = (refl, refl, refl, refl, refl)
    answered slot false = (refl, refl, refl, refl, refl)

    slotted : (o : Option Slot)
        → ((take_as o x m).have ≡ vector_bump m.have x.dot.site)
        × ((take_as o x m).ballots ≡ ballots_after x.body m.ballots)
        × ((take_as o x m).site ≡ m.site)
        × ((take_as o x m).size ≡ m.size)
        × ((take_as o x m).log ≡ x ∷ m.log)
    slotted None = (refl, refl, refl, refl, refl)
    slotted (Some slot) = answered slot (vote_on x slot m)

open_after : (ays nays : List DotValue) (body : Body) (ballots : List Ballot) → OnOpen ays nays ballots
    → OnOpen ays nays (ballots_after body ballots)
open_after ays nays (InsertIn slot run) ballots h = λ p b e o. h p b e o
open_after ays nays (DeleteOf x) ballots h = λ p b e o. h p b e o
open_after ays nays (ProposeOf slot) ballots h = λ p b e o. h p b e o
open_after ays nays (Commit q) ballots h = open_closed ays nays q true ballots h
open_after ays nays (Abort q) ballots h = open_closed ays nays q false ballots h

opened : (voter : ℕ) (b : Ballot) → is_counted voter b ≡ false → is_open b ≡ true
opened voter b e = at b.decision e
  where
    at : (o : Option Bool) → (is_some o || list_any (λ (site : ℕ). nat_eq voter site) b.yes) ≡ false → is_none o ≡ true
    at None f = refl
    at (Some t) f = absurd (true≢false f)

-- ---- a step keeps it

abbrev pub StillMatches : ℕ → ℕ → Count → ToldInput → Stepped → Type 0
StillMatches site n c told s = Matches (count_entry site n c (record { told = told; reply = s.reply })) s.machine

module _ (c : Count) (m : Machine) (r : IsReached m) (h : Matches c m) where
  abbrev k : ℕ
  k = made m

  abbrev somewhere : IsBuiltSomewhere m
  somewhere = built_of m r

  some : 0 < m.site
  some = (placed m somewhere.built).0

  within : m.site ≤ length m.have
  within =
      let p : m.site ≤ m.size = (placed m somewhere.built).1 in
      let long : length m.have ≡ m.size = length_have m somewhere.built in omega (arith, p, long)

  made_more : (body : Body) → made (make body m) ≡ made m + 1
  made_more body = bump_same m.have m.site some within

  bumped : vector_bump c.have m.site ≡ vector_bump m.have m.site
  bumped = ap (λ (v : List ℕ). vector_bump v m.site) h.have

  fresh_one : (body : Body) → Fresh c.yes c.no m.site (made (make body m))
  fresh_one body =
      let more : made (make body m) ≡ made m + 1 = made_more body in
      fresh_more c.yes c.no m.site (made m) (made (make body m)) (omega (arith, more)) h.fresh

  fresh_two : (a b : Body) → Fresh c.yes c.no m.site (made (make b (make a m)))
  fresh_two a b =
      let one : made (make a m) ≡ made m + 1 = made_more a in
      let wide : length (vector_bump m.have m.site) ≡ length m.have = length-set m.have (m.site - 1) (made m + 1) in
      let here : m.site ≤ length m.have = within in
      let two : made (make b (make a m)) ≡ made (make a m) + 1 =
      bump_same (vector_bump m.have m.site) m.site some (omega (arith, here, wide)) in
      fresh_more c.yes c.no m.site (made m) (made (make b (make a m))) (omega (arith, one, two)) h.fresh

  of_aim : (t : Bool) (body : Body) → IsBodyOf t body
      → Matches (record {
        have = raised m.site (if t && nat_eq 1 m.size then 2 else 1) c.have;
        yes = c.yes;
        no = c.no;
      })
      (perform body m)
  of_aim true (InsertIn slot run) f = absurd (true≢false f)
  of_aim false (InsertIn slot run) f =
      record { have = bumped; votes = h.votes; fresh = fresh_one (InsertIn slot run) }
  of_aim true (DeleteOf x) f = absurd (true≢false f)
  of_aim false (DeleteOf x) f = record { have = bumped; votes = h.votes; fresh = fresh_one (DeleteOf x) }
  of_aim t (Commit p) f = absurd f
  of_aim t (Abort p) f = absurd f
  of_aim false (ProposeOf slot) f = absurd (true≢false (sym f))
  of_aim true (ProposeOf slot) f = at (nat_eq 1 m.size)
    where
      abbrev_open : OnOpen c.yes c.no (new_ballot (next_dot m) ∷ m.ballots)
      abbrev_open =
          open_new c.yes c.no (next_dot m) m.ballots h.votes (h.fresh (next_dot m) refl (omega arith))

      at : (one : Bool)
          → Matches (record { have = raised m.site (if one then 2 else 1) c.have; yes = c.yes; no = c.no })
          (decide (next_dot m) (if one then Some true else None)
          (open_ballot (next_dot m) (hold (next_dot m) slot (make (ProposeOf slot) m))))
      at false = record { have = bumped; votes = abbrev_open; fresh = fresh_one (ProposeOf slot) }
      at true =
          record {
            have = ap (λ (v : List ℕ). vector_bump v m.site) bumped;
            votes = open_closed c.yes c.no (next_dot m) true (new_ballot (next_dot m) ∷ m.ballots) abbrev_open;
            fresh = fresh_two (ProposeOf slot) (Commit (next_dot m));
          }

  of_taken : (x : OpValue) (n : Machine) → n.have ≡ m.have → n.ballots ≡ m.ballots → n.site ≡ m.site → 0 < x.dot.site
      → x.dot.site ≤ length m.have
      → Matches (record { have = vector_bump c.have x.dot.site; yes = c.yes; no = c.no }) (take x n)
  of_taken x n have ballots site low high =
      let p = take_parts x n in
      let new : (take x n).have ≡ vector_bump m.have x.dot.site =
      p.0 ∙ ap (λ (v : List ℕ). vector_bump v x.dot.site) have in
      let here : (take x n).site ≡ m.site = p.2 ∙ site in
      let count : made (take x n) ≡ vector_get (vector_bump m.have x.dot.site) m.site =
      ap (λ (v : List ℕ). vector_get v (take x n).site) new
      ∙ ap (λ (s : ℕ). vector_get (vector_bump m.have x.dot.site) s) here in
      let more : made m ≤ vector_get (vector_bump m.have x.dot.site) m.site =
      bump_up m.have x.dot.site m.site in
      record {
        have = ap (λ (v : List ℕ). vector_bump v x.dot.site) h.have ∙ sym new;
        votes =
            subst (λ (l : List Ballot). OnOpen c.yes c.no l)
            (sym (p.1 ∙ ap (λ (l : List Ballot). ballots_after x.body l) ballots))
            (open_after c.yes c.no x.body m.ballots h.votes);
        fresh =
            subst (λ (s : ℕ). Fresh c.yes c.no s (made (take x n))) (sym here)
            (fresh_more c.yes c.no m.site (made m) (made (take x n)) (omega (arith, count, more)) h.fresh);
      }

  -- what is taken is of another site
  not_own : (x : OpValue) (n : Machine) → x.dot.site ≢ m.site
      → Matches (record { have = vector_bump c.have x.dot.site; yes = c.yes; no = c.no }) (take x n)
      → Matches
      (record {
        have = if nat_eq x.dot.site m.site then c.have else vector_bump c.have x.dot.site;
        yes = c.yes;
        no = c.no;
      }) (take x n)
  not_own x n apart k =
      subst
      (λ (b : Bool).
      Matches
      (record { have = if b then c.have else vector_bump c.have x.dot.site; yes = c.yes; no = c.no }) (take x n))
      (sym (false_from_ne_true (nat_eq x.dot.site m.site) (λ h. apart (eqb-true x.dot.site m.site h)))) k

  of_vote : (v : Vote) (b : Ballot) → find (is_on v.proposal) m.ballots ≡ Some b → is_counted v.voter b ≡ false
      → StillMatches m.site m.size c (TookVote v) (stepped New (count v b m))
  of_vote v b e f = at v.yes
    where
      old : (length b.yes ≡ how_often v.proposal c.yes + 1) × (has v.proposal c.no ≡ false)
      old = h.votes v.proposal b e (opened v.voter b f)

      had : v.proposal.seq ≤ made m
      had =
          let g = find_ballot v.proposal m.ballots b e in
          let o = ballots_of m r b g.0 in
          let low : b.proposal.seq ≤ vector_get m.have b.proposal.site =
          leb-true b.proposal.seq (vector_get m.have b.proposal.site) o.1 in
          let there : vector_get m.have b.proposal.site ≡ made m = ap (λ (s : ℕ). vector_get m.have s) o.0 in
          let seq : b.proposal.seq ≡ v.proposal.seq = ap (λ (d : DotValue). d.seq) g.1 in
          omega (arith, low, there, seq)

      other : (p : DotValue) → made m < p.seq → (t : Bool) → same_dot v.proposal p ≡ t → same_dot v.proposal p ≡ false
      other p less false g = g
      other p less true g =
          let seq : v.proposal.seq ≡ p.seq = ap (λ (d : DotValue). d.seq) (same_dot_true v.proposal p g) in
          let low : v.proposal.seq ≤ made m = had in absurd (omega (arith, less, seq, low))

      fresh_yes : (l : ℕ) → made m ≤ l → Fresh (v.proposal ∷ c.yes) c.no m.site l
      fresh_yes l more p s less =
          let g = h.fresh p s (omega (arith, more, less)) in (
            more_times (same_dot v.proposal p)
                (other p (omega (arith, more, less)) (same_dot v.proposal p) refl) p g.0,
            g.1,
          )
        where
          those : DotValue → List DotValue
          those p = filter (λ (d : DotValue). same_dot d p) c.yes

          more_times : (t : Bool) → t ≡ false → (p : DotValue) → how_often p c.yes ≡ 0
              → length (if t then v.proposal ∷ those p else those p) ≡ 0
          more_times true q p z = absurd (true≢false q)
          more_times false q p z = z

      fresh_no : (l : ℕ) → made m ≤ l → Fresh c.yes (v.proposal ∷ c.no) m.site l
      fresh_no l more p s less =
          let g = h.fresh p s (omega (arith, more, less)) in (
            g.0,
            ap (λ (t : Bool). t || has p c.no)
                (other p (omega (arith, more, less)) (same_dot v.proposal p) refl) ∙ g.1,
          )

      one_more : (body : Body) → made m ≤ made (make body m)
      one_more body = let more : made (make body m) ≡ made m + 1 = made_more body in omega (arith, more)

      base : Bool → Machine
      base says = record m { ballots = revise v.proposal (counted_vote v.voter says) m.ballots }

      at : (says : Bool)
          → Matches
          (record {
            have =
                raised m.site
                (if (if says then nat_eq (how_often v.proposal c.yes + 2) m.size else not
                (has v.proposal c.no)) then 1 else 0)
                c.have;
            yes = if says then v.proposal ∷ c.yes else c.yes;
            no = if not says then v.proposal ∷ c.no else c.no;
          })
          (decide v.proposal (outcome m.size says (counted_vote v.voter says b)) (base says))
      at false =
          subst
          (λ (t : Bool).
          Matches
          (record {
            have = raised m.site (if not t then 1 else 0) c.have;
            yes = c.yes;
            no = v.proposal ∷ c.no;
          })
          (make (Abort v.proposal) (base false))) (sym old.1)
          (record {
            have = bumped;
            votes = open_no c.yes c.no v.proposal v.voter m.ballots h.votes;
            fresh = fresh_no (made (make (Abort v.proposal) m)) (one_more (Abort v.proposal));
          })
      at true =
          let same : nat_eq (how_often v.proposal c.yes + 2) m.size ≡ nat_eq (length (v.voter ∷ b.yes)) m.size =
          ap (λ (l : ℕ). nat_eq l m.size) (two (length b.yes) (how_often v.proposal c.yes) old.0) in
          subst
          (λ (t : Bool).
          Matches
          (record {
            have = raised m.site (if t then 1 else 0) c.have;
            yes = v.proposal ∷ c.yes;
            no = c.no;
          })
          (decide v.proposal (outcome m.size true (counted_vote v.voter true b)) (base true))) (sym same)
          (last (nat_eq (length (v.voter ∷ b.yes)) m.size))
        where
          two : (a b : ℕ) → a ≡ b + 1 → b + 2 ≡ suc a
          two a b e = omega arith

          counted_yes : OnOpen (v.proposal ∷ c.yes) c.no (base true).ballots
          counted_yes = open_yes c.yes c.no v.proposal v.voter m.ballots h.votes

          last : (t : Bool)
              → Matches
              (record { have = raised m.site (if t then 1 else 0) c.have; yes = v.proposal ∷ c.yes; no = c.no })
              (decide v.proposal (if t then Some true else None) (base true))
          last false = record { have = h.have; votes = counted_yes; fresh = fresh_yes (made m) (omega arith) }
          last true =
              record {
                have = bumped;
                votes = open_closed (v.proposal ∷ c.yes) c.no v.proposal true (base true).ballots counted_yes;
                fresh = fresh_yes (made (make (Commit v.proposal) m)) (one_more (Commit v.proposal));
              }

  pub matches_step : (input : Input) → IsInput input → StillMatches m.site m.size c (told_of input) (step m input)
  matches_step input valid =
      by_ways m (λ (s : Stepped). StillMatches m.site m.size c (told_of input) s) input
      (record {
        stays =
            λ reply q.
            subst (λ (d : Count). Matches d m) (sym (counted_quiet m.site m.size c (told_of input) reply q)) h;
        makes =
            λ request a e f held room.
            subst (λ (i : Input). StillMatches m.site m.size c (told_of i)
            (stepped (Made (next_dot m)) (perform a.body m)))
            (sym e) (of_aim (is_proposal request) a.body (body_of request a f));
        cancels =
            λ request p e f.
            subst
            (λ (i : Input). StillMatches m.site m.size c (told_of i) (stepped Cancelled (decide p (Some false) m)))
            (sym e) (given_up p);
        delays =
            λ x e foreign late.
            subst (λ (i : Input). StillMatches m.site m.size c (told_of i) (stepped Later (keep_waiting x m))) (sym e)
            (record { have = h.have; votes = h.votes; fresh = h.fresh });
        takes =
            λ x e foreign ready fits.
            subst (λ (i : Input). StillMatches m.site m.size c (told_of i) (stepped New (take x m))) (sym e)
            (not_own x m foreign.other
            (of_taken x m refl refl refl (valid_site x foreign e).0 (valid_site x foreign e).1));
        counts =
            λ v b e f g far here.
            subst (λ (i : Input). StillMatches m.site m.size c (told_of i) (stepped New (count v b m))) (sym e)
            (of_vote v b f g);
        drops =
            λ x why e i ready.
            subst (λ (i : Input). StillMatches m.site m.size c (told_of i) (stepped (Dropped x.dot why) (forget x m)))
            (sym e) (record { have = h.have; votes = h.votes; fresh = h.fresh });
        resumes =
            λ x e i ready fits.
            subst (λ (i : Input). StillMatches m.site m.size c (told_of i)
            (stepped (Taken x.dot) (take x (forget x m))))
            (sym e)
            (not_own x (forget x m) (waits_of_sites m r x i).3
            (of_taken x (forget x m) refl refl refl (waits_of_sites m r x i).0 (waiting_site x i)));
      })
    where
      body_of : (request : Request) (a : Attempt) → aim request m ≡ Do a → IsBodyOf (is_proposal request) a.body
      body_of request a f = subst (λ (x : Aim). IsAimOf (is_proposal request) x) f (aimed request m)

      given_up : (p : DotValue)
          → Matches (record { have = raised m.site 1 c.have; yes = c.yes; no = c.no }) (decide p (Some false) m)
      given_up p =
          record {
            have = bumped;
            votes = open_closed c.yes c.no p false m.ballots h.votes;
            fresh = fresh_one (Abort p);
          }

      valid_site : (x : OpValue) → IsForeign m x → input ≡ Take (AnOp x)
          → (0 < x.dot.site) × (x.dot.site ≤ length m.have)
      valid_site x foreign e =
          let v : IsOpValue x = subst (λ (i : Input). IsInput i) e valid in
          let own : x.dot.site ≤ length x.deps = v.op.own in
          let sized : length x.deps ≡ m.size = foreign.sized in
          let long : length m.have ≡ m.size = length_have m somewhere.built in
          (v.dot.site.least, omega (arith, own, sized, long))

      waiting_site : (x : OpValue) → In x m.waiting → x.dot.site ≤ length m.have
      waiting_site x i =
          let w : x.dot.site ≤ m.size = (waits_of_sites m r x i).1 in
          let long : length m.have ≡ m.size = length_have m somewhere.built in omega (arith, w, long)
