-- What a machine knows of its open proposals, and what a decision of its own leaves.
use Rattle.std.proofs.Common.{◌≡◌, ◌≢◌, ◌<◌, ◌≤◌, ◌+◌, ◌||◌, ◌⊎◌, ℕ, List, ◌∷◌, Bool, true, false}
use Rattle.std.proofs.Common.{not, if◌then◌else◌, nat_eq, nat_lt, Option, Some, None, refl, sym}
use Rattle.std.proofs.Common.{ap, ◌∙◌, subst, inl, inr, ⊎_elim, arith}
use Rattle.std.proofs.lemmas.Bool.{or_parts, leb-true, eqb-true, eq-eqb}
use Rattle.std.proofs.lemmas.Bool.Decides.{nat_tests}
use Rattle.std.proofs.lemmas.Option.{same_Some}
use Rattle.std.specs.Prelude.{IsTrue, IfSome, find, is_some}
use Rattle.std.specs.List.{list_any}
use Rattle.std.specs.Option.{option_or}
use Rattle.td_base.specs.Value.{DotValue}
use Rattle.td_base.specs.declared.dot.TheConstants.{MAX_SEQ}
use Rattle.td_base.proofs.Equals.{same_dot_refl}
use Rattle.td_machine.specs.Hold.{release}
use Rattle.td_base.proofs.Orders.{dot_lt_from}
use Rattle.td_clock.specs.Vector.{vector_get, vector_has}
use Rattle.td_path.specs.declared.slot.Slot.{Slot}
use Rattle.td_op.specs.declared.body.Body.{Body}
use Rattle.td_op.specs.declared.body.Body.TheVariants.{Propose, Commit, Abort}
use Rattle.td_op.specs.declared.vote.Vote.{Vote}
use Rattle.td_op.specs.Op.{body_site}
use Rattle.td_doc.specs.Answers.{IsFresh}
use Rattle.td_machine.specs.Counts.{IsNext}
use Rattle.td_machine.specs.Decision.{Ballot, new_ballot, is_on, counted, outcome, count_open, revise, close}
use Rattle.td_machine.specs.Log.{proposed_slot, decision}
use Rattle.td_machine.specs.Machine.{Machine, made, undecided, next_dot, next_op}
use Rattle.td_machine.proofs.Ballots.{find_ballot, closes}
use Rattle.td_machine.specs.Parts.{Anything, RoomFor, IsBuilt, Goes, Proposes, MayMake, IsOpenAt, IsCounting}
use Rattle.td_machine.specs.Parts.{IsProposing, proposed_here}
use Rattle.td_machine.proofs.Naming.{own_ballots}
use Rattle.td_machine.proofs.OwnProposals.{polls, open_proposed}
use Rattle.td_machine.proofs.Turns.{placed}
use Rattle.td_machine.specs.Making.{make, propose, decide, hold, open_ballot, flatten_found}
use Rattle.td_machine.specs.Taking.{Stepped, stepped, count, ballot_step, vote_step}
use Rattle.td_op.specs.declared.reply.Reply.TheVariants.{New, Repeat, Unfit}
use Rattle.td_op.specs.declared.reply.Why.TheVariants.{Size, Address}
use Rattle.td_doc.specs.Flatten.{flatten}
use Rattle.td_coord.specs.Tally.{put_ballot, started, close_due, voted}
use Rattle.td_replica.specs.declared.state.Origin.TheVariants.{Here}
use Rattle.td_replica.specs.Parts.{with_effect, with_note, with_ballots}
use Rattle.td_machine.proofs.Room.{room}
use Rattle.td_coord.proofs.Placed.{AreBelow, newest_started}
use Rattle.td_history.specs.Past.{IsUndecided, decided_by}
use Rattle.td_replica.specs.Steps.{body_of, IsDue}
use Rattle.td_replica.proofs.Stepping.{next_made, fresh_made, named_made}

-- the body of an own operation does not matter to its turn
pub next_other : (m : Machine) (a b : Body) → IsNext m.have (next_op m a) → IsNext m.have (next_op m b)
next_other m a b n = record { some = n.some; within = n.within; size = n.size; next = n.next; past = n.past }

module _ (m : Machine) (b : IsBuilt Anything m.site m.size m) where
  -- an open proposal is in the log, and not decided there
  pub open_undecided : (p : DotValue) → IsOpenAt p m → IsUndecided m.log p
  open_undecided p o =
      let f = find_ballot p m.ballots o.ballot o.found in
      record {
        proposed = subst (λ (d : DotValue). is_some (proposed_slot d m.log) ≡ true) f.1
            (open_proposed m b o.ballot f.0 o.open_);
        undecided = ap (λ (d : Option Bool). is_some d)
            (subst (λ (d : DotValue). decision d m.log ≡ None) f.1 ((polls m b).undecided o.ballot f.0 o.open_));
      }

  -- and keeps a number for its decision
  pub open_room : (p : DotValue) → IsOpenAt p m → made m < MAX_SEQ
  open_room p o =
      let h : RoomFor 0 m = room m b in
      let less : count_open (revise p (close false) m.ballots) < undecided m =
      closes p false o.ballot m.ballots o.found o.open_ in
      omega (arith, h, less)

  pub counting_open : (v : Vote) → IsCounting Anything v m → IsOpenAt v.proposal m
  counting_open v k =
      record {
        ballot = k.ballot;
        found = k.found;
        open_ = ap not (or_parts (is_some k.ballot.decision) (list_any (nat_eq v.voter) k.ballot.yes) k.new).0;
      }

  -- the decision that a vote brings
  abbrev Decides : DotValue → Body → Type 0
  Decides p body = (body ≡ Commit p) ⊎ (body ≡ Abort p)

  due_decides : (p : DotValue) (o : Option Bool) (body : Body) → body_of p o ≡ Some body → Decides p body
  due_decides p (Some true) body e = inl (sym (same_Some (Commit p) body e))
  due_decides p (Some false) body e = inr (sym (same_Some (Abort p) body e))
  due_decides p None body e = absurd cc

  pub due_body : (v : Vote) (k : IsCounting Anything v m) (body : Body) → IsDue v body m → Decides v.proposal body
  due_body v k body due =
      due_decides v.proposal (outcome m.size v.yes (counted v.voter v.yes k.ballot)) body (due k.ballot k.found)

  by_decision : (P : Body → Type 0) (p : DotValue) (body : Body) → Decides p body → P (Commit p) → P (Abort p) → P body
  by_decision P p body d c a =
      ⊎_elim (λ (e : body ≡ Commit p). subst P (sym e) c) (λ (e : body ≡ Abort p). subst P (sym e) a) d

  pub due_named : (v : Vote) (k : IsCounting Anything v m) (body : Body) → IsDue v body m
      → IfSome (body_site body) (λ site. site ≤ m.size)
  due_named v k body due =
      let o = counting_open v k in
      by_decision (λ (c : Body). IfSome (body_site c) (λ site. site ≤ m.size)) v.proposal body (due_body v k body due)
      (named_made m b (Abort v.proposal) o) (named_made m b (Abort v.proposal) o)

  pub due_undecided : (v : Vote) (k : IsCounting Anything v m) (body : Body) → IsDue v body m
      → IfSome (decided_by body) (IsUndecided m.log)
  due_undecided v k body due =
      let u = open_undecided v.proposal (counting_open v k) in
      by_decision (λ (c : Body). IfSome (decided_by c) (IsUndecided m.log)) v.proposal body (due_body v k body due) u u

  pub due_fresh : (v : Vote) (k : IsCounting Anything v m) → IsFresh m.doc (next_dot m)
  due_fresh v k = fresh_made m b (Abort v.proposal) (counting_open v k)

  pub due_next : (v : Vote) (k : IsCounting Anything v m) (body : Body) → IsNext m.have (next_op m body)
  due_next v k body =
      next_other m (Abort v.proposal) body (next_made m b (Abort v.proposal) (counting_open v k))

  -- each ballot is on a smaller proposal than the next
  pub ballots_below : AreBelow (next_dot m) m.ballots
  ballots_below c i =
      let own : c.proposal.site ≡ m.site = own_ballots m b c i in
      let had : IsTrue (vector_has m.have c.proposal) = (polls m b).had c i in
      let le : c.proposal.seq ≤ vector_get m.have c.proposal.site =
      leb-true c.proposal.seq (vector_get m.have c.proposal.site) had in
      let here : vector_get m.have c.proposal.site ≡ made m = ap (vector_get m.have) own in
      dot_lt_from c.proposal (next_dot m) (inr (own, omega (arith, le, here)))

  -- a proposal that is just made is in the log, and not decided there
  pub proposal_undecided : (slot : Slot)
      → IsUndecided (next_op m (Propose slot) ∷ m.log) (next_dot m)
  proposal_undecided slot =
      record {
        proposed = ap
            (λ (t : Bool). is_some (if t then Some slot else proposed_slot (next_dot m) m.log))
            (same_dot_refl (next_dot m));
        undecided = ap (λ (d : Option Bool). is_some (option_or None d))
            ((polls m b).known (next_dot m) fresh);
      }
    where
      fresh : vector_has m.have (next_dot m) ≡ false
      fresh = at (vector_has m.have (next_dot m)) refl
        where
          at : (t : Bool) → vector_has m.have (next_dot m) ≡ t → vector_has m.have (next_dot m) ≡ false
          at true e = let le : made m + 1 ≤ made m = leb-true (made m + 1) (made m) e in absurd (omega (arith, le))
          at false e = e

-- ---- what an own decision or proposal leaves

pub abort_made : (p : DotValue) (m : Machine)
    → with_note Here (next_op m (Abort p)) (with_ballots (revise p (close false) m.ballots) m) ≡ make (Abort p) m
abort_made p m = refl

module _ (m : Machine) (b : IsBuilt Anything m.site m.size m) where
  -- a vote that is counted
  pub vote_counted : (v : Vote) (k : IsCounting Anything v m) → vote_step v m ≡ stepped New (count v k.ballot m)
  vote_counted v k =
      let far : nat_lt m.size v.voter ≡ false = not_above m.size v.voter k.within in
      let within : m.site ≤ m.size = (placed m b).1 in
      let past : nat_lt m.size v.proposal.site ≡ false =
      not_above m.size v.proposal.site (subst (λ (s : ℕ). s ≤ m.size) (sym k.own) within) in
      let here : nat_eq v.proposal.site m.site ≡ true = eq-eqb v.proposal.site m.site k.own in
      ap (λ (t : Bool). if t || nat_lt m.size v.proposal.site then stepped (Unfit Size) m else after_size v) far
      ∙ ap (λ (t : Bool). if t then stepped (Unfit Size) m else after_size v) past
      ∙ ap (λ (t : Bool). if not t then stepped (Unfit Address) m
      else ballot_step (find (is_on v.proposal) m.ballots) v m) here
      ∙ ap (λ (o : Option Ballot). ballot_step o v m) k.found
      ∙ ap (λ (t : Bool). if t then stepped Repeat m else stepped New (count v k.ballot m)) k.new
    where
      not_above : (n k : ℕ) → k ≤ n → nat_lt n k ≡ false
      not_above n k h = grind (arith, nat_tests)

      after_size : Vote → Stepped
      after_size w =
          if not (nat_eq w.proposal.site m.site) then stepped (Unfit Address) m
          else ballot_step (find (is_on w.proposal) m.ballots) w m

  -- the ballots with it
  abbrev with_vote : Vote → List Ballot
  with_vote v = revise v.proposal (counted v.voter v.yes) m.ballots

  decided_at : (v : Vote) (body : Body) (o : Option Bool) → body_of v.proposal o ≡ Some body
      → decide v.proposal o (with_ballots (with_vote v) m)
      ≡ with_note Here (next_op m body)
      (with_ballots (close_due v.proposal o (with_vote v)) (with_effect (next_op m body) m))
  decided_at v body (Some true) e =
      ap (λ (c : Body). with_note Here (next_op m c)
      (with_ballots (revise v.proposal (close true) (with_vote v)) (with_effect (next_op m c) m)))
      (same_Some (Commit v.proposal) body e)
  decided_at v body (Some false) e =
      ap (λ (c : Body). with_note Here (next_op m c)
      (with_ballots (revise v.proposal (close false) (with_vote v)) (with_effect (next_op m c) m)))
      (same_Some (Abort v.proposal) body e)
  decided_at v body None e = absurd cc

  voted_new : (v : Vote) (k : IsCounting Anything v m)
      → voted m.size v k.ballot m.ballots
      ≡ close_due v.proposal (outcome m.size v.yes (counted v.voter v.yes k.ballot)) (with_vote v)
  voted_new v k =
      ap (λ (t : Bool). if t then m.ballots
      else close_due v.proposal (outcome m.size v.yes (counted v.voter v.yes k.ballot)) (with_vote v)) k.new

  -- a vote that brings a decision
  pub vote_decides : (v : Vote) (k : IsCounting Anything v m) (body : Body) → IsDue v body m
      → vote_step v m
      ≡ stepped New (with_note Here (next_op m body)
      (with_ballots (voted m.size v k.ballot m.ballots) (with_effect (next_op m body) m)))
  vote_decides v k body due =
      vote_counted v k
      ∙ ap (stepped New)
      (decided_at v body (outcome m.size v.yes (counted v.voter v.yes k.ballot)) (due k.ballot k.found)
      ∙ ap (λ (bs : List Ballot). with_note Here (next_op m body) (with_ballots bs (with_effect (next_op m body) m)))
      (sym (voted_new v k)))

  -- and one that brings none
  pub vote_waits : (v : Vote) (k : IsCounting Anything v m)
      → outcome m.size v.yes (counted v.voter v.yes k.ballot) ≡ None
      → vote_step v m ≡ stepped New (with_ballots (voted m.size v k.ballot m.ballots) m)
  vote_waits v k e =
      vote_counted v k
      ∙ ap (λ (o : Option Bool). stepped New (decide v.proposal o (with_ballots (with_vote v) m))) e
      ∙ ap (λ (bs : List Ballot). stepped New (with_ballots bs m))
      (ap (λ (o : Option Bool). close_due v.proposal o (with_vote v)) (sym e) ∙ sym (voted_new v k))

  -- the ballot on an own proposal is opened, and decided at once where there is one site
  opened : put_ballot (started m.size m.site (next_dot m)) m.ballots
      ≡ close_due (next_dot m) (outcome m.size true (new_ballot (next_dot m))) (new_ballot (next_dot m) ∷ m.ballots)
  opened = newest_started m.size m.site (next_dot m) m.ballots (ballots_below m b)

  among_at : (slot : Slot) (o : Option Bool) → o ≡ None
      → with_ballots (close_due (next_dot m) o (new_ballot (next_dot m) ∷ m.ballots))
      (hold (next_dot m) slot (with_note Here (next_op m (Propose slot)) m))
      ≡ decide (next_dot m) o (open_ballot (next_dot m) (hold (next_dot m) slot (make (Propose slot) m)))
  among_at slot None e = refl
  among_at slot (Some c) e = absurd cc

  pub proposed_among : (slot : Slot) → m.size ≢ 1
      → with_ballots (put_ballot (started m.size m.site (next_dot m)) m.ballots)
      (hold (next_dot m) slot (with_note Here (next_op m (Propose slot)) m))
      ≡ propose slot m
  proposed_among slot several =
      ap (λ (bs : List Ballot). with_ballots bs
      (hold (next_dot m) slot (with_note Here (next_op m (Propose slot)) m))) opened
      ∙ among_at slot (outcome m.size true (new_ballot (next_dot m)))
      (ap (λ (t : Bool). if t then Some true else None) (not_one m.size several))
    where
      not_one : (n : ℕ) → n ≢ 1 → nat_eq 1 n ≡ false
      not_one n h = at (nat_eq 1 n) refl
        where
          at : (t : Bool) → nat_eq 1 n ≡ t → nat_eq 1 n ≡ false
          at true e = absurd (h (sym (eqb-true 1 n e)))
          at false e = e

  -- at one site: the machine before the commit, with its document flattened already
  abbrev pub before_commit : Slot → Machine
  before_commit slot =
      with_ballots (put_ballot (started m.size m.site (next_dot m)) m.ballots)
      (with_note Here (next_op m (Propose slot)) (record m { doc = flatten slot m.doc }))

  -- a hold that ends with the commit need not begin
  commit_ends : (slot : Slot) → release (next_dot m) m.holds
      ≡ release (next_dot m) ((record { proposal = next_dot m; slot = slot }) ∷ m.holds)
  commit_ends slot =
      ap (λ (t : Bool). if not t then (record { proposal = next_dot m; slot = slot }) ∷ release (next_dot m) m.holds
      else release (next_dot m) m.holds) (sym (same_dot_refl (next_dot m)))

  never_held : (slot : Slot) → with_note Here (next_op (before_commit slot) (Commit (next_dot m))) (before_commit slot)
      ≡ (λ (k : Machine). with_note Here (next_op k (Commit (next_dot m))) k)
      (with_ballots (put_ballot (started m.size m.site (next_dot m)) m.ballots)
      (hold (next_dot m) slot (with_note Here (next_op m (Propose slot)) (record m { doc = flatten slot m.doc }))))
  never_held slot = λ i.
      record (with_note Here (next_op (before_commit slot) (Commit (next_dot m))) (before_commit slot))
      { holds = commit_ends slot i }

  alone_at : (slot : Slot) (o : Option Bool) → o ≡ Some true
      → (λ (k : Machine). with_note Here (next_op k (Commit (next_dot m))) k)
      (with_ballots (close_due (next_dot m) o (new_ballot (next_dot m) ∷ m.ballots))
      (hold (next_dot m) slot
      (with_note Here (next_op m (Propose slot)) (record m { doc = flatten slot m.doc }))))
      ≡ decide (next_dot m) o (open_ballot (next_dot m) (hold (next_dot m) slot (make (Propose slot) m)))
  alone_at slot (Some true) e =
      ap
      (λ (t : Bool).
      record (make (Commit (next_dot m)) (open_ballot (next_dot m) (hold (next_dot m) slot (make (Propose slot) m))))
      { doc = flatten_found (if t then Some slot else proposed_slot (next_dot m) m.log) m.doc })
      (sym (same_dot_refl (next_dot m)))
  alone_at slot (Some false) e = absurd cc
  alone_at slot None e = absurd cc

  pub proposed_alone : (slot : Slot) → m.size ≡ 1
      → with_note Here (next_op (before_commit slot) (Commit (next_dot m))) (before_commit slot) ≡ propose slot m
  proposed_alone slot alone =
      never_held slot
      ∙ ap (λ (bs : List Ballot).
      (λ (k : Machine). with_note Here (next_op k (Commit (next_dot m))) k)
      (with_ballots bs
      (hold (next_dot m) slot
      (with_note Here (next_op m (Propose slot)) (record m { doc = flatten slot m.doc }))))) opened
      ∙ alone_at slot (outcome m.size true (new_ballot (next_dot m)))
      (ap (λ (t : Bool). if t then Some true else None) (eq-eqb 1 m.size (sym alone)))

  -- then the commit may be made
  module _ (slot : Slot) (may : IsProposing slot m) (alone : m.size ≡ 1) where
    abbrev opened_here : Machine
    opened_here = proposed_here slot m

    built_here : IsBuilt Anything m.site m.size opened_here
    built_here = Goes b (Proposes slot may)

    commits_here : MayMake (Commit (next_dot m)) opened_here
    commits_here =
        record {
          opened = record {
            ballot = new_ballot (next_dot m);
            found = ap
                (λ (t : Bool). if t then Some (new_ballot (next_dot m)) else find (is_on (next_dot m)) m.ballots)
                (same_dot_refl (next_dot m));
            open_ = refl;
          };
          all = sym alone;
        }

    pub commit_room : made opened_here < MAX_SEQ
    commit_room = open_room opened_here built_here (next_dot m) commits_here.opened

    pub commit_next : IsNext opened_here.have (next_op opened_here (Commit (next_dot m)))
    commit_next = next_made opened_here built_here (Commit (next_dot m)) commits_here
