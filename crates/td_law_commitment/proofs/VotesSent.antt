-- A vote is on a proposal, and each own proposal has its ballot.
use Rattle.std.proofs.Common.{◌≡◌, ◌<◌, ◌≤◌, ◌++◌, ℕ, List, [], ◌∷◌, Bool, true, false, length, None}
use Rattle.std.proofs.Common.{Some, refl, sym, ap, ◌∙◌, inl, inr, ⊎_elim, if◌then◌else◌}
use Rattle.td_base.specs.Value.{DotValue}
use Rattle.td_base.specs.Lists.{In}
use Rattle.td_base.proofs.Lists.{In-append, In-map}
use Rattle.td_path.specs.declared.slot.Slot.{Slot}
use Rattle.td_op.specs.declared.body.Body.{Body}
use Rattle.td_op.specs.declared.body.Body.TheVariants.{Insert, Delete, Propose, Commit, Abort}
use Rattle.td_op.specs.declared.message.Message.{Message}
use Rattle.td_op.specs.declared.message.Message.TheVariants.{Op as AnOp, Vote as AVote}
use Rattle.td_op.specs.declared.vote.Vote.{Vote}
use Rattle.td_op.specs.Op.{OpValue}
use Rattle.td_machine.specs.Log.{proposed}
use Rattle.td_machine.specs.Decision.{Ballot, is_on, counted, revise, close, new_ballot}
use Rattle.td_machine.specs.Machine.{Machine, next_op, next_dot}
use Rattle.td_machine.specs.Making.{make, ballots_after}
use Rattle.td_machine.specs.History.{History, Family, IsConsistent, history, machine, machine_after}
use Rattle.td_machine.specs.Parts.{IsFit, IsBuilt, Part, Makes, Proposes, Counts, Takes, Agrees, Declines, vote_here}
use Rattle.td_machine.proofs.Parts.{by_parts}
use Rattle.td_machine.proofs.Turns.{placed}
use Rattle.td_machine.proofs.Holding.{proposal_is}
use Rattle.td_machine.proofs.Induction.{the_end, built_at}
use Rattle.td_law_logs.proofs.Moments.{moment_of}

-- the log has the proposal with this dot
abbrev pub HasProposal : List OpValue → DotValue → Type 0
HasProposal log p = (q : OpValue) × (slot : Slot) × In q log × (q.dot ≡ p) × (q.body ≡ Propose slot)

abbrev pub HasBallot : List Ballot → DotValue → Type 0
HasBallot ballots p = (b : Ballot) × In b ballots × (b.proposal ≡ p)

-- the own proposals of a log have ballots
abbrev pub OwnBallots : ℕ → List OpValue → List Ballot → Type 0
OwnBallots site log ballots = (q : OpValue) (slot : Slot) → In q log → q.dot.site ≡ site → q.body ≡ Propose slot
    → HasBallot ballots q.dot

abbrev pub SentVotes : List OpValue → List Message → Type 0
SentVotes log sent = (v : Vote) → In (AVote v) sent → HasProposal log v.proposal

pub record IsVoting (site size : ℕ) (m : Machine) : Type 0 where
  pub ballots : OwnBallots site m.log m.ballots
  pub votes : SentVotes m.log m.sent

change_ballots : (p : DotValue) (change : Ballot → Ballot) (ballots : List Ballot) (d : DotValue)
    → ((b : Ballot) → (change b).proposal ≡ b.proposal) → HasBallot ballots d → HasBallot (revise p change ballots) d
change_ballots p change ballots d same (b, i, e) = (
  (if is_on p b then change b else b),
  In-map (λ (b : Ballot). if is_on p b then change b else b) b ballots i,
  kept (is_on p b) ∙ e,
)
  where
    kept : (t : Bool) → (if t then change b else b).proposal ≡ b.proposal
    kept true = same b
    kept false = refl

body_ballots : (body : Body) (ballots : List Ballot) (d : DotValue) → HasBallot ballots d
    → HasBallot (ballots_after body ballots) d
body_ballots (Insert slot run) ballots d h = h
body_ballots (Delete target) ballots d h = h
body_ballots (Propose slot) ballots d h = h
body_ballots (Commit p) ballots d h = change_ballots p (close true) ballots d (λ b. refl) h
body_ballots (Abort p) ballots d h = change_ballots p (close false) ballots d (λ b. refl) h

more_log : (x : OpValue) (log : List OpValue) (p : DotValue) → HasProposal log p → HasProposal (x ∷ log) p
more_log x log p h = (h.0, h.1, inr h.2, h.3, h.4)

sent_more : (x : OpValue) (log : List OpValue) (sent : List Message) (message : Message)
    → ((v : Vote) → AVote v ≡ message → HasProposal (x ∷ log) v.proposal) → SentVotes log sent
    → SentVotes (x ∷ log) (sent ++ message ∷ [])
sent_more x log sent message new h v i =
    ⊎_elim (λ (j : In (AVote v) sent). more_log x log v.proposal (h v j))
    (λ (j : In (AVote v) (message ∷ [])). ⊎_elim (λ (e : AVote v ≡ message). new v e) (λ k. absurd k) j)
    (In-append (AVote v) sent (message ∷ []) i)

pub no_slot : (b : Body) (slot : Slot) → proposed b ≡ None → b ≡ Propose slot → ⊥
no_slot b slot e f = absurd (none_some (sym e ∙ ap proposed f))
  where
    none_some : None ≡ Some slot → ⊥
    none_some k = cc

no_vote : (v : Vote) (x : OpValue) → AVote v ≡ AnOp x → ⊥
no_vote v x e = cc

same_vote : (v u : Vote) → AVote v ≡ AVote u → v ≡ u
same_vote v u e = cc

counted_name : (voter : ℕ) (says : Bool) (b : Ballot) → (counted voter says b).proposal ≡ b.proposal
counted_name voter true b = refl
counted_name voter false b = refl

module _ {Came : Message → Type 0} {site size : ℕ} where
  pub voting : (m : Machine) → IsBuilt Came site size m → IsVoting site size m
  voting = by_parts (λ (m : Machine). IsVoting site size m)
      (λ some within. record { ballots = λ q slot i here asks. absurd i; votes = λ v i. absurd i }) keeps
    where
      -- an operation made here that is no proposal
      made : (body : Body) (m : Machine) → ((slot : Slot) → body ≡ Propose slot → ⊥) → IsVoting site size m
          → IsVoting site size (make body m)
      made body m other s =
          record {
            ballots =
                λ q slot i here asks. ⊎_elim
                (λ (e : q ≡ next_op m body). absurd (other slot (ap (λ (z : OpValue). z.body) (sym e) ∙ asks)))
                (λ (j : In q m.log). body_ballots body m.ballots q.dot (s.ballots q slot j here asks)) i;
            votes = sent_more (next_op m body) m.log m.sent (AnOp (next_op m body))
                (λ v e. absurd (no_vote v (next_op m body) e)) s.votes;
          }

      other : (x : OpValue) (m : Machine) → IsBuilt Came site size m → IsFit Came m x → IsVoting site size m
          → OwnBallots site (x ∷ m.log) (ballots_after x.body m.ballots)
      other x m b fit s q slot i here asks =
          ⊎_elim (λ (e : q ≡ x). absurd
          (fit.offered.other (ap (λ (z : OpValue). z.dot.site) (sym e) ∙ here ∙ sym (placed m b).2)))
          (λ (j : In q m.log). body_ballots x.body m.ballots q.dot (s.ballots q slot j here asks)) i

      answered : (x : OpValue) (slot : Slot) (says : Bool) (m : Machine) → x.body ≡ Propose slot
          → IsVoting site size m → SentVotes (x ∷ m.log) (m.sent ++ AVote (vote_here x says m) ∷ [])
      answered x slot says m k s =
          sent_more x m.log m.sent (AVote (vote_here x says m))
          (λ v e. (x, slot, inl refl, ap (λ (u : Vote). u.proposal) (sym (same_vote v _ e)), k)) s.votes

      keeps : (m n : Machine) → IsBuilt Came site size m → Part Came m n → IsVoting site size m → IsVoting site size n
      keeps m n b (Makes body e may) s = made body m (λ slot k. no_slot body slot e k) s
      keeps m n b (Proposes slot may) s =
          record {
            ballots =
                λ q t i here asks. ⊎_elim
                (λ (e : q ≡ next_op m (Propose slot)).
                (new_ballot (next_dot m), inl refl, ap (λ (z : OpValue). z.dot) (sym e)))
                (λ (j : In q m.log). let h = s.ballots q t j here asks in (h.0, inr h.1, h.2)) i;
            votes = sent_more (next_op m (Propose slot)) m.log m.sent (AnOp (next_op m (Propose slot)))
                (λ v e. absurd (no_vote v (next_op m (Propose slot)) e)) s.votes;
          }
      keeps m n b (Counts v k) s =
          record {
            ballots = λ q slot i here asks. change_ballots v.proposal (counted v.voter v.yes) m.ballots q.dot
                (counted_name v.voter v.yes) (s.ballots q slot i here asks);
            votes = s.votes;
          }
      keeps m n b (Takes x e fit) s =
          record { ballots = other x m b fit s; votes = λ v i. more_log x m.log v.proposal (s.votes v i) }
      keeps m n b (Agrees x slot e fit says) s =
          record { ballots = other x m b fit s; votes = answered x slot true m (proposal_is slot x.body e) s }
      keeps m n b (Declines x slot e fit says) s =
          record { ballots = other x m b fit s; votes = answered x slot false m (proposal_is slot x.body e) s }
      keeps m n b part s = record { ballots = s.ballots; votes = s.votes }

module _ (family : Family) (c : IsConsistent family) where
  pub voting_at : (site : ℕ) → 0 < site → site ≤ length family → (front back : History)
      → history family site ≡ front ++ back → IsVoting site (length family) (machine_after family site front)
  voting_at site some within front back e =
      voting (machine_after family site front) (built_at family c (moment_of family site some within front back e))

  pub voting_of : (site : ℕ) → 0 < site → site ≤ length family → IsVoting site (length family) (machine family site)
  voting_of site some within = voting (machine family site) (built_at family c (the_end family site some within))
