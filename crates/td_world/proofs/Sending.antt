-- What a machine sent: its own operations, and its votes on the proposals that it took.
use Rattle.std.proofs.Common.{◌≡◌, ◌≢◌, ◌++◌, ℕ, List, [], ◌∷◌, Bool, true, false, None, Some}
use Rattle.std.proofs.Common.{refl, sym, ap, ◌∙◌, subst, inl, inr, ⊎_elim}
use Rattle.td_base.specs.Value.{DotValue}
use Rattle.td_base.specs.Lists.{In}
use Rattle.td_base.proofs.Lists.{In-append, In-front, In-back}
use Rattle.td_path.specs.declared.slot.Slot.{Slot}
use Rattle.td_op.specs.declared.body.Body.{Body}
use Rattle.td_op.specs.declared.body.Body.TheVariants.{Insert, Delete, Propose, Commit, Abort}
use Rattle.td_op.specs.declared.message.Message.{Message}
use Rattle.td_op.specs.declared.message.Message.TheVariants.{Op as AnOp, Vote as AVote}
use Rattle.td_op.specs.declared.vote.Vote.{Vote}
use Rattle.td_op.specs.Op.{OpValue}
use Rattle.td_machine.specs.Log.{proposed}
use Rattle.td_machine.specs.Machine.{Machine, next_op}
use Rattle.td_op.specs.Message.{sender}
use Rattle.td_machine.specs.Parts.{IsBuilt, Part, Makes, Proposes, Counts, Takes, Agrees, Declines, Delays, Forgets}
use Rattle.td_machine.specs.Parts.{vote_here}
use Rattle.td_machine.proofs.Parts.{by_parts}

pub proposal_of : (slot : Slot) (b : Body) → proposed b ≡ Some slot → b ≡ Propose slot
proposal_of slot (Propose s) e = ap Propose (same s slot e)
  where
    same : (a b : Slot) → Some a ≡ Some b → a ≡ b
    same a b k = cc
proposal_of slot (Insert s run) e = absurd cc
proposal_of slot (Delete x) e = absurd cc
proposal_of slot (Commit p) e = absurd cc
proposal_of slot (Abort p) e = absurd cc

no_proposal : (slot : Slot) (b : Body) → proposed b ≡ None → b ≡ Propose slot → ⊥
no_proposal slot b e f = none_some (sym e ∙ ap proposed f)
  where
    none_some : None ≡ Some slot → ⊥
    none_some k = cc

no_vote : (v : Vote) (x : OpValue) → AVote v ≡ AnOp x → ⊥
no_vote v x e = cc

same_vote : (v u : Vote) → AVote v ≡ AVote u → v ≡ u
same_vote v u e = cc

-- the log has an operation with this dot
abbrev pub HasDot : List OpValue → DotValue → Type 0
HasDot log d = (q : OpValue) × In q log × (q.dot ≡ d)

-- this site sent its vote on the proposal
abbrev pub HasVoted : ℕ → List Message → DotValue → Type 0
HasVoted site sent d = (v : Vote) × In (AVote v) sent × (v.proposal ≡ d) × (v.voter ≡ site)

pub record IsSending (m : Machine) : Type 0 where
  -- what it sent is its own
  pub own : (message : Message) → In message m.sent → sender message ≡ m.site
  -- it voted on what it had
  pub votes : (v : Vote) → In (AVote v) m.sent → HasDot m.log v.proposal
  -- it sent what it made
  pub made : (x : OpValue) → In x m.log → x.dot.site ≡ m.site → In (AnOp x) m.sent
  -- and voted on each proposal that it took
  pub voted : (x : OpValue) (slot : Slot) → In x m.log → x.dot.site ≢ m.site → x.body ≡ Propose slot
      → HasVoted m.site m.sent x.dot

one_sent : (site : ℕ) (sent : List Message) (message : Message) → sender message ≡ site
    → ((other : Message) → In other sent → sender other ≡ site)
    → (other : Message) → In other (sent ++ message ∷ []) → sender other ≡ site
one_sent site sent message e h other i =
    ⊎_elim (λ (j : In other sent). h other j)
    (λ (j : In other (message ∷ [])).
    ⊎_elim (λ (k : other ≡ message). ap sender k ∙ e) (λ (k : In other []). absurd k) j)
    (In-append other sent (message ∷ []) i)

more_had : (x : OpValue) (log : List OpValue) (d : DotValue) → HasDot log d → HasDot (x ∷ log) d
more_had x log d h = (h.0, inr h.1, h.2)

more_voted : (site : ℕ) (sent more : List Message) (d : DotValue) → HasVoted site sent d
    → HasVoted site (sent ++ more) d
more_voted site sent more d h = (h.0, In-front (AVote h.0) sent more h.1, h.2, h.3)

-- an operation made here is sent
own_more : (x : OpValue) (m : Machine) → IsSending m
    → (v : Vote) → In (AVote v) (m.sent ++ AnOp x ∷ []) → HasDot (x ∷ m.log) v.proposal
own_more x m s v i =
    ⊎_elim (λ (j : In (AVote v) m.sent). more_had x m.log v.proposal (s.votes v j))
    (λ (j : In (AVote v) (AnOp x ∷ [])).
    ⊎_elim (λ (k : AVote v ≡ AnOp x). absurd (no_vote v x k)) (λ (k : In (AVote v) []). absurd k) j)
    (In-append (AVote v) m.sent (AnOp x ∷ []) i)

module _ {Came : Message → Type 0} {site size : ℕ} where
  pub sending : (m : Machine) → IsBuilt Came site size m → IsSending m
  sending =
      by_parts (λ (m : Machine). IsSending m)
      (λ some within. record {
        own = λ message i. absurd i;
        votes = λ v i. absurd i;
        made = λ x i here. absurd i;
        voted = λ x slot i there asks. absurd i;
      })
      keeps
    where
      -- an operation made here
      own_made : (body : Body) (m : Machine) → IsSending m → (x : OpValue) → In x (next_op m body ∷ m.log)
          → x.dot.site ≡ m.site → In (AnOp x) (m.sent ++ AnOp (next_op m body) ∷ [])
      own_made body m s x (inl e) here =
          In-back (AnOp x) m.sent (AnOp (next_op m body) ∷ []) (inl (ap (λ (z : OpValue). AnOp z) e))
      own_made body m s x (inr i) here = In-front (AnOp x) m.sent (AnOp (next_op m body) ∷ []) (s.made x i here)

      own_voted : (body : Body) (m : Machine) → IsSending m → (x : OpValue) (slot : Slot)
          → In x (next_op m body ∷ m.log) → x.dot.site ≢ m.site → x.body ≡ Propose slot
          → HasVoted m.site (m.sent ++ AnOp (next_op m body) ∷ []) x.dot
      own_voted body m s x slot (inl e) there asks = absurd (there (ap (λ (z : OpValue). z.dot.site) e))
      own_voted body m s x slot (inr i) there asks =
          more_voted m.site m.sent (AnOp (next_op m body) ∷ []) x.dot (s.voted x slot i there asks)

      -- one of another site that is no proposal
      taken_made : (y : OpValue) (m : Machine) → y.dot.site ≢ m.site → IsSending m → (x : OpValue)
          → In x (y ∷ m.log) → x.dot.site ≡ m.site → In (AnOp x) m.sent
      taken_made y m other s x (inl e) here = absurd (other (ap (λ (z : OpValue). z.dot.site) (sym e) ∙ here))
      taken_made y m other s x (inr i) here = s.made x i here

      taken_voted : (y : OpValue) (m : Machine) → proposed y.body ≡ None → IsSending m → (x : OpValue) (slot : Slot)
          → In x (y ∷ m.log) → x.dot.site ≢ m.site → x.body ≡ Propose slot → HasVoted m.site m.sent x.dot
      taken_voted y m e s x slot (inl k) there asks =
          absurd (no_proposal slot y.body e (ap (λ (z : OpValue). z.body) (sym k) ∙ asks))
      taken_voted y m e s x slot (inr i) there asks = s.voted x slot i there asks

      -- and one that is, with the vote on it
      answered_made : (y : OpValue) (says : Bool) (m : Machine) → y.dot.site ≢ m.site → IsSending m → (x : OpValue)
          → In x (y ∷ m.log) → x.dot.site ≡ m.site → In (AnOp x) (m.sent ++ AVote (vote_here y says m) ∷ [])
      answered_made y says m other s x i here =
          In-front (AnOp x) m.sent (AVote (vote_here y says m) ∷ []) (taken_made y m other s x i here)

      answered_voted : (y : OpValue) (says : Bool) (m : Machine) → IsSending m → (x : OpValue) (slot : Slot)
          → In x (y ∷ m.log) → x.dot.site ≢ m.site → x.body ≡ Propose slot
          → HasVoted m.site (m.sent ++ AVote (vote_here y says m) ∷ []) x.dot
      answered_voted y says m s x slot (inl k) there asks = (
        vote_here y says m,
        In-back (AVote (vote_here y says m)) m.sent (AVote (vote_here y says m) ∷ [])
            (inl refl),
        ap (λ (z : OpValue). z.dot) (sym k),
        refl,
      )
      answered_voted y says m s x slot (inr i) there asks =
          more_voted m.site m.sent (AVote (vote_here y says m) ∷ []) x.dot (s.voted x slot i there asks)

      answered_votes : (y : OpValue) (says : Bool) (m : Machine) → IsSending m → (v : Vote)
          → In (AVote v) (m.sent ++ AVote (vote_here y says m) ∷ []) → HasDot (y ∷ m.log) v.proposal
      answered_votes y says m s v i =
          ⊎_elim (λ (j : In (AVote v) m.sent). more_had y m.log v.proposal (s.votes v j))
          (λ (j : In (AVote v) (AVote (vote_here y says m) ∷ [])).
          ⊎_elim
          (λ (k : AVote v ≡ AVote (vote_here y says m)).
          (y, inl refl, ap (λ (u : Vote). u.proposal) (sym (same_vote v (vote_here y says m) k))))
          (λ (k : In (AVote v) []). absurd k) j)
          (In-append (AVote v) m.sent (AVote (vote_here y says m) ∷ []) i)

      made_sending : (body : Body) (m n : Machine) → n.site ≡ m.site → n.log ≡ next_op m body ∷ m.log
          → n.sent ≡ m.sent ++ AnOp (next_op m body) ∷ [] → IsSending m → IsSending n
      made_sending body m n at log sent s =
          record {
            own = λ message i.
                one_sent m.site m.sent (AnOp (next_op m body)) refl s.own message
                (subst (λ (l : List Message). In message l) sent i)
                ∙ sym at;
            votes = λ v i.
                subst (λ (l : List OpValue). HasDot l v.proposal) (sym log)
                (own_more (next_op m body) m s v (subst (λ (l : List Message). In (AVote v) l) sent i));
            made = λ x i here.
                subst (λ (l : List Message). In (AnOp x) l) (sym sent)
                (own_made body m s x (subst (λ (l : List OpValue). In x l) log i) (here ∙ at));
            voted = λ x slot i there asks.
                subst (λ (k : ℕ). HasVoted k n.sent x.dot) (sym at)
                (subst (λ (l : List Message). HasVoted m.site l x.dot) (sym sent)
                (own_voted body m s x slot (subst (λ (l : List OpValue). In x l) log i) (λ e. there (e ∙ sym at))
                asks));
          }

      answered : (y : OpValue) (says : Bool) (m n : Machine) → y.dot.site ≢ m.site → n.site ≡ m.site
          → n.log ≡ y ∷ m.log → n.sent ≡ m.sent ++ AVote (vote_here y says m) ∷ [] → IsSending m → IsSending n
      answered y says m n other at log sent s =
          record {
            own = λ message i.
                one_sent m.site m.sent (AVote (vote_here y says m)) refl s.own message
                (subst (λ (l : List Message). In message l) sent i)
                ∙ sym at;
            votes = λ v i.
                subst (λ (l : List OpValue). HasDot l v.proposal) (sym log)
                (answered_votes y says m s v (subst (λ (l : List Message). In (AVote v) l) sent i));
            made = λ x i here.
                subst (λ (l : List Message). In (AnOp x) l) (sym sent)
                (answered_made y says m other s x (subst (λ (l : List OpValue). In x l) log i) (here ∙ at));
            voted = λ x slot i there asks.
                subst (λ (k : ℕ). HasVoted k n.sent x.dot) (sym at)
                (subst (λ (l : List Message). HasVoted m.site l x.dot) (sym sent)
                (answered_voted y says m s x slot (subst (λ (l : List OpValue). In x l) log i)
                (λ e. there (e ∙ sym at)) asks));
          }

      keeps : (m n : Machine) → IsBuilt Came site size m → Part Came m n → IsSending m → IsSending n
      keeps m n b (Makes body e may) s = made_sending body m n refl refl refl s
      keeps m n b (Proposes slot may) s = made_sending (Propose slot) m n refl refl refl s
      keeps m n b (Counts v k) s = record { own = s.own; votes = s.votes; made = s.made; voted = s.voted }
      keeps m n b (Takes y e fit) s =
          record {
            own = s.own;
            votes = λ v i. more_had y m.log v.proposal (s.votes v i);
            made = taken_made y m fit.offered.other s;
            voted = taken_voted y m e s;
          }
      keeps m n b (Agrees y slot e fit says) s = answered y true m n fit.offered.other refl refl refl s
      keeps m n b (Declines y slot e fit says) s = answered y false m n fit.offered.other refl refl refl s
      keeps m n b (Delays y o new late) s = record { own = s.own; votes = s.votes; made = s.made; voted = s.voted }
      keeps m n b (Forgets y i ready) s = record { own = s.own; votes = s.votes; made = s.made; voted = s.voted }
