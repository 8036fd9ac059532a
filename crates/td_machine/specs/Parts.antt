-- The parts of a step: each thing that a step does to a machine, with what it knows then; and the machines that are
-- built of them.
use Rattle.std.specs.Prelude.{◌≡◌, ◌≢◌, ◌<◌, ◌≤◌, ◌+◌, ◌||◌, ℕ, List, Bool, true, false, length, Option}
use Rattle.std.specs.Prelude.{Some, None}
use Rattle.std.specs.List.{find}
use Rattle.std.specs.Option.{is_some, ForSome}
use Rattle.td_base.specs.Value.{DotValue, AtomIdValue}
use Rattle.td_base.specs.declared.dot.TheConstants.{MAX_SEQ}
use Rattle.td_base.specs.Lists.{In}
use Rattle.td_path.specs.declared.slot.Slot.{Slot}
use Rattle.td_op.specs.declared.body.Body.{Body}
use Rattle.td_op.specs.declared.body.Body.TheVariants.{Insert, Delete, Propose, Commit, Abort}
use Rattle.td_op.specs.declared.message.Message.{Message}
use Rattle.td_op.specs.declared.message.Message.TheVariants.{Op as AnOp, Vote as AVote}
use Rattle.td_op.specs.declared.vote.Vote.{Vote}
use Rattle.td_op.specs.Op.{OpValue}
use Rattle.td_op.specs.Message.{IsOpValue, IsVote}
use Rattle.td_doc.specs.Document.{find_row}
use Rattle.td_doc.specs.Allocation.{alloc}
use Rattle.td_doc.specs.Answers.{IsRow, is_rooted}
use Rattle.td_machine.specs.Ready.{is_had, is_ready, waits}
use Rattle.td_machine.specs.Log.{proposed}
use Rattle.td_machine.specs.Hold.{held_slot, held_row, held_over}
use Rattle.td_machine.specs.Decision.{Ballot, is_on, is_open, is_counted, counted, revise}
use Rattle.td_machine.specs.Machine.{Machine, start, made, undecided, next_dot}
use Rattle.td_machine.specs.Making.{done, make, send, hold, open_ballot}
use Rattle.td_machine.specs.Taking.{misfit, vote_on, keep_waiting, forget}

-- ---- what a machine knows of what it makes

-- so many operations more can be made
abbrev pub RoomFor : ℕ → Machine → Type 0
RoomFor k m = made m + undecided m + k ≤ MAX_SEQ

-- a run that may be put in this slot: it is the one allocated after a row, or at the start
pub record IsPlacing (slot : Slot) (run : List (List ℕ)) (m : Machine) : Type 0 where
  pub after : Option AtomIdValue
  pub allocated : slot ≡ alloc m.doc after
  pub row : ForSome after (IsRow m.doc)
  pub rooted : is_rooted m.doc slot ≡ true
  pub full : 0 < length run
  pub free : held_slot m.doc slot m.holds ≡ None
  pub room : RoomFor 1 m

-- a row that may be deleted
pub record IsRemoving (x : AtomIdValue) (m : Machine) : Type 0 where
  pub row : is_some (find_row x m.doc) ≡ true
  pub free : held_row m.doc x m.holds ≡ None
  pub room : RoomFor 1 m

-- a slot that may be proposed
pub record IsProposing (slot : Slot) (m : Machine) : Type 0 where
  pub rooted : is_rooted m.doc slot ≡ true
  pub free : held_over m.doc slot m.holds ≡ None
  pub room : RoomFor 2 m

-- an own undecided proposal
pub record IsOpenAt (p : DotValue) (m : Machine) : Type 0 where
  pub ballot : Ballot
  pub found : find (is_on p) m.ballots ≡ Some ballot
  pub open_ : is_open ballot ≡ true

-- at the n-th Yes
pub record IsCommitting (p : DotValue) (m : Machine) : Type 0 where
  pub opened : IsOpenAt p m
  pub all : length opened.ballot.yes ≡ m.size

-- an operation with this body may be made
abbrev pub MayMake : Body → Machine → Type 0
MayMake (Insert slot run) m = IsPlacing slot run m
MayMake (Delete x) m = IsRemoving x m
MayMake (Propose slot) m = IsProposing slot m
MayMake (Commit p) m = IsCommitting p m
MayMake (Abort p) m = IsOpenAt p m

-- ---- and of what it takes. Came is what is known of a message that comes, beside that it is a value of its type

-- nothing more is known of it
abbrev pub Anything : Message → Type 0
Anything message = Unit {0}

-- an operation of another site, for so many sites
pub record IsOffered (Came : Message → Type 0) (site size : ℕ) (x : OpValue) : Type 0 where
  pub valid : IsOpValue x
  pub came : Came (AnOp x)
  pub other : x.dot.site ≢ site
  pub sized : length x.deps ≡ size

-- it is ready, and what it names is here
pub record IsFit (Came : Message → Type 0) (m : Machine) (x : OpValue) : Type 0 where
  pub offered : IsOffered Came m.site m.size x
  pub ready : is_ready m.have x ≡ true
  pub fit : misfit x m ≡ None

-- a vote on an own undecided proposal, of a site whose vote is not counted
pub record IsCounting (Came : Message → Type 0) (v : Vote) (m : Machine) : Type 0 where
  pub valid : IsVote v
  pub came : Came (AVote v)
  pub ballot : Ballot
  pub found : find (is_on v.proposal) m.ballots ≡ Some ballot
  pub new : is_counted v.voter ballot ≡ false
  pub within : v.voter ≤ m.size
  pub own : v.proposal.site ≡ m.site

-- ---- the parts

-- an own proposal made, held and opened
abbrev pub proposed_here : Slot → Machine → Machine
proposed_here slot m = open_ballot (next_dot m) (hold (next_dot m) slot (make (Propose slot) m))

abbrev pub vote_here : OpValue → Bool → Machine → Vote
vote_here x says m = record { proposal = x.dot; voter = m.site; yes = says }

pub data Part (Came : Message → Type 0) (m : Machine) : Machine → Type 0 where
  -- an edit or a decision is made
  Makes : (body : Body) → proposed body ≡ None → MayMake body m → Part Came m (make body m)
  Proposes : (slot : Slot) → IsProposing slot m → Part Came m (proposed_here slot m)
  Counts : (v : Vote) → IsCounting Came v m
      → Part Came m (record m { ballots = revise v.proposal (counted v.voter v.yes) m.ballots })
  -- an edit or a decision of another site is taken
  Takes : (x : OpValue) → proposed x.body ≡ None → IsFit Came m x → Part Came m (done x m)
  -- a proposal of another site is taken, and the vote is Yes
  Agrees : (x : OpValue) (slot : Slot) → proposed x.body ≡ Some slot → IsFit Came m x → vote_on x slot m ≡ true
      → Part Came m (send (AVote (vote_here x true m)) (hold x.dot slot (done x m)))
  -- or No
  Declines : (x : OpValue) (slot : Slot) → proposed x.body ≡ Some slot → IsFit Came m x → vote_on x slot m ≡ false
      → Part Came m (send (AVote (vote_here x false m)) (done x m))
  -- an operation that is not ready waits, and one that waits no longer does
  Delays : (x : OpValue) → IsOffered Came m.site m.size x → (is_had m.have x || waits x.dot m.waiting) ≡ false
      → is_ready m.have x ≡ false → Part Came m (keep_waiting x m)
  Forgets : (x : OpValue) → In x m.waiting → is_ready m.have x ≡ true → Part Came m (forget x m)

-- a machine of a site, built from the start
pub data IsBuilt (Came : Message → Type 0) (site size : ℕ) : Machine → Type 0 where
  Begins : 0 < site → site ≤ size → IsBuilt Came site size (start site size)
  Goes : {m n : Machine} → IsBuilt Came site size m → Part Came m n → IsBuilt Came site size n
