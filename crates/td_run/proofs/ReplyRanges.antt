-- The replies of a machine that a legal history reached are in range, and so are the entries of a legal history, but
-- for the index of a request.
use Rattle.std.proofs.Common.{◌≡◌, ◌<◌, ◌≤◌, ◌+◌, ◌||◌, ℕ, List, [], ◌∷◌, Bool, false, not, nat_eq, nat_lt, length}
use Rattle.std.proofs.Common.{map, filter, Option, Some, None, refl, sym, ap, subst, inl, inr, arith}
use Rattle.std.proofs.lemmas.Bool.{ltb-false}
use Rattle.std.proofs.lemmas.Option.{same_Some}
use Rattle.std.specs.Prelude.{⊤}
use Rattle.std.specs.List.{find}
use Rattle.std.specs.Option.{is_some}
use Rattle.td_base.specs.Lists.{In}
use Rattle.td_base.specs.Order.{dot_lt}
use Rattle.td_base.specs.Value.{DotValue, AtomIdValue, IsDot}
use Rattle.td_base.specs.declared.dot.TheConstants.{MAX_SEQ}
use Rattle.td_base.specs.declared.site.TheConstants.{MAX_SITE}
use Rattle.td_base.proofs.Elements.{either}
use Rattle.td_base.proofs.Lists.{In-filter, map_In}
use Rattle.td_clock.specs.Vector.{vector_get}
use Rattle.td_path.specs.declared.slot.Slot.{Slot}
use Rattle.td_path.specs.declared.slot.Slot.TheVariants.{Root, At}
use Rattle.td_op.specs.Input.{IsInput, IsRequest}
use Rattle.td_op.specs.Op.{OpValue}
use Rattle.td_op.specs.declared.entry.Entry.{Entry}
use Rattle.td_op.specs.declared.input.Input.{Input}
use Rattle.td_op.specs.declared.input.Input.TheVariants.{Local, Take, Next}
use Rattle.td_op.specs.declared.message.Message.TheVariants.{Op as AnOp, Vote as AVote}
use Rattle.td_op.specs.declared.reply.Reply.TheVariants.{Made, Position, Gone, Limit, NotOpen}
use Rattle.td_op.specs.declared.reply.Why.{Why}
use Rattle.td_op.specs.declared.request.Request.{Request}
use Rattle.td_op.specs.declared.request.Request.TheVariants.{Insert, InsertAfter, Paste, PasteAfter, Delete}
use Rattle.td_op.specs.declared.request.Request.TheVariants.{DeleteAtom, Propose, ProposeAt, Cancel}
use Rattle.td_op.specs.declared.vote.Vote.{Vote}
use Rattle.td_doc.specs.Answers.{is_live_id, is_rooted}
use Rattle.td_doc.specs.Allocation.{anchor}
use Rattle.td_doc.specs.Document.{live_id_at}
use Rattle.td_machine.specs.Decision.{Ballot, is_on, is_open, is_counted}
use Rattle.td_machine.specs.Hold.{Hold, held_by, least_dot, smaller_dot}
use Rattle.td_machine.specs.History.{History, IsReached, IsLegalFrom}
use Rattle.td_machine.specs.Machine.{Machine, made, undecided, next_dot}
use Rattle.td_machine.specs.Ready.{is_had, is_ready, waits, next_ready}
use Rattle.td_machine.specs.Request.{Aim, Attempt, Refuse, Do, GiveUp, aim, aim_step, attempt_step, insert_aim}
use Rattle.td_machine.specs.Request.{insert_aim_at, insert_aim_after, delete_aim, propose_aim, live_aim, cancel_aim}
use Rattle.td_machine.specs.Request.{is_past_limit, len, perform}
use Rattle.td_machine.specs.Step.{step}
use Rattle.td_machine.specs.Taking.{Stepped, stepped, misfit, fit_step, op_step, ballot_step, vote_step, forget}
use Rattle.td_machine.specs.Taking.{waited, next_of}
use Rattle.td_machine.proofs.Holding.{holding}
use Rattle.td_machine.proofs.Induction.{IsBuiltSomewhere, built_of, reached_step}
use Rattle.td_machine.proofs.OwnProposals.{proposal_in}
use Rattle.td_machine.proofs.Reached.{room_of}
use Rattle.td_machine.proofs.StepKinds.{least_in}
use Rattle.td_machine.proofs.Turns.{placed}
use Rattle.td_machine.proofs.Walk.{offered}
use Rattle.td_reader.specs.Values.{FitsReply}
use Rattle.td_law_replay.proofs.Values.{values_of}
use Rattle.td_run.proofs.ShownAtoms.{len_short, size_few}

-- ---- the least dot of holds

least_one : (dots : List DotValue) (d : DotValue) → least_dot dots ≡ Some d → In d dots
least_one [] d e = absurd cc
least_one (c ∷ dots) d e = at (least_dot dots) (least_one dots) (same_Some (smaller_dot c (least_dot dots)) d e)
  where
    at : (o : Option DotValue) → ((z : DotValue) → o ≡ Some z → In z dots) → smaller_dot c o ≡ d → In d (c ∷ dots)
    at None ih f = inl (sym f)
    at (Some z) ih f =
        either (λ (y : DotValue). y ≡ d → In d (c ∷ dots)) (dot_lt z c) z c
        (λ b k. inr (subst (λ (y : DotValue). In y dots) k (ih z refl))) (λ b k. inl (sym k)) f

-- ---- what a machine answers

module _ (m : Machine) (r : IsReached m) where
  abbrev somewhere : IsBuiltSomewhere m
  somewhere = built_of m r

  hold_dot : (h : Hold) → In h m.holds → IsDot h.proposal
  hold_dot h i =
      let q =
      proposal_in h.proposal m.log
      (ap (λ (o : Option Slot). is_some o) ((holding m somewhere.built).known h i)) in
      subst (λ (d : DotValue). IsDot d) q.2 (values_of m r q.0 q.1).dot

  held_dot : (test : Slot → Bool) (d : DotValue) → held_by test m.holds ≡ Some d → IsDot d
  held_dot test d e =
      let i = least_one (map (λ (h : Hold). h.proposal) (filter (λ (h : Hold). test h.slot) m.holds)) d e in
      let h = map_In (λ (h : Hold). h.proposal) d (filter (λ (h : Hold). test h.slot) m.holds) i in
      subst (λ (z : DotValue). IsDot z) (sym h.2)
      (hold_dot h.0 (In-filter (λ (h : Hold). test h.slot) h.0 m.holds h.1).0)

  -- what a request comes down to has parts in range
  abbrev FitsAim : Aim → Type 0
  FitsAim (Refuse reply) = FitsReply reply
  FitsAim (Do a) = (0 < a.room) × ((d : DotValue) → a.held ≡ Some d → IsDot d)
  FitsAim (GiveUp p) = ⊤

  inserts : (run : List (List ℕ)) (after : Option AtomIdValue) → FitsAim (insert_aim run after m)
  inserts run after = (omega arith, (λ d e. held_dot _ d e))

  deletes : (x : AtomIdValue) → FitsAim (delete_aim x m)
  deletes x = (omega arith, (λ d e. held_dot _ d e))

  proposes : (slot : Slot) → FitsAim (propose_aim slot m)
  proposes slot = (omega arith, (λ d e. held_dot _ d e))

  inserts_at : (run : List (List ℕ)) (index : ℕ) → FitsAim (insert_aim_at run index m)
  inserts_at run index =
      either FitsAim (nat_lt (len m) index) (Refuse (Position (len m))) (insert_aim run (anchor m.doc index) m)
      (λ e. len_short m r) (λ e. inserts run (anchor m.doc index))

  at_live : (f : AtomIdValue → Machine → Aim) (o : Option AtomIdValue) → ((x : AtomIdValue) → FitsAim (f x m))
      → FitsAim (live_aim f o m)
  at_live f None h = len_short m r
  at_live f (Some x) h = h x

  cancels : (p : DotValue) (o : Option Ballot) → IsDot p → FitsAim (cancel_aim p o)
  cancels p None v = v
  cancels p (Some ballot) v = either FitsAim (is_open ballot) (GiveUp p) (Refuse (NotOpen p)) (λ e. tt) (λ e. v)

  inserts_after : (run : List (List ℕ)) (x : AtomIdValue) → FitsReply (Gone x)
      → FitsAim (insert_aim_after run (Some x) m)
  inserts_after run x v =
      either FitsAim (is_live_id m.doc x) (insert_aim run (Some x) m) (Refuse (Gone x))
      (λ e. inserts run (Some x)) (λ e. v)

  aims : (request : Request) → IsRequest request → FitsAim (aim request m)
  aims (Insert index atom) v = inserts_at (atom ∷ []) index
  aims (InsertAfter None atom) v = inserts (atom ∷ []) None
  aims (InsertAfter (Some x) atom) v = inserts_after (atom ∷ []) x v.0
  aims (Paste index run) v = inserts_at run index
  aims (PasteAfter None run) v = inserts run None
  aims (PasteAfter (Some x) run) v = inserts_after run x v.0
  aims (Delete index) v = at_live delete_aim (live_id_at m.doc index) deletes
  aims (DeleteAtom x) v =
      either FitsAim (is_live_id m.doc x) (delete_aim x m) (Refuse (Gone x)) (λ e. deletes x) (λ e. v)
  aims (Propose Root) v = proposes Root
  aims (Propose (At x bit)) v =
      either FitsAim (is_rooted m.doc (At x bit)) (propose_aim (At x bit) m) (Refuse (Gone x))
      (λ e. proposes (At x bit)) (λ e. v)
  aims (ProposeAt index bit) v =
      at_live (λ (x : AtomIdValue). propose_aim (At x bit)) (live_id_at m.doc index) (λ x. proposes (At x bit))
  aims (Cancel p) v = cancels p (find (is_on p) m.ballots) v

  -- the dot of the next operation, where there is room for it
  next_fits : (k : ℕ) → 0 < k → is_past_limit k m ≡ false → IsDot (next_dot m)
  next_fits k some e =
      let p = placed m somewhere.built in
      let least : 0 < m.site = p.0 in
      let within : m.site ≤ m.size = p.1 in
      let few : m.size ≤ MAX_SITE = size_few m r in
      let room : made m + undecided m + k ≤ MAX_SEQ = ltb-false MAX_SEQ (made m + undecided m + k) e in
      record {
        site = record { least = omega (arith, least); greatest = omega (arith, within, few) };
        least = omega arith;
        greatest = omega (arith, room, some);
      }

  limit_fits : FitsReply (Limit (made m) (undecided m))
  limit_fits =
      let room : made m + undecided m ≤ 65535 = room_of m r in
      (omega (arith, room), omega (arith, room))

  attempts : (held : Option DotValue) (a : Attempt) → 0 < a.room → ((d : DotValue) → held ≡ Some d → IsDot d)
      → FitsReply (attempt_step held a m).reply
  attempts (Some d) a some h = h d refl
  attempts None a some h =
      either (λ (s : Stepped). FitsReply s.reply) (is_past_limit a.room m)
      (stepped (Limit (made m) (undecided m)) m) (stepped (Made (next_dot m)) (perform a.body m))
      (λ e. limit_fits) (λ e. next_fits a.room some e)

  answers : (a : Aim) → FitsAim a → FitsReply (aim_step a m).reply
  answers (Refuse reply) h = h
  answers (Do a) h = attempts a.held a h.0 h.1
  answers (GiveUp p) h = tt

  abbrev Fits : Stepped → Type 0
  Fits s = FitsReply s.reply

  fitted : (o : Option Why) (x : OpValue) → Fits (fit_step o x m)
  fitted (Some why) x = tt
  fitted None x = tt

  of_op : (x : OpValue) → Fits (op_step x m)
  of_op x =
      either Fits (not (nat_eq (length x.deps) m.size)) _ _ (λ e. tt)
      (λ e. either Fits (is_had m.have x || waits x.dot m.waiting) _ _ (λ f. tt)
      (λ f. either Fits (nat_eq x.dot.site m.site || nat_lt (made m) (vector_get x.deps m.site)) _ _ (λ g. tt)
      (λ g. either Fits (not (is_ready m.have x)) _ _ (λ h. tt) (λ h. fitted (misfit x m) x))))

  balloted : (o : Option Ballot) (v : Vote) → Fits (ballot_step o v m)
  balloted None v = tt
  balloted (Some ballot) v = either Fits (is_counted v.voter ballot) _ _ (λ e. tt) (λ e. tt)

  of_vote : (v : Vote) → Fits (vote_step v m)
  of_vote v =
      either Fits (nat_lt m.size v.voter || nat_lt m.size v.proposal.site) _ _ (λ e. tt)
      (λ e. either Fits (not (nat_eq v.proposal.site m.site)) _ _ (λ f. tt)
      (λ f. balloted (find (is_on v.proposal) m.ballots) v))

  of_waited : (o : Option Why) (x : OpValue) (n : Machine) → IsDot x.dot → Fits (waited o x n)
  of_waited (Some why) x n d = d
  of_waited None x n d = d

  of_next : (o : Option OpValue) → next_ready m.have m.waiting ≡ o → Fits (next_of o m)
  of_next None e = tt
  of_next (Some x) e =
      let i = least_in (filter (is_ready m.have) m.waiting) x e in
      of_waited (misfit x m) x (forget x m)
      (offered m somewhere.built x (In-filter (is_ready m.have) x m.waiting i).0).valid.dot

  pub reply_fits : (input : Input) → IsInput input → FitsReply (step m input).reply
  reply_fits (Local request) v = answers (aim request m) (aims request v)
  reply_fits (Take (AnOp x)) v = of_op x
  reply_fits (Take (AVote vote)) v = of_vote vote
  reply_fits Next v = of_next (next_ready m.have m.waiting) refl

pub legal_fits : (m : Machine) → IsReached m → (entries : History) → IsLegalFrom m entries → (e : Entry)
    → In e entries → IsInput e.input × FitsReply e.reply
legal_fits m r [] l e i = absurd i
legal_fits m r (x ∷ entries) l e (inl same) =
    subst (λ (z : Entry). IsInput z.input × FitsReply z.reply) (sym same)
    (l.0, subst FitsReply l.1 (reply_fits m r x.input l.0))
legal_fits m r (x ∷ entries) l e (inr i) =
    legal_fits (step m x.input).machine (reached_step m x.input r l.0) entries l.2 e i
