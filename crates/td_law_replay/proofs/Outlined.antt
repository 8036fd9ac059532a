-- A machine of which what waits is known by dots and dependencies alone steps as the machine does.
use Rattle.std.proofs.Common.{◌≡◌, ◌||◌, List, [], ◌∷◌, ℕ, Bool, true, false, not, if◌then◌else◌, nat_eq, nat_lt}
use Rattle.std.proofs.Common.{length, filter, map, Option, Some, None, refl, sym, ap, ◌∙◌, true≢false}
use Rattle.std.specs.List.{find}
use Rattle.std.specs.Option.{option_map}
use Rattle.td_base.specs.Value.{DotValue, AtomIdValue}
use Rattle.td_base.specs.Order.{dot_lt}
use Rattle.td_base.specs.Equality.{same_dot}
use Rattle.td_base.proofs.Equals.{same_dot_refl}
use Rattle.td_clock.specs.Vector.{vector_get}
use Rattle.td_path.specs.declared.slot.Slot.{Slot}
use Rattle.td_path.specs.declared.slot.Slot.TheVariants.{Root, At}
use Rattle.td_op.specs.declared.body.Body.{Body}
use Rattle.td_op.specs.declared.body.Body.TheVariants.{Insert as InsertIn, Delete as DeleteOf}
use Rattle.td_op.specs.declared.body.Body.TheVariants.{Propose as ProposeOf, Commit, Abort}
use Rattle.td_op.specs.declared.input.Input.{Input}
use Rattle.td_op.specs.declared.input.Input.TheVariants.{Local, Take, Next}
use Rattle.td_op.specs.declared.message.Message.TheVariants.{Op as AnOp, Vote as AVote}
use Rattle.td_op.specs.declared.request.Request.{Request}
use Rattle.td_op.specs.declared.request.Request.TheVariants.{Insert, InsertAfter, Paste, PasteAfter, Delete}
use Rattle.td_op.specs.declared.request.Request.TheVariants.{DeleteAtom, Propose, ProposeAt, Cancel}
use Rattle.td_op.specs.declared.vote.Vote.{Vote}
use Rattle.td_op.specs.declared.reply.Reply.TheVariants.{Made, Cancelled, Limit, New, Later, Repeat, Unfit, Taken, Idle}
use Rattle.td_op.specs.declared.reply.Why.{Why}
use Rattle.td_op.specs.declared.reply.Why.TheVariants.{Size, Own, Address}
use Rattle.td_op.specs.Op.{OpValue}
use Rattle.td_doc.specs.Document.{live_id_at}
use Rattle.td_machine.specs.Ready.{is_had, is_ready, smaller_op, least_op, next_ready}
use Rattle.td_machine.specs.Ready.{is_dot_of, waits, put_waiting, without}
use Rattle.td_machine.specs.Log.{proposed}
use Rattle.td_machine.specs.Decision.{Ballot, is_on, is_counted, counted, outcome, new_ballot, revise}
use Rattle.td_machine.specs.Machine.{Machine, made, undecided, next_dot}
use Rattle.td_machine.specs.Making.{done, make, decide, hold, open_ballot}
use Rattle.td_machine.specs.Taking.{Stepped, stepped, misfit, body_misfit, take, take_as, answer, vote_on}
use Rattle.td_machine.specs.Taking.{keep_waiting, fit_step, count, ballot_step, forget, waited, next_of}
use Rattle.td_machine.specs.Request.{Aim, Attempt, Refuse, Do, GiveUp, aim, aim_step, attempt_step}
use Rattle.td_machine.specs.Request.{is_past_limit, perform, live_aim, delete_aim, propose_aim}
use Rattle.td_machine.specs.Step.{step}
use Rattle.td_law_replay.specs.Judging.{outline_of, take_waiting, take_waiting_as}
use Rattle.td_law_replay.specs.Replies.{is_new, NotUnfit}
use Rattle.td_law_replay.specs.Ended.{outlined}

-- the machine with other operations waiting
abbrev pub with : List OpValue → Machine → Machine
with w m = record m { waiting = w }

abbrev pub with_step : List OpValue → Stepped → Stepped
with_step w s = stepped s.reply (with w s.machine)

abbrev pub outlined_step : Stepped → Stepped
outlined_step s = stepped s.reply (outlined s.machine)

-- ---- what waits makes no difference

make_with : (body : Body) (w : List OpValue) (m : Machine) → make body (with w m) ≡ with w (make body m)
make_with body w m = refl

pub decide_with : (p : DotValue) (o : Option Bool) (w : List OpValue) (m : Machine)
    → decide p o (with w m) ≡ with w (decide p o m)
decide_with p None w m = refl
decide_with p (Some true) w m = refl
decide_with p (Some false) w m = refl

pub perform_with : (body : Body) (w : List OpValue) (m : Machine) → perform body (with w m) ≡ with w (perform body m)
perform_with (InsertIn slot run) w m = refl
perform_with (DeleteOf x) w m = refl
perform_with (Commit p) w m = refl
perform_with (Abort p) w m = refl
perform_with (ProposeOf slot) w m =
    decide_with (next_dot m) (outcome m.size true (new_ballot (next_dot m))) w
    (open_ballot (next_dot m) (hold (next_dot m) slot (make (ProposeOf slot) m)))

pub take_with : (x : OpValue) (w : List OpValue) (m : Machine) → take x (with w m) ≡ with w (take x m)
take_with x w m = slotted (proposed x.body)
  where
    answered : (slot : Slot) (says : Bool)
        → answer x.dot slot says (done x (with w m)) ≡ with w (answer x.dot slot says (done x m))
    answered slot true = refl
    answered slot false = refl

    slotted : (o : Option Slot) → take_as o x (with w m) ≡ with w (take_as o x m)
    slotted None = refl
    slotted (Some slot) = answered slot (vote_on x slot m)

-- ---- requests and votes

attempt_with : (held : Option DotValue) (a : Attempt) (w : List OpValue) (m : Machine)
    → attempt_step held a (with w m) ≡ with_step w (attempt_step held a m)
attempt_with (Some by_) a w m = refl
attempt_with None a w m = at (is_past_limit a.room m)
  where
    at : (b : Bool)
        → (if b then stepped (Limit (made m) (undecided m)) (with w m)
        else stepped (Made (next_dot m)) (perform a.body (with w m)))
        ≡ with_step w (if b then stepped (Limit (made m) (undecided m)) m
        else stepped (Made (next_dot m)) (perform a.body m))
    at true = refl
    at false = ap (λ (n : Machine). stepped (Made (next_dot m)) n) (perform_with a.body w m)

aim_step_with : (a : Aim) (w : List OpValue) (m : Machine) → aim_step a (with w m) ≡ with_step w (aim_step a m)
aim_step_with (Refuse reply) w m = refl
aim_step_with (Do a) w m = attempt_with a.held a w m
aim_step_with (GiveUp p) w m = ap (λ (n : Machine). stepped Cancelled n) (decide_with p (Some false) w m)

aim_with : (request : Request) (w : List OpValue) (m : Machine) → aim request (with w m) ≡ aim request m
aim_with (Insert index atom) w m = refl
aim_with (InsertAfter None atom) w m = refl
aim_with (InsertAfter (Some x) atom) w m = refl
aim_with (Paste index run) w m = refl
aim_with (PasteAfter None run) w m = refl
aim_with (PasteAfter (Some x) run) w m = refl
aim_with (Delete index) w m = at (live_id_at m.doc index)
  where
    at : (o : Option AtomIdValue) → live_aim delete_aim o (with w m) ≡ live_aim delete_aim o m
    at None = refl
    at (Some x) = refl
aim_with (DeleteAtom x) w m = refl
aim_with (Propose Root) w m = refl
aim_with (Propose (At x bit)) w m = refl
aim_with (ProposeAt index bit) w m = at (live_id_at m.doc index)
  where
    at : (o : Option AtomIdValue)
        → live_aim (λ (x : AtomIdValue). propose_aim (At x bit)) o (with w m)
        ≡ live_aim (λ (x : AtomIdValue). propose_aim (At x bit)) o m
    at None = refl
    at (Some x) = refl
aim_with (Cancel p) w m = refl

pub local_with : (request : Request) (w : List OpValue) (m : Machine)
    → step (with w m) (Local request) ≡ with_step w (step m (Local request))
local_with request w m =
    ap (λ (a : Aim). aim_step a (with w m)) (aim_with request w m) ∙ aim_step_with (aim request m) w m

pub vote_with : (v : Vote) (w : List OpValue) (m : Machine)
    → step (with w m) (Take (AVote v)) ≡ with_step w (step m (Take (AVote v)))
vote_with v w m = at (nat_lt m.size v.voter || nat_lt m.size v.proposal.site)
  where
    counted_at : (b : Ballot) → count v b (with w m) ≡ with w (count v b m)
    counted_at b =
        decide_with v.proposal (outcome m.size v.yes (counted v.voter v.yes b)) w
        (record m { ballots = revise v.proposal (counted v.voter v.yes) m.ballots })

    again : (b : Ballot) (t : Bool)
        → (if t then stepped Repeat (with w m) else stepped New (count v b (with w m)))
        ≡ with_step w (if t then stepped Repeat m else stepped New (count v b m))
    again b true = refl
    again b false = ap (λ (n : Machine). stepped New n) (counted_at b)

    found : (o : Option Ballot) → ballot_step o v (with w m) ≡ with_step w (ballot_step o v m)
    found None = refl
    found (Some b) = again b (is_counted v.voter b)

    here : (t : Bool)
        → (if t then stepped (Unfit Address) (with w m) else ballot_step (find (is_on v.proposal) m.ballots) v
        (with w m))
        ≡ with_step w
        (if t then stepped (Unfit Address) m else ballot_step (find (is_on v.proposal) m.ballots) v m)
    here true = refl
    here false = found (find (is_on v.proposal) m.ballots)

    at : (t : Bool)
        → (if t then stepped (Unfit Size) (with w m)
        else (if not (nat_eq v.proposal.site m.site) then stepped (Unfit Address) (with w m)
        else ballot_step (find (is_on v.proposal) m.ballots) v (with w m)))
        ≡ with_step w
        (if t then stepped (Unfit Size) m
        else (if not (nat_eq v.proposal.site m.site) then stepped (Unfit Address) m
        else ballot_step (find (is_on v.proposal) m.ballots) v m))
    at true = refl
    at false = here (not (nat_eq v.proposal.site m.site))

-- so with outlines in its place
outlines_same : (m : Machine) (input : Input)
    → ((w : List OpValue) → step (with w m) input ≡ with_step w (step m input))
    → step (outlined m) input ≡ outlined_step (step m input)
outlines_same m input h =
    let kept : (step m input).machine.waiting ≡ m.waiting = ap (λ (s : Stepped). s.machine.waiting) (h m.waiting) in
    h (map outline_of m.waiting)
    ∙ ap (λ (l : List OpValue). with_step (map outline_of l) (step m input)) (sym kept)

pub local_outlined : (request : Request) (m : Machine)
    → step (outlined m) (Local request) ≡ outlined_step (step m (Local request))
local_outlined request m = outlines_same m (Local request) (λ w. local_with request w m)

pub vote_outlined : (v : Vote) (m : Machine)
    → step (outlined m) (Take (AVote v)) ≡ outlined_step (step m (Take (AVote v)))
vote_outlined v m = outlines_same m (Take (AVote v)) (λ w. vote_with v w m)

pub take_keeps : (x : OpValue) (m : Machine) → (take x m).waiting ≡ m.waiting
take_keeps x m = ap (λ (n : Machine). n.waiting) (take_with x m.waiting m)

pub take_outlined : (x : OpValue) (m : Machine) → take x (outlined m) ≡ outlined (take x m)
take_outlined x m =
    take_with x (map outline_of m.waiting) m
    ∙ ap (λ (l : List OpValue). with (map outline_of l) (take x m)) (sym (take_keeps x m))

-- ---- outlines in lists

pub waits_outlines : (d : DotValue) (w : List OpValue) → waits d (map outline_of w) ≡ waits d w
waits_outlines d [] = refl
waits_outlines d (x ∷ w) = ap (λ (b : Bool). same_dot x.dot d || b) (waits_outlines d w)

pub put_outlines : (x : OpValue) (w : List OpValue)
    → put_waiting (outline_of x) (map outline_of w) ≡ map outline_of (put_waiting x w)
put_outlines x [] = refl
put_outlines x (y ∷ w) = at (dot_lt y.dot x.dot) (put_outlines x w)
  where
    at : (b : Bool) → put_waiting (outline_of x) (map outline_of w) ≡ map outline_of (put_waiting x w)
        → (if b then outline_of y ∷ put_waiting (outline_of x)
        (map outline_of w) else outline_of x ∷ outline_of y ∷ map outline_of w)
        ≡ map outline_of (if b then y ∷ put_waiting x w else x ∷ y ∷ w)
    at true e = ap (λ (l : List OpValue). outline_of y ∷ l) e
    at false e = refl

pub without_outlines : (d : DotValue) (w : List OpValue) → without d (map outline_of w) ≡ map outline_of (without d w)
without_outlines d [] = refl
without_outlines d (x ∷ w) = at (not (is_dot_of d x)) (without_outlines d w)
  where
    at : (b : Bool) → without d (map outline_of w) ≡ map outline_of (without d w)
        → (if b then outline_of x ∷ without d (map outline_of w) else without d (map outline_of w))
        ≡ map outline_of (if b then x ∷ without d w else without d w)
    at true e = ap (λ (l : List OpValue). outline_of x ∷ l) e
    at false e = e

ready_outlines : (have : List ℕ) (w : List OpValue)
    → filter (is_ready have) (map outline_of w) ≡ map outline_of (filter (is_ready have) w)
ready_outlines have [] = refl
ready_outlines have (x ∷ w) = at (is_ready have x) (ready_outlines have w)
  where
    at : (b : Bool) → filter (is_ready have) (map outline_of w) ≡ map outline_of (filter (is_ready have) w)
        → (if b then outline_of x ∷ filter (is_ready have) (map outline_of w) else filter (is_ready have)
        (map outline_of w))
        ≡ map outline_of (if b then x ∷ filter (is_ready have) w else filter (is_ready have) w)
    at true e = ap (λ (l : List OpValue). outline_of x ∷ l) e
    at false e = e

pub least_outlines : (w : List OpValue) → least_op (map outline_of w) ≡ option_map outline_of (least_op w)
least_outlines [] = refl
least_outlines (x ∷ w) =
    ap (λ (o : Option OpValue). Some (smaller_op (outline_of x) o)) (least_outlines w)
    ∙ ap (λ (y : OpValue). Some y) (smaller (least_op w))
  where
    smaller : (o : Option OpValue) → smaller_op (outline_of x) (option_map outline_of o) ≡ outline_of (smaller_op x o)
    smaller None = refl
    smaller (Some y) = at (dot_lt y.dot x.dot)
      where
        at : (b : Bool) → (if b then outline_of y else outline_of x) ≡ outline_of (if b then y else x)
        at true = refl
        at false = refl

pub next_outlines : (have : List ℕ) (w : List OpValue)
    → next_ready have (map outline_of w) ≡ option_map outline_of (next_ready have w)
next_outlines have w = ap (λ (l : List OpValue). least_op l) (ready_outlines have w)
    ∙ least_outlines (filter (is_ready have) w)

-- ---- operations that come

abbrev pub offered_to : Bool → Bool → Bool → Bool → Option Why → OpValue → Machine → Stepped
offered_to sized again own ready why x m =
    if not sized then stepped (Unfit Size) m
    else (if again then stepped Repeat m
    else (if own then stepped (Unfit Own) m
    else (if not ready then stepped Later (keep_waiting x m)
    else fit_step why x m)))

pub misfit_with : (x : OpValue) (w : List OpValue) (m : Machine) → misfit x (with w m) ≡ misfit x m
misfit_with x w m = at x.body
  where
    at : (b : Body) → body_misfit x.dot.site b (with w m) ≡ body_misfit x.dot.site b m
    at (InsertIn slot run) = refl
    at (DeleteOf y) = refl
    at (ProposeOf slot) = refl
    at (Commit p) = refl
    at (Abort p) = refl

-- one that is taken
pub new_outlined : (x : OpValue) (m : Machine) → (step m (Take (AnOp x))).reply ≡ New
    → step (outlined m) (Take (AnOp x)) ≡ outlined_step (step m (Take (AnOp x)))
new_outlined x m e =
    let again : Bool = is_had m.have x || waits x.dot m.waiting in
    let own : Bool = nat_eq x.dot.site m.site || nat_lt (made m) (vector_get x.deps m.site) in
    ap
    (λ (b : Bool).
    offered_to (nat_eq (length x.deps) m.size) (is_had m.have x || b) own (is_ready m.have x) (misfit x (outlined m)) x
    (outlined m)) (waits_outlines x.dot m.waiting)
    ∙ ap
    (λ (o : Option Why). offered_to (nat_eq (length x.deps) m.size) again own (is_ready m.have x) o x (outlined m))
    (misfit_with x (map outline_of m.waiting) m)
    ∙ at (nat_eq (length x.deps) m.size) again own (is_ready m.have x) (misfit x m) e
  where
    at : (sized again own ready : Bool) (why : Option Why) → (offered_to sized again own ready why x m).reply ≡ New
        → offered_to sized again own ready why x (outlined m)
        ≡ outlined_step (offered_to sized again own ready why x m)
    at false again own ready why k = absurd cc
    at true true own ready why k = absurd cc
    at true false true ready why k = absurd cc
    at true false false false why k = absurd cc
    at true false false true (Some y) k = absurd cc
    at true false false true None k = ap (λ (n : Machine). stepped New n) (take_outlined x m)

-- one that waits or is known
pub known_outlined : (x : OpValue) (m : Machine) → is_new (step m (Take (AnOp x))).reply ≡ false
    → NotUnfit (step m (Take (AnOp x))).reply
    → step (outlined m) (Take (AnOp (outline_of x))) ≡ outlined_step (step m (Take (AnOp x)))
known_outlined x m e f =
    let again : Bool = is_had m.have x || waits x.dot m.waiting in
    let own : Bool = nat_eq x.dot.site m.site || nat_lt (made m) (vector_get x.deps m.site) in
    ap
    (λ (b : Bool).
    offered_to (nat_eq (length x.deps) m.size) (is_had m.have x || b) own (is_ready m.have x) None (outline_of x)
    (outlined m)) (waits_outlines x.dot m.waiting)
    ∙ at (nat_eq (length x.deps) m.size) again own (is_ready m.have x) (misfit x m) e f
  where
    at : (sized again own ready : Bool) (why : Option Why)
        → is_new (offered_to sized again own ready why x m).reply ≡ false
        → NotUnfit (offered_to sized again own ready why x m).reply
        → offered_to sized again own ready None (outline_of x) (outlined m)
        ≡ outlined_step (offered_to sized again own ready why x m)
    at false again own ready why k fit = absurd fit
    at true true own ready why k fit = refl
    at true false true ready why k fit = absurd fit
    at true false false false why k fit =
        ap (λ (l : List OpValue). stepped Later (with l m)) (put_outlines x m.waiting)
    at true false false true (Some y) k fit = absurd fit
    at true false false true None k fit = absurd (true≢false k)

-- ---- operations that waited

pub record IsResumed (m : Machine) (d : DotValue) : Type 0 where
  pub op : OpValue
  pub dot : op.dot ≡ d
  pub least : next_ready m.have m.waiting ≡ Some op
  pub fits : misfit op m ≡ None
  pub is : step m Next ≡ stepped (Taken op.dot) (take op (forget op m))

pub resumed_here : (m : Machine) (d : DotValue) → (step m Next).reply ≡ Taken d → IsResumed m d
resumed_here m d e = of (next_ready m.have m.waiting) refl e
  where
    same : (c : DotValue) → Taken c ≡ Taken d → c ≡ d
    same c k = cc

    of : (o : Option OpValue) → next_ready m.have m.waiting ≡ o → (next_of o m).reply ≡ Taken d → IsResumed m d
    of None k f = absurd cc
    of (Some x) k f = fitted (misfit x m) refl f
      where
        fitted : (why : Option Why) → misfit x m ≡ why → (waited why x (forget x m)).reply ≡ Taken d → IsResumed m d
        fitted (Some y) g h = absurd cc
        fitted None g h =
            record {
              op = x;
              dot = same x.dot h;
              least = k;
              fits = g;
              is =
                  ap (λ (o : Option OpValue). next_of o m) k
                  ∙ ap (λ (why : Option Why). waited why x (forget x m)) g;
            }

pub resumed_outlined : (m : Machine) (d : DotValue) → (r : IsResumed m d)
    → take_waiting r.op (outlined m) ≡ outlined_step (step m Next)
resumed_outlined m d r =
    let x : OpValue = r.op in
    ap (λ (o : Option OpValue). take_waiting_as o x (outlined m))
    (next_outlines m.have m.waiting ∙ ap (λ (o : Option OpValue). option_map outline_of o) r.least)
    ∙ ap (λ (b : Bool). if b then waited (misfit x (outlined m)) x (forget x (outlined m)) else stepped (Taken x.dot)
    (outlined m))
    (same_dot_refl x.dot)
    ∙ ap (λ (why : Option Why). waited why x (forget x (outlined m)))
    (misfit_with x (map outline_of m.waiting) m ∙ r.fits)
    ∙ ap (λ (l : List OpValue). stepped (Taken x.dot) (take x (with l m))) (without_outlines x.dot m.waiting)
    ∙ ap (λ (n : Machine). stepped (Taken x.dot) n) (take_outlined x (forget x m))
    ∙ ap outlined_step (sym r.is)

pub idle_outlined : (m : Machine) → (step m Next).reply ≡ Idle → step (outlined m) Next ≡ outlined_step (step m Next)
idle_outlined m e =
    ap (λ (o : Option OpValue). next_of o (outlined m)) (next_outlines m.have m.waiting)
    ∙ of (next_ready m.have m.waiting) e
  where
    of : (o : Option OpValue) → (next_of o m).reply ≡ Idle
        → next_of (option_map outline_of o) (outlined m) ≡ outlined_step (next_of o m)
    of None k = refl
    of (Some x) k = fitted (misfit x m) k
      where
        fitted : (why : Option Why) → (waited why x (forget x m)).reply ≡ Idle
            → next_of (Some (outline_of x)) (outlined m) ≡ outlined_step (waited why x (forget x m))
        fitted (Some y) h = absurd cc
        fitted None h = absurd cc
