-- What is judged first, and done then, is the machine's step.
use Rattle.std.proofs.Common.{◌≡◌, ◌≤◌, ◌+◌, ◌-◌, ◌||◌, ℕ, List, [], ◌∷◌, Bool, true, false, not, length, nat_eq}
use Rattle.std.proofs.Common.{nat_lt, if◌then◌else◌, Option, Some, None, refl, sym, ap, ◌∙◌, subst, arith}
use Rattle.std.proofs.lemmas.Bool.{ltb-false}
use Rattle.std.proofs.lemmas.Option.{same_Some}
use Rattle.std.specs.Prelude.{Result, Ok, Err, IfOk, IfSome, find}
use Rattle.td_base.specs.declared.memory.Memory.{Memory}
use Rattle.td_base.specs.Value.{DotValue, AtomIdValue}
use Rattle.td_base.specs.declared.dot.TheConstants.{MAX_SEQ}
use Rattle.td_clock.specs.Vector.{vector_get}
use Rattle.td_path.specs.declared.slot.Slot.{Slot}
use Rattle.td_path.specs.declared.slot.Slot.TheVariants.{Root, At}
use Rattle.td_op.specs.declared.body.Body.{Body}
use Rattle.td_op.specs.declared.body.Body.TheVariants.{Insert, Delete, Propose as ProposeIn, Commit, Abort}
use Rattle.td_doc.specs.Allocation.{anchor}
use Rattle.td_doc.specs.Answers.{is_live_id, is_rooted}
use Rattle.td_doc.specs.Document.{live_id_at}
use Rattle.td_op.specs.declared.input.Input.TheVariants.{Local}
use Rattle.td_op.specs.declared.request.Request.{Request}
use Rattle.td_op.specs.declared.request.Request.TheVariants.{Insert as AskInsert, InsertAfter, Paste, PasteAfter}
use Rattle.td_op.specs.declared.request.Request.TheVariants.{Delete as AskDelete, DeleteAtom, Propose as AskPropose}
use Rattle.td_op.specs.declared.request.Request.TheVariants.{ProposeAt, Cancel as AskCancel}
use Rattle.td_op.specs.declared.reply.Reply.{Reply}
use Rattle.td_op.specs.declared.reply.Reply.TheVariants.{Made, Held, Position, Gone, Limit, NotOpen}
use Rattle.td_op.specs.declared.reply.Reply.TheVariants.{New, Later, Repeat, Unfit}
use Rattle.td_op.specs.declared.reply.Why.{Why}
use Rattle.td_op.specs.declared.reply.Why.TheVariants.{Size, Own}
use Rattle.td_op.specs.Input.{IsRequest}
use Rattle.td_op.specs.Op.{OpValue}
use Rattle.td_machine.specs.Decision.{Ballot, is_on, is_open}
use Rattle.td_machine.specs.Machine.{Machine, made, undecided, next_dot}
use Rattle.td_machine.specs.Making.{make}
use Rattle.td_machine.specs.Ready.{is_had, is_ready, waits}
use Rattle.td_machine.specs.Request.{Aim, Refuse as RefuseAim, Do, GiveUp, Attempt, aim, aim_step, attempt_step}
use Rattle.td_machine.specs.Request.{insert_aim, insert_aim_at, insert_aim_after, is_past_limit, len, perform}
use Rattle.td_machine.specs.Request.{request_step, live_aim, delete_aim, propose_aim, cancel_aim}
use Rattle.td_machine.specs.Taking.{Stepped, stepped, misfit, take, keep_waiting, fit_step, op_step}
use Rattle.td_machine.proofs.Aims.{FitsAim, aimed}
use Rattle.td_machine.specs.Parts.{Anything, RoomFor, IsBuilt, MayMake, IsProposing}
use Rattle.td_machine.proofs.Room.{room}
use Rattle.td_machine.proofs.Turns.{placed}
use Rattle.td_history.specs.Past.{IsDoneAs}
use Rattle.td_history.specs.Texts.{run_at, run_asked}
use Rattle.td_replica.specs.declared.done.Done.{Done}
use Rattle.td_replica.specs.declared.requests.Verdict.{Verdict}
use Rattle.td_replica.specs.declared.requests.Verdict.TheVariants.{Answer, Put, Delete as DeleteRow, Propose, Cancel}
use Rattle.td_replica.specs.declared.operations.Judged.{Judged}
use Rattle.td_replica.specs.declared.operations.Judged.TheVariants.{Refuse, Delay, Take}
use Rattle.td_replica.specs.Verdict.{standing, allowed, unless, verdict_on, verdict}
use Rattle.td_replica.specs.Judging.{fitting, judged}

-- ---- requests

-- an attempt that nothing stands against
pub record IsAllowed (request : Request) (m : Machine) (v : Verdict) : Type 0 where
  pub attempt : Attempt
  pub aims : aim request m ≡ Do attempt
  pub free : attempt.held ≡ None
  pub room : is_past_limit attempt.room m ≡ false
  pub is : allowed attempt.body ≡ v

abbrev Allows : Verdict → Type 0
Allows (Answer reply) = ⊥
Allows (Put slot) = Unit {0}
Allows (DeleteRow x) = Unit {0}
Allows (Propose slot) = Unit {0}
Allows (Cancel p) = ⊥

-- the body is one that a request with this text aims at
abbrev Fits : Option (List (List ℕ)) → Body → Type 0
Fits text (Insert slot run) = text ≡ Some run
Fits text (Delete x) = text ≡ None
Fits text (ProposeIn slot) = Unit {0}
Fits text (Commit p) = ⊥
Fits text (Abort p) = ⊥

abbrev FitsIn : Option (List (List ℕ)) → Aim → Type 0
FitsIn text (RefuseAim reply) = Unit {0}
FitsIn text (Do a) = Fits text a.body
FitsIn text (GiveUp p) = Unit {0}

module _ (m : Machine) where
  fits_at : (run : List (List ℕ)) (index : ℕ) → FitsIn (Some run) (insert_aim_at run index m)
  fits_at run index = at (nat_lt (len m) index)
    where
      at : (b : Bool)
          → FitsIn (Some run) (if b then RefuseAim (Position (len m)) else insert_aim run (anchor m.doc index) m)
      at true = tt
      at false = refl

  fits_after : (run : List (List ℕ)) (after : Option AtomIdValue) → FitsIn (Some run) (insert_aim_after run after m)
  fits_after run None = refl
  fits_after run (Some x) = at (is_live_id m.doc x)
    where
      at : (b : Bool) → FitsIn (Some run) (if b then insert_aim run (Some x) m else RefuseAim (Gone x))
      at true = refl
      at false = tt

  fits : (request : Request) → FitsIn (run_asked request) (aim request m)
  fits (AskInsert index atom) = fits_at (atom ∷ []) index
  fits (InsertAfter after atom) = fits_after (atom ∷ []) after
  fits (Paste index run) = fits_at run index
  fits (PasteAfter after run) = fits_after run after
  fits (AskDelete index) = at (live_id_at m.doc index)
    where
      at : (o : Option AtomIdValue) → FitsIn None (live_aim delete_aim o m)
      at None = tt
      at (Some x) = refl
  fits (DeleteAtom x) = at (is_live_id m.doc x)
    where
      at : (b : Bool) → FitsIn None (if b then delete_aim x m else RefuseAim (Gone x))
      at true = refl
      at false = tt
  fits (AskPropose Root) = tt
  fits (AskPropose (At x bit)) = at (is_rooted m.doc (At x bit))
    where
      at : (b : Bool) → FitsIn None (if b then propose_aim (At x bit) m else RefuseAim (Gone x))
      at true = tt
      at false = tt
  fits (ProposeAt index bit) = at (live_id_at m.doc index)
    where
      at : (o : Option AtomIdValue) → FitsIn None (live_aim (λ (x : AtomIdValue). propose_aim (At x bit)) o m)
      at None = tt
      at (Some x) = tt
  fits (AskCancel p) = at (find (is_on p) m.ballots)
    where
      at : (o : Option Ballot) → FitsIn None (cancel_aim p o)
      at None = tt
      at (Some b) = answered (is_open b)
        where
          answered : (t : Bool) → FitsIn None (if t then GiveUp p else RefuseAim (NotOpen p))
          answered true = tt
          answered false = tt

-- a run behind a live atom, and at an index that is neither the start nor past the end
pub after_live : (run : List (List ℕ)) (x : AtomIdValue) (m : Machine) → is_live_id m.doc x ≡ true
    → verdict_on (insert_aim_after run (Some x) m) m ≡ verdict_on (insert_aim run (Some x) m) m
after_live run x m e = ap (λ (b : Bool). verdict_on (if b then insert_aim run (Some x) m else RefuseAim (Gone x)) m) e

pub aim_within : (run : List (List ℕ)) (index : ℕ) (m : Machine) → nat_lt (len m) index ≡ false
    → nat_eq index 0 ≡ false
    → verdict_on (insert_aim_at run index m) m ≡ verdict_on (insert_aim run (live_id_at m.doc (index - 1)) m) m
aim_within run index m within some =
    ap (λ (b : Bool).
    verdict_on (if b then RefuseAim (Position (len m)) else insert_aim run (anchor m.doc index) m) m) within
    ∙ ap (λ (b : Bool). verdict_on (insert_aim run (if b then None else live_id_at m.doc (index - 1)) m) m) some

-- the run of the request is put in the slot
pub record IsPut (request : Request) (m : Machine) (slot : Slot) : Type 0 where
  pub run : List (List ℕ)
  pub text : run_asked request ≡ Some run
  pub may : IsRequest request → MayMake (Insert slot run) m
  pub step : request_step request m ≡ stepped (Made (next_dot m)) (make (Insert slot run) m)

-- the row is deleted
pub record IsDelete (request : Request) (m : Machine) (x : AtomIdValue) : Type 0 where
  pub text : run_asked request ≡ None
  pub may : IsRequest request → MayMake (Delete x) m
  pub step : request_step request m ≡ stepped (Made (next_dot m)) (make (Delete x) m)

module _ (request : Request) (m : Machine) where
  allowed_of : (v : Verdict) → Allows v → verdict request m ≡ v → IsAllowed request m v
  allowed_of v w e = at (aim request m) refl e
    where
      at : (a : Aim) → aim request m ≡ a → verdict_on a m ≡ v → IsAllowed request m v
      at (RefuseAim reply) f k = absurd (subst Allows (sym k) w)
      at (GiveUp p) f k = absurd (subst Allows (sym k) w)
      at (Do a) f k = held a.held refl k
        where
          held : (h : Option DotValue) → a.held ≡ h → unless (standing h a.room m) a.body ≡ v → IsAllowed request m v
          held (Some by_) i l = absurd (subst Allows (sym l) w)
          held None i l = full (is_past_limit a.room m) refl l
            where
              full : (t : Bool) → is_past_limit a.room m ≡ t
                  → unless (if t then Some (Limit (made m) (undecided m)) else None) a.body ≡ v
                  → IsAllowed request m v
              full true j n = absurd (subst Allows (sym n) w)
              full false j n = record { attempt = a; aims = f; free = i; room = j; is = n }

  allowed_step : (v : Verdict) (k : IsAllowed request m v)
      → request_step request m ≡ stepped (Made (next_dot m)) (perform k.attempt.body m)
  allowed_step v k =
      ap (λ (a : Aim). aim_step a m) k.aims
      ∙ ap (λ (h : Option DotValue). attempt_step h k.attempt m) k.free
      ∙ ap (λ (t : Bool). if t then stepped (Limit (made m) (undecided m)) m
      else stepped (Made (next_dot m)) (perform k.attempt.body m)) k.room

  fits_of : {v : Verdict} (k : IsAllowed request m v) → Fits (run_asked request) k.attempt.body
  fits_of k = subst (FitsIn (run_asked request)) k.aims (fits m request)

  body_proposed : (body : Body) (slot : Slot) → allowed body ≡ Propose slot → body ≡ ProposeIn slot
  body_proposed (Insert s run) slot e = absurd cc
  body_proposed (Delete x) slot e = absurd cc
  body_proposed (ProposeIn s) slot e = cc
  body_proposed (Commit p) slot e = absurd cc
  body_proposed (Abort p) slot e = absurd cc

  allowed_may : IsRequest request → (v : Verdict) (k : IsAllowed request m v) → MayMake k.attempt.body m
  allowed_may valid v k =
      let fits : FitsAim m (Do k.attempt) = subst (FitsAim m) k.aims (aimed request m valid) in
      fits k.free (ltb-false MAX_SEQ (made m + undecided m + k.attempt.room) k.room)

  pub put_of : (slot : Slot) → verdict request m ≡ Put slot → IsPut request m slot
  put_of slot e = at k.attempt.body refl k.is
    where
      k : IsAllowed request m (Put slot)
      k = allowed_of (Put slot) tt e

      at : (body : Body) → k.attempt.body ≡ body → allowed body ≡ Put slot → IsPut request m slot
      at (Insert s run) f g =
          let is : k.attempt.body ≡ Insert slot run = f ∙ ap (λ (t : Slot). Insert t run) (same g) in
          record {
            run = run;
            text = subst (Fits (run_asked request)) is (fits_of k);
            may = λ valid. subst (λ (c : Body). MayMake c m) is (allowed_may valid (Put slot) k);
            step = allowed_step (Put slot) k ∙ ap (λ (c : Body). stepped (Made (next_dot m)) (perform c m)) is;
          }
        where
          same : Put s ≡ Put slot → s ≡ slot
          same h = cc
      at (Delete x) f g = absurd cc
      at (ProposeIn s) f g = absurd cc
      at (Commit p) f g = absurd cc
      at (Abort p) f g = absurd cc

  pub delete_of : (x : AtomIdValue) → verdict request m ≡ DeleteRow x → IsDelete request m x
  delete_of x e = at k.attempt.body refl k.is
    where
      k : IsAllowed request m (DeleteRow x)
      k = allowed_of (DeleteRow x) tt e

      at : (body : Body) → k.attempt.body ≡ body → allowed body ≡ DeleteRow x → IsDelete request m x
      at (Delete y) f g =
          let is : k.attempt.body ≡ Delete x = f ∙ ap (λ (z : AtomIdValue). Delete z) (same g) in
          record {
            text = subst (Fits (run_asked request)) is (fits_of k);
            may = λ valid. subst (λ (c : Body). MayMake c m) is (allowed_may valid (DeleteRow x) k);
            step = allowed_step (DeleteRow x) k ∙ ap (λ (c : Body). stepped (Made (next_dot m)) (perform c m)) is;
          }
        where
          same : DeleteRow y ≡ DeleteRow x → y ≡ x
          same h = cc
      at (Insert s run) f g = absurd cc
      at (ProposeIn s) f g = absurd cc
      at (Commit p) f g = absurd cc
      at (Abort p) f g = absurd cc

  pub propose_may : IsRequest request → (slot : Slot) → verdict request m ≡ Propose slot → IsProposing slot m
  propose_may valid slot e =
      let k = allowed_of (Propose slot) tt e in
      subst (λ (c : Body). MayMake c m) (body_proposed k.attempt.body slot k.is) (allowed_may valid (Propose slot) k)

  pub answer_step : (reply : Reply) → verdict request m ≡ Answer reply → request_step request m ≡ stepped reply m
  answer_step reply e = at (aim request m) refl e
    where
      at : (a : Aim) → aim request m ≡ a → verdict_on a m ≡ Answer reply → request_step request m ≡ stepped reply m
      at (RefuseAim r) f k = ap (λ (a : Aim). aim_step a m) f ∙ ap (λ (z : Reply). stepped z m) (same k)
        where
          same : Answer r ≡ Answer reply → r ≡ reply
          same l = cc
      at (GiveUp p) f k = absurd cc
      at (Do a) f k = ap (λ (c : Aim). aim_step c m) f ∙ held a.held k
        where
          same : (r : Reply) → Answer r ≡ Answer reply → r ≡ reply
          same r l = cc

          none : (body : Body) → allowed body ≡ Answer reply → ⊥
          none (Insert slot run) l = cc
          none (Delete x) l = cc
          none (ProposeIn slot) l = cc
          none (Commit p) l = cc
          none (Abort p) l = cc

          held : (h : Option DotValue) → unless (standing h a.room m) a.body ≡ Answer reply
              → attempt_step h a m ≡ stepped reply m
          held (Some by_) l = ap (λ (z : Reply). stepped z m) (same (Held by_) l)
          held None l = full (is_past_limit a.room m) l
            where
              full : (t : Bool)
                  → unless (if t then Some (Limit (made m) (undecided m)) else None) a.body ≡ Answer reply
                  → (if t then stepped (Limit (made m) (undecided m)) m
                  else stepped (Made (next_dot m)) (perform a.body m)) ≡ stepped reply m
              full true n = ap (λ (z : Reply). stepped z m) (same (Limit (made m) (undecided m)) n)
              full false n = absurd (none a.body n)

-- ---- the text of what is made

-- what a request asks to put is put
pub run_is : {request : Request} {m : Machine} {slot : Slot} (k : IsPut request m slot) (run : List (List ℕ))
    → run_asked request ≡ Some run → run ≡ k.run
run_is k run asked = same_Some run k.run (sym asked ∙ k.text)

-- an insert has the text of its request
put_as : {request : Request} {m : Machine} {slot : Slot} (k : IsPut request m slot) (ops : List OpValue)
    (number : Option ℕ) → IfSome number (λ n. run_at ops n ≡ Some k.run)
    → IfSome number (IsDoneAs ops (Local request))
put_as k ops None h = tt
put_as k ops (Some n) h =
    subst (λ (text : Option (List (List ℕ))). IfSome text (λ t. run_at ops n ≡ Some t)) (sym k.text) h

pub put_done : {request : Request} {m : Machine} {slot : Slot} (k : IsPut request m slot) (run : List (List ℕ))
    → run ≡ k.run → (ops : List OpValue) (r : Result Done Memory)
    → IfOk r (λ done. IfSome done.number (λ n. run_at ops n ≡ Some run))
    → IfOk r (λ done. IfSome done.number (IsDoneAs ops (Local request)))
put_done k run is ops (Err e) h = tt
put_done k run is ops (Ok done) h =
    put_as k ops done.number
    (subst (λ (text : List (List ℕ)). IfSome done.number (λ n. run_at ops n ≡ Some text)) is h)

-- a delete puts none
deleted_as : {request : Request} {m : Machine} {x : AtomIdValue} (k : IsDelete request m x) (ops : List OpValue)
    (number : Option ℕ) → IfSome number (IsDoneAs ops (Local request))
deleted_as k ops None = tt
deleted_as k ops (Some n) =
    subst (λ (text : Option (List (List ℕ))). IfSome text (λ t. run_at ops n ≡ Some t)) (sym k.text) tt

pub delete_done : {request : Request} {m : Machine} {x : AtomIdValue} (k : IsDelete request m x) (ops : List OpValue)
    (r : Result Done Memory) → IfOk r (λ done. IfSome done.number (IsDoneAs ops (Local request)))
delete_done k ops (Err e) = tt
delete_done k ops (Ok done) = deleted_as k ops done.number

-- ---- what a machine that is built keeps

module _ (m : Machine) (b : IsBuilt Anything m.site m.size m) where
  pub has_room : made m + undecided m ≤ MAX_SEQ
  has_room = let h : RoomFor 0 m = room m b in omega (arith, h)

  pub site_within : m.site ≤ m.size
  site_within = (placed m b).1

-- ---- operations of other sites

abbrev acted : Judged → OpValue → Machine → Stepped
acted (Refuse reply) x m = stepped reply m
acted Delay x m = stepped Later (keep_waiting x m)
acted Take x m = stepped New (take x m)

pub judged_step : (x : OpValue) (m : Machine) → op_step x m ≡ acted (judged x m) x m
judged_step x m =
    at (not (nat_eq (length x.deps) m.size)) (is_had m.have x || waits x.dot m.waiting)
    (nat_eq x.dot.site m.site || nat_lt (made m) (vector_get x.deps m.site)) (not (is_ready m.have x)) (misfit x m)
  where
    at : (a b c d : Bool) (w : Option Why)
        → (if a then stepped (Unfit Size) m
        else (if b then stepped Repeat m
        else (if c then stepped (Unfit Own) m
        else (if d then stepped Later (keep_waiting x m) else fit_step w x m))))
        ≡ acted (if a then Refuse (Unfit Size)
        else (if b then Refuse Repeat
        else (if c then Refuse (Unfit Own) else (if d then Delay else fitting w)))) x m
    at true b c d w = refl
    at false true c d w = refl
    at false false true d w = refl
    at false false false true w = refl
    at false false false false None = refl
    at false false false false (Some why) = refl

pub refuse_step : (x : OpValue) (m : Machine) (reply : Reply) → judged x m ≡ Refuse reply
    → op_step x m ≡ stepped reply m
refuse_step x m reply e = judged_step x m ∙ ap (λ (j : Judged). acted j x m) e

pub delay_step : (x : OpValue) (m : Machine) → judged x m ≡ Delay → op_step x m ≡ stepped Later (keep_waiting x m)
delay_step x m e = judged_step x m ∙ ap (λ (j : Judged). acted j x m) e

pub take_step : (x : OpValue) (m : Machine) → judged x m ≡ Take → op_step x m ≡ stepped New (take x m)
take_step x m e = judged_step x m ∙ ap (λ (j : Judged). acted j x m) e
