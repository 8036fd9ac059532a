-- The calls of a world of kept replicas, by what a seat did.
use Rattle.std.proofs.Common.{◌≡◌, ◌<◌, ◌≤◌, ◌-◌, ℕ, List, [], ◌∷◌, Bool, true, false}
use Rattle.std.proofs.Common.{if◌then◌else◌, length, set, get_or, refl, sym, ap, ◌∙◌, subst, arith}
use Rattle.std.proofs.Common.{Some, Result, Err, ◌↔◌}
use Rattle.std.proofs.lemmas.Bool.{false≢true}
use Rattle.std.proofs.lemmas.List.{length-map}
use Rattle.td_base.specs.Lists.{kth}
use Rattle.td_op.specs.Message.{is_for}
use Rattle.td_journal.specs.declared.fault.KeptFault.{KeptFault}
use Rattle.td_journal.specs.declared.fault.KeptFault.TheVariants.{Closed, Disk, Full, Memory}
use Rattle.td_replica.specs.declared.given.Given.{Given}
use Rattle.td_replica.specs.declared.given.Given.TheVariants.{Took}
use Rattle.td_world.specs.Calls.{numbered_given, numbered_moves}
use Rattle.td_op.specs.Input.{IsInput}
use Rattle.td_op.specs.declared.input.Input.{Input}
use Rattle.td_op.specs.declared.input.Input.TheVariants.{Local, Take}
use Rattle.td_op.specs.declared.message.Message.{Message}
use Rattle.td_op.specs.declared.reply.Reply.{Reply}
use Rattle.td_op.specs.declared.request.Request.{Request}
use Rattle.td_machine.specs.Step.{step}
use Rattle.td_replica.specs.Replica.{ReplicaValue}
use Rattle.td_world.specs.World.{Move, IsWorld, moved, moved_all, replica, replica_from, reply_to, size}
use Rattle.td_kept.specs.KeptWorld.{KeptWorldValue, all_fit, crashed, fits, fitting, has_room, is_done, journal_len}
use Rattle.td_kept.specs.KeptWorld.{kept_world}
use Rattle.td_kept.specs.Sites.{all_inputs_fit, crash_inputs, fitting_inputs, given_inputs}
use Rattle.td_kept.specs.Seats.{SeatValue, IsAfter, IsKeptWorld, world_value}
use Rattle.td_kept.proofs.Moving.{at_site, move_at, world_stepped}
use Rattle.td_kept.proofs.Seating.{all_fit_is, cut_now, few, from_set, given_is, given_now, here, is_there}
use Rattle.td_kept.proofs.Seating.{kept_cut, kept_given, kept_now, kept_still, nothing_done, size_set, world_now}

crash_moves_are : (b : Bool) (site : ℕ) (input : Input)
    → (if b then move_at site input ∷ [] else []) ≡ at_site site (if b then input ∷ [] else [])
crash_moves_are true site input = refl
crash_moves_are false site input = refl

no_message : (request : Request) (message : Message) → Local request ≡ Take message → ⊥
no_message request message e = cc

module _ (seats : List SeatValue) (before : List Message) (spent : Bool) (site place : ℕ) (seat : SeatValue)
    (kept : IsKeptWorld seats before spent) (going : spent ≡ false) (at : place ≡ site - 1) (some : 1 ≤ site)
    (v : KeptWorldValue) (view : record { world = world_value seats before; spent = spent } ≡ v)
    (within : site ≤ size v.world) (got : seat ≡ get_or seats place seat) where
  inner : site ≤ size (world_value seats before)
  inner = subst (λ (x : KeptWorldValue). site ≤ size x.world) (sym view) within

  pub seat_there : seat.there ≡ true
  seat_there = is_there seats before spent site place seat kept going at some inner got

  pub found : replica (world_value seats before) site ≡ seat.replica
  found = here seats before spent site place seat kept going at some inner got

  pub within_seats : place < length seats
  within_seats = few seats before spent site place seat kept going at some inner got

  pub size_is : (new : SeatValue) (sent : List Message)
      → size (world_value (set seats place new) sent) ≡ size v.world
  size_is new sent =
      size_set seats place new before sent ∙ ap (λ (x : KeptWorldValue). size x.world) view

  pub kept_full : (new : SeatValue) (sent : List Message) (still : Bool) → new ≡ seat → sent ≡ before
      → IsKeptWorld (set seats place new) sent still
  kept_full = kept_still seats before spent site place seat kept going at some inner got

  pub reply_is : (input : Input) (reply : Reply) → reply ≡ (step seat.replica.machine input).reply
      → reply ≡ reply_to (move_at site input) v.world
  reply_is input reply e =
      e ∙ ap (λ (r : ReplicaValue). (step r.machine input).reply) (sym found)
      ∙ ap (λ (x : KeptWorldValue). reply_to (move_at site input) x.world) view

  room_is : (input : Input) (b : Bool) → fits input seat.replica ≡ b → has_room (move_at site input) v.world ≡ b
  room_is input b e =
      sym (ap (λ (x : KeptWorldValue). has_room (move_at site input) x.world) view) ∙ ap (fits input) found ∙ e

  pub step_is : (input : Input) (new : SeatValue) (sent : List Message) → fits input seat.replica ≡ true
      → IsAfter (input ∷ []) seat new before sent
      → (has_room (move_at site input) v.world ≡ true)
      × (record { world = world_value (set seats place new) sent; spent = spent }
      ≡ kept_world (moved (move_at site input) v.world))
  step_is input new sent fit a = (
    room_is input true fit,
    (λ i. record {
      world = world_now seats before spent site place seat kept going at some inner got (input ∷ []) new sent a i;
      spent = going i;
    }) ∙ ap (λ (x : KeptWorldValue). kept_world (moved (move_at site input) x.world)) view,
  )

  pub crash_is : (input : Input) (k choice : ℕ) (new : SeatValue) (sent : List Message)
      → fits input seat.replica ≡ true → IsAfter (crash_inputs input k choice) seat new before sent
      → (has_room (move_at site input) v.world ≡ true)
      × (record { world = world_value (set seats place new) sent; spent = spent }
      ≡ kept_world (crashed (move_at site input) k choice v.world))
  crash_is input k choice new sent fit a =
      let moves = crash_moves_are (is_done k choice) site input in (
        room_is input true fit,
        (λ i. record {
          world = (world_now seats before spent site place seat kept going at some inner got
              (crash_inputs input k choice) new sent a
              ∙ ap (λ (l : List Move). moved_all l (world_value seats before)) (sym moves)) i;
          spent = going i;
        }) ∙ ap (λ (x : KeptWorldValue). kept_world (crashed (move_at site input) k choice x.world)) view,
      )

  pub entries_is : (count : ℕ) (new : SeatValue) (sent : List Message) → count ≡ length new.replica.entries
      → count ≡ length (replica (world_value (set seats place new) sent) site).entries
  entries_is count new sent e =
      e ∙ ap (λ (r : ReplicaValue). length r.entries) (sym (
      ap (λ (k : ℕ). replica_from (world_value (set seats place new) sent).replicas k) (sym at)
      ∙ from_set seats place new within_seats))

  pub full_is : (input : Input) (len : ℕ) (new : SeatValue) (sent : List Message) → fits input seat.replica ≡ false
      → len ≡ journal_len seat.replica → new ≡ seat → sent ≡ before
      → (has_room (move_at site input) v.world ≡ false) × (len ≡ journal_len (replica v.world site))
      × (record { world = world_value (set seats place new) sent; spent = spent } ≡ v)
  full_is input len new sent full long same none = (
    room_is input false full,
    long ∙ ap journal_len (sym found) ∙ ap (λ (x : KeptWorldValue). journal_len (replica x.world site)) view,
    (λ i. record {
      world = nothing_done seats before spent site place seat kept going at some inner got new sent same none i;
      spent = spent;
    }) ∙ view,
  )

  pub kept_step : (request : Request) (new : SeatValue) (sent : List Message) (still : Bool)
      → IsInput (Local request) → IsAfter (Local request ∷ []) seat new before sent
      → IsKeptWorld (set seats place new) sent still
  kept_step request new sent still valid a =
      kept_now seats before spent site place seat kept going at some inner got (Local request ∷ []) new sent still a
      (world_stepped site (Local request) (world_value seats before) some inner (kept.world going) valid
      (λ message e. absurd (no_message request message e)))

  pub kept_crash : (request : Request) (k choice : ℕ) (new : SeatValue) (sent : List Message) (still : Bool)
      → IsInput (Local request) → IsAfter (crash_inputs (Local request) k choice) seat new before sent
      → IsKeptWorld (set seats place new) sent still
  kept_crash request k choice new sent still valid a =
      kept_now seats before spent site place seat kept going at some inner got
      (crash_inputs (Local request) k choice) new sent still a (either (is_done k choice))
    where
      either : (b : Bool) → IsWorld (moved_all (at_site site (if b then Local request ∷ [] else []))
          (world_value seats before))
      either true = world_stepped site (Local request) (world_value seats before) some inner (kept.world going) valid
          (λ message e. absurd (no_message request message e))
      either false = kept.world going

-- ---- a message that is given

module _ (seats : List SeatValue) (before : List Message) (spent : Bool) (site place : ℕ) (seat : SeatValue)
    (kept : IsKeptWorld seats before spent) (going : spent ≡ false) (at : place ≡ site - 1) (some : 1 ≤ site)
    (v : KeptWorldValue) (view : record { world = world_value seats before; spent = spent } ≡ v)
    (within : site ≤ size v.world) (got : seat ≡ get_or seats place seat) (number : ℕ) (message : Message)
    (named : kth number v.world.sent ≡ Some message) (for_it : is_for site message ≡ true)
    (valid : IsInput (Take message)) where
  inside : site ≤ size (world_value seats before)
  inside = subst (λ (x : KeptWorldValue). site ≤ size x.world) (sym view) within

  named_here : kth number before ≡ Some message
  named_here = ap (λ (x : KeptWorldValue). kth number x.world.sent) view ∙ named

  pub taken_is : (given : Given)
      → given ≡ Took (step seat.replica.machine (Take message)).reply
      (length (given_inputs message seat.replica) - 1)
      → given ≡ numbered_given site number v.world
  taken_is given e =
      e ∙ sym (given_is seats before spent site place seat kept going at some inside got number message named_here
      for_it valid) ∙ ap (λ (x : KeptWorldValue). numbered_given site number x.world) view

  fit_is : (b : Bool) → all_inputs_fit (given_inputs message seat.replica) seat.replica ≡ b
      → all_fit (numbered_moves site number v.world) v.world ≡ b
  fit_is b e =
      sym (ap (λ (x : KeptWorldValue). all_fit (numbered_moves site number x.world) x.world) view)
      ∙ all_fit_is seats before spent site place seat kept going at some inside got number message named_here for_it
      valid ∙ e

  pub give_is : (new : SeatValue) (sent : List Message)
      → all_inputs_fit (given_inputs message seat.replica) seat.replica ≡ true
      → IsAfter (given_inputs message seat.replica) seat new before sent
      → (all_fit (numbered_moves site number v.world) v.world ≡ true)
      × (record { world = world_value (set seats place new) sent; spent = spent }
      ≡ kept_world (moved_all (numbered_moves site number v.world) v.world))
  give_is new sent fit a = (
    fit_is true fit,
    (λ i. record {
      world = given_now seats before spent site place seat kept going at some inside got number message named_here
          for_it valid new sent a i;
      spent = going i;
    }) ∙ ap (λ (x : KeptWorldValue). kept_world (moved_all (numbered_moves site number x.world) x.world)) view,
  )

  pub cut_off_is : (len : ℕ) (new : SeatValue) (sent : List Message)
      → all_inputs_fit (given_inputs message seat.replica) seat.replica ≡ false → len ≡ journal_len new.replica
      → IsAfter (fitting_inputs (given_inputs message seat.replica) seat.replica) seat new before sent
      → (all_fit (numbered_moves site number v.world) v.world ≡ false)
      × (len ≡ journal_len (replica (world_value (set seats place new) sent) site))
      × (record { world = world_value (set seats place new) sent; spent = spent }
      ≡ kept_world (moved_all (fitting (numbered_moves site number v.world) v.world) v.world))
  cut_off_is len new sent full long a = (
    fit_is false full,
    long
        ∙ ap journal_len (sym (ap (λ (k : ℕ). replica_from (world_value (set seats place new) sent).replicas k) (sym at)
        ∙ from_set seats place new (few seats before spent site place seat kept going at some inside got))),
    (λ i. record {
      world = cut_now seats before spent site place seat kept going at some inside got number message named_here
          for_it valid new sent a i;
      spent = going i;
    }) ∙ ap (λ (x : KeptWorldValue). kept_world (moved_all (fitting (numbered_moves site number x.world) x.world)
        x.world)) view,
  )

  pub kept_give : (new : SeatValue) (sent : List Message) (still : Bool)
      → IsAfter (given_inputs message seat.replica) seat new before sent
      → IsKeptWorld (set seats place new) sent still
  kept_give =
      kept_given seats before spent site place seat kept going at some inside got number message named_here for_it valid

  pub kept_cut_off : (new : SeatValue) (sent : List Message) (still : Bool)
      → IsAfter (fitting_inputs (given_inputs message seat.replica) seat.replica) seat new before sent
      → IsKeptWorld (set seats place new) sent still
  kept_cut_off =
      kept_cut seats before spent site place seat kept going at some inside got number message named_here for_it valid

-- the place of a site, before anything of its seat is known
pub place_within : (seats : List SeatValue) (before : List Message) (spent : Bool) (site place : ℕ)
    (v : KeptWorldValue) → record { world = world_value seats before; spent = spent } ≡ v → place ≡ site - 1
    → 1 ≤ site → site ≤ size v.world → place < length seats
place_within seats before spent site place v view at some within =
    let long : size (world_value seats before) ≡ size v.world = ap (λ (x : KeptWorldValue). size x.world) view in
    omega (arith, at, some, within, long, length-map seats (λ (s : SeatValue). s.replica))

-- ---- want of memory

module _ {T : Type 0} (fault : KeptFault) (is : fault ≡ Memory) where
  pub no_full : (len : ℕ) → ◌≡◌ {A = Result T KeptFault} (Err fault) (Err (Full len)) → ⊥
  no_full len e = let same : fault ≡ Full len = cc in other (sym is ∙ same)
    where
      other : Memory ≡ Full len → ⊥
      other o = cc

  pub no_disk : ◌≡◌ {A = Result T KeptFault} (Err fault) (Err Disk) → ⊥
  no_disk e = let same : fault ≡ Disk = cc in other (sym is ∙ same)
    where
      other : Memory ≡ Disk → ⊥
      other o = cc

  not_closed : ◌≡◌ {A = Result T KeptFault} (Err fault) (Err Closed) → ⊥
  not_closed e = let same : fault ≡ Closed = cc in other (sym is ∙ same)
    where
      other : Memory ≡ Closed → ⊥
      other o = cc

  pub no_closed : (seats : List SeatValue) (sent : List Message) (spent : Bool) (v : KeptWorldValue)
      → record { world = world_value seats sent; spent = spent } ≡ v → spent ≡ false
      → ◌≡◌ {A = Result T KeptFault} (Err fault) (Err Closed) ↔ (v.spent ≡ true)
  no_closed seats sent spent v view going = (
    (λ e. absurd (not_closed e)),
    (λ e. absurd (false≢true (sym going ∙ ap (λ (x : KeptWorldValue). x.spent) view ∙ e))),
  )

-- a world that is not spent is one
pub world_still : (seats : List SeatValue) (sent : List Message) (spent : Bool) (v : KeptWorldValue)
    → IsKeptWorld seats sent spent → record { world = world_value seats sent; spent = spent } ≡ v → v.spent ≡ false
    → IsWorld v.world
world_still seats sent spent v kept view going =
    subst (λ (x : KeptWorldValue). IsWorld x.world) view
    (kept.world (ap (λ (x : KeptWorldValue). x.spent) view ∙ going))
