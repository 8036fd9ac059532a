-- A seat of a world of kept replicas, and the world after its site did something.
use Rattle.std.proofs.Common.{◌≡◌, ◌<◌, ◌≤◌, ◌-◌, ◌++◌, ℕ, zero, suc, List, [], ◌∷◌, Bool, true, false}
use Rattle.std.proofs.Common.{if◌then◌else◌, Option, Some, length, map, set, get_or, refl, sym, ap, ◌∙◌}
use Rattle.std.proofs.Common.{subst, arith}
use Rattle.std.specs.List.{AllByRecursion}
use Rattle.std.proofs.lemmas.List.{length-map, length-set}
use Rattle.td_base.specs.Lists.{In, kth}
use Rattle.td_op.specs.Input.{IsInput}
use Rattle.td_op.specs.Message.{is_for}
use Rattle.td_op.specs.declared.input.Input.{Input}
use Rattle.td_op.specs.declared.input.Input.TheVariants.{Take}
use Rattle.td_op.specs.declared.message.Message.{Message}
use Rattle.td_machine.specs.Step.{step}
use Rattle.td_replica.specs.Replica.{ReplicaValue}
use Rattle.td_replica.specs.declared.given.Given.TheVariants.{Stray, Took}
use Rattle.td_world.specs.World.{WorldValue, Move, IsWorld, size, replica, replica_from, moved, moved_all, reply_to}
use Rattle.td_world.specs.Calls.{take, took, give_moves, nexts_after, found_moves, found_given}
use Rattle.td_world.specs.Calls.{numbered_moves, numbered_given}
use Rattle.td_world.proofs.Kept.{kth_in}
use Rattle.td_kept.specs.KeptWorld.{all_fit, fitting}
use Rattle.td_kept.specs.Seats.{SeatValue, IsThere, IsAfter, IsKeptWorld, world_value}
use Rattle.td_kept.specs.Sites.{after_steps, all_inputs_fit, fitting_inputs, given_inputs, sent_since}
use Rattle.td_kept.proofs.Moving.{at_site, move_at, moves_at, give_at_site, fit_at_site, fitting_at_site}
use Rattle.td_kept.proofs.Moving.{world_given, world_cut_off}

-- ---- lists of seats

from_map : (seats : List SeatValue) (k : ℕ) (d : SeatValue) → k < length seats
    → replica_from (map (λ (s : SeatValue). s.replica) seats) k ≡ (get_or seats k d).replica
from_map [] k d few = absurd (omega (arith, few))
from_map (s ∷ seats) zero d few = refl
from_map (s ∷ seats) (suc k) d few = from_map seats k d (omega (arith, few))

map_set : (seats : List SeatValue) (k : ℕ) (s : SeatValue)
    → map (λ (t : SeatValue). t.replica) (set seats k s) ≡ set (map (λ (t : SeatValue). t.replica) seats) k s.replica
map_set [] k s = refl
map_set (t ∷ seats) zero s = refl
map_set (t ∷ seats) (suc k) s = ap (λ (l : List ReplicaValue). t.replica ∷ l) (map_set seats k s)

pub from_set : (seats : List SeatValue) (k : ℕ) (s : SeatValue) → k < length seats
    → replica_from (map (λ (t : SeatValue). t.replica) (set seats k s)) k ≡ s.replica
from_set [] k s few = absurd (omega (arith, few))
from_set (t ∷ seats) zero s few = refl
from_set (t ∷ seats) (suc k) s few = from_set seats k s (omega (arith, few))

there_get : (seats : List SeatValue) (k : ℕ) (d : SeatValue) → k < length seats → AllByRecursion IsThere seats
    → (get_or seats k d).there ≡ true
there_get [] k d few all = absurd (omega (arith, few))
there_get (s ∷ seats) zero d few all = all.0
there_get (s ∷ seats) (suc k) d few all = there_get seats k d (omega (arith, few)) all.1

there_set : (seats : List SeatValue) (k : ℕ) (s : SeatValue) → AllByRecursion IsThere seats → s.there ≡ true
    → AllByRecursion IsThere (set seats k s)
there_set [] k s all here = tt
there_set (t ∷ seats) zero s all here = (here, all.1)
there_set (t ∷ seats) (suc k) s all here = (all.0, there_set seats k s all.1 here)

pub there_more : (seats : List SeatValue) (s : SeatValue) → AllByRecursion IsThere seats → s.there ≡ true
    → AllByRecursion IsThere (seats ++ s ∷ [])
there_more [] s all here = (here, tt)
there_more (t ∷ seats) s all here = (all.0, there_more seats s all.1 here)

pub size_set : (seats : List SeatValue) (k : ℕ) (s : SeatValue) (before after : List Message)
    → size (world_value (set seats k s) after) ≡ size (world_value seats before)
size_set seats k s before after =
    length-map (set seats k s) (λ (t : SeatValue). t.replica) ∙ length-set seats k s
    ∙ sym (length-map seats (λ (t : SeatValue). t.replica))

set_back : (seats : List SeatValue) (k : ℕ) (s : SeatValue) → s ≡ get_or seats k s → set seats k s ≡ seats
set_back [] k s e = refl
set_back (t ∷ seats) zero s e = ap (λ (x : SeatValue). x ∷ seats) e
set_back (t ∷ seats) (suc k) s e = ap (λ (l : List SeatValue). t ∷ l) (set_back seats k s e)

-- ---- the seat of a site

module _ (seats : List SeatValue) (before : List Message) (spent : Bool) (site place : ℕ) (seat : SeatValue)
    (kept : IsKeptWorld seats before spent) (going : spent ≡ false) (at : place ≡ site - 1) (some : 1 ≤ site)
    (within : site ≤ size (world_value seats before)) (got : seat ≡ get_or seats place seat) where
  abbrev w : WorldValue
  w = world_value seats before

  pub few : place < length seats
  few = omega (arith, at, some, within, length-map seats (λ (s : SeatValue). s.replica))

  pub here : replica (world_value seats before) site ≡ seat.replica
  here =
      ap (λ (k : ℕ). replica_from (map (λ (s : SeatValue). s.replica) seats) k) (sym at)
      ∙ from_map seats place seat few ∙ ap (λ (s : SeatValue). s.replica) (sym got)

  pub is_there : seat.there ≡ true
  is_there = ap (λ (s : SeatValue). s.there) got ∙ there_get seats place seat few (kept.there going)

  -- it did some inputs
  pub world_now : (inputs : List Input) (new : SeatValue) (sent : List Message) → IsAfter inputs seat new before sent
      → world_value (set seats place new) sent ≡ moved_all (at_site site inputs) (world_value seats before)
  world_now inputs new sent a =
      let replicas : map (λ (s : SeatValue). s.replica) (set seats place new)
      ≡ set (map (λ (s : SeatValue). s.replica) seats) (site - 1) (after_steps inputs (replica w site)) =
      map_set seats place new
      ∙ (λ i. set (map (λ (s : SeatValue). s.replica) seats) (at i) (a.seat i).replica)
      ∙ ap (λ (r : ReplicaValue). set (map (λ (s : SeatValue). s.replica) seats) (site - 1) (after_steps inputs r))
      (sym here) in
      let sent_is : sent ≡ before ++ sent_since (replica w site) (after_steps inputs (replica w site)) =
      a.sent_is ∙ ap (λ (r : ReplicaValue). before ++ sent_since r (after_steps inputs r)) (sym here) in
      (λ i. record { replicas = replicas i; sent = sent_is i }) ∙ sym (moves_at site inputs w some within)

  -- it is a world, where these may be done
  pub kept_now : (inputs : List Input) (new : SeatValue) (sent : List Message) (still : Bool)
      → IsAfter inputs seat new before sent
      → IsWorld (moved_all (at_site site inputs) (world_value seats before))
      → IsKeptWorld (set seats place new) sent still
  kept_now inputs new sent still a world = record {
    world = λ open_. subst IsWorld (sym (world_now inputs new sent a)) world;
    there = λ open_. there_set seats place new (kept.there going) (ap (λ (s : SeatValue). s.there) a.seat);
  }

  pub nothing_done : (new : SeatValue) (sent : List Message) → new ≡ seat → sent ≡ before
      → world_value (set seats place new) sent ≡ world_value seats before
  nothing_done new sent same none =
      let back : set seats place new ≡ seats =
      ap (λ (s : SeatValue). set seats place s) same ∙ set_back seats place seat got in
      λ i. world_value (back i) (none i)

  pub kept_still : (new : SeatValue) (sent : List Message) (still : Bool) → new ≡ seat → sent ≡ before
      → IsKeptWorld (set seats place new) sent still
  kept_still new sent still same none =
      let back : set seats place new ≡ seats =
      ap (λ (s : SeatValue). set seats place s) same ∙ set_back seats place seat got in
      record {
        world = λ open_. subst IsWorld (sym (nothing_done new sent same none)) (kept.world going);
        there = λ open_. subst (λ (l : List SeatValue). AllByRecursion IsThere l) (sym back) (kept.there going);
      }

-- ---- a message that is given

module _ (seats : List SeatValue) (before : List Message) (spent : Bool) (site place : ℕ) (seat : SeatValue)
    (kept : IsKeptWorld seats before spent) (going : spent ≡ false) (at : place ≡ site - 1) (some : 1 ≤ site)
    (within : site ≤ size (world_value seats before)) (got : seat ≡ get_or seats place seat) (number : ℕ)
    (message : Message) (found : kth number before ≡ Some message) (for_it : is_for site message ≡ true)
    (valid : IsInput (Take message)) where
  abbrev w_2 : WorldValue
  w_2 = world_value seats before

  abbrev given : List Input
  given = given_inputs message seat.replica

  abbrev cut : List Input
  cut = fitting_inputs (given_inputs message seat.replica) seat.replica

  found_here : replica w_2 site ≡ seat.replica
  found_here = here seats before spent site place seat kept going at some within got

  moves_are : numbered_moves site number w_2 ≡ at_site site given
  moves_are =
      ap (λ (o : Option Message). found_moves site o w_2) found
      ∙ ap (λ (b : Bool). if b then give_moves site message w_2 else []) for_it
      ∙ give_at_site site message w_2 some within
      ∙ ap (λ (r : ReplicaValue). at_site site (given_inputs message r)) found_here

  pub given_is : numbered_given site number (world_value seats before)
      ≡ Took (step seat.replica.machine (Take message)).reply (length (given_inputs message seat.replica) - 1)
  given_is =
      let long : suc (length (nexts_after site (moved (take site message) w_2)))
      ≡ length (given_inputs message (replica w_2 site)) =
      ap length (give_at_site site message w_2 some within)
      ∙ length-map (given_inputs message (replica w_2 site)) (move_at site) in
      let count : length (nexts_after site (moved (take site message) w_2))
      ≡ length (given_inputs message (replica w_2 site)) - 1 = omega (arith, long) in
      ap (λ (o : Option Message). found_given site o w_2) found
      ∙ ap (λ (b : Bool). if b then took site message w_2 else Stray) for_it
      ∙ ap (λ (n : ℕ). Took (reply_to (take site message) w_2) n) count
      ∙ ap (λ (r : ReplicaValue). Took (step r.machine (Take message)).reply (length (given_inputs message r) - 1))
      found_here

  pub all_fit_is : all_fit (numbered_moves site number (world_value seats before)) (world_value seats before)
      ≡ all_inputs_fit (given_inputs message seat.replica) seat.replica
  all_fit_is =
      ap (λ (l : List Move). all_fit l w_2) moves_are
      ∙ fit_at_site site given w_2 seat.replica some within found_here

  cut_is : fitting (numbered_moves site number w_2) w_2 ≡ at_site site cut
  cut_is =
      ap (λ (l : List Move). fitting l w_2) moves_are
      ∙ fitting_at_site site given w_2 seat.replica some within found_here

  pub given_now : (new : SeatValue) (sent : List Message)
      → IsAfter (given_inputs message seat.replica) seat new before sent
      → world_value (set seats place new) sent
      ≡ moved_all (numbered_moves site number (world_value seats before)) (world_value seats before)
  given_now new sent a =
      world_now seats before spent site place seat kept going at some within got given new sent a
      ∙ ap (λ (l : List Move). moved_all l w_2) (sym moves_are)

  pub cut_now : (new : SeatValue) (sent : List Message)
      → IsAfter (fitting_inputs (given_inputs message seat.replica) seat.replica) seat new before sent
      → world_value (set seats place new) sent
      ≡ moved_all (fitting (numbered_moves site number (world_value seats before)) (world_value seats before))
      (world_value seats before)
  cut_now new sent a =
      world_now seats before spent site place seat kept going at some within got cut new sent a
      ∙ ap (λ (l : List Move). moved_all l w_2) (sym cut_is)

  inside : In message before
  inside = kth_in number before message found

  pub kept_given : (new : SeatValue) (sent : List Message) (still : Bool)
      → IsAfter (given_inputs message seat.replica) seat new before sent
      → IsKeptWorld (set seats place new) sent still
  kept_given new sent still a =
      kept_now seats before spent site place seat kept going at some within got given new sent still a
      (subst (λ (r : ReplicaValue). IsWorld (moved_all (at_site site (given_inputs message r)) w_2)) found_here
      (world_given site message w_2 some within (kept.world going) valid inside for_it))

  pub kept_cut : (new : SeatValue) (sent : List Message) (still : Bool)
      → IsAfter (fitting_inputs (given_inputs message seat.replica) seat.replica) seat new before sent
      → IsKeptWorld (set seats place new) sent still
  kept_cut new sent still a =
      kept_now seats before spent site place seat kept going at some within got cut new sent still a
      (subst (λ (r : ReplicaValue). IsWorld (moved_all (at_site site (fitting_inputs (given_inputs message r) r)) w_2))
      found_here (world_cut_off site message w_2 some within (kept.world going) valid inside for_it))

-- nothing is told of a world that is spent
pub kept_spent : (seats : List SeatValue) (sent : List Message) (spent : Bool) → spent ≡ true
    → IsKeptWorld seats sent spent
kept_spent seats sent spent is = record {
  world = λ open_. absurd (apart (sym is ∙ open_));
  there = λ open_. absurd (apart (sym is ∙ open_));
}
  where
    apart : true ≡ false → ⊥
    apart e = cc
