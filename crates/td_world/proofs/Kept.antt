-- The parts of a world after a step.
use Rattle.std.proofs.Common.{◌≡◌, ◌<◌, ◌≤◌, ◌+◌, ◌-◌, ◌++◌, ℕ, zero, suc, List, [], ◌∷◌, Bool}
use Rattle.std.proofs.Common.{true, false, if◌then◌else◌, nat_eq, length, set, get_or, Option}
use Rattle.std.proofs.Common.{Some, None, refl, sym, ap, ◌∙◌, subst, arith}
use Rattle.std.proofs.lemmas.Bool.{eqb-true, eqb-false}
use Rattle.std.proofs.lemmas.List.{length-set, length-append, length-drop}
use Rattle.std.specs.List.{filter_map, slice_get}
use Rattle.std.proofs.lemmas.Option.{same_Some}
use Rattle.td_base.specs.Lists.{In, kth}
use Rattle.td_base.proofs.Elements.{get_front, In-slice_get}
use Rattle.td_op.specs.declared.input.Input.{Input}
use Rattle.td_op.specs.declared.input.Input.TheVariants.{Take}
use Rattle.td_op.specs.declared.message.Message.{Message}
use Rattle.td_op.specs.declared.reply.Reply.{Reply}
use Rattle.td_op.specs.Input.{IsInput}
use Rattle.td_history.specs.Standing.{StandFor}
use Rattle.td_history.proofs.Standing.{stand_filter_map, stand_length}
use Rattle.td_machine.specs.Machine.{Machine}
use Rattle.td_machine.specs.Step.{step}
use Rattle.td_machine.specs.History.{IsReached}
use Rattle.td_op.specs.Message.{sender, is_for}
use Rattle.td_replica.specs.Replica.{ReplicaValue, after_step, knows_message}
use Rattle.td_world.specs.declared.post.Post.{Post}
use Rattle.td_world.specs.declared.sites.Done.{Done}
use Rattle.td_world.specs.Sending.{IsDone}
use Rattle.td_world.specs.World.{WorldValue, Move, IsWorld, size, replica_from, machine_of}
use Rattle.td_world.specs.World.{family_of, reply_to, sent_by, moved, IsFit}
use Rattle.td_world.specs.Parts.{posted, world_value, new_posts, ArePassed, IsWorldParts, is_dropped, looked_again}
use Rattle.td_world.proofs.Moves.{low, moved_here, moved_there, world_moved}
use Rattle.td_world.proofs.Named.{reached_end, sending_end, site_is}
use Rattle.td_world.proofs.Posts.{stand_now, value_now}
use Rattle.td_world.proofs.Steps.{step_more, known_more}

-- ---- one place of a list

pub set_there : {X : Type 0} (xs : List X) (k j : ℕ) (x : X) → (k ≡ j → ⊥) → slice_get (set xs k x) j ≡ slice_get xs j
set_there [] k j x other = refl
set_there (y ∷ xs) zero zero x other = absurd (other refl)
set_there (y ∷ xs) zero (suc j) x other = refl
set_there (y ∷ xs) (suc k) zero x other = refl
set_there (y ∷ xs) (suc k) (suc j) x other = set_there xs k j x (λ e. other (ap suc e))

pub set_value : {X : Type 0} (xs : List X) (k : ℕ) (x y : X) → slice_get (set xs k x) k ≡ Some y → x ≡ y
set_value [] k x y e = absurd cc
set_value (z ∷ xs) zero x y e = cc
set_value (z ∷ xs) (suc k) x y e = set_value xs k x y e

-- ---- what was passed over stays passed over

abbrev move_of : ℕ → Input → Move
move_of site input = record { site = site; input = input }

pub reached_in : (w : WorldValue) → IsWorld w → (site : ℕ) → 0 < site → site ≤ size w → IsReached (machine_of w site)
reached_in w i site some within =
    subst IsReached (sym (i.machines site some within))
    (reached_end (family_of w) i.consistent site some (low w i site within))

-- where the machine of the site knows at least as much
passed_on : (w new : WorldValue) (more : List Message) (site count : ℕ) → new.sent ≡ w.sent ++ more
    → ((message : Message) → knows_message message (machine_of w site) ≡ true
    → knows_message message (machine_of new site) ≡ true)
    → ArePassed site w count → ArePassed site new count
passed_on w new more site count sent knows p =
    let few : count ≤ length w.sent = p.0 in
    let long : length new.sent ≡ length w.sent + length more =
    ap (λ (l : List Message). length l) sent ∙ length-append w.sent more in (
      omega (arith, few, long),
      λ k less message e to.
          knows message
          (p.1 k less message
          (sym (ap (λ (l : List Message). slice_get l k) sent ∙ get_front w.sent more k (omega (arith, less, few)))
          ∙ e) to),
    )

module _ (replicas : List ReplicaValue) (posts : List Post) (passed : List ℕ) (p : IsWorldParts replicas posts passed)
    (site : ℕ) (some : 0 < site) (within : site ≤ length replicas) (input : Input) (valid : IsInput input)
    (came : (message : Message) → input ≡ Take message
    → In message (filter_map (posted replicas) posts) × (is_for site message ≡ true)) where
  abbrev w : WorldValue
  w = world_value replicas posts

  abbrev now : List ReplicaValue
  now = set replicas (site - 1) (after_step input (replica_from replicas (site - 1)))

  abbrev more : List Message
  more = sent_by (move_of site input) (world_value replicas posts)

  abbrev added : List Post
  added = new_posts site (length more) (length (replica_from replicas (site - 1)).machine.sent)

  fit : IsFit (world_value replicas posts) (move_of site input)
  fit = record { some = some; within = within; valid = valid; came = came }

  value : world_value now (posts ++ added) ≡ moved (move_of site input) (world_value replicas posts)
  value = value_now replicas posts site some within input p.standing

  reply : Reply
  reply = reply_to (move_of site input) (world_value replicas posts)

  -- at the site itself
  known_here : is_dropped (reply_to (move_of site input) (world_value replicas posts)) ≡ false → (message : Message)
      → knows_message message (machine_of (world_value replicas posts) site) ≡ true
      → knows_message message (machine_of (moved (move_of site input) (world_value replicas posts)) site) ≡ true
  known_here kept message e =
      subst (λ (r : ReplicaValue). knows_message message r.machine ≡ true)
      (sym (moved_here (world_value replicas posts) (move_of site input) some within))
      (known_more message (machine_of (world_value replicas posts) site)
      (step (machine_of (world_value replicas posts) site) input).machine
      (step_more (machine_of (world_value replicas posts) site) input
      (reached_in (world_value replicas posts) p.world site some within) kept) e)

  known_now : (place count : ℕ)
      → slice_get (looked_again (reply_to (move_of site input) (world_value replicas posts)) (site - 1) passed) place
      ≡ Some count
      → ArePassed (place + 1) (moved (move_of site input) (world_value replicas posts)) count
  known_now place count = at (nat_eq (site - 1) place) refl
      (is_dropped (reply_to (move_of site input) (world_value replicas posts))) refl
    where
      on : slice_get passed place ≡ Some count
          → ((message : Message) → knows_message message (machine_of (world_value replicas posts) (place + 1)) ≡ true
          → knows_message message (machine_of (moved (move_of site input) (world_value replicas posts)) (place + 1))
          ≡ true)
          → ArePassed (place + 1) (moved (move_of site input) (world_value replicas posts)) count
      on e knows =
          passed_on (world_value replicas posts) (moved (move_of site input) (world_value replicas posts)) more
          (place + 1)
          count refl knows (p.known place count e)

      here : site - 1 ≡ place → site ≡ place + 1
      here e = omega (arith, e, some)

      elsewhere : (site - 1 ≡ place → ⊥) → (message : Message)
          → knows_message message (machine_of (world_value replicas posts) (place + 1)) ≡ true
          → knows_message message (machine_of (moved (move_of site input) (world_value replicas posts)) (place + 1))
          ≡ true
      elsewhere other message e =
          subst (λ (r : ReplicaValue). knows_message message r.machine ≡ true)
          (sym (moved_there (world_value replicas posts) (move_of site input) some (place + 1) (omega arith)
          (λ (f : place + 1 ≡ site). other (omega (arith, f))))) e

      at : (b : Bool) → nat_eq (site - 1) place ≡ b → (d : Bool)
          → is_dropped (reply_to (move_of site input) (world_value replicas posts)) ≡ d
          → slice_get (if d then set passed (site - 1) 0 else passed) place ≡ Some count
          → ArePassed (place + 1) (moved (move_of site input) (world_value replicas posts)) count
      at true e true f g =
          let same : site - 1 ≡ place = eqb-true (site - 1) place e in
          let none : 0 ≡ count =
          set_value passed place 0 count
          (subst (λ (k : ℕ). slice_get (set passed k 0) place ≡ Some count) same g) in
          (omega (arith, none), (λ k less. absurd (omega (arith, none, less))))
      at true e false f g =
          let same : site - 1 ≡ place = eqb-true (site - 1) place e in
          on g
          (λ message h.
          subst (λ (s : ℕ).
          knows_message message (machine_of (moved (move_of site input) (world_value replicas posts)) s) ≡ true)
          (here same)
          (known_here f message
          (subst (λ (s : ℕ). knows_message message (machine_of (world_value replicas posts) s) ≡ true)
          (sym (here same)) h)))
      at false e true f g =
          let other = eqb-false (site - 1) place e in
          on (sym (set_there passed (site - 1) place 0 other) ∙ g) (elsewhere other)
      at false e false f g = on g (elsewhere (eqb-false (site - 1) place e))

  looked_length : (d : Bool) → length (if d then set passed (site - 1) 0 else passed) ≡ length passed
  looked_length true = length-set passed (site - 1) 0
  looked_length false = refl

  pub parts_moved : IsWorldParts now (posts ++ added)
      (looked_again (reply_to (move_of site input) (world_value replicas posts)) (site - 1) passed)
  parts_moved =
      let stands = stand_now replicas posts site some within input (filter_map (posted replicas) posts) p.standing in
      record {
        world = subst IsWorld (sym value) (world_moved (world_value replicas posts) p.world (move_of site input) fit);
        standing = subst (λ (l : List Message). StandFor (posted now) (posts ++ added) l)
            (sym (stand_filter_map (posted now) (posts ++ added) (filter_map (posted replicas) posts ++ more) stands))
            stands;
        sites = looked_length (is_dropped (reply_to (move_of site input) (world_value replicas posts)))
            ∙ (p.sites ∙ sym (length-set replicas (site - 1) (after_step input (replica_from replicas (site - 1)))));
        known = λ place count e.
            subst (λ (v : WorldValue). ArePassed (place + 1) v count) (sym value) (known_now place count e);
      }

  pub value_moved : world_value now (posts ++ added) ≡ moved (move_of site input) (world_value replicas posts)
  value_moved = value

-- ---- as the code has them

pub record IsKept (w : WorldValue) (move : Move) (replicas : List ReplicaValue) (posts : List Post) (passed : List ℕ)
    : Type 0 where
  pub parts : IsWorldParts replicas posts passed
  pub value : world_value replicas posts ≡ moved move w

pub kept_after : (replicas : List ReplicaValue) (posts : List Post) (passed : List ℕ)
    → IsWorldParts replicas posts passed → (site : ℕ) → 0 < site → site ≤ length replicas → (input : Input)
    → IsInput input
    → ((message : Message) → input ≡ Take message
    → In message (filter_map (posted replicas) posts) × (is_for site message ≡ true))
    → (done : Done) → IsDone (replica_from replicas (site - 1)) input done
    → (replicas_now : List ReplicaValue)
    → replicas_now ≡ set replicas (site - 1) (after_step input (replica_from replicas (site - 1)))
    → (posts_now : List Post) → posts_now ≡ posts ++ new_posts site (done.after - done.before) done.before
    → (place : ℕ) → place ≡ site - 1 → (passed_now : List ℕ) → passed_now ≡ looked_again done.reply place passed
    → IsKept (world_value replicas posts) (record { site = site; input = input }) replicas_now posts_now passed_now
kept_after replicas posts passed p site some within input valid came done d replicas_now e posts_now f place at
    passed_now h =
    let old : ReplicaValue = replica_from replicas (site - 1) in
    let next : Machine = (step (replica_from replicas (site - 1)).machine input).machine in
    let more : List Message = sent_by (record { site = site; input = input }) (world_value replicas posts) in
    let long : length (sent_by (record { site = site; input = input }) (world_value replicas posts))
    ≡ length next.sent - length old.machine.sent = length-drop (length old.machine.sent) next.sent in
    let many : done.after - done.before
    ≡ length (sent_by (record { site = site; input = input }) (world_value replicas posts)) =
    (λ i. d.after i - d.before i) ∙ sym long in
    let posts_is : posts_now ≡ posts ++ new_posts site (length more) (length old.machine.sent) =
    f ∙ (λ i. posts ++ new_posts site (many i) (d.before i)) in
    let passed_is : passed_now
    ≡ looked_again (reply_to (record { site = site; input = input }) (world_value replicas posts)) (site - 1) passed =
    h ∙ (λ i. looked_again (d.reply i) (at i) passed) in
    record {
      parts = subst (λ (l : List ℕ). IsWorldParts replicas_now posts_now l) (sym passed_is)
          (subst (λ (l : List Post).
          IsWorldParts replicas_now l
          (looked_again (reply_to (record { site = site; input = input }) (world_value replicas posts)) (site - 1)
          passed))
          (sym posts_is)
          (subst (λ (l : List ReplicaValue).
          IsWorldParts l (posts ++ new_posts site (length more) (length old.machine.sent))
          (looked_again (reply_to (record { site = site; input = input }) (world_value replicas posts)) (site - 1)
          passed))
          (sym e) (parts_moved replicas posts passed p site some within input valid came)));
      value = (λ i. world_value (e i) (posts_is i))
          ∙ value_moved replicas posts passed p site some within input valid came;
    }

-- ---- the message at a place

pub some_get : {X Y : Type 0} (f : X → Option Y) (xs : List X) (ys : List Y) (k : ℕ) (x : X) → StandFor f xs ys
    → slice_get xs k ≡ Some x → (y : Y) × (f x ≡ Some y) × (slice_get ys k ≡ Some y)
some_get f [] ys k x h e = absurd cc
some_get f (z ∷ xs) [] k x h e = absurd h
some_get f (z ∷ xs) (y ∷ ys) zero x h e = (y, subst (λ (v : _). f v ≡ Some y) (same_Some z x e) h.0, refl)
some_get f (z ∷ xs) (y ∷ ys) (suc k) x h e = some_get f xs ys k x h.1 e

-- no replica stands past the sites
pub past_sites : (replicas : List ReplicaValue) (k number : ℕ) (message : Message)
    → kth number (replica_from replicas k).machine.sent ≡ Some message → k < length replicas
past_sites [] k number message e = absurd (none (nat_eq number 0) e)
  where
    none : (b : Bool) → (if b then None else None) ≡ Some message → ⊥
    none true f = cc
    none false f = cc
past_sites (r ∷ replicas) zero number message e = omega arith
past_sites (r ∷ replicas) (suc k) number message e =
    let h : k < length replicas = past_sites replicas k number message e in omega (arith, h)

-- what has a number has a place
pub kth_get : {X : Type 0} (k : ℕ) (xs : List X) (x : X) → kth k xs ≡ Some x → (0 < k) × (slice_get xs (k - 1) ≡ Some x)
kth_get {X = X} k xs x e = at (nat_eq k 0) refl e
  where
    at : (b : Bool) → nat_eq k 0 ≡ b → (if b then None else slice_get xs (k - 1)) ≡ Some x
        → (0 < k) × (slice_get xs (k - 1) ≡ Some x)
    at true n f = absurd (none_some f)
      where
        none_some : ◌≡◌ {A = Option X} None (Some x) → ⊥
        none_some g = cc
    at false n f = (positive k (eqb-false k 0 n), f)
      where
        positive : (k : ℕ) → (k ≡ 0 → ⊥) → 0 < k
        positive zero not = absurd (not refl)
        positive (suc k) not = omega arith

pub kth_in : {X : Type 0} (k : ℕ) (xs : List X) (x : X) → kth k xs ≡ Some x → In x xs
kth_in k xs x e = In-slice_get xs (k - 1) x (kth_get k xs x e).1

pub record IsAt (replicas : List ReplicaValue) (posts : List Post) (k : ℕ) (p : Post) : Type 0 where
  pub within : p.site ≤ length replicas
  pub message : Message
  pub stands : posted replicas p ≡ Some message
  pub sent : slice_get (filter_map (posted replicas) posts) k ≡ Some message
  pub from : sender message ≡ p.site

pub posted_at : (replicas : List ReplicaValue) (posts : List Post) (passed : List ℕ)
    → IsWorldParts replicas posts passed
    → (k : ℕ) (p : Post) → 1 ≤ p.site → slice_get posts k ≡ Some p → IsAt replicas posts k p
posted_at replicas posts passed w k p some e =
    let s = some_get (posted replicas) posts (filter_map (posted replicas) posts) k p w.standing e in
    let place : p.site - 1 < length replicas = past_sites replicas (p.site - 1) p.number s.0 s.1 in
    let within : p.site ≤ length replicas = omega (arith, place) in
    let low_ = low (world_value replicas posts) w.world p.site within in
    let inside : In s.0 (machine_of (world_value replicas posts) p.site).sent =
    kth_in p.number (machine_of (world_value replicas posts) p.site).sent s.0 s.1 in
    record {
      within = within;
      message = s.0;
      stands = s.1;
      sent = s.2;
      from = (sending_end (family_of (world_value replicas posts)) w.world.consistent p.site some low_).own s.0
          (subst (λ (m : Machine). In s.0 m.sent) (w.world.machines p.site some within) inside)
          ∙ site_is (family_of (world_value replicas posts)) w.world.consistent p.site some low_;
    }

pub as_many_posts : (replicas : List ReplicaValue) (posts : List Post) (passed : List ℕ)
    → IsWorldParts replicas posts passed → length posts ≡ length (filter_map (posted replicas) posts)
as_many_posts replicas posts passed w =
    stand_length (posted replicas) posts (filter_map (posted replicas) posts) w.standing

pub get_found : {X : Type 0} (xs : List X) (k : ℕ) (x : X) → k < length xs → x ≡ get_or xs k x → slice_get xs k ≡ Some x
get_found [] k x less e = absurd (omega (arith, less))
get_found (y ∷ xs) zero x less e = ap (λ z. Some z) (sym e)
get_found (y ∷ xs) (suc k) x less e = get_found xs k x (omega (arith, less)) e
