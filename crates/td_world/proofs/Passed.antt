-- How many messages need not be looked at again.
use Rattle.std.proofs.Common.{◌≡◌, ◌<◌, ◌≤◌, ◌+◌, ◌-◌, ◌++◌, ℕ, zero, suc, List, [], ◌∷◌, Bool, true, false}
use Rattle.std.proofs.Common.{not, ◌&&◌, ◌==◌, ◌≢◌, ⊎_elim, if◌then◌else◌, nat_eq, length, set, get_or, drop}
use Rattle.std.proofs.Common.{Some, None, refl, sym, ap, ◌∙◌, subst, true≢false, arith}
use Rattle.std.proofs.lemmas.Bool.{eqb-true, eqb-false, and_from}
use Rattle.std.proofs.lemmas.Bool.Decides.{eqb_tells}
use Rattle.std.proofs.lemmas.List.{length-set}
use Rattle.std.specs.List.{slice_get}
use Rattle.std.proofs.lemmas.Option.{same_Some}
use Rattle.td_op.specs.declared.message.Message.{Message}
use Rattle.td_op.specs.declared.message.Message.TheVariants.{Op, Vote}
use Rattle.td_op.specs.Message.{sender, is_for}
use Rattle.td_replica.specs.Replica.{ReplicaValue, knows_message}
use Rattle.td_world.specs.declared.post.Post.{Post}
use Rattle.td_world.specs.World.{WorldValue, machine_of, moved_all}
use Rattle.td_world.specs.Calls.{is_wanted, give_moves, took, wanted_moves, wanted_answer, moves_of}
use Rattle.td_world.specs.Calls.{given_of}
use Rattle.td_world.specs.Parts.{IsPassed, ArePassed, IsWorldParts, world_value}
use Rattle.td_world.proofs.Kept.{get_found, set_there, set_value}

pub passed_at : (replicas : List ReplicaValue) (posts : List Post) (passed : List ℕ)
    → IsWorldParts replicas posts passed
    → (w : WorldValue) → world_value replicas posts ≡ w
    → (site place count : ℕ) → place ≡ site - 1 → 1 ≤ site → site ≤ length replicas → count ≡ get_or passed place count
    → ArePassed site w count
passed_at replicas posts passed p w is site place count e some within k =
    let long : length passed ≡ length replicas = p.sites in
    let here : place + 1 ≡ site = omega (arith, e, some) in
    subst (λ (v : WorldValue). ArePassed site v count) is
    (subst (λ (s : ℕ). ArePassed s (world_value replicas posts) count) here
    (p.known place count (get_found passed place count (omega (arith, e, some, within, long)) k)))

-- where a message is not wanted, it may be passed
pub unwanted_known : (site : ℕ) (message : Message) (w : WorldValue) → is_wanted site message w ≡ false
    → is_for site message ≡ true → knows_message message (machine_of w site) ≡ true
unwanted_known site message w e to = at (knows_message message (machine_of w site)) refl
  where
    at : (b : Bool) → knows_message message (machine_of w site) ≡ b → knows_message message (machine_of w site) ≡ true
    at true f = f
    at false f =
        absurd (true≢false (sym (and_from (is_for site message) (not (knows_message message (machine_of w site))) to
        (ap (λ (b : Bool). not b) f)) ∙ e))

pub unwanted_passed : (site k : ℕ) (message : Message) (w : WorldValue) → slice_get w.sent k ≡ Some message
    → is_wanted site message w ≡ false → IsPassed site w k
unwanted_passed site k message w sent unwanted = λ m f to.
    let same : message ≡ m = same_Some message m (sym sent ∙ f) in
    subst (λ (z : Message). knows_message z (machine_of w site) ≡ true) same
    (unwanted_known site message w unwanted (subst (λ (z : Message). is_for site z ≡ true) (sym same) to))

is_itself : (site : ℕ) → (site == site) ≡ true
is_itself site =
    ⊎_elim
    (λ (same : ((site == site) ≡ true) × (site ≡ site)). same.0)
    (λ (other : ((site == site) ≡ false) × (site ≢ site)). absurd (other.1 refl))
    (eqb_tells site site)

-- what a site sent is not for it
own_is_not_for : (site : ℕ) (message : Message) → sender message ≡ site → is_for site message ≡ false
own_is_not_for site (Op x) own = rw own (ap (λ (b : Bool). not b) (is_itself site))
own_is_not_for site (Vote v) own = rw own (ap (λ (b : Bool). not b && v.proposal.site == site) (is_itself site))

pub own_passed : (site k : ℕ) (w : WorldValue) → ((m : Message) → slice_get w.sent k ≡ Some m → sender m ≡ site)
    → IsPassed site w k
own_passed site k w own = λ m f to. absurd (true≢false (sym to ∙ own_is_not_for site m (own m f)))

-- one more is passed
pub parts_passed : (replicas : List ReplicaValue) (posts : List Post) (passed : List ℕ)
    → IsWorldParts replicas posts passed → (w : WorldValue) → world_value replicas posts ≡ w
    → (site place k : ℕ) → place ≡ site - 1 → 1 ≤ site → site ≤ length replicas → k ≡ get_or passed place k
    → k < length w.sent → IsPassed site w k → IsWorldParts replicas posts (set passed place (k + 1))
parts_passed replicas posts passed p w is site place k e some within at less next =
    record {
      world = p.world;
      standing = p.standing;
      sites = length-set passed place (k + 1) ∙ p.sites;
      known = λ other count f. cases other count (nat_eq place other) refl f;
    }
  where
    old : ArePassed site (world_value replicas posts) k
    old = passed_at replicas posts passed p (world_value replicas posts) refl site place k e some within at

    less_here : k < length (world_value replicas posts).sent
    less_here = subst (λ (v : WorldValue). k < length v.sent) (sym is) less

    next_here : IsPassed site (world_value replicas posts) k
    next_here = subst (λ (v : WorldValue). IsPassed site v k) (sym is) next

    more : ArePassed site (world_value replicas posts) (k + 1)
    more = (omega (arith, less_here), (λ j below. each j below (nat_eq j k) refl))
      where
        each : (j : ℕ) → j < k + 1 → (b : Bool) → nat_eq j k ≡ b → IsPassed site (world_value replicas posts) j
        each j below true h =
            subst (λ (i : ℕ). IsPassed site (world_value replicas posts) i) (sym (eqb-true j k h)) next_here
        each j below false h = let other = eqb-false j k h in old.1 j (omega (arith, below, other))

    cases : (other count : ℕ) → (b : Bool) → nat_eq place other ≡ b → slice_get (set passed place (k + 1)) other
        ≡ Some count
        → ArePassed (other + 1) (world_value replicas posts) count
    cases other count true h f =
        let same : place ≡ other = eqb-true place other h in
        let value : k + 1 ≡ count =
        set_value passed place (k + 1) count (subst (λ (j : ℕ). slice_get (set passed place (k + 1)) j ≡ Some count)
        (sym same) f) in
        let here : site ≡ other + 1 = omega (arith, e, some, same) in
        subst (λ (s : ℕ). ArePassed s (world_value replicas posts) count) here
        (subst (λ (n : ℕ). ArePassed site (world_value replicas posts) n) value more)
    cases other count false h f =
        p.known other count (sym (set_there passed place other (k + 1) (eqb-false place other h)) ∙ f)

-- ---- what is passed is not wanted

pub not_wanted : (site : ℕ) (message : Message) (w : WorldValue)
    → (is_for site message ≡ true → knows_message message (machine_of w site) ≡ true) → is_wanted site message w ≡ false
not_wanted site message w h = at (is_for site message) refl
  where
    at : (b : Bool) → is_for site message ≡ b → is_wanted site message w ≡ false
    at true e =
        ap (λ (b : Bool). b && not (knows_message message (machine_of w site))) e
        ∙ ap (λ (b : Bool). not b) (h e)
    at false e = ap (λ (b : Bool). b && not (knows_message message (machine_of w site))) e

-- what a site sent is not given to it
pub own_moves : (site : ℕ) (m : Message) (w : WorldValue) → sender m ≡ site → w ≡ moved_all (wanted_moves site m w) w
own_moves site m w own =
    let off : is_wanted site m w ≡ false = not_wanted site m w
    (λ to. absurd (true≢false (sym to ∙ own_is_not_for site m own))) in
    rw off refl

pub own_answer : (site : ℕ) (m : Message) (w : WorldValue) → sender m ≡ site → None ≡ wanted_answer site m w
own_answer site m w own =
    let off : is_wanted site m w ≡ false = not_wanted site m w
    (λ to. absurd (true≢false (sym to ∙ own_is_not_for site m own))) in
    rw off refl

-- the moves for messages of which some need not be looked at
module _ (site : ℕ) (w : WorldValue) where
  pub skip_moves : (k : ℕ) (messages : List Message)
      → ((j : ℕ) → j < k → (message : Message) → slice_get messages j ≡ Some message → is_for site message ≡ true
      → knows_message message (machine_of w site) ≡ true)
      → moves_of site messages w ≡ moves_of site (drop k messages) w
  skip_moves zero messages h = refl
  skip_moves (suc k) [] h = refl
  skip_moves (suc k) (message ∷ messages) h =
      let off : is_wanted site message w ≡ false = not_wanted site message w (h zero (omega arith) message refl) in
      ap (λ (b : Bool). (if b then give_moves site message w else [])
      ++ moves_of site messages (moved_all (if b then give_moves site message w else []) w)) off
      ∙ skip_moves k messages (λ j less. h (suc j) (omega (arith, less)))

  pub skip_given : (k number : ℕ) (messages : List Message)
      → ((j : ℕ) → j < k → (message : Message) → slice_get messages j ≡ Some message → is_for site message ≡ true
      → knows_message message (machine_of w site) ≡ true)
      → k ≤ length messages
      → given_of site number messages w ≡ given_of site (number + k) (drop k messages) w
  skip_given zero number messages h few =
      let same : number ≡ number + 0 = omega arith in ap (λ (n : ℕ). given_of site n messages w) same
  skip_given (suc k) number [] h few = absurd (omega (arith, few))
  skip_given (suc k) number (message ∷ messages) h few =
      let off : is_wanted site message w ≡ false = not_wanted site message w (h zero (omega arith) message refl) in
      let same : suc number + k ≡ number + suc k = omega arith in
      ap (λ (b : Bool). (if b then (number, took site message w) ∷ [] else [])
      ++ given_of site (suc number) messages (moved_all (if b then give_moves site message w else []) w)) off
      ∙ (skip_given k (suc number) messages (λ j less. h (suc j) (omega (arith, less))) (omega (arith, few))
      ∙ ap (λ (n : ℕ). given_of site n (drop k messages) w) same)
