-- Messages that are offered to a site, one after another.
use Rattle.std.proofs.Common.{◌≡◌, ◌<◌, ◌+◌, ℕ, zero, suc, List, [], ◌∷◌, Bool, true, false, drop}
use Rattle.std.proofs.Common.{Option, Some, None, ap, sym, refl, ◌∙◌, if◌then◌else◌, arith}
use Rattle.std.specs.Prelude.{◌&&◌, not}
use Rattle.std.specs.List.{slice_get}
use Rattle.std.proofs.lemmas.List.{append-nil, append_assoc}
use Rattle.td_base.proofs.Places.{drop_there}
use Rattle.td_op.specs.declared.message.Message.{Message}
use Rattle.td_base.specs.Lists.{kth}
use Rattle.td_replica.specs.declared.given.Given.{Given}
use Rattle.td_report.specs.Given.{give_line}
use Rattle.td_world.specs.World.{WorldValue, Move, machine_of, moved_all}
use Rattle.td_op.specs.Message.{is_for}
use Rattle.td_replica.specs.Replica.{knows_message}
use Rattle.td_world.specs.Calls.{give_moves, is_wanted, offered, offered_by, offer_moves}
use Rattle.td_world.specs.Calls.{offer_moves_of, took, wanted_answer, wanted_moves}
use Rattle.td_world.specs.Parts.{ArePassed}
use Rattle.td_run.specs.Printing.{Printed, Effect, and_then, give_each, give_wanted, in_turn, line_and_events}
use Rattle.td_run.specs.Printing.{only_line, with_world}

-- ---- one message

answered : (site number : ℕ) (m : Message) (given : Given) (w : WorldValue) (b : Bool) → is_wanted site m w ≡ b
    → (if b then Some (took site m w) else None) ≡ Some given
    → (if b then line_and_events w (moved_all (wanted_moves site m w) w) (give_line site number (took site m w))
    else only_line w [])
    ≡ line_and_events w (moved_all (wanted_moves site m w) w) (give_line site number given)
answered site number m given w true e h =
    let same : took site m w ≡ given = cc in
    ap (λ (x : Given). line_and_events w (moved_all (wanted_moves site m w) w) (give_line site number x)) same
answered site number m given w false e h = absurd cc

-- it is given
pub given_is : (site number : ℕ) (m : Message) (given : Given) (w : WorldValue) → kth number w.sent ≡ Some m
    → offered site number w ≡ Some given
    → give_wanted site number m w
    ≡ line_and_events w (moved_all (offer_moves site number w) w) (give_line site number given)
given_is site number m given w there offers =
    let answer : wanted_answer site m w ≡ Some given =
    ap (λ (o : Option Message). offered_by site o w) (sym there) ∙ offers in
    let moves : wanted_moves site m w ≡ offer_moves site number w =
    ap (λ (o : Option Message). offer_moves_of site o w) (sym there) in
    answered site number m given w (is_wanted site m w) refl answer
    ∙ ap (λ (l : List Move). line_and_events w (moved_all l w) (give_line site number given)) moves

-- a message that is not wanted does nothing
nothing_printed : (site number : ℕ) (m : Message) (w : WorldValue) → is_wanted site m w ≡ false
    → give_wanted site number m w ≡ only_line w []
nothing_printed site number m w e =
    ap (λ (b : Bool). if b then line_and_events w (moved_all (wanted_moves site m w) w)
    (give_line site number (took site m w))
    else only_line w []) e

nothing_moved : (site : ℕ) (m : Message) (w : WorldValue) → is_wanted site m w ≡ false → wanted_moves site m w ≡ []
nothing_moved site m w e = ap (λ (b : Bool). if b then give_moves site m w else []) e

-- it is not given
pub not_given : (site number : ℕ) (m : Message) (w : WorldValue) → kth number w.sent ≡ Some m
    → offered site number w ≡ None
    → (give_wanted site number m w ≡ only_line w []) × (offer_moves site number w ≡ [])
not_given site number m w there offers = (
  nothing_printed site number m w unwanted,
  ap (λ (o : Option Message). offer_moves_of site o w) there ∙ nothing_moved site m w unwanted,
)
  where
    at : (b : Bool) → (if b then Some (took site m w) else None) ≡ None → b ≡ false
    at true h = absurd cc
    at false h = refl

    unwanted : is_wanted site m w ≡ false
    unwanted = at (is_wanted site m w) (ap (λ (o : Option Message). offered_by site o w) (sym there) ∙ offers)

-- the world behind it
pub world_after : (site number : ℕ) (m : Message) (w : WorldValue)
    → (give_wanted site number m w).world ≡ moved_all (wanted_moves site m w) w
world_after site number m w = at (is_wanted site m w) refl
  where
    at : (b : Bool) → is_wanted site m w ≡ b
        → (if b then line_and_events w (moved_all (wanted_moves site m w) w) (give_line site number (took site m w))
        else only_line w []).world
        ≡ moved_all (wanted_moves site m w) w
    at true e = refl
    at false e = ap (λ (l : List Move). moved_all l w) (sym (nothing_moved site m w e))

-- what is printed where it is given
pub printed_given : (site number : ℕ) (m : Message) (given : Given) (p q : Printed) (world : WorldValue)
    → kth number p.world.sent ≡ Some m → offered site number p.world ≡ Some given
    → world ≡ moved_all (offer_moves site number p.world) p.world
    → q ≡ and_then p (line_and_events p.world world (give_line site number given))
    → q ≡ and_then p (give_wanted site number m p.world)
printed_given site number m given p q world there offers is printed =
    printed
    ∙ ap (λ (v : WorldValue). and_then p (line_and_events p.world v (give_line site number given))) is
    ∙ ap (and_then p) (sym (given_is site number m given p.world there offers))

-- and where it is not
pub printed_nothing : (site number : ℕ) (m : Message) (given : Option Given) (p : Printed) (world : WorldValue)
    → given ≡ offered site number p.world → given ≡ None
    → world ≡ moved_all (offer_moves site number p.world) p.world → kth number p.world.sent ≡ Some m
    → with_world world p ≡ and_then p (give_wanted site number m p.world)
printed_nothing site number m given p world offers none is there =
    let nothing = not_given site number m p.world there (sym offers ∙ none) in
    let same : world ≡ p.world = is ∙ ap (λ (l : List Move). moved_all l p.world) nothing.1 in
    (λ i. record { world = same i; marks = p.marks; text = sym (append-nil p.text) i })
    ∙ ap (and_then p) (sym nothing.0)

-- ---- one after another

pub then_then : (p : Printed) (first second : Effect)
    → and_then p (in_turn first second) ≡ and_then (and_then p first) second
then_then p first second =
    λ i. record { world = second.world; marks = p.marks; text = sym (append_assoc p.text first.text second.text) i }

-- the first of those that are left
pub next_given : (site number : ℕ) (m : Message) (rest : List Message) (p q : Printed)
    → q ≡ and_then p (give_wanted site number m p.world)
    → and_then p (give_each site number (m ∷ rest) p.world) ≡ and_then q (give_each site (suc number) rest q.world)
next_given site number m rest p q is =
    let given : Effect = give_wanted site number m p.world in
    let world : moved_all (wanted_moves site m p.world) p.world ≡ q.world =
    sym (world_after site number m p.world) ∙ ap (λ (x : Printed). x.world) (sym is) in
    then_then p given (give_each site (suc number) rest (moved_all (wanted_moves site m p.world) p.world))
    ∙ (λ i. and_then (sym is i) (give_each site (suc number) rest (world i)))

-- one more of those that were sent when it began
pub one_given : (site n : ℕ) (m : Message) (sent : List Message) (all p q : Printed) → slice_get sent n ≡ Some m
    → q ≡ and_then p (give_wanted site (n + 1) m p.world)
    → all ≡ and_then p (give_each site (n + 1) (drop n sent) p.world)
    → all ≡ and_then q (give_each site (n + 1 + 1) (drop (n + 1) sent) q.world)
one_given site n m sent all p q there is all_is =
    let next : suc (n + 1) ≡ n + 1 + 1 = omega arith in
    all_is ∙ ap (λ (l : List Message). and_then p (give_each site (n + 1) l p.world)) (drop_there sent n m there)
    ∙ next_given site (n + 1) m (drop (n + 1) sent) p q is
    ∙ ap (λ (k : ℕ). and_then q (give_each site k (drop (n + 1) sent) q.world)) next

-- none is left
pub none_left : (site number : ℕ) (messages : List Message) (p : Printed) → messages ≡ []
    → and_then p (give_each site number messages p.world) ≡ p
none_left site number messages p none =
    ap (λ (l : List Message). and_then p (give_each site number l p.world)) none
    ∙ (λ i. record { world = p.world; marks = p.marks; text = append-nil p.text i })

-- ---- those that are passed

unwanted : (site : ℕ) (m : Message) (w : WorldValue)
    → (is_for site m ≡ true → knows_message m (machine_of w site) ≡ true) → is_wanted site m w ≡ false
unwanted site m w known = at (is_for site m) refl
  where
    at : (b : Bool) → is_for site m ≡ b → (b && not (knows_message m (machine_of w site))) ≡ false
    at true e = ap not (known e)
    at false e = refl

passed_over : (site k number : ℕ) (messages : List Message) (w : WorldValue)
    → ((j : ℕ) (m : Message) → j < k → slice_get messages j ≡ Some m → is_wanted site m w ≡ false)
    → give_each site number messages w ≡ give_each site (number + k) (drop k messages) w
passed_over site zero number messages w each =
    let same : number ≡ number + 0 = omega arith in
    ap (λ (n : ℕ). give_each site n messages w) same
passed_over site (suc k) number [] w each = refl
passed_over site (suc k) number (m ∷ messages) w each =
    let not_wanted : is_wanted site m w ≡ false = each zero m (omega arith) refl in
    let later : suc number + k ≡ number + suc k = omega arith in
    (λ i. in_turn (nothing_printed site number m w not_wanted i)
    (give_each site (suc number) messages (moved_all (nothing_moved site m w not_wanted i) w)))
    ∙ passed_over site k (suc number) messages w (λ j x less there. each (suc j) x (omega (arith, less)) there)
    ∙ ap (λ (n : ℕ). give_each site n (drop k messages) w) later

-- so many messages need not be looked at
pub behind_passed : (site k : ℕ) (w : WorldValue) → ArePassed site w k
    → give_each site 1 w.sent w ≡ give_each site (k + 1) (drop k w.sent) w
behind_passed site k w passed =
    let same : 1 + k ≡ k + 1 = omega arith in
    passed_over site k 1 w.sent w (λ j m less there. unwanted site m w (passed.1 j less m there))
    ∙ ap (λ (n : ℕ). give_each site n (drop k w.sent) w) same
