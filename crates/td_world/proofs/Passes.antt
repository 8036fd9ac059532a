-- A pass that gives nothing finds nothing that is wanted; so then, where nobody is ready, all is settled.
use Rattle.std.proofs.Common.{◌≡◌, ◌<◌, ◌≤◌, ◌+◌, ◌++◌, ℕ, zero, suc, List, [], ◌∷◌, Bool, true, false}
use Rattle.std.proofs.Common.{if◌then◌else◌, nat_eq, length, refl, sym, ap, ◌∙◌, subst, ⊎_elim, arith}
use Rattle.std.proofs.lemmas.Bool.{eqb-true, eqb-false}
use Rattle.td_base.specs.Lists.{In}
use Rattle.td_base.proofs.Lists.{In-filter}
use Rattle.td_op.specs.declared.message.Message.{Message}
use Rattle.td_machine.specs.Machine.{Machine, undecided}
use Rattle.td_world.specs.World.{WorldValue, Move, IsWorld, size, machine_of, family_of, is_sent_by, moved_all}
use Rattle.td_op.specs.Message.{is_for}
use Rattle.td_replica.specs.Replica.{knows_message, has_ready}
use Rattle.td_world.specs.Calls.{is_wanted, give_moves, wanted_moves}
use Rattle.td_world.specs.Calls.{moves_of, give_all_moves, pass_from, pass}
use Rattle.td_world.specs.Promises.{NobodyReady, SameVectors, AllDecided}
use Rattle.td_world.proofs.Moves.{size_family}
use Rattle.td_world.proofs.Passed.{unwanted_known}
use Rattle.td_world.proofs.Settled.{AllKnown, NoneReady, same_vectors, all_decided}

nothing_both : {X : Type 0} (front back : List X) → front ++ back ≡ [] → (front ≡ []) × (back ≡ [])
nothing_both [] back e = (refl, e)
nothing_both (x ∷ front) back e = absurd cc

none_wanted : (site : ℕ) (messages : List Message) (w : WorldValue) → moves_of site messages w ≡ []
    → (message : Message) → In message messages → is_wanted site message w ≡ false
none_wanted site [] w e message i = absurd i
none_wanted site (m ∷ messages) w e message i =
    let p =
    nothing_both (wanted_moves site m w) (moves_of site messages (moved_all (wanted_moves site m w) w)) e in
    ⊎_elim
    (λ (k : message ≡ m). subst (λ (z : Message). is_wanted site z w ≡ false) (sym k)
    (unwanted (is_wanted site m w) refl p.0))
    (λ (j : In message messages).
    none_wanted site messages w
    (subst (λ (moves : List Move). moves_of site messages (moved_all moves w) ≡ []) p.0 p.1) message j) i
  where
    unwanted : (b : Bool) → is_wanted site m w ≡ b → (if b then give_moves site m w else []) ≡ []
        → is_wanted site m w ≡ false
    unwanted false f g = f
    unwanted true f g = absurd cc

none_given : (k site : ℕ) (w : WorldValue) → pass_from k site w ≡ [] → (s : ℕ) → site ≤ s → s < site + k
    → give_all_moves s w ≡ []
none_given zero site w e s from to = absurd (omega (arith, from, to))
none_given (suc k) site w e s from to =
    let p = nothing_both (give_all_moves site w) (pass_from k (suc site) (moved_all (give_all_moves site w) w)) e in
    at (nat_eq s site) refl p.0
    (λ more.
    none_given k (suc site) w
    (subst (λ (moves : List Move). pass_from k (suc site) (moved_all moves w) ≡ []) p.0 p.1) s more (omega (arith, to)))
  where
    at : (b : Bool) → nat_eq s site ≡ b → give_all_moves site w ≡ [] → (suc site ≤ s → give_all_moves s w ≡ [])
        → give_all_moves s w ≡ []
    at true f first rest = subst (λ (t : ℕ). give_all_moves t w ≡ []) (sym (eqb-true s site f)) first
    at false f first rest = let other = eqb-false s site f in rest (omega (arith, from, other))

-- what a site is to have it knows
pub all_known : (w : WorldValue) → pass w ≡ [] → (site : ℕ) → 0 < site → site ≤ size w → (message : Message)
    → In message w.sent → is_for site message ≡ true → knows_message message (machine_of w site) ≡ true
all_known w e site some within message i to =
    unwanted_known site message w
    (none_wanted site w.sent w (none_given (size w) 1 w e site some (omega (arith, within))) message i) to

module _ (w : WorldValue) (i : IsWorld w) (nobody : NobodyReady w) (still : pass w ≡ []) where
  within_world : (site : ℕ) → site ≤ length (family_of w) → site ≤ size w
  within_world site low = let e : length (family_of w) ≡ size w = size_family w in omega (arith, e, low)

  within_family : (site : ℕ) → site ≤ size w → site ≤ length (family_of w)
  within_family site low = let e : length (family_of w) ≡ size w = size_family w in omega (arith, e, low)

  none_ready_of : NoneReady (family_of w)
  none_ready_of t up low =
      subst (λ (m : Machine). has_ready m ≡ false) (i.machines t up (within_world t low))
      (nobody t up (within_world t low))

  all_known_of : AllKnown (family_of w)
  all_known_of s t a b up low message inside to =
      let here : In message (machine_of w s).sent =
      subst (λ (m : Machine). In message m.sent) (sym (i.machines s a (within_world s b))) inside in
      let sent : In message w.sent =
      (In-filter (is_sent_by s) message w.sent
      (subst (λ (l : List Message). In message l) (sym (i.sent s a (within_world s b))) here)).0 in
      subst (λ (m : Machine). knows_message message m ≡ true) (i.machines t up (within_world t low))
      (all_known w still t up (within_world t low) message sent to)

  pub settled_vectors : SameVectors w
  settled_vectors r s a b d e =
      ap (λ (m : Machine). m.have) (i.machines r a b)
      ∙ same_vectors (family_of w) i.consistent none_ready_of all_known_of r s a (within_family r b) d
      (within_family s e)
      ∙ sym (ap (λ (m : Machine). m.have) (i.machines s d e))

  pub settled_decided : AllDecided w
  settled_decided s some within =
      ap undecided (i.machines s some within)
      ∙ all_decided (family_of w) i.consistent none_ready_of all_known_of s some (within_family s within)
