-- All that a site does not know is given: so many messages are looked at, and the others are still to come.
use Rattle.std.proofs.Common.{◌≡◌, ◌<◌, ◌≤◌, ◌+◌, ◌++◌, ℕ, zero, suc, List, [], ◌∷◌, Bool, true, false}
use Rattle.std.proofs.Common.{if◌then◌else◌, length, drop, Option, Some, None, refl, sym, ap, ◌∙◌, subst}
use Rattle.std.proofs.Common.{append-nil, append_assoc, length-append, arith}
use Rattle.std.specs.List.{slice_get}
use Rattle.std.specs.Option.{is_some}
use Rattle.std.proofs.lemmas.List.{drop_all}
use Rattle.td_op.specs.declared.message.Message.{Message}
use Rattle.td_replica.specs.declared.given.Given.{Given}
use Rattle.td_world.specs.World.{WorldValue, Move, size, moved_all}
use Rattle.td_world.specs.Calls.{is_wanted, took, wanted_moves, wanted_answer, wanted_given, moves_of}
use Rattle.td_world.specs.Calls.{given_of, give_all_moves, give_all_given, IsCutShort, IsStopped}
use Rattle.td_world.specs.Parts.{ArePassed}
use Rattle.td_world.proofs.Cuts.{cut_before, stopped_before}
use Rattle.td_world.proofs.Going.{IsDoing, doing_more, doing_done, doing_cut, doing_stopped, doing_none, doing_size}
use Rattle.td_world.proofs.Passed.{skip_moves, skip_given}
use Rattle.td_world.proofs.Posts.{still_at}

pub record IsGiving (to k : ℕ) (old now : WorldValue) (given : List (ℕ × Given)) : Type 0 where
  pub doing : IsDoing (give_all_moves to old) (moves_of to (drop k old.sent) now) old now
  pub told : give_all_given to old ≡ given ++ given_of to (k + 1) (drop k old.sent) now

pub giving_none : (to k : ℕ) (w : WorldValue) → ArePassed to w k → IsGiving to k w w []
giving_none to k w p =
    let few : k ≤ length w.sent = p.0 in
    let same : 1 + k ≡ k + 1 = omega arith in
    record {
      doing = subst (λ (l : List Move). IsDoing (give_all_moves to w) l w w)
          (skip_moves to w k w.sent (λ j less. p.1 j less))
          (doing_none (give_all_moves to w) w);
      told = skip_given to w k 1 w.sent (λ j less. p.1 j less) few
          ∙ ap (λ (n : ℕ). given_of to n (drop k w.sent) w) same;
    }

drop_next : (k : ℕ) (messages : List Message) (m : Message) → slice_get messages k ≡ Some m
    → drop k messages ≡ m ∷ drop (suc k) messages
drop_next k [] m e = absurd cc
drop_next zero (x ∷ messages) m e = ap (λ (y : Message). y ∷ messages) (same x m e)
  where
    same : (a b : Message) → Some a ≡ Some b → a ≡ b
    same a b f = cc
drop_next (suc k) (x ∷ messages) m e = drop_next k messages m e

pub some_at : (messages : List Message) (k : ℕ) → k < length messages → (m : Message) × (slice_get messages k ≡ Some m)
some_at [] k less = absurd (omega (arith, less))
some_at (m ∷ messages) zero less = (m, refl)
some_at (m ∷ messages) (suc k) less = some_at messages k (omega (arith, less))

-- what was sent when it began has its number still
pub still_numbered : (to k : ℕ) (old now : WorldValue) (given : List (ℕ × Given)) → IsGiving to k old now given
    → (j : ℕ) (m : Message) → slice_get old.sent j ≡ Some m → slice_get now.sent j ≡ Some m
still_numbered to k old now given g j m e =
    ap (λ (w : WorldValue). slice_get w.sent j) g.doing.after ∙ still_at g.doing.front old j m e

pub giving_size : (to k : ℕ) (old now : WorldValue) (given : List (ℕ × Given)) → IsGiving to k old now given
    → size now ≡ size old
giving_size to k old now given g = doing_size (give_all_moves to old) (moves_of to (drop k old.sent) now) old now
    g.doing

module _ (to k : ℕ) (old now new : WorldValue) (given more : List (ℕ × Given)) (g : IsGiving to k old now given)
    (m : Message) (e : slice_get old.sent k ≡ Some m) where
  next_is : drop k old.sent ≡ m ∷ drop (k + 1) old.sent
  next_is =
      let one : suc k ≡ k + 1 = omega arith in
      drop_next k old.sent m e ∙ ap (λ (n : ℕ). m ∷ drop n old.sent) one

  doing_now : IsDoing (give_all_moves to old)
      (wanted_moves to m now ++ moves_of to (drop (k + 1) old.sent) (moved_all (wanted_moves to m now) now)) old now
  doing_now =
      subst (λ (l : List Message). IsDoing (give_all_moves to old) (moves_of to l now) old now) next_is g.doing

  pub giving_more : new ≡ moved_all (wanted_moves to m now) now → more ≡ given ++ wanted_given to (k + 1) m now
      → IsGiving to (k + 1) old new more
  giving_more is told =
      let one : suc (k + 1) ≡ k + 1 + 1 = omega arith in
      subst (λ (w : WorldValue). IsGiving to (k + 1) old w more) (sym is)
      (record {
        doing = doing_more (give_all_moves to old) (wanted_moves to m now)
            (moves_of to (drop (k + 1) old.sent) (moved_all (wanted_moves to m now) now)) old now
            (moved_all (wanted_moves to m now) now) doing_now refl;
        told = g.told ∙ ap (λ (l : List Message). given ++ given_of to (k + 1) l now) next_is
            ∙ sym (append_assoc given (wanted_given to (k + 1) m now)
            (given_of to (suc (k + 1)) (drop (k + 1) old.sent) (moved_all (wanted_moves to m now) now)))
            ∙ ap (λ (l : List (ℕ × Given)). l ++ given_of to (suc (k + 1)) (drop (k + 1) old.sent)
            (moved_all (wanted_moves to m now) now)) (sym told)
            ∙ ap (λ (n : ℕ). more ++ given_of to n (drop (k + 1) old.sent) (moved_all (wanted_moves to m now) now)) one;
      })

  pub giving_cut : IsCutShort (wanted_moves to m now) now new → IsCutShort (give_all_moves to old) old new
  giving_cut c =
      doing_cut (give_all_moves to old)
      (wanted_moves to m now ++ moves_of to (drop (k + 1) old.sent) (moved_all (wanted_moves to m now) now)) old now new
      doing_now
      (cut_before (wanted_moves to m now) (moves_of to (drop (k + 1) old.sent)
      (moved_all (wanted_moves to m now) now)) now new c)

  pub giving_stopped : IsStopped (wanted_moves to m now) now new → IsStopped (give_all_moves to old) old new
  giving_stopped c =
      doing_stopped (give_all_moves to old)
      (wanted_moves to m now ++ moves_of to (drop (k + 1) old.sent) (moved_all (wanted_moves to m now) now)) old now new
      doing_now
      (stopped_before (wanted_moves to m now) (moves_of to (drop (k + 1) old.sent)
      (moved_all (wanted_moves to m now) now)) now
      new c)

pub giving_all : (to k : ℕ) (old now : WorldValue) (given : List (ℕ × Given)) → IsGiving to k old now given
    → length old.sent ≤ k
    → (now ≡ moved_all (give_all_moves to old) old) × (given ≡ give_all_given to old)
giving_all to k old now given g past =
    let none : drop k old.sent ≡ [] = drop_all k old.sent past in (
      doing_done (give_all_moves to old) (moves_of to (drop k old.sent) now) old now g.doing
          (ap (λ (l : List Message). moves_of to l now) none),
      sym (g.told ∙ ap (λ (l : List Message). given ++ given_of to (k + 1) l now) none ∙ append-nil given),
    )

-- ---- what is given at a place

-- the answer is noted with its number
answer_noted : (to number : ℕ) (m : Message) (w : WorldValue) (given : List (ℕ × Given)) (a : Given)
    → Some a ≡ wanted_answer to m w → given ++ (number, a) ∷ [] ≡ given ++ wanted_given to number m w
answer_noted to number m w given a e = at (is_wanted to m w) e
  where
    same : (b : Given) → Some a ≡ Some b → a ≡ b
    same b f = cc

    at : (wanted : Bool) → Some a ≡ (if wanted then Some (took to m w) else None)
        → given ++ (number, a) ∷ [] ≡ given ++ (if wanted then (number, took to m w) ∷ [] else [])
    at true f = ap (λ (b : Given). given ++ (number, b) ∷ []) (same (took to m w) f)
    at false f = absurd (none f)
      where
        none : ◌≡◌ {A = Option Given} (Some a) None → ⊥
        none g = cc

nothing_noted : (to number : ℕ) (m : Message) (w : WorldValue) (given : List (ℕ × Given))
    → None ≡ wanted_answer to m w → given ≡ given ++ wanted_given to number m w
nothing_noted to number m w given e = at (is_wanted to m w) e
  where
    at : (wanted : Bool) → None ≡ (if wanted then Some (took to m w) else None)
        → given ≡ given ++ (if wanted then (number, took to m w) ∷ [] else [])
    at true f = absurd (none f)
      where
        none : ◌≡◌ {A = Option Given} None (Some (took to m w)) → ⊥
        none g = cc
    at false f = sym (append-nil given)

-- ---- where only how many are given is counted

pub record IsCounting (to k : ℕ) (old now : WorldValue) (count : ℕ) : Type 0 where
  pub given : List (ℕ × Given)
  pub giving : IsGiving to k old now given
  pub long : count ≡ length given
  pub few : count ≤ k

pub counting_none : (to k : ℕ) (w : WorldValue) → ArePassed to w k → IsCounting to k w w 0
counting_none to k w p = record { given = []; giving = giving_none to k w p; long = refl; few = omega arith }

module _ (to k : ℕ) (old now new : WorldValue) (count : ℕ) (c : IsCounting to k old now count) (m : Message)
    (e : slice_get old.sent k ≡ Some m) (is : new ≡ moved_all (wanted_moves to m now) now) where
  counting_more : (a : Given) → Some a ≡ wanted_answer to m now → IsCounting to (k + 1) old new (count + 1)
  counting_more a answer =
      let more : List (ℕ × Given) = c.given ++ (k + 1, a) ∷ [] in
      let longer : length (c.given ++ (k + 1, a) ∷ []) ≡ length c.given + 1 = length-append c.given ((k + 1, a) ∷ []) in
      let long : count ≡ length c.given = c.long in
      let few : count ≤ k = c.few in
      record {
        given = more;
        giving = giving_more to k old now new c.given more c.giving m e is
            (answer_noted to (k + 1) m now c.given a answer);
        long = omega (arith, longer, long);
        few = omega (arith, few);
      }

  counting_same : None ≡ wanted_answer to m now → IsCounting to (k + 1) old new count
  counting_same answer =
      let few : count ≤ k = c.few in
      record {
        given = c.given;
        giving = giving_more to k old now new c.given c.given c.giving m e is
            (nothing_noted to (k + 1) m now c.given answer);
        long = c.long;
        few = omega (arith, few);
      }

  pub counting_next : (answer : Option Given) → answer ≡ wanted_answer to m now → (more : ℕ)
      → more ≡ (if is_some answer then count + 1 else count) → IsCounting to (k + 1) old new more
  counting_next (Some a) h more f = subst (IsCounting to (k + 1) old new) (sym f) (counting_more a h)
  counting_next None h more f = subst (IsCounting to (k + 1) old new) (sym f) (counting_same h)
