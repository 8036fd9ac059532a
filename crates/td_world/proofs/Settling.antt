-- Passes one after another, and the sites of one pass.
use Rattle.std.proofs.Common.{◌≡◌, ◌≤◌, ◌+◌, ◌-◌, ◌++◌, ℕ, zero, suc, List, [], ◌∷◌, Bool, true, false, if◌then◌else◌}
use Rattle.std.proofs.Common.{length, refl, sym, ap, ◌∙◌, subst, append-nil, append_assoc, arith}
use Rattle.std.proofs.lemmas.List.{length-append}
use Rattle.td_op.specs.declared.message.Message.{Message}
use Rattle.td_replica.specs.declared.given.Given.{Given}
use Rattle.td_world.specs.World.{WorldValue, Move, IsWorld, size, machine_of, moved, moved_all}
use Rattle.td_replica.specs.Replica.{has_ready}
use Rattle.td_world.specs.Calls.{is_wanted, next, take, nexts, give_moves, wanted_moves, wanted_given}
use Rattle.td_world.specs.Calls.{took, moves_of, given_of, give_all_moves, give_all_given, pass_from, pass, passes}
use Rattle.td_world.specs.Calls.{is_take, count_given, IsStopped, IsSettled, IsUnsettled}
use Rattle.td_world.specs.Promises.{NobodyReady, SameVectors, AllDecided}
use Rattle.td_world.proofs.Cuts.{stopped_before, stopped_after}
use Rattle.td_world.proofs.Going.{IsDoing, doing_more, doing_stopped, doing_size}
use Rattle.td_world.proofs.Moves.{moved_both}
use Rattle.td_world.proofs.Nexts.{passes_nobody}
use Rattle.td_world.proofs.Passes.{settled_vectors, settled_decided}

-- ---- what is counted

count_both : (front back : List Move) → count_given (front ++ back) ≡ count_given front + count_given back
count_both [] back = none (count_given back)
  where
    none : (n : ℕ) → n ≡ 0 + n
    none n = omega arith
count_both (move ∷ front) back = at (is_take move.input) (count_both front back)
  where
    at : (b : Bool) → count_given (front ++ back) ≡ count_given front + count_given back
        → (if b then suc (count_given (front ++ back)) else count_given (front ++ back))
        ≡ (if b then suc (count_given front) else count_given front) + count_given back
    at true e = omega (arith, e)
    at false e = e

nexts_uncounted : (k site : ℕ) (w : WorldValue) → count_given (nexts k site w) ≡ 0
nexts_uncounted zero site w = refl
nexts_uncounted (suc k) site w = at (has_ready (machine_of w site)) (nexts_uncounted k site (moved (next site) w))
  where
    at : (b : Bool) → count_given (nexts k site (moved (next site) w)) ≡ 0
        → count_given (if b then next site ∷ nexts k site (moved (next site) w) else []) ≡ 0
    at true e = e
    at false e = refl

give_counted : (site : ℕ) (message : Message) (w : WorldValue) → count_given (give_moves site message w) ≡ 1
give_counted site message w =
    ap suc (nexts_uncounted (length (machine_of (moved (take site message) w) site).waiting) site
    (moved (take site message) w))

-- one is counted for each that is told of
moves_counted : (site number : ℕ) (messages : List Message) (w : WorldValue)
    → count_given (moves_of site messages w) ≡ length (given_of site number messages w)
moves_counted site number [] w = refl
moves_counted site number (message ∷ messages) w =
    let front : count_given (wanted_moves site message w) ≡ length (wanted_given site number message w) =
    at (is_wanted site message w) in
    let back : count_given (moves_of site messages (moved_all (wanted_moves site message w) w))
    ≡ length (given_of site (suc number) messages (moved_all (wanted_moves site message w) w)) =
    moves_counted site (suc number) messages (moved_all (wanted_moves site message w) w) in
    let all : count_given (moves_of site (message ∷ messages) w)
    ≡ count_given (wanted_moves site message w) + count_given
    (moves_of site messages (moved_all (wanted_moves site message w) w)) =
    count_both (wanted_moves site message w) (moves_of site messages (moved_all (wanted_moves site message w) w)) in
    let told : length (given_of site number (message ∷ messages) w)
    ≡ length (wanted_given site number message w)
    + length (given_of site (suc number) messages (moved_all (wanted_moves site message w) w)) =
    length-append (wanted_given site number message w)
    (given_of site (suc number) messages (moved_all (wanted_moves site message w) w)) in
    omega (arith, front, back, all, told)
  where
    at : (b : Bool) → count_given (if b then give_moves site message w else [])
        ≡ length {A = ℕ × Given} (if b then (number, took site message w) ∷ [] else [])
    at true = give_counted site message w
    at false = refl

pub all_counted : (site : ℕ) (w : WorldValue) → count_given (give_all_moves site w) ≡ length (give_all_given site w)
all_counted site w = moves_counted site 1 w.sent w

-- nothing is given without a message
none_moved : (site : ℕ) (messages : List Message) (w : WorldValue) → count_given (moves_of site messages w) ≡ 0
    → moves_of site messages w ≡ []
none_moved site [] w e = refl
none_moved site (message ∷ messages) w e =
    let all : count_given (moves_of site (message ∷ messages) w)
    ≡ count_given (wanted_moves site message w) + count_given
    (moves_of site messages (moved_all (wanted_moves site message w) w)) =
    count_both (wanted_moves site message w) (moves_of site messages (moved_all (wanted_moves site message w) w)) in
    let front : count_given (wanted_moves site message w) ≡ 0 = omega (arith, e, all) in
    let back : count_given (moves_of site messages (moved_all (wanted_moves site message w) w))
    ≡ 0 = omega (arith, e, all) in
    let first : wanted_moves site message w ≡ [] = at (is_wanted site message w) front in
    let rest : moves_of site messages (moved_all (wanted_moves site message w) w) ≡ [] =
    none_moved site messages (moved_all (wanted_moves site message w) w) back in
    (λ i. first i ++ rest i)
  where
    at : (b : Bool) → count_given (if b then give_moves site message w else []) ≡ 0
        → (if b then give_moves site message w else []) ≡ []
    at false f = refl
    at true f = let one : count_given (give_moves site message w) ≡ 1 = give_counted site message w in
        absurd (omega (arith, f, one))

none_passed : (k site : ℕ) (w : WorldValue) → count_given (pass_from k site w) ≡ 0 → pass_from k site w ≡ []
none_passed zero site w e = refl
none_passed (suc k) site w e =
    let all : count_given (pass_from (suc k) site w)
    ≡ count_given (give_all_moves site w) + count_given (pass_from k (suc site) (moved_all (give_all_moves site w) w)) =
    count_both (give_all_moves site w) (pass_from k (suc site) (moved_all (give_all_moves site w) w)) in
    let front : count_given (give_all_moves site w) ≡ 0 = omega (arith, e, all) in
    let back : count_given (pass_from k (suc site) (moved_all (give_all_moves site w) w)) ≡ 0 = omega (arith, e, all) in
    let first : give_all_moves site w ≡ [] = none_moved site w.sent w front in
    let rest : pass_from k (suc site) (moved_all (give_all_moves site w) w) ≡ [] =
    none_passed k (suc site) (moved_all (give_all_moves site w) w) back in
    (λ i. first i ++ rest i)

pub still_pass : (w : WorldValue) → count_given (pass w) ≡ 0 → pass w ≡ []
still_pass w e = none_passed (size w) 1 w e

-- ---- the sites of a pass

-- the sites below this one had their turn
pub record IsPassing (site : ℕ) (old now : WorldValue) (count : ℕ) : Type 0 where
  pub doing : IsDoing (pass old) (pass_from (size old + 1 - site) site now) old now
  pub counted : count + count_given (pass_from (size old + 1 - site) site now) ≡ count_given (pass old)

module _ (site : ℕ) (old now : WorldValue) (count : ℕ) (within : site ≤ size old) (p : IsPassing site old now count)
  where
    rest_is : pass_from (size old + 1 - site) site now
        ≡ give_all_moves site now ++ pass_from (size old + 1 - (site + 1)) (site + 1)
        (moved_all (give_all_moves site now) now)
    rest_is =
        let one : size old + 1 - site ≡ suc (size old + 1 - (site + 1)) = omega (arith, within) in
        let two : suc site ≡ site + 1 = omega arith in
        ap (λ (k : ℕ). pass_from k site now) one
        ∙ ap (λ (s : ℕ). give_all_moves site now ++ pass_from (size old + 1 - (site + 1)) s
        (moved_all (give_all_moves site now) now)) two

    doing_here : IsDoing (pass old)
        (give_all_moves site now ++ pass_from (size old + 1 - (site + 1)) (site + 1)
        (moved_all (give_all_moves site now) now)) old now
    doing_here = subst (λ (l : List Move). IsDoing (pass old) l old now) rest_is p.doing

    pub passing_more : (new : WorldValue) (more : ℕ) → new ≡ moved_all (give_all_moves site now) now
        → more ≡ count + length (give_all_given site now) → IsPassing (site + 1) old new more
    passing_more new more is told =
        let here : count_given (give_all_moves site now) ≡ length (give_all_given site now) = all_counted site now in
        let both : count_given (pass_from (size old + 1 - site) site now)
        ≡ count_given (give_all_moves site now)
        + count_given (pass_from (size old + 1 - (site + 1)) (site + 1) (moved_all (give_all_moves site now) now)) =
        ap count_given rest_is
        ∙ count_both (give_all_moves site now) (pass_from (size old + 1 - (site + 1)) (site + 1)
        (moved_all (give_all_moves site now) now)) in
        let all : count + count_given (pass_from (size old + 1 - site) site now) ≡ count_given (pass old) = p.counted in
        subst (λ (w : WorldValue). IsPassing (site + 1) old w more) (sym is)
        (record {
          doing = doing_more (pass old) (give_all_moves site now)
              (pass_from (size old + 1 - (site + 1)) (site + 1) (moved_all (give_all_moves site now) now)) old now
              (moved_all (give_all_moves site now) now) doing_here refl;
          counted = omega (arith, here, both, all, told);
        })

    pub passing_stopped : (new : WorldValue) → IsStopped (give_all_moves site now) now new
        → IsStopped (pass old) old new
    passing_stopped new c =
        doing_stopped (pass old)
        (give_all_moves site now ++ pass_from (size old + 1 - (site + 1)) (site + 1)
        (moved_all (give_all_moves site now) now)) old now new
        doing_here
        (stopped_before (give_all_moves site now)
        (pass_from (size old + 1 - (site + 1)) (site + 1) (moved_all (give_all_moves site now) now)) now new c)

pub passing_size : (site : ℕ) (old now : WorldValue) (count : ℕ) → IsPassing site old now count → size now ≡ size old
passing_size site old now count p = doing_size (pass old) (pass_from (size old + 1 - site) site now) old now p.doing

-- ---- passes

pub passes_last : (k : ℕ) (w : WorldValue) → passes (suc k) w ≡ passes k w ++ pass (moved_all (passes k w) w)
passes_last zero w = append-nil (pass w)
passes_last (suc k) w =
    ap (λ (l : List Move). pass w ++ l) (passes_last k (moved_all (pass w) w))
    ∙ sym (append_assoc (pass w) (passes k (moved_all (pass w) w))
    (pass (moved_all (passes k (moved_all (pass w) w)) (moved_all (pass w) w))))
    ∙ ap (λ (v : WorldValue). (pass w ++ passes k (moved_all (pass w) w)) ++ pass v)
    (sym (moved_both (pass w) (passes k (moved_all (pass w) w)) w))

-- so many passes were made
pub record IsSettling (number : ℕ) (old now : WorldValue) (given : ℕ) : Type 0 where
  pub after : now ≡ moved_all (passes number old) old
  pub count : given ≡ count_given (passes number old)

pub settling_none : (w : WorldValue) → IsSettling 0 w w 0
settling_none w = record { after = refl; count = refl }

pub settling_more : (number : ℕ) (old now new : WorldValue) (given count more : ℕ) → IsSettling number old now given
    → new ≡ moved_all (pass now) now → count ≡ count_given (pass now) → more ≡ given + count
    → IsSettling (number + 1) old new more
settling_more number old now new given count more s is told sum =
    let one : suc number ≡ number + 1 = omega arith in
    let last = passes_last number old in
    let both : count_given (passes (suc number) old) ≡ count_given (passes number old) + count_given (pass now) =
    ap count_given last ∙ count_both (passes number old) (pass (moved_all (passes number old) old))
    ∙ ap (λ (w : WorldValue). count_given (passes number old) + count_given (pass w)) (sym s.after) in
    let before : given ≡ count_given (passes number old) = s.count in
    subst (λ (n : ℕ). IsSettling n old new more) one
    (record {
      after = is
          ∙ (ap (λ (w : WorldValue). moved_all (pass w) w) s.after
          ∙ sym (ap (λ (l : List Move). moved_all l old) last
          ∙ moved_both (passes number old) (pass (moved_all (passes number old) old)) old));
      count = omega (arith, both, before, told, sum);
    })

pub settling_done : (number : ℕ) (old now new : WorldValue) (given count : ℕ) → IsSettling number old now given
    → new ≡ moved_all (pass now) now → count ≡ count_given (pass now) → count ≡ 0 → IsSettled old new given
settling_done number old now new given count s is told none =
    let off : pass now ≡ [] = still_pass now (sym told ∙ none) in
    let same : new ≡ now = is ∙ ap (λ (l : List Move). moved_all l now) off in
    record {
      number = number;
      after = same ∙ s.after;
      still = ap pass same ∙ off;
      count = s.count;
    }

pub settling_stopped : (number : ℕ) (old now new : WorldValue) (given : ℕ) → IsSettling number old now given
    → IsStopped (pass now) now new → IsUnsettled old new
settling_stopped number old now new given s c =
    record {
      number = suc number;
      stopped = subst (λ (l : List Move). IsStopped l old new) (sym (passes_last number old))
          (stopped_after (passes number old) (pass (moved_all (passes number old) old)) old now new s.after
          (subst (λ (w : WorldValue). IsStopped (pass w) now new) s.after c));
    }

-- ---- and then all is settled

module _ (old new : WorldValue) (given : ℕ) (i : IsWorld new) (s : IsSettled old new given) (h : NobodyReady old) where
  pub settled_nobody : NobodyReady new
  settled_nobody = subst (λ (w : WorldValue). NobodyReady w) (sym s.after) (passes_nobody s.number old h)

  pub settled_same : SameVectors new
  settled_same = settled_vectors new i settled_nobody s.still

  pub settled_all : AllDecided new
  settled_all = settled_decided new i settled_nobody s.still
