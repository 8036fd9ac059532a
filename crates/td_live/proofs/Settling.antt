-- What the moves of a world do to the histories of its sites.
use Rattle.std.proofs.Common.{◌≡◌, ◌≢◌, ◌<◌, ◌≤◌, ◌-◌, ◌+◌, ◌++◌, ℕ, zero, suc, Bool, true, false, List, [], ◌∷◌}
use Rattle.std.proofs.Common.{if◌then◌else◌, length, set, nat_eq, refl, sym, ap, ◌∙◌, subst, append-nil, append_assoc}
use Rattle.std.proofs.lemmas.Bool.{eqb-true, eqb-false}
use Rattle.std.specs.List.{AllByRecursion}
use Rattle.td_base.proofs.Passing.{zip_weaker, all_append}
use mathlib.Core.List.{IsPrefix}
use Rattle.td_op.specs.declared.entry.Entry.{Entry}
use Rattle.td_op.specs.declared.input.Input.{Input}
use Rattle.td_op.specs.declared.message.Message.{Message}
use Rattle.td_machine.specs.History.{History, history}
use Rattle.td_machine.specs.Step.{step}
use Rattle.td_replica.specs.Replica.{ReplicaValue, after_step, has_ready}
use Rattle.td_line.specs.Calls.{local_in, local_at}
use Rattle.td_line.proofs.Calling.{local_same}
use Rattle.td_script.specs.declared.live.editor_line.EditorLine.{EditorLine}
use Rattle.td_world.specs.World.{WorldValue, Move, size, replica, replica_from, machine_of, family_of, moved, moved_all}
use Rattle.td_world.specs.Calls.{is_wanted, next, nexts, take, give_moves, wanted_moves}
use Rattle.td_world.specs.Calls.{moves_of, give_all_moves, pass_from, pass, passes, IsSettled}
use Rattle.td_world.proofs.Moves.{size_family, size_moved, size_after, moved_here, moved_there}
use Rattle.td_world.proofs.Replicas.{history_from}
use Rattle.td_live.specs.Books.{BookValue, IsBook, AreBooks, AreHistoriesGrown}
use Rattle.td_live.proofs.Recording.{book_grown}

pub history_of : (w : WorldValue) (site : ℕ) → history (family_of w) site ≡ (replica w site).entries
history_of w site = history_from w.replicas (site - 1)

-- ---- entries that are no requests

-- the history goes on by such entries alone
record GoesQuietly (old new : History) : Type 0 where
  more : History
  goes_on : old ++ more ≡ new
  quiet : AllByRecursion (λ (e : Entry). local_in e.input ≡ 0) more

quietly_self : (h : History) → GoesQuietly h h
quietly_self h = record { more = []; goes_on = append-nil h; quiet = tt }

quietly_then : (f g h : History) → GoesQuietly f g → GoesQuietly g h → GoesQuietly f h
quietly_then f g h a b =
    record {
      more = a.more ++ b.more;
      goes_on = sym (append_assoc f a.more b.more) ∙ ap (λ (x : History). x ++ b.more) a.goes_on ∙ b.goes_on;
      quiet = all_append (λ (e : Entry). local_in e.input ≡ 0) a.more b.more a.quiet b.quiet;
    }

quietly_stepped : (replicas : List ReplicaValue) (k j : ℕ) (input : Input) → local_in input ≡ 0
    → GoesQuietly (replica_from replicas j).entries
    (replica_from (set replicas k (after_step input (replica_from replicas k))) j).entries
quietly_stepped [] k j input quiet = quietly_self (replica_from [] j).entries
quietly_stepped (r ∷ replicas) zero zero input quiet =
    record {
      more = record { input = input; reply = (step r.machine input).reply } ∷ [];
      goes_on = refl;
      quiet = (quiet, tt);
    }
quietly_stepped (r ∷ replicas) zero (suc j) input quiet = quietly_self (replica_from replicas j).entries
quietly_stepped (r ∷ replicas) (suc k) zero input quiet = quietly_self r.entries
quietly_stepped (r ∷ replicas) (suc k) (suc j) input quiet = quietly_stepped replicas k j input quiet

abbrev IsQuiet : Move → Type 0
IsQuiet move = local_in move.input ≡ 0

quietly_moved : (moves : List Move) (w : WorldValue) → AllByRecursion IsQuiet moves → (j : ℕ)
    → GoesQuietly (replica_from w.replicas j).entries (replica_from (moved_all moves w).replicas j).entries
quietly_moved [] w quiet j = quietly_self (replica_from w.replicas j).entries
quietly_moved (move ∷ moves) w quiet j =
    quietly_then (replica_from w.replicas j).entries (replica_from (moved move w).replicas j).entries
    (replica_from (moved_all moves (moved move w)).replicas j).entries
    (quietly_stepped w.replicas (move.site - 1) j move.input quiet.0) (quietly_moved moves (moved move w) quiet.1 j)

-- ---- the moves of settle

nexts_quiet : (k site : ℕ) (w : WorldValue) → AllByRecursion IsQuiet (nexts k site w)
nexts_quiet zero site w = tt
nexts_quiet (suc k) site w = at (has_ready (machine_of w site)) (nexts_quiet k site (moved (next site) w))
  where
    at : (b : Bool) → AllByRecursion IsQuiet (nexts k site (moved (next site) w))
        → AllByRecursion IsQuiet (if b then next site ∷ nexts k site (moved (next site) w) else [])
    at true h = (refl, h)
    at false h = tt

give_quiet : (site : ℕ) (message : Message) (w : WorldValue) → AllByRecursion IsQuiet (give_moves site message w)
give_quiet site message w = (
  refl,
  nexts_quiet (length (machine_of (moved (take site message) w) site).waiting) site
      (moved (take site message) w),
)

wanted_quiet : (site : ℕ) (message : Message) (w : WorldValue) → AllByRecursion IsQuiet (wanted_moves site message w)
wanted_quiet site message w = at (is_wanted site message w)
  where
    at : (b : Bool) → AllByRecursion IsQuiet (if b then give_moves site message w else [])
    at true = give_quiet site message w
    at false = tt

all_quiet : (site : ℕ) (messages : List Message) (w : WorldValue) → AllByRecursion IsQuiet (moves_of site messages w)
all_quiet site [] w = tt
all_quiet site (message ∷ messages) w =
    all_append IsQuiet (wanted_moves site message w)
    (moves_of site messages (moved_all (wanted_moves site message w) w)) (wanted_quiet site message w)
    (all_quiet site messages (moved_all (wanted_moves site message w) w))

pass_quiet : (k site : ℕ) (w : WorldValue) → AllByRecursion IsQuiet (pass_from k site w)
pass_quiet zero site w = tt
pass_quiet (suc k) site w =
    all_append IsQuiet (give_all_moves site w) (pass_from k (suc site) (moved_all (give_all_moves site w) w))
    (all_quiet site w.sent w) (pass_quiet k (suc site) (moved_all (give_all_moves site w) w))

passes_quiet : (k : ℕ) (w : WorldValue) → AllByRecursion IsQuiet (passes k w)
passes_quiet zero w = tt
passes_quiet (suc k) w =
    all_append IsQuiet (pass w) (passes k (moved_all (pass w) w)) (pass_quiet (size w) 1 w)
    (passes_quiet k (moved_all (pass w) w))

-- ---- what is settled

module _ (old new : WorldValue) (given : ℕ) (s : IsSettled old new given) where
  quietly : (site : ℕ) → GoesQuietly (history (family_of old) site) (history (family_of new) site)
  quietly site =
      subst (λ (x : History × History). GoesQuietly x.0 x.1)
      (λ i. (
        sym (history_of old site) i,
        sym (history_of new site
            ∙ ap (λ (w : WorldValue). (replica w site).entries) s.after) i,
      ))
      (quietly_moved (passes s.number old) old (passes_quiet s.number old) (site - 1))

  same_size : length (family_of new) ≡ length (family_of old)
  same_size =
      size_family new ∙ ap size s.after ∙ size_after (passes s.number old) old ∙ sym (size_family old)

  pub grown_settled : AreHistoriesGrown (family_of old) (family_of new)
  grown_settled =
      record {
        size = same_size;
        histories = λ site some within. let q = quietly site in (q.more, q.goes_on);
      }

  pub books_settled : (lines : List (List EditorLine)) (books : List BookValue) → AreBooks (family_of old) lines books
      → AreBooks (family_of new) lines books
  books_settled lines books h =
      record {
        each = zip_weaker (IsBook (family_of old)) (IsBook (family_of new)) lines books
            (λ own x i. book_grown (family_of old) (family_of new) grown_settled own x i) h.each;
        counted = λ site k some within.
            let q = quietly site in
            h.counted site k some (subst (λ (n : ℕ). site ≤ n) same_size within)
            ∙ sym (ap (λ (es : History). local_at es k) (sym q.goes_on)
            ∙ local_same (history (family_of old) site) q.more q.quiet k);
      }

-- ---- one move

module _ (w : WorldValue) (move : Move) (some : 0 < move.site) (within : move.site ≤ size w) where
  abbrev now : WorldValue
  now = moved move w

  pub here_moved : history (family_of (moved move w)) move.site
      ≡ history (family_of w) move.site
      ++ record { input = move.input; reply = (step (machine_of w move.site) move.input).reply } ∷ []
  here_moved =
      history_of (moved move w) move.site ∙ ap (λ (r : ReplicaValue). r.entries) (moved_here w move some within)
      ∙ ap (λ (h : History). h ++ record {
        input = move.input;
        reply = (step (machine_of w move.site) move.input).reply;
      } ∷ [])
      (sym (history_of w move.site))

  pub there_moved : (site : ℕ) → 0 < site → site ≢ move.site
      → history (family_of (moved move w)) site ≡ history (family_of w) site
  there_moved site up other =
      history_of (moved move w) site ∙ ap (λ (r : ReplicaValue). r.entries) (moved_there w move some site up other)
      ∙ sym (history_of w site)

  pub size_same : length (family_of (moved move w)) ≡ length (family_of w)
  size_same = size_family (moved move w) ∙ size_moved w move ∙ sym (size_family w)

  pub grown_moved : AreHistoriesGrown (family_of w) (family_of (moved move w))
  grown_moved = record { size = size_same; histories = λ site up low. by site up (nat_eq site move.site) refl }
    where
      by : (site : ℕ) → 0 < site → (b : Bool) → nat_eq site move.site ≡ b
          → IsPrefix (history (family_of w) site) (history (family_of (moved move w)) site)
      by site up true e =
          let same : site ≡ move.site = eqb-true site move.site e in
          subst (λ (s : ℕ). IsPrefix (history (family_of w) s) (history (family_of (moved move w)) s)) (sym same)
          (record { input = move.input; reply = (step (machine_of w move.site) move.input).reply } ∷ [], sym here_moved)
      by site up false e =
          ([], append-nil (history (family_of w) site) ∙ sym (there_moved site up (eqb-false site move.site e)))
