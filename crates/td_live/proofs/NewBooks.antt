-- The books of editors that did nothing yet, in a world of sites that did nothing.
use Rattle.std.proofs.Common.{◌≡◌, ◌<◌, ◌≤◌, ◌+◌, ◌-◌, ◌++◌, ℕ, zero, suc, Bool, true, false, List}
use Rattle.std.proofs.Common.{[], ◌∷◌, length, map, drop, get_or, if◌then◌else◌, ◌==◌, refl, sym, ap}
use Rattle.std.proofs.Common.{◌∙◌, subst, append-nil, append_assoc, arith}
use Rattle.std.specs.List.{AllZip, AllByRecursion}
use Rattle.std.proofs.lemmas.List.{length-map, drop_more}
use Rattle.td_machine.specs.History.{History, history}
use Rattle.td_replica.specs.Replica.{ReplicaValue}
use Rattle.td_line.specs.Calls.{local_at}
use Rattle.td_room.proofs.Opens.{drop_whole}
use Rattle.td_script.specs.declared.live.editor_line.EditorLine.{EditorLine}
use Rattle.td_trace.specs.Editors.{site_calls_at}
use Rattle.td_world.specs.World.{new_world, new_replicas, family_of, size}
use Rattle.td_world.proofs.Replicas.{history_from, new_length, new_from}
use Rattle.td_live.specs.Following.{all_of, Stays}
use Rattle.td_live.specs.Live.{IsTraceAmong, IsLiveFamilyOf}
use Rattle.td_live.specs.Books.{BookValue, IsBook, AreBooks, log_of}
use Rattle.td_live.specs.Ending.{IsTraceFrom}
use Rattle.td_live.specs.Alone.{new_books}

pub new_size : (n : ℕ) → length (family_of (new_world n)) ≡ n
new_size n = length-map (new_replicas n n 1) (λ (r : ReplicaValue). r.entries) ∙ new_length n n 1

new_history : (n site : ℕ) → 0 < site → site ≤ n → history (family_of (new_world n)) site ≡ []
new_history n site some within =
    history_from (new_replicas n n 1) (site - 1)
    ∙ ap (λ (r : ReplicaValue). r.entries) (new_from n n 1 (site - 1) (omega (arith, some, within)))

each_new : (n : ℕ) (homes : List ℕ) (lines : List (List EditorLine)) → length lines ≡ length homes
    → AllByRecursion (λ (home : ℕ). (0 < home) × (home ≤ n)) homes
    → AllZip (IsBook (family_of (new_world n))) lines (new_books homes lines)
each_new n [] [] same h = tt
each_new n [] (own ∷ lines) same h = absurd (omega (arith, same))
each_new n (home ∷ homes) [] same h = absurd (omega (arith, same))
each_new n (home ∷ homes) (own ∷ lines) same h = (
  record {
    logged = record {
      some = h.0.0;
      within = subst (λ (k : ℕ). home ≤ k) (sym (new_size n)) h.0.1;
      did = tt;
    };
    acts = [];
    are = refl;
    leads = Stays;
  },
  each_new n homes lines (omega (arith, same)) h.1,
)

no_calls : (site k : ℕ) (homes : List ℕ) (lines : List (List EditorLine))
    → site_calls_at site k (map log_of (new_books homes lines)) ≡ 0
no_calls site k [] lines = refl
no_calls site k (home ∷ homes) [] = refl
no_calls site k (home ∷ homes) (own ∷ lines) =
    at (home == site) (site_calls_at site k (map log_of (new_books homes lines))) (no_calls site k homes lines)
  where
    at : (b : Bool) (n : ℕ) → n ≡ 0 → (if b then 0 + n else n) ≡ 0
    at true n e = omega (arith, e)
    at false n e = e

none_local : (k : ℕ) → local_at [] k ≡ 0
none_local zero = refl
none_local (suc k) = refl

pub new_are_books : (n : ℕ) (homes : List ℕ) (lines : List (List EditorLine)) → length lines ≡ length homes
    → AllByRecursion (λ (home : ℕ). (0 < home) × (home ≤ n)) homes
    → AreBooks (family_of (new_world n)) lines (new_books homes lines)
new_are_books n homes lines same h =
    record {
      each = each_new n homes lines same h;
      counted = λ site k some within.
          no_calls site k homes lines
          ∙ sym (ap (λ (es : History). local_at es k)
          (new_history n site some (subst (λ (m : ℕ). site ≤ m) (new_size n) within)) ∙ none_local k);
    }

pub new_homes : (homes : List ℕ) (lines : List (List EditorLine)) → length lines ≡ length homes
    → map (λ (b : BookValue). b.home) (new_books homes lines) ≡ homes
new_homes [] lines same = refl
new_homes (home ∷ homes) [] same = absurd (omega (arith, same))
new_homes (home ∷ homes) (own ∷ lines) same =
    ap (λ (l : List ℕ). home ∷ l) (new_homes homes lines (omega (arith, same)))

pub traced_among : (n : ℕ) (homes : List ℕ) (lines : List (List EditorLine)) (bytes : List ℕ)
    → length lines ≡ length homes → IsTraceFrom lines (family_of (new_world n)) (new_books homes lines) bytes
    → IsTraceAmong n homes lines bytes
traced_among n homes lines bytes same g =
    record {
      family = g.family;
      logs = g.logs;
      size = g.grown.size ∙ new_size n;
      live = subst (λ (hs : List ℕ). IsLiveFamilyOf hs lines g.family g.logs) (new_homes homes lines same) g.live;
      traced = g.traced;
    }

pub new_within : (n m : ℕ) (homes : List ℕ) (lines : List (List EditorLine)) → n ≡ m
    → AllByRecursion (λ (home : ℕ). (0 < home) × (home ≤ n)) homes
    → AllByRecursion (λ (b : BookValue). b.home ≤ m) (new_books homes lines)
new_within n m [] lines same h = tt
new_within n m (home ∷ homes) [] same h = tt
new_within n m (home ∷ homes) (own ∷ lines) same h =
    (subst (λ (k : ℕ). home ≤ k) same h.0.1, new_within n m homes lines same h.1)

pub new_world_size : (n : ℕ) → size (new_world n) ≡ n
new_world_size n = new_length n n 1

-- ---- one book after the other

pub open_next : (homes : List ℕ) (i home : ℕ) (lines left : List (List EditorLine)) (own : List EditorLine)
    (books more all : List BookValue) → i < length homes → home ≡ get_or homes i home → lines ≡ own ∷ left
    → books ++ new_books (drop i homes) lines ≡ all
    → more ≡ books ++ record { home = home; rest = all_of own; did = [] } ∷ []
    → more ++ new_books (drop (i + 1) homes) left ≡ all
open_next homes i home lines left own books more all less at first was is =
    let hs : drop i homes ≡ home ∷ drop (i + 1) homes =
    drop_more homes i home less ∙ ap (λ (h : ℕ). h ∷ drop (i + 1) homes) (sym at) in
    ap (λ (bs : List BookValue). bs ++ new_books (drop (i + 1) homes) left) is
    ∙ append_assoc books (record { home = home; rest = all_of own; did = [] } ∷ [])
    (new_books (drop (i + 1) homes) left)
    ∙ ap (λ (x : List ℕ × List (List EditorLine)). books ++ new_books x.0 x.1) (λ k. (sym hs k, sym first k)) ∙ was

pub open_all : (homes : List ℕ) (i : ℕ) (lines : List (List EditorLine)) (books all : List BookValue) → length homes ≤ i
    → books ++ new_books (drop i homes) lines ≡ all → books ≡ all
open_all homes i lines books all past was =
    sym (append-nil books) ∙ ap (λ (hs : List ℕ). books ++ new_books hs lines) (sym (drop_whole homes i past)) ∙ was
