-- The lines that an agenda keeps, the last one first, and how many calls they ask for.
use Rattle.std.proofs.Common.{◌≡◌, ◌<◌, ◌≤◌, ◌+◌, ◌-◌, ◌++◌, ◌∷◌, [], ℕ, suc, List, Option, Some, None}
use Rattle.std.proofs.Common.{length, take, replicate, arith, ap, sym, refl, ◌∙◌, length-append}
use Rattle.std.specs.Prelude.{All, MatchOption, reverse, slice_get, sum_by}
use Rattle.std.specs.List.{flat_map}
use Rattle.std.proofs.lemmas.List.{length-map, reverse-append, take_all, take_more}
use Rattle.std.proofs.lemmas.List.Sums.{sum_by-cons}
use Rattle.std.proofs.lemmas.Option.{get_or_from_slice_get, none-some, slice_get-get_or, slice_get_within}
use Rattle.std.proofs.lemmas.List.Elements.{All-head, All-tail}
use Rattle.td_base.specs.Atom.{IsAtom}
use Rattle.td_base.specs.Run.{IsRun}
use Rattle.td_base.specs.Value.{DotValue}
use Rattle.td_script.specs.declared.live.editor_line.EditorLine.{EditorLine}
use Rattle.td_script.specs.LiveScript.{calls}
use Rattle.td_text.specs.Runs.{runs_of}
use Rattle.td_text.proofs.RunLemmas.{runs_are_runs, atoms_of_runs}
use Rattle.td_live.specs.declared.ask.Ask.{Ask}
use Rattle.td_live.specs.declared.ask.Ask.TheVariants.{TypeOn}
use Rattle.td_live.specs.declared.line_calls.Behind.{Behind}
use Rattle.td_live.specs.Asking.{asks_of, typed, paste_on, pasted}
use Rattle.td_live.specs.Following.{Rest, calls_left}
use Rattle.td_live.specs.LineCalls.{asks_behind, asks_from}

-- ---- how many calls a line asks for

pub count_typed : (index : ℕ) (atoms : List (List ℕ)) → length (typed index atoms) ≤ length atoms
count_typed index [] = omega arith
count_typed index (atom ∷ atoms) = omega (arith, length-map atoms TypeOn)

count_paste_on : (before : List (List ℕ)) (runs : List (List (List ℕ))) → length (paste_on before runs) ≡ length runs
count_paste_on before [] = refl
count_paste_on before (run ∷ runs) = ap suc (count_paste_on run runs)

count_pasted_runs : (index : ℕ) (runs : List (List (List ℕ))) → length (pasted index runs) ≡ length runs
count_pasted_runs index [] = refl
count_pasted_runs index (run ∷ runs) = ap suc (count_paste_on run runs)

-- each run has an atom at least
runs_within : (runs : List (List (List ℕ))) → All IsRun runs
    → length runs ≤ length (flat_map (λ (run : List (List ℕ)). run) runs)
runs_within [] each = omega arith
runs_within (run ∷ runs) each =
    let first : IsRun run = All-head IsRun run runs each in
    let others : List (List ℕ) = flat_map (λ (r : List (List ℕ)). r) runs in
    omega (arith, first.some, runs_within runs (All-tail IsRun run runs each), length-append run others)

pub count_pasted : (index : ℕ) (atoms : List (List ℕ)) → All IsAtom atoms
    → length (pasted index (runs_of atoms)) ≤ length atoms
count_pasted index atoms each =
    omega (
      arith,
      count_pasted_runs index (runs_of atoms),
      runs_within (runs_of atoms) (runs_are_runs atoms each),
      ap length (atoms_of_runs atoms),
    )

-- ---- the lines, the last one first

pub reverse_push : {X : Type 0} (xs : List X) (x : X) → reverse (xs ++ x ∷ []) ≡ x ∷ reverse xs
reverse_push xs x = reverse-append xs (x ∷ [])

-- the last of them is the next line
pub last_is_next : {X : Type 0} (xs : List X) (x : X) → slice_get xs (length xs - 1) ≡ Some x
    → reverse xs ≡ x ∷ reverse (take (length xs - 1) xs)
last_is_next {X = X} xs x is =
    let n : ℕ = length xs - 1 in
    let within : n < length xs = slice_get_within xs n x is in
    let all : take (n + 1) xs ≡ xs = take_all (n + 1) xs (omega arith) in
    ap reverse (sym all ∙ take_more xs n x within ∙ ap (λ (y : X). take n xs ++ y ∷ [])
    (get_or_from_slice_get xs n x x is))
    ∙ reverse_push (take n xs) x

pub no_last : {X : Type 0} (xs : List X) → slice_get xs (length xs - 1) ≡ None → reverse xs ≡ []
no_last [] none = refl
no_last (x ∷ xs) none =
    let some = slice_get-get_or (x ∷ xs) (length (x ∷ xs) - 1) x (omega arith) in
    absurd (none-some _ (sym none ∙ some))

-- a line that begins asks for no more calls than were left
pub fewer_calls : (r : Rest) (line : EditorLine) (lines : List EditorLine) → r.lines ≡ line ∷ lines
    → length (asks_of line) ≤ calls line
    → calls_left (record r { asks = asks_of line; lines = lines }) ≤ calls_left r
fewer_calls r line lines is few = omega (arith, few, ap (sum_by calls) is, sum_by-cons calls line lines)

-- ---- the calls of a line, as they are kept

-- the next call is the first
pub first_is_next : (first : Option Ask) (behind : Behind) (all : List Ask) → asks_from first behind ≡ all
    → MatchOption first (all ≡ []) (λ (ask : Ask). (asks : List Ask) × (all ≡ ask ∷ asks))
first_is_next None behind all is = sym is
first_is_next (Some ask) behind all is = (asks_behind behind, sym is)

-- the next call taken off
pub behind_first : (first : Option Ask) (behind : Behind) (ask : Ask) (asks : List Ask) → asks_from first behind
    ≡ ask ∷ asks
    → asks_behind behind ≡ asks
behind_first None behind ask asks is = cc
behind_first (Some next) behind ask asks is = cc

-- what an iteration over the calls behind the next one yields
pub next_behind : (next : Option Ask) (behind left : Behind)
    → MatchOption next ((asks_behind behind ≡ []) × (asks_behind left ≡ []))
    (λ (ask : Ask). asks_behind behind ≡ ask ∷ asks_behind left)
    → asks_from next left ≡ asks_behind behind
next_behind None behind left none = sym none.0
next_behind (Some ask) behind left some = sym some

pub one_delete_less : {X : Type 0} (count : ℕ) (x : X) → 0 < count → replicate count x ≡ x ∷ replicate (count - 1) x
one_delete_less count x some =
    let more : count ≡ suc (count - 1) = omega arith in
    ap (λ (n : ℕ). replicate n x) more

-- the lines are next, of which the last is the first
pub at_a_line : (asks : List Ask) (made : Option DotValue) (kept : List EditorLine) (r : Rest)
    → record { asks = asks; made = made; lines = reverse kept } ≡ r → asks ≡ []
    → (line : EditorLine) → slice_get kept (length kept - 1) ≡ Some line
    → (r.asks ≡ []) × ((lines : List EditorLine) × (r.lines ≡ line ∷ lines))
at_a_line asks made kept r is none line last = (
  ap (λ (s : Rest). s.asks) (sym is) ∙ none,
  (reverse (take (length kept - 1) kept), ap (λ (s : Rest). s.lines) (sym is) ∙ last_is_next kept line last),
)
