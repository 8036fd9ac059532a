-- What the commands of a live script come to, one behind the other.
use Rattle.std.proofs.Common.{◌≡◌, ◌≢◌, ◌<◌, ◌≤◌, ◌+◌, ◌-◌, ⊎_elim, ℕ, zero, suc, Bool}
use Rattle.std.proofs.Common.{true, false, cond, eqb, ltb, ◌&&◌, ◌||◌}
use Rattle.std.proofs.Common.{List, [], ◌∷◌, ◌++◌, length, set, map, All, sum_by, Option, Some, None, refl, sym}
use Rattle.std.proofs.Common.{ap, subst, ◌∙◌, append-nil, length-append, zero-add, arith}
use Rattle.std.specs.Int.{IsInRange}
use Rattle.std.specs.List.{flat_map, range_with_len}
use Rattle.std.specs.Prelude.{slice_get}
use Rattle.std.proofs.lemmas.Bool.{ne_eqb, eq-eqb, ltb-false, le-ltb, cond-true}
use Rattle.std.proofs.lemmas.Bool.{cond-false, or_parts, or_from, cases_eq}
use Rattle.std.proofs.lemmas.Grind.{flat_map-append}
use Rattle.std.proofs.lemmas.List.Elements.{All-nil, All-cons, All-head, All-tail, All-push}
use Rattle.std.proofs.lemmas.List.FromFn.{get_or-map-range_with_len, map-range_with_len_more}
use Rattle.std.proofs.lemmas.List.Sums.{sum_by-append, sum_by_push}
use Rattle.td_script.specs.declared.before.TheConstants.{MAX_NARROW}
use Rattle.td_script.specs.declared.kind.Kind.{Kind}
use Rattle.td_script.specs.declared.kind.Kind.TheVariants as Fault
use Rattle.td_script.specs.declared.live.before.LiveBefore.{LiveBefore}
use Rattle.td_script.specs.declared.live.command.LiveCommand.{LiveCommand}
use Rattle.td_script.specs.declared.live.command.LiveCommand.TheVariants.{Sites, Turns, Loss, Editor, Line}
use Rattle.td_script.specs.declared.live.editor_line.EditorLine.{EditorLine}
use Rattle.td_script.specs.declared.live.script.Loss.{Loss as LossOf}
use Rattle.td_script.specs.declared.live.script.TheConstants.{MAX_ALL_CALLS, MAX_CALLS, MAX_EDITORS}
use Rattle.td_script.specs.declared.script.TheConstants.{MAX_WIDE_REQUESTS}
use Rattle.td_script.specs.LiveFaults.{fault_of_sums, lines_of_editor, live_after, with_line}
use Rattle.td_script.specs.LiveScript.{AreDeclared, IsDeclared, IsLiveCommand, calls, calls_of_command, home_of_command}
use Rattle.td_script.specs.LiveScript.{homes_in, line_at, lines_at, lines_of_all, loss_of_command, losses_in}
use Rattle.td_script.specs.LiveScript.{turns_in, turns_of_command}
use Rattle.td_script.proofs.LiveLineLaws.{LiveFollows}
use Rattle.td_script.proofs.ScriptLaws.{limit_back, limit_there}

-- ---- lists

-- what a list comes to with one more
more_of : {X Y : Type 0} (f : X → List Y) (front : List X) (c : X)
    → flat_map f (front ++ c ∷ []) ≡ flat_map f front ++ (f c ++ [])
more_of f front c = flat_map-append f front (c ∷ [])

-- which is nothing more
stays : {X Y : Type 0} (f : X → List Y) (front : List X) (c : X) → f c ≡ [] → flat_map f (front ++ c ∷ [])
    ≡ flat_map f front
stays {Y = Y} f front c e = more_of f front c ∙ ap (λ (ys : List Y). flat_map f front ++ (ys ++ [])) e
    ∙ append-nil (flat_map f front)

length_more : {X Y : Type 0} (f : X → List Y) (front : List X) (c : X)
    → length (flat_map f (front ++ c ∷ [])) ≡ length (flat_map f front) + length (f c)
length_more {Y = Y} f front c =
    ap length (more_of f front c ∙ ap (λ (ys : List Y). flat_map f front ++ ys) (append-nil (f c)))
    ∙ length-append (flat_map f front) (f c)

length_front : {X Y : Type 0} (f : X → List Y) (front back : List X)
    → length (flat_map f front) ≤ length (flat_map f (front ++ back))
length_front f front back =
    let whole : length (flat_map f (front ++ back)) ≡ length (flat_map f front) + length (flat_map f back) =
    ap length (flat_map-append f front back) ∙ length-append (flat_map f front) (flat_map f back) in
    omega arith

sum_front : {X : Type 0} (f : X → ℕ) (front back : List X) → sum_by f front ≤ sum_by f (front ++ back)
sum_front f front back =
    let whole : sum_by f (front ++ back) ≡ sum_by f front + sum_by f back = sum_by-append f front back in omega arith

all_front : {X : Type 0} (P : X → Type 0) (front back : List X) → All P (front ++ back) → All P front
all_front P [] back h = All-nil P
all_front P (x ∷ front) back h =
    All-cons P x front (All-head P x (front ++ back) h) (all_front P front back (All-tail P x (front ++ back) h))

all_at : {X : Type 0} (P : X → Type 0) (front : List X) (c : X) (back : List X) → All P (front ++ c ∷ back) → P c
all_at P [] c back h = All-head P c back h
all_at P (x ∷ front) c back h = all_at P front c back (All-tail P x (front ++ c ∷ back) h)

first_none : {X : Type 0} (xs : List X) → slice_get xs 0 ≡ None → xs ≡ []
first_none [] e = refl
first_none {X} (x ∷ xs) e = absurd (some_is_not_none e)
  where
    some_is_not_none : ◌≡◌ {A = Option X} (Some x) None → ⊥
    some_is_not_none e = cc

few_none : {X : Type 0} (xs : List X) → length xs ≤ 0 → slice_get xs 0 ≡ None
few_none [] h = refl
few_none (x ∷ xs) h = absurd (omega arith)

first_of_one : {X : Type 0} (xs : List X) (x : X) → xs ≡ [] → slice_get (xs ++ x ∷ []) 0 ≡ Some x
first_of_one {X} xs x e = ap (λ (ys : List X). slice_get (ys ++ x ∷ []) 0) e

-- ---- editors that are declared

declared_push : (editors : ℕ) (front : List LiveCommand) (c : LiveCommand) → AreDeclared editors front
    → IsDeclared (editors + length (homes_in front)) c → AreDeclared editors (front ++ c ∷ [])
declared_push editors [] c h is =
    let none : editors + 0 ≡ editors = omega arith in (subst (λ (n : ℕ). IsDeclared n c) none is, tt)
declared_push editors (first ∷ front) c h is =
    let whole : editors + length (homes_in (first ∷ front))
    ≡ editors + length (home_of_command first) + length (homes_in front) =
    ap (λ (n : ℕ). editors + n) (length-append (home_of_command first) (homes_in front)) ∙ (omega arith) in (
      h.0,
      declared_push (editors + length (home_of_command first)) front c h.1
          (subst (λ (n : ℕ). IsDeclared n c) whole is),
    )

declared_front : (editors : ℕ) (front back : List LiveCommand) → AreDeclared editors (front ++ back)
    → AreDeclared editors front
declared_front editors [] back h = tt
declared_front editors (c ∷ front) back h =
    (h.0, declared_front (editors + length (home_of_command c)) front back h.1)

declared_at : (editors : ℕ) (front : List LiveCommand) (c : LiveCommand) (back : List LiveCommand)
    → AreDeclared editors (front ++ c ∷ back) → IsDeclared (editors + length (homes_in front)) c
declared_at editors [] c back h =
    let none : editors ≡ editors + 0 = omega arith in subst (λ (n : ℕ). IsDeclared n c) none h.0
declared_at editors (first ∷ front) c back h =
    let whole : editors + length (homes_in (first ∷ front))
    ≡ editors + length (home_of_command first) + length (homes_in front) =
    ap (λ (n : ℕ). editors + n) (length-append (home_of_command first) (homes_in front)) ∙ (omega arith) in
    subst (λ (n : ℕ). IsDeclared n c) (sym whole)
    (declared_at (editors + length (home_of_command first)) front c back h.1)

-- a command has no line of an editor that comes later
no_line_at : (editors e : ℕ) (c : LiveCommand) → IsDeclared editors c → editors < e → line_at e c ≡ []
no_line_at editors e (Sites n) h late = refl
no_line_at editors e (Turns turns) h late = refl
no_line_at editors e (Loss loss) h late = refl
no_line_at editors e (Editor site) h late = refl
no_line_at editors e (Line editor line) h late =
    let other : editor ≢ e = omega (arith, h.1) in
    cond-false {A = List EditorLine} (eqb editor e) (line ∷ []) [] (ne_eqb editor e other)

no_lines_at : (editors e : ℕ) (front : List LiveCommand) → AreDeclared editors front
    → editors + length (homes_in front) < e → lines_at e front ≡ []
no_lines_at editors e [] h late = refl
no_lines_at editors e (c ∷ front) h late =
    let whole : length (homes_in (c ∷ front)) ≡ length (home_of_command c) + length (homes_in front) =
    length-append (home_of_command c) (homes_in front) in
    ap (λ (xs : List EditorLine). xs ++ lines_at e front) (no_line_at editors e c h.0 (omega arith))
    ∙ no_lines_at (editors + length (home_of_command c)) e front h.1 (omega arith)

-- ---- the lines of each editor

map_range_same : {X : Type 0} (f g : ℕ → X) (a n : ℕ) → ((e : ℕ) → a ≤ e → f e ≡ g e)
    → map f (range_with_len a n) ≡ map g (range_with_len a n)
map_range_same f g a zero h = refl
map_range_same f g a (suc n) h =
    let first : f a ≡ g a = h a (omega arith) in
    let others : map f (range_with_len (a + 1) n) ≡ map g (range_with_len (a + 1) n) =
    map_range_same f g (a + 1) n (λ e later. h e (omega arith)) in
    λ i. first i ∷ others i

-- one of the values is set
set_map_range : {X : Type 0} (f g : ℕ → X) (a n i : ℕ) (x : X) → i < n → ((e : ℕ) → e ≢ a + i → f e ≡ g e)
    → x ≡ g (a + i) → set (map f (range_with_len a n)) i x ≡ map g (range_with_len a n)
set_map_range f g a zero i x less others same = absurd (omega arith)
set_map_range {X} f g a (suc n) zero x less others same =
    let rest : map f (range_with_len (a + 1) n) ≡ map g (range_with_len (a + 1) n) =
    map_range_same f g (a + 1) n (λ e later. others e (omega arith)) in
    let here : a + 0 ≡ a = omega arith in
    let value : x ≡ g a = same ∙ ap g here in
    λ k. value k ∷ rest k
set_map_range {X} f g a (suc n) (suc i) x less others same =
    let place : a + suc i ≡ a + 1 + i = omega arith in
    let first : f a ≡ g a = others a (omega arith) in
    let rest : set (map f (range_with_len (a + 1) n)) i x ≡ map g (range_with_len (a + 1) n) =
    set_map_range f g (a + 1) n i x (omega arith) (λ e other. others e (omega arith)) (same ∙ ap g place) in
    λ k. first k ∷ rest k

-- the lines of an editor in the list of all
pub lines_of_one : (n editor : ℕ) (cs : List LiveCommand) → IsInRange 1 n editor
    → lines_of_editor (lines_of_all n cs) editor ≡ lines_at editor cs
lines_of_one n editor cs h =
    let inside : editor - 1 < n = omega (arith, h.0, h.1) in
    let place : 1 + (editor - 1) ≡ editor = omega (arith, h.0) in
    get_or-map-range_with_len (λ (e : ℕ). lines_at e cs) 1 n (editor - 1) editor [] inside place

lines_stay : (n : ℕ) (front : List LiveCommand) (c : LiveCommand) → ((e : ℕ) → line_at e c ≡ [])
    → lines_of_all n (front ++ c ∷ []) ≡ lines_of_all n front
lines_stay n front c none =
    map_range_same (λ (e : ℕ). lines_at e (front ++ c ∷ [])) (λ (e : ℕ). lines_at e front) 1 n
    (λ e later. stays (line_at e) front c (none e))

lines_with_editor : (n site : ℕ) (front : List LiveCommand) → AreDeclared 0 front → length (homes_in front) ≡ n
    → lines_of_all (length (homes_in (front ++ Editor site ∷ []))) (front ++ Editor site ∷ [])
    ≡ lines_of_all n front ++ [] ∷ []
lines_with_editor n site front declared e =
    let cs : List LiveCommand = front ++ Editor site ∷ [] in
    let count : length (homes_in cs) ≡ n + 1 = length_more home_of_command front (Editor site)
    ∙ ap (λ (m : ℕ). m + 1) e in
    let last_is : 1 + n ≡ n + 1 = omega arith in
    let none : lines_at (n + 1) cs ≡ [] =
    stays (line_at (n + 1)) front (Editor site) refl
    ∙ no_lines_at 0 (n + 1) front declared (omega arith) in
    ap (λ (m : ℕ). lines_of_all m cs) count
    ∙ map-range_with_len_more (λ (e : ℕ). lines_at e cs) 1 n (n + 1) last_is
    ∙ ap (λ (xs : List EditorLine). lines_of_all n cs ++ xs ∷ []) none
    ∙ ap (λ (xs : List (List EditorLine)). xs ++ [] ∷ []) (lines_stay n front (Editor site) (λ e. refl))

lines_with_line : (n editor : ℕ) (line : EditorLine) (front : List LiveCommand) → IsInRange 1 n editor
    → with_line (lines_of_all n front) editor line ≡ lines_of_all n (front ++ Line editor line ∷ [])
lines_with_line n editor line front h =
    let inside : editor - 1 < n = omega (arith, h.0, h.1) in
    let place : 1 + (editor - 1) ≡ editor = omega (arith, h.0) in
    let f : ℕ → List EditorLine = λ e. lines_at e front in
    let g : ℕ → List EditorLine = λ e. lines_at e (front ++ Line editor line ∷ []) in
    let here : g editor ≡ f editor ++ line ∷ [] =
    more_of (line_at editor) front (Line editor line)
    ∙ ap (λ (xs : List EditorLine). f editor ++ (xs ++ []))
    (cond-true {A = List EditorLine} (eqb editor editor) (line ∷ []) [] (eq-eqb editor editor refl)) in
    set_map_range f g 1 n (editor - 1) (lines_of_editor (lines_of_all n front) editor ++ line ∷ []) inside
    (λ e other.
    let differ : editor ≢ e = omega arith in
    sym (stays (line_at e) front (Line editor line)
    (cond-false {A = List EditorLine} (eqb editor e) (line ∷ []) [] (ne_eqb editor e differ))))
    (ap (λ (xs : List EditorLine). xs ++ line ∷ []) (lines_of_one n editor front h) ∙ sym here
    ∙ ap g (sym place))

-- ---- what stands before a line

-- what so many sites and the commands behind them come to
abbrev pub before_of : ℕ → List LiveCommand → LiveBefore
before_of sites cs = record {
  sites = sites;
  turns = slice_get (turns_in cs) 0;
  loss = slice_get (losses_in cs) 0;
  homes = homes_in cs;
  lines = lines_of_all (length (homes_in cs)) cs;
  calls = sum_by calls_of_command cs;
}

same_before : (sites : ℕ) {turns turns' : Option ℕ} {loss loss' : Option LossOf} {homes homes' : List ℕ}
    {lines lines' : List (List EditorLine)} {asked asked' : ℕ} → turns ≡ turns' → loss ≡ loss' → homes ≡ homes'
    → lines ≡ lines' → asked ≡ asked'
    → ◌≡◌ {A = LiveBefore}
    (record { sites = sites; turns = turns; loss = loss; homes = homes; lines = lines; calls = asked })
    (record { sites = sites; turns = turns'; loss = loss'; homes = homes'; lines = lines'; calls = asked' })
same_before sites a b c d e =
    λ i. record { sites = sites; turns = a i; loss = b i; homes = c i; lines = d i; calls = e i }

first_stays : {Y : Type 0} (f : LiveCommand → List Y) (front : List LiveCommand) (c : LiveCommand) → f c ≡ []
    → slice_get (flat_map f front) 0 ≡ slice_get (flat_map f (front ++ c ∷ [])) 0
first_stays {Y} f front c e = ap (λ (ys : List Y). slice_get ys 0) (sym (stays f front c e))

calls_stay : (front : List LiveCommand) (c : LiveCommand) → calls_of_command c ≡ 0
    → sum_by calls_of_command front ≡ sum_by calls_of_command (front ++ c ∷ [])
calls_stay front c none =
    let whole : sum_by calls_of_command (front ++ c ∷ []) ≡ sum_by calls_of_command front + calls_of_command c =
    sum_by_push calls_of_command front c in
    omega arith

all_lines_stay : (front : List LiveCommand) (c : LiveCommand) → home_of_command c ≡ [] → ((e : ℕ) → line_at e c ≡ [])
    → lines_of_all (length (homes_in front)) front
    ≡ lines_of_all (length (homes_in (front ++ c ∷ []))) (front ++ c ∷ [])
all_lines_stay front c no_home no_line =
    sym (ap (λ (xs : List ℕ). lines_of_all (length xs) (front ++ c ∷ [])) (stays home_of_command front c no_home)
    ∙ lines_stay (length (homes_in front)) front c no_line)

-- one more command comes to what the rule of what stands before a line says
pub after_is : (sites : ℕ) (front : List LiveCommand) (c : LiveCommand) → AreDeclared 0 front
    → LiveFollows (before_of sites front) c
    → live_after (before_of sites front) c ≡ before_of sites (front ++ c ∷ [])
after_is sites front (Sites n) declared h = absurd h.fits
after_is sites front (Turns turns) declared h =
    let none : turns_in front ≡ [] = first_none (turns_in front) h.place in
    same_before sites
    (sym (ap (λ (xs : List ℕ). slice_get xs 0) (more_of turns_of_command front (Turns turns))
    ∙ first_of_one (turns_in front) turns none))
    (first_stays loss_of_command front (Turns turns) refl)
    (sym (stays home_of_command front (Turns turns) refl))
    (all_lines_stay front (Turns turns) refl (λ e. refl))
    (calls_stay front (Turns turns) refl)
after_is sites front (Loss loss) declared h =
    let none : losses_in front ≡ [] = first_none (losses_in front) h.place in
    same_before sites
    (first_stays turns_of_command front (Loss loss) refl)
    (sym (ap (λ (xs : List LossOf). slice_get xs 0) (more_of loss_of_command front (Loss loss))
    ∙ first_of_one (losses_in front) loss none))
    (sym (stays home_of_command front (Loss loss) refl))
    (all_lines_stay front (Loss loss) refl (λ e. refl))
    (calls_stay front (Loss loss) refl)
after_is sites front (Editor site) declared h =
    same_before sites
    (first_stays turns_of_command front (Editor site) refl)
    (first_stays loss_of_command front (Editor site) refl)
    (sym (more_of home_of_command front (Editor site)))
    (sym (lines_with_editor (length (homes_in front)) site front declared refl))
    (calls_stay front (Editor site) refl)
after_is sites front (Line editor line) declared h =
    same_before sites
    (first_stays turns_of_command front (Line editor line) refl)
    (first_stays loss_of_command front (Line editor line) refl)
    (sym (stays home_of_command front (Line editor line) refl))
    (lines_with_line (length (homes_in front)) editor line front h.place
    ∙ ap (λ (xs : List ℕ). lines_of_all (length xs) (front ++ Line editor line ∷ []))
    (sym (stays home_of_command front (Line editor line) refl)))
    (sym (sum_by_push calls_of_command front (Line editor line)))

-- ---- the limits

-- the commands behind `sites`
pub record AreLiveOthers (sites : ℕ) (cs : List LiveCommand) : Type 0 where
  pub each : All (IsLiveCommand sites) cs
  pub declared : AreDeclared 0 cs
  pub turns : length (turns_in cs) ≤ 1
  pub losses : length (losses_in cs) ≤ 1
  pub editors : length (homes_in cs) ≤ MAX_EDITORS
  pub requests : MAX_NARROW < sites → sum_by calls_of_command cs ≤ MAX_WIDE_REQUESTS
  pub own : (e : ℕ) → sum_by calls (lines_at e cs) ≤ MAX_CALLS
  pub all : sum_by calls_of_command cs ≤ MAX_ALL_CALLS

pub no_others : (sites : ℕ) → AreLiveOthers sites []
no_others sites = record {
  each = All-nil (IsLiveCommand sites);
  declared = tt;
  turns = omega arith;
  losses = omega arith;
  editors = omega arith;
  requests = λ h. omega arith;
  own = λ e. omega arith;
  all = omega arith;
}

own_front : (e : ℕ) (front back : List LiveCommand)
    → sum_by calls (lines_at e front) ≤ sum_by calls (lines_at e (front ++ back))
own_front e front back =
    subst (λ (xs : List EditorLine). sum_by calls (lines_at e front) ≤ sum_by calls xs)
    (sym (flat_map-append (line_at e) front back)) (sum_front calls (lines_at e front) (lines_at e back))

-- a front of such commands is one
pub others_front : (sites : ℕ) (front back : List LiveCommand) → AreLiveOthers sites (front ++ back)
    → AreLiveOthers sites front
others_front sites front back h =
    let one : length (turns_in front) ≤ length (turns_in (front ++ back)) = length_front turns_of_command front back in
    let two : length (losses_in front) ≤ length (losses_in (front ++ back)) = length_front loss_of_command front back in
    let three : length (homes_in front) ≤ length (homes_in (front ++ back)) = length_front home_of_command front back in
    let sum : sum_by calls_of_command front ≤ sum_by calls_of_command (front ++ back) =
    sum_front calls_of_command front back in
    record {
      each = all_front (IsLiveCommand sites) front back h.each;
      declared = declared_front 0 front back h.declared;
      turns = omega (arith, h.turns);
      losses = omega (arith, h.losses);
      editors = omega (arith, h.editors);
      requests = λ wide. omega (arith, h.requests wide);
      own = λ e. let less = own_front e front back in omega (arith, less, h.own e);
      all = omega (arith, h.all);
    }

-- what one more command adds is within the limits
record AddsWithin (sites : ℕ) (front : List LiveCommand) (c : LiveCommand) : Type 0 where
  requests : MAX_NARROW < sites → sum_by calls_of_command front + calls_of_command c ≤ MAX_WIDE_REQUESTS
  own : (e : ℕ) → sum_by calls (lines_at e front) + sum_by calls (line_at e c) ≤ MAX_CALLS
  all : sum_by calls_of_command front + calls_of_command c ≤ MAX_ALL_CALLS

-- the sums of a line that has no fault
record AreSums (sites all own : ℕ) : Type 0 where
  wide : MAX_NARROW < sites → all ≤ MAX_WIDE_REQUESTS
  each : own ≤ MAX_CALLS
  total : all ≤ MAX_ALL_CALLS

sums_back : (sites all own : ℕ) → fault_of_sums sites all own ≡ None → AreSums sites all own
sums_back sites all own e =
    go (ltb MAX_NARROW sites && ltb MAX_WIDE_REQUESTS all) (ltb MAX_CALLS own || ltb MAX_ALL_CALLS all) refl refl e
  where
    some_is_not_none : (kind : Kind) → ◌≡◌ {A = Option Kind} (Some kind) None → ⊥
    some_is_not_none kind e = cc

    go : (wide many : Bool) → (ltb MAX_NARROW sites && ltb MAX_WIDE_REQUESTS all) ≡ wide
        → (ltb MAX_CALLS own || ltb MAX_ALL_CALLS all) ≡ many
        → cond {A = Option Kind} wide (Some Fault.Size) (cond {A = Option Kind} many (Some Fault.Calls) None) ≡ None
        → AreSums sites all own
    go true many f g e = absurd (some_is_not_none Fault.Size e)
    go false true f g e = absurd (some_is_not_none Fault.Calls e)
    go false false f g e =
        let parts = or_parts (ltb MAX_CALLS own) (ltb MAX_ALL_CALLS all) g in
        record {
          wide = limit_back MAX_NARROW sites MAX_WIDE_REQUESTS all f;
          each = ltb-false MAX_CALLS own parts.0;
          total = ltb-false MAX_ALL_CALLS all parts.1;
        }

sums_there : (sites all own : ℕ) → AreSums sites all own → fault_of_sums sites all own ≡ None
sums_there sites all own h =
    cond-false {A = Option Kind} (ltb MAX_NARROW sites && ltb MAX_WIDE_REQUESTS all) (Some Fault.Size)
    (cond {A = Option Kind} (ltb MAX_CALLS own || ltb MAX_ALL_CALLS all) (Some Fault.Calls) None)
    (limit_there MAX_NARROW sites MAX_WIDE_REQUESTS all h.wide)
    ∙ cond-false {A = Option Kind} (ltb MAX_CALLS own || ltb MAX_ALL_CALLS all) (Some Fault.Calls) None
    (or_from (ltb MAX_CALLS own) (ltb MAX_ALL_CALLS all) (le-ltb MAX_CALLS own h.each)
    (le-ltb MAX_ALL_CALLS all h.total))

-- a command that is no line adds nothing
nothing_added : (sites : ℕ) (front : List LiveCommand) (c : LiveCommand) → AreLiveOthers sites front
    → calls_of_command c ≡ 0 → ((e : ℕ) → line_at e c ≡ []) → AddsWithin sites front c
nothing_added sites front c h none no_line = record {
  requests = λ wide. omega (arith, h.requests wide, none);
  own = λ e.
      let zero_more : sum_by calls (line_at e c) ≡ 0 = ap (λ (xs : List EditorLine). sum_by calls xs) (no_line e) in
      omega (arith, h.own e, zero_more);
  all = omega (arith, h.all, none);
}

own_line : (editor e : ℕ) (line : EditorLine) (same : Bool) → eqb editor e ≡ same
    → sum_by calls (cond {A = List EditorLine} same (line ∷ []) []) ≤ calls line
own_line editor e line true h = omega arith
own_line editor e line false h = omega arith

adds_back : (sites : ℕ) (front : List LiveCommand) (c : LiveCommand) → AreLiveOthers sites front
    → LiveFollows (before_of sites front) c → AddsWithin sites front c
adds_back sites front (Sites n) others h = absurd h.fits
adds_back sites front (Turns turns) others h = nothing_added sites front (Turns turns) others refl (λ e. refl)
adds_back sites front (Loss loss) others h = nothing_added sites front (Loss loss) others refl (λ e. refl)
adds_back sites front (Editor site) others h = nothing_added sites front (Editor site) others refl (λ e. refl)
adds_back sites front (Line editor line) others h =
    let n = length (homes_in front) in
    let sums = sums_back sites (sum_by calls_of_command front + calls line)
    (sum_by calls (lines_of_editor (lines_of_all n front) editor) + calls line) h.sums in
    let here : sum_by calls (lines_at editor front) + calls line ≤ MAX_CALLS =
    subst (λ (xs : List EditorLine). sum_by calls xs + calls line ≤ MAX_CALLS) (lines_of_one n editor front h.place)
    sums.each in
    record {
      requests = sums.wide;
      own = λ e. ⊎_elim
          (λ (same : editor ≡ e).
          let at : sum_by calls (lines_at e front) + calls line ≤ MAX_CALLS =
          subst (λ (x : ℕ). sum_by calls (lines_at x front) + calls line ≤ MAX_CALLS) same here in
          let less = own_line editor e line (eqb editor e) refl in omega (arith, at, less))
          (λ (other : editor ≡ e → ⊥).
          let none : sum_by calls (line_at e (Line editor line)) ≡ 0 =
          ap (λ (xs : List EditorLine). sum_by calls xs)
          (cond-false {A = List EditorLine} (eqb editor e) (line ∷ []) [] (ne_eqb editor e other)) in
          omega (arith, others.own e, none))
          (cases_eq editor e);
      all = sums.total;
    }

-- how much a place of its own gives room for
record HasRoom (front : List LiveCommand) (c : LiveCommand) : Type 0 where
  turns : length (turns_in front) + length (turns_of_command c) ≤ 1
  losses : length (losses_in front) + length (loss_of_command c) ≤ 1
  editors : length (homes_in front) + length (home_of_command c) ≤ MAX_EDITORS
  declared : IsDeclared (length (homes_in front)) c

room_back : (sites : ℕ) (front : List LiveCommand) (c : LiveCommand) → AreLiveOthers sites front
    → LiveFollows (before_of sites front) c → HasRoom front c
room_back sites front (Sites n) others h = absurd h.fits
room_back sites front (Turns turns) others h =
    let none : length (turns_in front) ≡ 0 = ap length (first_none (turns_in front) h.place) in
    record {
      turns = omega arith;
      losses = omega (arith, others.losses);
      editors = omega (arith, others.editors);
      declared = tt;
    }
room_back sites front (Loss loss) others h =
    let none : length (losses_in front) ≡ 0 = ap length (first_none (losses_in front) h.place) in
    record {
      turns = omega (arith, others.turns);
      losses = omega arith;
      editors = omega (arith, others.editors);
      declared = tt;
    }
room_back sites front (Editor site) others h =
    record {
      turns = omega (arith, others.turns);
      losses = omega (arith, others.losses);
      editors = omega (arith, h.place);
      declared = tt;
    }
room_back sites front (Line editor line) others h =
    record {
      turns = omega (arith, others.turns);
      losses = omega (arith, others.losses);
      editors = omega (arith, others.editors);
      declared = h.place;
    }

-- commands and one more
pub others_push : (sites : ℕ) (front : List LiveCommand) (c : LiveCommand) → AreLiveOthers sites front
    → LiveFollows (before_of sites front) c → AreLiveOthers sites (front ++ c ∷ [])
others_push sites front c others h =
    let adds = adds_back sites front c others h in
    let room = room_back sites front c others h in
    let one : length (turns_in (front ++ c ∷ [])) ≡ length (turns_in front) + length (turns_of_command c) =
    length_more turns_of_command front c in
    let two : length (losses_in (front ++ c ∷ [])) ≡ length (losses_in front) + length (loss_of_command c) =
    length_more loss_of_command front c in
    let three : length (homes_in (front ++ c ∷ [])) ≡ length (homes_in front) + length (home_of_command c) =
    length_more home_of_command front c in
    let sum : sum_by calls_of_command (front ++ c ∷ []) ≡ sum_by calls_of_command front + calls_of_command c =
    sum_by_push calls_of_command front c in
    record {
      each = All-push (IsLiveCommand sites) front c others.each h.fits;
      declared = declared_push 0 front c others.declared
          (subst (λ (n : ℕ). IsDeclared n c) (sym (zero-add (length (homes_in front)))) room.declared);
      turns = omega (arith, room.turns);
      losses = omega (arith, room.losses);
      editors = omega (arith, room.editors);
      requests = λ wide. omega (arith, adds.requests wide);
      own = λ e.
          let whole : sum_by calls (lines_at e (front ++ c ∷ []))
          ≡ sum_by calls (lines_at e front) + sum_by calls (line_at e c) = own_more e front c in
          omega (arith, whole, adds.own e);
      all = omega (arith, adds.all);
    }
  where
    own_more : (e : ℕ) (front : List LiveCommand) (c : LiveCommand)
        → sum_by calls (lines_at e (front ++ c ∷ [])) ≡ sum_by calls (lines_at e front) + sum_by calls (line_at e c)
    own_more e front c =
        ap (λ (xs : List EditorLine). sum_by calls xs) (more_of (line_at e) front c
        ∙ ap (λ (xs : List EditorLine). lines_at e front ++ xs) (append-nil (line_at e c)))
        ∙ sum_by-append calls (lines_at e front) (line_at e c)

-- the last of such commands has its place behind the others
pub last_follows : (sites : ℕ) (front : List LiveCommand) (c : LiveCommand) → 1 ≤ sites
    → AreLiveOthers sites (front ++ c ∷ []) → LiveFollows (before_of sites front) c
last_follows sites front (Sites n) some h = absurd (all_at (IsLiveCommand sites) front (Sites n) [] h.each)
last_follows sites front (Turns turns) some h =
    let one : length (turns_in (front ++ Turns turns ∷ [])) ≡ length (turns_in front) + 1 =
    length_more turns_of_command front (Turns turns) in
    record {
      some = some;
      fits = all_at (IsLiveCommand sites) front (Turns turns) [] h.each;
      place = few_none (turns_in front) (omega (arith, h.turns));
      sums = refl;
    }
last_follows sites front (Loss loss) some h =
    let one : length (losses_in (front ++ Loss loss ∷ [])) ≡ length (losses_in front) + 1 =
    length_more loss_of_command front (Loss loss) in
    record {
      some = some;
      fits = all_at (IsLiveCommand sites) front (Loss loss) [] h.each;
      place = few_none (losses_in front) (omega (arith, h.losses));
      sums = refl;
    }
last_follows sites front (Editor site) some h =
    let one : length (homes_in (front ++ Editor site ∷ [])) ≡ length (homes_in front) + 1 =
    length_more home_of_command front (Editor site) in
    record {
      some = some;
      fits = all_at (IsLiveCommand sites) front (Editor site) [] h.each;
      place = omega (arith, h.editors);
      sums = refl;
    }
last_follows sites front (Line editor line) some h =
    let n = length (homes_in front) in
    let place : IsInRange 1 n editor = subst (λ (m : ℕ). IsInRange 1 m editor) (zero-add n)
    (declared_at 0 front (Line editor line) [] h.declared) in
    let sum : sum_by calls_of_command (front ++ Line editor line ∷ []) ≡ sum_by calls_of_command front + calls line =
    sum_by_push calls_of_command front (Line editor line) in
    let own : sum_by calls (lines_at editor (front ++ Line editor line ∷ []))
    ≡ sum_by calls (lines_of_editor (lines_of_all n front) editor) + calls line =
    ap (λ (xs : List EditorLine). sum_by calls xs)
    (more_of (line_at editor) front (Line editor line)
    ∙ ap (λ (xs : List EditorLine). lines_at editor front ++ (xs ++ []))
    (cond-true {A = List EditorLine} (eqb editor editor) (line ∷ []) [] (eq-eqb editor editor refl)))
    ∙ sum_by_push calls (lines_at editor front) line
    ∙ ap (λ (xs : List EditorLine). sum_by calls xs + calls line) (sym (lines_of_one n editor front place)) in
    record {
      some = some;
      fits = all_at (IsLiveCommand sites) front (Line editor line) [] h.each;
      place = place;
      sums = sums_there sites (sum_by calls_of_command front + calls line)
          (sum_by calls (lines_of_editor (lines_of_all n front) editor) + calls line) (record {
            wide = λ wide. omega (arith, h.requests wide);
            each = omega (arith, h.own editor, own);
            total = omega (arith, h.all);
          });
    }
