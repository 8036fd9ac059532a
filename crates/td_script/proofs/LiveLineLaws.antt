-- What is judged of a line of a live script: a command where the line is the line of a command that can stand there,
-- and only there.
use Rattle.std.proofs.Common.{◌≡◌, ◌≢◌, ◌<◌, ◌≤◌, ◌^◌, ℕ, Bool, true, false, cond, eqb, ltb, List, []}
use Rattle.std.proofs.Common.{◌++◌, length, codes, Option, Some, None, Result, Ok, Err, refl, sym, ap, subst, ◌∙◌}
use Rattle.std.proofs.Common.{append-nil, bytes_eq, IsUtf8, arith}
use Rattle.std.specs.Int.{is_in_range, IsInRange}
use Rattle.std.specs.List.{list_all}
use Rattle.std.specs.Prelude.{is_some, nat_le}
use Rattle.std.proofs.lemmas.Bool.{eqb-false, ne_eqb, ltb-false, le-ltb, leb-true}
use Rattle.std.proofs.lemmas.Bool.{leb-false, le-leb, lt-leb, cond-false}
use Rattle.std.proofs.lemmas.Slice.Eq.{bytes_eq-Decides}
use Rattle.td_base.proofs.Searches.{find_In}
use Rattle.td_base.specs.declared.site.TheConstants.{MAX_SITE}
use Rattle.unicode_segmentation.proofs.TextLemmas.{IsUtf8-after}
use Rattle.td_script.specs.declared.kind.Kind.{Kind}
use Rattle.td_script.specs.declared.kind.Kind.TheVariants as Fault
use Rattle.td_script.specs.declared.live.before.LiveBefore.{LiveBefore}
use Rattle.td_script.specs.declared.live.command.LiveCommand.{LiveCommand}
use Rattle.td_script.specs.declared.live.command.LiveCommand.TheVariants.{Sites, Turns, Loss, Editor, Line}
use Rattle.td_script.specs.declared.live.editor_line.EditorLine.{EditorLine}
use Rattle.td_script.specs.declared.live.editor_line.EditorLine.TheVariants as Asked
use Rattle.td_script.specs.declared.live.script.TheConstants.{MAX_ALL_CALLS, MAX_EDITORS, MAX_TURNS}
use Rattle.td_script.specs.declared.live.word.LiveWord.{LiveWord}
use Rattle.td_script.specs.declared.live.word.LiveWord.TheVariants as First
use Rattle.td_script.specs.declared.live.word.EditorWord.{EditorWord}
use Rattle.td_script.specs.declared.live.word.EditorWord.TheVariants as At
use Rattle.td_script.specs.Arguments.{by_word, cut_word, last, site_of}
use Rattle.td_script.specs.Lines.{is_skipped}
use Rattle.td_script.specs.LiveFaults.{HasPlace, editor_line, editor_of, is_live_misplaced, live_command}
use Rattle.td_script.specs.LiveFaults.{live_command_named, live_judged, sum_fault, surplus, turns_of, unless}
use Rattle.td_script.specs.LiveFaults.{within_calls}
use Rattle.td_script.specs.LiveScript.{IsEditorLine, IsLiveCommand}
use Rattle.td_script.specs.LiveSpelling.{line_of_editor, live_line_of}
use Rattle.td_script.specs.LiveWords.{live_spelling, live_word_named, live_words}
use Rattle.td_script.specs.Script.{IsLine}
use Rattle.td_script.specs.Shared.{index_and_text, mapped, place_at, proposal_at, sites_at, two_numbers}
use Rattle.td_script.specs.Spelling.{spaced, spaced_dot, spaced_place, spaced_text}
use Rattle.td_script.proofs.ArgumentLaws.{site_at_back, site_at_there, tested_at_back, tested_at_there}
use Rattle.td_script.proofs.JudgingLaws.{IsJudged, judged_line_back, judged_line_there}
use Rattle.td_script.proofs.LineLaws.{ascii_by_test}
use Rattle.td_script.proofs.Results.{err_is_no_ok, in_range, ok_same, range_in}
use Rattle.td_script.proofs.SharedLaws.{IsSitesFor, ended, lacks_behind, mapped_back, mapped_there, sites_back}
use Rattle.td_script.proofs.SharedLaws.{sites_there, index_and_text_back, index_and_text_there, place_back, place_open}
use Rattle.td_script.proofs.SharedLaws.{place_there, proposal_back, proposal_there, spaced_utf8, two_numbers_back}
use Rattle.td_script.proofs.SharedLaws.{two_numbers_there}
use Rattle.td_script.proofs.Splitting.{Lacks}
use Rattle.td_script.proofs.WordLaws.{IsOpen, behind_back, behind_there, cut_back, last_back}

-- ---- what can stand there

-- a command can follow others
pub record LiveFollows (before : LiveBefore) (c : LiveCommand) : Type 0 where
  pub some : 1 ≤ before.sites
  pub fits : IsLiveCommand before.sites c
  pub place : HasPlace before c
  pub sums : sum_fault before c ≡ None

-- a command can stand behind what stands before it: `sites` first, and the others behind it
pub data LiveCanStand (size : ℕ) (before : LiveBefore) (c : LiveCommand) : Type 0 where
  live_begins : (n : ℕ) → c ≡ Sites n → before.sites ≡ 0 → IsSitesFor size n → LiveCanStand size before c
  live_follows : LiveFollows before c → LiveCanStand size before c

pub has_place : (size : ℕ) (before : LiveBefore) (c : LiveCommand) → LiveCanStand size before c → HasPlace before c
has_place size before c (live_begins n e none fits) = subst (HasPlace before) (sym e) none
has_place size before c (live_follows is) = is.place

pub no_sum_fault : (size : ℕ) (before : LiveBefore) (c : LiveCommand) → LiveCanStand size before c
    → sum_fault before c ≡ None
no_sum_fault size before c (live_begins n e none fits) =
    subst (λ (x : LiveCommand). sum_fault before x ≡ None) (sym e) refl
no_sum_fault size before c (live_follows is) = is.sums

-- what stands before a line is in the limits
pub record IsLiveGood (before : LiveBefore) : Type 0 where
  pub sites : before.sites ≤ MAX_SITE
  pub editors : length before.homes ≤ MAX_EDITORS
  pub pairs : length before.lines ≡ length before.homes
  pub calls : before.calls ≤ MAX_ALL_CALLS

-- ---- the first words

editor_spelling_ascii : (word : EditorWord) → list_all (λ b. ltb b 128) (live_spelling (First.AtEditor word)) ≡ true
editor_spelling_ascii At.Ins = refl
editor_spelling_ascii At.Paste = refl
editor_spelling_ascii At.Del = refl
editor_spelling_ascii At.Flat = refl
editor_spelling_ascii At.Cancel = refl
editor_spelling_ascii At.Look = refl

spelling_utf8 : (word : LiveWord) → IsUtf8 (live_spelling word)
spelling_utf8 First.Sites = ascii_by_test (codes "sites") refl
spelling_utf8 First.Turns = ascii_by_test (codes "turns") refl
spelling_utf8 First.Loss = ascii_by_test (codes "loss") refl
spelling_utf8 First.Editor = ascii_by_test (codes "editor") refl
spelling_utf8 (First.AtEditor word) =
    ascii_by_test (live_spelling (First.AtEditor word)) (editor_spelling_ascii word)

editor_word_named : (word : EditorWord) → live_word_named (live_spelling (First.AtEditor word))
    ≡ Some (First.AtEditor word)
editor_word_named At.Ins = refl
editor_word_named At.Paste = refl
editor_word_named At.Del = refl
editor_word_named At.Flat = refl
editor_word_named At.Cancel = refl
editor_word_named At.Look = refl

named_there : (word : LiveWord) → live_word_named (live_spelling word) ≡ Some word
named_there First.Sites = refl
named_there First.Turns = refl
named_there First.Loss = refl
named_there First.Editor = refl
named_there (First.AtEditor word) = editor_word_named word

named_back : (name : List ℕ) (word : LiveWord) → live_word_named name ≡ Some word → live_spelling word ≡ name
named_back name word e = (bytes_eq-Decides (live_spelling word) name).0
    (find_In (λ w. bytes_eq (live_spelling w) name) live_words word e).1

-- ---- what is read

-- what a line asks of its editor, and how it is written
abbrev pub IsAsked : ℕ → ℕ → EditorWord → List ℕ → EditorLine → Type 0
IsAsked sites editor word rest line =
    IsEditorLine sites line
    × (live_spelling (First.AtEditor word) ++ (spaced editor ++ rest) ≡ line_of_editor editor line)

asked_with : (sites editor : ℕ) (word : EditorWord) (rest written : List ℕ) (made line : EditorLine) → made ≡ line
    → rest ≡ written → IsEditorLine sites made
    → live_spelling (First.AtEditor word) ++ (spaced editor ++ written) ≡ line_of_editor editor made
    → IsAsked sites editor word rest line
asked_with sites editor word rest written made line e whole fits spelled =
    subst (IsAsked sites editor word rest) e
    (fits, ap (λ (xs : List ℕ). live_spelling (First.AtEditor word) ++ (spaced editor ++ xs)) whole ∙ spelled)

editor_line_back : (sites editor : ℕ) (word : EditorWord) (rest : List ℕ) (line : EditorLine) → IsUtf8 rest
    → Lacks 10 rest → editor_line sites word rest ≡ Ok line → IsAsked sites editor word rest line
editor_line_back sites editor At.Ins rest line u lacks e =
    let got = mapped_back (λ asked. Asked.Ins asked.0 asked.1) (index_and_text rest) line e in
    let asked = index_and_text_back rest got.0 u lacks got.1 in
    asked_with sites editor At.Ins rest _ (Asked.Ins got.0.0 got.0.1) line got.2 asked.whole asked.fits refl
editor_line_back sites editor At.Paste rest line u lacks e =
    let got = mapped_back (λ asked. Asked.Paste asked.0 asked.1) (index_and_text rest) line e in
    let asked = index_and_text_back rest got.0 u lacks got.1 in
    asked_with sites editor At.Paste rest _ (Asked.Paste got.0.0 got.0.1) line got.2 asked.whole asked.fits refl
editor_line_back sites editor At.Del rest line u lacks e =
    let got = mapped_back (λ asked. Asked.Del asked.0 asked.1) (two_numbers rest) line e in
    let asked = two_numbers_back rest got.0 got.1 in
    asked_with sites editor At.Del rest _ (Asked.Del got.0.0 got.0.1) line got.2 asked.whole asked.fits refl
editor_line_back sites editor At.Flat rest line u lacks e =
    let got = mapped_back (λ place. Asked.Flat place) (place_at rest) line e in
    let asked = place_back rest got.0 got.1 in
    asked_with sites editor At.Flat rest _ (Asked.Flat got.0) line got.2 asked.whole asked.fits refl
editor_line_back sites editor At.Cancel rest line u lacks e =
    let got = mapped_back (λ proposal. Asked.Cancel proposal) (proposal_at sites rest) line e in
    let asked = proposal_back sites rest got.0 got.1 in
    asked_with sites editor At.Cancel rest _ (Asked.Cancel got.0) line got.2 asked.whole asked.fits refl
editor_line_back sites editor At.Look rest line u lacks e =
    let end = last_back Asked.Look line rest e in
    subst (IsAsked sites editor At.Look rest) end.0
    (tt, ap (λ (xs : List ℕ). codes "look" ++ xs) (ended (spaced editor) rest end.1))

-- a command of which the word is known, as far as its arguments tell
data IsLivePlaced (size : ℕ) (before : LiveBefore) (word : LiveWord) (c : LiveCommand) : Type 0 where
  live_first : (n : ℕ) → c ≡ Sites n → word ≡ First.Sites → IsSitesFor size n → IsLivePlaced size before word c
  live_later : IsLiveCommand before.sites c → (surplus before word ≡ None → HasPlace before c)
      → ((sites : ℕ) → is_live_misplaced sites word ≡ eqb sites 0) → IsLivePlaced size before word c

record SaysLive (size : ℕ) (before : LiveBefore) (word : LiveWord) (rest : List ℕ) (c : LiveCommand) : Type 0 where
  whole : live_spelling word ++ rest ≡ live_line_of c
  placed : IsLivePlaced size before word c

sites_command_back : (size : ℕ) (before : LiveBefore) (rest : List ℕ) (c : LiveCommand)
    → live_command size before.sites (length before.homes) First.Sites rest ≡ Ok c
    → SaysLive size before First.Sites rest c
sites_command_back size before rest c e =
    let got = mapped_back (λ n. Sites n) (sites_at size rest) c e in
    let sites = sites_back size rest got.0 got.1 in
    subst (SaysLive size before First.Sites rest) got.2 (record {
      whole = ap (λ (xs : List ℕ). codes "sites" ++ xs) sites.whole;
      placed = live_first got.0 refl refl sites.fits;
    })

-- nothing was said before where that is no surplus
none_said : {X : Type 0} (o : Option X) (kind : Kind)
    → cond {A = Option Kind} (is_some o) (Some kind) None ≡ None → o ≡ None
none_said None kind e = refl
none_said {X} (Some x) kind e = absurd (some_is_not_none e)
  where
    some_is_not_none : ◌≡◌ {A = Option Kind} (Some kind) None → ⊥
    some_is_not_none e = cc

few_enough : (n : ℕ) (full : Bool) → nat_le MAX_EDITORS n ≡ full
    → cond {A = Option Kind} full (Some Fault.Editor) None ≡ None → n < MAX_EDITORS
few_enough n true h e = absurd (some_is_not_none e)
  where
    some_is_not_none : ◌≡◌ {A = Option Kind} (Some Fault.Editor) None → ⊥
    some_is_not_none e = cc
few_enough n false h e = leb-false MAX_EDITORS n h

turns_command_back : (size : ℕ) (before : LiveBefore) (rest : List ℕ) (c : LiveCommand)
    → live_command size before.sites (length before.homes) First.Turns rest ≡ Ok c
    → SaysLive size before First.Turns rest c
turns_command_back size before rest c e =
    let first = behind_back (by_word turns_of rest) _ c e in
    let turns = tested_at_back (λ turns. nat_le turns MAX_TURNS) Fault.Turns (λ n. n ≤ MAX_TURNS)
    (λ n h. leb-true n MAX_TURNS h) rest first.value first.rest first.is in
    let end = last_back (Turns first.value) c first.rest first.then_is in
    subst (SaysLive size before First.Turns rest) end.0 (record {
      whole = ap (λ (xs : List ℕ). codes "turns" ++ xs) (turns.whole ∙ ended (spaced first.value) first.rest end.1);
      placed = live_later turns.fits (λ none. none_said before.turns Fault.Turns none) (λ sites. refl);
    })

loss_command_back : (size : ℕ) (before : LiveBefore) (rest : List ℕ) (c : LiveCommand)
    → live_command size before.sites (length before.homes) First.Loss rest ≡ Ok c
    → SaysLive size before First.Loss rest c
loss_command_back size before rest c e =
    let got = mapped_back (λ asked. Loss (record { drop_each = asked.0; double_each = asked.1 })) (two_numbers rest) c e
    in
    let asked = two_numbers_back rest got.0 got.1 in
    subst (SaysLive size before First.Loss rest) got.2 (record {
      whole = ap (λ (xs : List ℕ). codes "loss" ++ xs) asked.whole;
      placed = live_later asked.fits (λ none. none_said before.loss Fault.Loss none) (λ sites. refl);
    })

editor_command_back : (size : ℕ) (before : LiveBefore) (rest : List ℕ) (c : LiveCommand)
    → live_command size before.sites (length before.homes) First.Editor rest ≡ Ok c
    → SaysLive size before First.Editor rest c
editor_command_back size before rest c e =
    let first = behind_back (by_word (site_of before.sites) rest) _ c e in
    let site = site_at_back before.sites rest first.value first.rest first.is in
    let end = last_back (Editor first.value) c first.rest first.then_is in
    subst (SaysLive size before First.Editor rest) end.0 (record {
      whole = ap (λ (xs : List ℕ). codes "editor" ++ xs) (site.whole ∙ ended (spaced first.value) first.rest end.1);
      placed = live_later site.fits
          (λ none. few_enough (length before.homes) (nat_le MAX_EDITORS (length before.homes)) refl none)
          (λ sites. refl);
    })

line_command_back : (size : ℕ) (before : LiveBefore) (word : EditorWord) (rest : List ℕ) (c : LiveCommand)
    → length before.homes ≤ MAX_EDITORS → IsUtf8 rest → Lacks 10 rest
    → live_command size before.sites (length before.homes) (First.AtEditor word) rest ≡ Ok c
    → SaysLive size before (First.AtEditor word) rest c
line_command_back size before word rest c few u lacks e =
    let first = behind_back (by_word (editor_of (length before.homes)) rest) _ c e in
    let editor = tested_at_back (is_in_range 1 (length before.homes)) Fault.Editor (IsInRange 1 (length before.homes))
    (range_in 1 (length before.homes)) rest first.value first.rest first.is in
    let small : first.value < 10 ^ 9 = omega (arith, editor.fits.1) in
    let got = mapped_back (λ line. Line first.value line) (editor_line before.sites word first.rest) c first.then_is in
    let asked = editor_line_back before.sites first.value word first.rest got.0
    (IsUtf8-after rest (spaced first.value) first.rest u (spaced_utf8 first.value small) editor.whole)
    (lacks_behind 10 (spaced first.value) first.rest (subst (Lacks 10) editor.whole lacks)) got.1 in
    subst (SaysLive size before (First.AtEditor word) rest) got.2 (record {
      whole = ap (λ (xs : List ℕ). live_spelling (First.AtEditor word) ++ xs) editor.whole ∙ asked.1;
      placed = live_later asked.0 (λ none. editor.fits) (λ sites. refl);
    })

command_back : (size : ℕ) (before : LiveBefore) (word : LiveWord) (rest : List ℕ) (c : LiveCommand) → IsLiveGood before
    → IsUtf8 rest → Lacks 10 rest → live_command size before.sites (length before.homes) word rest ≡ Ok c
    → SaysLive size before word rest c
command_back size before First.Sites rest c good u lacks e = sites_command_back size before rest c e
command_back size before First.Turns rest c good u lacks e = turns_command_back size before rest c e
command_back size before First.Loss rest c good u lacks e = loss_command_back size before rest c e
command_back size before First.Editor rest c good u lacks e = editor_command_back size before rest c e
command_back size before (First.AtEditor word) rest c good u lacks e =
    line_command_back size before word rest c good.editors u lacks e

unless_back : {V : Type 0} (o : Option Kind) (next : Result V Kind) (v : V) → unless o next ≡ Ok v
    → (o ≡ None) × (next ≡ Ok v)
unless_back None next v e = (refl, e)
unless_back (Some kind) next v e = absurd (err_is_no_ok kind v e)

-- a command that passes the test of the sums
within_back : (before : LiveBefore) (r : Result LiveCommand Kind) (c : LiveCommand) → within_calls before r ≡ Ok c
    → (r ≡ Ok c) × (sum_fault before c ≡ None)
within_back before (Err kind) c e = absurd (err_is_no_ok kind c e)
within_back before (Ok got) c e =
    let parts = unless_back (sum_fault before got) (Ok got) c e in
    (parts.1, subst (λ (x : LiveCommand). sum_fault before x ≡ None) (ok_same got c parts.1) parts.0)

stands : (size : ℕ) (before : LiveBefore) (word : LiveWord) (c : LiveCommand) → IsLivePlaced size before word c
    → is_live_misplaced before.sites word ≡ false → surplus before word ≡ None → sum_fault before c ≡ None
    → LiveCanStand size before c
stands size before word c (live_first n e f fits) placed none few =
    live_begins n e (none_before before.sites
    (sym (ap (λ (w : LiveWord). is_live_misplaced before.sites w) f) ∙ placed)) fits
  where
    none_before : (sites : ℕ) → ltb 0 sites ≡ false → sites ≡ 0
    none_before sites h = omega (arith, ltb-false 0 sites h)
stands size before word c (live_later fits place later) placed none few =
    live_follows (record {
      some = some_before before.sites (sym (later before.sites) ∙ placed);
      fits = fits;
      place = place none;
      sums = few;
    })
  where
    some_before : (sites : ℕ) → eqb sites 0 ≡ false → 1 ≤ sites
    some_before sites h = let none : sites ≢ 0 = eqb-false sites 0 h in omega arith

-- what a line says whole
record SaysLine (size : ℕ) (before : LiveBefore) (line : List ℕ) (c : LiveCommand) : Type 0 where
  whole : line ≡ live_line_of c
  stands_there : LiveCanStand size before c

named_command_back : (size : ℕ) (before : LiveBefore) (line name rest : List ℕ) (c : LiveCommand) (o : Option LiveWord)
    → IsLiveGood before → IsUtf8 line → Lacks 10 line → line ≡ name ++ rest
    → live_word_named name ≡ o → live_command_named size before o rest ≡ Ok c → SaysLine size before line c
named_command_back size before line name rest c None good u lacks whole h e = absurd (err_is_no_ok Fault.Word c e)
named_command_back size before line name rest c (Some word) good u lacks whole h e =
    at_test (is_live_misplaced before.sites word) refl e
  where
    spelled : line ≡ live_spelling word ++ rest
    spelled = whole ∙ ap (λ (xs : List ℕ). xs ++ rest) (sym (named_back name word h))

    at_test : (misplaced : Bool) → is_live_misplaced before.sites word ≡ misplaced
        → cond {A = Result LiveCommand Kind} misplaced (Err Fault.Sites)
        (unless (surplus before word)
        (within_calls before (live_command size before.sites (length before.homes) word rest))) ≡ Ok c
        → SaysLine size before line c
    at_test true g e = absurd (err_is_no_ok Fault.Sites c e)
    at_test false g e =
        let passed = unless_back (surplus before word)
        (within_calls before (live_command size before.sites (length before.homes) word rest)) c e in
        let got = within_back before (live_command size before.sites (length before.homes) word rest) c passed.1 in
        let said = command_back size before word rest c good
        (IsUtf8-after line (live_spelling word) rest u (spelling_utf8 word) spelled)
        (lacks_behind 10 (live_spelling word) rest (subst (Lacks 10) spelled lacks)) got.0 in
        record { whole = spelled ∙ said.whole; stands_there = stands size before word c said.placed g passed.0 got.1 }

-- the text of a line as a command
abbrev pub live_command_of : ℕ → LiveBefore → List ℕ → Result LiveCommand Kind
live_command_of size before line =
    live_command_named size before (live_word_named (cut_word line).0) (cut_word line).1

pub live_judged_back : (size : ℕ) (before : LiveBefore) (line : List ℕ) (o : Option LiveCommand) → IsLiveGood before
    → live_judged size before line ≡ Ok o → IsJudged live_line_of (LiveCanStand size before) line o
live_judged_back size before line o good e =
    judged_line_back live_line_of (LiveCanStand size before) (live_command_of size before)
    (λ line c u lacks e.
    let is = named_command_back size before line (cut_word line).0 (cut_word line).1 c
    (live_word_named (cut_word line).0) good u lacks (cut_back line).whole refl e in
    (is.whole, is.stands_there)) line o e

-- ---- what is written

-- the word of a line, and the command that is read behind it
record IsLiveLineOf (size : ℕ) (before : LiveBefore) (line : List ℕ) (c : LiveCommand) : Type 0 where
  word : LiveWord
  rest : List ℕ
  cut : cut_word line ≡ (live_spelling word, rest)
  read : live_command size before.sites (length before.homes) word rest ≡ Ok c
  placed : is_live_misplaced before.sites word ≡ false
  none : surplus before word ≡ None

at_editor : (size sites editors : ℕ) (word : EditorWord) (editor : ℕ) (rest : List ℕ) (line : EditorLine)
    → editors ≤ MAX_EDITORS → IsInRange 1 editors editor → IsOpen rest → editor_line sites word rest ≡ Ok line
    → live_command size sites editors (First.AtEditor word) (spaced editor ++ rest) ≡ Ok (Line editor line)
at_editor size sites editors word editor rest line few h free e =
    behind_there _ (λ editor rest. mapped (λ line. Line editor line) (editor_line sites word rest)) editor rest
    (tested_at_there (is_in_range 1 editors) Fault.Editor editor rest (omega (arith, h.1))
    (in_range 1 editors editor h) free)
    ∙ mapped_there (λ line. Line editor line) (editor_line sites word rest) line e

line_of : (size : ℕ) (before : LiveBefore) (word : EditorWord) (editor : ℕ) (rest line : List ℕ) (asked : EditorLine)
    → cut_word line ≡ (live_spelling (First.AtEditor word), spaced editor ++ rest) → IsLiveGood before
    → LiveFollows before (Line editor asked) → IsOpen rest → editor_line before.sites word rest ≡ Ok asked
    → IsLiveLineOf size before line (Line editor asked)
line_of size before word editor rest line asked cut good h free e = record {
  word = First.AtEditor word;
  rest = spaced editor ++ rest;
  cut = cut;
  read = at_editor size before.sites (length before.homes) word editor rest asked good.editors h.place free e;
  placed = ne_eqb before.sites 0 (λ (e : before.sites ≡ 0). absurd (omega (arith, h.some)));
  none = refl;
}

editor_line_there : (size : ℕ) (before : LiveBefore) (editor : ℕ) (line : EditorLine) → IsLiveGood before
    → LiveFollows before (Line editor line) → IsLiveLineOf size before (line_of_editor editor line) (Line editor line)
editor_line_there size before editor (Asked.Ins index atoms) good h =
    line_of size before At.Ins editor (spaced index ++ spaced_text atoms) _ _ refl good h refl
    (mapped_there _ _ (index, atoms) (index_and_text_there index atoms h.fits.0 h.fits.1))
editor_line_there size before editor (Asked.Paste index atoms) good h =
    line_of size before At.Paste editor (spaced index ++ spaced_text atoms) _ _ refl good h refl
    (mapped_there _ _ (index, atoms) (index_and_text_there index atoms h.fits.0 h.fits.1))
editor_line_there size before editor (Asked.Del index count) good h =
    line_of size before At.Del editor (spaced index ++ spaced count) _ _ refl good h refl
    (mapped_there _ _ (index, count) (two_numbers_there index count h.fits.0 h.fits.1))
editor_line_there size before editor (Asked.Flat place) good h =
    line_of size before At.Flat editor (spaced_place place) _ _ refl good h (place_open place)
    (mapped_there _ _ place (place_there place h.fits))
editor_line_there size before editor (Asked.Cancel proposal) good h =
    line_of size before At.Cancel editor (spaced_dot proposal) _ _ refl good h refl
    (mapped_there _ _ proposal (proposal_there before.sites proposal good.sites h.fits))
editor_line_there size before editor Asked.Look good h =
    subst (λ (xs : List ℕ). IsLiveLineOf size before (codes "look" ++ xs) (Line editor Asked.Look))
    (append-nil (spaced editor)) (line_of size before At.Look editor [] (codes "look" ++ (spaced editor ++ []))
    Asked.Look
    refl good h tt refl)

live_line_there : (size : ℕ) (before : LiveBefore) (c : LiveCommand) → IsLiveGood before → LiveFollows before c
    → IsLiveLineOf size before (live_line_of c) c
live_line_there size before (Sites n) good h = absurd h.fits
live_line_there size before (Turns turns) good h = record {
  word = First.Turns;
  rest = spaced turns;
  cut = refl;
  read =
      ap (λ (xs : List ℕ). live_command size before.sites (length before.homes) First.Turns xs)
      (sym (append-nil (spaced turns)))
      ∙ behind_there _ (λ turns rest. last (Turns turns) rest) turns []
      (tested_at_there (λ turns. nat_le turns MAX_TURNS) Fault.Turns turns [] (omega (arith, h.fits))
      (le-leb turns MAX_TURNS h.fits) tt);
  placed = ne_eqb before.sites 0 (λ (e : before.sites ≡ 0). absurd (omega (arith, h.some)));
  none = ap (λ (o : Option ℕ). cond {A = Option Kind} (is_some o) (Some Fault.Turns) None) h.place;
}
live_line_there size before (Loss loss) good h = record {
  word = First.Loss;
  rest = spaced loss.drop_each ++ spaced loss.double_each;
  cut = refl;
  read = mapped_there _ _ (loss.drop_each, loss.double_each)
      (two_numbers_there loss.drop_each loss.double_each h.fits.0 h.fits.1);
  placed = ne_eqb before.sites 0 (λ (e : before.sites ≡ 0). absurd (omega (arith, h.some)));
  none = ap (λ o. cond {A = Option Kind} (is_some o) (Some Fault.Loss) None) h.place;
}
live_line_there size before (Editor site) good h = record {
  word = First.Editor;
  rest = spaced site;
  cut = refl;
  read =
      ap (λ (xs : List ℕ). live_command size before.sites (length before.homes) First.Editor xs)
      (sym (append-nil (spaced site)))
      ∙ behind_there _ (λ site rest. last (Editor site) rest) site []
      (site_at_there before.sites site [] good.sites h.fits tt);
  placed = ne_eqb before.sites 0 (λ (e : before.sites ≡ 0). absurd (omega (arith, h.some)));
  none = few_are_no_surplus (length before.homes) h.place;
}
  where
    few_are_no_surplus : (n : ℕ) → n < MAX_EDITORS
        → cond {A = Option Kind} (nat_le MAX_EDITORS n) (Some Fault.Editor) None ≡ None
    few_are_no_surplus n few = cond-false {A = Option Kind} (nat_le MAX_EDITORS n) (Some Fault.Editor) None
        (lt-leb MAX_EDITORS n few)
live_line_there size before (Line editor line) good h = editor_line_there size before editor line good h

sites_line_there : (size : ℕ) (before : LiveBefore) (n : ℕ) → before.sites ≡ 0 → IsSitesFor size n
    → IsLiveLineOf size before (live_line_of (Sites n)) (Sites n)
sites_line_there size before n none h = record {
  word = First.Sites;
  rest = spaced n;
  cut = refl;
  read = mapped_there (λ n. Sites n) (sites_at size (spaced n)) n (sites_there size n h);
  placed = le-ltb 0 before.sites (omega (arith, none));
  none = refl;
}

named_command_there : (size : ℕ) (before : LiveBefore) (line : List ℕ) (c : LiveCommand) → IsLine line
    → is_skipped line ≡ false → IsLiveLineOf size before line c → sum_fault before c ≡ None
    → live_judged size before line ≡ Ok (Some c)
named_command_there size before line c h spoken is few =
    judged_line_there (live_command_of size before) line c h spoken
    (ap (λ (cut : List ℕ × List ℕ). live_command_named size before (live_word_named cut.0) cut.1) is.cut
    ∙ ap (λ (o : Option LiveWord). live_command_named size before o is.rest) (named_there is.word)
    ∙ cond-false {A = Result LiveCommand Kind} (is_live_misplaced before.sites is.word) (Err Fault.Sites)
    (unless (surplus before is.word)
    (within_calls before (live_command size before.sites (length before.homes) is.word is.rest))) is.placed
    ∙ ap (λ (o : Option Kind). unless o
    (within_calls before (live_command size before.sites (length before.homes) is.word is.rest))) is.none
    ∙ ap (within_calls before) is.read
    ∙ ap (λ (o : Option Kind). unless o (Ok c)) few)

line_spoken : (editor : ℕ) (line : EditorLine) → is_skipped (line_of_editor editor line) ≡ false
line_spoken editor (Asked.Ins index atoms) = refl
line_spoken editor (Asked.Paste index atoms) = refl
line_spoken editor (Asked.Del index count) = refl
line_spoken editor (Asked.Flat place) = refl
line_spoken editor (Asked.Cancel proposal) = refl
line_spoken editor Asked.Look = refl

-- no command's line is skipped
pub live_spoken : (c : LiveCommand) → is_skipped (live_line_of c) ≡ false
live_spoken (Sites n) = refl
live_spoken (Turns turns) = refl
live_spoken (Loss loss) = refl
live_spoken (Editor site) = refl
live_spoken (Line editor line) = line_spoken editor line

-- the line of a command that can stand there says the command
pub live_judged_there : (size : ℕ) (before : LiveBefore) (c : LiveCommand) → IsLiveGood before
    → LiveCanStand size before c → IsLine (live_line_of c) → live_judged size before (live_line_of c) ≡ Ok (Some c)
live_judged_there size before c good (live_begins n e none fits) h =
    subst (λ (x : LiveCommand). live_judged size before (live_line_of x) ≡ Ok (Some x)) (sym e)
    (named_command_there size before (live_line_of (Sites n)) (Sites n)
    (subst (λ (x : LiveCommand). IsLine (live_line_of x)) e h) (live_spoken (Sites n))
    (sites_line_there size before n none fits) refl)
live_judged_there size before c good (live_follows is) h =
    named_command_there size before (live_line_of c) c h (live_spoken c) (live_line_there size before c good is) is.sums
