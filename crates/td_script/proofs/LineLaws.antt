-- What is judged of a line: a command where the line is the line of a command that can stand there, and only there.
use Rattle.std.proofs.Common.{◌≡◌, ◌≢◌, ◌<◌, ◌≤◌, ◌+◌, ◌^◌, ℕ, Bool, true, false, cond, not, eqb, ltb, List}
use Rattle.std.proofs.Common.{◌++◌, codes, Option, Some, None, Result, Ok, Err, Bor, MatchResult, refl}
use Rattle.std.proofs.Common.{sym, ap, subst, ◌∙◌, bytes_eq, IsUtf8, arith}
use Rattle.std.specs.List.{list_all, list_any}
use Rattle.std.specs.Prelude.{IfSome, IfNone}
use Rattle.std.specs.Result.{result_ok}
use Rattle.std.specs.Str.{is_utf8}
use Rattle.std.proofs.lemmas.Bool.{eqb-false, ne_eqb, ltb-true, ltb-false, le-ltb, cond-false}
use Rattle.std.proofs.lemmas.Bool.{and_from, and_right, not_from_false}
use Rattle.std.proofs.lemmas.Bool.{false_from_ne_true}
use Rattle.std.proofs.lemmas.List.Sums.{AllPass-from_list_all}
use Rattle.std.proofs.lemmas.List.Elements.{All-weaker}
use Rattle.std.proofs.lemmas.Slice.Eq.{bytes_eq-Decides}
use Rattle.std.proofs.lemmas.Str.{IsUtf8-from_is_utf8, is_utf8-from_IsUtf8, IsUtf8-from_ascii}
use Rattle.std.proofs.lemmas.Str.Ascii.{IsAscii-from_all}
use Rattle.td_base.proofs.Searches.{find_In}
use Rattle.td_base.specs.declared.site.TheConstants.{MAX_SITE}
use Rattle.unicode_segmentation.proofs.TextLemmas.{IsUtf8-after}
use Rattle.td_script.specs.declared.before.Before.{Before}
use Rattle.td_script.specs.declared.command.Command.{Command}
use Rattle.td_script.specs.declared.command.Command.TheVariants.{Sites, Ins, Paste, Del, Flat, FlatAuto, Cancel, Give}
use Rattle.td_script.specs.declared.command.Command.TheVariants.{GiveAll, Settle, Show, Tree, Count}
use Rattle.td_script.specs.declared.command.Command.TheVariants.{Mark, Meet, Marks}
use Rattle.td_script.specs.declared.kind.Kind.{Kind}
use Rattle.td_script.specs.declared.kind.Kind.TheVariants as Fault
use Rattle.td_script.specs.declared.word.Word.{Word}
use Rattle.td_script.specs.declared.word.Word.TheVariants as First
use Rattle.td_script.specs.declared.word.SiteWord.{SiteWord}
use Rattle.td_script.specs.declared.word.SiteWord.TheVariants as At
use Rattle.td_script.specs.Arguments.{by_word, cut_word, site_of}
use Rattle.td_script.specs.Faults.{command, is_misplaced, is_too_much, judged, command_named, within}
use Rattle.td_script.specs.Shared.{mapped, sites_at}
use Rattle.std.specs.Char.{is_ascii_control}
use Rattle.td_script.specs.Lines.{is_skipped, is_text_line}
use Rattle.td_script.specs.Script.{IsCommand, IsLine, requests}
use Rattle.td_script.specs.Spelling.{line_of, spaced}
use Rattle.td_script.specs.Words.{spelling, word_named, words}
use Rattle.td_script.proofs.ArgumentLaws.{site_at_back}
use Rattle.td_script.proofs.CommandLaws.{site_command_back}
use Rattle.td_script.proofs.JudgingLaws.{IsJudged, judged_line_back, judged_line_there}
use Rattle.td_script.proofs.SharedLaws.{IsSitesFor, lacks_behind, mapped_back, sites_back, spaced_utf8}
use Rattle.td_script.proofs.Results.{ok_same, err_is_no_ok}
use Rattle.td_script.proofs.SpellingLaws.{IsLineOf, line_there, sites_line_there}
use Rattle.td_script.proofs.Splitting.{Lacks}
use Rattle.td_script.proofs.WordLaws.{behind_back, cut_back, last_back}

-- a command can stand behind what stands before it: `sites` first, and the others behind it
pub data CanStand (size : ℕ) (before : Before) (c : Command) : Type 0 where
  begins : (n : ℕ) → c ≡ Sites n → before.sites ≡ 0 → IsSitesFor size n → CanStand size before c
  follows : 1 ≤ before.sites → IsCommand before.sites c
      → is_too_much before.sites (before.requests + requests c) ≡ false → CanStand size before c

-- a command without the test of the sum
data IsPlaced (size : ℕ) (before : Before) (word : Word) (c : Command) : Type 0 where
  at_first : (n : ℕ) → c ≡ Sites n → word ≡ First.Sites → IsSitesFor size n → IsPlaced size before word c
  at_later : IsCommand before.sites c → ((before' : Before) → is_misplaced before' word ≡ eqb before'.sites 0)
      → IsPlaced size before word c

-- the text of a line that was read as UTF-8, or not
pub text_found : {E : Type 0} (line : List ℕ) (r : Result (Bor (List ℕ)) E) (P : E → Type 0)
    → MatchResult r (λ text. (text.now ≡ line) × IsUtf8 line) (λ e. (¬ IsUtf8 line) × P e)
    → list_any is_ascii_control line ≡ false
    → IfSome (result_ok r) (λ text. (text.now ≡ line) × (is_text_line line ≡ true))
text_found line (Ok text) P read plain = (
  read.0,
  and_from (not (list_any is_ascii_control line)) (is_utf8 line)
      (not_from_false (list_any is_ascii_control line) plain) (is_utf8-from_IsUtf8 line read.1),
)
text_found line (Err e) P read plain = tt

pub text_not_found : {E : Type 0} (line : List ℕ) (r : Result (Bor (List ℕ)) E) (P : E → Type 0)
    → MatchResult r (λ text. (text.now ≡ line) × IsUtf8 line) (λ e. (¬ IsUtf8 line) × P e)
    → IfNone (result_ok r) (is_text_line line ≡ false)
text_not_found line (Ok text) P read = tt
text_not_found line (Err e) P read =
    and_right (not (list_any is_ascii_control line)) (is_utf8 line)
    (false_from_ne_true (is_utf8 line) (λ (e : is_utf8 line ≡ true). read.0 (IsUtf8-from_is_utf8 line e)))

pub ascii_by_test : (xs : List ℕ) → list_all (λ b. ltb b 128) xs ≡ true → IsUtf8 xs
ascii_by_test xs h = IsUtf8-from_ascii xs
    (IsAscii-from_all xs (All-weaker (λ b. ltb b 128 ≡ true) (λ b. b < 128)
    (λ (b : ℕ) (e : ltb b 128 ≡ true). ltb-true b 128 e) xs (AllPass-from_list_all (λ b. ltb b 128) xs h)))

site_spelling_ascii : (word : SiteWord) → list_all (λ b. ltb b 128) (spelling (First.AtSite word)) ≡ true
site_spelling_ascii At.Ins = refl
site_spelling_ascii At.Paste = refl
site_spelling_ascii At.Del = refl
site_spelling_ascii At.Flat = refl
site_spelling_ascii At.Cancel = refl
site_spelling_ascii At.Give = refl
site_spelling_ascii At.Show = refl
site_spelling_ascii At.Tree = refl
site_spelling_ascii At.Count = refl
site_spelling_ascii At.Mark = refl
site_spelling_ascii At.Unmark = refl
site_spelling_ascii At.Meet = refl
site_spelling_ascii At.Marks = refl

spelling_utf8 : (word : Word) → IsUtf8 (spelling word)
spelling_utf8 First.Sites = ascii_by_test (codes "sites") refl
spelling_utf8 First.Settle = ascii_by_test (codes "settle") refl
spelling_utf8 (First.AtSite word) = ascii_by_test (spelling (First.AtSite word)) (site_spelling_ascii word)

site_word_named : (word : SiteWord) → word_named (spelling (First.AtSite word)) ≡ Some (First.AtSite word)
site_word_named At.Ins = refl
site_word_named At.Paste = refl
site_word_named At.Del = refl
site_word_named At.Flat = refl
site_word_named At.Cancel = refl
site_word_named At.Give = refl
site_word_named At.Show = refl
site_word_named At.Tree = refl
site_word_named At.Count = refl
site_word_named At.Mark = refl
site_word_named At.Unmark = refl
site_word_named At.Meet = refl
site_word_named At.Marks = refl

named_there : (word : Word) → word_named (spelling word) ≡ Some word
named_there First.Sites = refl
named_there First.Settle = refl
named_there (First.AtSite word) = site_word_named word

named_back : (name : List ℕ) (word : Word) → word_named name ≡ Some word → spelling word ≡ name
named_back name word e = (bytes_eq-Decides (spelling word) name).0
    (find_In (λ w. bytes_eq (spelling w) name) words word e).1

-- what a line says behind its word
record SaysCommand (size : ℕ) (before : Before) (word : Word) (rest : List ℕ) (c : Command) : Type 0 where
  whole : spelling word ++ rest ≡ line_of c
  placed : IsPlaced size before word c

sites_command_back : (size : ℕ) (before : Before) (rest : List ℕ) (c : Command)
    → mapped (λ n. Sites n) (sites_at size rest) ≡ Ok c → SaysCommand size before First.Sites rest c
sites_command_back size before rest c e =
    let got = mapped_back (λ n. Sites n) (sites_at size rest) c e in
    let sites = sites_back size rest got.0 got.1 in
    subst (SaysCommand size before First.Sites rest) got.2
    (record {
      whole = ap (λ (xs : List ℕ). codes "sites" ++ xs) sites.whole;
      placed = at_first got.0 refl refl sites.fits;
    })

command_back : (size : ℕ) (before : Before) (word : Word) (rest : List ℕ) (c : Command) → before.sites ≤ MAX_SITE
    → IsUtf8 rest → Lacks 10 rest → command size before word rest ≡ Ok c → SaysCommand size before word rest c
command_back size before First.Sites rest c few u lacks e = sites_command_back size before rest c e
command_back size before First.Settle rest c few u lacks e =
    let end = last_back Settle c rest e in
    subst (SaysCommand size before First.Settle rest) end.0
    (record { whole = ap (λ (xs : List ℕ). codes "settle" ++ xs) end.1; placed = at_later tt (λ before'. refl) })
command_back size before (First.AtSite word) rest c few u lacks e =
    let first = behind_back (by_word (site_of before.sites) rest) _ c e in
    let site = site_at_back before.sites rest first.value first.rest first.is in
    let small : first.value < 10 ^ 9 = omega (arith, site.fits) in
    let said = site_command_back before.sites first.value word first.rest c
    (IsUtf8-after rest (spaced first.value) first.rest u (spaced_utf8 first.value small) site.whole)
    (lacks_behind 10 (spaced first.value) first.rest (subst (Lacks 10) site.whole lacks)) first.then_is in
    record {
      whole = ap (λ (xs : List ℕ). spelling (First.AtSite word) ++ xs) site.whole
          ∙ said.1;
      placed = at_later (said.0 site.fits) (λ before'. refl);
    }

-- a command that passes the test of the sum
within_back : (before : Before) (r : Result Command Kind) (c : Command) → within before r ≡ Ok c
    → (r ≡ Ok c) × (is_too_much before.sites (before.requests + requests c) ≡ false)
within_back before (Err kind) c e = absurd (err_is_no_ok kind c e)
within_back before (Ok got) c e = at_test (is_too_much before.sites (before.requests + requests got)) refl e
  where
    at_test : (much : Bool) → is_too_much before.sites (before.requests + requests got) ≡ much
        → cond {A = Result Command Kind} much (Err Fault.Size) (Ok got) ≡ Ok c
        → (◌≡◌ {A = Result Command Kind} (Ok got) (Ok c))
        × (is_too_much before.sites (before.requests + requests c) ≡ false)
    at_test true h e = absurd (err_is_no_ok Fault.Size c e)
    at_test false h e = (
      e,
      subst (λ (x : Command). is_too_much before.sites (before.requests + requests x) ≡ false)
          (ok_same got c e) h,
    )

stands : (size : ℕ) (before : Before) (word : Word) (c : Command) → IsPlaced size before word c
    → is_misplaced before word ≡ false → is_too_much before.sites (before.requests + requests c) ≡ false
    → CanStand size before c
stands size before word c (at_first n e f fits) placed few =
    begins n e (none_before before.sites (sym (ap (λ (w : Word). is_misplaced before w) f) ∙ placed)) fits
  where
    none_before : (sites : ℕ) → ltb 0 sites ≡ false → sites ≡ 0
    none_before sites h = omega (arith, ltb-false 0 sites h)
stands size before word c (at_later fits later) placed few =
    follows (some_before before.sites (sym (later before) ∙ placed)) fits few
  where
    some_before : (sites : ℕ) → eqb sites 0 ≡ false → 1 ≤ sites
    some_before sites h = let none : sites ≢ 0 = eqb-false sites 0 h in omega arith

-- what a line says whole
record SaysLine (size : ℕ) (before : Before) (line : List ℕ) (c : Command) : Type 0 where
  whole : line ≡ line_of c
  stands_there : CanStand size before c

named_command_back : (size : ℕ) (before : Before) (line name rest : List ℕ) (c : Command) (o : Option Word)
    → before.sites ≤ MAX_SITE → IsUtf8 line → Lacks 10 line → line ≡ name ++ rest
    → word_named name ≡ o → command_named size before o rest ≡ Ok c → SaysLine size before line c
named_command_back size before line name rest c None few u lacks whole h e = absurd (err_is_no_ok Fault.Word c e)
named_command_back size before line name rest c (Some word) few u lacks whole h e =
    at_test (is_misplaced before word) refl e
  where
    spelled : line ≡ spelling word ++ rest
    spelled = whole ∙ ap (λ (xs : List ℕ). xs ++ rest) (sym (named_back name word h))

    at_test : (misplaced : Bool) → is_misplaced before word ≡ misplaced
        → cond {A = Result Command Kind} misplaced (Err Fault.Sites)
        (within before (command size before word rest)) ≡ Ok c → SaysLine size before line c
    at_test true g e = absurd (err_is_no_ok Fault.Sites c e)
    at_test false g e =
        let got = within_back before (command size before word rest) c e in
        let said = command_back size before word rest c few
        (IsUtf8-after line (spelling word) rest u (spelling_utf8 word) spelled)
        (lacks_behind 10 (spelling word) rest (subst (Lacks 10) spelled lacks)) got.0 in
        record { whole = spelled ∙ said.whole; stands_there = stands size before word c said.placed g got.1 }

-- the text of a line as a command
abbrev pub command_of : ℕ → Before → List ℕ → Result Command Kind
command_of size before line = command_named size before (word_named (cut_word line).0) (cut_word line).1

pub judged_back : (size : ℕ) (before : Before) (line : List ℕ) (o : Option Command) → before.sites ≤ MAX_SITE
    → judged size before line ≡ Ok o → IsJudged line_of (CanStand size before) line o
judged_back size before line o few e =
    judged_line_back line_of (CanStand size before) (command_of size before)
    (λ line c u lacks e.
    let is = named_command_back size before line (cut_word line).0 (cut_word line).1 c (word_named (cut_word line).0)
    few u
    lacks (cut_back line).whole refl e in (is.whole, is.stands_there)) line o e

named_command_there : (size : ℕ) (before : Before) (line : List ℕ) (c : Command) → IsLine line → is_skipped line ≡ false
    → (misplaced : Bool) → (is : IsLineOf size before line c misplaced) → misplaced ≡ false
    → is_too_much before.sites (before.requests + requests c) ≡ false → judged size before line ≡ Ok (Some c)
named_command_there size before line c h spoken misplaced is placed few =
    judged_line_there (command_of size before) line c h spoken
    (ap (λ (cut : List ℕ × List ℕ). command_named size before (word_named cut.0) cut.1) is.cut
    ∙ ap (λ (o : Option Word). command_named size before o is.rest) (named_there is.word)
    ∙ cond-false {A = Result Command Kind} (is_misplaced before is.word) (Err Fault.Sites)
    (within before (command size before is.word is.rest)) (is.placed ∙ placed)
    ∙ ap (within before) is.read
    ∙ cond-false {A = Result Command Kind} (is_too_much before.sites (before.requests + requests c)) (Err Fault.Size)
    (Ok c) few)

-- no command's line is skipped
pub spoken : (c : Command) → is_skipped (line_of c) ≡ false
spoken (Sites n) = refl
spoken (Ins site index atoms) = refl
spoken (Paste site index atoms) = refl
spoken (Del site index count) = refl
spoken (Flat site place) = refl
spoken (FlatAuto site) = refl
spoken (Cancel site proposal) = refl
spoken (Give site number) = refl
spoken (GiveAll site) = refl
spoken Settle = refl
spoken (Show site) = refl
spoken (Tree site) = refl
spoken (Count site) = refl
spoken (Mark site true name index count) = refl
spoken (Mark site false name index count) = refl
spoken (Meet site other) = refl
spoken (Marks site) = refl

-- the line of a command that can stand there says the command
pub judged_there : (size : ℕ) (before : Before) (c : Command) → before.sites ≤ MAX_SITE → CanStand size before c
    → IsLine (line_of c) → judged size before (line_of c) ≡ Ok (Some c)
judged_there size before c few (begins n e none fits) h =
    subst (λ (x : Command). judged size before (line_of x) ≡ Ok (Some x)) (sym e)
    (named_command_there size before (line_of (Sites n)) (Sites n) (subst (λ (x : Command). IsLine (line_of x)) e h)
    (spoken (Sites n)) (ltb 0 before.sites) (sites_line_there size before n fits)
    (le-ltb 0 before.sites (omega arith)) (ap (λ (s : ℕ). is_too_much s (before.requests + 0)) none))
judged_there size before c few (follows some fits sum) h =
    named_command_there size before (line_of c) c h (spoken c) (eqb before.sites 0) (line_there size before c few fits)
    (ne_eqb before.sites 0 (λ (e : before.sites ≡ 0). absurd (omega arith))) sum
