-- What is judged of a line of a kept script: a command where the line is the line of a command that can stand there,
-- and only there.
use Rattle.std.proofs.Common.{◌≡◌, ◌≢◌, ◌<◌, ◌≤◌, ◌^◌, ℕ, Bool, true, false, cond, eqb, ltb, List, [], ◌∷◌}
use Rattle.std.proofs.Common.{◌++◌, codes, Option, Some, None, Result, Ok, Err, refl, sym, ap, subst, ◌∙◌}
use Rattle.std.proofs.Common.{append-nil, bytes_eq, IsUtf8, arith}
use Rattle.std.specs.Int.{is_in_range, IsInRange}
use Rattle.std.specs.List.{list_all}
use Rattle.std.proofs.lemmas.Bool.{eqb-false, ne_eqb, ltb-false, le-ltb, cond-false}
use Rattle.std.proofs.lemmas.Slice.Eq.{bytes_eq-Decides}
use Rattle.td_base.proofs.Searches.{find_In}
use Rattle.td_base.specs.declared.site.TheConstants.{MAX_SITE}
use Rattle.unicode_segmentation.proofs.TextLemmas.{IsUtf8-after}
use Rattle.td_script.specs.declared.kept.before.KeptBefore.{KeptBefore}
use Rattle.td_script.specs.declared.kept.command.KeptCommand.{KeptCommand}
use Rattle.td_script.specs.declared.kept.command.KeptCommand.TheVariants.{Sites, Ins, Del, Flat, Cancel, Give, Show}
use Rattle.td_script.specs.declared.kept.command.KeptCommand.TheVariants.{Crash}
use Rattle.td_script.specs.declared.kept.script.TheConstants.{DISK_CALLS}
use Rattle.td_script.specs.declared.kept.word.KeptWord.{KeptWord}
use Rattle.td_script.specs.declared.kept.word.KeptWord.TheVariants as First
use Rattle.td_script.specs.declared.kept.word.KeptSiteWord.{KeptSiteWord}
use Rattle.td_script.specs.declared.kept.word.KeptSiteWord.TheVariants as At
use Rattle.td_script.specs.declared.kind.Kind.{Kind}
use Rattle.td_script.specs.declared.kind.Kind.TheVariants as Fault
use Rattle.td_script.specs.Arguments.{behind, by_word, cluster_at, cluster_of, cut_word, last, number_of, site_of}
use Rattle.td_script.specs.Arguments.{text_at, with_rest}
use Rattle.td_script.specs.KeptFaults.{crash_at, disk_call_of, is_kept_misplaced, is_kept_too_much, kept_command}
use Rattle.td_script.specs.KeptFaults.{kept_command_named, kept_give_at, kept_judged, kept_site_command, within_kept}
use Rattle.td_script.specs.KeptScript.{IsKeptCommand}
use Rattle.td_script.specs.KeptSpelling.{kept_line_of}
use Rattle.td_script.specs.KeptWords.{kept_spelling, kept_word_named, kept_words}
use Rattle.td_script.specs.Lines.{is_skipped}
use Rattle.td_script.specs.Script.{IsClusters, IsLine, IsNumber, IsSiteOf}
use Rattle.td_script.specs.Shared.{index_and_text, place_at, proposal_at, sites_at, two_numbers}
use Rattle.td_script.specs.Spelling.{spaced, spaced_dot, spaced_place, spaced_text}
use Rattle.td_script.proofs.ArgumentLaws.{IsArgument, number_at_back, number_at_there, site_at_back, site_at_there}
use Rattle.td_script.proofs.ArgumentLaws.{tested_at_back, tested_at_there}
use Rattle.td_script.proofs.JudgingLaws.{IsJudged, judged_line_back, judged_line_there}
use Rattle.td_script.proofs.LineLaws.{ascii_by_test}
use Rattle.td_script.proofs.Results.{err_is_no_ok, in_range, ok_same, range_in}
use Rattle.td_script.proofs.SharedLaws.{IsSitesFor, ended, lacks_behind, mapped_back, mapped_there, number_end}
use Rattle.td_script.proofs.SharedLaws.{sites_back, sites_there, index_and_text_back, index_and_text_there}
use Rattle.td_script.proofs.SharedLaws.{place_back, place_open, place_there, proposal_back, proposal_there}
use Rattle.td_script.proofs.SharedLaws.{spaced_utf8, two_numbers_back, two_numbers_there}
use Rattle.td_script.proofs.Splitting.{Lacks}
use Rattle.td_script.proofs.TextLaws.{IsText, text_at_back, text_at_there}
use Rattle.td_script.proofs.WordLaws.{IsOpen, behind_back, behind_there, cut_back, last_back, with_rest_back}

-- ---- what can stand there

-- a command can stand behind what stands before it: `sites` first, and the others behind it
pub data KeptCanStand (size : ℕ) (before : KeptBefore) (c : KeptCommand) : Type 0 where
  kept_begins : (n : ℕ) → c ≡ Sites n → before.sites ≡ 0 → IsSitesFor size n → KeptCanStand size before c
  kept_follows : 1 ≤ before.sites → IsKeptCommand before.sites c → is_kept_too_much before c ≡ false
      → KeptCanStand size before c

-- a command without the test of the sums
data IsKeptPlaced (size sites : ℕ) (word : KeptWord) (c : KeptCommand) : Type 0 where
  kept_at_first : (n : ℕ) → c ≡ Sites n → word ≡ First.Sites → IsSitesFor size n → IsKeptPlaced size sites word c
  kept_at_later : IsKeptCommand sites c → ((sites' : ℕ) → is_kept_misplaced sites' word ≡ eqb sites' 0)
      → IsKeptPlaced size sites word c

-- ---- the arguments of a crash

disk_call_there : (k : ℕ) (rest : List ℕ) → IsInRange 1 DISK_CALLS k → IsOpen rest
    → by_word disk_call_of (spaced k ++ rest) ≡ Ok (k, rest)
disk_call_there k rest h free = tested_at_there (is_in_range 1 DISK_CALLS) Fault.Number k rest (omega (arith, h.1))
    (in_range 1 DISK_CALLS k h) free

disk_call_back : (bytes : List ℕ) (k : ℕ) (rest : List ℕ) → by_word disk_call_of bytes ≡ Ok (k, rest)
    → IsArgument spaced (λ k. IsInRange 1 DISK_CALLS k) bytes k rest
disk_call_back bytes k rest e = tested_at_back (is_in_range 1 DISK_CALLS) Fault.Number
    (λ k. IsInRange 1 DISK_CALLS k) (range_in 1 DISK_CALLS) bytes k rest e

cluster_of_back : (clusters : List (List ℕ)) (atom : List ℕ) → cluster_of clusters ≡ Ok atom → clusters ≡ atom ∷ []
cluster_of_back [] atom e = absurd (err_is_no_ok Fault.Atom atom e)
cluster_of_back (cluster ∷ []) atom e = ap (λ (x : List ℕ). x ∷ []) (ok_same cluster atom e)
cluster_of_back (one ∷ other ∷ more) atom e = absurd (err_is_no_ok Fault.Atom atom e)

cluster_back : (bytes atom rest : List ℕ) → IsUtf8 bytes → Lacks 10 bytes → cluster_at bytes ≡ Ok (atom, rest)
    → IsText bytes (atom ∷ []) rest
cluster_back bytes atom rest u lacks e =
    let read = behind_back (text_at bytes) (λ clusters rest. with_rest rest (cluster_of clusters)) (atom, rest) e in
    let got = with_rest_back read.rest rest (cluster_of read.value) atom read.then_is in
    let text : IsText bytes read.value read.rest = text_at_back bytes read.value read.rest u lacks read.is in
    subst (λ (clusters : List (List ℕ)). IsText bytes clusters rest) (cluster_of_back read.value atom got.0)
    (subst (IsText bytes read.value) got.1 text)

cluster_there : (atom : List ℕ) → IsClusters (atom ∷ []) → cluster_at (spaced_text (atom ∷ [])) ≡ Ok (atom, [])
cluster_there atom h =
    behind_there _ (λ clusters rest. with_rest rest (cluster_of clusters)) (atom ∷ []) []
    (ap text_at (sym (append-nil (spaced_text (atom ∷ [])))) ∙ text_at_there (atom ∷ []) [] h)

-- ---- what was read

-- what a line says behind its site is the command, and fits
abbrev IsKeptSaid : ℕ → ℕ → KeptSiteWord → List ℕ → KeptCommand → Type 0
IsKeptSaid sites site word rest c =
    (IsSiteOf sites site → IsKeptCommand sites c)
    × (kept_spelling (First.AtSite word) ++ (spaced site ++ rest) ≡ kept_line_of c)

-- a command is said where the words behind its site are what is written of it
said_with : (sites site : ℕ) (word : KeptSiteWord) (rest written : List ℕ) (made c : KeptCommand) → made ≡ c
    → rest ≡ written → (IsSiteOf sites site → IsKeptCommand sites made)
    → kept_spelling (First.AtSite word) ++ (spaced site ++ written) ≡ kept_line_of made
    → IsKeptSaid sites site word rest c
said_with sites site word rest written made c e whole fits line =
    subst (IsKeptSaid sites site word rest) e
    (fits, ap (λ (xs : List ℕ). kept_spelling (First.AtSite word) ++ (spaced site ++ xs)) whole ∙ line)

-- what stands behind a number is a text that can be read too
behind_number : (n : ℕ) (bytes rest : List ℕ) → n < 10 ^ 9 → IsUtf8 bytes → Lacks 10 bytes → bytes ≡ spaced n ++ rest
    → IsUtf8 rest × Lacks 10 rest
behind_number n bytes rest small u lacks whole = (
  IsUtf8-after bytes (spaced n) rest u (spaced_utf8 n small) whole,
  lacks_behind 10 (spaced n) rest (subst (Lacks 10) whole lacks),
)

give_back : (sites site : ℕ) (rest : List ℕ) (c : KeptCommand) → kept_give_at site rest ≡ Ok c
    → IsKeptSaid sites site At.Give rest c
give_back sites site rest c e =
    let first = behind_back (by_word number_of rest) (λ number rest. last (Give site number) rest) c e in
    let number = number_at_back rest first.value first.rest first.is in
    let end = last_back (Give site first.value) c first.rest first.then_is in
    said_with sites site At.Give rest (spaced first.value) (Give site first.value) c end.0
    (number.whole ∙ ended (spaced first.value) first.rest end.1) (λ s. (s, number.fits)) refl

crash_back : (sites site : ℕ) (rest : List ℕ) (c : KeptCommand) → IsUtf8 rest → Lacks 10 rest
    → crash_at site rest ≡ Ok c → IsKeptSaid sites site At.Crash rest c
crash_back sites site rest c u lacks e =
    let first = behind_back (by_word disk_call_of rest) _ c e in
    let k = disk_call_back rest first.value first.rest first.is in
    let one = behind_number first.value rest first.rest (omega (arith, k.fits.1)) u lacks k.whole in
    let second = behind_back (by_word number_of first.rest) _ c first.then_is in
    let choice = number_at_back first.rest second.value second.rest second.is in
    let two = behind_number second.value first.rest second.rest choice.fits one.0 one.1 choice.whole in
    let third = behind_back (by_word number_of second.rest) _ c second.then_is in
    let index = number_at_back second.rest third.value third.rest third.is in
    let three = behind_number third.value second.rest third.rest index.fits two.0 two.1 index.whole in
    let made = mapped_back (λ atom. Crash site first.value second.value third.value atom)
    (behind (cluster_at third.rest) last) c third.then_is in
    let fourth = behind_back (cluster_at third.rest) last made.0 made.1 in
    let text = cluster_back third.rest fourth.value fourth.rest three.0 three.1 fourth.is in
    let end = last_back fourth.value made.0 fourth.rest fourth.then_is in
    let written : List ℕ = spaced_text (fourth.value ∷ []) in
    said_with sites site At.Crash rest
    (spaced first.value ++ (spaced second.value ++ (spaced third.value ++ written)))
    (Crash site first.value second.value third.value fourth.value) c
    (ap (λ (atom : List ℕ). Crash site first.value second.value third.value atom) end.0 ∙ made.2)
    (k.whole ∙ ap (λ (xs : List ℕ). spaced first.value ++ xs) (choice.whole
    ∙ ap (λ (xs : List ℕ). spaced second.value ++ xs) (index.whole
    ∙ ap (λ (xs : List ℕ). spaced third.value ++ xs) (text.whole ∙ ended written fourth.rest end.1))))
    (λ s. (s, k.fits, choice.fits, index.fits, text.fits)) refl

site_command_back : (sites site : ℕ) (word : KeptSiteWord) (rest : List ℕ) (c : KeptCommand) → IsUtf8 rest
    → Lacks 10 rest → kept_site_command sites site word rest ≡ Ok c → IsKeptSaid sites site word rest c
site_command_back sites site At.Ins rest c u lacks e =
    let got = mapped_back (λ asked. Ins site asked.0 asked.1) (index_and_text rest) c e in
    let asked = index_and_text_back rest got.0 u lacks got.1 in
    said_with sites site At.Ins rest _ (Ins site got.0.0 got.0.1) c got.2 asked.whole
    (λ s. (s, asked.fits.0, asked.fits.1)) refl
site_command_back sites site At.Del rest c u lacks e =
    let got = mapped_back (λ asked. Del site asked.0 asked.1) (two_numbers rest) c e in
    let asked = two_numbers_back rest got.0 got.1 in
    said_with sites site At.Del rest _ (Del site got.0.0 got.0.1) c got.2 asked.whole
    (λ s. (s, asked.fits.0, asked.fits.1)) refl
site_command_back sites site At.Flat rest c u lacks e =
    let got = mapped_back (λ place. Flat site place) (place_at rest) c e in
    let asked = place_back rest got.0 got.1 in
    said_with sites site At.Flat rest _ (Flat site got.0) c got.2 asked.whole (λ s. (s, asked.fits)) refl
site_command_back sites site At.Cancel rest c u lacks e =
    let got = mapped_back (λ proposal. Cancel site proposal) (proposal_at sites rest) c e in
    let asked = proposal_back sites rest got.0 got.1 in
    said_with sites site At.Cancel rest _ (Cancel site got.0) c got.2 asked.whole (λ s. (s, asked.fits)) refl
site_command_back sites site At.Give rest c u lacks e = give_back sites site rest c e
site_command_back sites site At.Show rest c u lacks e =
    let end = last_back (Show site) c rest e in
    said_with sites site At.Show rest [] (Show site) c end.0 end.1 (λ s. s)
    (ap (λ (xs : List ℕ). codes "show" ++ xs) (append-nil (spaced site)))
site_command_back sites site At.Crash rest c u lacks e = crash_back sites site rest c u lacks e

site_spelling_ascii : (word : KeptSiteWord) → list_all (λ b. ltb b 128) (kept_spelling (First.AtSite word)) ≡ true
site_spelling_ascii At.Ins = refl
site_spelling_ascii At.Del = refl
site_spelling_ascii At.Flat = refl
site_spelling_ascii At.Cancel = refl
site_spelling_ascii At.Give = refl
site_spelling_ascii At.Show = refl
site_spelling_ascii At.Crash = refl

spelling_utf8 : (word : KeptWord) → IsUtf8 (kept_spelling word)
spelling_utf8 First.Sites = ascii_by_test (codes "sites") refl
spelling_utf8 (First.AtSite word) = ascii_by_test (kept_spelling (First.AtSite word)) (site_spelling_ascii word)

site_word_named : (word : KeptSiteWord) → kept_word_named (kept_spelling (First.AtSite word)) ≡ Some (First.AtSite word)
site_word_named At.Ins = refl
site_word_named At.Del = refl
site_word_named At.Flat = refl
site_word_named At.Cancel = refl
site_word_named At.Give = refl
site_word_named At.Show = refl
site_word_named At.Crash = refl

named_there : (word : KeptWord) → kept_word_named (kept_spelling word) ≡ Some word
named_there First.Sites = refl
named_there (First.AtSite word) = site_word_named word

named_back : (name : List ℕ) (word : KeptWord) → kept_word_named name ≡ Some word → kept_spelling word ≡ name
named_back name word e = (bytes_eq-Decides (kept_spelling word) name).0
    (find_In (λ w. bytes_eq (kept_spelling w) name) kept_words word e).1

-- what a line says behind its word
record SaysKept (size sites : ℕ) (word : KeptWord) (rest : List ℕ) (c : KeptCommand) : Type 0 where
  whole : kept_spelling word ++ rest ≡ kept_line_of c
  placed : IsKeptPlaced size sites word c

command_back : (size sites : ℕ) (word : KeptWord) (rest : List ℕ) (c : KeptCommand) → sites ≤ MAX_SITE
    → IsUtf8 rest → Lacks 10 rest → kept_command size sites word rest ≡ Ok c → SaysKept size sites word rest c
command_back size sites First.Sites rest c few u lacks e =
    let got = mapped_back (λ n. Sites n) (sites_at size rest) c e in
    let read = sites_back size rest got.0 got.1 in
    subst (SaysKept size sites First.Sites rest) got.2
    (record {
      whole = ap (λ (xs : List ℕ). codes "sites" ++ xs) read.whole;
      placed = kept_at_first got.0 refl refl read.fits;
    })
command_back size sites (First.AtSite word) rest c few u lacks e =
    let first = behind_back (by_word (site_of sites) rest) _ c e in
    let site = site_at_back sites rest first.value first.rest first.is in
    let left = behind_number first.value rest first.rest (omega (arith, site.fits.1)) u lacks site.whole in
    let said = site_command_back sites first.value word first.rest c left.0 left.1 first.then_is in
    record {
      whole = ap (λ (xs : List ℕ). kept_spelling (First.AtSite word) ++ xs) site.whole ∙ said.1;
      placed = kept_at_later (said.0 site.fits) (λ sites'. refl);
    }

-- a command that passes the test of the sums
within_back : (before : KeptBefore) (r : Result KeptCommand Kind) (c : KeptCommand) → within_kept before r ≡ Ok c
    → (r ≡ Ok c) × (is_kept_too_much before c ≡ false)
within_back before (Err kind) c e = absurd (err_is_no_ok kind c e)
within_back before (Ok got) c e = at_test (is_kept_too_much before got) refl e
  where
    at_test : (much : Bool) → is_kept_too_much before got ≡ much
        → cond {A = Result KeptCommand Kind} much (Err Fault.Size) (Ok got) ≡ Ok c
        → (◌≡◌ {A = Result KeptCommand Kind} (Ok got) (Ok c)) × (is_kept_too_much before c ≡ false)
    at_test true h e = absurd (err_is_no_ok Fault.Size c e)
    at_test false h e = (e, subst (λ (x : KeptCommand). is_kept_too_much before x ≡ false) (ok_same got c e) h)

stands : (size : ℕ) (before : KeptBefore) (word : KeptWord) (c : KeptCommand) → IsKeptPlaced size before.sites word c
    → is_kept_misplaced before.sites word ≡ false → is_kept_too_much before c ≡ false → KeptCanStand size before c
stands size before word c (kept_at_first n e f fits) placed few =
    kept_begins n e (none_before before.sites (sym (ap (is_kept_misplaced before.sites) f) ∙ placed)) fits
  where
    none_before : (sites : ℕ) → ltb 0 sites ≡ false → sites ≡ 0
    none_before sites h = omega (arith, ltb-false 0 sites h)
stands size before word c (kept_at_later fits later) placed few =
    kept_follows (some_before before.sites (sym (later before.sites) ∙ placed)) fits few
  where
    some_before : (sites : ℕ) → eqb sites 0 ≡ false → 1 ≤ sites
    some_before sites h = let none : sites ≢ 0 = eqb-false sites 0 h in omega arith

-- what a line says whole
record SaysKeptLine (size : ℕ) (before : KeptBefore) (line : List ℕ) (c : KeptCommand) : Type 0 where
  whole : line ≡ kept_line_of c
  stands_there : KeptCanStand size before c

named_command_back : (size : ℕ) (before : KeptBefore) (line name rest : List ℕ) (c : KeptCommand) (o : Option KeptWord)
    → before.sites ≤ MAX_SITE → IsUtf8 line → Lacks 10 line → line ≡ name ++ rest
    → kept_word_named name ≡ o → kept_command_named size before o rest ≡ Ok c → SaysKeptLine size before line c
named_command_back size before line name rest c None few u lacks whole h e = absurd (err_is_no_ok Fault.Word c e)
named_command_back size before line name rest c (Some word) few u lacks whole h e =
    at_test (is_kept_misplaced before.sites word) refl e
  where
    spelled : line ≡ kept_spelling word ++ rest
    spelled = whole ∙ ap (λ (xs : List ℕ). xs ++ rest) (sym (named_back name word h))

    at_test : (misplaced : Bool) → is_kept_misplaced before.sites word ≡ misplaced
        → cond {A = Result KeptCommand Kind} misplaced (Err Fault.Sites)
        (within_kept before (kept_command size before.sites word rest)) ≡ Ok c → SaysKeptLine size before line c
    at_test true g e = absurd (err_is_no_ok Fault.Sites c e)
    at_test false g e =
        let got = within_back before (kept_command size before.sites word rest) c e in
        let said = command_back size before.sites word rest c few
        (IsUtf8-after line (kept_spelling word) rest u (spelling_utf8 word) spelled)
        (lacks_behind 10 (kept_spelling word) rest (subst (Lacks 10) spelled lacks)) got.0 in
        record { whole = spelled ∙ said.whole; stands_there = stands size before word c said.placed g got.1 }

-- the text of a line as a command
abbrev pub kept_command_of : ℕ → KeptBefore → List ℕ → Result KeptCommand Kind
kept_command_of size before line =
    kept_command_named size before (kept_word_named (cut_word line).0) (cut_word line).1

pub kept_judged_back : (size : ℕ) (before : KeptBefore) (line : List ℕ) (o : Option KeptCommand)
    → before.sites ≤ MAX_SITE → kept_judged size before line ≡ Ok o
    → IsJudged kept_line_of (KeptCanStand size before) line o
kept_judged_back size before line o few e =
    judged_line_back kept_line_of (KeptCanStand size before) (kept_command_of size before)
    (λ line c u lacks e.
    let is = named_command_back size before line (cut_word line).0 (cut_word line).1 c
    (kept_word_named (cut_word line).0) few u lacks (cut_back line).whole refl e in (is.whole, is.stands_there)) line
    o e

-- ---- what is written

crash_there : (site k choice index : ℕ) (atom : List ℕ) → IsInRange 1 DISK_CALLS k → IsNumber choice → IsNumber index
    → IsClusters (atom ∷ [])
    → crash_at site (spaced k ++ (spaced choice ++ (spaced index ++ spaced_text (atom ∷ []))))
    ≡ Ok (Crash site k choice index atom)
crash_there site k choice index atom hk hc hi text =
    let written : List ℕ = spaced_text (atom ∷ []) in
    behind_there _ _ k (spaced choice ++ (spaced index ++ written))
    (disk_call_there k (spaced choice ++ (spaced index ++ written)) hk refl)
    ∙ behind_there _ _ choice (spaced index ++ written) (number_at_there choice (spaced index ++ written) hc refl)
    ∙ behind_there _ _ index written (number_at_there index written hi refl)
    ∙ mapped_there (λ atom. Crash site k choice index atom) (behind (cluster_at written) last) atom
    (behind_there (cluster_at written) last atom [] (cluster_there atom text))

-- a command behind its word
at_site : (size sites : ℕ) (word : KeptSiteWord) (site : ℕ) (rest : List ℕ) (c : KeptCommand) → sites ≤ MAX_SITE
    → IsSiteOf sites site → IsOpen rest → kept_site_command sites site word rest ≡ Ok c
    → kept_command size sites (First.AtSite word) (spaced site ++ rest) ≡ Ok c
at_site size sites word site rest c few h free e =
    behind_there _ (λ site rest. kept_site_command sites site word rest) site rest
    (site_at_there sites site rest few h free) ∙ e

at_site_alone : (size sites : ℕ) (word : KeptSiteWord) (site : ℕ) (c : KeptCommand) → sites ≤ MAX_SITE
    → IsSiteOf sites site → kept_site_command sites site word [] ≡ Ok c
    → kept_command size sites (First.AtSite word) (spaced site) ≡ Ok c
at_site_alone size sites word site c few h e =
    ap (kept_command size sites (First.AtSite word)) (sym (append-nil (spaced site)))
    ∙ at_site size sites word site [] c few h tt e

-- the word of a line, and the command that is read behind it
record IsKeptLineOf (size sites : ℕ) (line : List ℕ) (c : KeptCommand) (misplaced : Bool) : Type 0 where
  word : KeptWord
  rest : List ℕ
  cut : cut_word line ≡ (kept_spelling word, rest)
  read : kept_command size sites word rest ≡ Ok c
  placed : is_kept_misplaced sites word ≡ misplaced

line_at_site : (size sites : ℕ) (word : KeptSiteWord) (rest line : List ℕ) (c : KeptCommand)
    → cut_word line ≡ (kept_spelling (First.AtSite word), rest)
    → kept_command size sites (First.AtSite word) rest ≡ Ok c → IsKeptLineOf size sites line c (eqb sites 0)
line_at_site size sites word rest line c cut read =
    record { word = First.AtSite word; rest = rest; cut = cut; read = read; placed = refl }

line_there : (size sites : ℕ) (c : KeptCommand) → sites ≤ MAX_SITE → IsKeptCommand sites c
    → IsKeptLineOf size sites (kept_line_of c) c (eqb sites 0)
line_there size sites (Sites n) few h = absurd h
line_there size sites (Ins site index atoms) few h =
    line_at_site size sites At.Ins (spaced site ++ (spaced index ++ spaced_text atoms)) _ _ refl
    (at_site size sites At.Ins site (spaced index ++ spaced_text atoms) (Ins site index atoms) few h.0 refl
    (mapped_there _ _ (index, atoms) (index_and_text_there index atoms h.1 h.2)))
line_there size sites (Del site index count) few h =
    line_at_site size sites At.Del (spaced site ++ (spaced index ++ spaced count)) _ _ refl
    (at_site size sites At.Del site (spaced index ++ spaced count) (Del site index count) few h.0 refl
    (mapped_there _ _ (index, count) (two_numbers_there index count h.1 h.2)))
line_there size sites (Flat site place) few h =
    line_at_site size sites At.Flat (spaced site ++ spaced_place place) _ _ refl
    (at_site size sites At.Flat site (spaced_place place) (Flat site place) few h.0 (place_open place)
    (mapped_there _ _ place (place_there place h.1)))
line_there size sites (Cancel site proposal) few h =
    line_at_site size sites At.Cancel (spaced site ++ spaced_dot proposal) _ _ refl
    (at_site size sites At.Cancel site (spaced_dot proposal) (Cancel site proposal) few h.0 refl
    (mapped_there _ _ proposal (proposal_there sites proposal few h.1)))
line_there size sites (Give site number) few h =
    line_at_site size sites At.Give (spaced site ++ spaced number) _ _ refl
    (at_site size sites At.Give site (spaced number) (Give site number) few h.0 refl
    (behind_there _ (λ number rest. last (Give site number) rest) number [] (number_end number h.1)))
line_there size sites (Show site) few h =
    line_at_site size sites At.Show (spaced site) _ _ refl
    (at_site_alone size sites At.Show site (Show site) few h refl)
line_there size sites (Crash site k choice index atom) few h =
    line_at_site size sites At.Crash
    (spaced site ++ (spaced k ++ (spaced choice ++ (spaced index ++ spaced_text (atom ∷ []))))) _ _ refl
    (at_site size sites At.Crash site (spaced k ++ (spaced choice ++ (spaced index ++ spaced_text (atom ∷ []))))
    (Crash site k choice index atom) few h.0 refl (crash_there site k choice index atom h.1 h.2 h.3 h.4))

sites_line_there : (size sites n : ℕ) → IsSitesFor size n
    → IsKeptLineOf size sites (kept_line_of (Sites n)) (Sites n) (ltb 0 sites)
sites_line_there size sites n h = record {
  word = First.Sites;
  rest = spaced n;
  cut = refl;
  placed = refl;
  read = mapped_there (λ n. Sites n) (sites_at size (spaced n)) n (sites_there size n h);
}

named_command_there : (size : ℕ) (before : KeptBefore) (line : List ℕ) (c : KeptCommand) → IsLine line
    → is_skipped line ≡ false → (misplaced : Bool) → (is : IsKeptLineOf size before.sites line c misplaced)
    → misplaced ≡ false → is_kept_too_much before c ≡ false → kept_judged size before line ≡ Ok (Some c)
named_command_there size before line c h spoken misplaced is placed few =
    judged_line_there (kept_command_of size before) line c h spoken
    (ap (λ (cut : List ℕ × List ℕ). kept_command_named size before (kept_word_named cut.0) cut.1) is.cut
    ∙ ap (λ (o : Option KeptWord). kept_command_named size before o is.rest) (named_there is.word)
    ∙ cond-false {A = Result KeptCommand Kind} (is_kept_misplaced before.sites is.word) (Err Fault.Sites)
    (within_kept before (kept_command size before.sites is.word is.rest)) (is.placed ∙ placed)
    ∙ ap (within_kept before) is.read
    ∙ cond-false {A = Result KeptCommand Kind} (is_kept_too_much before c) (Err Fault.Size) (Ok c) few)

-- no command's line is skipped
pub kept_spoken : (c : KeptCommand) → is_skipped (kept_line_of c) ≡ false
kept_spoken (Sites n) = refl
kept_spoken (Ins site index atoms) = refl
kept_spoken (Del site index count) = refl
kept_spoken (Flat site place) = refl
kept_spoken (Cancel site proposal) = refl
kept_spoken (Give site number) = refl
kept_spoken (Show site) = refl
kept_spoken (Crash site k choice index atom) = refl

-- `sites` adds nothing
sites_not_much : (before : KeptBefore) (n : ℕ) → before.sites ≡ 0 → is_kept_too_much before (Sites n) ≡ false
sites_not_much before n none =
    ap (λ (s : ℕ). is_kept_too_much (record { sites = s; requests = before.requests; crashes = before.crashes })
    (Sites n)) none

-- the line of a command that can stand there says the command
pub kept_judged_there : (size : ℕ) (before : KeptBefore) (c : KeptCommand) → before.sites ≤ MAX_SITE
    → KeptCanStand size before c → IsLine (kept_line_of c) → kept_judged size before (kept_line_of c) ≡ Ok (Some c)
kept_judged_there size before c few (kept_begins n e none fits) h =
    subst (λ (x : KeptCommand). kept_judged size before (kept_line_of x) ≡ Ok (Some x)) (sym e)
    (named_command_there size before (kept_line_of (Sites n)) (Sites n)
    (subst (λ (x : KeptCommand). IsLine (kept_line_of x)) e h) (kept_spoken (Sites n)) (ltb 0 before.sites)
    (sites_line_there size before.sites n fits) (le-ltb 0 before.sites (omega arith)) (sites_not_much before n none))
kept_judged_there size before c few (kept_follows some fits sums) h =
    named_command_there size before (kept_line_of c) c h (kept_spoken c) (eqb before.sites 0)
    (line_there size before.sites c few fits)
    (ne_eqb before.sites 0 (λ (e : before.sites ≡ 0). absurd (omega arith))) sums
