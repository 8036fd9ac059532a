-- What a shell pastes is atoms.
use Rattle.std.proofs.Common.{◌≡◌, ◌++◌, ℕ, Bool, true, false, cond, not, ltb, List, Option, Some, None, Result, Ok}
use Rattle.std.proofs.Common.{Err, length, refl, sym, ap, subst, ◌∙◌, IsUtf8}
use Rattle.std.specs.Prelude.{codes, bytes_eq}
use Rattle.std.proofs.lemmas.Slice.Eq.{bytes_eq-Decides}
use Rattle.unicode_segmentation.proofs.TextLemmas.{IsUtf8-after}
use Rattle.td_base.proofs.Searches.{find_In}
use Rattle.td_script.specs.declared.kind.Kind.{Kind}
use Rattle.td_script.specs.declared.kind.Kind.TheVariants as Fault
use Rattle.td_script.specs.declared.script.TheConstants.{MAX_LINE}
use Rattle.td_script.specs.declared.shell.command.ShellCommand.{ShellCommand}
use Rattle.td_script.specs.declared.shell.command.ShellCommand.TheVariants.{Ins, Paste, Del, Flat, FlatAuto, Cancel}
use Rattle.td_script.specs.declared.shell.command.ShellCommand.TheVariants.{Take, Send, Show, Tree, Count}
use Rattle.td_script.specs.declared.shell.word.ShellWord.{ShellWord}
use Rattle.td_script.specs.declared.shell.word.ShellWord.TheVariants as First
use Rattle.td_script.specs.Arguments.{by_word, cut_word, last, number_of, word_at}
use Rattle.td_script.specs.Hex.{bytes_of}
use Rattle.td_script.specs.Judging.{heard}
use Rattle.td_script.specs.Lines.{is_skipped, is_text_line}
use Rattle.td_script.specs.Shared.{mapped, index_and_text, two_numbers, place_of, proposal_at}
use Rattle.td_script.specs.ShellFaults.{IsFitToPaste, auto_or_place, shell_command, shell_command_named}
use Rattle.td_script.specs.ShellWords.{shell_spelling, shell_word_named, shell_words}
use Rattle.td_script.proofs.JudgingLaws.{lacks_lf, text_parts}
use Rattle.td_script.proofs.LineLaws.{ascii_by_test}
use Rattle.td_script.proofs.Results.{err_is_no_ok}
use Rattle.td_script.proofs.SharedLaws.{index_and_text_back, lacks_behind, mapped_back}
use Rattle.td_script.proofs.Splitting.{Lacks}
use Rattle.td_script.proofs.WordLaws.{behind_back, cut_back, last_back}

fits_flat : (word rest : List ℕ) (c : ShellCommand) (auto : Bool)
    → cond {A = Result ShellCommand Kind} auto (last FlatAuto rest) (mapped (λ place. Flat place) (place_of word rest))
    ≡ Ok c → IsFitToPaste c
fits_flat word rest c true e = subst IsFitToPaste (last_back FlatAuto c rest e).0 tt
fits_flat word rest c false e = subst IsFitToPaste (mapped_back (λ place. Flat place) (place_of word rest) c e).2 tt

fits : (sites : ℕ) (word : ShellWord) (rest : List ℕ) (c : ShellCommand) → IsUtf8 rest → Lacks 10 rest
    → shell_command sites word rest ≡ Ok c → IsFitToPaste c
fits sites First.Ins rest c u lacks e =
    subst IsFitToPaste (mapped_back (λ asked. Ins asked.0 asked.1) (index_and_text rest) c e).2 tt
fits sites First.Paste rest c u lacks e =
    let got = mapped_back (λ asked. Paste asked.0 asked.1) (index_and_text rest) c e in
    subst IsFitToPaste got.2 (index_and_text_back rest got.0 u lacks got.1).fits.1.each
fits sites First.Del rest c u lacks e =
    subst IsFitToPaste (mapped_back (λ asked. Del asked.0 asked.1) (two_numbers rest) c e).2 tt
fits sites First.Flat rest c u lacks e =
    let first = behind_back (word_at rest) auto_or_place c e in
    fits_flat first.value first.rest c (bytes_eq first.value (codes "auto")) first.then_is
fits sites First.Cancel rest c u lacks e =
    subst IsFitToPaste (mapped_back (λ proposal. Cancel proposal) (proposal_at sites rest) c e).2 tt
fits sites First.Take rest c u lacks e =
    let first = behind_back (by_word bytes_of rest) (λ packet rest. last (Take packet) rest) c e in
    subst IsFitToPaste (last_back (Take first.value) c first.rest first.then_is).0 tt
fits sites First.Send rest c u lacks e =
    let first = behind_back (by_word number_of rest) (λ number rest. last (Send number) rest) c e in
    subst IsFitToPaste (last_back (Send first.value) c first.rest first.then_is).0 tt
fits sites First.Show rest c u lacks e = subst IsFitToPaste (last_back Show c rest e).0 tt
fits sites First.Tree rest c u lacks e = subst IsFitToPaste (last_back Tree c rest e).0 tt
fits sites First.Count rest c u lacks e = subst IsFitToPaste (last_back Count c rest e).0 tt

-- what is heard is a text
is_text : (line : List ℕ) → heard line ≡ Ok (Some line) → is_text_line line ≡ true
is_text line e = at (ltb MAX_LINE (length line)) (is_text_line line) refl e
  where
    at : (long text : Bool) → is_text_line line ≡ text
        → cond {A = Result (Option (List ℕ)) Kind} long (Err Fault.Long)
        (cond {A = Result (Option (List ℕ)) Kind} (not text) (Err Fault.Bytes)
        (cond {A = Result (Option (List ℕ)) Kind} (is_skipped line) (Ok None) (Ok (Some line)))) ≡ Ok (Some line)
        → is_text_line line ≡ true
    at true text h e = absurd (err_is_no_ok Fault.Long (Some line) e)
    at false false h e = absurd (err_is_no_ok Fault.Bytes (Some line) e)
    at false true h e = h

spelling_utf8 : (word : ShellWord) → IsUtf8 (shell_spelling word)
spelling_utf8 First.Ins = ascii_by_test (codes "ins") refl
spelling_utf8 First.Paste = ascii_by_test (codes "paste") refl
spelling_utf8 First.Del = ascii_by_test (codes "del") refl
spelling_utf8 First.Flat = ascii_by_test (codes "flat") refl
spelling_utf8 First.Cancel = ascii_by_test (codes "cancel") refl
spelling_utf8 First.Take = ascii_by_test (codes "take") refl
spelling_utf8 First.Send = ascii_by_test (codes "send") refl
spelling_utf8 First.Show = ascii_by_test (codes "show") refl
spelling_utf8 First.Tree = ascii_by_test (codes "tree") refl
spelling_utf8 First.Count = ascii_by_test (codes "count") refl

named_back : (name : List ℕ) (word : ShellWord) → shell_word_named name ≡ Some word → shell_spelling word ≡ name
named_back name word e = (bytes_eq-Decides (shell_spelling word) name).0
    (find_In (λ w. bytes_eq (shell_spelling w) name) shell_words word e).1

named_fits : (sites : ℕ) (line name rest : List ℕ) (c : ShellCommand) (o : Option ShellWord) → IsUtf8 line
    → Lacks 10 line → line ≡ name ++ rest → shell_word_named name ≡ o → shell_command_named sites o rest ≡ Ok c
    → IsFitToPaste c
named_fits sites line name rest c None u lacks whole h e = absurd (err_is_no_ok Fault.Word c e)
named_fits sites line name rest c (Some word) u lacks whole h e =
    let spelled : line ≡ shell_spelling word ++ rest = whole
    ∙ ap (λ (xs : List ℕ). xs ++ rest) (sym (named_back name word h)) in
    fits sites word rest c (IsUtf8-after line (shell_spelling word) rest u (spelling_utf8 word) spelled)
    (lacks_behind 10 (shell_spelling word) rest (subst (Lacks 10) spelled lacks)) e

-- what a line asks to be pasted is atoms
pub line_fits : (sites : ℕ) (line : List ℕ) (c : ShellCommand) → heard line ≡ Ok (Some line)
    → shell_command_named sites (shell_word_named (cut_word line).0) (cut_word line).1 ≡ Ok c → IsFitToPaste c
line_fits sites line c spoken e =
    let parts = text_parts line (is_text line spoken) in
    named_fits sites line (cut_word line).0 (cut_word line).1 c (shell_word_named (cut_word line).0) parts.1
    (lacks_lf line parts.0) (cut_back line).whole refl e
