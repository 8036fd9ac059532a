-- The commands behind a site: what is read is the line of the command.
use Rattle.std.proofs.Common.{◌≡◌, ℕ, Bool, true, false, cond, List, ◌∷◌, ◌++◌, codes, Ok, refl, sym, ap, subst, ◌∙◌}
use Rattle.std.proofs.Common.{bytes_eq, IsUtf8}
use Rattle.td_script.specs.declared.command.Command.{Command}
use Rattle.td_script.specs.declared.command.Command.TheVariants.{Ins, Paste, Del, Flat, FlatAuto, Cancel, Give}
use Rattle.td_script.specs.declared.command.Command.TheVariants.{GiveAll, Show, Tree, Count, Mark, Meet, Marks}
use Rattle.td_script.specs.declared.command.Place.{Place}
use Rattle.td_script.specs.declared.command.Place.TheVariants.{Root, Beside}
use Rattle.td_script.specs.declared.word.Word.TheVariants.{AtSite}
use Rattle.td_script.specs.declared.word.SiteWord.{SiteWord}
use Rattle.td_script.specs.declared.word.SiteWord.TheVariants as At
use Rattle.td_script.specs.Arguments.{behind, by_word, with_rest, last, name_of, number_of, site_of, word_at}
use Rattle.td_script.specs.Faults.{mark_at, meet_at, site_command}
use Rattle.td_script.specs.Script.{IsSiteOf, IsCommand, IsPlace}
use Rattle.td_script.specs.Shared.{index_and_text, mapped, place_of, proposal_at, two_numbers}
use Rattle.td_script.specs.Spelling.{line_of, mark_word, spaced}
use Rattle.td_script.specs.Words.{spelling}
use Rattle.td_script.proofs.ArgumentLaws.{name_at_back, site_at_back}
use Rattle.td_script.proofs.NumberWords.{number_back}
use Rattle.td_script.proofs.SharedLaws.{ended, fixed_word, mapped_back, index_and_text_back, two_numbers_back}
use Rattle.td_script.proofs.SharedLaws.{place_of_back, proposal_back}
use Rattle.td_script.proofs.Splitting.{Lacks}
use Rattle.td_script.proofs.WordLaws.{behind_back, last_back, word_at_back, with_rest_back}

-- what a line says behind its site is the command, and fits
abbrev pub IsSaid : ℕ → ℕ → SiteWord → List ℕ → Command → Type 0
IsSaid sites site word rest c =
    (IsSiteOf sites site → IsCommand sites c) × (spelling (AtSite word) ++ (spaced site ++ rest) ≡ line_of c)

-- a command is said where the words behind its site are what is written of it
said_with : (sites site : ℕ) (word : SiteWord) (rest written : List ℕ) (made c : Command) → made ≡ c → rest ≡ written
    → (IsSiteOf sites site → IsCommand sites made)
    → spelling (AtSite word) ++ (spaced site ++ written) ≡ line_of made → IsSaid sites site word rest c
said_with sites site word rest written made c e whole fits line =
    subst (IsSaid sites site word rest) e
    (fits, ap (λ (xs : List ℕ). spelling (AtSite word) ++ (spaced site ++ xs)) whole ∙ line)

ins_back : (sites site : ℕ) (rest : List ℕ) (c : Command) → IsUtf8 rest → Lacks 10 rest
    → site_command sites site At.Ins rest ≡ Ok c → IsSaid sites site At.Ins rest c
ins_back sites site rest c u lacks e =
    let got = mapped_back (λ asked. Ins site asked.0 asked.1) (index_and_text rest) c e in
    let asked = index_and_text_back rest got.0 u lacks got.1 in
    said_with sites site At.Ins rest _ (Ins site got.0.0 got.0.1) c got.2 asked.whole
    (λ s. (s, asked.fits.0, asked.fits.1)) refl

paste_back : (sites site : ℕ) (rest : List ℕ) (c : Command) → IsUtf8 rest → Lacks 10 rest
    → site_command sites site At.Paste rest ≡ Ok c → IsSaid sites site At.Paste rest c
paste_back sites site rest c u lacks e =
    let got = mapped_back (λ asked. Paste site asked.0 asked.1) (index_and_text rest) c e in
    let asked = index_and_text_back rest got.0 u lacks got.1 in
    said_with sites site At.Paste rest _ (Paste site got.0.0 got.0.1) c got.2 asked.whole
    (λ s. (s, asked.fits.0, asked.fits.1)) refl

del_back : (sites site : ℕ) (rest : List ℕ) (c : Command) → site_command sites site At.Del rest ≡ Ok c
    → IsSaid sites site At.Del rest c
del_back sites site rest c e =
    let got = mapped_back (λ asked. Del site asked.0 asked.1) (two_numbers rest) c e in
    let asked = two_numbers_back rest got.0 got.1 in
    said_with sites site At.Del rest _ (Del site got.0.0 got.0.1) c got.2 asked.whole
    (λ s. (s, asked.fits.0, asked.fits.1)) refl

flat_fits : (sites site : ℕ) (place : Place) → IsPlace place → IsSiteOf sites site → IsCommand sites (Flat site place)
flat_fits sites site Root h s = s
flat_fits sites site (Beside index bit) h s = (s, h)

flat_place_back : (sites site : ℕ) (rest word left : List ℕ) (c : Command) → rest ≡ 32 ∷ (word ++ left)
    → mapped (λ place. Flat site place) (place_of word left) ≡ Ok c → IsSaid sites site At.Flat rest c
flat_place_back sites site rest word left c begins e =
    let got = mapped_back (λ place. Flat site place) (place_of word left) c e in
    let asked = place_of_back rest word left got.0 begins got.1 in
    said_with sites site At.Flat rest _ (Flat site got.0) c got.2 asked.whole
    (flat_fits sites site got.0 asked.fits) refl

flat_word_back : (sites site : ℕ) (rest word left : List ℕ) (c : Command) (x : Bool) → rest ≡ 32 ∷ (word ++ left)
    → bytes_eq word (codes "auto") ≡ x
    → cond x (last (FlatAuto site) left) (mapped (λ place. Flat site place) (place_of word left)) ≡ Ok c
    → IsSaid sites site At.Flat rest c
flat_word_back sites site rest word left c true begins is e =
    let end = last_back (FlatAuto site) c left e in
    subst (IsSaid sites site At.Flat rest) end.0 (
      (λ s. s),
      ap (λ (xs : List ℕ). codes "flat" ++ (spaced site ++ xs))
          (fixed_word rest word left (codes "auto") begins is end.1),
    )
flat_word_back sites site rest word left c false begins is e = flat_place_back sites site rest word left c begins e

flat_back : (sites site : ℕ) (rest : List ℕ) (c : Command) → site_command sites site At.Flat rest ≡ Ok c
    → IsSaid sites site At.Flat rest c
flat_back sites site rest c e =
    let first = behind_back (word_at rest) _ c e in
    let spaced_word = word_at_back rest first.value first.rest first.is in
    flat_word_back sites site rest first.value first.rest c
    (bytes_eq first.value (codes "auto")) spaced_word.whole refl first.then_is

cancel_back : (sites site : ℕ) (rest : List ℕ) (c : Command) → site_command sites site At.Cancel rest ≡ Ok c
    → IsSaid sites site At.Cancel rest c
cancel_back sites site rest c e =
    let got = mapped_back (λ proposal. Cancel site proposal) (proposal_at sites rest) c e in
    let asked = proposal_back sites rest got.0 got.1 in
    said_with sites site At.Cancel rest _ (Cancel site got.0) c got.2 asked.whole
    (λ s. (s, asked.fits)) refl

give_number_back : (sites site : ℕ) (rest word left : List ℕ) (c : Command) → rest ≡ 32 ∷ (word ++ left)
    → behind (with_rest left (number_of word)) (λ number rest. last (Give site number) rest) ≡ Ok c
    → IsSaid sites site At.Give rest c
give_number_back sites site rest word left c begins e =
    let first = behind_back (with_rest left (number_of word)) (λ number rest. last (Give site number) rest) c e in
    let got = with_rest_back left first.rest (number_of word) first.value first.is in
    let number = number_back word first.value got.0 in
    let end = last_back (Give site first.value) c first.rest first.then_is in
    let whole : rest ≡ spaced first.value = begins ∙ ap (λ (xs : List ℕ). 32 ∷ (xs ++ left)) number.1
    ∙ ended (spaced first.value) left (got.1 ∙ end.1) in
    subst (IsSaid sites site At.Give rest) end.0
    ((λ s. (s, number.0)), ap (λ (xs : List ℕ). codes "give" ++ (spaced site ++ xs)) whole)

give_word_back : (sites site : ℕ) (rest word left : List ℕ) (c : Command) (x : Bool) → rest ≡ 32 ∷ (word ++ left)
    → bytes_eq word (codes "all") ≡ x
    → cond x (last (GiveAll site) left) (behind (with_rest left (number_of word))
    (λ number rest. last (Give site number) rest)) ≡ Ok c → IsSaid sites site At.Give rest c
give_word_back sites site rest word left c true begins is e =
    let end = last_back (GiveAll site) c left e in
    subst (IsSaid sites site At.Give rest) end.0 (
      (λ s. s),
      ap (λ (xs : List ℕ). codes "give" ++ (spaced site ++ xs))
          (fixed_word rest word left (codes "all") begins is end.1),
    )
give_word_back sites site rest word left c false begins is e = give_number_back sites site rest word left c begins e

give_back : (sites site : ℕ) (rest : List ℕ) (c : Command) → site_command sites site At.Give rest ≡ Ok c
    → IsSaid sites site At.Give rest c
give_back sites site rest c e =
    let first = behind_back (word_at rest) _ c e in
    let spaced_word = word_at_back rest first.value first.rest first.is in
    give_word_back sites site rest first.value first.rest c
    (bytes_eq first.value (codes "all")) spaced_word.whole refl first.then_is

mark_back : (sites site : ℕ) (word : SiteWord) (add : Bool) (rest : List ℕ) (c : Command)
    → spelling (AtSite word) ≡ mark_word add → mark_at site add rest ≡ Ok c → IsSaid sites site word rest c
mark_back sites site word add rest c same e =
    let first = behind_back (by_word name_of rest) _ c e in
    let name = name_at_back rest first.value first.rest first.is in
    let got = mapped_back (λ asked. Mark site add first.value asked.0 asked.1) (two_numbers first.rest) c
    first.then_is in
    let asked = two_numbers_back first.rest got.0 got.1 in
    let written : List ℕ = spaced first.value ++ (spaced got.0.0 ++ spaced got.0.1) in
    said_with sites site word rest written (Mark site add first.value got.0.0 got.0.1) c got.2
    (name.whole ∙ ap (λ (xs : List ℕ). spaced first.value ++ xs) asked.whole)
    (λ s. (s, name.fits, asked.fits.0, asked.fits.1)) (ap (λ (xs : List ℕ). xs ++ (spaced site ++ written)) same)

meet_back : (sites site : ℕ) (rest : List ℕ) (c : Command) → meet_at sites site rest ≡ Ok c
    → IsSaid sites site At.Meet rest c
meet_back sites site rest c e =
    let first = behind_back (by_word (site_of sites) rest) (λ other rest. last (Meet site other) rest) c e in
    let other = site_at_back sites rest first.value first.rest first.is in
    let end = last_back (Meet site first.value) c first.rest first.then_is in
    said_with sites site At.Meet rest (spaced first.value) (Meet site first.value) c end.0
    (other.whole ∙ ended (spaced first.value) first.rest end.1) (λ s. (s, other.fits)) refl

-- a command that has nothing behind its site
alone_back : (sites site : ℕ) (word : SiteWord) (made : Command) (rest : List ℕ) (c : Command)
    → (IsSiteOf sites site → IsCommand sites made) → line_of made ≡ spelling (AtSite word) ++ spaced site
    → last made rest ≡ Ok c → IsSaid sites site word rest c
alone_back sites site word made rest c fits line e =
    let end = last_back made c rest e in
    subst (IsSaid sites site word rest) end.0
    (fits, ap (λ (xs : List ℕ). spelling (AtSite word) ++ xs) (ended (spaced site) rest end.1) ∙ sym line)

pub site_command_back : (sites site : ℕ) (word : SiteWord) (rest : List ℕ) (c : Command) → IsUtf8 rest → Lacks 10 rest
    → site_command sites site word rest ≡ Ok c → IsSaid sites site word rest c
site_command_back sites site At.Ins rest c u lacks e = ins_back sites site rest c u lacks e
site_command_back sites site At.Paste rest c u lacks e = paste_back sites site rest c u lacks e
site_command_back sites site At.Del rest c u lacks e = del_back sites site rest c e
site_command_back sites site At.Flat rest c u lacks e = flat_back sites site rest c e
site_command_back sites site At.Cancel rest c u lacks e = cancel_back sites site rest c e
site_command_back sites site At.Give rest c u lacks e = give_back sites site rest c e
site_command_back sites site At.Show rest c u lacks e = alone_back sites site At.Show (Show site) rest c (λ s. s) refl e
site_command_back sites site At.Tree rest c u lacks e = alone_back sites site At.Tree (Tree site) rest c (λ s. s) refl e
site_command_back sites site At.Count rest c u lacks e =
    alone_back sites site At.Count (Count site) rest c (λ s. s) refl e
site_command_back sites site At.Mark rest c u lacks e = mark_back sites site At.Mark true rest c refl e
site_command_back sites site At.Unmark rest c u lacks e = mark_back sites site At.Unmark false rest c refl e
site_command_back sites site At.Meet rest c u lacks e = meet_back sites site rest c e
site_command_back sites site At.Marks rest c u lacks e =
    alone_back sites site At.Marks (Marks site) rest c (λ s. s) refl e
