-- The line of each command is read as the command.
use Rattle.std.proofs.Common.{◌≡◌, ◌<◌, ◌≤◌, ℕ, Bool, true, false, eqb, ltb, List, [], ◌++◌, codes, Ok}
use Rattle.std.proofs.Common.{refl, sym, ap, ◌∙◌, append-nil, bytes_eq, arith}
use Rattle.std.specs.Fmt.{decimal}
use Rattle.std.proofs.lemmas.Bool.{cond-false}
use Rattle.td_base.specs.declared.bit.Bit.{Bit}
use Rattle.td_base.specs.declared.site.TheConstants.{MAX_SITE}
use Rattle.td_marks.specs.declared.mark_op.TheConstants.{NAMES}
use Rattle.td_script.specs.declared.before.Before.{Before}
use Rattle.td_script.specs.declared.command.Command.{Command}
use Rattle.td_script.specs.declared.command.Command.TheVariants.{Sites, Ins, Paste, Del, Flat, FlatAuto, Cancel, Give}
use Rattle.td_script.specs.declared.command.Command.TheVariants.{GiveAll, Settle, Show, Tree, Count}
use Rattle.td_script.specs.declared.command.Command.TheVariants.{Mark, Meet, Marks}
use Rattle.td_script.specs.declared.command.Place.TheVariants.{Root, Beside}
use Rattle.td_script.specs.declared.word.Word.{Word}
use Rattle.td_script.specs.declared.word.Word.TheVariants as First
use Rattle.td_script.specs.declared.word.SiteWord.{SiteWord}
use Rattle.td_script.specs.declared.word.SiteWord.TheVariants as At
use Rattle.td_script.specs.Arguments.{behind, number_of, with_rest, last}
use Rattle.td_script.specs.Arguments.{cut_word}
use Rattle.td_script.specs.Faults.{command, flat_at, give_at, is_misplaced, mark_at, meet_at, site_command}
use Rattle.td_script.specs.Shared.{mapped, place_of, sites_at}
use Rattle.td_script.proofs.SharedLaws.{IsSitesFor, mapped_there, index_and_text_there, two_numbers_there}
use Rattle.td_script.proofs.SharedLaws.{bit_open, place_of_there, proposal_there, sites_there, not_name}
use Rattle.td_script.specs.Script.{IsNumber, IsSiteOf, IsCommand}
use Rattle.td_script.specs.Spelling.{line_of, spaced, spaced_bit, spaced_dot, spaced_text}
use Rattle.td_script.specs.Words.{spelling}
use Rattle.td_script.proofs.ArgumentLaws.{decimal_lacks, name_at_there, number_of_decimal, site_at_there}
use Rattle.td_script.proofs.Numbers.{form_of_decimal}
use Rattle.td_script.proofs.WordLaws.{IsOpen, behind_there, word_at_there}

give_there : (sites site number : ℕ) → IsNumber number
    → site_command sites site At.Give (spaced number) ≡ Ok (Give site number)
give_there sites site number h =
    ap (λ (xs : List ℕ). site_command sites site At.Give xs) (sym (append-nil (spaced number)))
    ∙ behind_there _ (give_at site) (decimal number) []
    (word_at_there (decimal number) [] (form_of_decimal number h).some (decimal_lacks 32 number h (omega arith)) tt)
    ∙ cond-false (bytes_eq (decimal number) (codes "all")) (Ok (GiveAll site))
    (behind (with_rest [] (number_of (decimal number))) (λ number rest. last (Give site number) rest))
    (not_name number (codes "all") h refl)
    ∙ behind_there _ (λ number rest. last (Give site number) rest) number []
    (ap (with_rest []) (number_of_decimal number h))

flat_there : (sites site index : ℕ) (bit : Bit) → IsNumber index
    → site_command sites site At.Flat (spaced index ++ spaced_bit bit) ≡ Ok (Flat site (Beside index bit))
flat_there sites site index bit h =
    behind_there _ (flat_at site) (decimal index) (spaced_bit bit)
    (word_at_there (decimal index) (spaced_bit bit) (form_of_decimal index h).some
    (decimal_lacks 32 index h (omega arith)) (bit_open bit))
    ∙ cond-false (bytes_eq (decimal index) (codes "auto")) (last (FlatAuto site) (spaced_bit bit))
    (mapped (λ place. Flat site place) (place_of (decimal index) (spaced_bit bit)))
    (not_name index (codes "auto") h refl)
    ∙ mapped_there (λ place. Flat site place) _ (Beside index bit) (place_of_there index bit h)

mark_there : (site : ℕ) (add : Bool) (name index count : ℕ) → name < NAMES → IsNumber index → IsNumber count
    → mark_at site add (spaced name ++ (spaced index ++ spaced count)) ≡ Ok (Mark site add name index count)
mark_there site add name index count h k l =
    behind_there _ _ name (spaced index ++ spaced count) (name_at_there name (spaced index ++ spaced count) h refl)
    ∙ mapped_there _ _ (index, count) (two_numbers_there index count k l)

meet_there : (sites site other : ℕ) → sites ≤ MAX_SITE → IsSiteOf sites other
    → meet_at sites site (spaced other) ≡ Ok (Meet site other)
meet_there sites site other few h =
    ap (meet_at sites site) (sym (append-nil (spaced other)))
    ∙ behind_there _ (λ other rest. last (Meet site other) rest) other [] (site_at_there sites other [] few h tt)

-- a command behind its word
at_site : (size : ℕ) (before : Before) (word : SiteWord) (site : ℕ) (rest : List ℕ) (c : Command)
    → before.sites ≤ MAX_SITE → IsSiteOf before.sites site → IsOpen rest
    → site_command before.sites site word rest ≡ Ok c
    → command size before (First.AtSite word) (spaced site ++ rest) ≡ Ok c
at_site size before word site rest c few h free e =
    behind_there _ (λ site rest. site_command before.sites site word rest) site rest
    (site_at_there before.sites site rest few h free) ∙ e

at_site_alone : (size : ℕ) (before : Before) (word : SiteWord) (site : ℕ) (c : Command) → before.sites ≤ MAX_SITE
    → IsSiteOf before.sites site
    → site_command before.sites site word [] ≡ Ok c → command size before (First.AtSite word) (spaced site) ≡ Ok c
at_site_alone size before word site c few h e =
    ap (λ (xs : List ℕ). command size before (First.AtSite word) xs) (sym (append-nil (spaced site)))
    ∙ at_site size before word site [] c few h tt e

-- the word of a line, and the command that is read behind it
pub record IsLineOf (size : ℕ) (before : Before) (line : List ℕ) (c : Command) (misplaced : Bool) : Type 0 where
  pub word : Word
  pub rest : List ℕ
  pub cut : cut_word line ≡ (spelling word, rest)
  pub read : command size before word rest ≡ Ok c
  pub placed : is_misplaced before word ≡ misplaced

line_at_site : (size : ℕ) (before : Before) (word : SiteWord) (rest : List ℕ) (line : List ℕ) (c : Command)
    → cut_word line ≡ (spelling (First.AtSite word), rest) → command size before (First.AtSite word) rest ≡ Ok c
    → IsLineOf size before line c (eqb before.sites 0)
line_at_site size before word rest line c cut read =
    record { word = First.AtSite word; rest = rest; cut = cut; read = read; placed = refl }

pub line_there : (size : ℕ) (before : Before) (c : Command) → before.sites ≤ MAX_SITE → IsCommand before.sites c
    → IsLineOf size before (line_of c) c (eqb before.sites 0)
line_there size before (Sites n) few h = absurd h
line_there size before (Ins site index atoms) few h =
    line_at_site size before At.Ins (spaced site ++ (spaced index ++ spaced_text atoms)) _ _ refl
    (at_site size before At.Ins site (spaced index ++ spaced_text atoms) (Ins site index atoms) few h.0 refl
    (mapped_there _ _ (index, atoms) (index_and_text_there index atoms h.1 h.2)))
line_there size before (Paste site index atoms) few h =
    line_at_site size before At.Paste (spaced site ++ (spaced index ++ spaced_text atoms)) _ _ refl
    (at_site size before At.Paste site (spaced index ++ spaced_text atoms) (Paste site index atoms) few h.0 refl
    (mapped_there _ _ (index, atoms) (index_and_text_there index atoms h.1 h.2)))
line_there size before (Del site index count) few h =
    line_at_site size before At.Del (spaced site ++ (spaced index ++ spaced count)) _ _ refl
    (at_site size before At.Del site (spaced index ++ spaced count) (Del site index count) few h.0 refl
    (mapped_there _ _ (index, count) (two_numbers_there index count h.1 h.2)))
line_there size before (Flat site Root) few h =
    line_at_site size before At.Flat (spaced site ++ codes " root") _ _ refl
    (at_site size before At.Flat site (codes " root") (Flat site Root) few h refl refl)
line_there size before (Flat site (Beside index bit)) few h =
    line_at_site size before At.Flat (spaced site ++ (spaced index ++ spaced_bit bit)) _ _ refl
    (at_site size before At.Flat site (spaced index ++ spaced_bit bit) (Flat site (Beside index bit)) few h.0 refl
    (flat_there before.sites site index bit h.1))
line_there size before (FlatAuto site) few h =
    line_at_site size before At.Flat (spaced site ++ codes " auto") _ _ refl
    (at_site size before At.Flat site (codes " auto") (FlatAuto site) few h refl refl)
line_there size before (Cancel site proposal) few h =
    line_at_site size before At.Cancel (spaced site ++ spaced_dot proposal) _ _ refl
    (at_site size before At.Cancel site (spaced_dot proposal) (Cancel site proposal) few h.0 refl
    (mapped_there _ _ proposal (proposal_there before.sites proposal few h.1)))
line_there size before (Give site number) few h =
    line_at_site size before At.Give (spaced site ++ spaced number) _ _ refl
    (at_site size before At.Give site (spaced number) (Give site number) few h.0 refl
    (give_there before.sites site number h.1))
line_there size before (GiveAll site) few h =
    line_at_site size before At.Give (spaced site ++ codes " all") _ _ refl
    (at_site size before At.Give site (codes " all") (GiveAll site) few h refl refl)
line_there size before Settle few h = record { word = First.Settle; rest = []; cut = refl; read = refl; placed = refl }
line_there size before (Show site) few h =
    line_at_site size before At.Show (spaced site) _ _ refl
    (at_site_alone size before At.Show site (Show site) few h refl)
line_there size before (Tree site) few h =
    line_at_site size before At.Tree (spaced site) _ _ refl
    (at_site_alone size before At.Tree site (Tree site) few h refl)
line_there size before (Count site) few h =
    line_at_site size before At.Count (spaced site) _ _ refl
    (at_site_alone size before At.Count site (Count site) few h refl)
line_there size before (Mark site true name index count) few h =
    line_at_site size before At.Mark (spaced site ++ (spaced name ++ (spaced index ++ spaced count))) _ _ refl
    (at_site size before At.Mark site (spaced name ++ (spaced index ++ spaced count)) (Mark site true name index count)
    few h.0 refl (mark_there site true name index count h.1 h.2 h.3))
line_there size before (Mark site false name index count) few h =
    line_at_site size before At.Unmark (spaced site ++ (spaced name ++ (spaced index ++ spaced count))) _ _ refl
    (at_site size before At.Unmark site (spaced name ++ (spaced index ++ spaced count))
    (Mark site false name index count) few h.0 refl (mark_there site false name index count h.1 h.2 h.3))
line_there size before (Meet site other) few h =
    line_at_site size before At.Meet (spaced site ++ spaced other) _ _ refl
    (at_site size before At.Meet site (spaced other) (Meet site other) few h.0 refl
    (meet_there before.sites site other few h.1))
line_there size before (Marks site) few h =
    line_at_site size before At.Marks (spaced site) _ _ refl
    (at_site_alone size before At.Marks site (Marks site) few h refl)

pub sites_line_there : (size : ℕ) (before : Before) (n : ℕ) → IsSitesFor size n
    → IsLineOf size before (line_of (Sites n)) (Sites n) (ltb 0 before.sites)
sites_line_there size before n h = record {
  word = First.Sites;
  rest = spaced n;
  cut = refl;
  placed = refl;
  read = mapped_there (λ n. Sites n) (sites_at size (spaced n)) n (sites_there size n h);
}
