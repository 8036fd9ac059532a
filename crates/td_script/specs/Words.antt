-- The first words of the commands.
use Rattle.std.specs.Prelude.{ℕ, List, [], ◌∷◌, Option, codes, find, bytes_eq}
use Rattle.td_script.specs.declared.word.Word.{Word}
use Rattle.td_script.specs.declared.word.Word.TheVariants.{Sites, Settle, AtSite}
use Rattle.td_script.specs.declared.word.SiteWord.TheVariants.{Ins, Paste, Del, Flat, Cancel}
use Rattle.td_script.specs.declared.word.SiteWord.TheVariants.{Give, Show, Tree, Count, Mark, Unmark, Meet, Marks}

abbrev pub spelling : Word → List ℕ
spelling Sites = codes "sites"
spelling Settle = codes "settle"
spelling (AtSite Ins) = codes "ins"
spelling (AtSite Paste) = codes "paste"
spelling (AtSite Del) = codes "del"
spelling (AtSite Flat) = codes "flat"
spelling (AtSite Cancel) = codes "cancel"
spelling (AtSite Give) = codes "give"
spelling (AtSite Show) = codes "show"
spelling (AtSite Tree) = codes "tree"
spelling (AtSite Count) = codes "count"
spelling (AtSite Mark) = codes "mark"
spelling (AtSite Unmark) = codes "unmark"
spelling (AtSite Meet) = codes "meet"
spelling (AtSite Marks) = codes "marks"

abbrev pub words : List Word
words =
    Sites ∷ Settle ∷ AtSite Ins ∷ AtSite Paste ∷ AtSite Del ∷ AtSite Flat ∷ AtSite Cancel ∷ AtSite Give ∷ AtSite Show
    ∷ AtSite Tree ∷ AtSite Count ∷ AtSite Mark ∷ AtSite Unmark ∷ AtSite Meet ∷ AtSite Marks ∷ []

-- the word that is written so
abbrev pub word_named : List ℕ → Option Word
word_named name = find (λ word. bytes_eq (spelling word) name) words
