-- The first words of the commands of kept scripts.
use Rattle.std.specs.Prelude.{ℕ, List, [], ◌∷◌, Option, codes, find, bytes_eq}
use Rattle.td_script.specs.declared.kept.word.KeptWord.{KeptWord}
use Rattle.td_script.specs.declared.kept.word.KeptWord.TheVariants.{Sites, AtSite}
use Rattle.td_script.specs.declared.kept.word.KeptSiteWord.TheVariants.{Ins, Del, Flat, Cancel, Give, Show, Crash}

abbrev pub kept_spelling : KeptWord → List ℕ
kept_spelling Sites = codes "sites"
kept_spelling (AtSite Ins) = codes "ins"
kept_spelling (AtSite Del) = codes "del"
kept_spelling (AtSite Flat) = codes "flat"
kept_spelling (AtSite Cancel) = codes "cancel"
kept_spelling (AtSite Give) = codes "give"
kept_spelling (AtSite Show) = codes "show"
kept_spelling (AtSite Crash) = codes "crash"

abbrev pub kept_words : List KeptWord
kept_words =
    Sites ∷ AtSite Ins ∷ AtSite Del ∷ AtSite Flat ∷ AtSite Cancel ∷ AtSite Give ∷ AtSite Show ∷ AtSite Crash ∷ []

-- the word that is written so
abbrev pub kept_word_named : List ℕ → Option KeptWord
kept_word_named name = find (λ word. bytes_eq (kept_spelling word) name) kept_words
