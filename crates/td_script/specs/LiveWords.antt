-- The first words of the commands of live scripts.
use Rattle.std.specs.Prelude.{ℕ, List, [], ◌∷◌, Option, codes, find, bytes_eq}
use Rattle.td_script.specs.declared.live.word.LiveWord.{LiveWord}
use Rattle.td_script.specs.declared.live.word.LiveWord.TheVariants.{Sites, Turns, Loss, Editor, AtEditor}
use Rattle.td_script.specs.declared.live.word.EditorWord.TheVariants.{Ins, Paste, Del, Flat, Cancel, Look}

abbrev pub live_spelling : LiveWord → List ℕ
live_spelling Sites = codes "sites"
live_spelling Turns = codes "turns"
live_spelling Loss = codes "loss"
live_spelling Editor = codes "editor"
live_spelling (AtEditor Ins) = codes "ins"
live_spelling (AtEditor Paste) = codes "paste"
live_spelling (AtEditor Del) = codes "del"
live_spelling (AtEditor Flat) = codes "flat"
live_spelling (AtEditor Cancel) = codes "cancel"
live_spelling (AtEditor Look) = codes "look"

abbrev pub live_words : List LiveWord
live_words =
    Sites ∷ Turns ∷ Loss ∷ Editor ∷ AtEditor Ins ∷ AtEditor Paste ∷ AtEditor Del ∷ AtEditor Flat ∷ AtEditor Cancel
    ∷ AtEditor Look ∷ []

-- the word that is written so
abbrev pub live_word_named : List ℕ → Option LiveWord
live_word_named name = find (λ word. bytes_eq (live_spelling word) name) live_words
