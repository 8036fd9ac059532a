-- The first words of the commands of a shell.
use Rattle.std.specs.Prelude.{ℕ, List, [], ◌∷◌, Option, codes, find, bytes_eq}
use Rattle.td_script.specs.declared.shell.word.ShellWord.{ShellWord}
use Rattle.td_script.specs.declared.shell.word.ShellWord.TheVariants.{Ins, Paste, Del, Flat, Cancel}
use Rattle.td_script.specs.declared.shell.word.ShellWord.TheVariants.{Take, Send, Show, Tree, Count}

abbrev pub shell_spelling : ShellWord → List ℕ
shell_spelling Ins = codes "ins"
shell_spelling Paste = codes "paste"
shell_spelling Del = codes "del"
shell_spelling Flat = codes "flat"
shell_spelling Cancel = codes "cancel"
shell_spelling Take = codes "take"
shell_spelling Send = codes "send"
shell_spelling Show = codes "show"
shell_spelling Tree = codes "tree"
shell_spelling Count = codes "count"

abbrev pub shell_words : List ShellWord
shell_words = Ins ∷ Paste ∷ Del ∷ Flat ∷ Cancel ∷ Take ∷ Send ∷ Show ∷ Tree ∷ Count ∷ []

-- the word that is written so
abbrev pub shell_word_named : List ℕ → Option ShellWord
shell_word_named name = find (λ word. bytes_eq (shell_spelling word) name) shell_words
