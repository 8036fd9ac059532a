-- How much a machine has, and the summary of a generated script.
use Rattle.std.specs.Prelude.{ℕ, List, [], ◌∷◌, ◌++◌, codes, length, take}
use Rattle.std.specs.List.{flat_map}
use Rattle.td_doc.specs.Document.{DocRow, live_atoms, live_rows}
use Rattle.td_machine.specs.Machine.{Machine, made}
use Rattle.td_script.specs.Characters.{line_feed}
use Rattle.td_script.specs.Spelling.{spaced, spaced_text}
use Rattle.td_report.specs.declared.summary.TheConstants.{HEAD_LEN}
use Rattle.td_report.specs.Parts.{line}

-- how many live rows there are, and how many rows
abbrev pub live_and_rows : List DocRow → List ℕ
live_and_rows rows = codes " live" ++ (spaced (length (live_rows rows)) ++ (codes " rows" ++ spaced (length rows)))

-- these of a machine, how many operations wait there, and how many proposals are held
abbrev pub count_line : Machine → List ℕ
count_line m =
    line (codes "count") m.site
    (live_and_rows m.doc
    ++ (codes " waiting" ++ (spaced (length m.waiting) ++ (codes " holds" ++ spaced (length m.holds)))))

-- these of a machine, and how many operations were made there
abbrev pub site_line : Machine → List ℕ
site_line m = line (codes "site") m.site (live_and_rows m.doc ++ (codes " made" ++ spaced (made m)))

-- the text of the first atoms
abbrev pub head_line : List (List ℕ) → List ℕ
head_line atoms = codes "head" ++ (spaced_text (take HEAD_LEN atoms) ++ line_feed ∷ [])

-- the size and the number of a generated script, and how many commands it has
abbrev pub summary_head : ℕ → ℕ → ℕ → List ℕ
summary_head size number commands =
    codes "gen" ++ (spaced size ++ (spaced number ++ (codes "\ncommands" ++ (spaced commands ++ line_feed ∷ []))))

-- behind these, what its machines have when all commands were played, and the first of these atoms
abbrev pub summary_of : ℕ → ℕ → ℕ → List Machine → List (List ℕ) → List ℕ
summary_of size number commands machines atoms =
    summary_head size number commands ++ (flat_map site_line machines ++ head_line atoms)

-- the atoms are those that the first site shows
abbrev pub summary_lines : ℕ → ℕ → ℕ → Machine → Machine → Machine → List ℕ
summary_lines size number commands one two three =
    summary_of size number commands (one ∷ two ∷ three ∷ []) (live_atoms one.doc)
