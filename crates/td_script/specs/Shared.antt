-- What commands of more than one language ask for: the number of sites, and what stands behind the site of an edit or
-- behind its editor.
use Rattle.std.specs.Prelude.{ℕ, Bool, ◌&&◌, nat_lt, List, Result, Ok, Err, codes, bytes_eq, if◌then◌else◌}
use Rattle.td_base.specs.Value.{DotValue}
use Rattle.td_script.specs.declared.command.Place.{Place}
use Rattle.td_script.specs.declared.command.Place.TheVariants.{Root, Beside}
use Rattle.td_script.specs.declared.before.TheConstants.{MAX_NARROW}
use Rattle.td_script.specs.declared.kind.Kind.{Kind}
use Rattle.td_script.specs.declared.kind.Kind.TheVariants as Fault
use Rattle.td_script.specs.declared.script.TheConstants.{MAX_WIDE_SCRIPT}
use Rattle.td_script.specs.Arguments.{behind, last, with_rest, by_word, word_at}
use Rattle.td_script.specs.Arguments.{number_of, sites_of, dot_of, bit_of, text_at}

-- what is made of arguments that have no fault
abbrev pub mapped : {V W : Type 0} → (V → W) → Result V Kind → Result W Kind
mapped make (Ok value) = Ok (make value)
mapped make (Err kind) = Err kind

-- many sites in a script that is too large for them
abbrev pub is_too_wide : ℕ → ℕ → Bool
is_too_wide size n = nat_lt MAX_NARROW n && nat_lt MAX_WIDE_SCRIPT size

-- behind `sites`, in a script of so many bytes: how many there are
abbrev pub sites_at : ℕ → List ℕ → Result ℕ Kind
sites_at size rest =
    behind (by_word sites_of rest) (λ n rest. if is_too_wide size n then Err Fault.Size else last n rest)

-- an index and a text, in clusters
abbrev pub index_and_text : List ℕ → Result (ℕ × List (List ℕ)) Kind
index_and_text rest =
    behind (by_word number_of rest) (λ index rest. behind (text_at rest) (λ atoms rest. last (index, atoms) rest))

abbrev pub two_numbers : List ℕ → Result (ℕ × ℕ) Kind
two_numbers rest =
    behind (by_word number_of rest) (λ first rest. behind (by_word number_of rest) (λ second rest.
    last (first, second) rest))

-- the index of an atom, and on which side of it
abbrev pub place_beside : List ℕ → List ℕ → Result Place Kind
place_beside word rest =
    behind (with_rest rest (number_of word)) (λ index rest. behind (by_word bit_of rest) (λ bit rest.
    last (Beside index bit) rest))

-- `root`, or an index and a side
abbrev pub place_of : List ℕ → List ℕ → Result Place Kind
place_of word rest = if bytes_eq word (codes "root") then last Root rest else place_beside word rest

abbrev pub place_at : List ℕ → Result Place Kind
place_at rest = behind (word_at rest) place_of

-- the dot of a proposal
abbrev pub proposal_at : ℕ → List ℕ → Result DotValue Kind
proposal_at sites rest = behind (by_word (dot_of sites) rest) (λ proposal rest. last proposal rest)
