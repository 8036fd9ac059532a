-- Changes of the text in numbers and bytes.
use Rattle.std.specs.Prelude.{◌-◌, ◌++◌, ◌∷◌, ℕ, List, [], length, map, replicate, Option, Some, None}
use Rattle.std.specs.List.{concat}
use Rattle.td_base.specs.Padded.{padded_with_zeros}
use Rattle.td_base.specs.declared.run.TheConstants.{MAX_RUN_LEN}
use Rattle.td_op.specs.declared.change.Change.{Change}
use Rattle.td_op.specs.declared.change.Change.TheVariants.{Put, PutRun, Cut}
use Rattle.treedoc_c.specs.declared.change.Kind.{Kind}
use Rattle.treedoc_c.specs.declared.change.Kind.TheVariants as kind
use Rattle.treedoc_c.specs.declared.change.TextChange.{TextChange}

abbrev pub kind_number : Kind → ℕ
kind_number kind.Nothing = 0
kind_number kind.Put = 1
kind_number kind.Cut = 2

abbrev pub no_change : TextChange
no_change =
    record {
      kind = kind_number kind.Nothing;
      index = 0;
      atoms = 0;
      len = 0;
      text = replicate MAX_RUN_LEN 0;
      lengths = replicate MAX_RUN_LEN 0;
    }

-- the atoms of a run were put at the index
abbrev pub put_change : ℕ → List (List ℕ) → TextChange
put_change index run =
    record {
      kind = kind_number kind.Put;
      index = index;
      atoms = length run;
      len = length (concat run);
      text = padded_with_zeros MAX_RUN_LEN (concat run);
      lengths = map length run ++ replicate (MAX_RUN_LEN - length run) 0;
    }

abbrev pub change_of : Option Change → TextChange
change_of None = no_change
change_of (Some (Put index atom)) = put_change index (atom ∷ [])
change_of (Some (PutRun index run)) = put_change index run
change_of (Some (Cut index)) = record no_change { kind = kind_number kind.Cut; index = index }
