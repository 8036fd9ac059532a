-- The parts of a printed line that more than one kind of line has.
use Rattle.std.specs.Prelude.{ℕ, ◌==◌, if◌then◌else◌, List, [], ◌∷◌, ◌++◌, Option, Some, None, codes}
use Rattle.std.specs.Fmt.{decimal}
use Rattle.td_base.specs.Value.{AtomIdValue}
use Rattle.td_op.specs.declared.reply.Reply.{Reply}
use Rattle.td_op.specs.declared.reply.Reply.TheVariants.{Held, Position, Limit}
use Rattle.td_path.specs.declared.slot.Slot.{Slot}
use Rattle.td_path.specs.declared.slot.Slot.TheVariants.{Root, At}
use Rattle.td_script.specs.Characters.{line_feed, space}
use Rattle.td_script.specs.Spelling.{dotted, spaced, spaced_bit, spaced_dot}
use Rattle.td_script.specs.Texts.{quoted}

-- a word, a site, and what stands behind them up to the end of the line
abbrev pub line : List ℕ → ℕ → List ℕ → List ℕ
line word site rest = word ++ (spaced site ++ (rest ++ line_feed ∷ []))

-- a text in quotes, behind a space
abbrev pub spaced_quoted : List ℕ → List ℕ
spaced_quoted text = space ∷ quoted text

-- what is printed of a value that may be missing
abbrev pub if_any : {X : Type 0} → (X → List ℕ) → Option X → List ℕ
if_any print None = []
if_any print (Some x) = print x

-- nothing for the first atom of an insert
abbrev pub offset_part : ℕ → List ℕ
offset_part offset = if offset == 0 then [] else codes "+" ++ decimal offset

-- the identity of an atom: its dot, and its offset where that is not 0
abbrev pub identity : AtomIdValue → List ℕ
identity x = dotted x.dot ++ offset_part x.offset

-- a slot, behind a space
abbrev pub spaced_slot : Slot → List ℕ
spaced_slot Root = codes " root"
spaced_slot (At x bit) = space ∷ (identity x ++ spaced_bit bit)

-- why a request was refused, behind a space; nothing for other replies
abbrev pub refusal : Reply → List ℕ
refusal (Held by) = codes " held" ++ spaced_dot by
refusal (Position len) = codes " position" ++ spaced len
refusal (Limit made undecided) = codes " limit" ++ (spaced made ++ spaced undecided)
refusal _ = []
