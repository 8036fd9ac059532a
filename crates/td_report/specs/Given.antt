-- What is printed of messages that are given.
use Rattle.std.specs.Prelude.{ℕ, List, [], ◌∷◌, ◌++◌, codes}
use Rattle.td_op.specs.declared.reply.Reply.{Reply}
use Rattle.td_op.specs.declared.reply.Reply.TheVariants.{New, Later, Repeat}
use Rattle.td_replica.specs.declared.given.Given.{Given}
use Rattle.td_replica.specs.declared.given.Given.TheVariants.{NoSuch, Stray, Took}
use Rattle.td_script.specs.Characters.{line_feed}
use Rattle.td_script.specs.Spelling.{spaced}
use Rattle.td_report.specs.Parts.{line}

-- how a site took a message, and how many waiting operations after it
abbrev pub taken_part : Reply → ℕ → List ℕ
taken_part New next = codes " new" ++ spaced next
taken_part Later next = codes " later"
taken_part Repeat next = codes " repeat"
taken_part _ next = []

abbrev pub given_part : Given → List ℕ
given_part NoSuch = codes " none"
given_part Stray = codes " stray"
given_part (Took reply next) = taken_part reply next

abbrev pub give_line : ℕ → ℕ → Given → List ℕ
give_line site number given = line (codes "give") site (spaced number ++ given_part given)

-- how many messages were given
abbrev pub settle_line : ℕ → List ℕ
settle_line given = codes "settle" ++ (spaced given ++ line_feed ∷ [])
