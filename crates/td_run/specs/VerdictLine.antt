-- What is written of the verdict on a trace.
use Rattle.std.specs.Prelude.{ℕ, List, [], ◌∷◌, ◌++◌, codes}
use Rattle.td_check.specs.declared.verdict.Fault.{Fault}
use Rattle.td_check.specs.declared.verdict.Fault.TheVariants.{Size, Form, Reply, Missing, Call, Look, Alone, Text, Open}
use Rattle.td_check.specs.declared.verdict.Verdict.{Verdict}
use Rattle.td_check.specs.declared.verdict.Verdict.TheVariants.{Yes, No}
use Rattle.td_script.specs.Characters.{line_feed}
use Rattle.td_script.specs.Spelling.{spaced}

abbrev pub fault_name : Fault → List ℕ
fault_name Size = codes "size"
fault_name Form = codes "form"
fault_name Reply = codes "reply"
fault_name Missing = codes "missing"
fault_name Call = codes "call"
fault_name Look = codes "look"
fault_name Alone = codes "alone"
fault_name Text = codes "text"
fault_name Open = codes "open"

abbrev pub verdict_line : Verdict → List ℕ
verdict_line Yes = codes "yes\n"
verdict_line (No line fault) = codes "no" ++ (spaced line ++ (codes " " ++ (fault_name fault ++ line_feed ∷ [])))
