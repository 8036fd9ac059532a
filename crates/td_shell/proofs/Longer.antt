-- A line that is too long is read as any other one that is; and answers to one line more.
use Rattle.std.proofs.Common.{◌≡◌, ◌++◌, ◌∷◌, ℕ, cond, not, ltb, List, [], Option, Some, None}
use Rattle.std.proofs.Common.{Result, Ok, Err, length, refl, sym, ap, ◌∙◌, inl, inr, lt-ltb}
use Rattle.std.proofs.lemmas.Bool.{cond-true}
use Rattle.std.proofs.lemmas.List.{append-nil, append_assoc}
use Rattle.td_io.specs.Count.{counted}
use Rattle.td_replica.specs.Replica.{ReplicaValue}
use Rattle.td_script.specs.declared.kind.Kind.{Kind}
use Rattle.td_script.specs.declared.kind.Kind.TheVariants as Fault
use Rattle.td_script.specs.declared.script.TheConstants.{MAX_LINE}
use Rattle.td_script.specs.declared.shell.command.ShellCommand.{ShellCommand}
use Rattle.td_script.specs.Arguments.{cut_word}
use Rattle.td_script.specs.Judging.{said_of}
use Rattle.td_script.specs.Lines.{is_skipped, is_text_line}
use Rattle.td_script.specs.ShellFaults.{shell_command_named, shell_judged}
use Rattle.td_script.specs.ShellWords.{shell_word_named}
use Rattle.td_shell.specs.Answers.{Effect, answer, answered, answers, in_turn, numbered}
use Rattle.td_shell.proofs.ReadAs.{IsLong, IsReadAs}

long_judged : (sites : ℕ) (line : List ℕ) → IsLong line → shell_judged sites line ≡ Err Fault.Long
long_judged sites line long =
    ap (said_of (λ (text : List ℕ). shell_command_named sites (shell_word_named (cut_word text).0) (cut_word text).1))
    (cond-true {A = Result (Option (List ℕ)) Kind} (ltb MAX_LINE (length line)) (Err Fault.Long)
    (cond {A = Result (Option (List ℕ)) Kind} (not (is_text_line line)) (Err Fault.Bytes)
    (cond {A = Result (Option (List ℕ)) Kind} (is_skipped line) (Ok None) (Ok (Some line))))
    (lt-ltb MAX_LINE (length line) long))

judged_as : (sites : ℕ) (line kept : List ℕ) → IsReadAs line kept → shell_judged sites kept ≡ shell_judged sites line
judged_as sites line kept (inl same) = ap (shell_judged sites) same
judged_as sites line kept (inr long) = long_judged sites kept long.0 ∙ sym (long_judged sites line long.1)

pub answered_as : (number : ℕ) (line kept : List ℕ) (r : ReplicaValue) → IsReadAs line kept
    → answer number kept r ≡ answer number line r
answered_as number line kept r same =
    ap (λ (judged : Result (Option ShellCommand) Kind). answered number judged r)
    (judged_as r.machine.size line kept same)

pub numbered_more : (number : ℕ) (lines : List (List ℕ)) (line : List ℕ)
    → numbered number (lines ++ line ∷ []) ≡ counted (numbered number lines)
numbered_more number [] line = refl
numbered_more number (first ∷ lines) line = numbered_more (counted number) lines line

turns : (a b c : Effect) → in_turn a (in_turn b c) ≡ in_turn (in_turn a b) c
turns a b c = λ i. record { replica = c.replica; text = sym (append_assoc a.text b.text c.text) i }

pub answers_more : (number : ℕ) (lines : List (List ℕ)) (line : List ℕ) (r : ReplicaValue)
    → answers number (lines ++ line ∷ []) r
    ≡ in_turn (answers number lines r) (answer (counted (numbered number lines)) line (answers number lines r).replica)
answers_more number [] line r =
    let first : Effect = answer (counted number) line r in
    λ i. record { replica = first.replica; text = append-nil first.text i }
answers_more number (first ∷ lines) line r =
    let one : Effect = answer (counted number) first r in
    ap (in_turn one) (answers_more (counted number) lines line one.replica)
    ∙ turns one (answers (counted number) lines one.replica)
    (answer (counted (numbered (counted number) lines)) line (answers (counted number) lines one.replica).replica)
