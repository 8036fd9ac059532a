-- Commands that are played one after another.
use Rattle.std.proofs.Common.{◌≡◌, ◌<◌, ◌+◌, ℕ, List, [], ◌∷◌, length, drop, get_or, ap, sym, subst, ◌∙◌}
use Rattle.std.proofs.lemmas.List.{drop_more}
use Rattle.td_script.specs.declared.command.Command.{Command}
use Rattle.td_run.specs.Printing.{Printed, Prints, PrintsAll, Shown}

-- whatever comes of the commands that are left comes of all
abbrev pub Leads : Shown → Printed → List Command → Printed → List Command → Type 0
Leads shown now left start all = (p : Printed) → PrintsAll shown now left p → PrintsAll shown start all p

-- one command more was done
pub leads_on : (shown : Shown) (now next start : Printed) (commands : List Command) (k : ℕ) (command : Command)
    → k < length commands → command ≡ get_or commands k command → Prints shown now command next
    → Leads shown now (drop k commands) start commands → Leads shown next (drop (k + 1) commands) start commands
leads_on shown now next start commands k command less is prints leads p others =
    let first : drop k commands ≡ command ∷ drop (k + 1) commands =
    drop_more commands k command less ∙ ap (λ (c : Command). c ∷ drop (k + 1) commands) (sym is) in
    leads p (subst (λ (left : List Command). PrintsAll shown now left p) (sym first) (next, prints, others))

-- all are done
pub leads_to : (shown : Shown) (now start : Printed) (left commands : List Command) → left ≡ []
    → Leads shown now left start commands → PrintsAll shown start commands now
leads_to shown now start left commands none leads =
    leads now (subst (λ (l : List Command). PrintsAll shown now l now) (sym none) (λ i. now))
