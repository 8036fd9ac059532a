-- A script has one output, and one summary.
use Rattle.std.proofs.Common.{◌≡◌, ℕ, List, [], ◌∷◌, ◌++◌, sym, ap, subst, ◌∙◌}
use Rattle.td_doc.specs.Document.{live_atoms}
use Rattle.td_gen.specs.Generator.{generated}
use Rattle.td_script.specs.declared.command.Command.{Command}
use Rattle.td_script.specs.declared.command.Command.TheVariants.{Sites, Ins, Paste, Del, Flat, FlatAuto, Cancel}
use Rattle.td_script.specs.declared.command.Command.TheVariants.{Give, GiveAll, Settle, Show, Tree, Count}
use Rattle.td_script.specs.declared.command.Command.TheVariants.{Mark, Meet, Marks}
use Rattle.td_script.specs.declared.script.Script.{Script}
use Rattle.td_report.specs.Given.{settle_line}
use Rattle.td_world.specs.World.{WorldValue, machine_of}
use Rattle.td_world.proofs.Causes.{settled_one}
use Rattle.td_run.specs.Printing.{Printed, Effect, Shown, and_then, events, own_text, start_of}
use Rattle.td_run.specs.Printing.{IsSettling, Settles, Prints, PrintsAll, PrintsScript}
use Rattle.td_run.specs.Outputs.{IsOutputOf, IsSummary, summary}

same_effect : (p q : Effect) → p.world ≡ q.world → p.text ≡ q.text → p ≡ q
same_effect p q e f = λ i. record { world = e i; text = f i }

same_settling : (w : WorldValue) (p q : Effect) → IsSettling w p → IsSettling w q → p ≡ q
same_settling w p q s t =
    let one = settled_one w p.world q.world s.0 t.0 s.1 t.1 in
    let world : p.world ≡ q.world = one.0 in
    let given : s.0 ≡ t.0 = one.1 in
    same_effect p q world (s.2 ∙ ((λ i. events w (world i) ++ settle_line (given i)) ∙ sym t.2))

same_settles : (old p q : Printed) → Settles old p → Settles old q → p ≡ q
same_settles old p q s t = s.2 ∙ (ap (λ (r : Effect). and_then old r) (same_settling old.world s.0 t.0 s.1 t.1)
    ∙ sym t.2)

pub same_step : (shown : Shown) (old : Printed) (c : Command) (p q : Printed) → Prints shown old c p
    → Prints shown old c q → p ≡ q
same_step shown old (Sites n) p q a b = a ∙ sym b
same_step shown old (Ins site index atoms) p q a b = a ∙ sym b
same_step shown old (Paste site index atoms) p q a b = a ∙ sym b
same_step shown old (Del site index count) p q a b = a ∙ sym b
same_step shown old (Flat site place) p q a b = a ∙ sym b
same_step shown old (FlatAuto site) p q a b = a ∙ sym b
same_step shown old (Cancel site proposal) p q a b = a ∙ sym b
same_step shown old (Give site number) p q a b = a ∙ sym b
same_step shown old (GiveAll site) p q a b = a ∙ sym b
same_step shown old Settle p q a b = same_settles old p q a b
same_step shown old (Show site) p q a b = a ∙ sym b
same_step shown old (Tree site) p q a b = a ∙ sym b
same_step shown old (Count site) p q a b = a ∙ sym b
same_step shown old (Mark site add name index count) p q a b = a ∙ sym b
same_step shown old (Meet site other) p q a b = a ∙ sym b
same_step shown old (Marks site) p q a b = a ∙ sym b

same_all : (shown : Shown) (old : Printed) (cs : List Command) (p q : Printed) → PrintsAll shown old cs p
    → PrintsAll shown old cs q → p ≡ q
same_all shown old [] p q a b = a ∙ sym b
same_all shown old (c ∷ cs) p q a b =
    let next : a.0 ≡ b.0 = same_step shown old c a.0 b.0 a.1 b.1 in
    same_all shown b.0 cs p q (subst (λ (r : Printed). PrintsAll shown r cs p) next a.2) b.2

one_end : (script : Script) (p q : Printed) → PrintsScript own_text script p → PrintsScript own_text script q → p ≡ q
one_end script p q a b = same_all own_text (start_of script.sites) script.commands p q a b

pub one_output : (script : Script) (a b : List ℕ) → IsOutputOf script a → IsOutputOf script b → a ≡ b
one_output script a b s t = s.text ∙ (ap (λ (p : Printed). p.text)
    (one_end script s.end t.end s.played.own t.played.own) ∙ sym t.text)

pub one_summary : (size number : ℕ) (a b : List ℕ) → IsSummary size number a → IsSummary size number b → a ≡ b
one_summary size number a b s t =
    let e : s.end ≡ t.end = one_end (generated size number) s.end t.end s.played.own t.played.own in
    s.own ∙ (ap (λ (p : Printed). summary size number p.world (live_atoms (machine_of p.world 1).doc)) e ∙ sym t.own)
