-- What a turn makes of a script, part by part.
use Rattle.std.proofs.Common.{◌≡◌, ◌+◌, ◌∙◌, ℕ, List, [], ◌∷◌, ◌++◌, add-one, ap, refl, subst, sym}
use Rattle.rand_pcg.specs.Lcg.{Lcg}
use Rattle.rand_pcg.specs.Pcg.{pcg32}
use Rattle.td_gen.specs.Generator.{with_least, least_at, edit_at, site_of, edited, turn, after_edits}
use Rattle.td_gen.specs.declared.edit.Edit.{Edit}
use Rattle.td_gen.specs.declared.least.Least.{Least}
use Rattle.td_gen.specs.declared.progress.Progress.{Progress}
use Rattle.td_script.specs.declared.command.Command.{Command}

-- an edit by two words
pub edit_made : (i : ℕ) (p : Progress) (site a b : ℕ) (first second : Lcg) (done : Edit) (least : Least)
    (commands : List Command)
    → (a, first) ≡ pcg32 p.words → (b, second) ≡ pcg32 first → site ≡ site_of i → done
    ≡ edit_at site (least_at p.least site) a b
    → least ≡ with_least p.least site done.least → commands ≡ p.commands ++ done.command ∷ []
    → ◌≡◌ {A = Progress} (record { words = second; least = least; commands = commands }) (edited i p)
edit_made i p site a b first second done least commands word_a word_b at made noted put =
    let a_is : a ≡ (pcg32 p.words).0 = ap (λ (w : ℕ × Lcg). w.0) word_a in
    let first_is : first ≡ (pcg32 p.words).1 = ap (λ (w : ℕ × Lcg). w.1) word_a in
    let again : pcg32 first ≡ pcg32 (pcg32 p.words).1 = ap pcg32 first_is in
    let b_is : b ≡ (pcg32 (pcg32 p.words).1).0 = ap (λ (w : ℕ × Lcg). w.0) (word_b ∙ again) in
    let second_is : second ≡ (pcg32 (pcg32 p.words).1).1 = ap (λ (w : ℕ × Lcg). w.1) (word_b ∙ again) in
    let done_is : done ≡ edit_at (site_of i) (least_at p.least (site_of i)) (pcg32 p.words).0
    (pcg32 (pcg32 p.words).1).0
    = made ∙ (λ j. edit_at (at j) (least_at p.least (at j)) (a_is j) (b_is j)) in
    let least_is = noted ∙ (λ j. with_least p.least (at j) (done_is j).least) in
    let commands_is = put ∙ (λ j. p.commands ++ (done_is j).command ∷ []) in
    λ j. record { words = second_is j; least = least_is j; commands = commands_is j }

-- the turn after so many
pub next_turn : (number i : ℕ) → turn (i + 1) (after_edits number i) ≡ after_edits number (i + 1)
next_turn number i = subst (λ n. turn n (after_edits number i) ≡ after_edits number n) (sym (add-one i)) refl
