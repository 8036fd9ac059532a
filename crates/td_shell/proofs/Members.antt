-- Words that are a site and a number of sites; and why a disk was refused.
use Rattle.std.proofs.Common.{◌≡◌, ◌<◌, ◌^◌, ◌∙◌, ℕ, List, Option, None, Some, refl, subst, sym, arith}
use Rattle.std.specs.Prelude.{IfNone}
use Rattle.std.specs.Fmt.{decimal}
use Rattle.std.proofs.lemmas.Fmt.{decimal_injective}
use Rattle.td_disk.specs.declared.disk.Disk as disk
use Rattle.td_io.specs.Count.{Rose}
use Rattle.td_journal.specs.Bad.{IsBadAt}
use Rattle.td_journal.specs.declared.fault.OpenFault.{OpenFault}
use Rattle.td_journal.specs.declared.fault.OpenFault.TheVariants as Why
use Rattle.td_shell.specs.Opening.{IsBare, IsRefusedFor}
use Rattle.td_shell.specs.Running.{AreWordsOf, IsMember}

-- what is told of no answer
pub either_way : {X : Type 0} (o : Option X) (P : Type 0) → P → IfNone o P
either_way None P told = told
either_way (Some x) P told = tt

small : (r n : ℕ) → IsMember r n → (r < 10 ^ 9) × (n < 10 ^ 9)
small r n m = let within = m.within in let few = m.few in (omega (arith, within, few), omega (arith, few))

-- both are, and no site among so many
pub no_member : (first second : List ℕ) (site sites : ℕ) → site < 10 ^ 9 → sites < 10 ^ 9 → first ≡ decimal site
    → second ≡ decimal sites → ¬ IsMember site sites → (r n : ℕ) → IsMember r n → ¬ AreWordsOf first second r n
no_member first second site sites less fewer site_is sites_is none r n m words =
    let few = small r n m in
    let same : r ≡ site =
    decimal_injective r site (omega (arith, few.0)) (omega (arith, less)) (sym words.site_is ∙ site_is) in
    let as_many : n ≡ sites =
    decimal_injective n sites (omega (arith, few.1)) (omega (arith, fewer)) (sym words.sites_is ∙ sites_is) in
    none (subst (λ (k : ℕ). IsMember site k) as_many (subst (λ (k : ℕ). IsMember k n) same m))

pub refused_for : {K : Type 0} (w : disk.Ghosts K) (site n : ℕ) (before after : K) (why : OpenFault)
    → ((at : ℕ) → why ≡ Why.Bad at → (¬ IsBare site n (w.reads before)) × IsBadAt site n (w.reads before) at)
    → (why ≡ Why.Disk → Rose (w.faults before) (w.faults after)) → IsRefusedFor w site n before after why
refused_for w site n before after (Why.Bad at) bad failed = bad at refl
refused_for w site n before after Why.Disk bad failed = failed refl
refused_for w site n before after Why.Memory bad failed = tt
