-- Each turn keeps the least lengths within what its edits can add.
use Rattle.std.proofs.Common.{◌≡◌, ◌<◌, ◌≤◌, ◌+◌, ◌-◌, ◌*◌, ◌%◌, ◌∙◌, ◌==◌, if◌then◌else◌, ℕ, suc}
use Rattle.std.proofs.Common.{List, [], ◌∷◌, ◌++◌, Bool, true, false, add-one, arith, refl, subst}
use Rattle.std.proofs.Common.{sym, length-set, get_or, set, replicate}
use Rattle.std.specs.Prelude.{sum}
use Rattle.std.proofs.lemmas.List.Sums.{sum_by-set}
use Rattle.std.proofs.lemmas.List.Folds.{sum_by-replicate}
use Rattle.std.proofs.lemmas.List.Elements.{All-set, All-get_or, All-weaker, All-replicate}
use Rattle.rand_pcg.specs.Pcg.{pcg32}
use Rattle.td_gen.specs.Generator.{joined, with_least, least_at, edit_at, site_of, begun, edited, settled, turn}
use Rattle.td_gen.specs.Growth.{AreWithin}
use Rattle.td_gen.specs.declared.least.Least.{Least}
use Rattle.td_gen.specs.declared.progress.Progress.{Progress}
use Rattle.td_script.specs.declared.command.Command.{Command}
use Rattle.td_script.specs.declared.command.Command.TheVariants.{Settle}

-- what is within after some edits is within after more
pub more_edits : (edits others : ℕ) (l : Least) → edits ≤ others → AreWithin edits l → AreWithin others l
more_edits edits others l more within = record {
  sites = within.sites;
  shared = omega (arith, within.shared);
  each = All-weaker (λ x. x ≤ 8 * edits) (λ x. x ≤ 8 * others) (λ (x : ℕ) (small : x ≤ 8 * edits). omega arith)
      l.sites within.each;
  together = omega (arith, within.together);
}

pub begins_within : (number : ℕ) → AreWithin 0 (begun number).least
begins_within number = record {
  sites = refl;
  shared = omega arith;
  each = All-replicate (λ x. x ≤ 0) 3 0 (omega arith);
  together = omega arith;
}

-- an edit adds eight at most
adds_at_most : (site least a b : ℕ) → (edit_at site least a b).least ≤ least + 8
adds_at_most site least a b = grind arith

-- a number of the three is replaced by one that is greater by eight at most
replaced : (edits : ℕ) (l : Least) (site least : ℕ) → AreWithin edits l → site - 1 < 3
    → least ≤ least_at l site + 8 → AreWithin (suc edits) (with_least l site least)
replaced edits l site least within small h =
    let now : least_at l site ≤ 8 * edits = All-get_or (λ x. x ≤ 8 * edits) l.sites (site - 1) 0
    (omega (arith, within.sites)) within.each in
    let sums : sum (set l.sites (site - 1) least) + get_or l.sites (site - 1) 0 ≡ sum l.sites + least
    = sum_by-set (λ (x : ℕ). x) l.sites (site - 1) least 0 (omega (arith, within.sites)) in
    let wider = more_edits edits (suc edits) l (omega arith) within in
    record {
      sites = length-set l.sites (site - 1) least ∙ within.sites;
      shared = wider.shared;
      each = All-set (λ x. x ≤ 8 * suc edits) l.sites (site - 1) least (omega (arith, now, h)) wider.each;
      together = omega (arith, sums, within.together, h);
    }

joins_within : (edits : ℕ) (l : Least) → AreWithin edits l → AreWithin edits (joined l)
joins_within edits l within =
    let shared : ℕ = l.shared + sum l.sites - 3 * l.shared in
    let small : shared ≤ 8 * edits = omega (arith, within.together) in
    let sums : sum (replicate 3 shared) ≡ 3 * shared = sum_by-replicate (λ (x : ℕ). x) 3 shared in
    record {
      sites = refl;
      shared = small;
      each = All-replicate (λ x. x ≤ 8 * edits) 3 shared small;
      together = omega (arith, sums, small);
    }

edit_within : (edits : ℕ) (p : Progress) → AreWithin edits p.least → AreWithin (suc edits) (edited (suc edits) p).least
edit_within edits p within =
    let first = pcg32 p.words in
    let second = pcg32 first.1 in
    let site : ℕ = site_of (suc edits) in
    replaced edits p.least site _ within (omega arith) (adds_at_most site (least_at p.least site) first.0 second.0)

pub edits_within : (edits : ℕ) (p : Progress) → AreWithin edits p.least
    → AreWithin (edits + 1) (edited (edits + 1) p).least
edits_within edits p within = subst (λ n. AreWithin n (edited n p).least) (sym (add-one edits))
    (edit_within edits p within)

settles_at : (edits i : ℕ) (p : Progress) (b : Bool) → AreWithin edits p.least
    → AreWithin edits (if b then record p { least = joined p.least; commands = p.commands ++ Settle ∷ [] } else p).least
settles_at edits i p true within = joins_within edits p.least within
settles_at edits i p false within = within

pub settles_within : (edits i : ℕ) (p : Progress) → AreWithin edits p.least → AreWithin edits (settled i p).least
settles_within edits i p within = settles_at edits i p (i % 30 == 0) within

flattens_at : (edits i : ℕ) (p : Progress) (commands : List Command) (b : Bool) → AreWithin edits p.least
    → AreWithin edits (if b then record p { commands = commands } else p).least
flattens_at edits i p commands true within = within
flattens_at edits i p commands false within = within

pub turns_within : (edits : ℕ) (p : Progress) → AreWithin edits p.least
    → AreWithin (edits + 1) (turn (edits + 1) p).least
turns_within edits p within =
    let i : ℕ = suc edits in
    subst (λ n. AreWithin n (turn n p).least) (sym (add-one edits))
    (flattens_at i i (settled i (edited i p)) _ (i % 300 == 0)
    (settles_within i i (edited i p) (edit_within edits p within)))
