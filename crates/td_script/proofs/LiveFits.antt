-- What fits in a live script that bytes spell: its sites, its editors and their lines.
use Rattle.std.proofs.Common.{◌≡◌, ◌≤◌, ℕ, List, [], ◌∷◌, length, sym, ap, ◌∙◌, subst, arith}
use Rattle.std.specs.Prelude.{All}
use Rattle.std.specs.List.{AllByRecursion, range_with_len}
use Rattle.std.proofs.lemmas.List.{length-map}
use Rattle.std.proofs.lemmas.List.Elements.{All-head, All-tail}
use Rattle.std.proofs.lemmas.List.FromFn.{length-range_with_len}
use Rattle.td_base.specs.declared.site.TheConstants.{MAX_SITE}
use Rattle.td_base.proofs.Passing.{all_append}
use Rattle.td_script.specs.declared.live.command.LiveCommand.{LiveCommand}
use Rattle.td_script.specs.declared.live.command.LiveCommand.TheVariants.{Sites, Turns, Loss, Editor, Line}
use Rattle.td_script.specs.declared.live.script.Live.{Live}
use Rattle.td_script.specs.declared.live.script.TheConstants.{MAX_EDITORS}
use Rattle.td_script.specs.LiveScript.{AreLiveCommands, IsLiveCommand, SpellsLive, home_of_command, homes_in, lines_at}
use Rattle.td_script.specs.Script.{IsSiteOf}

home_fits : (sites : ℕ) (c : LiveCommand) → IsLiveCommand sites c
    → AllByRecursion (IsSiteOf sites) (home_of_command c)
home_fits sites (Sites n) is = absurd is
home_fits sites (Turns turns) is = tt
home_fits sites (Loss loss) is = tt
home_fits sites (Editor site) is = (is, tt)
home_fits sites (Line editor line) is = tt

homes_fit : (sites : ℕ) (cs : List LiveCommand) → All (IsLiveCommand sites) cs
    → AllByRecursion (IsSiteOf sites) (homes_in cs)
homes_fit sites [] all = tt
homes_fit sites (c ∷ cs) all =
    all_append (IsSiteOf sites) (home_of_command c) (homes_in cs)
    (home_fits sites c (All-head (IsLiveCommand sites) c cs all))
    (homes_fit sites cs (All-tail (IsLiveCommand sites) c cs all))

commands_fit : (sites : ℕ) (cs : List LiveCommand) → AreLiveCommands sites cs
    → (sites ≤ MAX_SITE) × AllByRecursion (IsSiteOf sites) (homes_in cs)
commands_fit sites [] are = (omega (arith, are), tt)
commands_fit sites (first ∷ others) are = (
  are.1.1,
  subst (λ (c : LiveCommand). AllByRecursion (IsSiteOf sites) (homes_in (c ∷ others))) (sym are.0)
      (homes_fit sites others are.2),
)

pub sites_fit : (bytes : List ℕ) (live : Live) → SpellsLive bytes live → live.sites ≤ MAX_SITE
sites_fit bytes live h = (commands_fit live.sites h.of h.commands).0

pub editors_fit : (bytes : List ℕ) (live : Live) → SpellsLive bytes live
    → AllByRecursion (IsSiteOf live.sites) live.homes
editors_fit bytes live h =
    subst (λ (homes : List ℕ). AllByRecursion (IsSiteOf live.sites) homes) (sym (ap (λ (l : Live). l.homes) h.whole))
    (commands_fit live.sites h.of h.commands).1

pub lines_fit : (bytes : List ℕ) (live : Live) → SpellsLive bytes live → length live.lines ≡ length live.homes
lines_fit bytes live h =
    ap (λ (l : Live). length l.lines) h.whole
    ∙ length-map (range_with_len 1 (length (homes_in h.of))) (λ (editor : ℕ). lines_at editor h.of)
    ∙ length-range_with_len 1 (length (homes_in h.of))
    ∙ sym (ap (λ (l : Live). length l.homes) h.whole)

pub editors_few : (bytes : List ℕ) (live : Live) → SpellsLive bytes live → length live.homes ≤ MAX_EDITORS
editors_few bytes live h =
    let same : length live.homes ≡ length (homes_in h.of) = ap (λ (l : Live). length l.homes) h.whole in
    let few : length (homes_in h.of) ≤ MAX_EDITORS = h.few.editors in
    omega (arith, same, few)
