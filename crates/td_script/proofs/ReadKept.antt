-- The lines of a kept script, one after another.
use Rattle.std.proofs.Common.{◌≡◌, ◌≤◌, ◌+◌, ℕ, List, [], ◌∷◌, ◌++◌, length, Some, None, Ok, Err, arith}
use Rattle.td_base.specs.declared.site.TheConstants.{MAX_SITE}
use Rattle.td_script.specs.declared.kept.before.KeptBefore.{KeptBefore}
use Rattle.td_script.specs.declared.kept.command.KeptCommand.{KeptCommand}
use Rattle.td_script.specs.declared.kind.Kind.{Kind}
use Rattle.td_script.specs.KeptFaults.{kept_after, kept_judged, kept_judged_lines, kept_start}
use Rattle.td_script.specs.KeptSpelling.{kept_line_of}
use Rattle.td_script.specs.Lines.{lines_of}
use Rattle.td_script.proofs.JudgingLaws as Each
use Rattle.td_script.proofs.KeptLineLaws.{KeptCanStand}
use Rattle.td_script.proofs.KeptScriptLaws.{kept_language}

-- what is read of all lines, where these commands were read of those before
abbrev pub IsKeptReadTo : (bytes rest : List ℕ) (cs : List KeptCommand) (before : KeptBefore) (number : ℕ) → Type 0
IsKeptReadTo bytes =
    Each.IsReadTo (kept_judged (length bytes)) kept_after (λ before. before.sites ≤ MAX_SITE) kept_start bytes

pub nothing_read : (bytes : List ℕ) → IsKeptReadTo bytes bytes [] kept_start 0
nothing_read bytes =
    Each.nothing_read (kept_judged (length bytes)) kept_after kept_line_of (λ before. before.sites ≤ MAX_SITE)
    (λ before c. KeptCanStand (length bytes) before c) kept_start (kept_language (length bytes)) bytes (omega arith)

pub nothing_more : (bytes rest line behind : List ℕ) (cs : List KeptCommand) (before : KeptBefore) (number : ℕ)
    → IsKeptReadTo bytes rest cs before number → lines_of rest ≡ line ∷ lines_of behind
    → kept_judged (length bytes) before line ≡ Ok None → IsKeptReadTo bytes behind cs before (number + 1)
nothing_more bytes rest line behind cs before number h cut e =
    Each.nothing_more (kept_judged (length bytes)) kept_after kept_line_of (λ before. before.sites ≤ MAX_SITE)
    (λ before c. KeptCanStand (length bytes) before c) kept_start (kept_language (length bytes)) bytes rest line
    behind cs
    before number
    h cut e

pub one_more : (bytes rest line behind : List ℕ) (cs : List KeptCommand) (before : KeptBefore) (number : ℕ)
    (c : KeptCommand)
    → IsKeptReadTo bytes rest cs before number → lines_of rest ≡ line ∷ lines_of behind
    → kept_judged (length bytes) before line ≡ Ok (Some c)
    → IsKeptReadTo bytes behind (cs ++ c ∷ []) (kept_after before c) (number + 1)
one_more bytes rest line behind cs before number c h cut e =
    Each.one_more (kept_judged (length bytes)) kept_after kept_line_of (λ before. before.sites ≤ MAX_SITE)
    (λ before c. KeptCanStand (length bytes) before c) kept_start (kept_language (length bytes)) bytes rest line
    behind cs
    before number
    c h cut e

pub faulty_line : (bytes rest line behind : List ℕ) (cs : List KeptCommand) (before : KeptBefore) (number : ℕ)
    (kind : Kind)
    → IsKeptReadTo bytes rest cs before number → lines_of rest ≡ line ∷ lines_of behind
    → kept_judged (length bytes) before line ≡ Err kind
    → kept_judged_lines (length bytes) 1 (lines_of bytes) kept_start ≡ Err (number + 1, kind)
faulty_line bytes rest line behind cs before number kind h cut e =
    Each.faulty_line (kept_judged (length bytes)) kept_after kept_line_of (λ before. before.sites ≤ MAX_SITE)
    (λ before c. KeptCanStand (length bytes) before c) kept_start (kept_language (length bytes)) bytes rest line
    behind cs
    before number
    kind h cut e

pub all_read : (bytes rest : List ℕ) (cs : List KeptCommand) (before : KeptBefore) (number : ℕ)
    → IsKeptReadTo bytes rest cs before number → length rest ≤ 0
    → kept_judged_lines (length bytes) 1 (lines_of bytes) kept_start ≡ Ok cs
all_read bytes rest cs before number h none =
    Each.all_read (kept_judged (length bytes)) kept_after kept_line_of (λ before. before.sites ≤ MAX_SITE)
    (λ before c. KeptCanStand (length bytes) before c) kept_start (kept_language (length bytes)) bytes rest cs before
    number
    h none
