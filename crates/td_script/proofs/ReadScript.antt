-- The lines of a script of `play`, one after another.
use Rattle.std.proofs.Common.{◌≡◌, ◌≤◌, ◌+◌, ℕ, List, [], ◌∷◌, ◌++◌, length, Some, None, Ok, Err, arith}
use Rattle.td_base.specs.declared.site.TheConstants.{MAX_SITE}
use Rattle.td_script.specs.declared.before.Before.{Before}
use Rattle.td_script.specs.declared.command.Command.{Command}
use Rattle.td_script.specs.declared.kind.Kind.{Kind}
use Rattle.td_script.specs.Faults.{after, judged, judged_lines}
use Rattle.td_script.specs.Lines.{lines_of}
use Rattle.td_script.specs.Spelling.{line_of}
use Rattle.td_script.proofs.JudgingLaws as Each
use Rattle.td_script.proofs.LineLaws.{CanStand}
use Rattle.td_script.proofs.ScriptLaws.{language, start}

-- what is read of all lines, where these commands were read of those before
abbrev pub IsReadTo : (bytes rest : List ℕ) (cs : List Command) (before : Before) (number : ℕ) → Type 0
IsReadTo bytes = Each.IsReadTo (judged (length bytes)) after (λ before. before.sites ≤ MAX_SITE) start bytes

pub nothing_read : (bytes : List ℕ) → IsReadTo bytes bytes [] start 0
nothing_read bytes =
    Each.nothing_read (judged (length bytes)) after line_of (λ before. before.sites ≤ MAX_SITE)
    (λ before c. CanStand (length bytes) before c) start (language (length bytes)) bytes (omega arith)

pub nothing_more : (bytes rest line behind : List ℕ) (cs : List Command) (before : Before) (number : ℕ)
    → IsReadTo bytes rest cs before number → lines_of rest ≡ line ∷ lines_of behind
    → judged (length bytes) before line ≡ Ok None → IsReadTo bytes behind cs before (number + 1)
nothing_more bytes rest line behind cs before number h cut e =
    Each.nothing_more (judged (length bytes)) after line_of (λ before. before.sites ≤ MAX_SITE)
    (λ before c. CanStand (length bytes) before c) start (language (length bytes)) bytes rest line behind cs before
    number
    h cut e

pub one_more : (bytes rest line behind : List ℕ) (cs : List Command) (before : Before) (number : ℕ) (c : Command)
    → IsReadTo bytes rest cs before number → lines_of rest ≡ line ∷ lines_of behind
    → judged (length bytes) before line ≡ Ok (Some c)
    → IsReadTo bytes behind (cs ++ c ∷ []) (after before c) (number + 1)
one_more bytes rest line behind cs before number c h cut e =
    Each.one_more (judged (length bytes)) after line_of (λ before. before.sites ≤ MAX_SITE)
    (λ before c. CanStand (length bytes) before c) start (language (length bytes)) bytes rest line behind cs before
    number
    c h cut e

pub faulty_line : (bytes rest line behind : List ℕ) (cs : List Command) (before : Before) (number : ℕ) (kind : Kind)
    → IsReadTo bytes rest cs before number → lines_of rest ≡ line ∷ lines_of behind
    → judged (length bytes) before line ≡ Err kind
    → judged_lines (length bytes) 1 (lines_of bytes) start ≡ Err (number + 1, kind)
faulty_line bytes rest line behind cs before number kind h cut e =
    Each.faulty_line (judged (length bytes)) after line_of (λ before. before.sites ≤ MAX_SITE)
    (λ before c. CanStand (length bytes) before c) start (language (length bytes)) bytes rest line behind cs before
    number
    kind h cut e

pub all_read : (bytes rest : List ℕ) (cs : List Command) (before : Before) (number : ℕ)
    → IsReadTo bytes rest cs before number → length rest ≤ 0
    → judged_lines (length bytes) 1 (lines_of bytes) start ≡ Ok cs
all_read bytes rest cs before number h none =
    Each.all_read (judged (length bytes)) after line_of (λ before. before.sites ≤ MAX_SITE)
    (λ before c. CanStand (length bytes) before c) start (language (length bytes)) bytes rest cs before number h none
