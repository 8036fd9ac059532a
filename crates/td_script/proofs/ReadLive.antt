-- The lines of a live script, one after another.
use Rattle.std.proofs.Common.{◌≡◌, ◌≤◌, ◌+◌, ℕ, List, [], ◌∷◌, ◌++◌, length, Some, None, Ok, Err, refl, subst, sym}
use Rattle.td_script.specs.declared.kind.Kind.{Kind}
use Rattle.td_script.specs.declared.live.before.LiveBefore.{LiveBefore}
use Rattle.td_script.specs.declared.live.command.LiveCommand.{LiveCommand}
use Rattle.td_script.specs.declared.live.script.TheConstants.{MAX_LIVE_SCRIPT}
use Rattle.td_script.specs.Judging.{judged_each}
use Rattle.td_script.specs.Lines.{lines_of}
use Rattle.td_script.specs.LiveFaults.{live_after, live_judged, live_start}
use Rattle.td_script.specs.LiveScript.{SpellsLive}
use Rattle.td_script.specs.LiveSpelling.{live_line_of}
use Rattle.td_script.proofs.JudgingLaws as Each
use Rattle.td_script.proofs.LiveLineLaws.{IsLiveGood, LiveCanStand}
use Rattle.td_script.proofs.LiveScriptLaws.{IsBefore, at_start, good_of_before, live_before, live_language}
use Rattle.td_script.proofs.LiveScriptLaws.{spelled_of_live_lines}

-- what is read of all lines, where some commands were read of those before
pub record IsLiveReadTo (bytes rest : List ℕ) (before : LiveBefore) (number : ℕ) : Type 0 where
  pub commands : List LiveCommand
  pub read : Each.IsReadTo (live_judged (length bytes)) live_after IsBefore live_start bytes rest commands before number
  pub good : IsLiveGood before

pub nothing_read : (bytes : List ℕ) → IsLiveReadTo bytes bytes live_start 0
nothing_read bytes = record {
  commands = [];
  read = Each.nothing_read (live_judged (length bytes)) live_after live_line_of IsBefore
      (λ before c. LiveCanStand (length bytes) before c) live_start (live_language (length bytes)) bytes
      (at_start refl);
  good = good_of_before live_start (at_start refl);
}

pub nothing_more : (bytes rest line behind : List ℕ) (before : LiveBefore) (number : ℕ)
    → IsLiveReadTo bytes rest before number → lines_of rest ≡ line ∷ lines_of behind
    → live_judged (length bytes) before line ≡ Ok None → IsLiveReadTo bytes behind before (number + 1)
nothing_more bytes rest line behind before number h cut e = record {
  commands = h.commands;
  read = Each.nothing_more (live_judged (length bytes)) live_after live_line_of IsBefore
      (λ before c. LiveCanStand (length bytes) before c) live_start (live_language (length bytes)) bytes rest line
      behind
      h.commands before number h.read cut e;
  good = h.good;
}

pub stands_here : (bytes rest line : List ℕ) (before : LiveBefore) (number : ℕ) (c : LiveCommand)
    → IsLiveReadTo bytes rest before number → live_judged (length bytes) before line ≡ Ok (Some c)
    → LiveCanStand (length bytes) before c
stands_here bytes rest line before number c h e =
    Each.stands_here (live_judged (length bytes)) live_after live_line_of IsBefore
    (λ before c. LiveCanStand (length bytes) before c) live_start (live_language (length bytes)) before line c
    h.read.good e

pub one_more : (bytes rest line behind : List ℕ) (before : LiveBefore) (number : ℕ) (c : LiveCommand)
    → IsLiveReadTo bytes rest before number → lines_of rest ≡ line ∷ lines_of behind
    → live_judged (length bytes) before line ≡ Ok (Some c)
    → IsLiveReadTo bytes behind (live_after before c) (number + 1)
one_more bytes rest line behind before number c h cut e =
    let more = Each.one_more (live_judged (length bytes)) live_after live_line_of IsBefore
    (λ before c. LiveCanStand (length bytes) before c) live_start (live_language (length bytes)) bytes rest line behind
    h.commands before number c h.read cut e in
    record { commands = h.commands ++ c ∷ []; read = more; good = good_of_before (live_after before c) more.good }

pub faulty_line : (bytes rest line behind : List ℕ) (before : LiveBefore) (number : ℕ) (kind : Kind)
    → IsLiveReadTo bytes rest before number → lines_of rest ≡ line ∷ lines_of behind
    → live_judged (length bytes) before line ≡ Err kind
    → judged_each (live_judged (length bytes)) live_after 1 (lines_of bytes) live_start ≡ Err (number + 1, kind)
faulty_line bytes rest line behind before number kind h cut e =
    Each.faulty_line (live_judged (length bytes)) live_after live_line_of IsBefore
    (λ before c. LiveCanStand (length bytes) before c) live_start (live_language (length bytes)) bytes rest line behind
    h.commands before number kind h.read cut e

pub all_read : (bytes rest : List ℕ) (before : LiveBefore) (number : ℕ) → length bytes ≤ MAX_LIVE_SCRIPT
    → IsLiveReadTo bytes rest before number → length rest ≤ 0 → SpellsLive bytes (live_before before)
all_read bytes rest before number short h none =
    let read = Each.all_read (live_judged (length bytes)) live_after live_line_of IsBefore
    (λ before c. LiveCanStand (length bytes) before c) live_start (live_language (length bytes)) bytes rest h.commands
    before number h.read none in
    subst (λ (b : LiveBefore). SpellsLive bytes (live_before b)) (sym h.read.before_is)
    (spelled_of_live_lines bytes h.commands short read)
