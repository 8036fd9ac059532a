-- The line of a command of a kept script is UTF-8 without control characters where its text has none but LF.
use Rattle.std.proofs.Common.{◌≡◌, ◌≤◌, ℕ, true, [], ◌∷◌, ◌++◌, codes, refl, arith}
use Rattle.td_base.specs.declared.site.TheConstants.{MAX_SITE}
use Rattle.td_script.specs.declared.kept.command.KeptCommand.{KeptCommand}
use Rattle.td_script.specs.declared.kept.command.KeptCommand.TheVariants.{Sites, Ins, Del, Flat, Cancel, Give, Show}
use Rattle.td_script.specs.declared.kept.command.KeptCommand.TheVariants.{Crash}
use Rattle.td_script.specs.KeptScript.{IsKeptCommand, IsKeptWritable}
use Rattle.td_script.specs.KeptSpelling.{kept_line_of}
use Rattle.td_script.specs.Lines.{is_text_line}
use Rattle.td_script.specs.Script.{IsSiteOf}
use Rattle.td_script.specs.Spelling.{spaced, spaced_dot, spaced_place, spaced_text}
use Rattle.td_script.proofs.WritingLaws.{IsClean, alone_clean, both, dot_clean, line_clean, place_clean, spaced_clean}
use Rattle.td_script.proofs.WritingLaws.{text_clean, text_line}

command_clean : (sites : ℕ) (c : KeptCommand) → sites ≤ MAX_SITE → IsKeptCommand sites c → IsKeptWritable c
    → IsClean (kept_line_of c)
command_clean sites (Sites n) few h k = absurd h
command_clean sites (Ins site index atoms) few h k =
    line_clean (codes "ins") sites site (spaced index ++ spaced_text atoms) refl refl few h.0
    (both (spaced index) (spaced_text atoms) (spaced_clean index h.1) (text_clean atoms h.2 k))
command_clean sites (Del site index count) few h k =
    line_clean (codes "del") sites site (spaced index ++ spaced count) refl refl few h.0
    (both (spaced index) (spaced count) (spaced_clean index h.1) (spaced_clean count h.2))
command_clean sites (Flat site place) few h k =
    line_clean (codes "flat") sites site (spaced_place place) refl refl few h.0 (place_clean place h.1)
command_clean sites (Cancel site proposal) few h k =
    line_clean (codes "cancel") sites site (spaced_dot proposal) refl refl few h.0 (dot_clean sites proposal few h.1)
command_clean sites (Give site number) few h k =
    line_clean (codes "give") sites site (spaced number) refl refl few h.0 (spaced_clean number h.1)
command_clean sites (Show site) few h k = alone_clean (codes "show") sites site refl refl few h
command_clean sites (Crash site call choice index atom) few h k =
    let written = spaced_text (atom ∷ []) in
    line_clean (codes "crash") sites site (spaced call ++ (spaced choice ++ (spaced index ++ written))) refl refl few
    h.0
    (both (spaced call) (spaced choice ++ (spaced index ++ written)) (spaced_clean call (omega (arith, h.1.1)))
    (both (spaced choice) (spaced index ++ written) (spaced_clean choice h.2)
    (both (spaced index) written (spaced_clean index h.3) (text_clean (atom ∷ []) h.4 k))))

-- the line of a command of a kept script can be read
pub kept_others_written : (sites : ℕ) (c : KeptCommand) → sites ≤ MAX_SITE → IsKeptCommand sites c → IsKeptWritable c
    → is_text_line (kept_line_of c) ≡ true
kept_others_written sites c few h k = text_line (kept_line_of c) (command_clean sites c few h k)

pub kept_sites_written : (n : ℕ) → IsSiteOf MAX_SITE n → is_text_line (kept_line_of (Sites n)) ≡ true
kept_sites_written n h =
    text_line (kept_line_of (Sites n)) (alone_clean (codes "sites") MAX_SITE n refl refl (omega arith) h)
