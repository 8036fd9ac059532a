-- Whatever is printed of a live script is a possible trace.
use Rattle.std.proofs.Common.{◌≡◌, ◌≤◌, ◌++◌, ℕ, List, [], length, map, codes, refl, sym, ap, ◌∙◌, subst, inl, inr}
use Rattle.std.proofs.Common.{⊎_elim, arith}
use Rattle.std.proofs.lemmas.Fmt.{decimal_digit}
use Rattle.std.proofs.lemmas.List.{length-map}
use Rattle.td_check.specs.Verdict.{IsPossible, IsVerdict, OfNoSite}
use Rattle.td_check.specs.declared.verdict.Verdict.TheVariants.{Yes}
use Rattle.td_check.proofs.Possible.{yes_is_possible}
use Rattle.td_live.specs.Live.{IsTraceAmong}
use Rattle.td_reader.specs.Values.{IsShortNumber, TraceValue, IsTraceValue}
use Rattle.td_reader.specs.declared.trace.TheConstants.{MAX_TRACE}
use Rattle.td_report.specs.Trace.{trace}
use Rattle.td_script.specs.declared.live.script.Live.{Live as LiveScript}
use Rattle.td_script.specs.declared.live.script.TheConstants.{MAX_EDITORS}
use Rattle.td_script.specs.LiveScript.{SpellsLive}
use Rattle.td_script.proofs.LiveFits.{editors_few}
use Rattle.td_trace.specs.declared.log.EditorLog.{EditorLog}
use Rattle.td_run.specs.Answer.{IsOutputFor}
use Rattle.td_run.specs.VerdictLine.{verdict_line}
use Rattle.td_run.specs.declared.words.Language.TheVariants.{Live, Trace}
use Rattle.td_run.proofs.YesFound.{possible_yes}
use Rattle.td_run.proofs.LiveTraces.{value_of, is_value}
use Rattle.td_run.proofs.RequestRanges.{script_lines}

-- the trace of no site
abbrev nothing : TraceValue
nothing = record { sites = 0; histories = []; logs = []; texts = [] }

nothing_is : IsTraceValue nothing
nothing_is =
    record {
      few = omega arith;
      each_history = refl;
      histories = tt;
      logs = tt;
      few_logs = omega arith;
      each_text = refl;
      texts = tt;
    }

of_none : (bytes : List ℕ) → bytes ≡ trace 0 [] [] [] → length bytes ≤ MAX_TRACE → IsPossible bytes
of_none bytes e short = record { short = short; value = nothing; is = (nothing_is, e); live = inl refl }

of_family : (input bytes : List ℕ) (live : LiveScript) → SpellsLive input live
    → IsTraceAmong live.sites live.homes live.lines bytes → length bytes ≤ MAX_TRACE → IsPossible bytes
of_family input bytes live spells t short =
    let value : TraceValue = value_of t.family t.logs t.traced.texts in
    let few_homes : length live.homes ≤ MAX_EDITORS = editors_few input live spells in
    let long : length (map (λ (log : EditorLog). log.home) t.logs) ≡ length live.homes =
    ap (λ (l : List ℕ). length l) t.live.homes_are in
    let logs : length (map (λ (log : EditorLog). log.home) t.logs) ≡ length t.logs =
    length-map t.logs (λ (log : EditorLog). log.home) in
    let few : IsShortNumber (length t.logs) = omega (arith, few_homes, long, logs) in
    record {
      short = short;
      value = value;
      is = (
        is_value t.family t.logs t.traced.texts t.live.live
            (subst (λ (l : List ℕ). length l ≤ 536870912) t.traced.bytes_are short) live.lines
            (script_lines input live spells) t.live.followed few t.traced.texts_are,
        t.traced.bytes_are,
      );
      live = inr
          (record { family = t.family; live = t.live.live; is = refl; texts_are = t.traced.texts_are });
    }

pub passes : (input bytes : List ℕ) → IsOutputFor Live input bytes → length bytes ≤ MAX_TRACE → IsPossible bytes
passes input bytes (live, spells, is) short =
    ⊎_elim
    (λ (none : (live.sites ≡ 0) × (bytes ≡ trace 0 [] [] [])). of_none bytes none.1 short)
    (λ (among : IsTraceAmong live.sites live.homes live.lines bytes). of_family input bytes live spells among short) is

-- so the verdict is yes, and that is what is printed of it
pub has_yes : (input bytes : List ℕ) → IsOutputFor Live input bytes → length bytes ≤ MAX_TRACE → IsVerdict bytes Yes
has_yes input bytes played short = possible_yes bytes (passes input bytes played short)

pub says_yes : (input bytes line : List ℕ) → IsOutputFor Live input bytes → length bytes ≤ MAX_TRACE
    → IsOutputFor Trace bytes line → line ≡ codes "yes\n"
says_yes input bytes line played short (verdict, is, line_is) =
    line_is ∙ ap verdict_line ((yes_is_possible bytes verdict is).1 (passes input bytes played short))

-- the trace of no site, as it is written
none_written : codes "sites 0\nend\n" ≡ trace 0 [] [] []
none_written =
    ap (λ (digits : List ℕ). codes "sites " ++ ((digits ++ codes "\n") ++ codes "end\n"))
    (sym (decimal_digit 0 (omega arith)))

pub none_has_yes : IsVerdict (codes "sites 0\nend\n") Yes
none_has_yes = OfNoSite (omega arith) nothing (nothing_is, none_written) refl
