-- Bytes have no fault where they spell a kept script, and only there; and the script is the one that is read.
use Rattle.std.proofs.Common.{◌≡◌, ◌<◌, ◌≤◌, ◌+◌, ⊎_elim, ℕ, true, false, not, ltb, List, []}
use Rattle.std.proofs.Common.{◌∷◌, length, All, filter, map, sum_by, Option, Some, None, Ok, Err}
use Rattle.std.proofs.Common.{refl, sym, ap, subst, ◌∙◌, zero-add, arith}
use Rattle.std.proofs.lemmas.Bool.{lt-ltb, le-ltb, leb-false, lt-leb, cond-true, cond-false, or_parts, or_from}
use Rattle.std.proofs.lemmas.Bool.{cases_lt}
use Rattle.std.proofs.lemmas.List.Sums.{sum_by-cons}
use Rattle.std.proofs.lemmas.List.Elements.{All-nil, All-cons, All-head, All-tail, All-map}
use Rattle.td_base.specs.declared.site.TheConstants.{MAX_SITE}
use Rattle.td_script.specs.declared.kept.before.KeptBefore.{KeptBefore}
use Rattle.td_script.specs.declared.kept.command.KeptCommand.{KeptCommand}
use Rattle.td_script.specs.declared.kept.command.KeptCommand.TheVariants.{Sites, Ins, Del, Flat, Cancel, Give, Show}
use Rattle.td_script.specs.declared.kept.command.KeptCommand.TheVariants.{Crash}
use Rattle.td_script.specs.declared.kept.script.KeptScript.{KeptScript}
use Rattle.td_script.specs.declared.kept.script.TheConstants.{MAX_CRASHES}
use Rattle.td_script.specs.declared.kind.Kind.{Kind}
use Rattle.td_script.specs.declared.kind.Kind.TheVariants as Fault
use Rattle.td_script.specs.declared.script.TheConstants.{MAX_LINE, MAX_SCRIPT, MAX_WIDE_SCRIPT}
use Rattle.td_script.specs.Faults.{is_too_much}
use Rattle.td_script.specs.Judging.{Judged, fault_in}
use Rattle.td_script.specs.KeptFaults.{first_kept_fault, is_crash_too_many, is_kept_too_much, judged_kept, kept_after}
use Rattle.td_script.specs.KeptFaults.{kept_judged, kept_judged_lines, kept_start}
use Rattle.td_script.specs.KeptScript.{AreKeptCommands, IsKeptCommand, IsKeptScript, IsKeptWritable, SpellsKept}
use Rattle.td_script.specs.KeptScript.{crashes, kept_requests, kept_spelled}
use Rattle.td_script.specs.KeptSpelling.{kept_line_of}
use Rattle.td_script.specs.Lines.{is_skipped, is_text_line, lines_of}
use Rattle.td_script.specs.Script.{IsLine}
use Rattle.td_script.proofs.JudgingLaws.{IsLanguage, all_spoken, lines_back, lines_of_written}
use Rattle.td_script.proofs.JudgingLaws.{lines_there, same_commands, skipped_there}
use Rattle.td_script.proofs.JudgingLaws as More
use Rattle.td_script.proofs.KeptLineLaws.{KeptCanStand, kept_begins, kept_follows, kept_command_of, kept_judged_back}
use Rattle.td_script.proofs.KeptLineLaws.{kept_judged_there, kept_spoken}
use Rattle.td_script.proofs.KeptWritingLaws.{kept_others_written, kept_sites_written}
use Rattle.td_script.proofs.ScriptLaws.{IsWithin, narrow_back, narrow_there, nothing_within, within_back, within_there}

-- the commands can stand one behind the other
abbrev AreMore : ℕ → KeptBefore → List KeptCommand → Type 0
AreMore size = More.AreMore kept_after (λ before c. KeptCanStand size before c)

after_sites : (sites : ℕ) (before : KeptBefore) (c : KeptCommand) → IsKeptCommand sites c
    → (kept_after before c).sites ≡ before.sites
after_sites sites before (Sites n) h = absurd h
after_sites sites before (Ins site index atoms) h = refl
after_sites sites before (Del site index count) h = refl
after_sites sites before (Flat site place) h = refl
after_sites sites before (Cancel site proposal) h = refl
after_sites sites before (Give site number) h = refl
after_sites sites before (Show site) h = refl
after_sites sites before (Crash site k choice index atom) h = refl

after_requests : (before : KeptBefore) (c : KeptCommand)
    → (kept_after before c).requests ≡ before.requests + kept_requests c
after_requests before (Sites n) = refl
after_requests before (Ins site index atoms) = refl
after_requests before (Del site index count) = refl
after_requests before (Flat site place) = refl
after_requests before (Cancel site proposal) = refl
after_requests before (Give site number) = refl
after_requests before (Show site) = refl
after_requests before (Crash site k choice index atom) = refl

after_crashes : (before : KeptBefore) (c : KeptCommand) → (kept_after before c).crashes ≡ before.crashes + crashes c
after_crashes before (Sites n) = refl
after_crashes before (Ins site index atoms) = refl
after_crashes before (Del site index count) = refl
after_crashes before (Flat site place) = refl
after_crashes before (Cancel site proposal) = refl
after_crashes before (Give site number) = refl
after_crashes before (Show site) = refl
after_crashes before (Crash site k choice index atom) = refl

-- a crash that is not one too many
crash_back : (count : ℕ) (c : KeptCommand) → is_crash_too_many count c ≡ false → count ≤ MAX_CRASHES
    → count + crashes c ≤ MAX_CRASHES
crash_back count (Sites n) e h = omega (arith, h)
crash_back count (Ins site index atoms) e h = omega (arith, h)
crash_back count (Del site index times) e h = omega (arith, h)
crash_back count (Flat site place) e h = omega (arith, h)
crash_back count (Cancel site proposal) e h = omega (arith, h)
crash_back count (Give site number) e h = omega (arith, h)
crash_back count (Show site) e h = omega (arith, h)
crash_back count (Crash site k choice index atom) e h = let less = leb-false MAX_CRASHES count e in omega arith

crash_there : (count : ℕ) (c : KeptCommand) → count + crashes c ≤ MAX_CRASHES → is_crash_too_many count c ≡ false
crash_there count (Sites n) h = refl
crash_there count (Ins site index atoms) h = refl
crash_there count (Del site index times) h = refl
crash_there count (Flat site place) h = refl
crash_there count (Cancel site proposal) h = refl
crash_there count (Give site number) h = refl
crash_there count (Show site) h = refl
crash_there count (Crash site k choice index atom) h = lt-leb MAX_CRASHES count (omega (arith, h))

few_after : (size : ℕ) (before : KeptBefore) (c : KeptCommand) → before.sites ≤ MAX_SITE → KeptCanStand size before c
    → (kept_after before c).sites ≤ MAX_SITE
few_after size before c few (kept_begins n e none fits) =
    subst (λ (x : KeptCommand). (kept_after before x).sites ≤ MAX_SITE) (sym e) fits.range.1
few_after size before c few (kept_follows some fits sums) = omega (arith, after_sites before.sites before c fits)

-- the language of kept scripts of so many bytes
pub kept_language : (size : ℕ)
    → IsLanguage (kept_judged size) kept_after kept_line_of (λ before. before.sites ≤ MAX_SITE)
    (λ before c. KeptCanStand size before c)
kept_language size = record {
  back = λ before line o few e. kept_judged_back size before line o few e;
  skips = λ before line is e. skipped_there (kept_command_of size before) line is e;
  there = λ before c few stands is. kept_judged_there size before c few stands is;
  good = λ before c few stands. few_after size before c few stands;
}

-- what stands before the line behind all these commands
abbrev after_all : KeptBefore → List KeptCommand → KeptBefore
after_all = More.after_all kept_after

-- the sums are in the limits
record AreWithin (sites sum count : ℕ) : Type 0 where
  few : IsWithin sites sum
  crashes_few : count ≤ MAX_CRASHES

-- the commands behind `sites`
record AreOthers (before : KeptBefore) (cs : List KeptCommand) : Type 0 where
  sites : (after_all before cs).sites ≡ before.sites
  each : All (IsKeptCommand before.sites) cs
  sums : AreWithin before.sites (before.requests + sum_by kept_requests cs) (before.crashes + sum_by crashes cs)

-- what is within the limits with one command more
within_with : (before : KeptBefore) (c : KeptCommand) → AreWithin before.sites before.requests before.crashes
    → is_kept_too_much before c ≡ false
    → AreWithin before.sites (before.requests + kept_requests c) (before.crashes + crashes c)
within_with before c h e =
    let parts : (is_too_much before.sites (before.requests + kept_requests c) ≡ false)
    × (is_crash_too_many before.crashes c ≡ false) =
    or_parts (is_too_much before.sites (before.requests + kept_requests c)) (is_crash_too_many before.crashes c) e in
    record {
      few = within_back before.sites (before.requests + kept_requests c) parts.0;
      crashes_few = crash_back before.crashes c parts.1 h.crashes_few;
    }

moved_within : (before : KeptBefore) (c : KeptCommand) → IsKeptCommand before.sites c
    → AreWithin before.sites (before.requests + kept_requests c) (before.crashes + crashes c)
    → AreWithin (kept_after before c).sites (kept_after before c).requests (kept_after before c).crashes
moved_within before c fits h =
    subst (λ (s : ℕ). AreWithin s (kept_after before c).requests (kept_after before c).crashes)
    (sym (after_sites before.sites before c fits))
    (subst (λ (r : ℕ). AreWithin before.sites r (kept_after before c).crashes) (sym (after_requests before c))
    (subst (AreWithin before.sites (before.requests + kept_requests c)) (sym (after_crashes before c)) h))

others_back : (size : ℕ) (cs : List KeptCommand) (before : KeptBefore) → 1 ≤ before.sites
    → AreWithin before.sites before.requests before.crashes → AreMore size before cs → AreOthers before cs
others_back size [] before some sums h = record {
  sites = refl;
  each = All-nil (IsKeptCommand before.sites);
  sums = record {
    few = subst (IsWithin before.sites) (omega arith) sums.few;
    crashes_few = omega (arith, sums.crashes_few);
  };
}
others_back size (c ∷ cs) before some sums h = go (others_back size cs (kept_after before c)) h.0
  where
    go : (1 ≤ (kept_after before c).sites
        → AreWithin (kept_after before c).sites (kept_after before c).requests (kept_after before c).crashes
        → AreMore size (kept_after before c) cs → AreOthers (kept_after before c) cs) → KeptCanStand size before c
        → AreOthers before (c ∷ cs)
    go ih (kept_begins n e none fits) = absurd (omega arith)
    go ih (kept_follows some fits much) =
        let same : (kept_after before c).sites ≡ before.sites = after_sites before.sites before c fits in
        let more : (kept_after before c).requests ≡ before.requests + kept_requests c = after_requests before c in
        let count : (kept_after before c).crashes ≡ before.crashes + crashes c = after_crashes before c in
        let others = ih (omega arith) (moved_within before c fits (within_with before c sums much)) h.1 in
        let whole : sum_by kept_requests (c ∷ cs) ≡ kept_requests c + sum_by kept_requests cs =
        sum_by-cons kept_requests c cs in
        let all : sum_by crashes (c ∷ cs) ≡ crashes c + sum_by crashes cs = sum_by-cons crashes c cs in
        let few : (kept_after before c).crashes + sum_by crashes cs ≤ MAX_CRASHES = others.sums.crashes_few in
        record {
          sites = others.sites ∙ same;
          each = All-cons (IsKeptCommand before.sites) c cs fits
              (subst (λ (s : ℕ). All (IsKeptCommand s) cs) same others.each);
          sums = record {
            few = subst (IsWithin before.sites) (omega arith)
                (subst (λ (s : ℕ). IsWithin s ((kept_after before c).requests + sum_by kept_requests cs)) same
                others.sums.few);
            crashes_few = omega arith;
          };
        }

others_there : (size : ℕ) (cs : List KeptCommand) (before : KeptBefore) → 1 ≤ before.sites
    → All (IsKeptCommand before.sites) cs
    → AreWithin before.sites (before.requests + sum_by kept_requests cs) (before.crashes + sum_by crashes cs)
    → AreMore size before cs
others_there size [] before some each sums = tt
others_there size (c ∷ cs) before some each sums =
    let fits : IsKeptCommand before.sites c = All-head (IsKeptCommand before.sites) c cs each in
    let same : (kept_after before c).sites ≡ before.sites = after_sites before.sites before c fits in
    let more : (kept_after before c).requests ≡ before.requests + kept_requests c = after_requests before c in
    let count : (kept_after before c).crashes ≡ before.crashes + crashes c = after_crashes before c in
    let whole : sum_by kept_requests (c ∷ cs) ≡ kept_requests c + sum_by kept_requests cs =
    sum_by-cons kept_requests c cs in
    let total : sum_by crashes (c ∷ cs) ≡ crashes c + sum_by crashes cs = sum_by-cons crashes c cs in
    let few : before.crashes + sum_by crashes (c ∷ cs) ≤ MAX_CRASHES = sums.crashes_few in
    let here : IsWithin before.sites (before.requests + kept_requests c) =
    record { wide = λ h. omega (arith, sums.few.wide h); middle = λ h. omega (arith, sums.few.middle h) } in
    let all : before.requests + sum_by kept_requests (c ∷ cs)
    ≡ (kept_after before c).requests + sum_by kept_requests cs = omega arith in (
      kept_follows some fits (or_from (is_too_much before.sites (before.requests + kept_requests c))
          (is_crash_too_many before.crashes c) (within_there before.sites (before.requests + kept_requests c) here)
          (crash_there before.crashes c (omega arith))),
      others_there size cs (kept_after before c) (omega arith)
          (subst (λ (s : ℕ). All (IsKeptCommand s) cs) (sym same) (All-tail (IsKeptCommand before.sites) c cs each))
          (record {
            few = subst (λ (s : ℕ). IsWithin s ((kept_after before c).requests + sum_by kept_requests cs)) (sym same)
                (subst (IsWithin before.sites) all sums.few);
            crashes_few = omega arith;
          }),
    )

-- a kept script whose commands can stand one behind the other
record IsScriptOf (size : ℕ) (cs : List KeptCommand) (sites : ℕ) : Type 0 where
  commands : AreKeptCommands sites cs
  narrow : 16 < sites → size ≤ MAX_WIDE_SCRIPT
  sums : AreWithin sites (sum_by kept_requests cs) (sum_by crashes cs)

nothing : (sites : ℕ) → AreWithin sites 0 0
nothing sites = record { few = nothing_within sites; crashes_few = omega arith }

-- `sites` adds nothing to the sums
sites_add_nothing : (f : KeptCommand → ℕ) (c : KeptCommand) (cs : List KeptCommand) → f c ≡ 0
    → sum_by f (c ∷ cs) ≡ sum_by f cs
sites_add_nothing f c cs e =
    sum_by-cons f c cs ∙ ap (λ (x : ℕ). x + sum_by f cs) e ∙ zero-add (sum_by f cs)

start_back : (size : ℕ) (cs : List KeptCommand) → AreMore size kept_start cs
    → IsScriptOf size cs (after_all kept_start cs).sites
start_back size [] h = record { commands = refl; narrow = λ more. omega arith; sums = nothing 0 }
start_back size (c ∷ cs) h = go h.0
  where
    go : KeptCanStand size kept_start c → IsScriptOf size (c ∷ cs) (after_all kept_start (c ∷ cs)).sites
    go (kept_follows some fits sums) = absurd (omega arith)
    go (kept_begins n e none fits) =
        let first : KeptBefore = record { sites = n; requests = 0; crashes = 0 } in
        let others : AreOthers first cs = others_back size cs first fits.range.0 (nothing n)
        (subst (λ (x : KeptCommand). AreMore size (kept_after kept_start x) cs) e h.1) in
        let same : (after_all kept_start (c ∷ cs)).sites ≡ n =
        ap (λ (x : KeptCommand). (after_all (kept_after kept_start x) cs).sites) e ∙ others.sites in
        let whole : sum_by kept_requests (c ∷ cs) ≡ sum_by kept_requests cs =
        sites_add_nothing kept_requests c cs (ap kept_requests e) in
        let total : sum_by crashes (c ∷ cs) ≡ sum_by crashes cs = sites_add_nothing crashes c cs (ap crashes e) in
        let few : 0 + sum_by crashes cs ≤ MAX_CRASHES = others.sums.crashes_few in
        subst (IsScriptOf size (c ∷ cs)) (sym same) (record {
          commands = (e, fits.range, others.each);
          narrow = narrow_back size n fits.narrow;
          sums = record {
            few = subst (IsWithin n) (zero-add (sum_by kept_requests cs) ∙ sym whole) others.sums.few;
            crashes_few = omega arith;
          };
        })

start_there : (size : ℕ) (cs : List KeptCommand) (sites : ℕ) → IsScriptOf size cs sites → AreMore size kept_start cs
start_there size [] sites h = tt
start_there size (c ∷ cs) sites h =
    let e : c ≡ Sites sites = h.commands.0 in
    let whole : sum_by kept_requests (c ∷ cs) ≡ sum_by kept_requests cs =
    sites_add_nothing kept_requests c cs (ap kept_requests e) in
    let total : sum_by crashes (c ∷ cs) ≡ sum_by crashes cs = sites_add_nothing crashes c cs (ap crashes e) in
    let few : sum_by crashes (c ∷ cs) ≤ MAX_CRASHES = h.sums.crashes_few in
    let first : KeptBefore = record { sites = sites; requests = 0; crashes = 0 } in
    let others : AreMore size first cs = others_there size cs first h.commands.1.0 h.commands.2 (record {
      few = subst (IsWithin sites) (whole ∙ sym (zero-add (sum_by kept_requests cs))) h.sums.few;
      crashes_few = omega arith;
    }) in (
      kept_begins sites e refl (record { range = h.commands.1; narrow = narrow_there size sites h.narrow }),
      subst (λ (x : KeptCommand). AreMore size (kept_after kept_start x) cs) (sym e) others,
    )

-- bytes that spell a kept script are read as its commands
judged_of_spelled : (bytes : List ℕ) (script : KeptScript) → SpellsKept bytes script
    → judged_kept bytes ≡ Ok script.commands
judged_of_spelled bytes script h =
    let is : IsScriptOf (length bytes) script.commands script.sites =
    record {
      commands = h.commands;
      narrow = h.fits.small;
      sums = record { few = record { wide = h.fits.few; middle = h.fits.some }; crashes_few = h.fits.crashes_few };
    } in
    cond-false {A = Judged KeptCommand} (ltb MAX_SCRIPT (length bytes)) (Err (0, Fault.Size))
    (kept_judged_lines (length bytes) 1 (lines_of bytes) kept_start) (le-ltb MAX_SCRIPT (length bytes) h.short)
    ∙ lines_there (kept_judged (length bytes)) kept_after kept_line_of (λ before. before.sites ≤ MAX_SITE)
    (λ before c. KeptCanStand (length bytes) before c) (kept_language (length bytes)) 1 (lines_of bytes) kept_start
    script.commands (omega arith) (record {
      each = h.lines;
      spelled = h.spelled;
      more = start_there (length bytes) script.commands script.sites is;
    })

-- a kept script has no fault
pub no_kept_fault : (bytes : List ℕ) (script : KeptScript) → SpellsKept bytes script → first_kept_fault bytes ≡ None
no_kept_fault bytes script h = ap fault_in (judged_of_spelled bytes script h)

-- bytes that are read as commands spell them
pub kept_of_lines : (bytes : List ℕ) (cs : List KeptCommand) → length bytes ≤ MAX_SCRIPT
    → kept_judged_lines (length bytes) 1 (lines_of bytes) kept_start ≡ Ok cs
    → SpellsKept bytes (record { sites = (More.after_all kept_after kept_start cs).sites; commands = cs })
kept_of_lines bytes cs short e =
    let lines = lines_back (kept_judged (length bytes)) kept_after kept_line_of (λ before. before.sites ≤ MAX_SITE)
    (λ before c. KeptCanStand (length bytes) before c) (kept_language (length bytes)) 1 (lines_of bytes) kept_start cs
    (omega arith) e in
    let is = start_back (length bytes) cs lines.more in
    record {
      short = short;
      lines = lines.each;
      spelled = lines.spelled;
      commands = is.commands;
      fits = record {
        small = is.narrow;
        few = is.sums.few.wide;
        some = is.sums.few.middle;
        crashes_few = is.sums.crashes_few;
      };
    }

sites_same : (x y : ℕ) (cs : List KeptCommand) → AreKeptCommands x cs → AreKeptCommands y cs → x ≡ y
sites_same x y [] h h' = h ∙ sym h'
sites_same x y (c ∷ cs) h h' = number_same (sym h.0 ∙ h'.0)
  where
    number_same : Sites x ≡ Sites y → x ≡ y
    number_same e = cc

-- bytes spell one kept script at most
pub kept_unique : (bytes : List ℕ) (s t : KeptScript) → SpellsKept bytes s → SpellsKept bytes t → s ≡ t
kept_unique bytes s t h h' =
    let same : s.commands ≡ t.commands = same_commands s.commands t.commands
    (sym (judged_of_spelled bytes s h) ∙ judged_of_spelled bytes t h') in
    let sites : s.sites ≡ t.sites = sites_same s.sites t.sites t.commands
    (subst (AreKeptCommands s.sites) same h.commands) h'.commands in
    λ i. record { sites = sites i; commands = same i }

-- bytes that are no kept script have a fault
fault_at : (bytes : List ℕ) (r : Judged KeptCommand) → length bytes ≤ MAX_SCRIPT
    → kept_judged_lines (length bytes) 1 (lines_of bytes) kept_start ≡ r → fault_in r ≡ None
    → (script : KeptScript) × SpellsKept bytes script
fault_at bytes (Ok cs) short e h =
    (record { sites = (after_all kept_start cs).sites; commands = cs }, kept_of_lines bytes cs short e)
fault_at bytes (Err fault) short e h = absurd (some_is_not_none h)
  where
    some_is_not_none : ◌≡◌ {A = Option (ℕ × Kind)} (Some fault) None → ⊥
    some_is_not_none e = cc

pub kept_of_no_fault : (bytes : List ℕ) → first_kept_fault bytes ≡ None
    → (script : KeptScript) × SpellsKept bytes script
kept_of_no_fault bytes h =
    ⊎_elim
    (λ (long : MAX_SCRIPT < length bytes). absurd (some_is_not_none
    (sym (ap fault_in (cond-true {A = Judged KeptCommand} (ltb MAX_SCRIPT (length bytes)) (Err (0, Fault.Size))
    (kept_judged_lines (length bytes) 1 (lines_of bytes) kept_start) (lt-ltb MAX_SCRIPT (length bytes) long))) ∙ h)))
    (λ (short : length bytes ≤ MAX_SCRIPT). fault_at bytes
    (kept_judged_lines (length bytes) 1 (lines_of bytes) kept_start) short refl
    (sym (ap fault_in (cond-false {A = Judged KeptCommand} (ltb MAX_SCRIPT (length bytes)) (Err (0, Fault.Size))
    (kept_judged_lines (length bytes) 1 (lines_of bytes) kept_start) (le-ltb MAX_SCRIPT (length bytes) short))) ∙ h))
    (cases_lt MAX_SCRIPT (length bytes))
  where
    some_is_not_none : ◌≡◌ {A = Option (ℕ × Kind)} (Some (0, Fault.Size)) None → ⊥
    some_is_not_none e = cc

-- the commands of a kept script are written on lines
other_lines : (sites : ℕ) (cs : List KeptCommand) → sites ≤ MAX_SITE → All (IsKeptCommand sites) cs
    → All IsKeptWritable cs → All (λ c. length (kept_line_of c) ≤ MAX_LINE) cs → All (λ c. IsLine (kept_line_of c)) cs
other_lines sites [] few h k l = All-nil (λ c. IsLine (kept_line_of c))
other_lines sites (c ∷ cs) few h k l =
    All-cons (λ c. IsLine (kept_line_of c)) c cs
    (record {
      short = All-head (λ c. length (kept_line_of c) ≤ MAX_LINE) c cs l;
      text = kept_others_written sites c few (All-head (IsKeptCommand sites) c cs h) (All-head IsKeptWritable c cs k);
    })
    (other_lines sites cs few (All-tail (IsKeptCommand sites) c cs h) (All-tail IsKeptWritable c cs k)
    (All-tail (λ c. length (kept_line_of c) ≤ MAX_LINE) c cs l))

all_lines : (sites : ℕ) (cs : List KeptCommand) → AreKeptCommands sites cs → All IsKeptWritable cs
    → All (λ c. length (kept_line_of c) ≤ MAX_LINE) cs → All (λ c. IsLine (kept_line_of c)) cs
all_lines sites [] h k l = All-nil (λ c. IsLine (kept_line_of c))
all_lines sites (c ∷ cs) h k l =
    All-cons (λ c. IsLine (kept_line_of c)) c cs
    (record {
      short = All-head (λ c. length (kept_line_of c) ≤ MAX_LINE) c cs l;
      text = subst (λ (x : KeptCommand). is_text_line (kept_line_of x) ≡ true) (sym h.0)
          (kept_sites_written sites h.1);
    })
    (other_lines sites cs h.1.1 h.2 (All-tail IsKeptWritable c cs k)
    (All-tail (λ c. length (kept_line_of c) ≤ MAX_LINE) c cs l))

-- a kept script that is written is read again
pub kept_read_again : (script : KeptScript) → IsKeptScript script → SpellsKept (kept_spelled script.commands) script
kept_read_again script h =
    let each : All (λ c. IsLine (kept_line_of c)) script.commands =
    all_lines script.sites script.commands h.commands h.texts h.lines in
    let lines : lines_of (kept_spelled script.commands) ≡ map kept_line_of script.commands =
    lines_of_written kept_line_of script.commands each in
    record {
      short = h.short;
      lines = subst (All IsLine) (sym lines) (All-map IsLine kept_line_of script.commands each);
      spelled = ap (filter (λ line. not (is_skipped line))) lines
          ∙ all_spoken kept_line_of kept_spoken script.commands;
      commands = h.commands;
      fits = h.fits;
    }
