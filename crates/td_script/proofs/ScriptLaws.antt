-- Bytes have no fault where they spell a script, and only there; and the script is the one that is read.
use Rattle.std.proofs.Common.{◌≡◌, ◌<◌, ◌≤◌, ◌+◌, ⊎_elim, ℕ, true, false, not, ltb, ◌&&◌, List, []}
use Rattle.std.proofs.Common.{◌∷◌, length, All, filter, map, sum_by, Option, Some, None, Ok, Err}
use Rattle.std.proofs.Common.{refl, sym, ap, subst, ◌∙◌, zero-add, arith}
use Rattle.std.proofs.lemmas.Bool.{ltb-false, lt-ltb, le-ltb, cond-true, cond-false, or_parts, or_from}
use Rattle.std.proofs.lemmas.Bool.{and_cases, and_left, and_right, true≢false, cases_lt}
use Rattle.std.proofs.lemmas.List.Sums.{sum_by-cons}
use Rattle.std.proofs.lemmas.List.Elements.{All-nil, All-cons, All-head, All-tail, All-map}
use Rattle.td_base.specs.declared.site.TheConstants.{MAX_SITE}
use Rattle.td_script.specs.declared.before.Before.{Before}
use Rattle.td_script.specs.declared.command.Command.{Command}
use Rattle.td_script.specs.declared.command.Command.TheVariants.{Sites, Ins, Paste, Del, Flat, FlatAuto, Cancel, Give}
use Rattle.td_script.specs.declared.command.Command.TheVariants.{GiveAll, Settle, Show, Tree, Count}
use Rattle.td_script.specs.declared.command.Command.TheVariants.{Mark, Meet, Marks}
use Rattle.td_script.specs.declared.kind.Kind.{Kind}
use Rattle.td_script.specs.declared.kind.Kind.TheVariants as Fault
use Rattle.td_script.specs.declared.script.Script.{Script}
use Rattle.td_script.specs.declared.script.TheConstants.{MAX_LINE, MAX_SCRIPT, MAX_WIDE_SCRIPT}
use Rattle.td_script.specs.declared.script.TheConstants.{MAX_WIDE_REQUESTS, MAX_MIDDLE_REQUESTS}
use Rattle.td_script.specs.Faults.{after, fault_of, first_fault, is_too_much, judged, judged_lines, judged_script}
use Rattle.td_script.specs.Judging.{Judged}
use Rattle.td_script.specs.Shared.{is_too_wide}
use Rattle.td_script.specs.Lines.{is_skipped, is_text_line, lines_of}
use Rattle.td_script.specs.Script.{AreCommands, IsCommand, IsLine, IsScript, IsWritable, Spells, spelled, requests}
use Rattle.td_script.specs.Spelling.{line_of}
use Rattle.td_script.proofs.JudgingLaws.{IsLanguage, all_spoken, lines_back, lines_of_written}
use Rattle.td_script.proofs.JudgingLaws.{lines_there, same_commands, skipped_there}
use Rattle.td_script.proofs.JudgingLaws as More
use Rattle.td_script.proofs.LineLaws.{CanStand, begins, follows, command_of, judged_back, judged_there, spoken}
use Rattle.td_script.proofs.WritingLaws.{others_written, sites_written}

-- the commands can stand one behind the other
abbrev pub AreMore : ℕ → Before → List Command → Type 0
AreMore size = More.AreMore after (λ before c. CanStand size before c)

after_sites : (sites : ℕ) (before : Before) (c : Command) → IsCommand sites c → (after before c).sites ≡ before.sites
after_sites sites before (Sites n) h = absurd h
after_sites sites before (Ins site index atoms) h = refl
after_sites sites before (Paste site index atoms) h = refl
after_sites sites before (Del site index count) h = refl
after_sites sites before (Flat site place) h = refl
after_sites sites before (FlatAuto site) h = refl
after_sites sites before (Cancel site proposal) h = refl
after_sites sites before (Give site number) h = refl
after_sites sites before (GiveAll site) h = refl
after_sites sites before Settle h = refl
after_sites sites before (Show site) h = refl
after_sites sites before (Tree site) h = refl
after_sites sites before (Count site) h = refl
after_sites sites before (Mark site add name index count) h = refl
after_sites sites before (Meet site other) h = refl
after_sites sites before (Marks site) h = refl

after_requests : (before : Before) (c : Command) → (after before c).requests ≡ before.requests + requests c
after_requests before (Sites n) = refl
after_requests before (Ins site index atoms) = refl
after_requests before (Paste site index atoms) = refl
after_requests before (Del site index count) = refl
after_requests before (Flat site place) = refl
after_requests before (FlatAuto site) = refl
after_requests before (Cancel site proposal) = refl
after_requests before (Give site number) = refl
after_requests before (GiveAll site) = refl
after_requests before Settle = refl
after_requests before (Show site) = refl
after_requests before (Tree site) = refl
after_requests before (Count site) = refl
after_requests before (Mark site add name index count) = refl
after_requests before (Meet site other) = refl
after_requests before (Marks site) = refl

pub few_after : (size : ℕ) (before : Before) (c : Command) → before.sites ≤ MAX_SITE → CanStand size before c
    → (after before c).sites ≤ MAX_SITE
few_after size before c few (begins n e none fits) =
    subst (λ (x : Command). (after before x).sites ≤ MAX_SITE) (sym e) fits.range.1
few_after size before c few (follows some fits sum) = omega (arith, after_sites before.sites before c fits)

-- the language of scripts of so many bytes
pub language : (size : ℕ)
    → IsLanguage (judged size) after line_of (λ before. before.sites ≤ MAX_SITE) (λ before c. CanStand size before c)
language size = record {
  back = λ before line o few e. judged_back size before line o few e;
  skips = λ before line is e. skipped_there (command_of size before) line is e;
  there = λ before c few stands is. judged_there size before c few stands is;
  good = λ before c few stands. few_after size before c few stands;
}

-- what stands before the line behind all these commands
abbrev pub after_all : Before → List Command → Before
after_all = More.after_all after

abbrev pub start : Before
start = record { sites = 0; requests = 0 }

-- the sum is in the limits
pub record IsWithin (sites sum : ℕ) : Type 0 where
  pub wide : 16 < sites → sum ≤ MAX_WIDE_REQUESTS
  pub middle : 8 < sites → sum ≤ MAX_MIDDLE_REQUESTS

pub limit_back : (least sites greatest sum : ℕ) → (ltb least sites && ltb greatest sum) ≡ false → least < sites
    → sum ≤ greatest
limit_back least sites greatest sum e h =
    ⊎_elim
    (λ (f : ltb least sites ≡ false). absurd (true≢false (sym (lt-ltb least sites h) ∙ f)))
    (λ (f : ltb greatest sum ≡ false). ltb-false greatest sum f)
    (and_cases (ltb least sites) (ltb greatest sum) e)

pub limit_there : (least sites greatest sum : ℕ) → (least < sites → sum ≤ greatest)
    → (ltb least sites && ltb greatest sum) ≡ false
limit_there least sites greatest sum h =
    ⊎_elim
    (λ (more : least < sites). and_right (ltb least sites) (ltb greatest sum) (le-ltb greatest sum (h more)))
    (λ (few : sites ≤ least). and_left (ltb least sites) (ltb greatest sum) (le-ltb least sites few))
    (cases_lt least sites)

pub within_back : (sites sum : ℕ) → is_too_much sites sum ≡ false → IsWithin sites sum
within_back sites sum e =
    let parts : ((ltb 16 sites && ltb MAX_WIDE_REQUESTS sum) ≡ false)
    × ((ltb 8 sites && ltb MAX_MIDDLE_REQUESTS sum) ≡ false) =
    or_parts (ltb 16 sites && ltb MAX_WIDE_REQUESTS sum) (ltb 8 sites && ltb MAX_MIDDLE_REQUESTS sum) e in
    record {
      wide = limit_back 16 sites MAX_WIDE_REQUESTS sum parts.0;
      middle = limit_back 8 sites MAX_MIDDLE_REQUESTS sum parts.1;
    }

pub within_there : (sites sum : ℕ) → IsWithin sites sum → is_too_much sites sum ≡ false
within_there sites sum h =
    or_from (ltb 16 sites && ltb MAX_WIDE_REQUESTS sum) (ltb 8 sites && ltb MAX_MIDDLE_REQUESTS sum)
    (limit_there 16 sites MAX_WIDE_REQUESTS sum h.wide) (limit_there 8 sites MAX_MIDDLE_REQUESTS sum h.middle)

-- the commands behind `sites`
record AreOthers (before : Before) (cs : List Command) : Type 0 where
  sites : (after_all before cs).sites ≡ before.sites
  each : All (IsCommand before.sites) cs
  sum : IsWithin before.sites (before.requests + sum_by requests cs)

others_back : (size : ℕ) (cs : List Command) (before : Before) → 1 ≤ before.sites
    → IsWithin before.sites before.requests → AreMore size before cs → AreOthers before cs
others_back size [] before some sum h = record
    { sites = refl; each = All-nil (IsCommand before.sites); sum = subst (IsWithin before.sites) (omega arith) sum }
others_back size (c ∷ cs) before some sum h = go (others_back size cs (after before c)) h.0
  where
    go : (1 ≤ (after before c).sites → IsWithin (after before c).sites (after before c).requests
        → AreMore size (after before c) cs → AreOthers (after before c) cs) → CanStand size before c
        → AreOthers before (c ∷ cs)
    go ih (begins n e none fits) = absurd (omega arith)
    go ih (follows some fits few) =
        let same : (after before c).sites ≡ before.sites = after_sites before.sites before c fits in
        let more : (after before c).requests ≡ before.requests + requests c = after_requests before c in
        let here : IsWithin (after before c).sites (after before c).requests =
        subst (λ (s : ℕ). IsWithin s (after before c).requests) (sym same)
        (subst (IsWithin before.sites) (sym more) (within_back before.sites (before.requests + requests c) few)) in
        let others = ih (omega arith) here h.1 in
        let whole : sum_by requests (c ∷ cs) ≡ requests c + sum_by requests cs = sum_by-cons requests c cs in
        record {
          sites = others.sites ∙ same;
          each = All-cons (IsCommand before.sites) c cs fits (subst (λ (s : ℕ). All (IsCommand s) cs) same others.each);
          sum = subst (IsWithin before.sites) (omega arith)
              (subst (λ (s : ℕ). IsWithin s ((after before c).requests + sum_by requests cs)) same others.sum);
        }

pub others_there : (size : ℕ) (cs : List Command) (before : Before) → 1 ≤ before.sites
    → All (IsCommand before.sites) cs → IsWithin before.sites (before.requests + sum_by requests cs)
    → AreMore size before cs
others_there size [] before some each sum = tt
others_there size (c ∷ cs) before some each sum =
    let fits : IsCommand before.sites c = All-head (IsCommand before.sites) c cs each in
    let same : (after before c).sites ≡ before.sites = after_sites before.sites before c fits in
    let more : (after before c).requests ≡ before.requests + requests c = after_requests before c in
    let whole : sum_by requests (c ∷ cs) ≡ requests c + sum_by requests cs = sum_by-cons requests c cs in
    let here : IsWithin before.sites (before.requests + requests c) =
    record { wide = λ h. omega (arith, sum.wide h); middle = λ h. omega (arith, sum.middle h) } in
    let all : before.requests + sum_by requests (c ∷ cs)
    ≡ (after before c).requests + sum_by requests cs = omega arith in (
      follows some fits (within_there before.sites (before.requests + requests c) here),
      others_there size cs (after before c) (omega arith)
          (subst (λ (s : ℕ). All (IsCommand s) cs) (sym same) (All-tail (IsCommand before.sites) c cs each))
          (subst (λ (s : ℕ). IsWithin s ((after before c).requests + sum_by requests cs)) (sym same)
          (subst (IsWithin before.sites) all sum)),
    )

-- a script whose commands can stand one behind the other
pub record IsScriptOf (size : ℕ) (cs : List Command) (sites : ℕ) : Type 0 where
  pub commands : AreCommands sites cs
  pub narrow : 16 < sites → size ≤ MAX_WIDE_SCRIPT
  pub sum : IsWithin sites (sum_by requests cs)

pub narrow_back : (size n : ℕ) → is_too_wide size n ≡ false → 16 < n → size ≤ MAX_WIDE_SCRIPT
narrow_back size n e h = limit_back 16 n MAX_WIDE_SCRIPT size e h

pub narrow_there : (size n : ℕ) → (16 < n → size ≤ MAX_WIDE_SCRIPT) → is_too_wide size n ≡ false
narrow_there size n h = limit_there 16 n MAX_WIDE_SCRIPT size h

pub nothing_within : (sites : ℕ) → IsWithin sites 0
nothing_within sites = record { wide = λ h. omega arith; middle = λ h. omega arith }

pub start_back : (size : ℕ) (cs : List Command) → AreMore size start cs → IsScriptOf size cs (after_all start cs).sites
start_back size [] h = record { commands = refl; narrow = λ more. omega arith; sum = nothing_within 0 }
start_back size (c ∷ cs) h = go h.0
  where
    go : CanStand size start c → IsScriptOf size (c ∷ cs) (after_all start (c ∷ cs)).sites
    go (follows some fits few) = absurd (omega arith)
    go (begins n e none fits) =
        let first : Before = record { sites = n; requests = 0 } in
        let others : AreOthers first cs = others_back size cs first fits.range.0 (nothing_within n)
        (subst (λ (x : Command). AreMore size (after start x) cs) e h.1) in
        let same : (after_all start (c ∷ cs)).sites ≡ n = ap (λ (x : Command). (after_all (after start x) cs).sites) e
        ∙ others.sites in
        let whole : sum_by requests (c ∷ cs) ≡ sum_by requests cs = sum_by-cons requests c cs
        ∙ ap (λ (x : Command). requests x + sum_by requests cs) e ∙ zero-add (sum_by requests cs) in
        let sum : IsWithin n (sum_by requests (c ∷ cs)) =
        subst (IsWithin n) (zero-add (sum_by requests cs) ∙ sym whole) others.sum in
        subst (IsScriptOf size (c ∷ cs)) (sym same) (record
        { commands = (e, fits.range, others.each); narrow = narrow_back size n fits.narrow; sum = sum })

pub start_there : (size : ℕ) (cs : List Command) (sites : ℕ) → IsScriptOf size cs sites → AreMore size start cs
start_there size [] sites h = tt
start_there size (c ∷ cs) sites h =
    let e : c ≡ Sites sites = h.commands.0 in
    let whole : sum_by requests (c ∷ cs) ≡ sum_by requests cs = sum_by-cons requests c cs
    ∙ ap (λ (x : Command). requests x + sum_by requests cs) e ∙ zero-add (sum_by requests cs) in
    let first : Before = record { sites = sites; requests = 0 } in
    let others : AreMore size first cs = others_there size cs first h.commands.1.0 h.commands.2
    (subst (IsWithin sites) (whole ∙ sym (zero-add (sum_by requests cs))) h.sum) in (
      begins sites e refl (record { range = h.commands.1; narrow = narrow_there size sites h.narrow }),
      subst
          (λ (x : Command). AreMore size (after start x) cs) (sym e) others,
    )

-- bytes that spell a script are read as its commands
pub judged_of_spelled : (bytes : List ℕ) (script : Script) → Spells bytes script → judged_script bytes
    ≡ Ok script.commands
judged_of_spelled bytes script h =
    let is : IsScriptOf (length bytes) script.commands script.sites =
    record {
      commands = h.commands;
      narrow = h.fits.small;
      sum = record { wide = h.fits.few; middle = h.fits.some };
    } in
    cond-false {A = Judged Command} (ltb MAX_SCRIPT (length bytes)) (Err (0, Fault.Size))
    (judged_lines (length bytes) 1 (lines_of bytes) start) (le-ltb MAX_SCRIPT (length bytes) h.short)
    ∙ lines_there (judged (length bytes)) after line_of (λ before. before.sites ≤ MAX_SITE)
    (λ before c. CanStand (length bytes) before c) (language (length bytes)) 1 (lines_of bytes) start
    script.commands (omega arith) (record {
      each = h.lines;
      spelled = h.spelled;
      more = start_there (length bytes) script.commands script.sites is;
    })

-- a script has no fault
pub no_fault : (bytes : List ℕ) (script : Script) → Spells bytes script → first_fault bytes ≡ None
no_fault bytes script h = ap fault_of (judged_of_spelled bytes script h)

-- bytes that are read as commands spell them
pub spelled_of_lines : (bytes : List ℕ) (cs : List Command) → length bytes ≤ MAX_SCRIPT
    → judged_lines (length bytes) 1 (lines_of bytes) start ≡ Ok cs
    → Spells bytes (record { sites = (after_all start cs).sites; commands = cs })
spelled_of_lines bytes cs short e =
    let lines = lines_back (judged (length bytes)) after line_of (λ before. before.sites ≤ MAX_SITE)
    (λ before c. CanStand (length bytes) before c) (language (length bytes)) 1 (lines_of bytes) start cs
    (omega arith) e in
    let is = start_back (length bytes) cs lines.more in
    record {
      short = short;
      lines = lines.each;
      spelled = lines.spelled;
      commands = is.commands;
      fits = record { small = is.narrow; few = is.sum.wide; some = is.sum.middle };
    }

sites_same : (x y : ℕ) (cs : List Command) → AreCommands x cs → AreCommands y cs → x ≡ y
sites_same x y [] h h' = h ∙ sym h'
sites_same x y (c ∷ cs) h h' = number_same (sym h.0 ∙ h'.0)
  where
    number_same : Sites x ≡ Sites y → x ≡ y
    number_same e = cc

-- bytes spell one script at most
pub unique : (bytes : List ℕ) (s t : Script) → Spells bytes s → Spells bytes t → s ≡ t
unique bytes s t h h' =
    let same : s.commands ≡ t.commands = same_commands s.commands t.commands
    (sym (judged_of_spelled bytes s h) ∙ judged_of_spelled bytes t h') in
    let sites : s.sites ≡ t.sites = sites_same s.sites t.sites t.commands
    (subst (AreCommands s.sites) same h.commands) h'.commands in
    λ i. record { sites = sites i; commands = same i }

-- bytes that are no script have a fault
fault_at : (bytes : List ℕ) (r : Judged Command) → length bytes ≤ MAX_SCRIPT
    → judged_lines (length bytes) 1 (lines_of bytes) start ≡ r → fault_of r ≡ None → (script : Script)
    × Spells bytes script
fault_at bytes (Ok cs) short e h = (
  record { sites = (after_all start cs).sites; commands = cs },
  spelled_of_lines
      bytes cs short e,
)
fault_at bytes (Err fault) short e h = absurd (some_is_not_none h)
  where
    some_is_not_none : ◌≡◌ {A = Option (ℕ × Kind)} (Some fault) None → ⊥
    some_is_not_none e = cc

pub script_of_no_fault : (bytes : List ℕ) → first_fault bytes ≡ None → (script : Script) × Spells bytes script
script_of_no_fault bytes h =
    ⊎_elim
    (λ (long : MAX_SCRIPT < length bytes). absurd (some_is_not_none
    (sym (ap fault_of (cond-true {A = Judged Command} (ltb MAX_SCRIPT (length bytes)) (Err (0, Fault.Size))
    (judged_lines (length bytes) 1 (lines_of bytes) start) (lt-ltb MAX_SCRIPT (length bytes) long))) ∙ h)))
    (λ (short : length bytes ≤ MAX_SCRIPT). fault_at bytes (judged_lines (length bytes) 1 (lines_of bytes) start)
    short refl
    (sym (ap fault_of (cond-false {A = Judged Command} (ltb MAX_SCRIPT (length bytes)) (Err (0, Fault.Size))
    (judged_lines (length bytes) 1 (lines_of bytes) start) (le-ltb MAX_SCRIPT (length bytes) short))) ∙ h))
    (cases_lt MAX_SCRIPT (length bytes))
  where
    some_is_not_none : ◌≡◌ {A = Option (ℕ × Kind)} (Some (0, Fault.Size)) None → ⊥
    some_is_not_none e = cc

-- the commands of a script are written on lines
other_lines : (sites : ℕ) (cs : List Command) → sites ≤ MAX_SITE → All (IsCommand sites) cs → All IsWritable cs
    → All (λ c. length (line_of c) ≤ MAX_LINE) cs → All (λ c. IsLine (line_of c)) cs
other_lines sites [] few h k l = All-nil (λ c. IsLine (line_of c))
other_lines sites (c ∷ cs) few h k l =
    All-cons (λ c. IsLine (line_of c)) c cs
    (record {
      short = All-head (λ c. length (line_of c) ≤ MAX_LINE) c cs l;
      text = others_written sites c few (All-head (IsCommand sites) c cs h) (All-head IsWritable c cs k);
    })
    (other_lines sites cs few (All-tail (IsCommand sites) c cs h) (All-tail IsWritable c cs k)
    (All-tail (λ c. length (line_of c) ≤ MAX_LINE) c cs l))

all_lines : (sites : ℕ) (cs : List Command) → AreCommands sites cs → All IsWritable cs
    → All (λ c. length (line_of c) ≤ MAX_LINE) cs → All (λ c. IsLine (line_of c)) cs
all_lines sites [] h k l = All-nil (λ c. IsLine (line_of c))
all_lines sites (c ∷ cs) h k l =
    All-cons (λ c. IsLine (line_of c)) c cs
    (record {
      short = All-head (λ c. length (line_of c) ≤ MAX_LINE) c cs l;
      text = subst (λ (x : Command). is_text_line (line_of x) ≡ true) (sym h.0) (sites_written sites h.1);
    })
    (other_lines sites cs h.1.1 h.2 (All-tail IsWritable c cs k) (All-tail (λ c. length (line_of c) ≤ MAX_LINE) c cs l))

-- a script that is written is read again
pub read_again : (script : Script) → IsScript script → Spells (spelled script.commands) script
read_again script h =
    let each : All (λ c. IsLine (line_of c)) script.commands =
    all_lines script.sites script.commands h.commands h.texts h.lines in
    let lines : lines_of (spelled script.commands)
    ≡ map line_of script.commands = lines_of_written line_of script.commands each in
    record {
      short = h.short;
      lines = subst (All IsLine) (sym lines) (All-map IsLine line_of script.commands each);
      spelled = ap (filter (λ line. not (is_skipped line))) lines ∙ all_spoken line_of spoken script.commands;
      commands = h.commands;
      fits = h.fits;
    }
