-- Bytes have no fault where they spell a live script, and only there; and the live script is the one that is read.
use Rattle.std.proofs.Common.{◌≡◌, ◌<◌, ◌≤◌, ⊎_elim, ℕ, ltb, List, [], ◌∷◌, ◌++◌, length, sum_by}
use Rattle.std.proofs.Common.{Option, Some, None, Ok, Err, refl, sym, ap, subst, ◌∙◌, append_assoc, append-nil}
use Rattle.std.proofs.Common.{zero-add, arith}
use Rattle.std.proofs.lemmas.Bool.{lt-ltb, le-ltb, cond-true, cond-false, cases_lt}
use Rattle.std.proofs.lemmas.List.FromFn.{length-map-range_with_len}
use Rattle.std.proofs.lemmas.List.Sums.{sum_by-cons}
use Rattle.td_base.specs.declared.site.TheConstants.{MAX_SITE}
use Rattle.td_script.specs.declared.kind.Kind.{Kind}
use Rattle.td_script.specs.declared.kind.Kind.TheVariants as Fault
use Rattle.td_script.specs.declared.live.before.LiveBefore.{LiveBefore}
use Rattle.td_script.specs.declared.live.command.LiveCommand.{LiveCommand}
use Rattle.td_script.specs.declared.live.command.LiveCommand.TheVariants.{Sites}
use Rattle.td_script.specs.declared.live.script.Live.{Live}
use Rattle.td_script.specs.declared.live.script.TheConstants.{MAX_ALL_CALLS, MAX_LIVE_SCRIPT}
use Rattle.td_script.specs.declared.script.TheConstants.{MAX_WIDE_REQUESTS}
use Rattle.td_script.specs.Judging.{Judged, fault_in, judged_each}
use Rattle.td_script.specs.Lines.{lines_of}
use Rattle.td_script.specs.LiveFaults.{first_live_fault, judged_live, live_after, live_judged, live_start}
use Rattle.td_script.specs.LiveScript.{AreDeclared, AreFew, AreLiveCommands, FitsCalls, SpellsLive, calls_of_command}
use Rattle.td_script.specs.LiveScript.{homes_in, lines_at, live_from, live_of}
use Rattle.td_script.specs.LiveSpelling.{live_line_of}
use Rattle.td_script.specs.Script.{IsSiteOf}
use Rattle.td_script.proofs.JudgingLaws.{AreLinesOf, IsLanguage, lines_back, lines_there, same_commands, skipped_there}
use Rattle.td_script.proofs.JudgingLaws as More
use Rattle.td_script.proofs.LiveCommands.{AreLiveOthers, after_is, before_of, last_follows, no_others, others_front}
use Rattle.td_script.proofs.LiveCommands.{others_push}
use Rattle.td_script.proofs.LiveLineLaws.{IsLiveGood, LiveCanStand, LiveFollows, live_begins, live_command_of}
use Rattle.td_script.proofs.LiveLineLaws.{live_follows, live_judged_back, live_judged_there}
use Rattle.td_script.proofs.ScriptLaws.{narrow_back, narrow_there}
use Rattle.td_script.proofs.SharedLaws.{IsSitesFor}

-- ---- what stands before a line

-- what stands before a line is what commands come to, that can stand one behind the other
pub data IsBefore (before : LiveBefore) : Type 0 where
  at_start : before ≡ live_start → IsBefore before
  behind_sites : (sites : ℕ) (others : List LiveCommand) → IsSiteOf MAX_SITE sites → AreLiveOthers sites others
      → before ≡ before_of sites others → IsBefore before

before_good : (sites : ℕ) (others : List LiveCommand) → IsSiteOf MAX_SITE sites → AreLiveOthers sites others
    → IsLiveGood (before_of sites others)
before_good sites others h is = record {
  sites = h.1;
  editors = is.editors;
  pairs = length-map-range_with_len (λ e. lines_at e others) 1 (length (homes_in others));
  calls = is.all;
}

start_good : IsLiveGood live_start
start_good = record { sites = omega arith; editors = omega arith; pairs = refl; calls = omega arith }

pub good_of_before : (before : LiveBefore) → IsBefore before → IsLiveGood before
good_of_before before (at_start e) = subst IsLiveGood (sym e) start_good
good_of_before before (behind_sites sites others h is e) = subst IsLiveGood (sym e) (before_good sites others h is)

after_sites : (size n : ℕ) → IsSitesFor size n → IsBefore (live_after live_start (Sites n))
after_sites size n fits = behind_sites n [] fits.range (no_others n) refl

-- a command that follows what commands come to
follows_them : (sites : ℕ) (others : List LiveCommand) (c : LiveCommand) → IsSiteOf MAX_SITE sites
    → AreLiveOthers sites others → LiveFollows (before_of sites others) c
    → IsBefore (live_after (before_of sites others) c)
follows_them sites others c h is follows =
    behind_sites sites (others ++ c ∷ []) h (others_push sites others c is follows)
    (after_is sites others c is.declared follows)

pub before_after : (size : ℕ) (before : LiveBefore) (c : LiveCommand) → IsBefore before → LiveCanStand size before c
    → IsBefore (live_after before c)
before_after size before c (at_start e) (live_begins n same none fits) =
    subst (λ (b : LiveBefore). IsBefore (live_after b c)) (sym e)
    (subst (λ (x : LiveCommand). IsBefore (live_after live_start x)) (sym same) (after_sites size n fits))
before_after size before c (at_start e) (live_follows is) =
    let none : before.sites ≡ 0 = ap (λ (b : LiveBefore). b.sites) e in absurd (omega (arith, is.some))
before_after size before c (behind_sites sites others h is e) (live_begins n same none fits) =
    let some : before.sites ≡ sites = ap (λ (b : LiveBefore). b.sites) e in absurd (omega (arith, h.0))
before_after size before c (behind_sites sites others h is e) (live_follows follows) =
    subst (λ (b : LiveBefore). IsBefore (live_after b c)) (sym e)
    (follows_them sites others c h is (subst (λ (b : LiveBefore). LiveFollows b c) e follows))

-- the language of live scripts of so many bytes
pub live_language : (size : ℕ)
    → IsLanguage (live_judged size) live_after live_line_of IsBefore (λ before c. LiveCanStand size before c)
live_language size = record {
  back = λ before line o is e. live_judged_back size before line o (good_of_before before is) e;
  skips = λ before line is e. skipped_there (live_command_of size before) line is e;
  there = λ before c is stands line. live_judged_there size before c (good_of_before before is) stands line;
  good = λ before c is stands. before_after size before c is stands;
}

-- ---- commands one behind the other

-- the commands can stand one behind the other
abbrev pub AreMore : ℕ → LiveBefore → List LiveCommand → Type 0
AreMore size = More.AreMore live_after (λ before c. LiveCanStand size before c)

-- and what they come to
abbrev pub after_all : LiveBefore → List LiveCommand → LiveBefore
after_all = More.after_all live_after

follows_of : (size sites : ℕ) (front : List LiveCommand) (c : LiveCommand) → 1 ≤ sites
    → LiveCanStand size (before_of sites front) c → LiveFollows (before_of sites front) c
follows_of size sites front c some (live_begins n e none fits) = absurd (omega arith)
follows_of size sites front c some (live_follows is) = is

-- commands behind others are limited together with them
record ComesTo (sites : ℕ) (front cs : List LiveCommand) : Type 0 where
  are : AreLiveOthers sites (front ++ cs)
  whole : after_all (before_of sites front) cs ≡ before_of sites (front ++ cs)

more_back : (size sites : ℕ) (front cs : List LiveCommand) → 1 ≤ sites → AreLiveOthers sites front
    → AreMore size (before_of sites front) cs → ComesTo sites front cs
more_back size sites front [] some is h = record {
  are = subst (AreLiveOthers sites) (sym (append-nil front)) is;
  whole = ap (before_of sites) (sym (append-nil front));
}
more_back size sites front (c ∷ cs) some is h =
    let follows = follows_of size sites front c some h.0 in
    let after = after_is sites front c is.declared follows in
    let others = more_back size sites (front ++ c ∷ []) cs some (others_push sites front c is follows)
    (subst (λ (b : LiveBefore). AreMore size b cs) after h.1) in
    let assoc : (front ++ c ∷ []) ++ cs ≡ front ++ c ∷ cs = append_assoc front (c ∷ []) cs in
    record {
      are = subst (AreLiveOthers sites) assoc others.are;
      whole = ap (λ (b : LiveBefore). after_all b cs) after ∙ others.whole ∙ ap (before_of sites) assoc;
    }

more_there : (size sites : ℕ) (front cs : List LiveCommand) → 1 ≤ sites → AreLiveOthers sites (front ++ cs)
    → AreMore size (before_of sites front) cs
more_there size sites front [] some is = tt
more_there size sites front (c ∷ cs) some is =
    let assoc : (front ++ c ∷ []) ++ cs ≡ front ++ c ∷ cs = append_assoc front (c ∷ []) cs in
    let all : AreLiveOthers sites ((front ++ c ∷ []) ++ cs) = subst (AreLiveOthers sites) (sym assoc) is in
    let ones : AreLiveOthers sites (front ++ c ∷ []) = others_front sites (front ++ c ∷ []) cs all in
    let here : AreLiveOthers sites front = others_front sites front (c ∷ []) ones in
    let follows = last_follows sites front c some ones in (
      live_follows follows,
      subst (λ (b : LiveBefore). AreMore size b cs) (sym (after_is sites front c here.declared follows))
          (more_there size sites (front ++ c ∷ []) cs some all),
    )

-- a live script of commands that can stand one behind the other
record IsLiveOf (size : ℕ) (cs : List LiveCommand) (before : LiveBefore) : Type 0 where
  sites : ℕ
  others : List LiveCommand
  each : cs ≡ Sites sites ∷ others
  fits : IsSitesFor size sites
  are : AreLiveOthers sites others
  whole : before ≡ before_of sites others

start_back : (size : ℕ) (c : LiveCommand) (cs : List LiveCommand) → AreMore size live_start (c ∷ cs)
    → IsLiveOf size (c ∷ cs) (after_all live_start (c ∷ cs))
start_back size c cs h = go h.0 h.1
  where
    go : LiveCanStand size live_start c → AreMore size (live_after live_start c) cs
        → IsLiveOf size (c ∷ cs) (after_all live_start (c ∷ cs))
    go (live_follows is) more = absurd (omega (arith, is.some))
    go (live_begins n e none fits) more =
        let others = more_back size n [] cs fits.range.0 (no_others n)
        (subst (λ (x : LiveCommand). AreMore size (live_after live_start x) cs) e more) in
        record {
          sites = n;
          others = cs;
          each = ap (λ (x : LiveCommand). x ∷ cs) e;
          fits = fits;
          are = others.are;
          whole = ap (λ (x : LiveCommand). after_all (live_after live_start x) cs) e ∙ others.whole;
        }

-- what the first command adds to the sums is nothing
sites_add_nothing : (n : ℕ) (others : List LiveCommand)
    → sum_by calls_of_command (Sites n ∷ others) ≡ sum_by calls_of_command others
sites_add_nothing n others = sum_by-cons calls_of_command (Sites n) others ∙ zero-add (sum_by calls_of_command others)

-- ---- bytes

judged_all : (bytes : List ℕ) → length bytes ≤ MAX_LIVE_SCRIPT
    → judged_live bytes ≡ judged_each (live_judged (length bytes)) live_after 1 (lines_of bytes) live_start
judged_all bytes short =
    cond-false {A = Judged LiveCommand} (ltb MAX_LIVE_SCRIPT (length bytes)) (Err (0, Fault.Size))
    (judged_each (live_judged (length bytes)) live_after 1 (lines_of bytes) live_start)
    (le-ltb MAX_LIVE_SCRIPT (length bytes) short)

commands_there : (size : ℕ) (cs : List LiveCommand) (sites : ℕ) → AreLiveCommands sites cs
    → ((n : ℕ) (others : List LiveCommand) → cs ≡ Sites n ∷ others → IsSitesFor size n × AreLiveOthers n others)
    → AreMore size live_start cs
commands_there size [] sites are h = tt
commands_there size (c ∷ cs) sites are h =
    let is = h sites cs (ap (λ (x : LiveCommand). x ∷ cs) are.0) in (
      live_begins sites are.0 refl is.0,
      subst (λ (x : LiveCommand). AreMore size (live_after live_start x) cs) (sym are.0)
          (more_there size sites [] cs are.1.0 is.1),
    )

sites_same : (sites : ℕ) (cs others : List LiveCommand) (n : ℕ) → AreLiveCommands sites cs → cs ≡ Sites n ∷ others
    → n ≡ sites
sites_same sites [] others n are e = absurd (none_is_no_more e)
  where
    none_is_no_more : ◌≡◌ {A = List LiveCommand} [] (Sites n ∷ others) → ⊥
    none_is_no_more e = cc
sites_same sites (c ∷ cs) others n are e = number_same (first_same e ∙ are.0)
  where
    first_same : c ∷ cs ≡ Sites n ∷ others → Sites n ≡ c
    first_same e = cc

    number_same : Sites n ≡ Sites sites → n ≡ sites
    number_same e = cc

-- the limits of a live script are those of the commands behind `sites`
limits_at : (size sites n : ℕ) (others : List LiveCommand) → AreLiveCommands sites (Sites n ∷ others)
    → AreDeclared 0 (Sites n ∷ others) → AreFew (Sites n ∷ others) → FitsCalls size sites (Sites n ∷ others)
    → IsSitesFor size n × AreLiveOthers n others
limits_at size sites n others are declared few fits =
    let same : sites ≡ n = sym (sites_same sites (Sites n ∷ others) others n are refl) in
    subst (λ (m : ℕ). IsSitesFor size m × AreLiveOthers m others) same (
      record { range = are.1; narrow = narrow_there size sites fits.small },
      record {
        each = are.2;
        declared = declared.1;
        turns = few.turns;
        losses = few.losses;
        editors = few.editors;
        requests = λ wide. subst (λ (sum : ℕ). sum ≤ MAX_WIDE_REQUESTS) (sites_add_nothing n others)
            (fits.requests wide);
        own = fits.each;
        all = subst (λ (sum : ℕ). sum ≤ MAX_ALL_CALLS) (sites_add_nothing n others) fits.all;
      },
    )

limits_there : (size sites : ℕ) (cs : List LiveCommand) → AreLiveCommands sites cs → AreDeclared 0 cs → AreFew cs
    → FitsCalls size sites cs → (n : ℕ) (others : List LiveCommand) → cs ≡ Sites n ∷ others
    → IsSitesFor size n × AreLiveOthers n others
limits_there size sites cs are declared few fits n others e =
    limits_at size sites n others (subst (AreLiveCommands sites) e are) (subst (AreDeclared 0) e declared)
    (subst AreFew e few) (subst (FitsCalls size sites) e fits)

-- bytes that spell a live script are read as its commands
pub judged_of_spelled : (bytes : List ℕ) (live : Live) (h : SpellsLive bytes live) → judged_live bytes ≡ Ok h.of
judged_of_spelled bytes live h =
    judged_all bytes h.short
    ∙ lines_there (live_judged (length bytes)) live_after live_line_of IsBefore
    (λ before c. LiveCanStand (length bytes) before c) (live_language (length bytes)) 1 (lines_of bytes) live_start h.of
    (at_start refl) (record {
      each = h.lines;
      spelled = h.spelled;
      more = commands_there (length bytes) h.of live.sites h.commands
          (limits_there (length bytes) live.sites h.of h.commands h.declared h.few h.fits);
    })

-- a live script has no fault
pub no_live_fault : (bytes : List ℕ) (live : Live) → SpellsLive bytes live → first_live_fault bytes ≡ None
no_live_fault bytes live h = ap fault_in (judged_of_spelled bytes live h)

-- ---- what is read

-- the commands that were read spell what they come to
nothing_spelled : (bytes : List ℕ) → length bytes ≤ MAX_LIVE_SCRIPT
    → AreLinesOf live_after live_line_of (λ before c. LiveCanStand (length bytes) before c) live_start
    (lines_of bytes) []
    → SpellsLive bytes (live_of 0 [])
nothing_spelled bytes short lines = record {
  of = [];
  short = short;
  lines = lines.each;
  spelled = lines.spelled;
  commands = refl;
  declared = tt;
  few = record { turns = omega arith; losses = omega arith; editors = omega arith };
  fits = record { small = λ h. omega arith; requests = λ h. omega arith; each = λ e. omega arith; all = omega arith };
  whole = refl;
}

some_spelled : (bytes : List ℕ) (n : ℕ) (others : List LiveCommand) → length bytes ≤ MAX_LIVE_SCRIPT
    → AreLinesOf live_after live_line_of (λ before c. LiveCanStand (length bytes) before c) live_start (lines_of bytes)
    (Sites n ∷ others) → IsSitesFor (length bytes) n → AreLiveOthers n others → SpellsLive bytes (live_of n others)
some_spelled bytes n others short lines fits are = record {
  of = Sites n ∷ others;
  short = short;
  lines = lines.each;
  spelled = lines.spelled;
  commands = (refl, fits.range, are.each);
  declared = (tt, are.declared);
  few = record { turns = are.turns; losses = are.losses; editors = are.editors };
  fits = record {
    small = narrow_back (length bytes) n fits.narrow;
    requests = λ wide. subst (λ (sum : ℕ). sum ≤ MAX_WIDE_REQUESTS) (sym (sites_add_nothing n others))
        (are.requests wide);
    each = are.own;
    all = subst (λ (sum : ℕ). sum ≤ MAX_ALL_CALLS) (sym (sites_add_nothing n others)) are.all;
  };
  whole = refl;
}

-- the live script that what stands before a line comes to
abbrev pub live_before : LiveBefore → Live
live_before before = live_from before.sites before.turns before.loss before.homes before.lines

lines_spelled : (bytes : List ℕ) (cs : List LiveCommand) → length bytes ≤ MAX_LIVE_SCRIPT
    → AreLinesOf live_after live_line_of (λ before c. LiveCanStand (length bytes) before c) live_start
    (lines_of bytes) cs
    → SpellsLive bytes (live_before (after_all live_start cs))
lines_spelled bytes [] short lines = nothing_spelled bytes short lines
lines_spelled bytes (c ∷ cs) short lines =
    let is = start_back (length bytes) c cs lines.more in
    subst (λ (b : LiveBefore). SpellsLive bytes (live_before b)) (sym is.whole)
    (some_spelled bytes is.sites is.others short
    (subst (AreLinesOf live_after live_line_of (λ before c. LiveCanStand (length bytes) before c) live_start
    (lines_of bytes)) is.each lines) is.fits is.are)

pub spelled_of_live_lines : (bytes : List ℕ) (cs : List LiveCommand) → length bytes ≤ MAX_LIVE_SCRIPT
    → judged_each (live_judged (length bytes)) live_after 1 (lines_of bytes) live_start ≡ Ok cs
    → SpellsLive bytes (live_before (after_all live_start cs))
spelled_of_live_lines bytes cs short e =
    lines_spelled bytes cs short
    (lines_back (live_judged (length bytes)) live_after live_line_of IsBefore
    (λ before c. LiveCanStand (length bytes) before c) (live_language (length bytes)) 1 (lines_of bytes) live_start cs
    (at_start refl) e)

-- bytes spell one live script at most
pub live_unique : (bytes : List ℕ) (s t : Live) → SpellsLive bytes s → SpellsLive bytes t → s ≡ t
live_unique bytes s t h k =
    let same : h.of ≡ k.of = same_commands h.of k.of (sym (judged_of_spelled bytes s h) ∙ judged_of_spelled bytes t k)
    in
    let sites : s.sites ≡ t.sites = same_sites s.sites t.sites k.of (subst (AreLiveCommands s.sites) same h.commands)
    k.commands in
    h.whole ∙ (λ i. live_of (sites i) (same i)) ∙ sym k.whole
  where
    same_sites : (x y : ℕ) (cs : List LiveCommand) → AreLiveCommands x cs → AreLiveCommands y cs → x ≡ y
    same_sites x y [] h h' = h ∙ sym h'
    same_sites x y (c ∷ cs) h h' = number_same (sym h.0 ∙ h'.0)
      where
        number_same : Sites x ≡ Sites y → x ≡ y
        number_same e = cc

-- bytes that are no live script have a fault
fault_at : (bytes : List ℕ) (r : Judged LiveCommand) → length bytes ≤ MAX_LIVE_SCRIPT
    → judged_each (live_judged (length bytes)) live_after 1 (lines_of bytes) live_start ≡ r → fault_in r ≡ None
    → (live : Live) × SpellsLive bytes live
fault_at bytes (Ok cs) short e h =
    (live_before (after_all live_start cs), spelled_of_live_lines bytes cs short e)
fault_at bytes (Err fault) short e h = absurd (some_is_not_none h)
  where
    some_is_not_none : ◌≡◌ {A = Option (ℕ × Kind)} (Some fault) None → ⊥
    some_is_not_none e = cc

pub live_of_no_fault : (bytes : List ℕ) → first_live_fault bytes ≡ None → (live : Live) × SpellsLive bytes live
live_of_no_fault bytes h =
    ⊎_elim
    (λ (long : MAX_LIVE_SCRIPT < length bytes). absurd (some_is_not_none (sym (ap fault_in
    (cond-true {A = Judged LiveCommand} (ltb MAX_LIVE_SCRIPT (length bytes)) (Err (0, Fault.Size))
    (judged_each (live_judged (length bytes)) live_after 1 (lines_of bytes) live_start)
    (lt-ltb MAX_LIVE_SCRIPT (length bytes) long))) ∙ h)))
    (λ (short : length bytes ≤ MAX_LIVE_SCRIPT). fault_at bytes
    (judged_each (live_judged (length bytes)) live_after 1 (lines_of bytes) live_start) short refl
    (sym (ap fault_in (judged_all bytes short)) ∙ h))
    (cases_lt MAX_LIVE_SCRIPT (length bytes))
  where
    some_is_not_none : ◌≡◌ {A = Option (ℕ × Kind)} (Some (0, Fault.Size)) None → ⊥
    some_is_not_none e = cc
