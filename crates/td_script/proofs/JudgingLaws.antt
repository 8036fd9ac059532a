-- Laws of judging that hold of each language: a line is judged to say a command where it is the line of a command that
-- can stand there, and lines one after another.
use Rattle.std.proofs.Common.{◌≡◌, ◌≤◌, ◌+◌, ℕ, Bool, true, false, cond, not, ltb, List, [], ◌∷◌, ◌++◌, length, All}
use Rattle.std.proofs.Common.{filter, map, Option, Some, None, Result, Ok, Err, refl, sym, ap, subst, ◌∙◌}
use Rattle.std.proofs.Common.{append_assoc, append-nil, IsUtf8, arith}
use Rattle.std.specs.Bool.{⊤}
use Rattle.std.specs.Char.{is_ascii_control}
use Rattle.std.specs.List.{flat_map, list_any}
use Rattle.std.specs.Str.{is_utf8}
use Rattle.std.proofs.lemmas.Bool.{both_ways, ltb-false, le-ltb, cond-true, cond-false}
use Rattle.std.proofs.lemmas.Bool.{and_parts, not-true, not_from_true}
use Rattle.std.proofs.lemmas.List.Folds.{list_any_at}
use Rattle.std.proofs.lemmas.List.Elements.{All-nil, All-cons, All-head, All-tail}
use Rattle.std.proofs.lemmas.Str.{IsUtf8-from_is_utf8}
use Rattle.td_script.specs.declared.kind.Kind.{Kind}
use Rattle.td_script.specs.declared.kind.Kind.TheVariants as Fault
use Rattle.td_script.specs.declared.script.TheConstants.{MAX_LINE}
use Rattle.td_script.specs.Characters.{line_feed}
use Rattle.td_script.specs.Judging.{Judged, go_on, heard, judged_each, judged_line, onto_commands, said, said_of}
use Rattle.td_script.specs.Lines.{is_skipped, is_text_line, lines_of}
use Rattle.td_script.specs.Script.{IsLine}
use Rattle.td_script.proofs.Cutting.{line_cut}
use Rattle.td_script.proofs.Results.{ok_same, err_is_no_ok}
use Rattle.td_script.proofs.Splitting.{Lacks}

-- ---- one line

-- lines of UTF-8 without control characters
pub text_parts : (line : List ℕ) → is_text_line line ≡ true → (list_any is_ascii_control line ≡ false) × IsUtf8 line
text_parts line h =
    let parts : (not (list_any is_ascii_control line) ≡ true) × (is_utf8 line ≡ true) =
    and_parts (not (list_any is_ascii_control line)) (is_utf8 line) h in
    (not-true (list_any is_ascii_control line) parts.0, IsUtf8-from_is_utf8 line parts.1)

pub lacks_lf : (line : List ℕ) → list_any is_ascii_control line ≡ false → Lacks 10 line
lacks_lf line h = λ i d inside e.
    both_ways (list_any is_ascii_control line) h
    (list_any_at is_ascii_control line i d inside (subst (λ (b : ℕ). is_ascii_control b ≡ true) (sym e) refl))

-- what was judged of a line
pub data IsJudged {C : Type 0} (line_of : C → List ℕ) (Stands : C → Type 0) (line : List ℕ) (o : Option C) : Type 0
  where
    says_nothing : IsLine line → is_skipped line ≡ true → o ≡ None → IsJudged line_of Stands line o
    says : IsLine line → is_skipped line ≡ false → (c : C) → o ≡ Some c → line ≡ line_of c → Stands c
        → IsJudged line_of Stands line o

said_back : {C : Type 0} (r : Result C Kind) (o : Option C) → said r ≡ Ok o → (c : C) × (r ≡ Ok c) × (o ≡ Some c)
said_back (Ok c) o e = (c, refl, sym (ok_same (Some c) o e))
said_back (Err kind) o e = absurd (err_is_no_ok kind o e)

-- what a text that is read as a command is
abbrev pub ReadsLine : {C : Type 0} → (C → List ℕ) → (C → Type 0) → (List ℕ → Result C Kind) → Type 0
ReadsLine {C} line_of Stands read = (line : List ℕ) (c : C) → IsUtf8 line → Lacks 10 line → read line ≡ Ok c
    → (line ≡ line_of c) × Stands c

judged_at : {C : Type 0} (line_of : C → List ℕ) (Stands : C → Type 0) (read : List ℕ → Result C Kind) (line : List ℕ)
    (o : Option C) (long text skipped : Bool) → ReadsLine line_of Stands read
    → ltb MAX_LINE (length line) ≡ long → is_text_line line ≡ text → is_skipped line ≡ skipped
    → said_of read (cond {A = Result (Option (List ℕ)) Kind} long (Err Fault.Long)
    (cond {A = Result (Option (List ℕ)) Kind} (not text) (Err Fault.Bytes)
    (cond {A = Result (Option (List ℕ)) Kind} skipped (Ok None) (Ok (Some line))))) ≡ Ok o
    → IsJudged line_of Stands line o
judged_at line_of Stands read line o true text skipped reads f g h e = absurd (err_is_no_ok Fault.Long o e)
judged_at line_of Stands read line o false false skipped reads f g h e = absurd (err_is_no_ok Fault.Bytes o e)
judged_at line_of Stands read line o false true true reads f g h e =
    says_nothing (record { short = ltb-false MAX_LINE (length line) f; text = g }) h (sym (ok_same None o e))
judged_at line_of Stands read line o false true false reads f g h e =
    let got = said_back (read line) o e in
    let parts = text_parts line g in
    let is = reads line got.0 parts.1 (lacks_lf line parts.0) got.1 in
    says (record { short = ltb-false MAX_LINE (length line) f; text = g }) h got.0 got.2 is.0 is.1

pub judged_line_back : {C : Type 0} (line_of : C → List ℕ) (Stands : C → Type 0) (read : List ℕ → Result C Kind)
    → ReadsLine line_of Stands read → (line : List ℕ) (o : Option C)
    → judged_line read line ≡ Ok o → IsJudged line_of Stands line o
judged_line_back line_of Stands read reads line o e =
    judged_at line_of Stands read line o (ltb MAX_LINE (length line)) (is_text_line line) (is_skipped line) reads
    refl refl refl e

-- a line that is one is judged further
heard_there : (line : List ℕ) → IsLine line
    → heard line ≡ cond {A = Result (Option (List ℕ)) Kind} (is_skipped line) (Ok None) (Ok (Some line))
heard_there line h =
    let more = cond {A = Result (Option (List ℕ)) Kind} (is_skipped line) (Ok None) (Ok (Some line)) in
    cond-false {A = Result (Option (List ℕ)) Kind} (ltb MAX_LINE (length line)) (Err Fault.Long)
    (cond {A = Result (Option (List ℕ)) Kind} (not (is_text_line line)) (Err Fault.Bytes) more)
    (le-ltb MAX_LINE (length line) h.short)
    ∙ cond-false {A = Result (Option (List ℕ)) Kind} (not (is_text_line line)) (Err Fault.Bytes) more
    (not_from_true (is_text_line line) h.text)

pub skipped_there : {C : Type 0} (read : List ℕ → Result C Kind) (line : List ℕ) → IsLine line
    → is_skipped line ≡ true → judged_line read line ≡ Ok None
skipped_there read line h e =
    ap (said_of read) (heard_there line h ∙ cond-true {A = Result (Option (List ℕ)) Kind} (is_skipped line) (Ok None)
    (Ok (Some line)) e)

pub judged_line_there : {C : Type 0} (read : List ℕ → Result C Kind) (line : List ℕ) (c : C) → IsLine line
    → is_skipped line ≡ false → read line ≡ Ok c → judged_line read line ≡ Ok (Some c)
judged_line_there read line c h spoken e =
    ap (said_of read) (heard_there line h ∙ cond-false {A = Result (Option (List ℕ)) Kind} (is_skipped line) (Ok None)
    (Ok (Some line)) spoken) ∙ ap said e

-- ---- lines one after another

-- what a language is, as far as lines are judged one after another
pub record IsLanguage {B C : Type 0} (judge : B → List ℕ → Result (Option C) Kind) (after : B → C → B)
    (line_of : C → List ℕ) (IsGood : B → Type 0) (CanStand : B → C → Type 0) : Type 0 where
  -- what is read stands there
  pub back : (before : B) (line : List ℕ) (o : Option C) → IsGood before → judge before line ≡ Ok o
      → IsJudged line_of (CanStand before) line o
  -- a line that says nothing is passed over
  pub skips : (before : B) (line : List ℕ) → IsLine line → is_skipped line ≡ true → judge before line ≡ Ok None
  -- what can stand there is read
  pub there : (before : B) (c : C) → IsGood before → CanStand before c → IsLine (line_of c)
      → judge before (line_of c) ≡ Ok (Some c)
  -- and what stands before the next line is good again
  pub good : (before : B) (c : C) → IsGood before → CanStand before c → IsGood (after before c)

-- the commands can stand one behind the other
abbrev pub AreMore : {B C : Type 0} → (B → C → B) → (B → C → Type 0) → B → List C → Type 0
AreMore after CanStand before [] = ⊤
AreMore after CanStand before (c ∷ cs) = CanStand before c × AreMore after CanStand (after before c) cs

-- lines that say these commands
pub record AreLinesOf {B C : Type 0} (after : B → C → B) (line_of : C → List ℕ) (CanStand : B → C → Type 0)
    (before : B) (lines : List (List ℕ)) (cs : List C) : Type 0 where
  pub each : All IsLine lines
  pub spelled : filter (λ line. not (is_skipped line)) lines ≡ map line_of cs
  pub more : AreMore after CanStand before cs

pub same_commands : {C : Type 0} (xs ys : List C) → ◌≡◌ {A = Judged C} (Ok xs) (Ok ys) → xs ≡ ys
same_commands xs ys e = cc

fault_is_no_read : {C : Type 0} (fault : ℕ × Kind) (cs : List C) → ◌≡◌ {A = Judged C} (Err fault) (Ok cs) → ⊥
fault_is_no_read fault cs e = cc

onto_back : {C : Type 0} (c : C) (r : Judged C) (cs : List C) → onto_commands c r ≡ Ok cs
    → (others : List C) × (r ≡ Ok others) × (cs ≡ c ∷ others)
onto_back c (Ok others) cs e = (others, refl, sym (same_commands (c ∷ others) cs e))
onto_back c (Err fault) cs e = absurd (fault_is_no_read fault cs e)

some_is_not_none : {C : Type 0} (c : C) → ◌≡◌ {A = Option C} (Some c) None → ⊥
some_is_not_none c e = cc

some_same : {C : Type 0} (c x : C) → ◌≡◌ {A = Option C} (Some c) (Some x) → x ≡ c
some_same c x e = cc

pub filter_spoken : (line : List ℕ) (lines : List (List ℕ)) → is_skipped line ≡ false
    → filter (λ line. not (is_skipped line)) (line ∷ lines) ≡ line ∷ filter (λ line. not (is_skipped line)) lines
filter_spoken line lines e = cond-true (not (is_skipped line)) (line ∷ filter (λ line. not (is_skipped line)) lines)
    (filter (λ line. not (is_skipped line)) lines) (ap not e)

filter_skipped : (line : List ℕ) (lines : List (List ℕ)) → is_skipped line ≡ true
    → filter (λ line. not (is_skipped line)) (line ∷ lines) ≡ filter (λ line. not (is_skipped line)) lines
filter_skipped line lines e = cond-false (not (is_skipped line)) (line ∷ filter (λ line. not (is_skipped line)) lines)
    (filter (λ line. not (is_skipped line)) lines) (ap not e)

no_lines : {C : Type 0} (line_of : C → List ℕ) (c : C) (cs : List C)
    → ◌≡◌ {A = List (List ℕ)} [] (line_of c ∷ map line_of cs) → ⊥
no_lines line_of c cs e = cc

no_commands : (line : List ℕ) (lines : List (List ℕ)) → ◌≡◌ {A = List (List ℕ)} (line ∷ lines) [] → ⊥
no_commands line lines e = cc

first_same : (x y : List ℕ) (xs ys : List (List ℕ)) → x ∷ xs ≡ y ∷ ys → (x ≡ y) × (xs ≡ ys)
first_same x y xs ys e = (cc, cc)

module _ {B C : Type 0} (judge : B → List ℕ → Result (Option C) Kind) (after : B → C → B) (line_of : C → List ℕ)
    (IsGood : B → Type 0) (CanStand : B → C → Type 0) (language : IsLanguage judge after line_of IsGood CanStand) where
  -- what the other lines say, behind each state
  abbrev ReadsBack : ℕ → List (List ℕ) → Type 0
  ReadsBack number lines = (before : B) (cs : List C) → IsGood before
      → judged_each judge after number lines before ≡ Ok cs → AreLinesOf after line_of CanStand before lines cs

  silent_back : (line : List ℕ) (lines : List (List ℕ)) (before : B) (cs : List C)
      → IsJudged line_of (CanStand before) line None
      → AreLinesOf after line_of CanStand before lines cs → AreLinesOf after line_of CanStand before (line ∷ lines) cs
  silent_back line lines before cs (says_nothing is skipped same) others = record {
    each = All-cons IsLine line lines is others.each;
    spelled = filter_skipped line lines skipped ∙ others.spelled;
    more = others.more;
  }
  silent_back line lines before cs (says is said c same whole stands) others = absurd (some_is_not_none c (sym same))

  stands_there : (line : List ℕ) (before : B) (c : C) → IsJudged line_of (CanStand before) line (Some c)
      → CanStand before c
  stands_there line before c (says_nothing is skipped same) = absurd (some_is_not_none c same)
  stands_there line before c (says is said x same whole stands) = subst (CanStand before) (some_same c x same) stands

  spoken_back : (line : List ℕ) (lines : List (List ℕ)) (before : B) (c : C) (cs : List C)
      → IsJudged line_of (CanStand before) line (Some c)
      → AreLinesOf after line_of CanStand (after before c) lines cs
      → AreLinesOf after line_of CanStand before (line ∷ lines) (c ∷ cs)
  spoken_back line lines before c cs (says_nothing is skipped same) others = absurd (some_is_not_none c same)
  spoken_back line lines before c cs (says is said x same whole stands) others = record {
    each = All-cons IsLine line lines is others.each;
    spelled = filter_spoken line lines said ∙ ap (λ (xs : List (List ℕ)). line ∷ xs) others.spelled
        ∙ ap (λ (l : List ℕ). l ∷ map line_of cs) (whole ∙ ap line_of (some_same c x same));
    more = (subst (CanStand before) (some_same c x same) stands, others.more);
  }

  go_back : (number : ℕ) (line : List ℕ) (lines : List (List ℕ)) (before : B) (cs : List C)
      (r : Result (Option C) Kind) → ReadsBack (number + 1) lines → IsGood before → judge before line ≡ r
      → go_on after number before (judged_each judge after (number + 1) lines) r ≡ Ok cs
      → AreLinesOf after line_of CanStand before (line ∷ lines) cs
  go_back number line lines before cs (Err kind) ih good h e = absurd (fault_is_no_read (number, kind) cs e)
  go_back number line lines before cs (Ok None) ih good h e =
      silent_back line lines before cs (language.back before line None good h) (ih before cs good e)
  go_back number line lines before cs (Ok (Some c)) ih good h e =
      let is = language.back before line (Some c) good h in
      let got = onto_back c (judged_each judge after (number + 1) lines (after before c)) cs e in
      let others = ih (after before c) got.0 (language.good before c good (stands_there line before c is)) got.1 in
      subst (AreLinesOf after line_of CanStand before (line ∷ lines)) (sym got.2)
      (spoken_back line lines before c got.0 is others)

  -- lines that are read without a fault are those of the commands
  pub lines_back : (number : ℕ) (lines : List (List ℕ)) → ReadsBack number lines
  lines_back number [] before cs good e =
      subst (AreLinesOf after line_of CanStand before []) (same_commands [] cs e)
      (record { each = All-nil IsLine; spelled = refl; more = tt })
  lines_back number (line ∷ lines) before cs good e =
      go_back number line lines before cs (judge before line) (lines_back (number + 1) lines) good refl e

  abbrev ReadsThere : ℕ → List (List ℕ) → Type 0
  ReadsThere number lines = (before : B) (cs : List C) → IsGood before
      → AreLinesOf after line_of CanStand before lines cs → judged_each judge after number lines before ≡ Ok cs

  go_there : (number : ℕ) (line : List ℕ) (lines : List (List ℕ)) (before : B) (cs : List C) → IsGood before
      → AreLinesOf after line_of CanStand before (line ∷ lines) cs → (skipped : Bool) → is_skipped line ≡ skipped
      → ReadsThere (number + 1) lines
      → go_on after number before (judged_each judge after (number + 1) lines) (judge before line) ≡ Ok cs
  go_there number line lines before cs good h true e ih =
      ap (go_on after number before (judged_each judge after (number + 1) lines))
      (language.skips before line (All-head IsLine line lines h.each) e)
      ∙ ih before cs good (record {
        each = All-tail IsLine line lines h.each;
        spelled = sym (filter_skipped line lines e) ∙ h.spelled;
        more = h.more;
      })
  go_there number line lines before [] good h false e ih =
      absurd (no_commands line (filter (λ line. not (is_skipped line)) lines)
      (sym (filter_spoken line lines e) ∙ h.spelled))
  go_there number line lines before (c ∷ cs) good h false e ih =
      let same = first_same line (line_of c) (filter (λ line. not (is_skipped line)) lines) (map line_of cs)
      (sym (filter_spoken line lines e) ∙ h.spelled) in
      let is : IsLine (line_of c) = subst IsLine same.0 (All-head IsLine line lines h.each) in
      let says_it : judge before line ≡ Ok (Some c) =
      ap (judge before) same.0 ∙ language.there before c good h.more.0 is in
      ap (go_on after number before (judged_each judge after (number + 1) lines)) says_it
      ∙ ap (onto_commands c) (ih (after before c) cs (language.good before c good h.more.0)
      (record { each = All-tail IsLine line lines h.each; spelled = same.1; more = h.more.1 }))

  -- and the lines of commands that can stand one behind the other are read without a fault
  pub lines_there : (number : ℕ) (lines : List (List ℕ)) → ReadsThere number lines
  lines_there number [] before [] good h = refl
  lines_there number [] before (c ∷ cs) good h = absurd (no_lines line_of c cs h.spelled)
  lines_there number (line ∷ lines) before cs good h =
      go_there number line lines before cs good h (is_skipped line) refl (lines_there (number + 1) lines)

-- what stands before the line behind all these commands
abbrev pub after_all : {B C : Type 0} → (B → C → B) → B → List C → B
after_all after before [] = before
after_all after before (c ∷ cs) = after_all after (after before c) cs

pub after_push : {B C : Type 0} (after : B → C → B) (before : B) (cs : List C) (c : C)
    → after_all after before (cs ++ c ∷ []) ≡ after (after_all after before cs) c
after_push after before [] c = refl
after_push after before (first ∷ cs) c = after_push after (after before first) cs c

-- ---- lines as they are read

-- commands that were read before the others
abbrev pub onto_all : {C : Type 0} → List C → Judged C → Judged C
onto_all cs (Ok more) = Ok (cs ++ more)
onto_all cs (Err fault) = Err fault

onto_push : {C : Type 0} (cs : List C) (c : C) (r : Judged C)
    → onto_all cs (onto_commands c r) ≡ onto_all (cs ++ c ∷ []) r
onto_push {C} cs c (Ok more) = ap (λ (xs : List C). Ok xs) (sym (append_assoc cs (c ∷ []) more))
onto_push cs c (Err fault) = refl

onto_none : {C : Type 0} (r : Judged C) → r ≡ onto_all [] r
onto_none (Ok cs) = refl
onto_none (Err fault) = refl

-- what is read of all lines, where these commands were read of those before
pub record IsReadTo {B C : Type 0} (judge : B → List ℕ → Result (Option C) Kind) (after : B → C → B)
    (IsGood : B → Type 0) (start : B) (bytes rest : List ℕ) (cs : List C) (before : B) (number : ℕ) : Type 0 where
  pub whole : judged_each judge after 1 (lines_of bytes) start
      ≡ onto_all cs (judged_each judge after (number + 1) (lines_of rest) before)
  pub before_is : before ≡ after_all after start cs
  pub good : IsGood before

module _ {B C : Type 0} (judge : B → List ℕ → Result (Option C) Kind) (after : B → C → B) (line_of : C → List ℕ)
    (IsGood : B → Type 0) (CanStand : B → C → Type 0) (start : B)
    (language : IsLanguage judge after line_of IsGood CanStand) where
  abbrev IsRead : (bytes rest : List ℕ) (cs : List C) (before : B) (number : ℕ) → Type 0
  IsRead = IsReadTo judge after IsGood start

  pub nothing_read : (bytes : List ℕ) → IsGood start → IsRead bytes bytes [] start 0
  nothing_read bytes good = record {
    whole = onto_none (judged_each judge after 1 (lines_of bytes) start);
    before_is = refl;
    good = good;
  }

  -- what comes of the next line
  next_line : (bytes rest line behind : List ℕ) (cs : List C) (before : B) (number : ℕ) (r : Result (Option C) Kind)
      → IsRead bytes rest cs before number → lines_of rest ≡ line ∷ lines_of behind → judge before line ≡ r
      → judged_each judge after 1 (lines_of bytes) start
      ≡ onto_all cs (go_on after (number + 1) before (judged_each judge after (number + 1 + 1) (lines_of behind)) r)
  next_line bytes rest line behind cs before number r h cut e =
      h.whole
      ∙ ap (λ (lines : List (List ℕ)). onto_all cs (judged_each judge after (number + 1) lines before)) cut
      ∙ ap (λ (x : Result (Option C) Kind). onto_all cs (go_on after (number + 1) before
      (judged_each judge after (number + 1 + 1) (lines_of behind)) x)) e

  pub nothing_more : (bytes rest line behind : List ℕ) (cs : List C) (before : B) (number : ℕ)
      → IsRead bytes rest cs before number → lines_of rest ≡ line ∷ lines_of behind
      → judge before line ≡ Ok None → IsRead bytes behind cs before (number + 1)
  nothing_more bytes rest line behind cs before number h cut e = record {
    whole = next_line bytes rest line behind cs before number (Ok None) h cut e;
    before_is = h.before_is;
    good = h.good;
  }

  pub stands_here : (before : B) (line : List ℕ) (c : C) → IsGood before → judge before line ≡ Ok (Some c)
      → CanStand before c
  stands_here before line c good e =
      stands_there judge after line_of IsGood CanStand language line before c
      (language.back before line (Some c) good e)

  pub one_more : (bytes rest line behind : List ℕ) (cs : List C) (before : B) (number : ℕ) (c : C)
      → IsRead bytes rest cs before number → lines_of rest ≡ line ∷ lines_of behind
      → judge before line ≡ Ok (Some c) → IsRead bytes behind (cs ++ c ∷ []) (after before c) (number + 1)
  one_more bytes rest line behind cs before number c h cut e = record {
    whole = next_line bytes rest line behind cs before number (Ok (Some c)) h cut e
        ∙ onto_push cs c (judged_each judge after (number + 1 + 1) (lines_of behind) (after before c));
    before_is = ap (λ (b : B). after b c) h.before_is ∙ sym (after_push after start cs c);
    good = language.good before c h.good (stands_here before line c h.good e);
  }

  pub faulty_line : (bytes rest line behind : List ℕ) (cs : List C) (before : B) (number : ℕ) (kind : Kind)
      → IsRead bytes rest cs before number → lines_of rest ≡ line ∷ lines_of behind
      → judge before line ≡ Err kind → judged_each judge after 1 (lines_of bytes) start ≡ Err (number + 1, kind)
  faulty_line bytes rest line behind cs before number kind h cut e =
      next_line bytes rest line behind cs before number (Err kind) h cut e

  pub all_read : (bytes rest : List ℕ) (cs : List C) (before : B) (number : ℕ) → IsRead bytes rest cs before number
      → length rest ≤ 0 → judged_each judge after 1 (lines_of bytes) start ≡ Ok cs
  all_read bytes [] cs before number h none = h.whole ∙ ap (λ (xs : List C). Ok xs) (append-nil cs)
  all_read bytes (b ∷ rest) cs before number h none = absurd (omega arith)

-- ---- lines as they are written

pub lines_of_written : {C : Type 0} (line_of : C → List ℕ) (cs : List C) → All (λ c. IsLine (line_of c)) cs
    → lines_of (flat_map (λ c. line_of c ++ line_feed ∷ []) cs) ≡ map line_of cs
lines_of_written line_of [] h = refl
lines_of_written line_of (c ∷ cs) h =
    let is : IsLine (line_of c) = All-head (λ c. IsLine (line_of c)) c cs h in
    ap lines_of (append_assoc (line_of c) (line_feed ∷ []) (flat_map (λ c. line_of c ++ line_feed ∷ []) cs))
    ∙ line_cut (line_of c) (flat_map (λ c. line_of c ++ line_feed ∷ []) cs)
    (lacks_lf (line_of c) (text_parts (line_of c) is.text).0)
    ∙ ap (λ (xs : List (List ℕ)). line_of c ∷ xs)
    (lines_of_written line_of cs (All-tail (λ c. IsLine (line_of c)) c cs h))

pub all_spoken : {C : Type 0} (line_of : C → List ℕ) → ((c : C) → is_skipped (line_of c) ≡ false) → (cs : List C)
    → filter (λ line. not (is_skipped line)) (map line_of cs) ≡ map line_of cs
all_spoken line_of spoken [] = refl
all_spoken line_of spoken (c ∷ cs) =
    filter_spoken (line_of c) (map line_of cs) (spoken c)
    ∙ ap (λ (xs : List (List ℕ)). line_of c ∷ xs) (all_spoken line_of spoken cs)
