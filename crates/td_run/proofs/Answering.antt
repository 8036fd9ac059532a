-- What a run promises, by what came of the command and by what the sink took.
use Rattle.std.proofs.Common.{◌≡◌, ◌<◌, ◌≤◌, ◌+◌, ◌⊎◌, ℕ, List, [], ◌∷◌, Bool, length, Option, Some, None, Result, Ok}
use Rattle.std.proofs.Common.{Err}
use Rattle.std.proofs.Common.{codes, if◌then◌else◌, refl, sym, ap, ◌∙◌, subst, ⊎_elim, inl, inr, arith}
use Rattle.std.specs.Prelude.{IfOk, IfSome, IsErrOf}
use Rattle.std.proofs.lemmas.Bool.{lt-ltb}
use Rattle.std.specs.Fmt.{decimal}
use Rattle.std.specs.Io.KnownBytes.{Appends}
use Rattle.td_io.specs.declared.source.Source as source
use Rattle.td_io.specs.declared.sink.Sink as sink
use Rattle.td_io.specs.Count.{Rose}
use Rattle.td_io.specs.Reading.{IsReadPast, IsReadToEnd}
use Rattle.td_check.specs.Verdict.{TooLong}
use Rattle.td_check.specs.declared.verdict.Fault.TheVariants.{Size as TooBig}
use Rattle.td_check.specs.declared.verdict.Verdict.TheVariants.{No}
use Rattle.td_script.specs.Faults.{fault_of, judged_lines}
use Rattle.td_script.specs.Judging.{fault_in, judged_each}
use Rattle.td_script.specs.Lines.{lines_of}
use Rattle.td_script.specs.KeptFaults.{kept_after, kept_judged, kept_start}
use Rattle.td_script.specs.LiveFaults.{live_after, live_judged, live_start}
use Rattle.td_script.specs.declared.kind.Kind.{Kind}
use Rattle.td_script.specs.declared.kind.Kind.TheVariants.{Size}
use Rattle.td_script.specs.declared.live.script.TheConstants.{MAX_LIVE_SCRIPT}
use Rattle.td_script.specs.declared.script.TheConstants.{MAX_SCRIPT}
use Rattle.td_script.proofs.KeptScriptLaws.{no_kept_fault}
use Rattle.td_script.proofs.LiveScriptLaws.{no_live_fault}
use Rattle.td_script.proofs.ScriptLaws.{no_fault}
use Rattle.td_run.specs.declared.answer.Answer.{Answer}
use Rattle.td_run.specs.declared.answer.Stop.{Stop}
use Rattle.td_run.specs.declared.answer.Stop.TheVariants.{Read as Unread, Memory as NoMemory}
use Rattle.td_run.specs.declared.status.Status.{Status}
use Rattle.td_run.specs.declared.status.Status.TheVariants.{Done, Memory, Usage, Script, Read, Write}
use Rattle.td_run.specs.declared.words.Form.{Form}
use Rattle.td_run.specs.declared.words.Form.TheVariants.{Reads, Gen}
use Rattle.td_run.specs.declared.words.Language.{Language}
use Rattle.td_run.specs.declared.words.Language.TheVariants.{Play, Live, Kept, Trace}
use Rattle.td_run.specs.Answer.{IsInLanguage, IsOutput, IsOutputFor, IsInputRefused}
use Rattle.td_run.specs.Answer.{IsWholeOutput, PutsFront, fault_line}
use Rattle.td_run.specs.Answer.{first_fault_in, most_bytes, usage_line}
use Rattle.td_run.specs.Answered.{IsRunOf}
use Rattle.td_run.specs.Answering.{IsAnswerTo, IsAnswerPut, IsEndedOnTheWay, IsPlayedInto}
use Rattle.td_run.specs.Answering.{IsPlayedOr, AreBytesPut, IsReadFor, IsReads}
use Rattle.td_run.specs.Answering.{IsWholeOf}
use Rattle.td_run.specs.Outputs.{IsSummary}
use Rattle.td_run.specs.VerdictLine.{verdict_line}
use Rattle.td_run.specs.Words.{IsForm, IsFormOf, IsGen, IsReading, ReadsInput, word_of}

-- ---- inputs

-- what comes of an input comes of what the source had, where that is told
pub whole_of : (language : Language) (left : Option (List ℕ)) (input : List ℕ) (status : Status) (bytes : List ℕ)
    → IfSome left (λ told. input ≡ told) → IsPlayedOr language input status bytes
    → IsWholeOf (Reads language) left status bytes
whole_of language None input Done bytes told is = tt
whole_of language None input Script bytes told is = tt
whole_of language (Some left) input Done bytes told is = subst (λ (l : List ℕ). IsOutputFor language l bytes) told is
whole_of language (Some left) input Script bytes told is =
    subst (λ (l : List ℕ). IsInputRefused language l bytes) told is
whole_of language left input Memory bytes told is = absurd is
whole_of language left input Usage bytes told is = absurd is
whole_of language left input Read bytes told is = absurd is
whole_of language left input Write bytes told is = absurd is

-- an input that is too long is refused as a whole
abbrev pub RefusesLong : Language → Type 0
RefusesLong language =
    (input : List ℕ) → most_bytes language < length input → first_fault_in language input ≡ Some (0, Size)

pub long_script : RefusesLong Play
long_script input long =
    ap (λ (b : Bool). fault_of (if b then Err (0, Size)
    else judged_lines (length input) 1 (lines_of input) (record { sites = 0; requests = 0 })))
    (lt-ltb MAX_SCRIPT (length input) long)

pub long_live_script : RefusesLong Live
long_live_script input long =
    ap (λ (b : Bool). fault_in (if b then Err (0, Size)
    else judged_each (live_judged (length input)) live_after 1 (lines_of input) live_start))
    (lt-ltb MAX_LIVE_SCRIPT (length input) long)

pub long_kept_script : RefusesLong Kept
long_kept_script input long =
    ap (λ (b : Bool). fault_in (if b then Err (0, Size)
    else judged_each (kept_judged (length input)) kept_after 1 (lines_of input) kept_start))
    (lt-ltb MAX_SCRIPT (length input) long)

long_refused : (language : Language) (left : Option (List ℕ)) (bytes : List ℕ) → RefusesLong language
    → IfSome left (λ told. most_bytes language < length told)
    → bytes ≡ fault_line 0 Size → IfSome left (λ told. IsInputRefused language told bytes)
long_refused language None bytes refuses long is = tt
long_refused language (Some input) bytes refuses long is = (0, Size, refuses input long, is)

-- the verdict on an input that is too long for a trace
long_judged : (left : Option (List ℕ)) (bytes : List ℕ) → IfSome left (λ told. most_bytes Trace < length told)
    → bytes ≡ verdict_line (No 0 TooBig) → IfSome left (λ told. IsOutputFor Trace told bytes)
long_judged None bytes long is = tt
long_judged (Some input) bytes long is = (No 0 TooBig, TooLong long, is)

-- an input in the language has no fault
no_fault_in : (language : Language) (input : List ℕ) → IsInLanguage language input
    → first_fault_in language input ≡ None
no_fault_in Play input is = no_fault input is.0 is.1
no_fault_in Live input is = no_live_fault input is.0 is.1
no_fault_in Kept input is = no_kept_fault input is.0 is.1
no_fault_in Trace input is = refl

-- two languages are one where they are read by one word
same_language : (language other : Language) → Reads language ≡ Reads other → language ≡ other
same_language language other e = cc

script_is_not_done : Script ≡ Done → ⊥
script_is_not_done e = cc

abbrev pub IsUnread : Result Answer Stop → Type 0
IsUnread result = IsErrOf result Unread

-- what was read past what an input can have
module _ {S : Type 0} (s : source.Ghosts S) (language : Language) (old new : S)
    (past : IsReadPast s (most_bytes language) old new)
    (turns : s.calls new ≤ s.calls old + (most_bytes language + 1)) where
  reads_past : (l : Language) → IsReads (Reads language) l → IsReadToEnd s old new ⊎ IsReadPast s (most_bytes l) old new
  reads_past l reads =
      inr (subst (λ (x : Language). IsReadPast s (most_bytes x) old new) (same_language language l reads) past)

  few_turns : (l : Language) → IsReads (Reads language) l → s.calls new ≤ s.calls old + (most_bytes l + 1)
  few_turns l reads =
      subst (λ (x : Language). s.calls new ≤ s.calls old + (most_bytes x + 1)) (same_language language l reads) turns

  stopped_answered : (stop : Stop) → (IsUnread (Err stop) → ⊥)
      → IsAnswerTo s (Reads language) old new (Err stop)
  stopped_answered stop read = record {
    whole = tt;
    read = λ e. absurd (read e);
    unread = λ other. absurd (other (language, refl));
    to_end = tt;
    past = tt;
    turns = few_turns;
  }

  -- a script
  pub long_answered : (result : Result Answer Stop) → RefusesLong language
      → IfOk result (λ a. (a.status ≡ Script) × (a.bytes ≡ fault_line 0 Size)) → (IsErrOf result Unread → ⊥)
      → IsAnswerTo s (Reads language) old new result
  long_answered (Ok a) refuses is read = record {
    whole = subst (λ (status : Status). IsWholeOf (Reads language) (s.left old) status a.bytes) (sym is.0)
        (long_refused language (s.left old) a.bytes refuses past.long is.1);
    read = λ e. absurd (read e);
    unread = λ other. absurd (other (language, refl));
    to_end = λ done. absurd (script_is_not_done (sym is.0 ∙ done));
    past = reads_past;
    turns = few_turns;
  }
  long_answered (Err stop) refuses is read = stopped_answered stop read

-- a trace
pub long_trace_answered : {S : Type 0} (s : source.Ghosts S) (old new : S) (result : Result Answer Stop)
    → IsReadPast s (most_bytes Trace) old new → s.calls new ≤ s.calls old + (most_bytes Trace + 1)
    → IfOk result (λ a. (a.status ≡ Done) × (a.bytes ≡ verdict_line (No 0 TooBig))) → (IsErrOf result Unread → ⊥)
    → IsAnswerTo s (Reads Trace) old new result
long_trace_answered s old new (Ok a) past turns is read = record {
  whole = subst (λ (status : Status). IsWholeOf (Reads Trace) (s.left old) status a.bytes) (sym is.0)
      (long_judged (s.left old) a.bytes past.long is.1);
  read = λ e. absurd (read e);
  unread = λ other. absurd (other (Trace, refl));
  to_end = λ done l reads. subst (λ (x : Language). IsReadFor s x old new) (same_language Trace l reads) (inr past);
  past = reads_past s Trace old new past turns;
  turns = few_turns s Trace old new past turns;
}
long_trace_answered s old new (Err stop) past turns is read = stopped_answered s Trace old new past turns stop read

-- a script that was read to its end, or that could not be read
module _ {S : Type 0} (s : source.Ghosts S) (language : Language) (old new : S)
    (turns : s.calls new ≤ s.calls old + (most_bytes language + 1)) where
  own_turns : (l : Language) → IsReads (Reads language) l → s.calls new ≤ s.calls old + (most_bytes l + 1)
  own_turns l reads =
      subst (λ (x : Language). s.calls new ≤ s.calls old + (most_bytes x + 1)) (same_language language l reads) turns

  pub input_answered : (input : List ℕ) (result : Result Answer Stop) → IfSome (s.left old) (λ told. input ≡ told)
      → ((l : Language) → IsReads (Reads language) l → IsReadFor s l old new) → IsReadToEnd s old new
      → IfOk result (λ a. IsPlayedOr language input a.status a.bytes) → (IsErrOf result Unread → ⊥)
      → IsAnswerTo s (Reads language) old new result
  input_answered input (Ok a) told ended to_end is read = record {
    whole = whole_of language (s.left old) input a.status a.bytes told is;
    read = λ e. absurd (read e);
    unread = λ other. absurd (other (language, refl));
    to_end = λ done. ended;
    past = λ l reads. inl to_end;
    turns = own_turns;
  }
  input_answered input (Err stop) told ended to_end is read = record {
    whole = tt;
    read = λ e. absurd (read e);
    unread = λ other. absurd (other (language, refl));
    to_end = tt;
    past = tt;
    turns = own_turns;
  }

  pub unread_answered : Rose (s.faults old) (s.faults new) → IsAnswerTo s (Reads language) old new (Err Unread)
  unread_answered rose = record {
    whole = tt;
    read = λ e. ((language, refl), rose);
    unread = λ other. absurd (other (language, refl));
    to_end = tt;
    past = tt;
    turns = own_turns;
  }

  pub unmade_answered : IsAnswerTo s (Reads language) old new (Err NoMemory)
  unmade_answered = record {
    whole = tt;
    read = λ e. absurd (other e);
    unread = λ other. absurd (other (language, refl));
    to_end = tt;
    past = tt;
    turns = own_turns;
  }
    where
      other : IsUnread (Err NoMemory) → ⊥
      other e = cc

play_read_for : {S : Type 0} (s : source.Ghosts S) (old new : S) → IsReadToEnd s old new → (l : Language)
    → IsReads (Reads Play) l → IsReadFor s l old new
play_read_for s old new to_end l reads =
    subst (λ (x : Language). IsReadFor s x old new) (same_language Play l reads) to_end

-- a script
pub script_answered_to : {S : Type 0} (s : source.Ghosts S) (old new : S) (input : List ℕ) (result : Result Answer Stop)
    → s.calls new ≤ s.calls old + (most_bytes Play + 1) → IfSome (s.left old) (λ told. input ≡ told)
    → IsReadToEnd s old new → IfOk result (λ a. IsPlayedOr Play input a.status a.bytes)
    → (IsErrOf result Unread → ⊥) → IsAnswerTo s (Reads Play) old new result
script_answered_to s old new input result turns told to_end is read =
    input_answered s Play old new turns input result told (play_read_for s old new to_end) to_end is read

-- what is told of the first fault of an input
pub refused_is : (input : List ℕ) (line : ℕ) (kind : Kind) (result : Result Answer Stop)
    → first_fault_in Play input ≡ Some (line, kind)
    → IfOk result (λ a. (a.status ≡ Script) × (a.bytes ≡ fault_line line kind))
    → IfOk result (λ a. IsPlayedOr Play input a.status a.bytes)
refused_is input line kind (Ok a) first is =
    subst (λ (status : Status). IsPlayedOr Play input status a.bytes) (sym is.0) (line, kind, first, is.1)
refused_is input line kind (Err stop) first is = tt

-- what is put at once is put on the way
pub put_at_once : {K : Type 0} (k : sink.Ghosts K) (result : Result Answer Stop) (before after : K) (status : Status)
    → IsAnswerPut k result before after status → IsEndedOnTheWay k result before after status
put_at_once k (Ok answer) before after status ended = inl ended
put_at_once k (Err Unread) before after status ended = ended
put_at_once k (Err NoMemory) before after status ended = ended

-- ---- words

pub form_is : (words : List (List ℕ)) (form : Form) → IsFormOf words form → IsForm words
form_is words (Reads language) is = inl (language, is)
form_is words (Gen size number) is = inr (size, number, is)

-- the whole output for the command is the one for the words
pub whole_is : (words : List (List ℕ)) (form : Form) (left : Option (List ℕ)) (status : Status) (bytes : List ℕ)
    → IsFormOf words form → IsWholeOf form left status bytes → IsWholeOutput words left status bytes
whole_is words (Reads language) left Done bytes form is = inl (language, form, is)
whole_is words (Reads language) left Script bytes form is = (language, form, is)
whole_is words (Reads language) left Memory bytes form is = is
whole_is words (Reads language) left Usage bytes form is = absurd is
whole_is words (Reads language) left Read bytes form is = is
whole_is words (Reads language) left Write bytes form is = is
whole_is words (Gen size number) left Done bytes form is = inr (size, number, form, is)
whole_is words (Gen size number) left Script bytes form is = absurd is
whole_is words (Gen size number) left Memory bytes form is = is
whole_is words (Gen size number) left Usage bytes form is = absurd is
whole_is words (Gen size number) left Read bytes form is = is
whole_is words (Gen size number) left Write bytes form is = is

words_differ : (word : List ℕ) (size number : ℕ) → word ∷ [] ≡ codes "gen" ∷ decimal size ∷ decimal number ∷ [] → ⊥
words_differ word size number e = cc

reading_is_no_gen : (words : List (List ℕ)) (language : Language) (size number : ℕ) → IsReading words language
    → IsGen words size number → ⊥
reading_is_no_gen words language size number reading gen =
    words_differ (word_of language) size number (sym reading ∙ gen.are)

-- the four words begin with letters of their own
play_is_not_live : codes "play" ∷ [] ≡ codes "live" ∷ [] → ⊥
play_is_not_live e =
    let first : ◌≡◌ {A = ℕ} 112 108 = cc in
    omega (arith, first)

play_is_not_check : codes "play" ∷ [] ≡ codes "check" ∷ [] → ⊥
play_is_not_check e =
    let first : ◌≡◌ {A = ℕ} 112 99 = cc in
    omega (arith, first)

live_is_not_check : codes "live" ∷ [] ≡ codes "check" ∷ [] → ⊥
live_is_not_check e =
    let first : ◌≡◌ {A = ℕ} 108 99 = cc in
    omega (arith, first)

play_is_not_kept : codes "play" ∷ [] ≡ codes "kept" ∷ [] → ⊥
play_is_not_kept e =
    let first : ◌≡◌ {A = ℕ} 112 107 = cc in
    omega (arith, first)

live_is_not_kept : codes "live" ∷ [] ≡ codes "kept" ∷ [] → ⊥
live_is_not_kept e =
    let first : ◌≡◌ {A = ℕ} 108 107 = cc in
    omega (arith, first)

kept_is_not_check : codes "kept" ∷ [] ≡ codes "check" ∷ [] → ⊥
kept_is_not_check e =
    let first : ◌≡◌ {A = ℕ} 107 99 = cc in
    omega (arith, first)

-- the words tell the language
pub language_is : (words : List (List ℕ)) (language other : Language) → IsReading words language
    → IsReading words other → language ≡ other
language_is words Play Play is also = refl
language_is words Play Live is also = absurd (play_is_not_live (sym is ∙ also))
language_is words Play Kept is also = absurd (play_is_not_kept (sym is ∙ also))
language_is words Play Trace is also = absurd (play_is_not_check (sym is ∙ also))
language_is words Live Play is also = absurd (play_is_not_live (sym also ∙ is))
language_is words Live Live is also = refl
language_is words Live Kept is also = absurd (live_is_not_kept (sym is ∙ also))
language_is words Live Trace is also = absurd (live_is_not_check (sym is ∙ also))
language_is words Kept Play is also = absurd (play_is_not_kept (sym also ∙ is))
language_is words Kept Live is also = absurd (live_is_not_kept (sym also ∙ is))
language_is words Kept Kept is also = refl
language_is words Kept Trace is also = absurd (kept_is_not_check (sym is ∙ also))
language_is words Trace Play is also = absurd (play_is_not_check (sym also ∙ is))
language_is words Trace Live is also = absurd (live_is_not_check (sym also ∙ is))
language_is words Trace Kept is also = absurd (kept_is_not_check (sym also ∙ is))
language_is words Trace Trace is also = refl

pub form_of_reading : (words : List (List ℕ)) (form : Form) (language : Language) → IsFormOf words form
    → IsReading words language → IsReads form language
form_of_reading words (Reads own) language is reading = ap (λ (l : Language). Reads l)
    (language_is words own language is reading)
form_of_reading words (Gen size number) language is reading =
    absurd (reading_is_no_gen words language size number reading is)

-- the source was called no oftener than for an input in the language of the words
abbrev pub AreFewTurns : {S : Type 0} → source.Ghosts S → List (List ℕ) → (old new : S) → Type 0
AreFewTurns s words old new =
    (language : Language) → IsReading words language → s.calls new ≤ s.calls old + (most_bytes language + 1)

-- what was read, by the words
pub record IsRead {S : Type 0} (s : source.Ghosts S) (words : List (List ℕ)) (old new : S) : Type 0 where
  pub unread : ¬ ReadsInput words → new ≡ old
  pub past : (language : Language) → IsReading words language
      → IsReadToEnd s old new ⊎ IsReadPast s (most_bytes language) old new
  pub turns : AreFewTurns s words old new

module _ {S K : Type 0} (s : source.Ghosts S) (k : sink.Ghosts K) (words : List (List ℕ)) (old new : S)
    (before after : K)
  where
    usage_answered : ¬ IsForm words → new ≡ old → Appends (k.held before) (k.held after) usage_line
        → IsRunOf s k words old new before after Usage
    usage_answered unknown same put = record {
      whole = λ ends. (usage_line, (unknown, refl), put);
      read = λ e. absurd cc;
      write = λ e. absurd cc;
      memory = λ e. absurd cc;
      other_words = λ other. inl refl;
      unread = λ other. same;
      read_to_end = λ e. absurd cc;
      read_whole = λ language reading. absurd (unknown (inl (language, reading)));
      turns = λ language reading. absurd (unknown (inl (language, reading)));
      complete = λ language input reading. absurd (unknown (inl (language, reading)));
      generated = λ size number gen. absurd (unknown (inr (size, number, gen)));
    }

    form_of_output : (bytes : List ℕ) → IsOutput words (s.left old) bytes → IsForm words
    form_of_output bytes output = ⊎_elim (λ p. inl (p.0, p.1)) (λ g. inr (g.0, g.1, g.2)) output

    done_answered : (bytes : List ℕ) → IsOutput words (s.left old) bytes → IsRead s words old new
        → ((language : Language) → IsReading words language → IsReadFor s language old new)
        → Appends (k.held before) (k.held after) bytes
        → IsRunOf s k words old new before after Done
    done_answered bytes output read to_end put = record {
      whole = λ ends. (bytes, output, put);
      read = λ e. absurd cc;
      write = λ e. absurd cc;
      memory = λ e. absurd cc;
      other_words = λ other. absurd (other (form_of_output bytes output));
      unread = read.unread;
      read_to_end = λ e. to_end;
      read_whole = λ language reading ends. read.past language reading;
      turns = read.turns;
      complete = λ language input reading told spelled reads writes. inl refl;
      generated = λ size number gen writes. inl refl;
    }

    no_refusal : (language : Language) (left : Option (List ℕ)) (bytes input : List ℕ)
        → IfSome left (λ told. IsInputRefused language told bytes)
        → left ≡ Some input → first_fault_in language input ≡ None → ⊥
    no_refusal language left bytes input refused told none =
        clash (subst (λ (o : Option (List ℕ)). IfSome o (λ l. IsInputRefused language l bytes)) told refused)
      where
        differ : (line : ℕ) (kind : Kind) → first_fault_in language input ≡ Some (line, kind) → ⊥
        differ line kind e = none_some (sym none ∙ e)
          where
            none_some : ◌≡◌ {A = Option (ℕ × Kind)} None (Some (line, kind)) → ⊥
            none_some f = cc

        clash : IsInputRefused language input bytes → ⊥
        clash r = differ r.0 r.1 r.2

    script_answered : (bytes : List ℕ) (language : Language) → IsReading words language
        → IfSome (s.left old) (λ told. IsInputRefused language told bytes)
        → IsRead s words old new → Appends (k.held before) (k.held after) bytes
        → IsRunOf s k words old new before after Script
    script_answered bytes language reading refused read put = record {
      whole = λ ends. (bytes, (language, reading, refused), put);
      read = λ e. absurd cc;
      write = λ e. absurd cc;
      memory = λ e. absurd cc;
      other_words = λ other. absurd (other (inl (language, reading)));
      unread = read.unread;
      read_to_end = λ e. absurd cc;
      read_whole = λ l reads ends. read.past l reads;
      turns = read.turns;
      complete = λ l input reads told spelled.
          let same : l ≡ language = language_is words l language reads reading in
          absurd (no_refusal language (s.left old) bytes input refused told
          (no_fault_in language input (subst (λ (x : Language). IsInLanguage x input) same spelled)));
      generated = λ size number gen. absurd (reading_is_no_gen words language size number reading gen);
    }

    write_answered : (whole : Status) (bytes : List ℕ) → IsWholeOutput words (s.left old) whole bytes
        → IsRead s words old new → Rose (k.faults before) (k.faults after)
        → PutsFront (k.held before) (k.held after) bytes → IsRunOf s k words old new before after Write
    write_answered whole bytes is read rose put = record {
      whole = ⊎_elim (λ (e : Write ≡ Done). absurd cc)
          (⊎_elim (λ (e : Write ≡ Usage). absurd cc) (λ (e : Write ≡ Script). absurd cc));
      read = λ e. absurd cc;
      write = λ e. (rose, (whole, bytes, is, put));
      memory = λ e. absurd cc;
      other_words = λ other. inr refl;
      unread = read.unread;
      read_to_end = λ e. absurd cc;
      read_whole = λ language reading ends. read.past language reading;
      turns = read.turns;
      complete = λ language input reading told spelled reads writes. absurd (writes rose);
      generated = λ size number gen writes. absurd (writes rose);
    }

    read_answered : ReadsInput words → Rose (s.faults old) (s.faults new) → k.held after ≡ k.held before
        → AreFewTurns s words old new → IsRunOf s k words old new before after Read
    read_answered reading rose held turns = record {
      whole = ⊎_elim (λ (e : Read ≡ Done). absurd cc)
          (⊎_elim (λ (e : Read ≡ Usage). absurd cc) (λ (e : Read ≡ Script). absurd cc));
      read = λ e. (reading, rose, held);
      write = λ e. absurd cc;
      memory = λ e. absurd cc;
      other_words = λ other. absurd (other (inl reading));
      unread = λ other. absurd (other reading);
      read_to_end = λ e. absurd cc;
      read_whole = λ language p. ⊎_elim (λ (e : Read ≡ Script). absurd cc) (λ (e : Read ≡ Write). absurd cc);
      turns = turns;
      complete = λ language input p told spelled reads. absurd (reads rose);
      generated = λ size number gen. absurd (reading_is_no_gen words reading.0 size number reading.1 gen);
    }

    memory_answered : IsForm words → (¬ ReadsInput words → new ≡ old) → k.held after ≡ k.held before
        → AreFewTurns s words old new → IsRunOf s k words old new before after Memory
    memory_answered form unread held turns = record {
      whole = ⊎_elim (λ (e : Memory ≡ Done). absurd cc)
          (⊎_elim (λ (e : Memory ≡ Usage). absurd cc) (λ (e : Memory ≡ Script). absurd cc));
      read = λ e. absurd cc;
      write = λ e. absurd cc;
      memory = λ e. (form, inl held);
      other_words = λ other. absurd (other form);
      unread = unread;
      read_to_end = λ e. absurd cc;
      read_whole = λ language reading. ⊎_elim (λ (e : Memory ≡ Script). absurd cc) (λ (e : Memory ≡ Write). absurd cc);
      turns = turns;
      complete = λ language input reading told spelled reads writes. inr refl;
      generated = λ size number gen writes. inr refl;
    }

    front_answered : (bytes : List ℕ) → IsReading words Play → IsOutput words (s.left old) bytes
        → PutsFront (k.held before) (k.held after) bytes → AreFewTurns s words old new
        → IsRunOf s k words old new before after Memory
    front_answered bytes reading output put turns = record {
      whole = ⊎_elim (λ (e : Memory ≡ Done). absurd cc)
          (⊎_elim (λ (e : Memory ≡ Usage). absurd cc) (λ (e : Memory ≡ Script). absurd cc));
      read = λ e. absurd cc;
      write = λ e. absurd cc;
      memory = λ e. (inl (Play, reading), inr (reading, (bytes, output, put)));
      other_words = λ other. absurd (other (inl (Play, reading)));
      unread = λ other. absurd (other (Play, reading));
      read_to_end = λ e. absurd cc;
      read_whole = λ language p. ⊎_elim (λ (e : Memory ≡ Script). absurd cc) (λ (e : Memory ≡ Write). absurd cc);
      turns = turns;
      complete = λ language input p told spelled reads writes. inr refl;
      generated = λ size number gen. absurd (reading_is_no_gen words Play size number reading gen);
    }

    -- ---- by what came of the command

    reads_of : (form : Form) → IsFormOf words form → ((language : Language) × IsReads form language) → ReadsInput words
    reads_of form is reads = (reads.0, subst (IsFormOf words) reads.1 is)

    turns_of : (form : Form) (result : Result Answer Stop) → IsFormOf words form → IsAnswerTo s form old new result
        → AreFewTurns s words old new
    turns_of form result is a = λ language reading. a.turns language (form_of_reading words form language is reading)

    read_of : (form : Form) (answer : Answer) → IsFormOf words form → IsAnswerTo s form old new (Ok answer)
        → IsRead s words old new
    read_of form answer is a = record {
      unread = λ other. a.unread (λ reads. other (reads_of form is reads));
      past = λ language reading. a.past language (form_of_reading words form language is reading);
      turns = turns_of form (Ok answer) is a;
    }

    taken_answered : (form : Form) (answer : Answer) → IsFormOf words form → IsAnswerTo s form old new (Ok answer)
        → Appends (k.held before) (k.held after) answer.bytes → (status : Status) → answer.status ≡ status
        → IsWholeOutput words (s.left old) status answer.bytes → IsRunOf s k words old new before after status
    taken_answered form answer is a put Done e whole =
        done_answered answer.bytes whole (read_of form answer is a)
        (λ language reading. a.to_end e language (form_of_reading words form language is reading)) put
    taken_answered form answer is a put Script e whole =
        script_answered answer.bytes whole.0 whole.1 whole.2 (read_of form answer is a) put
    taken_answered form answer is a put Usage e whole = absurd (whole.0 (form_is words form is))
    taken_answered form answer is a put Memory e whole = absurd whole
    taken_answered form answer is a put Read e whole = absurd whole
    taken_answered form answer is a put Write e whole = absurd whole

    put_answered : (form : Form) (answer : Answer) (status : Status) → IsFormOf words form
        → IsAnswerTo s form old new (Ok answer) → AreBytesPut k answer.bytes answer.status before after status
        → IsRunOf s k words old new before after status
    put_answered form answer status is a put =
        ⊎_elim
        (λ (p : (status ≡ answer.status) × Appends (k.held before) (k.held after) answer.bytes).
        subst (IsRunOf s k words old new before after) (sym p.0)
        (taken_answered form answer is a p.1 answer.status refl whole))
        (λ (p : (status ≡ Write) × Rose (k.faults before) (k.faults after)
        × PutsFront (k.held before) (k.held after) answer.bytes).
        subst (IsRunOf s k words old new before after) (sym p.0)
        (write_answered answer.status answer.bytes whole (read_of form answer is a) p.1 p.2))
        put
      where
        whole : IsWholeOutput words (s.left old) answer.status answer.bytes
        whole = whole_is words form (s.left old) answer.status answer.bytes is a.whole

    -- what came of the command was put
    pub ended_answered : (form : Form) (result : Result Answer Stop) (status : Status) → IsFormOf words form
        → IsAnswerTo s form old new result → IsAnswerPut k result before after status
        → IsRunOf s k words old new before after status
    ended_answered form (Ok answer) status is a ended = put_answered form answer status is a ended
    ended_answered form (Err Unread) status is a ended =
        let r = a.read refl in
        subst (IsRunOf s k words old new before after) (sym ended.0)
        (read_answered (reads_of form is r.0) r.1 (ap (λ (x : K). k.held x) ended.1)
        (turns_of form (Err Unread) is a))
    ended_answered form (Err NoMemory) status is a ended =
        subst (IsRunOf s k words old new before after) (sym ended.0)
        (memory_answered (form_is words form is) (λ other. a.unread (λ reads. other (reads_of form is reads)))
        (ap (λ (x : K). k.held x) ended.1) (turns_of form (Err NoMemory) is a))

    -- a script was played, and what it prints was put on the way
    pub played_answered : (status : Status) → IsReading words Play → IsPlayedInto s k old new before after status
        → IsRunOf s k words old new before after status
    played_answered status reading p = at p.answer p.is p.ended
      where
        at : (r : Result Answer Stop) → IsAnswerTo s (Reads Play) old new r
            → IsEndedOnTheWay k r before after status → IsRunOf s k words old new before after status
        at (Ok answer) is ended =
            ⊎_elim (put_answered (Reads Play) answer status reading is)
            (λ (q : (status ≡ Memory) × (answer.status ≡ Done)
            × PutsFront (k.held before) (k.held after) answer.bytes).
            subst (IsRunOf s k words old new before after) (sym q.0)
            (front_answered answer.bytes reading
            (subst (λ (x : Status). IsWholeOutput words (s.left old) x answer.bytes) q.1
            (whole_is words (Reads Play) (s.left old) answer.status answer.bytes reading is.whole)) q.2
            (turns_of (Reads Play) (Ok answer) reading is)))
            ended
        at (Err Unread) is ended = ended_answered (Reads Play) (Err Unread) status reading is ended
        at (Err NoMemory) is ended = ended_answered (Reads Play) (Err NoMemory) status reading is ended

    -- the words are no command
    pub other_answered : (status : Status) → ¬ IsForm words → new ≡ old
        → AreBytesPut k usage_line Usage before after status → IsRunOf s k words old new before after status
    other_answered status unknown same put =
        ⊎_elim
        (λ (p : (status ≡ Usage) × Appends (k.held before) (k.held after) usage_line).
        subst (IsRunOf s k words old new before after) (sym p.0) (usage_answered unknown same p.1))
        (λ (p : (status ≡ Write) × Rose (k.faults before) (k.faults after)
        × PutsFront (k.held before) (k.held after) usage_line).
        subst (IsRunOf s k words old new before after) (sym p.0)
        (write_answered Usage usage_line (unknown, refl) read p.1 p.2))
        put
      where
        read : IsRead s words old new
        read = record {
          unread = λ other. same;
          past = λ language reading. absurd (unknown (inl (language, reading)));
          turns = λ language reading. absurd (unknown (inl (language, reading)));
        }

-- a generated script reads nothing
pub generated_answers : {S : Type 0} (s : source.Ghosts S) (old : S) (size number : ℕ) (result : Result Answer Stop)
    → IfOk result (λ a. (a.status ≡ Done) × IsSummary size number a.bytes) → (IsErrOf result Unread → ⊥)
    → IsAnswerTo s (Gen size number) old old result
generated_answers s old size number result is read = record {
  whole = whole result is;
  read = λ e. absurd (read e);
  unread = λ other. refl;
  to_end = to_end result;
  past = past result;
  turns = λ language reads. absurd (no_language language reads);
}
  where
    no_language : (language : Language) → IsReads (Gen size number) language → ⊥
    no_language language e = cc

    whole : (r : Result Answer Stop) → IfOk r (λ a. (a.status ≡ Done) × IsSummary size number a.bytes)
        → IfOk r (λ a. IsWholeOf (Gen size number) (s.left old) a.status a.bytes)
    whole (Ok a) is = subst (λ (status : Status). IsWholeOf (Gen size number) (s.left old) status a.bytes)
        (sym is.0) is.1
    whole (Err stop) is = tt

    to_end : (r : Result Answer Stop)
        → IfOk r (λ a. a.status ≡ Done → (language : Language) → IsReads (Gen size number) language
        → IsReadFor s language old old)
    to_end (Ok a) = λ done language reads. absurd (no_language language reads)
    to_end (Err stop) = tt

    past : (r : Result Answer Stop)
        → IfOk r (λ a. (language : Language) → IsReads (Gen size number) language
        → IsReadToEnd s old old ⊎ IsReadPast s (most_bytes language) old old)
    past (Ok a) = λ language reads. absurd (no_language language reads)
    past (Err stop) = tt
