-- A shell on its way: what it heard, kept and put so far, and how it ends.
use Rattle.std.proofs.Common.{◌≡◌, ◌<◌, ◌≤◌, ◌++◌, ◌∷◌, ◌∙◌, ℕ, List, [], All, Option, None, Some, length}
use Rattle.std.proofs.Common.{Result, Ok, Err, take, refl, sym, ap, subst, inl, inr, arith}
use Rattle.std.specs.Prelude.{IfErr, IfNone, IfSome, OnOk, ◌⊎◌}
use Rattle.std.specs.Io.KnownBytes.{Appends, Consumes, IsAtEnd}
use Rattle.std.proofs.KnownBytes.{Appends-nil, Appends-trans, Consumes-nil, Consumes-trans}
use Rattle.std.proofs.lemmas.List.{append-nil, append_assoc}
use Rattle.std.proofs.lemmas.List.Elements.{All-nil, All-cons, All-head, All-tail}
use Rattle.td_disk.specs.declared.disk.Disk as disk
use Rattle.td_disk.specs.declared.gated.Gated.{Gated}
use Rattle.td_disk.specs.Gated.{disk_of}
use Rattle.td_disk.specs.Moments.{LeavesOnly}
use Rattle.td_disk.proofs.Moments.{joined, started, weakened}
use Rattle.td_doc.specs.declared.doc.Doc as doc
use Rattle.td_io.specs.declared.source.Source as source
use Rattle.td_io.specs.declared.sink.Sink as sink
use Rattle.td_io.specs.Count.{Rose, counted}
use Rattle.td_io.specs.Whole.{AppendsPart}
use Rattle.td_op.specs.declared.input.Input.{Input}
use Rattle.td_journal.specs.declared.kept.Kept.{Kept}
use Rattle.td_journal.specs.Journal.{inputs_of}
use Rattle.td_journal.specs.Seen.{inputs_in, journal_of, replica_of, IsOwnJournalOfEither}
use Rattle.td_replica.specs.Replica.{ReplicaValue}
use Rattle.td_script.specs.Lines.{lines_of}
use Rattle.td_script.specs.declared.kind.Kind.TheVariants.{End}
use Rattle.td_script.proofs.Cutting.{line_cut}
use Rattle.td_shell.specs.declared.halt.Halt.{Halt}
use Rattle.td_shell.specs.declared.halt.Halt.TheVariants as Why
use Rattle.td_shell.specs.declared.status.Status.{Status}
use Rattle.td_shell.specs.declared.status.Status.TheVariants.{Done, Memory, Read, Write, Full, Disk}
use Rattle.td_shell.specs.Answers.{Effect, all_answers, answer, in_turn, numbered}
use Rattle.td_shell.specs.Lines.{IsInLine, ended, shortened}
use Rattle.td_shell.proofs.ReadAs.{IsKeptOf, IsReadAs}
use Rattle.td_shell.specs.Sending.{cut_answer, fault_line}
use Rattle.td_shell.specs.Staging.{HasFailed, IsAllKept, IsKeptAs, IsSamePlace, IsStaged}
use Rattle.td_shell.specs.Talk.{IsLineAnswered, IsAtTheEnd, IsCaused, IsKeptBy}
use Rattle.td_shell.specs.Talk.{IsOfFront, AreAnswersPut, IsTalk, IsUncut}
use Rattle.td_shell.specs.Talk.{and_next, begun, inputs_by}
use Rattle.td_shell.specs.Wanting.{IsFull, status_of}
use Rattle.td_shell.proofs.Heard.{IsLineOf, came_in_line, ended_more, filled, kept_whole, line_off}
use Rattle.td_shell.proofs.Heard.{none_came, some_came}
use Rattle.td_shell.proofs.Keeping.{either_journal, own_journal, place_back}
use Rattle.td_shell.proofs.Longer.{answered_as, answers_more, numbered_more}
use Rattle.td_shell.proofs.Putting.{done_as, halted_as}
use Rattle.td_shell.proofs.Staged.{place_on, same_place}

-- what was done so far
pub record IsUnderWay {D K S W : Type 0} {d : doc.Ghosts D} {w : disk.Ghosts K} (s : source.Ghosts S)
    (k : sink.Ghosts W) (old now : Kept D K d w) (src src' : S) (dst dst' : W) (unread : List ℕ) (number : ℕ)
    : Type 0 where
  pub lines : List (List ℕ)
  pub rest : List ℕ
  pub in_line : All IsInLine lines
  pub taken : Consumes (s.left src) (s.left src') (ended lines ++ rest)
  pub unread_is : IsKeptOf rest unread
  pub number_is : number ≡ numbered 0 lines
  pub replica : replica_of now ≡ (all_answers lines (replica_of old)).replica
  pub kept : IsAllKept w now
  pub place : IsSamePlace old now
  pub moments : LeavesOnly w (disk_of (journal_of old)) (disk_of (journal_of now)) (IsOfFront old lines)
  pub put : Appends (k.held dst) (k.held dst') (all_answers lines (replica_of old)).text
  pub source_counts : s.faults src ≤ s.faults src'
  pub sink_counts : k.faults dst ≤ k.faults dst'
  pub disk_counts : w.faults (disk_of (journal_of old)) ≤ w.faults (disk_of (journal_of now))

rose_from : (old mid new : ℕ) → old ≤ mid → Rose mid new → Rose old new
rose_from old mid new less (inl more) = inl (omega (arith, less, more))
rose_from old mid new less (inr most) = inr most

all_and : (lines : List (List ℕ)) (line : List ℕ) → All IsInLine lines → IsInLine line
    → All IsInLine (lines ++ line ∷ [])
all_and [] line each one = All-cons IsInLine line [] one (All-nil IsInLine)
all_and (first ∷ lines) line each one =
    All-cons IsInLine first (lines ++ line ∷ []) (All-head IsInLine first lines each)
    (all_and lines line (All-tail IsInLine first lines each) one)

-- what is said of the bytes behind the last LF is said of what is kept of them
cut_same : (number : ℕ) (bytes kept : List ℕ) → IsKeptOf bytes kept → cut_answer number kept ≡ cut_answer number bytes
cut_same number bytes [] k = ap (cut_answer number) (sym (none_came bytes [] k refl))
cut_same number bytes (b ∷ kept) k = some_cut number bytes (some_came bytes (b ∷ kept) k (omega arith))
  where
    some_cut : (number : ℕ) (bytes : List ℕ) → 0 < length bytes
        → fault_line (counted number) End ≡ cut_answer number bytes
    some_cut number [] some = absurd (omega (arith, some))
    some_cut number (x ∷ bytes) some = refl

end_told : (a b c : Option (List ℕ)) (taken : List ℕ) → Consumes a b taken → IsAtEnd b → Consumes b c []
    → IfSome a (λ _. c ≡ Some [])
end_told None b c taken first at_end then = tt
end_told (Some xs) None c taken first at_end then = absurd first
end_told (Some xs) (Some ys) None taken first at_end then = absurd then
end_told (Some xs) (Some ys) (Some zs) taken first at_end then = ap Some (sym (sym at_end ∙ then))

-- this moment of a disk, and no other since
abbrev pub OnlyNow : {K : Type 0} → disk.Ghosts K → Type 0
OnlyNow {K} w = (e : K) (c : List ℕ) → w.left_since e (w.clock e) c → w.leaves e c

abbrev pub CountsNow : {K : Type 0} → disk.Ghosts K → Type 0
CountsNow {K} w = (e : K) (t : ℕ) (c : List ℕ) → t ≤ w.clock e → w.leaves e c → w.left_since e t c

-- the next line of the rest
next_is : (lines : List (List ℕ)) (rest line more : List ℕ) → (l : IsLineOf rest line more)
    → and_next lines (rest ++ []) ≡ lines ++ l.whole ∷ []
next_is lines rest line more l =
    ap (λ (xs : List ℕ). lines ++ take 1 (lines_of xs)) (append-nil rest ∙ l.bytes_are)
    ∙ ap (λ (ls : List (List ℕ)). lines ++ take 1 ls) (line_cut l.whole more l.in_line)

module _ {D K S W : Type 0} {d : doc.Ghosts D} {w : disk.Ghosts K} (s : source.Ghosts S) (k : sink.Ghosts W) where
  pub begins : (old : Kept D K d w) (src : S) (dst : W) → OnlyNow w → IsAllKept w old
      → IsUnderWay s k old old src src dst dst [] 0
  begins old src dst only_now kept =
      record {
        lines = [];
        rest = [];
        in_line = All-nil IsInLine;
        taken = Consumes-nil (s.left src);
        unread_is = kept_whole [];
        number_is = refl;
        replica = refl;
        kept = kept;
        place = same_place old;
        moments = started w (disk_of (journal_of old)) (IsOfFront old [])
            (λ c left. ([], [], refl, kept.leaves c (only_now (disk_of (journal_of old)) c left)));
        put = Appends-nil (k.held dst);
        source_counts = omega arith;
        sink_counts = omega arith;
        disk_counts = omega arith;
      }

  -- a piece more came
  pub goes_on : (old now : Kept D K d w) (src mid new : S) (dst dst' : W) (unread next piece : List ℕ) (number : ℕ)
      → IsUnderWay s k old now src mid dst dst' unread number → IsInLine unread
      → Consumes (s.left mid) (s.left new) piece → next ≡ shortened unread ++ piece
      → s.faults mid ≤ s.faults new → IsUnderWay s k old now src new dst dst' next number
  goes_on old now src mid new dst dst' unread next piece number u each came is counts =
      record {
        lines = u.lines;
        rest = u.rest ++ piece;
        in_line = u.in_line;
        taken = subst (λ (xs : List ℕ). Consumes (s.left src) (s.left new) xs)
            (append_assoc (ended u.lines) u.rest piece)
            (Consumes-trans (s.left src) (s.left mid) (s.left new) (ended u.lines ++ u.rest) piece u.taken came);
        unread_is = subst (λ (xs : List ℕ). IsKeptOf (u.rest ++ piece) xs) (sym is)
            (filled u.rest unread piece u.unread_is each);
        number_is = u.number_is;
        replica = u.replica;
        kept = u.kept;
        place = u.place;
        moments = u.moments;
        put = u.put;
        source_counts = let less = u.source_counts in omega (arith, less, counts);
        sink_counts = u.sink_counts;
        disk_counts = u.disk_counts;
      }

  -- the answer to one line more is that to what was read of it
  as_read : (old now : Kept D K d w) (lines : List (List ℕ)) (whole line : List ℕ) (number : ℕ) → IsReadAs whole line
      → number ≡ numbered 0 lines → replica_of now ≡ (all_answers lines (replica_of old)).replica
      → answer (counted number) line (replica_of now)
      ≡ answer (counted (numbered 0 lines)) whole (all_answers lines (replica_of old)).replica
  as_read old now lines whole line number same number_is replica =
      (λ i. answer (counted (number_is i)) line (replica i))
      ∙ answered_as (counted (numbered 0 lines)) whole line (all_answers lines (replica_of old)).replica same

  -- the effect of one line more, as it was read
  one_more : (old now : Kept D K d w) (lines : List (List ℕ)) (whole line : List ℕ) (number : ℕ) → IsReadAs whole line
      → number ≡ numbered 0 lines → replica_of now ≡ (all_answers lines (replica_of old)).replica
      → all_answers (lines ++ whole ∷ []) (replica_of old)
      ≡ in_turn (all_answers lines (replica_of old)) (answer (counted number) line (replica_of now))
  one_more old now lines whole line number same number_is replica =
      answers_more 0 lines whole (replica_of old)
      ∙ ap (in_turn (all_answers lines (replica_of old)))
      (sym (as_read old now lines whole line number same number_is replica))

  -- a front of some lines is one of these and another line
  front_more : (old : Kept D K d w) (lines : List (List ℕ)) (whole c : List ℕ) → IsOfFront old lines c
      → IsOfFront old (lines ++ whole ∷ []) c
  front_more old lines whole c f = (
    f.0,
    f.1 ++ whole ∷ [],
    ap (λ (ls : List (List ℕ)). ls ++ whole ∷ []) f.2 ∙ append_assoc f.0 f.1 (whole ∷ []),
    f.3,
  )

  front_of_either : (old mid : Kept D K d w) (lines : List (List ℕ)) (whole : List ℕ) (r : ReplicaValue)
      → IsSamePlace old mid → replica_of mid ≡ (all_answers lines (replica_of old)).replica
      → r ≡ (all_answers (lines ++ whole ∷ []) (replica_of old)).replica → (c : List ℕ)
      → IsOwnJournalOfEither mid (inputs_in mid) (inputs_of r.entries) c → IsOfFront old (lines ++ whole ∷ []) c
  front_of_either old mid lines whole r place first all c (inl j) = (
    lines,
    whole ∷ [],
    refl,
    own_journal old mid (inputs_in mid) (inputs_by lines (replica_of old)) c place
        (ap (λ (x : ReplicaValue). inputs_of x.entries) first) j,
  )
  front_of_either old mid lines whole r place first all c (inr j) = (
    lines ++ whole ∷ [],
    [],
    sym (append-nil (lines ++ whole ∷ [])),
    own_journal old mid (inputs_of r.entries) (inputs_by (lines ++ whole ∷ []) (replica_of old)) c place
        (ap (λ (x : ReplicaValue). inputs_of x.entries) all) j,
  )

  -- what a crash leaves within one line more
  within_line : (old mid new : Kept D K d w) (lines : List (List ℕ)) (whole : List ℕ) (r : ReplicaValue)
      → IsSamePlace old mid → replica_of mid ≡ (all_answers lines (replica_of old)).replica
      → r ≡ (all_answers (lines ++ whole ∷ []) (replica_of old)).replica
      → LeavesOnly w (disk_of (journal_of old)) (disk_of (journal_of mid)) (IsOfFront old lines)
      → LeavesOnly w (disk_of (journal_of mid)) (disk_of (journal_of new))
      (IsOwnJournalOfEither mid (inputs_in mid) (inputs_of r.entries))
      → LeavesOnly w (disk_of (journal_of old)) (disk_of (journal_of new)) (IsOfFront old (lines ++ whole ∷ []))
  within_line old mid new lines whole r place first all before only =
      joined w (disk_of (journal_of old)) (disk_of (journal_of mid)) (disk_of (journal_of new))
      (IsOfFront old (lines ++ whole ∷ []))
      (weakened w (disk_of (journal_of old)) (disk_of (journal_of mid)) (IsOfFront old lines)
      (IsOfFront old (lines ++ whole ∷ [])) before (front_more old lines whole))
      (weakened w (disk_of (journal_of mid)) (disk_of (journal_of new))
      (IsOwnJournalOfEither mid (inputs_in mid) (inputs_of r.entries)) (IsOfFront old (lines ++ whole ∷ [])) only
      (front_of_either old mid lines whole r place first all))

  -- a line was answered
  pub answers_line : {T : Type 0} (old mid new : Kept D K d w) (src src' : S) (dst mid_sink new_sink : W)
      (unread line more : List ℕ) (number : ℕ) (done : T) → IsUnderWay s k old mid src src' dst mid_sink unread number
      → IsInLine line → unread ≡ line ++ 10 ∷ more
      → IsLineAnswered w k (answer (counted number) line (replica_of mid)) mid new mid_sink new_sink
      (done_as done)
      → k.faults mid_sink ≤ k.faults new_sink
      → IsUnderWay s k old new src src' dst new_sink more (counted number)
  answers_line old mid new src src' dst mid_sink new_sink unread line more number done u each off a counts =
      let whole : IsLineOf u.rest line more = line_off u.rest unread line more u.unread_is each off in
      let effect = one_more old mid u.lines whole.whole line number whole.read_as u.number_is u.replica in
      let after = ap (λ (e : Effect). e.replica) effect in
      record {
        lines = u.lines ++ whole.whole ∷ [];
        rest = more;
        in_line = all_and u.lines whole.whole u.in_line whole.in_line;
        taken = subst (λ (xs : List ℕ). Consumes (s.left src) (s.left src') xs)
            (ap (λ (xs : List ℕ). ended u.lines ++ xs) whole.bytes_are ∙ sym (ended_more u.lines whole.whole more))
            u.taken;
        unread_is = kept_whole more;
        number_is = ap counted u.number_is ∙ sym (numbered_more 0 u.lines whole.whole);
        replica = a.replica ∙ sym after;
        kept = a.kept;
        place = place_on old mid new u.place a.place;
        moments = within_line old mid new u.lines whole.whole
            (answer (counted number) line (replica_of mid)).replica u.place u.replica (sym after) u.moments
            a.any_moment;
        put = subst (λ (xs : List ℕ). Appends (k.held dst) (k.held new_sink) xs)
            (sym (ap (λ (e : Effect). e.text) effect))
            (Appends-trans (k.held dst) (k.held mid_sink) (k.held new_sink)
            (all_answers u.lines (replica_of old)).text (answer (counted number) line (replica_of mid)).text u.put
            a.put);
        source_counts = u.source_counts;
        sink_counts = let less = u.sink_counts in omega (arith, less, counts);
        disk_counts = let first = u.disk_counts in let second = a.counts in omega (arith, first, second);
      }

  -- ---- how it ends

  -- the journal of all lines that were answered
  kept_so_far : (old now : Kept D K d w) (lines : List (List ℕ)) → IsAllKept w now
      → replica_of now ≡ (all_answers lines (replica_of old)).replica
      → IsKeptAs w now (inputs_by lines (replica_of old))
  kept_so_far old now lines kept replica =
      subst (λ (r : ReplicaValue). IsKeptAs w now (inputs_of r.entries)) replica kept.leaves

  kept_staged : (now new : Kept D K d w) (inputs : List Input) → IsKeptAs w now inputs → IsStaged now new
      → IsKeptAs w new inputs
  kept_staged now new inputs kept staged = λ c leaves.
      own_journal new now inputs inputs c (place_back now new staged.place) refl
      (kept c (subst (λ (j : Gated K). w.leaves (disk_of j) c) staged.journal leaves))

  moments_staged : (old now new : Kept D K d w) (lines : List (List ℕ)) → IsStaged now new
      → LeavesOnly w (disk_of (journal_of old)) (disk_of (journal_of now)) (IsOfFront old lines)
      → LeavesOnly w (disk_of (journal_of old)) (disk_of (journal_of new)) (IsOfFront old lines)
  moments_staged old now new lines staged only =
      subst (λ (j : Gated K). LeavesOnly w (disk_of (journal_of old)) (disk_of j) (IsOfFront old lines))
      (sym staged.journal) only

  -- no line more was done
  stops : (old now new : Kept D K d w) (src mid end : S) (dst dst' : W) (unread piece : List ℕ) (number : ℕ)
      (status : Status) → (u : IsUnderWay s k old now src mid dst dst' unread number)
      → Consumes (s.left mid) (s.left end) piece → (status ≡ Done → ⊥)
      → IsKeptBy w (replica_of old) new u.lines (u.rest ++ piece) status → IsSamePlace old new
      → LeavesOnly w (disk_of (journal_of old)) (disk_of (journal_of new))
      (IsOfFront old (begun status u.lines (u.rest ++ piece)))
      → AreAnswersPut status u.lines (u.rest ++ piece) (replica_of old)
      (IsAtTheEnd (s.left src) (s.left end) (u.rest ++ piece)) (k.held dst) (k.held dst')
      → IsCaused s k old new src end dst dst' u.lines (u.rest ++ piece) status
      → IsTalk s k old new src end dst dst' status
  stops old now new src mid end dst dst' unread piece number status u came undone kept place moments put caused =
      record {
        lines = u.lines;
        rest = u.rest ++ piece;
        heard = record {
          taken = subst (λ (xs : List ℕ). Consumes (s.left src) (s.left end) xs)
              (append_assoc (ended u.lines) u.rest piece)
              (Consumes-trans (s.left src) (s.left mid) (s.left end) (ended u.lines ++ u.rest) piece u.taken came);
          in_line = u.in_line;
          to_end = λ e. absurd (undone e);
        };
        kept = kept;
        place = place;
        any_moment = moments;
        put = put;
        caused = caused;
      }

  -- want of memory, where nothing was done since
  pub wants_memory : (old now : Kept D K d w) (src mid end : S) (dst dst' : W) (unread piece : List ℕ) (number : ℕ)
      → IsUnderWay s k old now src mid dst dst' unread number → Consumes (s.left mid) (s.left end) piece
      → IsTalk s k old now src end dst dst' Memory
  wants_memory old now src mid end dst dst' unread piece number u came =
      stops old now now src mid end dst dst' unread piece number Memory u came (λ e. cc)
      (kept_so_far old now u.lines u.kept u.replica) u.place u.moments u.put tt

  -- the source failed
  pub fails_to_read : (old now : Kept D K d w) (src mid end : S) (dst dst' : W) (unread piece : List ℕ)
      (number : ℕ) → IsUnderWay s k old now src mid dst dst' unread number
      → Consumes (s.left mid) (s.left end) piece → Rose (s.faults mid) (s.faults end)
      → IsTalk s k old now src end dst dst' Read
  fails_to_read old now src mid end dst dst' unread piece number u came rose =
      stops old now now src mid end dst dst' unread piece number Read u came (λ e. cc) (u.replica, u.kept) u.place
      u.moments u.put (rose_from (s.faults src) (s.faults mid) (s.faults end) u.source_counts rose)

  -- the replica behind the next line
  next_behind : (old mid : Kept D K d w) (lines : List (List ℕ)) (rest line more : List ℕ) (number : ℕ)
      → IsLineOf rest line more → number ≡ numbered 0 lines
      → replica_of mid ≡ (all_answers lines (replica_of old)).replica
      → (all_answers (and_next lines (rest ++ [])) (replica_of old)).replica
      ≡ (answer (counted number) line (replica_of mid)).replica
  next_behind old mid lines rest line more number l number_is replica =
      ap (λ (ls : List (List ℕ)). (all_answers ls (replica_of old)).replica) (next_is lines rest line more l)
      ∙ ap (λ (e : Effect). e.replica) (one_more old mid lines l.whole line number l.read_as number_is replica)

  -- it was done, and its answer not put whole
  fails_to_write : (old mid new : Kept D K d w) (src src' : S) (dst mid_sink new_sink : W) (unread line more : List ℕ)
      (number : ℕ) → (u : IsUnderWay s k old mid src src' dst mid_sink unread number) → IsLineOf u.rest line more
      → replica_of new ≡ (answer (counted number) line (replica_of mid)).replica → IsAllKept w new
      → IsSamePlace mid new
      → LeavesOnly w (disk_of (journal_of mid)) (disk_of (journal_of new)) (IsOwnJournalOfEither mid (inputs_in mid)
      (inputs_of (answer (counted number) line (replica_of mid)).replica.entries))
      → Rose (k.faults mid_sink) (k.faults new_sink)
      → AppendsPart (k.held mid_sink) (k.held new_sink) (answer (counted number) line (replica_of mid)).text
      → IsTalk s k old new src src' dst new_sink Write
  fails_to_write old mid new src src' dst mid_sink new_sink unread line more number u l replica kept place only rose
      part =
      let effect = one_more old mid u.lines l.whole line number l.read_as u.number_is u.replica in
      let after = ap (λ (e : Effect). e.replica) effect in
      record {
        lines = u.lines ++ l.whole ∷ [];
        rest = more;
        heard = record {
          taken = subst (λ (xs : List ℕ). Consumes (s.left src) (s.left src') xs)
              (ap (λ (xs : List ℕ). ended u.lines ++ xs) l.bytes_are ∙ sym (ended_more u.lines l.whole more)) u.taken;
          in_line = all_and u.lines l.whole u.in_line l.in_line;
          to_end = λ e. cc;
        };
        kept = (replica ∙ sym after, kept);
        place = place_on old mid new u.place place;
        any_moment = within_line old mid new u.lines l.whole (answer (counted number) line (replica_of mid)).replica
            u.place u.replica (sym after) u.moments only;
        put = record {
          front = (all_answers u.lines (replica_of old)).text;
          last = (answer (counted number) line (replica_of mid)).text;
          is_last = inl (
            u.lines,
            l.whole,
            refl,
            refl,
            ap (λ (e : Effect). e.text)
                (as_read old mid u.lines l.whole line number l.read_as u.number_is u.replica)
                ∙ ap (λ (n : ℕ). (answer n l.whole (all_answers u.lines (replica_of old)).replica).text)
                (sym (numbered_more 0 u.lines l.whole)),
          );
          count = part.0;
          part = part.1;
          put = Appends-trans (k.held dst) (k.held mid_sink) (k.held new_sink)
              (all_answers u.lines (replica_of old)).text
              (take part.0 (answer (counted number) line (replica_of mid)).text) u.put part.2;
        };
        caused = rose_from (k.faults dst) (k.faults mid_sink) (k.faults new_sink) u.sink_counts rose;
      }

  -- it was not done, for the disk failed
  fails_at : (old mid new : Kept D K d w) (src src' : S) (dst mid_sink : W) (unread line more : List ℕ) (number : ℕ)
      → CountsNow w → (u : IsUnderWay s k old mid src src' dst mid_sink unread number)
      → IsLineOf u.rest line more → IsSamePlace mid new
      → LeavesOnly w (disk_of (journal_of mid)) (disk_of (journal_of new)) (IsOwnJournalOfEither mid (inputs_in mid)
      (inputs_of (answer (counted number) line (replica_of mid)).replica.entries))
      → HasFailed w mid new → IsTalk s k old new src src' dst mid_sink Disk
  fails_at old mid new src src' dst mid_sink unread line more number counts_now u l place only failed =
      let effect = one_more old mid u.lines l.whole line number l.read_as u.number_is u.replica in
      let after = ap (λ (e : Effect). e.replica) effect in
      let next = next_is u.lines u.rest line more l in
      stops old mid new src src' src' dst mid_sink unread [] number Disk u (Consumes-nil (s.left src')) (λ e. cc)
      (λ c leaves. either_by old mid new u.lines (and_next u.lines (u.rest ++ []))
      (answer (counted number) line (replica_of mid)).replica place u.replica
      (sym (next_behind old mid u.lines u.rest line more number l u.number_is u.replica)) c
      (only.each c (counts_now (disk_of (journal_of new)) (w.clock (disk_of (journal_of mid))) c only.later leaves)))
      (place_on old mid new u.place place)
      (subst (λ (ls : List (List ℕ)). LeavesOnly w (disk_of (journal_of old)) (disk_of (journal_of new))
      (IsOfFront old ls)) (sym next)
      (within_line old mid new u.lines l.whole (answer (counted number) line (replica_of mid)).replica u.place
      u.replica (sym after) u.moments only))
      u.put
      (rose_from (w.faults (disk_of (journal_of old))) (w.faults (disk_of (journal_of mid)))
      (w.faults (disk_of (journal_of new))) u.disk_counts failed)
    where
      either_by : (old mid new : Kept D K d w) (lines with_next : List (List ℕ)) (r : ReplicaValue)
          → IsSamePlace mid new → replica_of mid ≡ (all_answers lines (replica_of old)).replica
          → r ≡ (all_answers with_next (replica_of old)).replica → (c : List ℕ)
          → IsOwnJournalOfEither mid (inputs_in mid) (inputs_of r.entries) c
          → IsOwnJournalOfEither new (inputs_by lines (replica_of old)) (inputs_by with_next (replica_of old)) c
      either_by old mid new lines with_next r place first all c j =
          either_journal new mid (inputs_in mid) (inputs_of r.entries) (inputs_by lines (replica_of old))
          (inputs_by with_next (replica_of old)) c (place_back mid new place)
          (ap (λ (x : ReplicaValue). inputs_of x.entries) first) (ap (λ (x : ReplicaValue). inputs_of x.entries) all) j

  -- it was not done, or its answer not put whole
  pub unanswered : {T : Type 0} (old mid new : Kept D K d w) (src src' : S) (dst mid_sink new_sink : W)
      (unread line more : List ℕ) (number : ℕ) (halt : Halt) → CountsNow w
      → IsUnderWay s k old mid src src' dst mid_sink unread number → IsInLine line → unread ≡ line ++ 10 ∷ more
      → IsLineAnswered w k (answer (counted number) line (replica_of mid)) mid new mid_sink new_sink
      (halted_as {T = T} halt)
      → IsTalk s k old new src src' dst new_sink (status_of halt)
  unanswered old mid new src src' dst mid_sink new_sink unread line more number Why.Write counts_now u each off a =
      fails_to_write old mid new src src' dst mid_sink new_sink unread line more number u
      (line_off u.rest unread line more u.unread_is each off) a.halted.0 a.halted.1 a.place a.any_moment a.halted.2
      a.halted.3
  unanswered old mid new src src' dst mid_sink new_sink unread line more number Why.Read counts_now u each off a =
      absurd a.halted.1
  unanswered old mid new src src' dst mid_sink new_sink unread line more number Why.Memory counts_now u each off a =
      let staged : IsStaged mid new = a.halted.1 in
      subst (λ (at : W). IsTalk s k old new src src' dst at Memory) (sym a.halted.0)
      (stops old mid new src src' src' dst mid_sink unread [] number Memory u (Consumes-nil (s.left src')) (λ e. cc)
      (kept_staged mid new (inputs_by u.lines (replica_of old)) (kept_so_far old mid u.lines u.kept u.replica) staged)
      (place_on old mid new u.place a.place) (moments_staged old mid new u.lines staged u.moments) u.put tt)
  unanswered old mid new src src' dst mid_sink new_sink unread line more number (Why.Full len) counts_now u each off a =
      let staged : IsStaged mid new = a.halted.1.1 in
      let l : IsLineOf u.rest line more = line_off u.rest unread line more u.unread_is each off in
      subst (λ (at : W). IsTalk s k old new src src' dst at (Full len)) (sym a.halted.0)
      (stops old mid new src src' src' dst mid_sink unread [] number (Full len) u (Consumes-nil (s.left src'))
      (λ e. cc)
      (kept_staged mid new (inputs_by u.lines (replica_of old)) (kept_so_far old mid u.lines u.kept u.replica) staged)
      (place_on old mid new u.place a.place) (moments_staged old mid new u.lines staged u.moments) u.put
      (subst (λ (r : ReplicaValue). IsFull new r len)
      (sym (next_behind old mid u.lines u.rest line more number l u.number_is u.replica)) a.halted.1.0))
  unanswered old mid new src src' dst mid_sink new_sink unread line more number Why.Disk counts_now u each off a =
      subst (λ (at : W). IsTalk s k old new src src' dst at Disk) (sym a.halted.0)
      (fails_at old mid new src src' dst mid_sink unread line more number counts_now u
      (line_off u.rest unread line more u.unread_is each off) a.place a.any_moment a.halted.1)

  -- ---- the end of the input

  -- at the end nothing is left, and what came behind the last LF has none
  at_the_end : (old now : Kept D K d w) (src mid end : S) (dst dst' : W) (unread : List ℕ) (number : ℕ)
      → (u : IsUnderWay s k old now src mid dst dst' unread number) → IsInLine unread → IsAtEnd (s.left mid)
      → Consumes (s.left mid) (s.left end) [] → IsAtTheEnd (s.left src) (s.left end) u.rest
  at_the_end old now src mid end dst dst' unread number u each at_end came = (
    end_told (s.left src) (s.left mid) (s.left end) (ended u.lines ++ u.rest) u.taken at_end came,
    came_in_line u.rest unread u.unread_is each,
  )

  taken_to_end : (old now : Kept D K d w) (src mid end : S) (dst dst' : W) (unread : List ℕ) (number : ℕ)
      → (u : IsUnderWay s k old now src mid dst dst' unread number) → Consumes (s.left mid) (s.left end) []
      → Consumes (s.left src) (s.left end) (ended u.lines ++ u.rest)
  taken_to_end old now src mid end dst dst' unread number u came =
      subst (λ (xs : List ℕ). Consumes (s.left src) (s.left end) xs) (append-nil (ended u.lines ++ u.rest))
      (Consumes-trans (s.left src) (s.left mid) (s.left end) (ended u.lines ++ u.rest) [] u.taken came)

  -- what is said of it
  cut_is : (old now : Kept D K d w) (src mid : S) (dst dst' : W) (unread : List ℕ) (number : ℕ)
      → (u : IsUnderWay s k old now src mid dst dst' unread number)
      → cut_answer number unread ≡ cut_answer (numbered 0 u.lines) u.rest
  cut_is old now src mid dst dst' unread number u =
      ap (λ (n : ℕ). cut_answer n unread) u.number_is ∙ cut_same (numbered 0 u.lines) u.rest unread u.unread_is

  -- it was said
  pub ends : (old now : Kept D K d w) (src mid end : S) (dst mid_sink new_sink : W) (unread : List ℕ) (number : ℕ)
      → IsUnderWay s k old now src mid dst mid_sink unread number → IsInLine unread → IsAtEnd (s.left mid)
      → Consumes (s.left mid) (s.left end) []
      → Appends (k.held mid_sink) (k.held new_sink) (cut_answer number unread)
      → IsTalk s k old now src end dst new_sink Done
  ends old now src mid end dst mid_sink new_sink unread number u each at_end came put =
      record {
        lines = u.lines;
        rest = u.rest;
        heard = record {
          taken = taken_to_end old now src mid end dst mid_sink unread number u came;
          in_line = u.in_line;
          to_end = λ _. at_the_end old now src mid end dst mid_sink unread number u each at_end came;
        };
        kept = (u.replica, u.kept);
        place = u.place;
        any_moment = u.moments;
        put = subst (λ (xs : List ℕ). Appends (k.held dst) (k.held new_sink)
            ((all_answers u.lines (replica_of old)).text ++ xs)) (cut_is old now src mid dst mid_sink unread number u)
            (Appends-trans (k.held dst) (k.held mid_sink) (k.held new_sink)
            (all_answers u.lines (replica_of old)).text (cut_answer number unread) u.put put);
        caused = tt;
      }

  -- or not, or in part
  pub ends_untold : (old now : Kept D K d w) (src mid end : S) (dst mid_sink new_sink : W) (unread : List ℕ)
      (number : ℕ) (halt : Halt) → IsUnderWay s k old now src mid dst mid_sink unread number → IsInLine unread
      → IsAtEnd (s.left mid) → Consumes (s.left mid) (s.left end) []
      → IsUncut k (cut_answer number unread) mid_sink new_sink halt
      → IsTalk s k old now src end dst new_sink (status_of halt)
  ends_untold old now src mid end dst mid_sink new_sink unread number Why.Write u each at_end came uncut =
      record {
        lines = u.lines;
        rest = u.rest;
        heard = record {
          taken = taken_to_end old now src mid end dst mid_sink unread number u came;
          in_line = u.in_line;
          to_end = λ e. cc;
        };
        kept = (u.replica, u.kept);
        place = u.place;
        any_moment = u.moments;
        put = record {
          front = (all_answers u.lines (replica_of old)).text;
          last = cut_answer number unread;
          is_last = inr (
            at_the_end old now src mid end dst mid_sink unread number u each at_end came,
            refl,
            cut_is old now src mid dst mid_sink unread number u,
          );
          count = uncut.1.0;
          part = uncut.1.1;
          put = Appends-trans (k.held dst) (k.held mid_sink) (k.held new_sink)
              (all_answers u.lines (replica_of old)).text (take uncut.1.0 (cut_answer number unread)) u.put uncut.1.2;
        };
        caused = rose_from (k.faults dst) (k.faults mid_sink) (k.faults new_sink) u.sink_counts uncut.0;
      }
  ends_untold old now src mid end dst mid_sink new_sink unread number Why.Memory u each at_end came uncut =
      subst (λ (at : W). IsTalk s k old now src end dst at Memory) (sym uncut)
      (wants_memory old now src mid end dst mid_sink unread [] number u came)
  ends_untold old now src mid end dst mid_sink new_sink unread number Why.Read u each at_end came uncut = absurd uncut
  ends_untold old now src mid end dst mid_sink new_sink unread number (Why.Full len) u each at_end came uncut =
      absurd uncut
  ends_untold old now src mid end dst mid_sink new_sink unread number Why.Disk u each at_end came uncut = absurd uncut

-- ---- what calls tell, as the lemmas above take it

-- what is told where there is nothing
pub none_told : {X : Type 0} (o : Option X) (P : Type 0) → ((x : X) → o ≡ Some x → ⊥) → IfNone o P → P
none_told None P none told = told
none_told (Some x) P none told = absurd (none x refl)

module _ {D K W T : Type 0} {d : doc.Ghosts D} {w : disk.Ghosts K} (k : sink.Ghosts W) where
  -- an answer to a line under other names
  pub answered_so : (r : ReplicaValue) (number n : ℕ) (line l : List ℕ) (old new : Kept D K d w) (before after : W)
      (result : Result T Halt) → n ≡ counted number → l ≡ line
      → IsLineAnswered w k (answer n l r) old new before after result
      → IsLineAnswered w k (answer (counted number) line r) old new before after result
  answered_so r number n line l old new before after result n_is l_is a =
      subst (λ (m : ℕ). IsLineAnswered w k (answer m line r) old new before after result) n_is
      (subst (λ (x : List ℕ). IsLineAnswered w k (answer n x r) old new before after result) l_is a)

same_halt : {T : Type 0} (h i : Halt) → ◌≡◌ {A = Result T Halt} (Err h) (Err i) → h ≡ i
same_halt h i e = cc

module _ {D K S W : Type 0} {d : doc.Ghosts D} {w : disk.Ghosts K} (s : source.Ghosts S) (k : sink.Ghosts W) where
  -- no more of the input came, for one of two reasons
  pub fill_fails : {T : Type 0} (old now : Kept D K d w) (src mid end : S) (dst dst' : W) (unread : List ℕ) (number : ℕ)
      (halt : Halt) → IsUnderWay s k old now src mid dst dst' unread number
      → ((piece : List ℕ) × Consumes (s.left mid) (s.left end) piece)
      → (◌≡◌ {A = Result T Halt} (Err halt) (Err Why.Read)) ⊎ (◌≡◌ {A = Result T Halt} (Err halt) (Err Why.Memory))
      → (◌≡◌ {A = Result T Halt} (Err halt) (Err Why.Read) → Rose (s.faults mid) (s.faults end))
      → IsTalk s k old now src end dst dst' (status_of halt)
  fill_fails {T} old now src mid end dst dst' unread number halt u came (inl is) rose =
      let read : halt ≡ Why.Read = same_halt {T = T} halt Why.Read is in
      subst (λ (h : Halt). IsTalk s k old now src end dst dst' (status_of h)) (sym read)
      (fails_to_read s k old now src mid end dst dst' unread came.0 number u came.1 (rose is))
  fill_fails {T} old now src mid end dst dst' unread number halt u came (inr is) rose =
      let memory : halt ≡ Why.Memory = same_halt {T = T} halt Why.Memory is in
      subst (λ (h : Halt). IsTalk s k old now src end dst dst' (status_of h)) (sym memory)
      (wants_memory s k old now src mid end dst dst' unread came.0 number u came.1)

  -- what was answered to a line that the end cuts off
  pub ends_ok : {T : Type 0} (old now : Kept D K d w) (src mid end : S) (dst mid_sink new_sink : W)
      (unread said : List ℕ) (number : ℕ) (result : Result T Halt)
      → IsUnderWay s k old now src mid dst mid_sink unread number → IsInLine unread → said ≡ unread
      → IsAtEnd (s.left mid) → Consumes (s.left mid) (s.left end) []
      → OnOk result (Appends (k.held mid_sink) (k.held new_sink) (cut_answer number said))
      → OnOk result (IsTalk s k old now src end dst new_sink Done)
  ends_ok old now src mid end dst mid_sink new_sink unread said number (Ok unit) u each is at_end came put =
      ends s k old now src mid end dst mid_sink new_sink unread number u each at_end came
      (subst (λ (xs : List ℕ). Appends (k.held mid_sink) (k.held new_sink) (cut_answer number xs)) is put)
  ends_ok old now src mid end dst mid_sink new_sink unread said number (Err halt) u each is at_end came put = tt

  pub ends_err : {T : Type 0} (old now : Kept D K d w) (src mid end : S) (dst mid_sink new_sink : W)
      (unread said : List ℕ) (number : ℕ) (result : Result T Halt)
      → IsUnderWay s k old now src mid dst mid_sink unread number → IsInLine unread → said ≡ unread
      → IsAtEnd (s.left mid) → Consumes (s.left mid) (s.left end) []
      → IfErr result (IsUncut k (cut_answer number said) mid_sink new_sink)
      → IfErr result (λ halt. IsTalk s k old now src end dst new_sink (status_of halt))
  ends_err old now src mid end dst mid_sink new_sink unread said number (Ok unit) u each is at_end came uncut = tt
  ends_err old now src mid end dst mid_sink new_sink unread said number (Err halt) u each is at_end came uncut =
      ends_untold s k old now src mid end dst mid_sink new_sink unread number halt u each at_end came
      (subst (λ (xs : List ℕ). IsUncut k (cut_answer number xs) mid_sink new_sink halt) is uncut)
