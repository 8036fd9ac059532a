-- From the close of a room to the books of its editors.
use Rattle.std.proofs.Common.{◌≡◌, ◌<◌, ◌≤◌, ◌+◌, ◌-◌, ◌++◌, ◌==◌, ℕ, zero, suc, Bool, true, false, List, []}
use Rattle.std.proofs.Common.{◌∷◌, length, map, take, drop, Option, Some, None, slice_get, if◌then◌else◌}
use Rattle.std.proofs.Common.{refl, sym, ap, ◌∙◌, subst, append-nil, arith, inl, inr}
use Rattle.std.proofs.lemmas.Bool.{eq-eqb}
use Rattle.std.proofs.lemmas.List.{length-map, length-append}
use Rattle.std.specs.List.{AllZip, AllByRecursion, concat}
use mathlib.Core.List.{IsPrefix}
use Rattle.td_base.specs.Lists.{In}
use Rattle.td_base.proofs.Lists.{filter_In, all_in}
use Rattle.td_op.specs.declared.entry.Entry.{Entry}
use Rattle.td_op.specs.declared.input.Input.TheVariants.{Local}
use Rattle.td_op.specs.declared.reply.Reply.{Reply}
use Rattle.td_op.specs.declared.request.Request.{Request}
use Rattle.td_doc.specs.Document.{text_of}
use Rattle.td_machine.specs.Machine.{start}
use Rattle.td_machine.specs.History.{Family, History, history, history_at, after}
use Rattle.td_replica.specs.Replica.{ReplicaValue}
use Rattle.td_view.specs.declared.publish.Publish.{Publish}
use Rattle.td_site.specs.Shows.{IsTrueOf}
use Rattle.td_site.proofs.Lists.{prefix_then}
use Rattle.td_line.specs.declared.ask.Ask.{Ask as Sent}
use Rattle.td_line.specs.declared.answer.Answer.{Answer}
use Rattle.td_line.specs.declared.report.Report.{Report}
use Rattle.td_line.specs.Calls.{entry_at, AreRecorded, answers_at, local_at}
use Rattle.td_line.specs.Editors.{EditorValue, polled}
use Rattle.td_world.specs.World.{WorldValue, AreSites, size, world_of, replica_from, family_of}
use Rattle.td_world.proofs.Replicas.{history_from}
use Rattle.td_room.specs.Workers.{WorkerValue}
use Rattle.td_room.specs.Rooms.{AreOfOneRoom, editors_of}
use Rattle.td_room.specs.Closing.{IsAnsweredAtHome, IsLooked, AreLooked, GoesOn, all_at, answers_of}
use Rattle.td_script.specs.declared.live.editor_line.EditorLine.{EditorLine}
use Rattle.td_trace.specs.declared.log.Did.{Did}
use Rattle.td_trace.specs.declared.log.Did.TheVariants.{Call, Look}
use Rattle.td_trace.specs.declared.log.EditorLog.{EditorLog}
use Rattle.td_trace.specs.Entries.{traced, traced_history, told_of, is_request, is_request_at, tells_request}
use Rattle.td_trace.specs.Editors.{Sofar, further, nothing_yet, AreDid, calls_at, site_calls_at}
use Rattle.td_trace.specs.Family.{text_past}
use Rattle.td_live.specs.declared.ask.Ask.{Ask}
use Rattle.td_live.specs.Asking.{request_of}
use Rattle.td_live.specs.Following.{Act, Called, Leads, AreActs, all_of, replied}
use Rattle.td_live.specs.Desks.{DeskValue, IsDesk, HasDoneLines, AwaitsNext, AreAnswered}
use Rattle.td_live.specs.Desks.{AreLooksAt, acts_by, acts_of, sofar_of}
use Rattle.td_live.specs.Books.{BookValue, IsBook, AreBooks, log_of, calls_done, with_answer, brought_up}
use Rattle.td_live.specs.Live.{IsLiveFamilyOf}
use Rattle.td_live.specs.Ending.{IsTraceFrom, IsLiveEnd}
use Rattle.td_live.specs.Drafts.{CanBringUp, book_of, all_brought_up}
use Rattle.td_live.proofs.Leading.{leads_call}
use Rattle.td_live.proofs.Logging.{acts_more, acts_call, answered_call, seen_call}

-- ---- an editor's calls, by its answers

calls_of_answers : (s : Sofar) (answers : List Answer) (did : List Did) → AreAnswered s.calls answers did
    → (sofar_of s did).calls ≡ s.calls + length answers
calls_of_answers s [] [] h = omega arith
calls_of_answers s (a ∷ answers) [] h = absurd (cc h)
calls_of_answers s [] (Call call entry ∷ did) h = absurd h
calls_of_answers s (a ∷ answers) (Call call entry ∷ did) h =
    let r : (sofar_of (further s (Call call entry)) did).calls ≡ s.calls + 1 + length answers =
    calls_of_answers (further s (Call call entry)) answers did h.2 in
    omega (arith, r)
calls_of_answers s answers (Look calls upto text ∷ did) h =
    calls_of_answers (further s (Look calls upto text)) answers did h.1

counts_of_answers : (k count : ℕ) (answers : List Answer) (did : List Did) → AreAnswered count answers did
    → calls_at k did ≡ answers_at k answers
counts_of_answers k count [] [] h = refl
counts_of_answers k count (a ∷ answers) [] h = absurd (cc h)
counts_of_answers k count [] (Call call entry ∷ did) h = absurd h
counts_of_answers k count (a ∷ answers) (Call call entry ∷ did) h =
    ap (λ (x : ℕ × ℕ). if x.0 == k then suc x.1 else x.1)
    (λ i. (sym h.1 i, counts_of_answers k (count + 1) answers did h.2 i))
counts_of_answers k count answers (Look calls upto text ∷ did) h = counts_of_answers k count answers did h.1

-- ---- what is recorded of them

-- the entry is a request
tells : Option Entry → Bool
tells None = false
tells (Some e) = is_request (told_of e.input)

tells_same : (entries : History) (k : ℕ) → tells_request (slice_get (traced_history entries) k)
    ≡ tells (slice_get entries k)
unfolding tells
tells_same [] k = refl
tells_same (x ∷ entries) zero = refl
tells_same (x ∷ entries) (suc k) = tells_same entries k

request_there : (entries : History) (k : ℕ) (request : Request) (reply : Reply)
    → entry_at entries k ≡ Some (record { input = Local request; reply = reply })
    → is_request_at (traced_history entries) k ≡ true
unfolding tells
request_there entries zero request reply e = absurd (cc e)
request_there entries (suc k) request reply e = tells_same entries k ∙ ap tells e

recorded_length : (entries : History) (last : ℕ) (asks : List Sent) (answers : List Answer)
    → AreRecorded entries last asks answers → length asks ≡ length answers
recorded_length entries last [] [] h = refl
recorded_length entries last [] (a ∷ answers) h = absurd h
recorded_length entries last (q ∷ asks) [] h = absurd h
recorded_length entries last (q ∷ asks) (a ∷ answers) h = ap suc (recorded_length entries a.entry asks answers h.3)

acts_of_answers : (entries : History) (last count : ℕ) (asks : List Sent) (answers : List Answer) (did : List Did)
    → AreRecorded entries last asks answers → AreAnswered count answers did
    → AreActs entries did (acts_by asks answers did)
acts_of_answers entries last count asks answers [] r h = refl
acts_of_answers entries last count asks [] (Call call k ∷ did) r h = absurd h
acts_of_answers entries last count [] (a ∷ answers) (Call call k ∷ did) r h = absurd r
acts_of_answers entries last count (q ∷ asks) (a ∷ answers) (Call call k ∷ did) r h = (
  subst (λ (j : ℕ). entry_at entries j ≡ Some (record { input = Local q.request; reply = a.reply })) h.1 r.2,
  acts_of_answers entries a.entry (count + 1) asks answers did r.3 h.2,
)
acts_of_answers entries last count asks answers (Look calls upto text ∷ did) r h =
    acts_of_answers entries last count asks answers did r h.1

-- each publish is the text behind so many of the entries
abbrev AreTrue : History → (ℕ → List ℕ) → List Publish → Type 0
AreTrue entries t seen = (p : Publish) → In p seen → (p.upto ≤ length entries) × (concat p.atoms ≡ t p.upto)

did_of_answers : (entries : History) (t : ℕ → List ℕ) (seen : List Publish) → AreTrue entries t seen → (s : Sofar)
    (asks : List Sent) (answers : List Answer) (did : List Did) → AreRecorded entries s.entry asks answers
    → AreAnswered s.calls answers did → AreLooksAt seen s.entry s.upto did → AreDid (traced_history entries) t s did
did_of_answers entries t seen true_of s asks answers [] r h l = tt
did_of_answers entries t seen true_of s asks [] (Call call k ∷ did) r h l = absurd h
did_of_answers entries t seen true_of s [] (a ∷ answers) (Call call k ∷ did) r h l = absurd r
did_of_answers entries t seen true_of s (q ∷ asks) (a ∷ answers) (Call call k ∷ did) r h l = (
  (
    h.0,
    subst (λ (j : ℕ). s.entry < j) h.1 r.1,
    subst (λ (j : ℕ). is_request_at (traced_history entries) j ≡ true) h.1
        (request_there entries a.entry q.request a.reply r.2),
  ),
  did_of_answers entries t seen true_of (further s (Call call k)) asks answers did
      (subst (λ (j : ℕ). AreRecorded entries j asks answers) h.1 r.3) h.2 l,
)
did_of_answers entries t seen true_of s asks answers (Look calls upto text ∷ did) r h l =
    let p = true_of l.2.0 l.2.1 in
    let long : length (traced_history entries) ≡ length entries = length-map entries traced in
    let few : l.2.0.upto ≤ length entries = p.0 in
    let at : l.2.0.upto ≡ upto = l.2.2 in (
      (
        h.0,
        omega (arith, long, few, at),
        l.0,
        l.1,
        sym l.2.3 ∙ p.1 ∙ ap t at,
      ),
      did_of_answers entries t seen true_of (further s (Look calls upto text)) asks answers did r h.1 l.3,
    )

-- ---- a desk with its answers

get_behind : {X : Type 0} (xs ys : List X) → slice_get (xs ++ ys) (length xs) ≡ slice_get ys 0
get_behind [] ys = refl
get_behind (x ∷ xs) ys = get_behind xs ys

-- the book tells of all these answers, and by them it has done what the desk has done of any lines
record IsUpToDate (d : DeskValue) (answers : List Answer) (b : BookValue) : Type 0 where
  home : b.home ≡ d.editor.home
  leads : (lines : List EditorLine) → HasDoneLines lines d
      → Leads (all_of lines) (acts_by d.editor.asks.sent answers b.did) b.rest
  entries : AreAnswered 0 answers b.did
  seen : AreLooksAt d.editor.reader.seen 0 0 b.did
  kept : IsPrefix d.did b.did

module _ (entries : History) (d : DeskValue) (answers : List Answer) (desk : IsDesk d)
    (recorded : AreRecorded entries 0 d.editor.asks.sent answers) where
  abbrev had : List Answer
  had = polled d.editor

  were : AreAnswered 0 (polled d.editor) d.did
  were = desk.answered

  number : calls_done d.did ≡ length (polled d.editor)
  number =
      let n : calls_done d.did ≡ 0 + length (polled d.editor) =
      calls_of_answers nothing_yet (polled d.editor) d.did were in
      omega (arith, n)

  many : (more : List Answer) → polled d.editor ++ more ≡ answers
      → length d.editor.asks.sent ≡ length d.editor.answers.taken + length more
  many more is =
      recorded_length entries 0 d.editor.asks.sent answers recorded ∙ sym (ap (λ (l : List Answer). length l) is)
      ∙ length-append (polled d.editor) more
      ∙ ap (λ (n : ℕ). n + length more) (length-map d.editor.answers.taken (λ (r : Report). r.answer))

  awaits : (a : Answer) (more : List Answer) → polled d.editor ++ a ∷ more ≡ answers → AwaitsNext d
  awaits a more is = let n = many (a ∷ more) is in desk.pending (omega (arith, n))

  -- at most one answer was not polled
  at_most_one : (a b : Answer) (more : List Answer) → polled d.editor ++ a ∷ b ∷ more ≡ answers → ⊥
  at_most_one a b more is =
      let w = awaits a (b ∷ more) is in
      let n : length d.editor.asks.sent ≡ length d.editor.answers.taken + length (a ∷ b ∷ more) =
      many (a ∷ b ∷ more) is in
      let t : length (polled d.editor) ≡ length d.editor.answers.taken =
      length-map d.editor.answers.taken (λ (r : Report). r.answer) in
      let o : length (polled d.editor) ≡ length w.before = w.one in
      let s : length d.editor.asks.sent ≡ length w.before + 1 =
      ap (λ (l : List Sent). length l) w.sent ∙ length-append w.before (w.ask ∷ []) in
      absurd (omega (arith, n, t, o, s))

  next_is : (more : List Answer) → polled d.editor ++ more ≡ answers
      → slice_get answers (calls_done d.did) ≡ slice_get more 0
  next_is more is =
      ap (λ (n : ℕ). slice_get answers n) number
      ∙ ap (λ (l : List Answer). slice_get l (length (polled d.editor))) (sym is) ∙ get_behind (polled d.editor) more

  pub can_bring_up : (more : List Answer) → polled d.editor ++ more ≡ answers → (a : Answer)
      → slice_get answers (calls_done d.did) ≡ Some a → 0 < length d.rest.asks
  can_bring_up [] is a e = absurd (none a (sym (next_is [] is) ∙ e))
    where
      none : (b : Answer) → None ≡ Some b → ⊥
      none b f = cc f
  can_bring_up (c ∷ more) is a e =
      let w = awaits c more is in
      let n : length d.rest.asks ≡ suc (length w.others) = ap (λ (l : List Ask). length l) w.asks in
      omega (arith, n)

  up_to_date : (more : List Answer) → polled d.editor ++ more ≡ answers
      → IsUpToDate d answers (brought_up answers (book_of d))
  up_to_date [] is =
      let none : book_of d ≡ brought_up answers (book_of d) =
      sym (ap (λ (o : Option Answer). with_answer o (book_of d)) (next_is [] is)) in
      let all : polled d.editor ≡ answers = sym (append-nil (polled d.editor)) ∙ is in
      subst (λ (x : List Answer × BookValue). IsUpToDate d x.0 x.1) (λ i. (all i, none i))
      (record {
        home = refl;
        leads = λ lines done. done;
        entries = were;
        seen = desk.seen;
        kept = ([], append-nil d.did);
      })
  up_to_date (a ∷ []) is =
      let w = awaits a [] is in
      let one : with_answer (Some a) (book_of d) ≡ brought_up answers (book_of d) =
      sym (ap (λ (o : Option Answer). with_answer o (book_of d)) (next_is (a ∷ []) is)) in
      let call : ℕ = calls_done d.did + 1 in
      let same : length (polled d.editor) ≡ length w.before = w.one in
      let acts : acts_of d ++ Called (request_of w.next d.rest.made) a.reply ∷ []
      ≡ acts_by d.editor.asks.sent (polled d.editor ++ a ∷ []) (d.did ++ Call call a.entry ∷ []) =
      ap (λ (q : Request). acts_of d ++ Called q a.reply ∷ []) (sym w.request)
      ∙ ap (λ (s : List Sent). acts_by s (polled d.editor) d.did ++ Called w.ask.request a.reply ∷ []) w.sent
      ∙ ap (λ (l : List Act). l ++ Called w.ask.request a.reply ∷ [])
      (acts_more w.before (w.ask ∷ []) (polled d.editor) 0 d.did were (omega (arith, same)))
      ∙ sym (acts_call w.before w.ask (polled d.editor) a 0 d.did call a.entry were same)
      ∙ ap (λ (s : List Sent). acts_by s (polled d.editor ++ a ∷ []) (d.did ++ Call call a.entry ∷ [])) (sym w.sent) in
      subst (λ (x : List Answer × BookValue). IsUpToDate d x.0 x.1) (λ i. (is i, one i))
      (record {
        home = refl;
        leads = λ lines done. subst (λ (x : List Act × List Ask). Leads (all_of lines) x.0 (replied a.reply d.rest x.1))
            (λ i. (acts i, sym (ap (λ (l : List Ask). drop 1 l) w.asks) i)) (leads_call a.reply done w.asks);
        entries = answered_call (polled d.editor) a 0 d.did call were (let n = number in omega (arith, n));
        seen = seen_call d.editor.reader.seen nothing_yet d.did call a.entry desk.seen;
        kept = (Call call a.entry ∷ [], refl);
      })
  up_to_date (a ∷ b ∷ more) is = absurd (at_most_one a b more is)

-- ---- all desks

-- what the desk's editor has seen are texts of its site
pub record IsReady (replicas : List ReplicaValue) (d : DeskValue) : Type 0 where
  pub some : 0 < d.editor.home
  pub within : d.editor.home ≤ length replicas
  pub seen : AllByRecursion (IsTrueOf (replica_from replicas (d.editor.home - 1))) d.editor.reader.seen

module _ (rs : List ReplicaValue) (sites : AreSites rs) where
  abbrev family : Family
  family = family_of (world_of rs)

  size_is : length (family_of (world_of rs)) ≡ length rs
  size_is = length-map rs (λ (r : ReplicaValue). r.entries)

  true_there : (home : ℕ) → 0 < home → home ≤ length rs → (seen : List Publish)
      → AllByRecursion (IsTrueOf (replica_from rs (home - 1))) seen
      → AreTrue (history (family_of (world_of rs)) home) (text_past (family_of (world_of rs)) home) seen
  true_there home some within seen all p inside =
      let r : ReplicaValue = replica_from rs (home - 1) in
      let t : IsTrueOf r p = all_in (IsTrueOf r) seen all p inside in
      let h : history (family_of (world_of rs)) home ≡ r.entries = history_from rs (home - 1) in
      let place : home - 1 < length rs = omega (arith, some, within) in
      let one : home - 1 + 1 ≡ home = omega (arith, some) in
      let site : r.machine.site ≡ home = (sites (home - 1) place).0 ∙ one in
      let size : r.machine.size ≡ length (family_of (world_of rs)) = (sites (home - 1) place).1 ∙ sym size_is in (
        subst (λ (es : History). p.upto ≤ length es) (sym h) t.within,
        ap concat t.atoms
            ∙ ap (λ (x : ℕ × ℕ × History). text_of (after (start x.0 x.1) (take p.upto x.2)).doc)
            (λ i. (site i, size i, sym h i)),
      )

  book_up : (lines : List EditorLine) (d : DeskValue) (answers : List Answer) (b : BookValue) → HasDoneLines lines d
      → IsReady rs d → AreRecorded (replica_from rs (d.editor.home - 1)).entries 0 d.editor.asks.sent answers
      → IsUpToDate d answers b → IsBook (family_of (world_of rs)) lines b
  book_up lines d answers b done ready recorded u =
      let h : (replica_from rs (d.editor.home - 1)).entries ≡ history (family_of (world_of rs)) b.home =
      sym (ap (history (family_of (world_of rs))) u.home ∙ history_from rs (d.editor.home - 1)) in
      let r : AreRecorded (history (family_of (world_of rs)) b.home) 0 d.editor.asks.sent answers =
      subst (λ (es : History). AreRecorded es 0 d.editor.asks.sent answers) h recorded in
      let t : AreTrue (history (family_of (world_of rs)) b.home) (text_past (family_of (world_of rs)) b.home)
      d.editor.reader.seen =
      subst (λ (n : ℕ). AreTrue (history (family_of (world_of rs)) n) (text_past (family_of (world_of rs)) n)
      d.editor.reader.seen)
      (sym u.home) (true_there d.editor.home ready.some ready.within d.editor.reader.seen ready.seen) in
      record {
        logged = record {
          some = subst (λ (n : ℕ). 0 < n) (sym u.home) ready.some;
          within = subst (λ (x : ℕ × ℕ). x.0 ≤ x.1) (λ i. (sym u.home i, sym size_is i)) ready.within;
          did = did_of_answers (history (family_of (world_of rs)) b.home) (text_past (family_of (world_of rs)) b.home)
              d.editor.reader.seen t nothing_yet d.editor.asks.sent answers b.did r u.entries u.seen;
        };
        acts = acts_by d.editor.asks.sent answers b.did;
        are = acts_of_answers (history (family_of (world_of rs)) b.home) 0 0 d.editor.asks.sent answers b.did r
            u.entries;
        leads = u.leads lines done;
      }

  up : (d : DeskValue) (answers : List Answer) → IsDesk d → IsAnsweredAtHome rs d.editor answers
      → IsUpToDate d answers (brought_up answers (book_of d))
  up d answers desk answered =
      up_to_date (replica_from rs (d.editor.home - 1)).entries d answers desk answered.recorded
      answered.polled_first.0 answered.polled_first.1

  pub all_can : (ds : List DeskValue) (all : List (List Answer)) → AllByRecursion IsDesk ds
      → AllZip (IsAnsweredAtHome rs) (map (λ (d : DeskValue). d.editor) ds) all → AllZip CanBringUp all (map book_of ds)
  all_can [] [] h z = tt
  all_can [] (answers ∷ all) h z = absurd z
  all_can (d ∷ ds) [] h z = absurd z
  all_can (d ∷ ds) (answers ∷ all) h z = (
    can_bring_up (replica_from rs (d.editor.home - 1)).entries d answers h.0 z.0.recorded z.0.polled_first.0
        z.0.polled_first.1,
    all_can ds all h.1 z.1,
  )

  each_up : (lines : List (List EditorLine)) (ds : List DeskValue) (all : List (List Answer))
      → AllZip HasDoneLines lines ds → AllByRecursion IsDesk ds → AllByRecursion (IsReady rs) ds
      → AllZip (IsAnsweredAtHome rs) (map (λ (d : DeskValue). d.editor) ds) all
      → AllZip (IsBook (family_of (world_of rs))) lines (all_brought_up all (map book_of ds))
  each_up [] [] [] done h ready z = tt
  each_up [] [] (answers ∷ all) done h ready z = absurd z
  each_up [] (d ∷ ds) all done h ready z = absurd done
  each_up (own ∷ lines) [] all done h ready z = absurd done
  each_up (own ∷ lines) (d ∷ ds) [] done h ready z = absurd z
  each_up (own ∷ lines) (d ∷ ds) (answers ∷ all) done h ready z = (
    book_up own d answers (brought_up answers (book_of d)) done.0 ready.0 z.0.recorded (up d answers h.0 z.0),
    each_up lines ds all done.1 h.1 ready.1 z.1,
  )

  pub low_up : (n : ℕ) (ds : List DeskValue) (all : List (List Answer)) → length rs ≡ n → AllByRecursion IsDesk ds
      → AllByRecursion (IsReady rs) ds → AllZip (IsAnsweredAtHome rs) (map (λ (d : DeskValue). d.editor) ds) all
      → AllByRecursion (λ (b : BookValue). b.home ≤ n) (all_brought_up all (map book_of ds))
  low_up n [] [] same h ready z = tt
  low_up n [] (answers ∷ all) same h ready z = absurd z
  low_up n (d ∷ ds) [] same h ready z = absurd z
  low_up n (d ∷ ds) (answers ∷ all) same h ready z =
      let u = up d answers h.0 z.0 in (
        subst (λ (x : ℕ × ℕ). x.0 ≤ x.1) (λ i. (sym u.home i, same i)) ready.0.within,
        low_up n ds all same h.1 ready.1 z.1,
      )

  counts_up : (site k : ℕ) (ds : List DeskValue) (all : List (List Answer)) → AllByRecursion IsDesk ds
      → AllZip (IsAnsweredAtHome rs) (map (λ (d : DeskValue). d.editor) ds) all
      → site_calls_at site k (map log_of (all_brought_up all (map book_of ds)))
      ≡ all_at k (answers_of site (map (λ (d : DeskValue). d.editor) ds) all)
  counts_up site k [] [] h z = refl
  counts_up site k [] (answers ∷ all) h z = absurd z
  counts_up site k (d ∷ ds) [] h z = absurd z
  counts_up site k (d ∷ ds) (answers ∷ all) h z =
      let u = up d answers h.0 z.0 in
      let b : BookValue = brought_up answers (book_of d) in
      let calls : calls_at k b.did ≡ answers_at k answers = counts_of_answers k 0 answers b.did u.entries in
      let rest = counts_up site k ds all h.1 z.1 in
      ap (λ (x : ℕ × ℕ × ℕ). if x.0 == site then x.1 + x.2 else x.2) (λ i. (u.home i, calls i, rest i))
      ∙ at (d.editor.home == site) answers (answers_of site (map (λ (e : DeskValue). e.editor) ds) all)
    where
      at : (t : Bool) (own : List Answer) (others : List (List Answer))
          → (if t then answers_at k own + all_at k others else all_at k others)
          ≡ all_at k (if t then own ∷ others else others)
      at true own others = refl
      at false own others = refl

  pub books_up : (ws : List WorkerValue) (lines : List (List EditorLine)) (ds : List DeskValue)
      (all : List (List Answer)) → length rs ≡ length ws → AllZip HasDoneLines lines ds
      → AllByRecursion IsDesk ds → AllByRecursion (IsReady rs) ds
      → AllZip (IsAnsweredAtHome rs) (map (λ (d : DeskValue). d.editor) ds) all
      → ((place k : ℕ) → place < length ws
      → all_at k (answers_of (place + 1) (map (λ (d : DeskValue). d.editor) ds) all)
      ≡ local_at (replica_from rs place).entries k)
      → AreBooks (family_of (world_of rs)) lines (all_brought_up all (map book_of ds))
  books_up ws lines ds all same done h ready z only =
      record {
        each = each_up lines ds all done h ready z;
        counted = λ site k some within.
            let low : site ≤ length rs = subst (λ (n : ℕ). site ≤ n) size_is within in
            let one : site ≡ site - 1 + 1 = omega (arith, some) in
            counts_up site k ds all h z
            ∙ ap (λ (s : ℕ). all_at k (answers_of s (map (λ (d : DeskValue). d.editor) ds) all)) one
            ∙ only (site - 1) k (omega (arith, some, low, same))
            ∙ ap (λ (es : History). local_at es k) (sym (history_from rs (site - 1)));
      }

  pub homes_up : (ds : List DeskValue) (all : List (List Answer)) → AllByRecursion IsDesk ds
      → AllZip (IsAnsweredAtHome rs) (map (λ (d : DeskValue). d.editor) ds) all
      → map (λ (b : BookValue). b.home) (all_brought_up all (map book_of ds))
      ≡ map (λ (d : DeskValue). d.editor.home) ds
  homes_up [] [] h z = refl
  homes_up [] (answers ∷ all) h z = absurd z
  homes_up (d ∷ ds) [] h z = absurd z
  homes_up (d ∷ ds) (answers ∷ all) h z =
      let u = up d answers h.0 z.0 in
      let rest = homes_up ds all h.1 z.1 in
      λ i. u.home i ∷ rest i

  pub kept_up : (ds : List DeskValue) (all : List (List Answer)) (logs : List EditorLog) → AllByRecursion IsDesk ds
      → AllZip (IsAnsweredAtHome rs) (map (λ (d : DeskValue). d.editor) ds) all
      → AllZip (λ (b : BookValue) (log : EditorLog). IsPrefix b.did log.did) (all_brought_up all (map book_of ds)) logs
      → AllZip (λ (d : DeskValue) (log : EditorLog). IsPrefix d.did log.did) ds logs
  kept_up [] [] [] h z k = tt
  kept_up [] [] (log ∷ logs) h z k = absurd k
  kept_up [] (answers ∷ all) logs h z k = absurd z
  kept_up (d ∷ ds) [] logs h z k = absurd z
  kept_up (d ∷ ds) (answers ∷ all) [] h z k = absurd k
  kept_up (d ∷ ds) (answers ∷ all) (log ∷ logs) h z k =
      let u = up d answers h.0 z.0 in (
        prefix_then d.did (brought_up answers (book_of d)).did log.did u.kept k.0,
        kept_up ds all logs h.1 z.1 k.1,
      )

-- ---- what the editors have seen

all_front : {X : Type 0} (P : X → Type 0) (xs ys : List X) → AllByRecursion P (xs ++ ys) → AllByRecursion P xs
all_front P [] ys h = tt
all_front P (x ∷ xs) ys h = (h.0, all_front P xs ys h.1)

-- a worker and the replica at a place
record AtPlace (R : WorkerValue → ReplicaValue → Type 0) (ws : List WorkerValue) (rs : List ReplicaValue) (place : ℕ)
    : Type 0 where
  worker : WorkerValue
  there : slice_get ws place ≡ Some worker
  are : R worker (replica_from rs place)

at_place : (R : WorkerValue → ReplicaValue → Type 0) (ws : List WorkerValue) (rs : List ReplicaValue) (place : ℕ)
    → AllZip R ws rs → place < length ws → AtPlace R ws rs place
at_place R [] rs place z less = absurd (omega (arith, less))
at_place R (w ∷ ws) [] place z less = absurd z
at_place R (w ∷ ws) (r ∷ rs) zero z less = record { worker = w; there = refl; are = z.0 }
at_place R (w ∷ ws) (r ∷ rs) (suc place) z less =
    let p = at_place R ws rs place z.1 (omega (arith, less)) in
    record { worker = p.worker; there = p.there; are = p.are }

module _ (ws : List WorkerValue) (es : List EditorValue) (rs : List ReplicaValue) (room : AreOfOneRoom ws es)
    (looks : AllZip (AreLooked es) ws rs) where
  seen_true : (e : EditorValue) → In e es → (0 < e.home) × (e.home ≤ length ws)
      → AllByRecursion (IsTrueOf (replica_from rs (e.home - 1))) e.reader.seen
  seen_true e inside home =
      let some : 0 < e.home = home.0 in
      let within : e.home ≤ length ws = home.1 in
      let p = at_place (AreLooked es) ws rs (e.home - 1) looks (omega (arith, some, within)) in
      let w : WorkerValue = p.worker in
      let one : e.home ≡ e.home - 1 + 1 = omega (arith, some) in
      let site : e.home ≡ w.site.replica.machine.site = one ∙ sym (room.sites (e.home - 1) w p.there).site in
      let l : IsLooked (editors_of w.site.replica.machine.site es) w (replica_from rs (e.home - 1)) = p.are in
      let own : In e (editors_of w.site.replica.machine.site es) =
      filter_In (λ (x : EditorValue). x.home == w.site.replica.machine.site) e es inside
      (eq-eqb e.home w.site.replica.machine.site site) in
      let begins : IsPrefix e.reader.seen l.publishes =
      all_in (λ (x : EditorValue). IsPrefix x.reader.seen l.publishes) (editors_of w.site.replica.machine.site es)
      l.seen
      e own in
      all_front (IsTrueOf (replica_from rs (e.home - 1))) e.reader.seen begins.0
      (subst (λ (ps : List Publish). AllByRecursion (IsTrueOf (replica_from rs (e.home - 1))) ps) (sym begins.1)
      l.looks_true)

  pub all_ready : (ds : List DeskValue) → length rs ≡ length ws
      → ((e : EditorValue) → In e (map (λ (d : DeskValue). d.editor) ds) → In e es) → AllByRecursion (IsReady rs) ds
  all_ready [] same inside = tt
  all_ready (d ∷ ds) same inside =
      let own : In d.editor es = inside d.editor (inl refl) in
      let home = all_in (λ (e : EditorValue). (0 < e.home) × (e.home ≤ length ws)) es room.homes d.editor own in (
        record {
          some = home.0;
          within = subst (λ (n : ℕ). d.editor.home ≤ n) (sym same) home.1;
          seen = seen_true d.editor own home;
        },
        all_ready ds same (λ e i. inside e (inr i)),
      )

-- ---- the histories

histories_on : (ws : List WorkerValue) (rs : List ReplicaValue) (family : Family) → length family ≡ length rs
    → AllZip GoesOn ws rs
    → ((place : ℕ) → place < length rs → IsPrefix (replica_from rs place).entries (history_at family place))
    → AllZip (λ (w : WorkerValue) (h : History). IsPrefix w.site.replica.entries h) ws family
histories_on [] [] [] same z f = tt
histories_on [] [] (h ∷ family) same z f = absurd (omega (arith, same))
histories_on [] (r ∷ rs) family same z f = absurd z
histories_on (w ∷ ws) [] family same z f = absurd z
histories_on (w ∷ ws) (r ∷ rs) [] same z f = absurd (omega (arith, same))
histories_on (w ∷ ws) (r ∷ rs) (h ∷ family) same z f = (
  prefix_then w.site.replica.entries r.entries h z.0.grown (f 0 (omega arith)),
  histories_on ws rs family (omega (arith, same)) z.1 (λ place less. f (suc place) (omega (arith, less))),
)

pub ended : (ws : List WorkerValue) (lines : List (List EditorLine)) (ds : List DeskValue) (rs : List ReplicaValue)
    (all : List (List Answer))
    (bytes : List ℕ) → AreSites rs → length rs ≡ length ws → AllZip GoesOn ws rs → AllByRecursion IsDesk ds
    → AllZip (IsAnsweredAtHome rs) (map (λ (d : DeskValue). d.editor) ds) all
    → IsTraceFrom lines (family_of (world_of rs)) (all_brought_up all (map book_of ds)) bytes
    → IsLiveEnd ws lines ds bytes
ended ws lines ds rs all bytes sites same on desks answered g =
    let size : length g.family ≡ length rs = g.grown.size ∙ size_is rs sites in
    record {
      family = g.family;
      logs = g.logs;
      size = size ∙ same;
      live = subst (λ (hs : List ℕ). IsLiveFamilyOf hs lines g.family g.logs)
          (homes_up rs sites ds all desks answered) g.live;
      traced = g.traced;
      histories = histories_on ws rs g.family size on
          (λ place less.
          let many : length (family_of (world_of rs)) ≡ length rs = size_is rs sites in
          let back : place + 1 - 1 ≡ place = omega arith in
          let p : IsPrefix (history (family_of (world_of rs)) (place + 1)) (history g.family (place + 1)) =
          g.grown.histories (place + 1) (omega arith) (omega (arith, less, many)) in
          subst (λ (x : History × History). IsPrefix x.0 x.1)
          (λ i. (
            (history_from rs (place + 1 - 1) ∙ ap (λ (k : ℕ). (replica_from rs k).entries) back) i,
            ap (history_at g.family) back i,
          ))
          p);
      kept = kept_up rs sites ds all g.logs desks answered g.kept;
    }

-- ---- a room that is closed

module _ (ws : List WorkerValue) (ds : List DeskValue) (rs : List ReplicaValue) (all : List (List Answer))
    (es : List EditorValue) (bs : List BookValue) (room : AreOfOneRoom ws (map (λ (d : DeskValue). d.editor) ds))
    (es_are : es ≡ map (λ (d : DeskValue). d.editor) ds) (bs_are : bs ≡ map book_of ds)
    (desks : AllByRecursion IsDesk ds) (sites : AreSites rs) (same : length rs ≡ length ws)
    (answered : AllZip (IsAnsweredAtHome rs) es all) where
  theirs : AllZip (IsAnsweredAtHome rs) (map (λ (d : DeskValue). d.editor) ds) all
  theirs = subst (λ (l : List EditorValue). AllZip (IsAnsweredAtHome rs) l all) es_are answered

  pub can_all : AllZip CanBringUp all bs
  can_all = subst (λ (l : List BookValue). AllZip CanBringUp all l) (sym bs_are) (all_can rs sites ds all desks theirs)

  module _ (ups : List BookValue) (w : WorldValue) (ups_are : ups ≡ all_brought_up all bs) (w_is : w ≡ world_of rs)
      (only : (place k : ℕ) → place < length ws
      → all_at k (answers_of (place + 1) es all) ≡ local_at (replica_from rs place).entries k)
      (looks : AllZip (AreLooked es) ws rs) where
    all_ready_there : AllByRecursion (IsReady rs) ds
    all_ready_there =
        all_ready ws (map (λ (d : DeskValue). d.editor) ds) rs room
        (subst (λ (l : List EditorValue). AllZip (AreLooked l) ws rs) es_are looks) ds same (λ e i. i)

    ups_is : ups ≡ all_brought_up all (map book_of ds)
    ups_is = ups_are ∙ ap (all_brought_up all) bs_are

    books_there : (lines : List (List EditorLine)) → AllZip HasDoneLines lines ds → AreBooks (family_of w) lines ups
    books_there lines done =
        subst (λ (x : WorldValue × List BookValue). AreBooks (family_of x.0) lines x.1)
        (λ i. (sym w_is i, sym ups_is i))
        (books_up rs sites ws lines ds all same done desks all_ready_there theirs
        (λ place k less.
        ap (λ (l : List EditorValue). all_at k (answers_of (place + 1) l all)) (sym es_are) ∙ only place k less))

    pub homes_there : AllByRecursion (λ (b : BookValue). b.home ≤ size w) ups
    homes_there =
        subst (λ (books : List BookValue). AllByRecursion (λ (b : BookValue). b.home ≤ size w) books) (sym ups_is)
        (low_up rs sites (size w) ds all (sym (ap size w_is)) desks all_ready_there theirs)

    pub concluded : (bytes : List ℕ) → AllZip GoesOn ws rs
        → ((lines : List (List EditorLine)) → AreBooks (family_of w) lines ups
        → IsTraceFrom lines (family_of w) ups bytes)
        → (lines : List (List EditorLine)) → AllZip HasDoneLines lines ds → IsLiveEnd ws lines ds bytes
    concluded bytes on g lines done =
        ended ws lines ds rs all bytes sites same on desks theirs
        (subst (λ (x : WorldValue × List BookValue). IsTraceFrom lines (family_of x.0) x.1 bytes)
        (λ i. (w_is i, ups_is i)) (g lines (books_there lines done)))
