-- What an operation that comes into the log leaves of the parts.
use Rattle.std.proofs.Common.{◌≡◌, ◌≢◌, ◌≤◌, ◌+◌, ◌-◌, ◌++◌, ℕ, List, [], ◌∷◌, Bool, true, length, if◌then◌else◌}
use Rattle.std.proofs.Common.{Option, Some, None, suc, refl, sym, ap, ◌∙◌, subst, inl, inr, arith}
use Rattle.std.proofs.lemmas.Bool.{leb-true}
use Rattle.std.specs.Prelude.{IsTrue, IfSome, IsSome, slice_get}
use Rattle.std.specs.List.{filter_map, cons_option}
use Rattle.std.proofs.lemmas.List.{length-set}
use Rattle.std.specs.Option.{option_map, option_and_then, is_some}
use Rattle.td_base.specs.Value.{DotValue}
use Rattle.td_base.specs.Lists.{In}
use Rattle.td_base.proofs.Equals.{same_dot_other}
use Rattle.td_clock.specs.Vector.{vector_get, vector_has, vector_bump}
use Rattle.td_path.specs.declared.slot.Slot.{Slot}
use Rattle.td_op.specs.declared.body.Body.{Body}
use Rattle.td_op.specs.declared.body.Body.TheVariants.{Insert, Delete, Propose, Commit, Abort}
use Rattle.td_op.specs.Op.{OpValue, IsOp}
use Rattle.td_machine.specs.Counts.{counts, IsNext, IsInTurn}
use Rattle.td_machine.specs.Machine.{Machine}
use Rattle.td_machine.specs.Making.{holds_after}
use Rattle.td_machine.specs.Log.{Committed, commit_at, commit_in, commits, committed, proposed, proposed_slot}
use Rattle.td_machine.proofs.Counting.{numbered}
use Rattle.td_machine.proofs.OwnProposals.{had_counts, proposal_in}
use Rattle.td_causal.specs.Waiting.{Numbers, ops_waiting, others_than, put_in_order, IsStored, AreStored}
use Rattle.td_causal.proofs.Kept.{All-others_than, All-put_in_order, ops-others_than, ops-put_in_order}
use Rattle.td_causal.proofs.Kept.{seen, ops-more, stored-more}
use Rattle.td_machine.specs.Ready.{put_waiting, without}
use Rattle.td_doc.specs.Document.{DocRow}
use Rattle.td_vote.specs.Commits.{in_order}
use Rattle.td_vote.specs.Holds.{HoldsValue}
use Rattle.td_coord.specs.Tally.{TallyValue}
use Rattle.td_history.specs.Past.{Past, IsUndecided, IsNextIn, decided_by, with_made, with_taken, resumed, kept}
use Rattle.td_replica.specs.declared.state.Origin.{Origin}
use Rattle.td_replica.specs.declared.state.Origin.TheVariants.{Here, There, Waiting as Waited}
use Rattle.td_replica.specs.Parts.{with_note, machine_of, state_of, waiting_too, ComesFrom}
use Rattle.td_replica.specs.Parts.{IsFromOutside, number_from, ops_with, IsState, CommitsNamed, logged}
use Rattle.td_replica.specs.Parts.{commits_with, commits_after, commits_after_body, AreKept}

-- the operation may be the next of its site in the log
pub next_in : (have : List ℕ) (log : List OpValue) (x : OpValue) → have ≡ counts (length have) log
    → IsInTurn (length have) log → IsNext have x → IfSome (decided_by x.body) (IsUndecided log)
    → IsNextIn (length have) x.dot.site log x
next_in have log x count turn next decides =
    record {
      deps = next.size;
      own = refl;
      next = numbered (length have) x log (subst (λ (v : List ℕ). IsNext v x) count next) turn;
      decides = decides;
    }

-- ---- commits

-- the operation is new in the log
abbrev pub IsNewIn : List OpValue → OpValue → Type 0
IsNewIn log x = (p : DotValue) → is_some (proposed_slot p log) ≡ true → x.dot ≢ p

pub new_in : (n : ℕ) (log : List OpValue) (x : OpValue) → IsInTurn n log → IsNext (counts n log) x → IsNewIn log x
new_in n log x turn next p h e =
    let q = proposal_in p log h in
    let had : IsTrue (vector_has (counts n log) q.0.dot) = had_counts n log turn q.0 q.1 in
    let le : x.dot.seq ≤ vector_get (counts n log) x.dot.site =
    leb-true x.dot.seq (vector_get (counts n log) x.dot.site)
    (subst (λ (d : DotValue). IsTrue (vector_has (counts n log) d)) (q.2 ∙ sym e) had) in
    let number : x.dot.seq ≡ vector_get (counts n log) x.dot.site + 1 = next.next in
    absurd (omega (arith, le, number))

module _ (log : List OpValue) (x : OpValue) (new : IsNewIn log x) where
  same_slot : (p : DotValue) → is_some (proposed_slot p log) ≡ true → proposed_slot p (x ∷ log) ≡ proposed_slot p log
  same_slot p h =
      ap (λ (b : Bool). if b then proposed x.body else proposed_slot p log) (same_dot_other x.dot p (new p h))

  abbrev NamedIn : List OpValue → Option DotValue → Type 0
  NamedIn ops p = IfSome p (λ q. IsSome (proposed_slot q ops))

  same_commit : (dot : DotValue) (p : Option DotValue) → NamedIn log p
      → option_map (commit_at dot) (option_and_then (λ (q : DotValue). proposed_slot q (x ∷ log)) p)
      ≡ option_map (commit_at dot) (option_and_then (λ (q : DotValue). proposed_slot q log) p)
  same_commit dot None h = refl
  same_commit dot (Some q) h = ap (option_map (commit_at dot)) (same_slot q h)

  abbrev known_commit : OpValue → Option Committed
  known_commit y = commit_in log y

  -- the commits of the older ones are as they were
  same_commits : (ops : List OpValue) → ((y : OpValue) → In y ops → NamedIn log (committed y.body))
      → filter_map (commit_in (x ∷ log)) ops ≡ filter_map (commit_in log) ops
  same_commits [] named = refl
  same_commits (y ∷ ops) named =
      ap (λ (c : Option Committed). cons_option c (filter_map (commit_in (x ∷ log)) ops))
      (same_commit y.dot (committed y.body) (named y (inl refl)))
      ∙ ap (λ (cs : List Committed). cons_option (commit_in log y) cs) (same_commits ops (λ z i. named z (inr i)))

  -- the newest is none
  none : (body : Body) → x.body ≡ body → committed body ≡ None
      → in_order (cons_option (commit_in (x ∷ log) x) (commits log)) ≡ in_order (commits log)
  none body e c =
      ap (λ (p : Option DotValue). in_order (cons_option
      (option_map (commit_at x.dot) (option_and_then (λ (q : DotValue). proposed_slot q (x ∷ log)) p)) (commits log)))
      (ap committed e ∙ c)

  -- the commit of the newest, if it is one
  newest : (body : Body) → x.body ≡ body → IfSome (decided_by body) (IsUndecided log)
      → in_order (cons_option (commit_in (x ∷ log) x) (commits log))
      ≡ commits_after_body x.dot body log (in_order (commits log))
  newest (Commit p) e u =
      ap (λ (c : Option Committed). in_order (cons_option c (commits log)))
      (ap (λ (b : Body). option_map (commit_at x.dot)
      (option_and_then (λ (q : DotValue). proposed_slot q (x ∷ log)) (committed b))) e
      ∙ ap (option_map (commit_at x.dot)) (same_slot p u.proposed))
      ∙ told (proposed_slot p log)
    where
      told : (slot : Option Slot)
          → in_order (cons_option (option_map (commit_at x.dot) slot) (commits log))
          ≡ commits_with x.dot slot (in_order (commits log))
      told None = refl
      told (Some s) = refl
  newest (Insert slot run) e u = none (Insert slot run) e refl
  newest (Delete z) e u = none (Delete z) e refl
  newest (Propose slot) e u = none (Propose slot) e refl
  newest (Abort p) e u = none (Abort p) e refl

  pub commits_noted : CommitsNamed log → IfSome (decided_by x.body) (IsUndecided log)
      → in_order (commits (x ∷ log)) ≡ commits_after x log (in_order (commits log))
  commits_noted named u =
      ap (λ (cs : List Committed). in_order (cons_option (commit_in (x ∷ log) x) cs)) (same_commits log named)
      ∙ newest x.body refl u

  still_named : (p : Option DotValue) → NamedIn log p → NamedIn (x ∷ log) p
  still_named None h = tt
  still_named (Some q) h = subst (λ (slot : Option Slot). IsSome slot) (sym (same_slot q h)) h

  own_named : (body : Body) → IfSome (decided_by body) (IsUndecided log) → NamedIn log (committed body)
  own_named (Commit p) u = u.proposed
  own_named (Abort p) u = tt
  own_named (Insert slot run) u = tt
  own_named (Delete z) u = tt
  own_named (Propose slot) u = tt

  pub named_more : CommitsNamed log → IfSome (decided_by x.body) (IsUndecided log) → CommitsNamed (x ∷ log)
  named_more named u y (inl e) =
      subst (λ (z : OpValue). NamedIn (x ∷ log) (committed z.body)) (sym e)
      (still_named (committed x.body) (own_named x.body u))
  named_more named u y (inr i) = still_named (committed y.body) (named y i)

-- ---- the state

pub noted : (site : ℕ) (rows : List DocRow) (have : List ℕ) (waiting : Numbers) (holds holds2 : HoldsValue)
    (tally : TallyValue) (past : Past) (origin : Origin) (x : OpValue)
    → IsState site rows have waiting holds tally past → IsNext have x
    → IfSome (decided_by x.body) (IsUndecided past.log) → holds2.commits ≡ commits_after x past.log holds.commits
    → AreKept rows holds2 → IsState site rows (vector_bump have x.dot.site) waiting holds2 tally (logged origin x past)
noted site rows have waiting holds holds2 tally past origin x s next u cs kept = at origin
  where
    n : ℕ
    n = length have

    first : IsNext (counts n past.log) x
    first = subst (λ (v : List ℕ). IsNext v x) s.counted next

    fresh : IsNewIn past.log x
    fresh = new_in n past.log x s.in_turn first

    long : length (vector_bump have x.dot.site) ≡ n
    long = length-set have (x.dot.site - 1) (vector_get have x.dot.site + 1)

    -- whatever else the past is, where it has this log and these operations
    with_past : (after : Past) → after.site ≡ past.site → after.size ≡ past.size → after.log ≡ x ∷ past.log
        → AreStored n after.ops waiting → IsState site rows (vector_bump have x.dot.site) waiting holds2 tally after
    with_past after a b c d =
        record {
          some = s.some;
          within = subst (λ (k : ℕ). site ≤ k) (sym long) s.within;
          past_site = a ∙ s.past_site;
          past_size = b ∙ s.past_size ∙ sym long;
          own = s.own;
          tally_size = s.tally_size ∙ sym long;
          counted = ap (λ (v : List ℕ). vector_bump v x.dot.site) s.counted
              ∙ ap (λ (k : ℕ). counts k (x ∷ past.log)) (sym long)
              ∙ ap (counts (length (vector_bump have x.dot.site))) (sym c);
          in_turn = subst (λ (k : ℕ). IsInTurn k after.log) (sym long)
              (subst (IsInTurn n) (sym c) (first, s.in_turn));
          commits = cs ∙ ap (commits_after x past.log) s.commits ∙ sym (commits_noted past.log x fresh s.named u)
              ∙ ap (λ (log : List OpValue). in_order (commits log)) (sym c);
          kept = kept;
          named = subst CommitsNamed (sym c) (named_more past.log x fresh s.named u);
          stored = subst (λ (k : ℕ). AreStored k after.ops waiting) (sym long) d;
        }

    at : (from : Origin) → IsState site rows (vector_bump have x.dot.site) waiting holds2 tally (logged from x past)
    at Here = with_past (with_made x past) refl refl refl (stored-more n past.ops (x ∷ []) waiting s.stored)
    at There = with_past (with_taken x past) refl refl refl (stored-more n past.ops (x ∷ []) waiting s.stored)
    at (Waited number) = with_past (resumed x past) refl refl refl s.stored

-- ---- what waits

-- as many numbers are kept as operations wait
pub stored_length : (n : ℕ) (ops : List OpValue) (waiting : Numbers) → AreStored n ops waiting
    → length waiting ≡ length (ops_waiting ops waiting)
stored_length n ops [] stored = refl
stored_length n ops (w ∷ waiting) stored =
    ap suc (stored_length n ops waiting stored.1)
    ∙ sym (ap length (seen n ops w waiting stored.0))

pub number_of_new : (ops : List OpValue) (x : OpValue) → slice_get (ops ++ x ∷ []) (length ops) ≡ Some x
number_of_new [] x = refl
number_of_new (y ∷ ops) x = number_of_new ops x

-- an operation that comes from outside has its number afterwards
pub found_from : (origin : Origin) (x : OpValue) (site : ℕ) (ops : List OpValue) → IsFromOutside origin
    → ComesFrom origin x site ops → slice_get (ops_with origin x ops) (number_from origin ops) ≡ Some x
found_from Here x site ops out comes = absurd out
found_from There x site ops out comes = number_of_new ops x
found_from (Waited number) x site ops out comes = comes

module _ (site : ℕ) (rows : List DocRow) (have : List ℕ) (waiting : Numbers) (holds : HoldsValue)
    (tally : TallyValue) (past : Past) (s : IsState site rows have waiting holds tally past) where
  pub forgotten : (d : DotValue) → IsState site rows have (others_than d waiting) holds tally past
  forgotten d =
      record {
        some = s.some;
        within = s.within;
        past_site = s.past_site;
        past_size = s.past_size;
        own = s.own;
        tally_size = s.tally_size;
        counted = s.counted;
        in_turn = s.in_turn;
        commits = s.commits;
        kept = s.kept;
        named = s.named;
        stored = All-others_than (IsStored (length have) past.ops) d waiting s.stored;
      }

  pub waits_too : (x : OpValue) → IsOp x → length x.deps ≡ length have
      → IsState site rows have (put_in_order (x.dot, length past.ops) waiting) holds tally (kept x past)
  waits_too x is sized =
      record {
        some = s.some;
        within = s.within;
        past_site = s.past_site;
        past_size = s.past_size;
        own = s.own;
        tally_size = s.tally_size;
        counted = s.counted;
        in_turn = s.in_turn;
        commits = s.commits;
        kept = s.kept;
        named = s.named;
        stored = All-put_in_order (IsStored (length have) (past.ops ++ x ∷ [])) (x.dot, length past.ops) waiting
            (record { op = x; found = number_of_new past.ops x; dot = refl; is = is; size = sized })
            (stored-more (length have) past.ops (x ∷ []) waiting s.stored);
      }

  -- what waits is as it was where one more is stored
  pub waits_on : (origin : Origin) (x : OpValue)
      → ops_waiting (logged origin x past).ops waiting ≡ ops_waiting past.ops waiting
  waits_on Here x = ops-more (length have) past.ops (x ∷ []) waiting s.stored
  waits_on There x = ops-more (length have) past.ops (x ∷ []) waiting s.stored
  waits_on (Waited number) x = refl

  waits_behind : (x : OpValue)
      → ops_waiting (past.ops ++ x ∷ []) (put_in_order (x.dot, length past.ops) waiting)
      ≡ put_waiting x (ops_waiting past.ops waiting)
  waits_behind x =
      ops-put_in_order (length have) (past.ops ++ x ∷ []) (length past.ops) x waiting
      (stored-more (length have) past.ops (x ∷ []) waiting s.stored) (number_of_new past.ops x)
      ∙ ap (put_waiting x) (ops-more (length have) past.ops (x ∷ []) waiting s.stored)

  pub note_machine : (origin : Origin) (x : OpValue) (holds2 : HoldsValue)
      → holds2.holds ≡ holds_after x.body holds.holds
      → machine_of site rows (vector_bump have x.dot.site) waiting holds2 tally (logged origin x past)
      ≡ with_note origin x (machine_of site rows have waiting holds tally past)
  note_machine origin x holds2 held = at origin
    where
      long : length (vector_bump have x.dot.site) ≡ length have
      long = length-set have (x.dot.site - 1) (vector_get have x.dot.site + 1)

      at : (from : Origin)
          → machine_of site rows (vector_bump have x.dot.site) waiting holds2 tally (logged from x past)
          ≡ with_note from x (machine_of site rows have waiting holds tally past)
      at Here = λ i.
          record (machine_of site rows (vector_bump have x.dot.site) waiting holds2 tally (with_made x past))
          { size = long i; waiting = waits_on Here x i; holds = held i }
      at There = λ i.
          record (machine_of site rows (vector_bump have x.dot.site) waiting holds2 tally (with_taken x past))
          { size = long i; waiting = waits_on There x i; holds = held i }
      at (Waited number) = λ i.
          record (machine_of site rows (vector_bump have x.dot.site) waiting holds2 tally (resumed x past))
          { size = long i; holds = held i }

  pub forget_state : (d : DotValue)
      → state_of site rows have (others_than d waiting) holds tally past
      ≡ record (state_of site rows have waiting holds tally past) {
        machine = record (machine_of site rows have waiting holds tally past)
            { waiting = without d (ops_waiting past.ops waiting) };
        waiting = others_than d waiting;
      }
  forget_state d = λ i.
      record (state_of site rows have (others_than d waiting) holds tally past) {
        machine = record (machine_of site rows have waiting holds tally past)
            { waiting = ops-others_than (length have) past.ops d waiting s.stored i };
      }

  pub wait_state : (x : OpValue)
      → state_of site rows have (put_in_order (x.dot, length past.ops) waiting) holds tally (kept x past)
      ≡ waiting_too x (length past.ops) (state_of site rows have waiting holds tally past)
  wait_state x = λ i.
      record (waiting_too x (length past.ops) (state_of site rows have waiting holds tally past)) {
        machine = record (machine_of site rows have waiting holds tally past) { waiting = waits_behind x i };
      }

-- ---- the document is as before

pub doc_noted : (origin : Origin) (x : OpValue) (m : Machine) → (with_note origin x m).doc ≡ m.doc
doc_noted Here x m = refl
doc_noted There x m = refl
doc_noted (Waited number) x m = refl
