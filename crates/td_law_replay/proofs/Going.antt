-- The replay of what is told of a consistent family goes on to the end, in whatever order the sites are taken.
use Rattle.std.proofs.Common.{◌≡◌, ◌≢◌, ◌<◌, ◌≤◌, ◌-◌, ◌++◌, ◌||◌, List, [], ◌∷◌, ℕ, Bool, true}
use Rattle.std.proofs.Common.{false, not, if◌then◌else◌, nat_eq, nat_lt, length, filter, Option}
use Rattle.std.proofs.Common.{Some, None, refl, sym, ap, ◌∙◌, subst, true≢false}
use Rattle.std.proofs.lemmas.Bool.{eq-eqb, ne_eqb}
use Rattle.std.proofs.lemmas.List.{length-map}
use Rattle.td_base.specs.Value.{DotValue}
use Rattle.td_base.specs.Lists.{In}
use Rattle.td_base.proofs.Lists.{In-back, In-filter}
use Rattle.td_base.proofs.Equals.{same_dot_refl, same_dot_true}
use Rattle.td_base.proofs.Searches.{find_In, find_none}
use Rattle.td_op.specs.declared.entry.Entry.{Entry}
use Rattle.td_op.specs.declared.input.Input.{Input}
use Rattle.td_op.specs.declared.input.Input.TheVariants.{Local, Take, Next}
use Rattle.td_op.specs.declared.message.Message.{Message}
use Rattle.td_op.specs.declared.message.Message.TheVariants.{Op as AnOp, Vote as AVote}
use Rattle.td_op.specs.declared.request.Request.{Request}
use Rattle.td_op.specs.declared.vote.Vote.{Vote}
use Rattle.td_op.specs.declared.reply.Reply.{Reply}
use Rattle.td_op.specs.declared.reply.Reply.TheVariants.{Made, Cancelled, Held, Position, Gone, Limit, NotOpen, New}
use Rattle.td_op.specs.declared.reply.Reply.TheVariants.{Later, Repeat, Unfit, Taken, Dropped, Idle}
use Rattle.td_op.specs.declared.reply.Why.{Why}
use Rattle.td_op.specs.declared.reply.Why.TheVariants.{Size, Own}
use Rattle.td_op.specs.Op.{OpValue}
use Rattle.td_op.specs.Input.{IsInput}
use Rattle.td_clock.specs.Vector.{vector_get}
use Rattle.td_machine.specs.Ready.{is_dot_of, next_ready, is_ready, is_had, waits}
use Rattle.td_machine.specs.Machine.{Machine, start, made}
use Rattle.td_machine.specs.Taking.{Stepped, stepped, misfit, take, forget, waited, next_of, fit_step, keep_waiting}
use Rattle.td_machine.specs.Step.{step}
use Rattle.td_machine.specs.History.{History, Family, IsReached, IsLegalFrom, IsConsistent, IsOpOf}
use Rattle.td_machine.specs.History.{MayCome, after, history, machine, machine_after, log_of}
use Rattle.td_machine.proofs.StepKinds.{least_in}
use Rattle.td_machine.proofs.Walk.{offered}
use Rattle.td_machine.proofs.Induction.{built_at, reached_at, log_grows, the_end}
use Rattle.td_machine.proofs.Reached.{waits_of_sites}
use Rattle.td_machine.proofs.Family.{sent_ops, made_at}
use Rattle.td_law_logs.proofs.Moments.{legal_entry, moment_of}
use Rattle.td_law_logs.proofs.Bases.{one_op}
use Rattle.td_law_commitment.proofs.Traces.{sender_legal}
use Rattle.td_law_agreement.specs.Unfit.{NothingUnfit}
use Rattle.td_trace.specs.Entries.{told_of, traced_history, traced_family}
use Rattle.td_trace.specs.declared.entry.TraceEntry.{TraceEntry}
use Rattle.td_trace.specs.declared.told_input.ToldInput.{ToldInput}
use Rattle.td_trace.specs.declared.told_input.ToldInput.TheVariants.{TookOp}
use Rattle.td_law_replay.specs.Counting.{made_deps}
use Rattle.td_law_replay.specs.Judging.{States, begin, made_op, Lost, Waits, Steps, take_waiting, use_of}
use Rattle.td_law_replay.specs.Judging.{judge_offer, judge_taken, judge_next, judge}
use Rattle.td_law_replay.specs.Replies.{is_new, taken_of, NotUnfit}
use Rattle.td_law_replay.proofs.Outlined.{outlined_step, local_outlined, vote_outlined, new_outlined, known_outlined}
use Rattle.td_law_replay.proofs.Outlined.{IsResumed, resumed_here, resumed_outlined, idle_outlined}
use Rattle.td_law_replay.proofs.Matching.{take_parts}
use Rattle.td_law_replay.proofs.Made.{made_deps_of}
use Rattle.td_law_replay.proofs.Telling.{entries_there}
use Rattle.td_law_replay.specs.Ended.{IsBehind, outlined}

-- ---- replies

pub fit_of : (reply : Reply) → ((d : DotValue) (why : Why) → (reply ≢ Unfit why) × (reply ≢ Dropped d why))
    → NotUnfit reply
fit_of (Made dot) h = tt
fit_of Cancelled h = tt
fit_of (Held by_) h = tt
fit_of (Position len) h = tt
fit_of (Gone x) h = tt
fit_of (Limit many undecided) h = tt
fit_of (NotOpen p) h = tt
fit_of New h = tt
fit_of Later h = tt
fit_of Repeat h = tt
fit_of (Unfit why) h = absurd ((h (record { site = 0; seq = 0 }) why).0 refl)
fit_of (Taken dot) h = tt
fit_of (Dropped dot why) h = absurd ((h dot why).1 refl)
fit_of Idle h = tt

pub new_is : (reply : Reply) → is_new reply ≡ true → reply ≡ New
new_is New e = refl
new_is (Made dot) e = absurd (true≢false (sym e))
new_is Cancelled e = absurd (true≢false (sym e))
new_is (Held by_) e = absurd (true≢false (sym e))
new_is (Position len) e = absurd (true≢false (sym e))
new_is (Gone x) e = absurd (true≢false (sym e))
new_is (Limit many undecided) e = absurd (true≢false (sym e))
new_is (NotOpen p) e = absurd (true≢false (sym e))
new_is Later e = absurd (true≢false (sym e))
new_is Repeat e = absurd (true≢false (sym e))
new_is (Unfit why) e = absurd (true≢false (sym e))
new_is (Taken dot) e = absurd (true≢false (sym e))
new_is (Dropped dot why) e = absurd (true≢false (sym e))
new_is Idle e = absurd (true≢false (sym e))

pub taken_is : (reply : Reply) (d : DotValue) → taken_of reply ≡ Some d → reply ≡ Taken d
taken_is (Taken dot) d e = cc
taken_is New d e = absurd cc
taken_is (Made dot) d e = absurd cc
taken_is Cancelled d e = absurd cc
taken_is (Held by_) d e = absurd cc
taken_is (Position len) d e = absurd cc
taken_is (Gone x) d e = absurd cc
taken_is (Limit many undecided) d e = absurd cc
taken_is (NotOpen p) d e = absurd cc
taken_is Later d e = absurd cc
taken_is Repeat d e = absurd cc
taken_is (Unfit why) d e = absurd cc
taken_is (Dropped dot why) d e = absurd cc
taken_is Idle d e = absurd cc

pub idle_is : (m : Machine) → NotUnfit (step m Next).reply → taken_of (step m Next).reply ≡ None
    → (step m Next).reply ≡ Idle
idle_is m f e = found (next_ready m.have m.waiting) f e
  where
    found : (o : Option OpValue) → NotUnfit (next_of o m).reply → taken_of (next_of o m).reply ≡ None
        → (next_of o m).reply ≡ Idle
    found None f e = refl
    found (Some x) f e = fitted (misfit x m) f e
      where
        fitted : (why : Option Why) → NotUnfit (waited why x (forget x m)).reply
            → taken_of (waited why x (forget x m)).reply ≡ None
            → (waited why x (forget x m)).reply ≡ Idle
        fitted (Some why) f e = absurd f
        fitted None f e = absurd cc

pub new_takes : (x : OpValue) (m : Machine) → (step m (Take (AnOp x))).reply ≡ New
    → (step m (Take (AnOp x))).machine ≡ take x m
new_takes x m e =
    at (not (nat_eq (length x.deps) m.size)) (is_had m.have x || waits x.dot m.waiting)
    (nat_eq x.dot.site m.site || nat_lt (made m) (vector_get x.deps m.site)) (not (is_ready m.have x)) (misfit x m) e
  where
    at : (sized again own late : Bool) (why : Option Why)
        → (if sized then stepped (Unfit Size) m
        else (if again then stepped Repeat m
        else (if own then stepped (Unfit Own) m
        else (if late then stepped Later (keep_waiting x m) else fit_step why x m)))).reply ≡ New
        → (if sized then stepped (Unfit Size) m
        else (if again then stepped Repeat m
        else (if own then stepped (Unfit Own) m
        else (if late then stepped Later (keep_waiting x m) else fit_step why x m)))).machine ≡ take x m
    at true again own late why e = absurd cc
    at false true own late why e = absurd cc
    at false false true late why e = absurd cc
    at false false false true why e = absurd cc
    at false false false false (Some why) e = absurd cc
    at false false false false None e = refl

-- ---- where the replay of a family is

abbrev pub Follows : Family → States → Type 0
Follows family states = (site : ℕ) → 0 < site → site ≤ length family → IsBehind family site (states site)

pub many : (family : Family) → length (traced_family family) ≡ length family
many family = length-map family traced_history

pub follows_begin : (family : Family) → Follows family (begin (traced_family family))
follows_begin family site some within =
    record {
      front = [];
      back = history family site;
      splits = refl;
      machine_is = ap (λ (n : ℕ). start site n) (many family);
      left = entries_there family (site - 1);
    }

-- the next entry uses an operation that is not yet made
pub record Waiting (family : Family) (states : States) (site : ℕ) (front : History) (e : Entry) : Type 0 where
  pub op : OpValue
  pub of_family : IsOpOf family op
  pub other : op.dot.site ≢ site
  pub takes : (step (machine_after family site front) e.input).machine.log
      ≡ op ∷ (machine_after family site front).log
  pub unmade : made_op states op.dot ≡ None

pub data Looked (family : Family) (states : States) (site : ℕ) (front : History) (e : Entry) : Type 0 where
  Ready : judge (traced_family family) states site (outlined (machine_after family site front))
      (told_of e.input) e.reply
      ≡ Steps (outlined_step (step (machine_after family site front) e.input))
      → Looked family states site front e
  Blocked : judge (traced_family family) states site (outlined (machine_after family site front))
      (told_of e.input) e.reply
      ≡ Waits
      → Waiting family states site front e → Looked family states site front e

legal_reply : (m : Machine) (front : History) (e : Entry) (back : History) → IsLegalFrom m (front ++ e ∷ back)
    → (step (after m front) e.input).reply ≡ e.reply
legal_reply m [] e back l = l.1
legal_reply m (f ∷ front) e back l = legal_reply (step m f.input).machine front e back l.2

module _ (family : Family) (c : IsConsistent family) (unfit : NothingUnfit family) (states : States)
    (follows : Follows family states) where
  abbrev n : ℕ
  n = length family

  abbrev all : List (List TraceEntry)
  all = traced_family family

  -- an operation that is sent is one of the family
  sent_op : (x : OpValue) → 0 < x.dot.site → In (AnOp x) (machine family x.dot.site).sent → IsOpOf family x
  sent_op x some i =
      let within : x.dot.site ≤ n = sender_legal family c x.dot.site (AnOp x) some i in
      record {
        site = x.dot.site;
        some = some;
        within = within;
        inside = (sent_ops (machine family x.dot.site)
            (built_at family c (the_end family x.dot.site some within)) x i).0;
      }

  -- what the replay finds under a dot is the operation of the family
  found_is : (x y : OpValue) → IsOpOf family x → made_op states x.dot ≡ Some y → y ≡ x
  found_is x y o e =
      let p = made_at family c x o in
      let s : IsBehind family x.dot.site (states x.dot.site) = follows x.dot.site p.0 p.1 in
      let f = find_In (is_dot_of x.dot) (states x.dot.site).machine.log y e in
      let inside : In y (machine_after family x.dot.site s.front).log =
      subst (λ (m : Machine). In y m.log) s.machine_is f.0 in
      let t = moment_of family x.dot.site p.0 p.1 s.front s.back s.splits in
      let g = log_grows family c t in
      let there : In y (log_of family x.dot.site) =
      subst (λ (l : List OpValue). In y l) (sym g.1)
      (In-back y g.0 (machine_after family x.dot.site s.front).log inside) in
      one_op family c y x (record { site = x.dot.site; some = p.0; within = p.1; inside = there }) o
      (same_dot_true y.dot x.dot f.1)

  -- what is not found is not yet in the log of its site
  pub not_yet : (x : OpValue) (p : (0 < x.dot.site) × (x.dot.site ≤ n))
      → made_op states x.dot ≡ None → In x (machine_after family x.dot.site (follows x.dot.site p.0 p.1).front).log → ⊥
  not_yet x p e i =
      let s : IsBehind family x.dot.site (states x.dot.site) = follows x.dot.site p.0 p.1 in
      let inside : In x (states x.dot.site).machine.log =
      subst (λ (m : Machine). In x m.log) (sym s.machine_is) i in
      true≢false (sym (same_dot_refl x.dot) ∙ find_none (is_dot_of x.dot) (states x.dot.site).machine.log x e inside)

  -- ---- one entry of one site

  module _ (site : ℕ) (some : 0 < site) (within : site ≤ n) (front : History) (e : Entry) (back : History)
      (splits : history family site ≡ front ++ e ∷ back) where
    abbrev m : Machine
    m = machine_after family site front

    pub reply_is : (step m e.input).reply ≡ e.reply
    reply_is =
        legal_reply (start site n) front e back
        (subst (λ (h : History). IsLegalFrom (start site n) h) splits (c.legal.legal site some within))

    valid : IsInput e.input
    valid =
        legal_entry (start site n) front e back
        (subst (λ (h : History). IsLegalFrom (start site n) h) splits (c.legal.legal site some within))

    pub fit : NotUnfit e.reply
    fit =
        fit_of e.reply
        (unfit (record {
          site = site;
          some = some;
          within = within;
          front = front;
          entry = e;
          back = back;
          splits = splits;
        }))

    here : IsReached m
    here = reached_at family c (moment_of family site some within front (e ∷ back) splits)

    may : (message : Message) → e.input ≡ Take message → MayCome family site m message
    may message k = c.takes site front e back message some within splits k

    look_used : (x : OpValue) → IsOpOf family x → x.dot.site ≢ site → (s : OpValue → Stepped)
        → s x ≡ outlined_step (step m e.input)
        → (step m e.input).machine.log ≡ x ∷ m.log
        → judge all states site (outlined m) (told_of e.input) e.reply ≡ use_of (made_op states x.dot) s
        → Looked family states site front e
    look_used x o apart s is takes judged = at (made_op states x.dot) refl
      where
        at : (f : Option OpValue) → made_op states x.dot ≡ f → Looked family states site front e
        at None k =
            Blocked (judged ∙ ap (λ (f : Option OpValue). use_of f s) k)
            (record { op = x; of_family = o; other = apart; takes = takes; unmade = k })
        at (Some y) k =
            Ready
            (judged
            ∙ ap (λ (f : Option OpValue). use_of f s) k
            ∙ ap (λ (z : OpValue). Steps (s z)) (found_is x y o k)
            ∙ ap (λ (t : Stepped). Steps t) is)

    look_op : (x : OpValue) → e.input ≡ Take (AnOp x) → Looked family states site front e
    look_op x k =
        let w : MayCome family site m (AnOp x) = may (AnOp x) k in
        let v = subst (λ (i : Input). IsInput i) k valid in
        let o : IsOpOf family x = sent_op x v.dot.site.least w.sent in
        let told : told_of e.input ≡ TookOp x.dot = ap told_of k in
        let stepped_is : step m e.input ≡ step m (Take (AnOp x)) = ap (step m) k in
        let replied : (step m (Take (AnOp x))).reply ≡ e.reply = ap (λ (t : Stepped). t.reply) (sym stepped_is)
        ∙ reply_is in
        let judged : judge all states site (outlined m) (told_of e.input) e.reply
        ≡ judge_offer (Some x.deps) (made_op states x.dot) (is_new e.reply) x.dot (outlined m) =
        ap (λ (d : ToldInput). judge all states site (outlined m) d e.reply) told
        ∙ ap
        (λ (b : Bool).
        if b then Lost else judge_offer (made_deps all x.dot) (made_op states x.dot) (is_new e.reply) x.dot
        (outlined m))
        (ne_eqb x.dot.site site w.another)
        ∙ ap
        (λ (t : Option (List ℕ)). judge_offer t (made_op states x.dot) (is_new e.reply) x.dot (outlined m))
        (made_deps_of family c x o) in
        at o w.another stepped_is replied judged (is_new e.reply) refl
      where
        at : IsOpOf family x → x.dot.site ≢ site → step m e.input ≡ step m (Take (AnOp x))
            → (step m (Take (AnOp x))).reply ≡ e.reply
            → judge all states site (outlined m) (told_of e.input) e.reply
            ≡ judge_offer (Some x.deps) (made_op states x.dot) (is_new e.reply) x.dot (outlined m)
            → (b : Bool) → is_new e.reply ≡ b → Looked family states site front e
        at o apart stepped_is replied judged true f =
            let new : (step m (Take (AnOp x))).reply ≡ New = replied ∙ new_is e.reply f in
            look_used x o apart (λ (y : OpValue). step (outlined m) (Take (AnOp y)))
            (new_outlined x m new ∙ ap outlined_step (sym stepped_is))
            (ap (λ (t : Stepped). t.machine.log) stepped_is
            ∙ ap (λ (k : Machine). k.log) (new_takes x m new)
            ∙ (take_parts x m).4)
            (judged
            ∙ ap (λ (b : Bool). judge_offer (Some x.deps) (made_op states x.dot) b x.dot (outlined m)) f)
        at o apart stepped_is replied judged false f =
            Ready
            (judged
            ∙ ap (λ (b : Bool). judge_offer (Some x.deps) (made_op states x.dot) b x.dot (outlined m)) f
            ∙ ap (λ (t : Stepped). Steps t)
            (known_outlined x m (ap is_new replied ∙ f) (subst (λ (r : Reply). NotUnfit r) (sym replied) fit)
            ∙ ap outlined_step (sym stepped_is)))

    look_vote : (v : Vote) → e.input ≡ Take (AVote v) → Looked family states site front e
    look_vote v k =
        let w : MayCome family site m (AVote v) = may (AVote v) k in
        let home : nat_eq v.proposal.site site ≡ true = eq-eqb v.proposal.site site w.addressed in
        Ready
        (ap (λ (d : ToldInput). judge all states site (outlined m) d e.reply) (ap told_of k)
        ∙ ap
        (λ (b : Bool).
        if b || not (nat_eq v.proposal.site site) then Lost else Steps (step (outlined m) (Take (AVote v))))
        (ne_eqb v.voter site w.another)
        ∙ ap (λ (b : Bool). if not b then Lost else Steps (step (outlined m) (Take (AVote v)))) home
        ∙ ap (λ (t : Stepped). Steps t) (vote_outlined v m ∙ ap (λ (i : Input). outlined_step (step m i)) (sym k)))

    look_next : e.input ≡ Next → Looked family states site front e
    look_next k =
        let stepped_is : step m e.input ≡ step m Next = ap (step m) k in
        let replied : (step m Next).reply ≡ e.reply = ap (λ (t : Stepped). t.reply) (sym stepped_is) ∙ reply_is in
        at stepped_is replied
        (ap (λ (d : ToldInput). judge all states site (outlined m) d e.reply) (ap told_of k)) (taken_of e.reply) refl
      where
        at : step m e.input ≡ step m Next → (step m Next).reply ≡ e.reply
            → judge all states site (outlined m) (told_of e.input) e.reply
            ≡ judge_next (taken_of e.reply) all states site (outlined m)
            → (o : Option DotValue) → taken_of e.reply ≡ o → Looked family states site front e
        at stepped_is replied judged None f =
            Ready
            (judged
            ∙ ap (λ (o : Option DotValue). judge_next o all states site (outlined m)) f
            ∙ ap (λ (t : Stepped). Steps t)
            (idle_outlined m
            (idle_is m (subst (λ (r : Reply). NotUnfit r) (sym replied) fit) (ap taken_of replied ∙ f))
            ∙ ap outlined_step (sym stepped_is)))
        at stepped_is replied judged (Some d) f =
            let r : IsResumed m d = resumed_here m d (replied ∙ taken_is e.reply d f) in
            let x : OpValue = r.op in
            let i : In x m.waiting = waiting_in r in
            let w = waits_of_sites m here x i in
            let came = offered m (built_at family c (moment_of family site some within front (e ∷ back) splits)) x i in
            let o : IsOpOf family x = sent_op x w.0 came.came.sent in
            let apart : x.dot.site ≢ site = came.came.another in
            look_used x o apart (λ (y : OpValue). take_waiting y (outlined m))
            (resumed_outlined m d r ∙ ap outlined_step (sym stepped_is))
            (ap (λ (t : Stepped). t.machine.log) (stepped_is ∙ r.is) ∙ (take_parts x (forget x m)).4)
            (judged
            ∙ ap (λ (o : Option DotValue). judge_next o all states site (outlined m))
            (f ∙ ap (λ (c : DotValue). Some c) (sym r.dot))
            ∙ ap (λ (b : Bool). if b then Lost else judge_taken (made_deps all x.dot) (made_op states x.dot)
            (outlined m))
            (ne_eqb x.dot.site site apart)
            ∙ ap (λ (t : Option (List ℕ)). judge_taken t (made_op states x.dot) (outlined m))
            (made_deps_of family c x o))
          where
            waiting_in : (r : IsResumed m d) → In r.op m.waiting
            waiting_in r =
                (In-filter (is_ready m.have) r.op m.waiting
                (least_in (filter (is_ready m.have) m.waiting) r.op r.least)).0

    look_local : (request : Request) → e.input ≡ Local request → Looked family states site front e
    look_local request k =
        Ready
        (ap (λ (d : ToldInput). judge all states site (outlined m) d e.reply) (ap told_of k)
        ∙ ap (λ (t : Stepped). Steps t)
        (local_outlined request m ∙ ap (λ (i : Input). outlined_step (step m i)) (sym k)))

    pub look : Looked family states site front e
    look = at e.input refl
      where
        at : (i : Input) → e.input ≡ i → Looked family states site front e
        at (Local request) k = look_local request k
        at (Take (AnOp x)) k = look_op x k
        at (Take (AVote v)) k = look_vote v k
        at Next k = look_next k
