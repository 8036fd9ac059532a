-- A replay that reaches the end shows a consistent family: the histories that its entries tell.
use Rattle.std.proofs.Common.{◌≡◌, ◌≢◌, ◌⊎◌, ◌<◌, ◌≤◌, ◌++◌, ◌||◌, List, [], ◌∷◌, ℕ, Bool, true, false, if◌then◌else◌}
use Rattle.std.proofs.Common.{nat_eq, nat_lt, length, filter, map, Option, Some, None, refl, sym, ap, ◌∙◌, subst, inl}
use Rattle.std.proofs.Common.{inr, ⊎_elim, append-nil, append_assoc, true≢false, arith}
use Rattle.std.proofs.lemmas.List.{map-append}
use Rattle.std.proofs.lemmas.Option.{same_Some}
use Rattle.std.proofs.lemmas.Bool.{eqb-true, ltb-false, leb-true}
use Rattle.std.specs.Option.{option_map}
use Rattle.td_base.specs.Value.{DotValue, IsDot}
use Rattle.td_base.specs.Lists.{In}
use Rattle.td_base.proofs.Lists.{In-back, In-filter}
use Rattle.td_base.proofs.Elements.{same_head, same_tail}
use Rattle.td_base.proofs.Equals.{same_dot_refl, same_dot_true}
use Rattle.td_base.proofs.Searches.{find_one}
use Rattle.td_clock.specs.Vector.{vector_get}
use Rattle.td_op.specs.declared.entry.Entry.{Entry}
use Rattle.td_op.specs.declared.input.Input.{Input}
use Rattle.td_op.specs.declared.input.Input.TheVariants.{Local, Take, Next}
use Rattle.td_op.specs.declared.message.Message.{Message}
use Rattle.td_op.specs.declared.message.Message.TheVariants.{Op as AnOp, Vote as AVote}
use Rattle.td_op.specs.declared.reply.Reply.{Reply}
use Rattle.td_op.specs.declared.reply.Reply.TheVariants.{New, Later, Taken}
use Rattle.td_op.specs.declared.reply.Why.{Why}
use Rattle.td_op.specs.Op.{OpValue}
use Rattle.td_op.specs.Input.{IsInput}
use Rattle.td_machine.specs.Counts.{ops_of}
use Rattle.td_machine.specs.Ready.{is_had, is_ready, is_dot_of, next_ready, waits}
use Rattle.td_machine.specs.Machine.{Machine, start, made}
use Rattle.td_machine.specs.Taking.{Stepped, stepped, misfit, forget, next_of, waited}
use Rattle.td_machine.specs.Step.{step}
use Rattle.td_machine.specs.History.{History, IsReached, IsLegalFrom, IsAddressed, known_of, after}
use Rattle.td_op.specs.Message.{sender}
use Rattle.td_machine.proofs.Induction.{built_of, reached_start, legal_both}
use Rattle.td_machine.proofs.Turns.{counted as counted_in_turn}
use Rattle.td_machine.proofs.Counting.{found, Found}
use Rattle.td_machine.proofs.Reached.{counted_of, waits_of_sites}
use Rattle.td_machine.proofs.StepKinds.{least_in}
use Rattle.td_machine.proofs.Family.{unique}
use Rattle.td_law_logs.proofs.Moments.{after_one_more}
use Rattle.td_trace.specs.Entries.{told_of, traced, traced_history}
use Rattle.td_trace.specs.declared.entry.TraceEntry.{TraceEntry}
use Rattle.td_trace.specs.declared.told_input.ToldInput.{ToldInput}
use Rattle.td_trace.specs.declared.told_input.ToldInput.TheVariants.{Asked, TookOp, TookVote, Went}
use Rattle.td_law_replay.proofs.Histories.{op_for, input_for, entry_for, entries_for}
use Rattle.td_law_replay.specs.Counting.{no_count, made_deps}
use Rattle.td_law_replay.specs.Ended.{VotesWereSent, outlined}
use Rattle.td_law_replay.specs.Judging.{outline, outline_of, SiteState, States, begin}
use Rattle.td_law_replay.specs.Judging.{made_op, Steps, take_waiting, judge}
use Rattle.td_law_replay.specs.Replay.{Goes, Reaches, Begun, Then, AllDone}
use Rattle.td_law_replay.specs.Replies.{is_new, taken_of, NotUnfit}
use Rattle.td_law_replay.specs.Traced.{site_entries, IsTold, AreInRange}
use Rattle.td_law_replay.proofs.Outlined.{with, outlined_step, local_outlined, vote_outlined, new_outlined}
use Rattle.td_law_replay.proofs.Outlined.{waits_outlines, next_outlines, misfit_with, offered_to, put_outlines}
use Rattle.td_law_replay.proofs.Outlined.{IsResumed, resumed_outlined, idle_outlined}
use Rattle.td_law_replay.proofs.Telling.{reached_after, same_site}
use Rattle.td_law_replay.proofs.Going.{new_is, taken_is}
use Rattle.td_law_replay.proofs.Counts.{count_entries, deps_counted, deps_made}
use Rattle.td_law_replay.proofs.Bare.{bare, IsTakenUp, taken_up, idle_kept}
use Rattle.td_law_replay.proofs.Posted.{posts}
use Rattle.td_law_replay.proofs.Judging.{same_steps, VoteJudged, vote_judged, Offer, Used, Known, offer_judged}
use Rattle.td_law_replay.proofs.Judging.{Onward, Idles, TakesUp, onward_judged, made_deps_within}
use Rattle.td_law_replay.proofs.Values.{values_of}
use Rattle.td_law_replay.proofs.Seen.{Seen, AllSeen, found_dot, seen_begin, seen_goes}
use Rattle.td_law_replay.proofs.Origins.{origin, log_step, log_resumed, made_up, vote_had}
use Rattle.td_law_replay.proofs.Origins.{Standing, Had, Held, Low, stands, waits_in}

-- ---- replies of a machine with outlines

reply_same : (x : OpValue) (m : Machine)
    → (step (outlined m) (Take (AnOp x))).reply ≡ (step m (Take (AnOp x))).reply
reply_same x m =
    ap
    (λ (b : Bool).
    (offered_to (nat_eq (length x.deps) m.size) (is_had m.have x || b) own (is_ready m.have x)
    (misfit x (outlined m)) x
    (outlined m)).reply) (waits_outlines x.dot m.waiting)
    ∙ ap
    (λ (o : Option Why).
    (offered_to (nat_eq (length x.deps) m.size) (is_had m.have x || waits x.dot m.waiting) own (is_ready m.have x) o x
    (outlined m)).reply) (misfit_with x (map outline_of m.waiting) m)
    ∙ at (nat_eq (length x.deps) m.size) (is_had m.have x || waits x.dot m.waiting) own (is_ready m.have x)
    (misfit x m)
  where
    own : Bool
    own = nat_eq x.dot.site m.site || nat_lt (made m) (vector_get x.deps m.site)

    at : (sized again own ready : Bool) (why : Option Why)
        → (offered_to sized again own ready why x (outlined m)).reply
        ≡ (offered_to sized again own ready why x m).reply
    at false again own ready why = refl
    at true true own ready why = refl
    at true false true ready why = refl
    at true false false false why = refl
    at true false false true (Some y) = refl
    at true false false true None = refl

known_back : (x : OpValue) (m : Machine) → is_new (step (outlined m) (Take (AnOp (outline_of x)))).reply ≡ false
    → NotUnfit (step (outlined m) (Take (AnOp (outline_of x)))).reply
    → step (outlined m) (Take (AnOp (outline_of x))) ≡ outlined_step (step m (Take (AnOp x)))
known_back x m e f =
    outlines_at (waits x.dot (map outline_of m.waiting)) (waits_outlines x.dot m.waiting) e f
  where
    own : Bool
    own = nat_eq x.dot.site m.site || nat_lt (made m) (vector_get x.deps m.site)

    at : (sized again own ready : Bool) (why : Option Why)
        → is_new (offered_to sized again own ready None (outline_of x) (outlined m)).reply ≡ false
        → NotUnfit (offered_to sized again own ready None (outline_of x) (outlined m)).reply
        → offered_to sized again own ready None (outline_of x) (outlined m)
        ≡ outlined_step (offered_to sized again own ready why x m)
    at false again own ready why k fit = absurd fit
    at true true own ready why k fit = refl
    at true false true ready why k fit = absurd fit
    at true false false false why k fit =
        ap (λ (l : List OpValue). stepped Later (with l m)) (put_outlines x m.waiting)
    at true false false true why k fit = absurd (true≢false k)

    outlines_at : (w : Bool) → w ≡ waits x.dot m.waiting
        → is_new (offered_to (nat_eq (length x.deps) m.size) (is_had m.have x || w) own (is_ready m.have x) None
        (outline_of x)
        (outlined m)).reply ≡ false
        → NotUnfit (offered_to (nat_eq (length x.deps) m.size) (is_had m.have x || w) own (is_ready m.have x) None
        (outline_of x)
        (outlined m)).reply
        → offered_to (nat_eq (length x.deps) m.size) (is_had m.have x || w) own (is_ready m.have x) None (outline_of x)
        (outlined m)
        ≡ outlined_step (step m (Take (AnOp x)))
    outlines_at w k g h =
        ap
        (λ (b : Bool).
        offered_to (nat_eq (length x.deps) m.size) (is_had m.have x || b) own (is_ready m.have x) None (outline_of x)
        (outlined m)) k
        ∙ at (nat_eq (length x.deps) m.size) (is_had m.have x || waits x.dot m.waiting) own (is_ready m.have x)
        (misfit x m)
        (subst (λ (b : Bool). is_new (offered_to (nat_eq (length x.deps) m.size) (is_had m.have x || b) own
        (is_ready m.have x) None (outline_of x) (outlined m)).reply ≡ false) k g)
        (subst (λ (b : Bool). NotUnfit (offered_to (nat_eq (length x.deps) m.size) (is_had m.have x || b) own
        (is_ready m.have x) None (outline_of x) (outlined m)).reply) k h)

-- what is new knew no more of the site than it made
new_low : (x : OpValue) (m : Machine) → (step m (Take (AnOp x))).reply ≡ New → vector_get x.deps m.site ≤ made m
new_low x m =
    at (nat_eq (length x.deps) m.size) (is_had m.have x || waits x.dot m.waiting) (nat_eq x.dot.site m.site)
    (nat_lt (made m) (vector_get x.deps m.site)) (is_ready m.have x) (misfit x m) refl
  where
    at : (sized again own early ready : Bool) (why : Option Why) → nat_lt (made m) (vector_get x.deps m.site) ≡ early
        → (offered_to sized again (own || early) ready why x m).reply ≡ New → vector_get x.deps m.site ≤ made m
    at false again own early ready why f e = absurd cc
    at true true own early ready why f e = absurd cc
    at true false true early ready why f e = absurd cc
    at true false false true ready why f e = absurd cc
    at true false false false ready why f e = ltb-false (made m) (vector_get x.deps m.site) f

-- ---- lists

-- the last of a list, where it is split
split_last : {X : Type 0} (xs : List X) (x : X) (front : List X) (y : X) (back : List X)
    → xs ++ x ∷ [] ≡ front ++ y ∷ back
    → ((front ≡ xs) × (y ≡ x)) ⊎ ((rest : List X) × (xs ≡ front ++ y ∷ rest))
split_last [] x [] y back e = inl (refl, sym (same_head x [] y back e))
split_last [] x (f ∷ []) y back e = absurd cc
split_last [] x (f ∷ g ∷ front) y back e = absurd cc
split_last (z ∷ xs) x [] y back e =
    inr (xs, λ i. same_head z (xs ++ x ∷ []) y back e i ∷ xs)
split_last {X} (z ∷ xs) x (f ∷ front) y back e =
    let head : z ≡ f = same_head z (xs ++ x ∷ []) f (front ++ y ∷ back) e in
    ⊎_elim (λ (k : (front ≡ xs) × (y ≡ x)). inl ((λ i. sym head i ∷ k.0 i), k.1))
    (λ (k : (rest : List X) × (xs ≡ front ++ y ∷ rest)). inr (k.0, λ i. head i ∷ k.1 i))
    (split_last xs x front y back (same_tail z (xs ++ x ∷ []) f (front ++ y ∷ back) e))

none_of : (o : Option OpValue) → option_map outline_of o ≡ None → o ≡ None
none_of None e = refl
none_of (Some x) e = absurd cc

record FoundOutline (o : Option OpValue) (z : OpValue) : Type 0 where
  pub op : OpValue
  pub is : o ≡ Some op
  pub dot : op.dot ≡ z.dot

found_outline : (o : Option OpValue) (z : OpValue) → option_map outline_of o ≡ Some z → FoundOutline o z
found_outline None z e = absurd cc
found_outline (Some x) z e =
    record { op = x; is = refl; dot = ap (λ (y : OpValue). y.dot) (same_Some (outline_of x) z e) }

-- ---- logs of the replay grow

abbrev pub Within : States → States → Type 0
Within states last = (site : ℕ) (x : OpValue) → In x (states site).machine.log → In x (last site).machine.log

judged_grows : (all : List (List TraceEntry)) (states : States) (site : ℕ) (m : Machine) (told : ToldInput)
    (reply : Reply)
    (to : Stepped) → judge all states site m told reply ≡ Steps to → (x : OpValue) → In x m.log → In x to.machine.log
judged_grows all states site m (Asked request) reply to e x i =
    subst (λ (y : Stepped). In x y.machine.log) (sym (same_steps (step m (Local request)) to e))
    (log_step m (Local request) x i)
judged_grows all states site m (TookVote v) reply to e x i =
    let j : VoteJudged site m v to = vote_judged all states site m v reply to e in
    subst (λ (y : Stepped). In x y.machine.log) (sym j.is) (log_step m (Take (AVote v)) x i)
judged_grows all states site m (TookOp d) reply to e x i = at (offer_judged all states site m d reply to e)
  where
    at : Offer all states site m d reply to → In x to.machine.log
    at (Used y deps apart deps_are found new is) =
        subst (λ (z : Stepped). In x z.machine.log) (sym is) (log_step m (Take (AnOp y)) x i)
    at (Known deps apart deps_are new is) =
        subst (λ (z : Stepped). In x z.machine.log) (sym is) (log_step m (Take (AnOp (outline d deps))) x i)
judged_grows all states site m Went reply to e x i = at (onward_judged all states site m reply to e)
  where
    at : Onward all states site m reply to → In x to.machine.log
    at (Idles none is) = subst (λ (z : Stepped). In x z.machine.log) (sym is) (log_step m Next x i)
    at (TakesUp d y deps taken apart deps_are found is) =
        subst (λ (z : Stepped). In x z.machine.log) (sym is) (log_resumed m y x i)

pub grows : (all : List (List TraceEntry)) (old new : States) → Goes all old new → Within old new
grows all old new g site x i =
    subst (λ (z : States). In x (z site).machine.log) (sym g.is) (at (nat_eq site g.site) refl)
  where
    at : (b : Bool) → nat_eq site g.site ≡ b
        → In x (if b then record { machine = g.to.machine; left = g.rest } else old site).machine.log
    at false f = i
    at true f =
        judged_grows all old g.site (old g.site).machine g.entry.told g.entry.reply g.to g.judged x
        (subst (λ (k : ℕ). In x (old k).machine.log) (eqb-true site g.site f) i)

-- ---- the last state, and all before it

pub seen_all : (all : List (List TraceEntry)) → AreInRange all → (states : States) → Reaches all states
    → AllSeen all states
seen_all all t _ Begun = λ site some within. seen_begin all t site some within
seen_all all t _ (Then {old} {new} before_ g) = seen_goes all t old (seen_all all t old before_) new g

module _ (all : List (List TraceEntry)) (t : AreInRange all) (last : States) where
  abbrev n : ℕ
  n = length all

  module _ (seen : AllSeen all last) (over : AllDone all last) (votes : VotesWereSent all last) where
    -- one operation under a dot
    only : (x : OpValue) → 0 < x.dot.site → x.dot.site ≤ n → In x (last x.dot.site).machine.log
        → made_op last x.dot ≡ Some x
    only x some within i =
        let s : Seen all x.dot.site (last x.dot.site) = seen x.dot.site some within in
        let m : Machine = bare (last x.dot.site).machine in
        let b = (built_of m s.reached).built in
        find_one (is_dot_of x.dot) (last x.dot.site).machine.log x i (same_dot_refl x.dot)
        (λ y j e. unique m.size y x m.log (counted_in_turn m b).1 j i (same_dot_true y.dot x.dot e))

    only_at : (d : DotValue) (x : OpValue) → 0 < d.site → d.site ≤ n → In x (last d.site).machine.log → x.dot ≡ d
        → made_op last d ≡ Some x
    only_at d x some within i e =
        subst (λ (c : DotValue). made_op last c ≡ Some x) e
        (only x (subst (λ (c : DotValue). 0 < c.site) (sym e) some)
        (subst (λ (c : DotValue). c.site ≤ n) (sym e) within)
        (subst (λ (c : DotValue). In x (last c.site).machine.log) (sym e) i))

    -- what is found on the way is found at the end
    kept : (states : States) → Within states last → (d : DotValue) (x : OpValue) → 0 < d.site → d.site ≤ n
        → made_op states d ≡ Some x → made_op last d ≡ Some x
    kept states w d x some within e =
        let f = found_dot states d x e in only_at d x some within (w d.site x f.0) f.1

    -- what is told is there at the end
    record IsThere (d : DotValue) (deps : List ℕ) : Type 0 where
      pub op : OpValue
      pub is : made_op last d ≡ Some op
      pub same : op.deps ≡ deps
      pub inside : In op (last d.site).machine.log
      pub dot : op.dot ≡ d

    there : (d : DotValue) (deps : List ℕ) → IsDot d → made_deps all d ≡ Some deps → IsThere d deps
    there d deps ok e =
        let some : 0 < d.site = ok.site.least in
        let within : d.site ≤ n = made_deps_within all d deps e in
        let s : Seen all d.site (last d.site) = seen d.site some within in
        let m : Machine = bare (last d.site).machine in
        let b = (built_of m s.reached).built in
        let whole : site_entries all d.site ≡ s.done =
        s.splits ∙ ap (λ (l : List TraceEntry). s.done ++ l) (over d.site some within) ∙ append-nil s.done in
        let low : d.seq ≤ vector_get (count_entries d.site n (no_count n) (site_entries all d.site)).have d.site =
        deps_counted d.site n d.seq (no_count n) (site_entries all d.site) deps (deps_made all d deps e) in
        let count : vector_get (count_entries d.site n (no_count n) (site_entries all d.site)).have d.site
        ≡ vector_get m.have d.site =
        ap (λ (l : List TraceEntry). vector_get (count_entries d.site n (no_count n) l).have d.site) whole
        ∙ ap (λ (v : List ℕ). vector_get v d.site) s.matches.have in
        let ops : vector_get m.have d.site ≡ length (ops_of d.site m.log) =
        counted_of m s.reached d.site some (subst (λ (k : ℕ). d.site ≤ k) (sym s.sized) within) in
        let f : Found (record { site = d.site; seq = d.seq }) m.log =
        found m.size d.site d.seq m.log ok.least (counted_in_turn m b).1 (omega (arith, low, count, ops)) in
        let tells : made_deps all f.op.dot ≡ Some f.op.deps =
        s.tells f.op f.inside (ap (λ (c : DotValue). c.site) f.is) in
        record {
          op = f.op;
          is = only_at d f.op some within f.inside f.is;
          same = same_Some f.op.deps deps (sym tells ∙ ap (λ (c : DotValue). made_deps all c) f.is ∙ e);
          inside = f.inside;
          dot = f.is;
        }

    -- a message that may come
    pub record Comes (site : ℕ) (m : Machine) (message : Message) : Type 0 where
      pub some : 0 < sender message
      pub within : sender message ≤ n
      pub another : sender message ≢ site
      pub sent : In message (last (sender message)).machine.sent
      pub addressed : IsAddressed site message
      pub own_made : known_of site message ≤ made m

    comes_op : (x : OpValue) (site : ℕ) (m : Machine) → 0 < x.dot.site → x.dot.site ≤ n → x.dot.site ≢ site
        → In x (last x.dot.site).machine.log → vector_get x.deps site ≤ made m → Comes site m (AnOp x)
    comes_op x site m some within apart i low =
        let s : Seen all x.dot.site (last x.dot.site) = seen x.dot.site some within in
        record {
          some = some;
          within = within;
          another = apart;
          sent = posts (bare (last x.dot.site).machine) s.reached x i (sym s.here);
          addressed = tt;
          own_made = low;
        }

    -- what a machine took or keeps waiting is found at the end, and knew no more of its site than that made
    pub record Facts (site : ℕ) (m : Machine) : Type 0 where
      pub low : (y : OpValue) → In y m.log ⊎ In y m.waiting → y.dot.site ≢ site → vector_get y.deps site ≤ made m
      pub known : (y : OpValue) → In y m.log ⊎ In y m.waiting → y.dot.site ≢ site → made_op last y.dot ≡ Some y
      pub foreign : (y : OpValue) → In y m.waiting → y.dot.site ≢ site

    facts_step : (site : ℕ) (m : Machine) (input : Input) → IsReached m → IsInput input → m.site ≡ site → Facts site m
        → ((y : OpValue) → input ≡ Take (AnOp y)
        → (y.dot.site ≢ site) × (vector_get y.deps site ≤ made m) × (made_op last y.dot ≡ Some y))
        → Facts site (step m input).machine
    facts_step site m input r valid here h given =
        record {
          low = λ y i apart.
              let up : made m ≤ made (step m input).machine = made_up m input r valid in
              let old : vector_get y.deps site ≤ made m =
              ⊎_elim (λ (j : In y m.log ⊎ In y m.waiting). h.low y j apart)
              (λ (e : input ≡ Take (AnOp y)). (given y e).1) (from y i apart) in
              omega (arith, up, old);
          known = λ y i apart.
              ⊎_elim (λ (j : In y m.log ⊎ In y m.waiting). h.known y j apart)
              (λ (e : input ≡ Take (AnOp y)). (given y e).2) (from y i apart);
          foreign = λ y i.
              ⊎_elim (λ (j : In y m.waiting). h.foreign y j) (λ (e : input ≡ Take (AnOp y)). (given y e).0)
              ((origin m input).waiting y i);
        }
      where
        from : (y : OpValue) → In y (step m input).machine.log ⊎ In y (step m input).machine.waiting
            → y.dot.site ≢ site
            → (In y m.log ⊎ In y m.waiting) ⊎ (input ≡ Take (AnOp y))
        from y (inl i) apart =
            ⊎_elim (λ (e : y.dot.site ≡ m.site). absurd (apart (e ∙ here)))
            (λ (k : (In y m.log ⊎ In y m.waiting) ⊎ (input ≡ Take (AnOp y))). k) ((origin m input).log y i)
        from y (inr i) apart =
            ⊎_elim (λ (j : In y m.waiting). inl (inr j)) (λ (e : input ≡ Take (AnOp y)). inr e)
            ((origin m input).waiting y i)

    -- ---- a site, with its history

    abbrev pub resolved_machine : ℕ → List TraceEntry → Machine
    resolved_machine site rest = after (start site n) (entries_for last rest)

    pub record Resolved (site : ℕ) (state : SiteState) : Type 0 where
      pub done : List TraceEntry
      pub splits : site_entries all site ≡ done ++ state.left
      pub legal : IsLegalFrom (start site n) (entries_for last done)
      pub machine_is : state.machine ≡ outlined (resolved_machine site done)
      pub traces : traced_history (entries_for last done) ≡ done
      pub here : (resolved_machine site done).site ≡ site
      pub sized : (resolved_machine site done).size ≡ n
      pub facts : Facts site (resolved_machine site done)
      pub comes : (front : History) (e : Entry) (back : History) → entries_for last done ≡ front ++ e ∷ back
          → (message : Message) → e.input ≡ Take message → Comes site (after (start site n) front) message

    resolved_begin : (site : ℕ) → Resolved site (begin all site)
    resolved_begin site =
        record {
          done = [];
          splits = refl;
          legal = tt;
          machine_is = refl;
          traces = refl;
          here = refl;
          sized = refl;
          facts =
              record {
                low = λ y i apart. absurd (nothing y i);
                known = λ y i apart. absurd (nothing y i);
                foreign = λ y i. absurd i;
              };
          comes = λ front e back k message f. absurd (no_split front e back k);
        }
      where
        nothing : (y : OpValue) → In y (start site n).log ⊎ In y (start site n).waiting → ⊥
        nothing y (inl i) = i
        nothing y (inr i) = i

        no_split : (front : History) (e : Entry) (back : History) → [] ≡ front ++ e ∷ back → ⊥
        no_split [] e back k = cc
        no_split (f ∷ front) e back k = cc

    module _ (site : ℕ) (some : 0 < site) (within : site ≤ n) (state : SiteState) (r : Resolved site state)
        (told : ToldInput)
        (reply : Reply) (rest : List TraceEntry) (left : state.left ≡ record { told = told; reply = reply } ∷ rest)
        (to : Stepped) (replied : to.reply ≡ reply) where
      abbrev entry : TraceEntry
      entry = record { told = told; reply = reply }

      abbrev m : Machine
      m = resolved_machine site r.done

      abbrev e : Entry
      e = entry_for last entry

      pub reached : IsReached m
      reached =
          reached_after (start site n) (reached_start site n some within t.few) (entries_for last r.done) r.legal

      pub inside : In entry (site_entries all site)
      inside =
          subst (λ (l : List TraceEntry). In entry l) (sym (r.splits ∙ ap (λ (l : List TraceEntry). r.done ++ l) left))
          (In-back entry r.done (entry ∷ rest) (inl refl))

      pub told_is : IsTold told
      told_is = t.each site some within entry inside

      -- the entry is an entry of the history
      pub entered : IsInput e.input → told_of e.input ≡ told → to ≡ outlined_step (step m e.input)
          → ((message : Message) → e.input ≡ Take message → Comes site m message)
          → ((y : OpValue) → e.input ≡ Take (AnOp y) → made_op last y.dot ≡ Some y)
          → Resolved site (record { machine = to.machine; left = rest })
      entered valid says is came known =
          record {
            done = r.done ++ entry ∷ [];
            splits =
                r.splits ∙ ap (λ (l : List TraceEntry). r.done ++ l) left
                ∙ sym (append_assoc r.done (entry ∷ []) rest);
            legal =
                subst (λ (h : History). IsLegalFrom (start site n) h) (sym more)
                (legal_both (start site n) (entries_for last r.done) (e ∷ []) r.legal
                (valid, ap (λ (s : Stepped). s.reply) (sym is) ∙ replied, tt));
            machine_is = ap (λ (s : Stepped). s.machine) is ∙ ap outlined (sym now);
            traces =
                ap traced_history more ∙ map-append traced (entries_for last r.done) (e ∷ [])
                ∙ ap (λ (l : List TraceEntry). l ++ traced e ∷ []) r.traces
                ∙ ap (λ (s : ToldInput). r.done ++ (record { told = s; reply = reply }) ∷ []) says;
            here = ap (λ (x : Machine). x.site) now ∙ (same_site m e.input reached valid).0 ∙ r.here;
            sized = ap (λ (x : Machine). x.size) now ∙ (same_site m e.input reached valid).1 ∙ r.sized;
            facts =
                subst (λ (x : Machine). Facts site x) (sym now)
                (facts_step site m e.input reached valid r.here r.facts
                (λ y k. ((came (AnOp y) k).another, (came (AnOp y) k).own_made, known y k)));
            comes = λ front f back k message g.
                split front f back message g
                (split_last (entries_for last r.done) e front f back (sym more ∙ k));
          }
        where
          more : entries_for last (r.done ++ entry ∷ []) ≡ entries_for last r.done ++ e ∷ []
          more = map-append (entry_for last) r.done (entry ∷ [])

          now : resolved_machine site (r.done ++ entry ∷ []) ≡ (step m e.input).machine
          now = ap (after (start site n)) more ∙ after_one_more (start site n) (entries_for last r.done) e

          split : (front : History) (f : Entry) (back : History) (message : Message) → f.input ≡ Take message
              → ((front ≡ entries_for last r.done) × (f ≡ e))
              ⊎ ((rest : History) × (entries_for last r.done ≡ front ++ f ∷ rest))
              → Comes site (after (start site n) front) message
          split front f back message g (inl k) =
              subst (λ (h : History). Comes site (after (start site n) h) message) (sym k.0)
              (came message (ap (λ (x : Entry). x.input) (sym k.1) ∙ g))
          split front f back message g (inr k) = r.comes front f k.0 k.1 message g

    take_same : (a b : Message) → Take a ≡ Take b → a ≡ b
    take_same a b k = cc

    op_same : (x y : OpValue) → Take (AnOp x) ≡ Take (AnOp y) → x ≡ y
    op_same x y k = cc

    -- an entry that offers an operation
    entry_offered : (site : ℕ) (some : 0 < site) (within : site ≤ n) (state : SiteState) (r : Resolved site state)
        (d : DotValue)
        (reply : Reply) (rest : List TraceEntry) (left : state.left ≡ record { told = TookOp d; reply = reply } ∷ rest)
        (to : Stepped) (replied : to.reply ≡ reply) (x : OpValue) → made_op last d ≡ Some x
        → In x (last d.site).machine.log
        → x.dot ≡ d → 0 < d.site → d.site ≤ n → d.site ≢ site
        → vector_get x.deps site ≤ made (resolved_machine site r.done)
        → to ≡ outlined_step (step (resolved_machine site r.done) (Take (AnOp x)))
        → Resolved site (record { machine = to.machine; left = rest })
    entry_offered site some within state r d reply rest left to replied x there_is inside dot low high apart fewer is =
        let m : Machine = resolved_machine site r.done in
        let k : input_for last (TookOp d) ≡ Take (AnOp x) =
        ap (λ (o : Option OpValue). Take (AnOp (op_for d o))) there_is in
        let home : In x (last x.dot.site).machine.log =
        subst (λ (c : DotValue). In x (last c.site).machine.log) (sym dot) inside in
        let comes : Comes site m (AnOp x) =
        comes_op x site m (subst (λ (c : DotValue). 0 < c.site) (sym dot) low)
        (subst (λ (c : DotValue). c.site ≤ n) (sym dot) high)
        (subst (λ (c : DotValue). c.site ≢ site) (sym dot) apart) home fewer in
        let known : made_op last x.dot ≡ Some x =
        subst (λ (c : DotValue). made_op last c ≡ Some x) (sym dot) there_is in
        entered site some within state r (TookOp d) reply rest left to replied
        (subst (λ (i : Input). IsInput i) (sym k)
        (values_of (bare (last d.site).machine) (seen d.site low high).reached x inside))
        (ap told_of k ∙ ap (λ (c : DotValue). TookOp c) dot)
        (is ∙ ap (λ (i : Input). outlined_step (step m i)) (sym k))
        (λ message g.
        subst (λ (z : Message). Comes site m z) (take_same (AnOp x) message (sym k ∙ g)) comes)
        (λ y g.
        subst (λ (z : OpValue). made_op last z.dot ≡ Some z) (op_same x y (sym k ∙ g)) known)

    -- an operation that is there and that is neither unfit nor new knew no more of the site than that made
    low_of : (site : ℕ) (some : 0 < site) (within : site ≤ n) (state : SiteState) (r : Resolved site state)
        (x : OpValue)
        → made_op last x.dot ≡ Some x → 0 < x.dot.site → x.dot.site ≤ n → 0 < x.dot.seq → x.dot.site ≢ site
        → NotUnfit (step (resolved_machine site r.done) (Take (AnOp x))).reply
        → vector_get x.deps site ≤ made (resolved_machine site r.done)
    low_of site some within state r x there_is low high positive apart fit =
        at (stands x (resolved_machine site r.done) fit)
      where
        reached_now : IsReached (resolved_machine site r.done)
        reached_now =
            reached_after (start site n) (reached_start site n some within t.few) (entries_for last r.done) r.legal

        -- an operation with this dot is this one
        this : (y : OpValue) → In y (resolved_machine site r.done).log ⊎ In y (resolved_machine site r.done).waiting
            → y.dot ≡ x.dot → vector_get x.deps site ≤ made (resolved_machine site r.done)
        this y i e =
            let other : y.dot.site ≢ site = subst (λ (c : DotValue). c.site ≢ site) (sym e) apart in
            let same : y ≡ x =
            same_Some y x
            (sym (r.facts.known y i other) ∙ ap (λ (c : DotValue). made_op last c) e ∙ there_is) in
            subst (λ (z : OpValue). vector_get z.deps site ≤ made (resolved_machine site r.done)) same
            (r.facts.low y i other)

        at : Standing x (resolved_machine site r.done) → vector_get x.deps site ≤ made (resolved_machine site r.done)
        at (Low k) = subst (λ (z : ℕ). vector_get x.deps z ≤ made (resolved_machine site r.done)) r.here k
        at (Held k) =
            let y = waits_in x.dot (resolved_machine site r.done).waiting k in this y.0 (inr y.1) y.2
        at (Had k) =
            let m : Machine = resolved_machine site r.done in
            let b = (built_of m reached_now).built in
            let had : x.dot.seq ≤ vector_get m.have x.dot.site = leb-true x.dot.seq (vector_get m.have x.dot.site) k in
            let ops : vector_get m.have x.dot.site ≡ length (ops_of x.dot.site m.log) =
            counted_of m reached_now x.dot.site low (subst (λ (z : ℕ). x.dot.site ≤ z) (sym r.sized) high) in
            let f : Found (record { site = x.dot.site; seq = x.dot.seq }) m.log =
            found m.size x.dot.site x.dot.seq m.log positive (counted_in_turn m b).1 (omega (arith, had, ops)) in
            this f.op (inl f.inside) f.is

    resolve : (old : States) → Within old last → (site : ℕ) (some : 0 < site) (within : site ≤ n)
        (r : Resolved site (old site)) (told : ToldInput) (reply : Reply) (rest : List TraceEntry)
        (left : (old site).left ≡ record { told = told; reply = reply } ∷ rest) (to : Stepped)
        → judge all old site (old site).machine told reply ≡ Steps to → to.reply ≡ reply → NotUnfit reply
        → Resolved site (record { machine = to.machine; left = rest })
    resolve old w site some within r (Asked request) reply rest left to judged replied fit =
        let m : Machine = resolved_machine site r.done in
        entered site some within (old site) r (Asked request) reply rest left to replied
        (told_is site some within (old site) r (Asked request) reply rest left to replied) refl
        (same_steps (step (old site).machine (Local request)) to judged
        ∙ ap (λ (x : Machine). step x (Local request)) r.machine_is ∙ local_outlined request m)
        (λ message k. absurd (never message k)) (λ y k. absurd (never (AnOp y) k))
      where
        never : (message : Message) → Local request ≡ Take message → ⊥
        never message k = cc
    resolve old w site some within r (TookVote v) reply rest left to judged replied fit =
        let m : Machine = resolved_machine site r.done in
        let j : VoteJudged site (old site).machine v to =
        vote_judged all old site (old site).machine v reply to judged in
        let ok = told_is site some within (old site) r (TookVote v) reply rest left to replied in
        let is : to ≡ outlined_step (step m (Take (AVote v))) =
        j.is ∙ ap (λ (x : Machine). step x (Take (AVote v))) r.machine_is ∙ vote_outlined v m in
        let same : reply ≡ (step m (Take (AVote v))).reply = sym replied ∙ ap (λ (s : Stepped). s.reply) is in
        let q = votes site some within (record { told = TookVote v; reply = reply })
        (inside site some within (old site) r (TookVote v) reply rest left to replied) v refl in
        let comes : Comes site m (AVote v) = record {
          some = ok.voter.least;
          within = q.0;
          another = j.another;
          sent = q.1;
          addressed = j.addressed;
          own_made =
              vote_had m v (reached site some within (old site) r (TookVote v) reply rest left to replied)
              (subst (λ (z : Reply). NotUnfit z) same fit) (j.addressed ∙ sym r.here);
        } in
        entered site some within (old site) r (TookVote v) reply rest left to replied ok refl is
        (λ message k. subst (λ (z : Message). Comes site m z) (take_same (AVote v) message k) comes)
        (λ y k. absurd (never y k))
      where
        never : (y : OpValue) → Take (AVote v) ≡ Take (AnOp y) → ⊥
        never y k = cc
    resolve old w site some within r (TookOp d) reply rest left to judged replied fit =
        at (offer_judged all old site (old site).machine d reply to judged)
      where
        at : Offer all old site (old site).machine d reply to
            → Resolved site (record { machine = to.machine; left = rest })
        at (Used x deps apart deps_are found_is new is) =
            let m : Machine = resolved_machine site r.done in
            let ok = told_is site some within (old site) r (TookOp d) reply rest left to replied in
            let high : d.site ≤ n = made_deps_within all d deps deps_are in
            let f = found_dot old d x found_is in
            let step_is : to ≡ step (outlined m) (Take (AnOp x)) =
            is ∙ ap (λ (z : Machine). step z (Take (AnOp x))) r.machine_is in
            let now : (step m (Take (AnOp x))).reply ≡ New =
            sym (reply_same x m) ∙ ap (λ (s : Stepped). s.reply) (sym step_is) ∙ replied ∙ new_is reply new in
            entry_offered site some within (old site) r d reply rest left to replied x
            (kept old w d x ok.site.least high found_is) (w d.site x f.0) f.1 ok.site.least high apart
            (subst (λ (z : ℕ). vector_get x.deps z ≤ made m) r.here (new_low x m now))
            (step_is ∙ new_outlined x m now)
        at (Known deps apart deps_are new is) =
            let m : Machine = resolved_machine site r.done in
            let ok = told_is site some within (old site) r (TookOp d) reply rest left to replied in
            let high : d.site ≤ n = made_deps_within all d deps deps_are in
            let th : IsThere d deps = there d deps ok deps_are in
            let x : OpValue = th.op in
            let outline_is : outline d deps ≡ outline_of x = λ i. outline (sym th.dot i) (sym th.same i) in
            let step_is : to ≡ step (outlined m) (Take (AnOp (outline_of x))) =
            is ∙ ap (λ (z : Machine). step z (Take (AnOp (outline d deps)))) r.machine_is
            ∙ ap (λ (z : OpValue). step (outlined m) (Take (AnOp z))) outline_is in
            let same : (step (outlined m) (Take (AnOp (outline_of x)))).reply ≡ reply =
            ap (λ (s : Stepped). s.reply) (sym step_is) ∙ replied in
            let now : to ≡ outlined_step (step m (Take (AnOp x))) =
            step_is ∙ known_back x m (ap is_new same ∙ new) (subst (λ (z : Reply). NotUnfit z) (sym same) fit) in
            let fine_now : NotUnfit (step m (Take (AnOp x))).reply =
            subst (λ (z : Reply). NotUnfit z) (sym replied ∙ ap (λ (s : Stepped). s.reply) now) fit in
            entry_offered site some within
            (old site) r d reply rest left to replied x th.is th.inside th.dot ok.site.least
            high apart
            (low_of site some within (old site) r x
            (subst (λ (c : DotValue). made_op last c ≡ Some x) (sym th.dot) th.is)
            (subst (λ (c : DotValue). 0 < c.site) (sym th.dot) ok.site.least)
            (subst (λ (c : DotValue). c.site ≤ n) (sym th.dot) high)
            (subst (λ (c : DotValue). 0 < c.seq) (sym th.dot) ok.least)
            (subst (λ (c : DotValue). c.site ≢ site) (sym th.dot) apart) fine_now) now
    resolve old w site some within r Went reply rest left to judged replied fit =
        at (onward_judged all old site (old site).machine reply to judged)
      where
        never : (message : Message) → Next ≡ Take message → ⊥
        never message k = cc

        next_entry : to ≡ outlined_step (step (resolved_machine site r.done) Next)
            → Resolved site (record { machine = to.machine; left = rest })
        next_entry is =
            entered site some within (old site) r Went reply rest left to replied tt refl is
            (λ message k. absurd (never message k)) (λ y k. absurd (never (AnOp y) k))

        at : Onward all old site (old site).machine reply to
            → Resolved site (record { machine = to.machine; left = rest })
        at (Idles none is) =
            let m : Machine = resolved_machine site r.done in
            let step_is : to ≡ step (outlined m) Next = is ∙ ap (λ (z : Machine). step z Next) r.machine_is in
            let same : (step (outlined m) Next).reply ≡ reply = ap (λ (s : Stepped). s.reply) (sym step_is)
            ∙ replied in
            let k = idle_kept (outlined m) (subst (λ (z : Reply). NotUnfit z) (sym same) fit)
            (ap taken_of same ∙ none) in
            let empty : next_ready m.have m.waiting ≡ None =
            none_of (next_ready m.have m.waiting) (sym (next_outlines m.have m.waiting) ∙ k.2) in
            next_entry
            (step_is
            ∙ idle_outlined m (ap (λ (o : Option OpValue). (next_of o m).reply) empty))
        at (TakesUp d x deps taken apart deps_are found_is is) =
            let m : Machine = resolved_machine site r.done in
            let f = found_dot old d x found_is in
            let step_is : to ≡ take_waiting x (outlined m) = is
            ∙ ap (λ (z : Machine). take_waiting x z) r.machine_is in
            let up : (take_waiting x (outlined m)).reply ≡ Taken x.dot =
            ap (λ (s : Stepped). s.reply) (sym step_is) ∙ replied ∙ taken_is reply d taken
            ∙ ap (λ (c : DotValue). Taken c) (sym f.1) in
            let u : IsTakenUp x (outlined m) = taken_up x (outlined m) up in
            let y : FoundOutline (next_ready m.have m.waiting) u.outline_is =
            found_outline (next_ready m.have m.waiting) u.outline_is
            (sym (next_outlines m.have m.waiting) ∙ u.least) in
            let waiting : In y.op m.waiting =
            (In-filter (is_ready m.have) y.op m.waiting (least_in (filter (is_ready m.have) m.waiting) y.op y.is)).0 in
            let of_site = waits_of_sites m
            (reached site some within (old site) r Went reply rest left to replied) y.op waiting in
            let dots : y.op.dot ≡ d = y.dot ∙ u.same ∙ f.1 in
            let high : d.site ≤ n = made_deps_within all d deps deps_are in
            let there_is : made_op last d ≡ Some x =
            kept old w d x (subst (λ (c : DotValue). 0 < c.site) dots of_site.0) high found_is in
            let same : y.op ≡ x =
            same_Some y.op x
            (sym (r.facts.known y.op (inr waiting) (r.facts.foreign y.op waiting))
            ∙ ap (λ (c : DotValue). made_op last c) dots ∙ there_is) in
            let least : next_ready m.have m.waiting ≡ Some x = y.is ∙ ap (λ (z : OpValue). Some z) same in
            let fits : misfit x m ≡ None = sym (misfit_with x (map outline_of m.waiting) m) ∙ u.fits in
            let q : IsResumed m d = record {
              op = x;
              dot = f.1;
              least = least;
              fits = fits;
              is =
                  ap (λ (o : Option OpValue). next_of o m) least
                  ∙ ap (λ (why : Option Why). waited why x (forget x m)) fits;
            } in
            next_entry (step_is ∙ resumed_outlined m d q)

    pub resolved_all : (states : States) → Reaches all states → Within states last
        → (site : ℕ) → 0 < site → site ≤ n → Resolved site (states site)
    resolved_all _ Begun w = λ site some within. resolved_begin site
    resolved_all _ (Then {old} {new} before_ g) w =
        λ site some within. then_ old new g w
        (resolved_all old before_ (λ s x i. w s x (grows all old new g s x i))) site some within
      where
        then_ : (old new : States) (g : Goes all old new) → Within new last
            → ((site : ℕ) → 0 < site → site ≤ n → Resolved site (old site))
            → (site : ℕ) → 0 < site → site ≤ n → Resolved site (new site)
        then_ old new g w h site some within =
            subst (λ (z : States). Resolved site (z site)) (sym g.is) (at (nat_eq site g.site) refl)
          where
            at : (b : Bool) → nat_eq site g.site ≡ b
                → Resolved site (if b then record { machine = g.to.machine; left = g.rest } else old site)
            at false f = h site some within
            at true f =
                subst (λ (k : ℕ). Resolved k (record { machine = g.to.machine; left = g.rest }))
                (sym (eqb-true site g.site f))
                (resolve old (λ s x i. w s x (grows all old new g s x i)) g.site g.some g.within
                (h g.site g.some g.within) g.entry.told g.entry.reply g.rest g.next g.to g.judged g.reply g.fit)
