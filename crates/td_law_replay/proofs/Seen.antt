-- What is known of a site in the replay from its entries alone.
use Rattle.std.proofs.Common.{◌≡◌, ◌≢◌, ◌<◌, ◌≤◌, ◌-◌, ◌++◌, List, [], ◌∷◌, ℕ, Bool, true, false, not}
use Rattle.std.proofs.Common.{if◌then◌else◌, nat_eq, nat_le, length, filter, Some, None, refl, sym, ap}
use Rattle.std.proofs.Common.{◌∙◌, subst, inl, ⊎_elim, append_assoc, arith}
use Rattle.std.proofs.lemmas.Option.{same_Some}
use Rattle.std.proofs.lemmas.Bool.{eqb-true, leb-true, leb-false, le-leb, and_parts}
use Rattle.td_base.specs.Value.{DotValue}
use Rattle.td_base.specs.Lists.{In}
use Rattle.td_base.proofs.Lists.{In-back, In-filter}
use Rattle.td_base.proofs.Elements.{CutAt, cut_at}
use Rattle.td_base.proofs.Equals.{same_dot_true}
use Rattle.td_base.proofs.Searches.{find_In}
use Rattle.td_clock.specs.Vector.{vector_get, vector_set, vector_covers}
use Rattle.td_clock.proofs.VectorLemmas.{covered_dots}
use Rattle.td_op.specs.declared.input.Input.{Input}
use Rattle.td_op.specs.declared.input.Input.TheVariants.{Local, Take, Next}
use Rattle.td_op.specs.declared.message.Message.TheVariants.{Op as AnOp, Vote as AVote}
use Rattle.td_op.specs.declared.reply.Reply.{Reply}
use Rattle.td_op.specs.declared.reply.Reply.TheVariants.{New, Taken}
use Rattle.td_op.specs.Op.{OpValue}
use Rattle.td_op.specs.Input.{IsInput}
use Rattle.td_op.specs.Message.{IsOpValue}
use Rattle.td_machine.specs.Counts.{ops_of, IsInTurn}
use Rattle.td_machine.specs.Ready.{is_had, is_ready, is_dot_of}
use Rattle.td_machine.specs.Machine.{Machine, made}
use Rattle.td_machine.specs.Taking.{Stepped, stepped, forget}
use Rattle.td_machine.specs.Step.{step}
use Rattle.td_machine.specs.History.{IsReached}
use Rattle.td_machine.proofs.StepKinds.{least_in}
use Rattle.td_machine.proofs.Turns.{counted as counted_in_turn, length_counts, placed}
use Rattle.td_machine.proofs.Counting.{older_in_turn, found, Found}
use Rattle.td_machine.proofs.Induction.{IsBuiltSomewhere, built_of, reached_start, reached_step}
use Rattle.td_machine.proofs.Reached.{counted_of, of_sites}
use Rattle.td_machine.proofs.Family.{unique}
use Rattle.td_trace.specs.Entries.{told_of}
use Rattle.td_trace.specs.declared.entry.TraceEntry.{TraceEntry}
use Rattle.td_trace.specs.declared.told_input.ToldInput.{ToldInput}
use Rattle.td_trace.specs.declared.told_input.ToldInput.TheVariants.{Asked, TookOp, TookVote, Went}
use Rattle.td_law_replay.specs.Counting.{Count, no_count, count_entry, deps_from, made_deps}
use Rattle.td_law_replay.specs.Judging.{outline, SiteState, States, begin, made_op, Steps, take_waiting, judge}
use Rattle.td_law_replay.specs.Replay.{Goes}
use Rattle.td_law_replay.specs.Replies.{is_new, taken_of, NotUnfit}
use Rattle.td_law_replay.specs.Traced.{site_entries, IsTold, AreInRange}
use Rattle.td_law_replay.proofs.Outlined.{with_step, local_with, vote_with, take_keeps}
use Rattle.td_law_replay.proofs.Matching.{Matches, StillMatches, matches_step, matches_start, counted_silent}
use Rattle.td_law_replay.proofs.Values.{values_of}
use Rattle.td_law_replay.proofs.Telling.{More, more, same_site, own_had, made_in_step}
use Rattle.td_law_replay.proofs.Going.{new_is, taken_is, new_takes}
use Rattle.td_law_replay.proofs.Counts.{is_made, count_entries, count_snoc, deps_skip, made_deps_is}
use Rattle.td_law_replay.proofs.Bare.{bare, new_bare, IsKept, known_kept, IsTakenUp, taken_up, resumed_bare, idle_kept}
use Rattle.td_law_replay.proofs.Judging.{same_steps, VoteJudged, vote_judged, Offer, Used, Known, offer_judged}
use Rattle.td_law_replay.proofs.Judging.{Onward, Idles, TakesUp, onward_judged, made_deps_within}

pub record Seen (all : List (List TraceEntry)) (site : ℕ) (state : SiteState) : Type 0 where
  pub done : List TraceEntry
  pub splits : site_entries all site ≡ done ++ state.left
  pub reached : IsReached (bare state.machine)
  pub here : state.machine.site ≡ site
  pub sized : state.machine.size ≡ length all
  pub matches : Matches (count_entries site (length all) (no_count (length all)) done) (bare state.machine)
  pub tells : (x : OpValue) → In x state.machine.log → x.dot.site ≡ site → made_deps all x.dot ≡ Some x.deps
  pub outlines : (y : OpValue) → In y state.machine.waiting
      → (made_deps all y.dot ≡ Some y.deps) × (y.dot.site ≢ site) × (0 < y.dot.site)

pub seen_begin : (all : List (List TraceEntry)) → AreInRange all → (site : ℕ) → 0 < site → site ≤ length all
    → Seen all site (begin all site)
seen_begin all t site some within =
    record {
      done = [];
      splits = refl;
      reached = reached_start site (length all) some within t.few;
      here = refl;
      sized = refl;
      matches = matches_start site (length all);
      tells = λ x i e. absurd i;
      outlines = λ y i. absurd i;
    }

-- an operation of the log is for so many sites
pub sized_of : (m : Machine) → IsReached m → (x : OpValue) → In x m.log → length x.deps ≡ m.size
sized_of m r x i =
    let b = (built_of m r).built in
    let s : CutAt x m.log = cut_at x m.log i in
    let turn = older_in_turn m.size s.front x s.back
    (subst (λ (l : List OpValue). IsInTurn m.size l) s.is (counted_in_turn m b).1) in
    turn.0.size ∙ length_counts m.size s.back

-- an own operation that was counted before a step was there before it
older_own : (b : Machine) (input : Input) → IsReached b → IsInput input → (x : OpValue)
    → In x (step b input).machine.log → x.dot.site ≡ b.site → x.dot.seq ≤ made b → In x b.log
older_own b input r valid x i here low =
    let n : Machine = (step b input).machine in
    let q : IsReached n = reached_step b input r valid in
    let w = (built_of b r).built in
    let z = (built_of n q).built in
    let p = older_site in
    let ops : vector_have ≡ length (ops_of b.site b.log) = counted_of b r b.site p.0 p.1 in
    let positive : 0 < x.dot.seq = (of_sites n q x i).2 in
    let f : Found (record { site = b.site; seq = x.dot.seq }) b.log =
    found b.size b.site x.dot.seq b.log positive (counted_in_turn b w).1 (omega (arith, low, ops)) in
    let a : More b n = more b input r in
    let inside : In f.op n.log =
    subst (λ (l : List OpValue). In f.op l) (sym a.is) (In-back f.op a.ops b.log f.inside) in
    let dots : f.op.dot ≡ x.dot = f.is ∙ (λ j. record { site = sym here j; seq = x.dot.seq }) in
    subst (λ (y : OpValue). In y b.log) (unique n.size f.op x n.log (counted_in_turn n z).1 inside i dots) f.inside
  where
    vector_have : ℕ
    vector_have = vector_get b.have b.site

    older_site : (0 < b.site) × (b.site ≤ b.size)
    older_site =
        let s : IsBuiltSomewhere b = built_of b r in
        let p = placed b s.built in (p.0, p.1)

module _ (all : List (List TraceEntry)) (t : AreInRange all) (site : ℕ) (some : 0 < site) (within : site ≤ length all)
    (state : SiteState) (s : Seen all site state) (told : ToldInput) (reply : Reply) (rest : List TraceEntry)
    (left : state.left ≡ record { told = told; reply = reply } ∷ rest) where
  abbrev n : ℕ
  n = length all

  abbrev entry : TraceEntry
  entry = record { told = told; reply = reply }

  abbrev m : Machine
  m = state.machine

  abbrev c : Count
  c = count_entries site n (no_count n) s.done

  splits_on : site_entries all site ≡ s.done ++ entry ∷ rest
  splits_on = s.splits ∙ ap (λ (l : List TraceEntry). s.done ++ l) left

  pub told_valid : IsTold told
  told_valid =
      t.each site some within entry
      (subst (λ (l : List TraceEntry). In entry l) (sym splits_on) (In-back entry s.done (entry ∷ rest) (inl refl)))

  splits_then : site_entries all site ≡ (s.done ++ entry ∷ []) ++ rest
  splits_then = splits_on ∙ sym (append_assoc s.done (entry ∷ []) rest)

  count_then : count_entries site n (no_count n) (s.done ++ entry ∷ []) ≡ count_entry site n c entry
  count_then = count_snoc site n (no_count n) s.done entry

  -- the step is one of the machine in which nothing waits
  step_on : (input : Input) → IsInput input → (to : Stepped) (r : Reply)
      → step (bare m) input ≡ stepped r (bare to.machine)
      → count_entry site n c (record { told = told_of input; reply = r }) ≡ count_entry site n c entry
      → ((y : OpValue) → In y to.machine.waiting → In y m.waiting)
      → Seen all site (record { machine = to.machine; left = rest })
  step_on input valid to r is count waiting =
      record {
        done = s.done ++ entry ∷ [];
        splits = splits_then;
        reached = now_reached;
        here = ap (λ (x : Stepped). x.machine.site) (sym is) ∙ (same_site (bare m) input s.reached valid).0 ∙ s.here;
        sized = ap (λ (x : Stepped). x.machine.size) (sym is) ∙ (same_site (bare m) input s.reached valid).1 ∙ s.sized;
        matches = subst (λ (d : Count). Matches d (bare to.machine)) (sym count_then) now_matches;
        tells = tells_now;
        outlines = λ y i. s.outlines y (waiting y i);
      }
    where
      now_reached : IsReached (bare to.machine)
      now_reached =
          subst (λ (x : Stepped). IsReached x.machine) is (reached_step (bare m) input s.reached valid)

      now_matches : Matches (count_entry site n c entry) (bare to.machine)
      now_matches =
          subst (λ (d : Count). Matches d (bare to.machine)) count
          (subst (λ (k : ℕ). Matches (count_entry k n c (record { told = told_of input; reply = r }))
          (bare to.machine)) s.here
          (subst (λ (k : ℕ). Matches (count_entry m.site k c (record { told = told_of input; reply = r }))
          (bare to.machine)) s.sized
          (subst (λ (x : Stepped). StillMatches m.site m.size c (told_of input) x) is
          (matches_step c (bare m) s.reached s.matches input valid))))

      tells_now : (x : OpValue) → In x to.machine.log → x.dot.site ≡ site → made_deps all x.dot ≡ Some x.deps
      tells_now x i e = at (nat_le x.dot.seq (made (bare m))) refl
        where
          inside : In x (step (bare m) input).machine.log
          inside = subst (λ (y : Stepped). In x y.machine.log) (sym is) i

          own : x.dot.site ≡ (bare m).site
          own = e ∙ sym s.here

          at : (b : Bool) → nat_le x.dot.seq (made (bare m)) ≡ b → made_deps all x.dot ≡ Some x.deps
          at true f =
              s.tells x
              (older_own (bare m) input s.reached valid x inside own (leb-true x.dot.seq (made (bare m)) f)) e
          at false f =
              let new : made (bare m) < x.dot.seq = leb-false x.dot.seq (made (bare m)) f in
              let deps : x.deps ≡ vector_set m.have m.site (x.dot.seq - 1) =
              made_in_step (bare m) input s.reached valid x inside own new in
              let before : vector_get c.have site ≡ made (bare m) =
              ap (λ (v : List ℕ). vector_get v site) s.matches.have
              ∙ ap (λ (k : ℕ). vector_get m.have k) (sym s.here) in
              let site_now : to.machine.site ≡ site =
              ap (λ (y : Stepped). y.machine.site) (sym is) ∙ (same_site (bare m) input s.reached valid).0 ∙ s.here in
              let after_ : vector_get (count_entry site n c entry).have site ≡ made (bare to.machine) =
              ap (λ (v : List ℕ). vector_get v site) now_matches.have
              ∙ ap (λ (k : ℕ). vector_get to.machine.have k) (sym site_now) in
              let low : x.dot.seq ≤ made (bare to.machine) =
              own_had (bare to.machine) now_reached x i (e ∙ sym site_now) in
              let skip : deps_from site n x.dot.seq (no_count n) (s.done ++ entry ∷ rest)
              ≡ deps_from site n x.dot.seq c (entry ∷ rest) =
              deps_skip site n x.dot.seq (no_count n) s.done (entry ∷ rest) (omega (arith, before, new)) in
              let told : deps_from x.dot.site n x.dot.seq (no_count n) (site_entries all x.dot.site) ≡ Some x.deps =
              ap (λ (k : ℕ). deps_from k n x.dot.seq (no_count n) (site_entries all k)) e
              ∙ ap (λ (l : List TraceEntry). deps_from site n x.dot.seq (no_count n) l) splits_on
              ∙ skip
              ∙ ap
              (λ (b : Bool).
              if b then Some (vector_set c.have site (x.dot.seq - 1))
              else deps_from site n x.dot.seq (count_entry site n c entry) rest)
              (le-leb x.dot.seq (vector_get (count_entry site n c entry).have site) (omega (arith, after_, low)))
              ∙ ap (λ (v : List ℕ). Some (vector_set v site (x.dot.seq - 1))) s.matches.have
              ∙ ap (λ (k : ℕ). Some (vector_set m.have k (x.dot.seq - 1))) (sym s.here)
              ∙ ap (λ (v : List ℕ). Some v) (sym deps) in
              made_deps_is all x.dot x.deps (values_of (bare to.machine) now_reached x i).deps told

  -- nothing is made or taken
  stay_on : (to : Stepped) → bare to.machine ≡ bare m
      → (is_made reply ≡ false) × (is_new reply ≡ false) × (taken_of reply ≡ None)
      → ((y : OpValue) → In y to.machine.waiting
      → (made_deps all y.dot ≡ Some y.deps) × (y.dot.site ≢ site) × (0 < y.dot.site))
      → Seen all site (record { machine = to.machine; left = rest })
  stay_on to is quiet outlines =
      record {
        done = s.done ++ entry ∷ [];
        splits = splits_then;
        reached = subst (λ (x : Machine). IsReached x) (sym is) s.reached;
        here = ap (λ (x : Machine). x.site) is ∙ s.here;
        sized = ap (λ (x : Machine). x.size) is ∙ s.sized;
        matches =
            subst (λ (d : Count). Matches d (bare to.machine))
            (sym (count_then ∙ counted_silent site n c told reply quiet.0 quiet.1 quiet.2))
            (subst (λ (x : Machine). Matches c x) (sym is) s.matches);
        tells = λ x i e. s.tells x (subst (λ (y : Machine). In x y.log) is i) e;
        outlines = outlines;
      }

-- ---- each entry that is done

pub found_dot : (states : States) (d : DotValue) (x : OpValue) → made_op states d ≡ Some x
    → In x (states d.site).machine.log × (x.dot ≡ d)
found_dot states d x e =
    let f = find_In (is_dot_of d) (states d.site).machine.log x e in (f.0, same_dot_true x.dot d f.1)

abbrev pub AllSeen : List (List TraceEntry) → States → Type 0
AllSeen all states = (site : ℕ) → 0 < site → site ≤ length all → Seen all site (states site)

-- what is found is a value of its type
finds : (all : List (List TraceEntry)) (states : States) → AllSeen all states → (d : DotValue) (x : OpValue)
    → 0 < d.site
    → d.site ≤ length all → made_op states d ≡ Some x → IsOpValue x
finds all states seen d x some within e =
    values_of (bare (states d.site).machine) (seen d.site some within).reached x (found_dot states d x e).0

covers_at : (v w : List ℕ) (site : ℕ) → vector_covers v w ≡ true → vector_get w site ≤ vector_get v site
covers_at v w site e =
    let last : ℕ = vector_get w site in
    leb-true last (vector_get v site)
    (covered_dots v w e (record { site = site; seq = last }) (le-leb last last (omega arith)))

module _ (all : List (List TraceEntry)) (t : AreInRange all) (states : States) (seen : AllSeen all states) where
  seen_entry : (site : ℕ) (some : 0 < site) (within : site ≤ length all) (told : ToldInput) (reply : Reply)
      (rest : List TraceEntry)
      (to : Stepped) → (states site).left ≡ record { told = told; reply = reply } ∷ rest
      → judge all states site (states site).machine told reply ≡ Steps to → to.reply ≡ reply → NotUnfit reply
      → Seen all site (record { machine = to.machine; left = rest })
  seen_entry site some within (Asked request) reply rest to left judged replied fit =
      let s : Seen all site (states site) = seen site some within in
      let m : Machine = (states site).machine in
      let is : to ≡ step m (Local request) = same_steps (step m (Local request)) to judged in
      step_on all t site some within (states site) s (Asked request) reply rest left (Local request)
      (told_valid all t site some within (states site) s (Asked request) reply rest left) to reply
      (local_with request [] m ∙ ap (λ (x : Stepped). with_step [] x) (sym is)
      ∙ ap (λ (r : Reply). stepped r (bare to.machine)) replied)
      refl
      (λ y i. subst (λ (l : List OpValue). In y l)
      (ap (λ (x : Stepped). x.machine.waiting) (is ∙ local_with request m.waiting m)) i)
  seen_entry site some within (TookVote v) reply rest to left judged replied fit =
      let s : Seen all site (states site) = seen site some within in
      let m : Machine = (states site).machine in
      let j : VoteJudged site m v to = vote_judged all states site m v reply to judged in
      step_on all t site some within (states site) s (TookVote v) reply rest left (Take (AVote v))
      (told_valid all t site some within (states site) s (TookVote v) reply rest left) to reply
      (vote_with v [] m ∙ ap (λ (x : Stepped). with_step [] x) (sym j.is)
      ∙ ap (λ (r : Reply). stepped r (bare to.machine)) replied)
      refl
      (λ y i. subst (λ (l : List OpValue). In y l)
      (ap (λ (x : Stepped). x.machine.waiting) (j.is ∙ vote_with v m.waiting m)) i)
  seen_entry site some within (TookOp d) reply rest to left judged replied fit =
      at (offer_judged all states site (states site).machine d reply to judged)
    where
      at : Offer all states site (states site).machine d reply to
          → Seen all site (record { machine = to.machine; left = rest })
      at (Used x deps apart deps_are found new is) =
          let s : Seen all site (states site) = seen site some within in
          let m : Machine = (states site).machine in
          let f = found_dot states d x found in
          let now : (step m (Take (AnOp x))).reply ≡ New =
          ap (λ (y : Stepped). y.reply) (sym is) ∙ replied ∙ new_is reply new in
          step_on all t site some within (states site) s (TookOp d) reply rest left (Take (AnOp x))
          (finds all states seen d x
          (told_valid all t site some within (states site) s (TookOp d) reply rest left).site.least
          (made_deps_within all d deps deps_are) found) to reply
          (new_bare x m now ∙ ap (λ (y : Stepped). with_step [] y) (sym is)
          ∙ ap (λ (r : Reply). stepped r (bare to.machine)) replied)
          (ap
          (λ (e : DotValue).
          count_entry site (length all) (count_entries site (length all) (no_count (length all)) s.done)
          (record { told = TookOp e; reply = reply })) f.1)
          (λ y i. subst (λ (l : List OpValue). In y l)
          (ap (λ (z : Stepped). z.machine.waiting) is ∙ ap (λ (k : Machine). k.waiting) (new_takes x m now)
          ∙ take_keeps x m) i)
      at (Known deps apart deps_are new is) =
          let s : Seen all site (states site) = seen site some within in
          let m : Machine = (states site).machine in
          let dot = told_valid all t site some within (states site) s (TookOp d) reply rest left in
          let same : (step m (Take (AnOp (outline d deps)))).reply ≡ reply = ap (λ (y : Stepped). y.reply) (sym is)
          ∙ replied in
          let k : IsKept (outline d deps) m (step m (Take (AnOp (outline d deps)))) =
          known_kept (outline d deps) m (ap is_new same ∙ new) (subst (λ (r : Reply). NotUnfit r) (sym same) fit) in
          stay_on all t site some within (states site) s (TookOp d) reply rest left to
          (ap (λ (y : Stepped). bare y.machine) is ∙ k.bare_is)
          (ap is_made (sym same) ∙ k.quiet.0, new, ap taken_of (sym same) ∙ k.quiet.2)
          (λ y i.
          ⊎_elim
          (λ (e : y ≡ outline d deps). (
            ap (λ (z : OpValue). made_deps all z.dot) e ∙ deps_are ∙ ap (λ (z : OpValue). Some z.deps) (sym e),
            subst (λ (z : OpValue). z.dot.site ≢ site) (sym e) apart,
            subst (λ (z : OpValue). 0 < z.dot.site) (sym e) dot.site.least,
          ))
          (λ (j : In y m.waiting). s.outlines y j)
          (k.waiting y (subst (λ (z : Stepped). In y z.machine.waiting) is i)))
  seen_entry site some within Went reply rest to left judged replied fit =
      at (onward_judged all states site (states site).machine reply to judged)
    where
      at : Onward all states site (states site).machine reply to
          → Seen all site (record { machine = to.machine; left = rest })
      at (Idles none is) =
          let s : Seen all site (states site) = seen site some within in
          let m : Machine = (states site).machine in
          let same : (step m Next).reply ≡ reply = ap (λ (y : Stepped). y.reply) (sym is) ∙ replied in
          let k = idle_kept m (subst (λ (r : Reply). NotUnfit r) (sym same) fit) (ap taken_of same ∙ none) in
          let idle = sym same ∙ k.1 in
          stay_on all t site some within (states site) s Went reply rest left to
          (ap (λ (y : Stepped). bare y.machine) is ∙ ap bare k.0)
          (ap is_made idle, ap is_new idle, none)
          (λ y i. s.outlines y (subst (λ (z : Machine). In y z.waiting) (ap (λ (z : Stepped). z.machine) is ∙ k.0) i))
      at (TakesUp d x deps taken apart deps_are found is) =
          let s : Seen all site (states site) = seen site some within in
          let m : Machine = (states site).machine in
          let f = found_dot states d x found in
          let up : (take_waiting x m).reply ≡ Taken x.dot =
          ap (λ (y : Stepped). y.reply) (sym is) ∙ replied ∙ taken_is reply d taken
          ∙ ap (λ (e : DotValue). Taken e) (sym f.1) in
          let u : IsTakenUp x m = taken_up x m up in
          let inside : In u.outline_is m.waiting =
          (In-filter (is_ready m.have) u.outline_is m.waiting
          (least_in (filter (is_ready m.have) m.waiting) u.outline_is u.least)).0 in
          let ready : is_ready m.have u.outline_is ≡ true =
          (In-filter (is_ready m.have) u.outline_is m.waiting
          (least_in (filter (is_ready m.have) m.waiting) u.outline_is u.least)).1 in
          let st = s.outlines u.outline_is inside in
          let dots : u.outline_is.dot ≡ d = u.same ∙ f.1 in
          let low : 0 < d.site = subst (λ (e : DotValue). 0 < e.site) dots st.2 in
          let high : d.site ≤ length all = made_deps_within all d deps deps_are in
          let home : Seen all d.site (states d.site) = seen d.site low high in
          let tells : made_deps all x.dot ≡ Some x.deps = home.tells x f.0 (ap (λ (e : DotValue). e.site) f.1) in
          let same_deps : x.deps ≡ u.outline_is.deps =
          same_Some x.deps u.outline_is.deps
          (sym tells ∙ ap (λ (e : DotValue). made_deps all e) (sym u.same) ∙ st.0) in
          let long : length x.deps ≡ (states d.site).machine.size =
          sized_of (bare (states d.site).machine) home.reached x f.0 in
          let cover = covers_at m.have u.outline_is.deps m.site
          (and_parts (not (is_had m.have u.outline_is)) (vector_covers m.have u.outline_is.deps) ready).1 in
          step_on all t site some within (states site) s Went reply rest left (Take (AnOp x))
          (finds all states seen d x low high found) to New
          (resumed_bare x m u same_deps (long ∙ home.sized ∙ sym s.sized)
          (λ (e : x.dot.site ≡ m.site). apart (ap (λ (e : DotValue). e.site) (sym f.1) ∙ e ∙ s.here))
          (subst (λ (v : List ℕ). vector_get v m.site ≤ made m) (sym same_deps) cover)
          ∙ ap (λ (y : Stepped). stepped New (bare y.machine)) (sym (is ∙ u.is)))
          (ap
          (λ (e : DotValue).
          count_entry site (length all) (count_entries site (length all) (no_count (length all)) s.done)
          (record { told = Went; reply = Taken e })) f.1
          ∙ ap
          (λ (r : Reply).
          count_entry site (length all) (count_entries site (length all) (no_count (length all)) s.done)
          (record { told = Went; reply = r })) (sym (taken_is reply d taken)))
          (λ y i.
          (In-filter (λ (z : OpValue). not (is_dot_of x.dot z)) y m.waiting
          (subst (λ (l : List OpValue). In y l)
          (ap (λ (z : Stepped). z.machine.waiting) (is ∙ u.is) ∙ take_keeps x (forget x m)) i)).0)

  pub seen_goes : (new : States) → Goes all states new → AllSeen all new
  seen_goes new g site some within =
      subst (λ (z : States). Seen all site (z site)) (sym g.is) (at (nat_eq site g.site) refl)
    where
      at : (b : Bool) → nat_eq site g.site ≡ b
          → Seen all site (if b then record { machine = g.to.machine; left = g.rest } else states site)
      at false f = seen site some within
      at true f =
          subst (λ (k : ℕ). Seen all k (record { machine = g.to.machine; left = g.rest }))
          (sym (eqb-true site g.site f))
          (seen_entry g.site g.some g.within g.entry.told g.entry.reply g.rest g.to g.next g.judged g.reply g.fit)
