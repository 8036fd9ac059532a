-- Passes end. In the first one all operations that were sent go out, and so all votes are sent; in the second one the
-- votes go out, and so all decisions are made; in the third one these go out, and bring nothing new.
use Rattle.std.proofs.Common.{◌≡◌, ◌≢◌, ◌<◌, ◌≤◌, ◌+◌, ◌*◌, ℕ, zero, suc, List, [], ◌∷◌, Bool}
use Rattle.std.proofs.Common.{true, false, not, if◌then◌else◌, nat_eq, nat_le, length, None, Some, refl}
use Rattle.std.proofs.Common.{sym, ap, ◌∙◌, subst, ⊎_elim, true≢false, arith}
use Rattle.std.proofs.lemmas.Bool.{and_parts, eqb-true, eqb-false, leb-true, leb-false, not-true}
use Rattle.std.specs.Prelude.{IsTrue}
use Rattle.std.specs.List.{AllByRecursion}
use Rattle.td_base.specs.Lists.{In}
use Rattle.td_base.proofs.Lists.{In-append, In-filter}
use Rattle.td_base.proofs.Elements.{In-behind, cut_at, CutAt}
use Rattle.td_clock.specs.Vector.{vector_has}
use Rattle.td_path.specs.declared.slot.Slot.{Slot}
use Rattle.td_op.specs.declared.body.Body.{Body}
use Rattle.td_op.specs.declared.body.Body.TheVariants.{Propose}
use Rattle.td_op.specs.declared.input.Input.TheVariants.{Take}
use Rattle.td_op.specs.declared.message.Message.{Message}
use Rattle.td_op.specs.declared.message.Message.TheVariants.{Op as AnOp, Vote as AVote}
use Rattle.td_op.specs.declared.vote.Vote.{Vote}
use Rattle.td_op.specs.Op.{OpValue}
use Rattle.td_op.specs.Past.{in_past}
use Rattle.td_machine.specs.History.{Family, IsConsistent, IsOpOf, machine, log_of}
use Rattle.td_machine.specs.Log.{proposed}
use Rattle.td_machine.specs.Machine.{Machine}
use Rattle.td_machine.proofs.Family.{made_at, sent_ops}
use Rattle.td_machine.proofs.Reached.{of_sites, past_of}
use Rattle.td_machine.proofs.Walk.{offered}
use Rattle.td_world.specs.World.{WorldValue, Move, IsWorld, size, machine_of, family_of}
use Rattle.td_world.specs.World.{is_sent_by, sent_by, moved, moved_all}
use Rattle.td_op.specs.Message.{is_for}
use Rattle.td_replica.specs.Replica.{knows_message, has_ready}
use Rattle.td_world.specs.Calls.{is_wanted, pass, passes, count_given, IsSettled}
use Rattle.td_world.specs.Promises.{NobodyReady}
use Rattle.td_world.proofs.Causes.{passes_end, settled_one}
use Rattle.td_world.proofs.Settling.{IsSettling}
use Rattle.td_world.proofs.Came.{IsNews, IsAnswer, IsVerdict, step_news}
use Rattle.td_world.proofs.Due.{IsDue, Waited, Given, AreDue, AreAwake, due_pass, due_site, due_other}
use Rattle.td_world.proofs.Due.{due_fit, due_moved, world_due, sent_there, awake_pass}
use Rattle.td_world.proofs.Lasting.{stays_known, stays_had, pass_known, known_pass}
use Rattle.td_world.proofs.Moves.{low, for_parts, size_family, size_moved, size_after, moved_both, still_sent}
use Rattle.td_world.proofs.Named.{built_end, reached_end, site_is, size_is, sending_end}
use Rattle.td_world.proofs.Nexts.{pass_awake}
use Rattle.td_world.proofs.Settled.{had_early, same_op, op_in}

-- ---- what a due move sends

news_of : (w : WorldValue) (move : Move) → IsDue w move → (message : Message) → In message (sent_by move w)
    → IsNews (machine_of w move.site) move.input message
news_of w move d message j = step_news (machine_of w move.site) move.input (due_other w move d) message j

-- a message that is given was sent and is wanted
given_is : (w : WorldValue) (move : Move) → IsDue w move → (message : Message) → move.input ≡ Take message
    → In message w.sent × (is_wanted move.site message w ≡ true)
given_is w move (Waited site some within) message e = absurd cc
given_is w move (Given site other some within sent wanted) message e =
    subst (λ (m : Message). In m w.sent × (is_wanted site m w ≡ true)) (same other message e) (sent, wanted)
  where
    same : (a b : Message) → Take a ≡ Take b → a ≡ b
    same a b f = cc

no_op_vote : (x : OpValue) (v : Vote) → AnOp x ≡ AVote v → ⊥
no_op_vote x v e = cc

same_op_of : (x y : OpValue) → AnOp x ≡ AnOp y → x ≡ y
same_op_of x y e = cc

proposes : (slot : Slot) (b : Body) → b ≡ Propose slot → proposed b ≡ None → ⊥
proposes slot b e f = none_some (sym f ∙ ap proposed e)
  where
    none_some : None ≡ Some slot → ⊥
    none_some k = cc

-- no proposal
new_proposal : (w : WorldValue) (move : Move) → IsDue w move → (q : OpValue) (slot : Slot) → q.body ≡ Propose slot
    → In (AnOp q) (moved move w).sent → In (AnOp q) w.sent
new_proposal w move d q slot e j =
    ⊎_elim (λ (k : In (AnOp q) w.sent). k)
    (λ (k : In (AnOp q) (sent_by move w)).
    absurd
    (⊎_elim
    (λ (a : IsAnswer (machine_of w move.site) move.input (AnOp q)). no_op_vote q a.vote a.is)
    (λ (v : IsVerdict move.input (AnOp q)).
    proposes slot v.op.body (ap (λ (x : OpValue). x.body) (sym (same_op_of q v.op v.is)) ∙ e) v.decides)
    (news_of w move d (AnOp q) k)))
    (In-append (AnOp q) w.sent (sent_by move w) j)

no_proposals : (moves : List Move) (w : WorldValue) → AreDue moves w → (q : OpValue) (slot : Slot)
    → q.body ≡ Propose slot → In (AnOp q) (moved_all moves w).sent → In (AnOp q) w.sent
no_proposals [] w d q slot e j = j
no_proposals (move ∷ moves) w d q slot e j =
    new_proposal w move d.0 q slot e (no_proposals moves (moved move w) d.1 q slot e j)

-- ---- what was sent, and what waits, in a world

module _ (w : WorldValue) (i : IsWorld w) where
  within_world : (site : ℕ) → site ≤ length (family_of w) → site ≤ size w
  within_world site few = let e : length (family_of w) ≡ size w = size_family w in omega (arith, e, few)

  in_world : (s : ℕ) → 0 < s → s ≤ length (family_of w) → (message : Message)
      → In message (machine (family_of w) s).sent → In message w.sent
  in_world s some within message j =
      (In-filter (is_sent_by s) message w.sent
      (subst (λ (l : List Message). In message l) (sym (i.sent s some (within_world s within)))
      (subst (λ (m : Machine). In message m.sent) (sym (i.machines s some (within_world s within))) j))).0

  -- what was sent is an operation of the site that sent it
  sent_op : (x : OpValue) → In (AnOp x) w.sent
      → (0 < x.dot.site) × (x.dot.site ≤ length (family_of w)) × In x (log_of (family_of w) x.dot.site)
  sent_op x j =
      let from = i.senders (AnOp x) j in
      let few = low w i x.dot.site from.1 in (
        from.0,
        few,
        (sent_ops (machine (family_of w) x.dot.site) (built_end (family_of w) i.consistent x.dot.site from.0 few) x
            (subst (λ (m : Machine). In (AnOp x) m.sent) (i.machines x.dot.site from.0 from.1)
            (sent_there w i (AnOp x) j))).0,
      )

  op_sent : (x : OpValue) → IsOpOf (family_of w) x → In (AnOp x) w.sent
  op_sent x o =
      let home = made_at (family_of w) i.consistent x o in
      in_world x.dot.site home.0 home.1 (AnOp x)
      ((sending_end (family_of w) i.consistent x.dot.site home.0 home.1).made x home.2
      (sym (site_is (family_of w) i.consistent x.dot.site home.0 home.1)))

  sent_is_op : (x : OpValue) → In (AnOp x) w.sent → IsOpOf (family_of w) x
  sent_is_op x j = let o = sent_op x j in op_in (family_of w) i.consistent x.dot.site o.0 o.1 x o.2

  -- what waits was sent by another site
  waiting_sent : (t : ℕ) → 0 < t → t ≤ size w → (x : OpValue) → In x (machine_of w t).waiting
      → In (AnOp x) w.sent × (x.dot.site ≢ t)
  waiting_sent t some within x j =
      let few : t ≤ length (family_of w) = low w i t within in
      let o =
      offered (machine (family_of w) t) (built_end (family_of w) i.consistent t some few) x
      (subst (λ (m : Machine). In x m.waiting) (i.machines t some within) j) in
      let size : (machine (family_of w) t).size ≡ length (family_of w) =
      size_is (family_of w) i.consistent t some few in
      let own : x.dot.site ≤ length x.deps = o.valid.op.own in
      let sized : length x.deps ≡ (machine (family_of w) t).size = o.sized in (
        in_world x.dot.site o.valid.dot.site.least (omega (arith, size, own, sized)) (AnOp x) o.came.sent,
        λ (e : x.dot.site ≡ t). o.other (e ∙ sym (site_is (family_of w) i.consistent t some few)),
      )

-- ---- sites that have all proposals of others

abbrev Informed : (ℕ → Type 0) → WorldValue → Type 0
Informed A w =
    (t : ℕ) → 0 < t → t ≤ size w → A t → (q : OpValue) (slot : Slot) → In (AnOp q) w.sent → q.body ≡ Propose slot
    → q.dot.site ≢ t → IsTrue (vector_has (machine_of w t).have q.dot)

-- each site knows the votes that were sent to it
abbrev VotesKnown : WorldValue → Type 0
VotesKnown w =
    (s : ℕ) → 0 < s → s ≤ size w → (v : Vote) → In (AVote v) w.sent → is_for s (AVote v) ≡ true
    → knows_message (AVote v) (machine_of w s) ≡ true

module _ (A : ℕ → Type 0) where
  abbrev AllIn : List Move → Type 0
  AllIn moves = AllByRecursion (λ (move : Move). A move.site) moves

  module _ (w : WorldValue) (i : IsWorld w) (move : Move) (d : IsDue w move) (a : A move.site)
      (informed : Informed A w) where
    -- a move at such a site sends decisions alone
    verdict_of : (message : Message) → In message (sent_by move w) → IsVerdict move.input message
    verdict_of message j =
        ⊎_elim
        (λ (r : IsAnswer (machine_of w move.site) move.input message).
        let p : In (AnOp r.op) w.sent × (r.op.dot.site ≢ move.site) =
        ⊎_elim
        (λ (e : move.input ≡ Take (AnOp r.op)).
        let g = given_is w move d (AnOp r.op) e in (
          g.0,
          (for_parts move.site (AnOp r.op)
              (and_parts (is_for move.site (AnOp r.op)) (not (knows_message (AnOp r.op) (machine_of w move.site)))
              g.1).0).0,
        ))
        (λ (k : In r.op (machine_of w move.site).waiting).
        waiting_sent w i move.site (due_site w move d).0 (due_site w move d).1 r.op k)
        r.from in
        absurd
        (true≢false
        (sym (informed move.site (due_site w move d).0 (due_site w move d).1 a r.op r.slot p.0 r.asks p.1) ∙ r.new)))
        (λ (v : IsVerdict move.input message). v)
        (news_of w move d message j)

    vote_before : (v : Vote) → In (AVote v) (moved move w).sent → In (AVote v) w.sent
    vote_before v j =
        ⊎_elim (λ (k : In (AVote v) w.sent). k)
        (λ (k : In (AVote v) (sent_by move w)).
        let r = verdict_of (AVote v) k in absurd (no_op_vote r.op v (sym r.is)))
        (In-append (AVote v) w.sent (sent_by move w) j)

    informed_moved : Informed A (moved move w)
    informed_moved t up within b q slot j e other =
        let few : t ≤ size w = subst (λ (n : ℕ). t ≤ n) (size_moved w move) within in
        stays_had w i move (due_fit w i move d) t up few q.dot
        (informed t up few b q slot (new_proposal w move d q slot e j) e other)

    -- and nothing where the votes are known
    calm : VotesKnown w → (message : Message) → In message (moved move w).sent → In message w.sent
    calm known message j =
        ⊎_elim (λ (k : In message w.sent). k)
        (λ (k : In message (sent_by move w)).
        let r = verdict_of message k in
        let g = given_is w move d (AVote r.vote) r.from in
        let p = and_parts (is_for move.site (AVote r.vote))
        (not (knows_message (AVote r.vote) (machine_of w move.site))) g.1 in
        absurd
        (true≢false
        (sym (known move.site (due_site w move d).0 (due_site w move d).1 r.vote g.0 p.0)
        ∙ not-true (knows_message (AVote r.vote) (machine_of w move.site)) p.1)))
        (In-append message w.sent (sent_by move w) j)

    known_moved : VotesKnown w → VotesKnown (moved move w)
    known_moved known s up within v j to =
        let few : s ≤ size w = subst (λ (n : ℕ). s ≤ n) (size_moved w move) within in
        stays_known w i move (due_fit w i move d) s up few (AVote v) (known s up few v (vote_before v j) to)

  votes_after : (moves : List Move) (w : WorldValue) → IsWorld w → AreDue moves w → AllIn moves → Informed A w
      → (v : Vote) → In (AVote v) (moved_all moves w).sent → In (AVote v) w.sent
  votes_after [] w i d a informed v j = j
  votes_after (move ∷ moves) w i d a informed v j =
      vote_before w i move d.0 a.0 informed v
      (votes_after moves (moved move w) (due_moved w i move d.0) d.1 a.1 (informed_moved w i move d.0 a.0 informed) v j)

  informed_after : (moves : List Move) (w : WorldValue) → IsWorld w → AreDue moves w → AllIn moves → Informed A w
      → Informed A (moved_all moves w)
  informed_after [] w i d a informed = informed
  informed_after (move ∷ moves) w i d a informed =
      informed_after moves (moved move w) (due_moved w i move d.0) d.1 a.1 (informed_moved w i move d.0 a.0 informed)

  calm_after : (moves : List Move) (w : WorldValue) → IsWorld w → AreDue moves w → AllIn moves → Informed A w
      → VotesKnown w → (message : Message) → In message (moved_all moves w).sent → In message w.sent
  calm_after [] w i d a informed known message j = j
  calm_after (move ∷ moves) w i d a informed known message j =
      calm w i move d.0 a.0 informed known message
      (calm_after moves (moved move w) (due_moved w i move d.0) d.1 a.1 (informed_moved w i move d.0 a.0 informed)
      (known_moved w i move d.0 a.0 informed known) message j)

-- ---- after a pass

module _ (old : WorldValue) (before : IsWorld old) (w : WorldValue) (i : IsWorld w)
    (there : (message : Message) → In message old.sent → In message w.sent) where
  -- what was sent by then has its past among what was sent by then
  closed : (x y : OpValue) → IsOpOf (family_of w) x → In (AnOp x) old.sent → IsOpOf (family_of w) y
      → IsTrue (in_past y x) → In (AnOp y) old.sent
  closed x y o soon p past =
      let f : Family = family_of old in
      let c : IsConsistent f = before.consistent in
      let home = sent_op old before x soon in
      let from = made_at (family_of w) i.consistent y p in
      let dot = of_sites (machine (family_of w) y.dot.site)
      (reached_end (family_of w) i.consistent y.dot.site from.0 from.1) y from.2 in
      let split : CutAt x (log_of f x.dot.site) = cut_at x (log_of f x.dot.site) home.2 in
      let z =
      past_of (machine f x.dot.site) (reached_end f c x.dot.site home.0 home.1) split.front x split.back split.is
      y.dot dot.0
      dot.2 past in
      let inside : In z.0 (log_of f x.dot.site) =
      subst (λ (log : List OpValue). In z.0 log) (sym split.is) (In-behind z.0 split.front x split.back z.1) in
      let sent : In (AnOp z.0) old.sent = op_sent old before z.0 (op_in f c x.dot.site home.0 home.1 z.0 inside) in
      subst (λ (u : OpValue). In (AnOp u) old.sent)
      (same_op (family_of w) i.consistent y z.0 p (sent_is_op w i z.0 (there (AnOp z.0) sent)) z.2) sent

  -- so a site that knows all that, and where nothing is ready, has all operations of it
  all_had : (t : ℕ) → 0 < t → t ≤ size w → has_ready (machine_of w t) ≡ false
      → ((message : Message) → In message old.sent → is_for t message ≡ true
      → knows_message message (machine_of w t) ≡ true)
      → (x : OpValue) → In (AnOp x) old.sent → IsTrue (vector_has (machine_of w t).have x.dot)
  all_had t some within idle known x soon =
      let same : machine_of w t ≡ machine (family_of w) t = i.machines t some within in
      subst (λ (m : Machine). IsTrue (vector_has m.have x.dot)) (sym same)
      (had_early (family_of w) i.consistent (λ (y : OpValue). In (AnOp y) old.sent) closed t some (low w i t within)
      (subst (λ (m : Machine). has_ready m ≡ false) same idle)
      (λ y o early to. subst (λ (m : Machine). knows_message (AnOp y) m ≡ true) same (known (AnOp y) early to))
      x (sent_is_op w i x (there (AnOp x) soon)) soon)

-- ---- three passes

abbrev passed : WorldValue → WorldValue
passed w = moved_all (pass w) w

world_passed : (w : WorldValue) → IsWorld w → IsWorld (passed w)
world_passed w i = world_due (pass w) w i (due_pass w)

size_passed : (w : WorldValue) → size (passed w) ≡ size w
size_passed w = size_after (pass w) w

module _ (w : WorldValue) (i : IsWorld w)
    (still : (s : ℕ) → 0 < s → s ≤ size w → has_ready (machine_of (passed (passed (passed w))) s) ≡ false
    → has_ready (machine_of (passed w) s) ≡ false) where
  abbrev first : WorldValue
  first = passed w

  abbrev second : WorldValue
  second = passed (passed w)

  abbrev third : WorldValue
  third = passed (passed (passed w))

  -- nothing is ready there at the end
  abbrev Awake : ℕ → Type 0
  Awake s = has_ready (machine_of third s) ≡ false

  at_first : IsWorld first
  at_first = world_passed w i

  at_second : IsWorld second
  at_second = world_passed first at_first

  informed_first : Informed Awake first
  informed_first t up within awake q slot j e other =
      let few : t ≤ size w = subst (λ (n : ℕ). t ≤ n) (size_passed w) within in
      all_had w i first at_first (λ message k. still_sent (pass w) w message k) t up within (still t up few awake)
      (λ message k to. pass_known w i t up few message k to) q (no_proposals (pass w) w (due_pass w) q slot e j)

  -- where moves are made in the second pass nothing is ready at the end
  awake_on : (moves : List Move) (v : WorldValue) → AreDue moves v → AreAwake second moves → AllIn Awake moves
  awake_on [] v d a = tt
  awake_on (move ∷ moves) v d a = (
    pass_awake (size second) 1 second (omega arith) (omega arith) move.site (due_site v move d.0).0 a.0,
    awake_on moves (moved move v) d.1 a.1,
  )

  awake_second : AllIn Awake (pass first)
  awake_second = awake_on (pass first) first (due_pass first) (awake_pass first)

  informed_second : Informed Awake second
  informed_second = informed_after Awake (pass first) first at_first (due_pass first) awake_second informed_first

  votes_second : VotesKnown second
  votes_second s up within v j to =
      let few : s ≤ size first = subst (λ (n : ℕ). s ≤ n) (size_passed first) within in
      pass_known first at_first s up few (AVote v)
      (votes_after Awake (pass first) first at_first (due_pass first) awake_second informed_first v j) to

  none_sent : (message : Message) → In message third.sent → In message second.sent
  none_sent =
      calm_after Awake (pass second) second at_second (due_pass second) (awake_pass second) informed_second votes_second

  nothing_left : pass third ≡ []
  nothing_left =
      known_pass third
      (λ s up within message j to.
      pass_known second at_second s up (subst (λ (n : ℕ). s ≤ n) (size_passed second) within) message
      (none_sent message j) to)

-- ---- so many passes

passes_on : (k : ℕ) (w : WorldValue) → moved_all (passes (suc k) w) w ≡ moved_all (passes k (passed w)) (passed w)
passes_on k w = moved_both (pass w) (passes k (passed w)) w

three_on : (w : WorldValue) → moved_all (passes 3 w) w ≡ passed (passed (passed w))
three_on w = passes_on 2 w ∙ passes_on 1 (passed w) ∙ passes_on 0 (passed (passed w))

awake_passed : (w : WorldValue) (s : ℕ) → 0 < s → has_ready (machine_of w s) ≡ false
    → has_ready (machine_of (passed w) s) ≡ false
awake_passed w s up h = pass_awake (size w) 1 w (omega arith) (omega arith) s up h

-- where nobody is ready, three are enough
pub three_enough : (w : WorldValue) → IsWorld w → NobodyReady w → pass (moved_all (passes 3 w) w) ≡ []
three_enough w i nobody =
    ap pass (three_on w) ∙ nothing_left w i (λ s up within awake. awake_passed w s up (nobody s up within))

-- ---- where some are ready

-- at how many of the first k sites something is ready
readies : ℕ → WorldValue → ℕ
readies zero w = 0
readies (suc k) w = if has_ready (machine_of w (suc k)) then suc (readies k w) else readies k w

few_ready : (k : ℕ) (w : WorldValue) → readies k w ≤ k
unfolding readies
few_ready zero w = omega arith
few_ready (suc k) w = at (has_ready (machine_of w (suc k))) (few_ready k w)
  where
    at : (b : Bool) → readies k w ≤ k → (if b then suc (readies k w) else readies k w) ≤ suc k
    at true h = omega (arith, h)
    at false h = omega (arith, h)

-- where nothing is ready in v, nothing is in w
abbrev StayAwake : ℕ → WorldValue → WorldValue → Type 0
StayAwake k v w =
    (s : ℕ) → 0 < s → s ≤ k → has_ready (machine_of v s) ≡ false → has_ready (machine_of w s) ≡ false

shorter : (k : ℕ) (v w : WorldValue) → StayAwake (suc k) v w → StayAwake k v w
shorter k v w h s up within = h s up (omega (arith, within))

no_more_ready : (k : ℕ) (v w : WorldValue) → StayAwake k v w → readies k w ≤ readies k v
unfolding readies
no_more_ready zero v w h = omega arith
no_more_ready (suc k) v w h =
    at (has_ready (machine_of v (suc k))) refl (has_ready (machine_of w (suc k))) refl
    (no_more_ready k v w (shorter k v w h))
  where
    at : (b : Bool) → has_ready (machine_of v (suc k)) ≡ b → (c : Bool) → has_ready (machine_of w (suc k)) ≡ c
        → readies k w ≤ readies k v
        → (if c then suc (readies k w) else readies k w) ≤ (if b then suc (readies k v) else readies k v)
    at true e true f less = omega (arith, less)
    at true e false f less = omega (arith, less)
    at false e false f less = less
    at false e true f less = absurd (true≢false (sym f ∙ h (suc k) (omega arith) (omega arith) e))

-- where as many are ready in w, they are the same ones
same_ready : (k : ℕ) (v w : WorldValue) → StayAwake k v w → readies k v ≤ readies k w → StayAwake k w v
unfolding readies
same_ready zero v w h many s up within awake = absurd (omega (arith, up, within))
same_ready (suc k) v w h many s up within awake =
    at (has_ready (machine_of v (suc k))) refl (has_ready (machine_of w (suc k))) refl many
    (no_more_ready k v w (shorter k v w h)) (nat_eq s (suc k)) refl
    (λ (more : readies k v ≤ readies k w) (few : s ≤ k). same_ready k v w (shorter k v w h) more s up few awake)
  where
    below : nat_eq s (suc k) ≡ false → s ≤ k
    below e = let other = eqb-false s (suc k) e in omega (arith, within, other)

    at : (b : Bool) → has_ready (machine_of v (suc k)) ≡ b → (c : Bool) → has_ready (machine_of w (suc k)) ≡ c
        → (if b then suc (readies k v) else readies k v) ≤ (if c then suc (readies k w) else readies k w)
        → readies k w ≤ readies k v → (t : Bool) → nat_eq s (suc k) ≡ t
        → (readies k v ≤ readies k w → s ≤ k → has_ready (machine_of v s) ≡ false) → has_ready (machine_of v s) ≡ false
    at true e false f more less t g rest = absurd (omega (arith, more, less))
    at false e true f more less t g rest =
        absurd (true≢false (sym f ∙ h (suc k) (omega arith) (omega arith) e))
    at true e true f more less true g rest =
        let here : s ≡ suc k = eqb-true s (suc k) g in
        absurd (true≢false (sym f ∙ ap (λ (z : ℕ). has_ready (machine_of w z)) (sym here) ∙ awake))
    at true e true f more less false g rest = rest (omega (arith, more)) (below g)
    at false e false f more less true g rest =
        let here : s ≡ suc k = eqb-true s (suc k) g in ap (λ (z : ℕ). has_ready (machine_of v z)) here ∙ e
    at false e false f more less false g rest = rest more (below g)

stay_two : (w : WorldValue) → StayAwake (size w) (passed w) (passed (passed (passed w)))
stay_two w s up within awake = awake_passed (passed (passed w)) s up (awake_passed (passed w) s up awake)

-- where the second and the third pass wake no site, nothing is left
none_woken : (w : WorldValue) → IsWorld w → readies (size w) (passed w) ≤ readies (size w) (passed (passed (passed w)))
    → pass (moved_all (passes 3 w) w) ≡ []
none_woken w i many =
    ap pass (three_on w)
    ∙ nothing_left w i
    (λ s up within awake. same_ready (size w) (passed w) (passed (passed (passed w))) (stay_two w) many s up within
    awake)

-- two passes more for each site at which something is ready after the first one
enough : (b : ℕ) (w : WorldValue) → IsWorld w → readies (size w) (passed w) ≤ b
    → pass (moved_all (passes (b + b + 3) w) w) ≡ []
enough zero w i few = none_woken w i (omega (arith, few))
enough (suc b) w i few =
    at (nat_le (readies (size w) (passed w)) (readies (size w) (passed (passed (passed w))))) refl
    (λ less.
    enough b (passed (passed w)) (world_passed (passed w) (world_passed w i))
    (subst (λ (n : ℕ). readies n (passed (passed (passed w))) ≤ b) (sym (size_passed (passed w) ∙ size_passed w)) less))
  where
    at : (t : Bool) → nat_le (readies (size w) (passed w)) (readies (size w) (passed (passed (passed w)))) ≡ t
        → (readies (size w) (passed (passed (passed w))) ≤ b
        → pass (moved_all (passes (b + b + 3) (passed (passed w))) (passed (passed w))) ≡ [])
        → pass (moved_all (passes (suc b + suc b + 3) w) w) ≡ []
    at true e rest =
        let many = leb-true (readies (size w) (passed w)) (readies (size w) (passed (passed (passed w)))) e in
        let left : pass (moved_all (passes 3 w) w) ≡ [] = none_woken w i many in
        ap (λ (moves : List Move). pass (moved_all moves w)) (passes_end 3 (suc b + suc b) w left) ∙ left
    at false e rest =
        let less = leb-false (readies (size w) (passed w)) (readies (size w) (passed (passed (passed w)))) e in
        let same : suc b + suc b + 3 ≡ suc (suc (b + b + 3)) = omega arith in
        ap (λ (n : ℕ). pass (moved_all (passes n w) w)) same
        ∙ ap pass (passes_on (suc (b + b + 3)) w ∙ passes_on (b + b + 3) (passed w))
        ∙ rest (omega (arith, few, less))

-- so many are always enough
pub always_enough : (w : WorldValue) → IsWorld w → pass (moved_all (passes (2 * size w + 3) w) w) ≡ []
always_enough w i =
    let same : 2 * size w + 3 ≡ size w + size w + 3 = omega arith in
    ap (λ (n : ℕ). pass (moved_all (passes n w) w)) same ∙ enough (size w) w i (few_ready (size w) (passed w))

-- ---- what settle leaves

pub settling_enough : (number : ℕ) (old now : WorldValue) (given : ℕ) → IsWorld old → IsSettling number old now given
    → number ≡ 2 * size old + 3 → IsSettled old now given
settling_enough number old now given i s e =
    record {
      number = number;
      after = s.after;
      still = ap pass s.after ∙ ap (λ (n : ℕ). pass (moved_all (passes n old) old)) e ∙ always_enough old i;
      count = s.count;
    }

pub settled_three : (old new : WorldValue) (given : ℕ) → IsWorld old → NobodyReady old → IsSettled old new given
    → (new ≡ moved_all (passes 3 old) old) × (given ≡ count_given (passes 3 old))
settled_three old new given i nobody s =
    settled_one old new (moved_all (passes 3 old) old) given (count_given (passes 3 old)) s
    (record { number = 3; after = refl; still = three_enough old i nobody; count = refl })
