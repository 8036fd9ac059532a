-- An operation that waited is taken up.
use Rattle.std.proofs.Common.{◌≡◌, ◌≢◌, ◌≤◌, ◌<◌, ◌||◌, ◌&&◌, ℕ, List, [], Bool, true, false, not, if◌then◌else◌}
use Rattle.std.proofs.Common.{nat_eq, nat_lt, length, filter, Option, Some, None, get_or, zero, suc, ◌∷◌, ◌-◌, nat_le}
use Rattle.std.proofs.Common.{refl, sym, ap, ◌∙◌, true≢false, arith}
use Rattle.std.proofs.lemmas.Bool.{eqb-true, eq-eqb, ltb-true, leb-true, and_parts, not-true, false_from_ne_true}
use Rattle.td_base.specs.Value.{DotValue}
use Rattle.td_base.specs.Equality.{same_dot}
use Rattle.td_base.proofs.Lists.{In-filter}
use Rattle.td_base.proofs.Equals.{same_dot_refl, same_dot_true}
use Rattle.td_clock.specs.Vector.{vector_get, vector_has, vector_covers}
use Rattle.td_op.specs.declared.input.Input.TheVariants.{Take}
use Rattle.td_op.specs.declared.message.Message.TheVariants.{Op as AnOp}
use Rattle.td_op.specs.declared.reply.Reply.TheVariants.{New, Taken, Idle, Unfit}
use Rattle.td_op.specs.declared.reply.Why.{Why}
use Rattle.td_op.specs.Op.{OpValue}
use Rattle.td_store.specs.Lists.{OpsValue}
use Rattle.td_causal.specs.Waiting.{Numbers, IsStored, AreStored, ops_waiting, others_than}
use Rattle.td_causal.proofs.Kept.{ops-others_than, All-others_than}
use Rattle.td_machine.specs.Ready.{is_had, is_ready, next_ready, waits, without}
use Rattle.td_machine.specs.Machine.{Machine, made}
use Rattle.td_machine.specs.Taking.{Stepped, stepped, misfit, take, forget, waited}
use Rattle.td_machine.specs.Step.{step}
use Rattle.td_machine.proofs.StepKinds.{least_in}
use Rattle.td_law_replay.specs.Judging.{take_waiting, take_waiting_as}
use Rattle.td_law_replay.proofs.Outlined.{take_with, take_keeps, misfit_with, offered_to}
use Rattle.td_replica.specs.Replica.{ReplicaValue}
use Rattle.td_seat.specs.Seat.{up_of, IsOutlined, IsSeat}
use Rattle.td_seat.proofs.Sized.{seat_stays}

abbrev pub if_fits : Option Why → OpValue → Machine → Stepped
if_fits (Some why) x m = stepped (Unfit why) m
if_fits None x m = stepped New (take x m)

-- what is ready is taken by a machine in which nothing waits, where it fits
pub taken_alone : (m : Machine) (x : OpValue) → m.waiting ≡ [] → length x.deps ≡ m.size → is_ready m.have x ≡ true
    → x.dot.site ≢ m.site → vector_get x.deps m.site ≤ made m
    → step m (Take (AnOp x)) ≡ (if_fits (misfit x m) x m)
taken_alone m x bare sized ready apart low =
    let parts = and_parts (not (is_had m.have x)) (vector_covers m.have x.deps) ready in
    at (nat_eq (length x.deps) m.size) (is_had m.have x) (waits x.dot m.waiting) (nat_eq x.dot.site m.site)
    (nat_lt (made m) (vector_get x.deps m.site)) (is_ready m.have x) (misfit x m)
    (eq-eqb (length x.deps) m.size sized) (not-true (is_had m.have x) parts.0)
    (ap (λ (w : List OpValue). waits x.dot w) bare)
    (false_from_ne_true (nat_eq x.dot.site m.site) (λ h. apart (eqb-true x.dot.site m.site h)))
    (false_from_ne_true (nat_lt (made m) (vector_get x.deps m.site))
    (λ h. let high : made m < vector_get x.deps m.site = ltb-true (made m) (vector_get x.deps m.site) h in
    absurd (omega (arith, low, high)))) ready
  where
    at : (s h w o l r : Bool) (why : Option Why) → s ≡ true → h ≡ false → w ≡ false → o ≡ false → l ≡ false → r ≡ true
        → offered_to s (h || w) (o || l) r why x m ≡ if_fits why x m
    at true false false false false true None a b c d e f = refl
    at true false false false false true (Some y) a b c d e f = refl
    at false h w o l r why a b c d e f = absurd (true≢false (sym a))
    at true true w o l r why a b c d e f = absurd (true≢false b)
    at true false true o l r why a b c d e f = absurd (true≢false c)
    at true false false true l r why a b c d e f = absurd (true≢false d)
    at true false false false true r why a b c d e f = absurd (true≢false e)
    at true false false false false false why a b c d e f = absurd (true≢false (sym f))

covers_at : (v w : List ℕ) (k : ℕ) → vector_covers v w ≡ true → get_or w k 0 ≤ get_or v k 0
covers_at v [] k covers = omega arith
covers_at [] (n ∷ w) k covers = absurd cc
covers_at (a ∷ v) (n ∷ w) zero covers = leb-true n a (and_parts (nat_le n a) (vector_covers v w) covers).0
covers_at (a ∷ v) (n ∷ w) (suc k) covers = covers_at v w k (and_parts (nat_le n a) (vector_covers v w) covers).1

module _ (m : Machine) (o : OpsValue) (w : Numbers) (stored : AreStored m.size o.ops w) (x : OpValue)
    (bare : m.waiting ≡ []) (outlined : IsOutlined x (record m { waiting = ops_waiting o.ops w }))
    (sized : length x.deps ≡ m.size) (apart : x.dot.site ≢ m.site) where
  abbrev pub beside : Machine
  beside = record m { waiting = ops_waiting o.ops w }

  abbrev y : OpValue
  y = outlined.outline_is

  abbrev least : next_ready m.have (ops_waiting o.ops w) ≡ Some y
  least = outlined.least

  abbrev same : y.dot ≡ x.dot
  same = outlined.same

  abbrev deps : y.deps ≡ x.deps
  deps = outlined.deps

  ready : is_ready m.have x ≡ true
  ready =
      ap (λ (d : DotValue). not (vector_has m.have d) && vector_covers m.have x.deps) (sym same)
      ∙ ap (λ (v : List ℕ). not (vector_has m.have y.dot) && vector_covers m.have v) (sym deps)
      ∙ (In-filter (is_ready m.have) y (ops_waiting o.ops w)
      (least_in (filter (is_ready m.have) (ops_waiting o.ops w)) y least)).1

  low : vector_get x.deps m.site ≤ made m
  low = covers_at m.have x.deps (m.site - 1) (and_parts (not (is_had m.have x)) (vector_covers m.have x.deps) ready).1

  alone : step m (Take (AnOp x)) ≡ if_fits (misfit x m) x m
  alone = taken_alone m x bare sized ready apart low

  resumed : take_waiting x beside ≡ waited (misfit x m) x (forget x beside)
  resumed =
      ap (λ (o : Option OpValue). take_waiting_as o x beside) least
      ∙ ap (λ (b : Bool). if b then waited (misfit x beside) x (forget x beside) else stepped (Taken y.dot) beside)
      (ap (λ (d : DotValue). same_dot d x.dot) same ∙ same_dot_refl x.dot)
      ∙ ap (λ (why : Option Why). waited why x (forget x beside)) (misfit_with x (ops_waiting o.ops w) m)

  pub up_reply : (take_waiting x beside).reply ≡ up_of x.dot (step m (Take (AnOp x))).reply
  up_reply =
      ap (λ (s : Stepped). s.reply) resumed ∙ at (misfit x m)
      ∙ sym (ap (λ (s : Stepped). up_of x.dot s.reply) alone)
    where
      at : (why : Option Why)
          → (waited why x (forget x beside)).reply ≡ up_of x.dot (if_fits why x m).reply
      at (Some why) = refl
      at None = refl

  pub up_machine : (take_waiting x beside).machine
      ≡ record (step m (Take (AnOp x))).machine { waiting = ops_waiting o.ops (others_than x.dot w) }
  up_machine =
      ap (λ (s : Stepped). s.machine) resumed ∙ at (misfit x m)
      ∙ sym (ap (λ (s : Stepped). record s.machine { waiting = ops_waiting o.ops (others_than x.dot w) }) alone)
    where
      at : (why : Option Why) → (waited why x (forget x beside)).machine
          ≡ record (if_fits why x m).machine { waiting = ops_waiting o.ops (others_than x.dot w) }
      at (Some why) =
          ap (λ (ops : List OpValue). record m { waiting = ops }) (sym (ops-others_than m.size o.ops x.dot w stored))
      at None =
          take_with x (without x.dot (ops_waiting o.ops w)) m
          ∙ ap (λ (ops : List OpValue). record (take x m) { waiting = ops })
          (sym (ops-others_than m.size o.ops x.dot w stored))

  pub up_bare : (step m (Take (AnOp x))).machine.waiting ≡ []
  up_bare = ap (λ (s : Stepped). s.machine.waiting) alone ∙ at (misfit x m)
    where
      at : (why : Option Why) → (if_fits why x m).machine.waiting ≡ []
      at (Some why) = bare
      at None = take_keeps x m ∙ bare

-- the seat of a site which took up an operation
pub up_seat : (r q : ReplicaValue) (o : OpsValue) (w : Numbers) (d : DotValue) → IsSeat r o w
    → q.machine.waiting ≡ [] → q.machine.size ≡ r.machine.size → IsSeat q o (others_than d w)
up_seat r q o w d seat bare size =
    seat_stays r q o (others_than d w)
    (record {
      bare = seat.bare;
      sized = seat.sized;
      stored = All-others_than (IsStored r.machine.size o.ops) d w seat.stored;
    })
    bare size

-- ---- which it is

pub outlined_by : (m : Machine) (x y : OpValue) → next_ready m.have m.waiting ≡ Some y → y.dot ≡ x.dot → y.deps ≡ x.deps
    → IsOutlined x m
outlined_by m x y least same deps = record { outline_is = y; least = least; same = same; deps = deps }

pub idle_up : (m : Machine) (x : OpValue) → next_ready m.have m.waiting ≡ None
    → take_waiting x m ≡ stepped Idle m
idle_up m x none = ap (λ (o : Option OpValue). take_waiting_as o x m) none

pub other_up : (m : Machine) (x y : OpValue) → next_ready m.have m.waiting ≡ Some y → y.dot ≢ x.dot
    → take_waiting x m ≡ stepped (Taken y.dot) m
other_up m x y least apart =
    ap (λ (o : Option OpValue). take_waiting_as o x m) least
    ∙ ap (λ (b : Bool). if b then waited (misfit x m) x (forget x m) else stepped (Taken y.dot) m)
    (false_from_ne_true (same_dot y.dot x.dot) (λ h. apart (same_dot_true y.dot x.dot h)))
