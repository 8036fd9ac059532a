-- What becomes of an operation that is offered, case by case.
use Rattle.std.proofs.Common.{◌≡◌, ◌||◌, ◌++◌, ◌∷◌, [], ℕ, List, Bool, true, false, if◌then◌else◌, nat_eq}
use Rattle.std.proofs.Common.{nat_lt, length, Option, Some, None, refl, sym, ap, ◌∙◌, subst, true≢false}
use Rattle.std.proofs.lemmas.Bool.{eq-eqb}
use Rattle.td_clock.specs.Vector.{vector_get, vector_has}
use Rattle.td_path.specs.declared.slot.Slot.TheVariants.{Root}
use Rattle.td_op.specs.declared.body.Body.{Body}
use Rattle.td_op.specs.declared.body.Body.TheVariants.{Propose}
use Rattle.td_op.specs.declared.input.Input.TheVariants.{Take}
use Rattle.td_op.specs.declared.message.Message.TheVariants.{Op as AnOp}
use Rattle.td_op.specs.declared.reply.Reply.TheVariants.{New, Later, Repeat, Unfit}
use Rattle.td_op.specs.declared.reply.Why.{Why}
use Rattle.td_op.specs.declared.reply.Why.TheVariants.{Own}
use Rattle.td_op.specs.Op.{OpValue, IsOp}
use Rattle.td_machine.specs.Machine.{Machine, made}
use Rattle.td_machine.specs.Ready.{is_had, is_ready, waits, put_waiting}
use Rattle.td_machine.specs.Taking.{Stepped, stepped, misfit, body_misfit, keep_waiting}
use Rattle.td_machine.specs.Step.{step}
use Rattle.td_causal.specs.declared.offer.Offer.{Offer}
use Rattle.td_causal.specs.declared.offer.Offer.TheVariants.{Repeat as Again, Later as Late, Ready}
use Rattle.td_causal.specs.Offering.{offer_answer}
use Rattle.td_causal.specs.Waiting.{Numbers, ops_waiting, is_kept, put_in_order, IsStored, AreStored}
use Rattle.td_causal.proofs.Kept.{ops-put_in_order, All-put_in_order, kept_waits, ops-more, stored-more}
use Rattle.td_store.specs.Lists.{OpsValue}
use Rattle.td_base.proofs.Places.{get_behind}
use Rattle.td_replica.specs.Replica.{ReplicaValue}
use Rattle.td_law_replay.proofs.Outlined.{offered_to}
use Rattle.td_seat.specs.Seat.{IsSeat}

abbrev pub is_known_of : OpValue → Machine → Bool
is_known_of x m = is_had m.have x || waits x.dot m.waiting

abbrev pub is_own_of : OpValue → Machine → Bool
is_own_of x m = nat_eq x.dot.site m.site || nat_lt (made m) (vector_get x.deps m.site)

module _ (x : OpValue) (m : Machine) (sized : length x.deps ≡ m.size) where
  size_same : nat_eq (length x.deps) m.size ≡ true
  size_same = eq-eqb (length x.deps) m.size sized

  pub again : is_known_of x m ≡ true → step m (Take (AnOp x)) ≡ stepped Repeat m
  again known = at (nat_eq (length x.deps) m.size) (is_known_of x m) size_same known
    where
      at : (s k : Bool) → s ≡ true → k ≡ true
          → offered_to s k (is_own_of x m) (is_ready m.have x) (misfit x m) x m ≡ stepped Repeat m
      at true true a b = refl
      at false k a b = absurd (true≢false (sym a))
      at true false a b = absurd (true≢false (sym b))

  pub own : is_known_of x m ≡ false → is_own_of x m ≡ true → step m (Take (AnOp x)) ≡ stepped (Unfit Own) m
  own known here = at (nat_eq (length x.deps) m.size) (is_known_of x m) (is_own_of x m) size_same known here
    where
      at : (s k o : Bool) → s ≡ true → k ≡ false → o ≡ true
          → offered_to s k o (is_ready m.have x) (misfit x m) x m ≡ stepped (Unfit Own) m
      at true false true a b c = refl
      at false k o a b c = absurd (true≢false (sym a))
      at true true o a b c = absurd (true≢false b)
      at true false false a b c = absurd (true≢false (sym c))

  pub late : is_known_of x m ≡ false → is_own_of x m ≡ false → is_ready m.have x ≡ false
      → step m (Take (AnOp x)) ≡ stepped Later (keep_waiting x m)
  late known here ready =
      at (nat_eq (length x.deps) m.size) (is_known_of x m) (is_own_of x m)
      (is_ready m.have x) size_same known here ready
    where
      at : (s k o r : Bool) → s ≡ true → k ≡ false → o ≡ false → r ≡ false
          → offered_to s k o r (misfit x m) x m ≡ stepped Later (keep_waiting x m)
      at true false false false a b c d = refl
      at false k o r a b c d = absurd (true≢false (sym a))
      at true true o r a b c d = absurd (true≢false b)
      at true false true r a b c d = absurd (true≢false c)
      at true false false true a b c d = absurd (true≢false d)

  pub ready_is_new : is_known_of x m ≡ false → is_own_of x m ≡ false → is_ready m.have x ≡ true
      → x.body ≡ Propose Root → (step m (Take (AnOp x))).reply ≡ New
  ready_is_new known here ready body =
      at (nat_eq (length x.deps) m.size) (is_known_of x m) (is_own_of x m) (is_ready m.have x) (misfit x m) size_same
      known here ready (ap (λ (b : Body). body_misfit x.dot.site b m) body)
    where
      at : (s k o r : Bool) (why : Option Why) → s ≡ true → k ≡ false → o ≡ false → r ≡ true → why ≡ None
          → (offered_to s k o r why x m).reply ≡ New
      at true false false true None a b c d e = refl
      at false k o r why a b c d e = absurd (true≢false (sym a))
      at true true o r why a b c d e = absurd (true≢false b)
      at true false true r why a b c d e = absurd (true≢false c)
      at true false false false why a b c d e = absurd (true≢false (sym d))
      at true false false true (Some why) a b c d e = absurd cc

-- ---- in a seat

-- room for more outlines makes no difference
pub room_seat : (r : ReplicaValue) (o p : OpsValue) (w : Numbers) → IsSeat r o w → p ≡ record o { room = p.room }
    → IsSeat r p w
room_seat r o p w seat is =
    record {
      bare = seat.bare;
      sized = ap (λ (v : OpsValue). v.size) is ∙ seat.sized;
      stored = subst (λ (ops : List OpValue). AreStored r.machine.size ops w)
          (sym (ap (λ (v : OpsValue). v.ops) is)) seat.stored;
    }

-- one more outline, that waits
pub kept_seat : (r : ReplicaValue) (o p : OpsValue) (w v : Numbers) (x : OpValue) → IsSeat r o w → IsOp x
    → length x.deps ≡ r.machine.size → p.size ≡ o.size → p.ops ≡ o.ops ++ x ∷ []
    → v ≡ put_in_order (x.dot, length o.ops) w → IsSeat r p v
kept_seat r o p w v x seat is sized size ops put =
    subst (IsSeat r p) (sym put)
    (record {
      bare = seat.bare;
      sized = size ∙ seat.sized;
      stored = subst (λ (xs : List OpValue). AreStored r.machine.size xs (put_in_order (x.dot, length o.ops) w))
          (sym ops)
          (All-put_in_order (IsStored r.machine.size (o.ops ++ x ∷ [])) (x.dot, length o.ops) w
          (record { op = x; found = get_behind o.ops x []; dot = refl; is = is; size = sized })
          (stored-more r.machine.size o.ops (x ∷ []) w seat.stored));
    })

-- what is offered and not known is late, or ready
module _ (m : Machine) (ops : List OpValue) (w : Numbers) (x : OpValue) (answer : Offer) (n : ℕ)
    (stored : AreStored n ops w) (sized : length x.deps ≡ m.size)
    (had : vector_has m.have x.dot ≡ false) (quiet : waits x.dot (ops_waiting ops w) ≡ false)
    (apart : nat_eq x.dot.site m.site ≡ false) (low : nat_lt (made m) (vector_get x.deps m.site) ≡ false)
    (is : answer ≡ offer_answer m.have x (is_kept x.dot w)) where
  abbrev pub outlined : Machine
  outlined = record m { waiting = ops_waiting ops w }

  known : is_known_of x outlined ≡ false
  known = ap (λ (b : Bool). b || waits x.dot (ops_waiting ops w)) had ∙ quiet

  here : is_own_of x outlined ≡ false
  here = ap (λ (b : Bool). b || nat_lt (made m) (vector_get x.deps m.site)) apart ∙ low

  said : answer ≡ (if is_ready m.have x then Ready else Late)
  said =
      is ∙ ap (λ (b : Bool). if b || is_kept x.dot w then Again else if is_ready m.have x then Ready else Late) had
      ∙ ap (λ (b : Bool). if b then Again else if is_ready m.have x then Ready else Late)
      (kept_waits n ops x.dot w stored ∙ quiet)

  pub not_again : answer ≡ Again → ⊥
  not_again e = at (is_ready m.have x) (sym e ∙ said)
    where
      at : (b : Bool) → Again ≡ (if b then Ready else Late) → ⊥
      at true h = cc h
      at false h = cc h

  not_ready : answer ≡ Late → is_ready m.have x ≡ false
  not_ready e = at (is_ready m.have x) (sym e ∙ said)
    where
      at : (b : Bool) → Late ≡ (if b then Ready else Late) → b ≡ false
      at true h = absurd (cc h)
      at false h = refl

  late_step : answer ≡ Late → step outlined (Take (AnOp x)) ≡ stepped Later (keep_waiting x outlined)
  late_step e = late x outlined sized known here (not_ready e)

  -- the machine then, with the outline behind the others
  pub late_machine : answer ≡ Late → (more : List OpValue) (v : Numbers) → more ≡ ops ++ x ∷ []
      → v ≡ put_in_order (x.dot, length ops) w
      → record m { waiting = ops_waiting more v } ≡ (step outlined (Take (AnOp x))).machine
  late_machine e more v stands put =
      ap (λ (xs : List OpValue). record m { waiting = xs })
      (ap (λ (xs : List OpValue). ops_waiting xs v) stands
      ∙ ap (ops_waiting (ops ++ x ∷ [])) put
      ∙ ops-put_in_order n (ops ++ x ∷ []) (length ops) x w (stored-more n ops (x ∷ []) w stored)
      (get_behind ops x [])
      ∙ ap (put_waiting x) (ops-more n ops (x ∷ []) w stored))
      ∙ sym (ap (λ (s : Stepped). s.machine) (late_step e))
