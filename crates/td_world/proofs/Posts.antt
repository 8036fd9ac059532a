-- Messages kept by their site and their number there.
use Rattle.std.proofs.Common.{◌≡◌, ◌<◌, ◌≤◌, ◌+◌, ◌-◌, ◌++◌, ℕ, suc, List, [], ◌∷◌, Bool, true, false, nat_eq, length}
use Rattle.std.proofs.Common.{drop, set, Option, Some, None, refl, sym, ap, ◌∙◌, subst, append_assoc, arith}
use Rattle.std.proofs.lemmas.Bool.{eqb-true, eqb-false, eq-eqb}
use Rattle.std.specs.Prelude.{if◌then◌else◌}
use Rattle.std.specs.List.{filter_map, slice_get}
use Rattle.td_base.proofs.Places.{get_more, get_behind}
use Rattle.td_op.specs.declared.input.Input.{Input}
use Rattle.td_op.specs.declared.message.Message.{Message}
use Rattle.td_base.specs.Lists.{kth}
use Rattle.td_history.specs.Standing.{StandFor}
use Rattle.td_history.proofs.Standing.{stand_on, stand_filter_map}
use Rattle.td_machine.specs.Step.{step}
use Rattle.td_machine.proofs.Growing.{step_sends}
use Rattle.td_replica.specs.Replica.{ReplicaValue, after_step}
use Rattle.td_world.specs.declared.post.Post.{Post}
use Rattle.td_world.specs.World.{WorldValue, Move, replica_from, sent_by, moved, moved_all}
use Rattle.td_world.specs.Parts.{posted, world_value, new_posts}
use Rattle.td_world.proofs.Moves.{drop_front}
use Rattle.td_world.proofs.Replicas.{set_same, set_other}

-- ---- the next of some posts

pub posts_next : (site before after : ℕ) → before < after
    → new_posts site (after - before) before
    ≡ record { site = site; number = before + 1 } ∷ new_posts site (after - (before + 1)) (before + 1)
posts_next site before after less =
    let one : after - before ≡ suc (after - (before + 1)) = omega (arith, less) in
    ap (λ (k : ℕ). new_posts site k before) one

-- ---- what they stand for

-- the k-th from 1 is the one at the place before
pub kth_is : {X : Type 0} (k : ℕ) (xs : List X) → (k ≡ 0 → ⊥) → kth k xs ≡ slice_get xs (k - 1)
kth_is k xs some = at (nat_eq k 0) refl
  where
    at : (b : Bool) → nat_eq k 0 ≡ b → kth k xs ≡ slice_get xs (k - 1)
    at true e = absurd (some (eqb-true k 0 e))
    at false e = ap (λ (b : Bool). if b then None else slice_get xs (k - 1)) e

pub kth_none : {X : Type 0} (k : ℕ) (xs : List X) → k ≡ 0 → kth k xs ≡ None
kth_none k xs e = ap (λ (b : Bool). if b then None else slice_get xs (k - 1)) (eq-eqb k 0 e)

kth_more : {X : Type 0} (k : ℕ) (xs ys : List X) (x : X) → kth k xs ≡ Some x → kth k (xs ++ ys) ≡ Some x
kth_more {X = X} k xs ys x e = at (nat_eq k 0) refl e
  where
    at : (b : Bool) → nat_eq k 0 ≡ b → kth k xs ≡ Some x → kth k (xs ++ ys) ≡ Some x
    at true f h = absurd (none_some (sym (kth_none k xs (eqb-true k 0 f)) ∙ h))
      where
        none_some : ◌≡◌ {A = Option X} None (Some x) → ⊥
        none_some g = cc
    at false f h =
        kth_is k (xs ++ ys) (eqb-false k 0 f)
        ∙ get_more xs ys (k - 1) x (sym (kth_is k xs (eqb-false k 0 f)) ∙ h)

kth_past : {X : Type 0} (xs : List X) (y : X) (ys : List X) → kth (length xs + 1) (xs ++ y ∷ ys) ≡ Some y
kth_past xs y ys =
    let one : length xs + 1 - 1 ≡ length xs = omega arith in
    kth_is (length xs + 1) (xs ++ y ∷ ys) (λ (e : length xs + 1 ≡ 0). omega (arith, e))
    ∙ (ap (λ (k : ℕ). slice_get (xs ++ y ∷ ys) k) one ∙ get_behind xs y ys)

-- what a site sends, where its replica has sent that
pub news_stand : (replicas : List ReplicaValue) (site : ℕ) (front more : List Message)
    → (replica_from replicas (site - 1)).machine.sent ≡ front ++ more
    → StandFor (posted replicas) (new_posts site (length more) (length front)) more
news_stand replicas site front [] e = tt
news_stand replicas site front (message ∷ more) e = (
  ap (λ (l : List Message). kth (length front + 1) l) e ∙ kth_past front message more,
  subst (λ (n : ℕ). StandFor (posted replicas) (new_posts site (length more) n) more) (long front)
      (news_stand replicas site (front ++ message ∷ []) more (e ∙ sym (append_assoc front (message ∷ []) more))),
)
  where
    long : (xs : List Message) → length (xs ++ message ∷ []) ≡ length xs + 1
    long [] = refl
    long (x ∷ xs) = let ih : length (xs ++ message ∷ []) ≡ length xs + 1 = long xs in omega (arith, ih)

pub stand_both : {X Y : Type 0} (f : X → Option Y) (xs : List X) (ys : List Y) (xs2 : List X) (ys2 : List Y)
    → StandFor f xs ys → StandFor f xs2 ys2 → StandFor f (xs ++ xs2) (ys ++ ys2)
stand_both f [] [] xs2 ys2 h k = k
stand_both f [] (y ∷ ys) xs2 ys2 h k = absurd h
stand_both f (x ∷ xs) [] xs2 ys2 h k = absurd h
stand_both f (x ∷ xs) (y ∷ ys) xs2 ys2 h k = (h.0, stand_both f xs ys xs2 ys2 h.1 k)

-- ---- after a step

module _ (replicas : List ReplicaValue) (posts : List Post) (site : ℕ) (some : 0 < site)
    (within : site ≤ length replicas)
    (input : Input) where
  abbrev old : ReplicaValue
  old = replica_from replicas (site - 1)

  abbrev now : List ReplicaValue
  now = set replicas (site - 1) (after_step input (replica_from replicas (site - 1)))

  abbrev more : List Message
  more =
      drop (length (replica_from replicas (site - 1)).machine.sent)
      (step (replica_from replicas (site - 1)).machine input).machine.sent

  sent_now : (step (replica_from replicas (site - 1)).machine input).machine.sent
      ≡ (replica_from replicas (site - 1)).machine.sent ++ more
  sent_now =
      let s = step_sends (replica_from replicas (site - 1)).machine input in
      s.1 ∙ ap (λ (l : List Message). (replica_from replicas (site - 1)).machine.sent ++ l)
      (sym (ap (λ (l : List Message). drop (length (replica_from replicas (site - 1)).machine.sent) l) s.1
      ∙ drop_front (replica_from replicas (site - 1)).machine.sent s.0))

  here : (replica_from now (site - 1)).machine.sent ≡ (replica_from replicas (site - 1)).machine.sent ++ more
  here =
      ap (λ (r : ReplicaValue). r.machine.sent)
      (set_same replicas (site - 1) (after_step input (replica_from replicas (site - 1))) (omega (arith, some, within)))
      ∙ sent_now

  still : (p : Post) (message : Message) → posted replicas p ≡ Some message → posted now p ≡ Some message
  still p message e = at (nat_eq (p.site - 1) (site - 1)) refl
    where
      at : (b : Bool) → nat_eq (p.site - 1) (site - 1) ≡ b → posted now p ≡ Some message
      at true f =
          let same : p.site - 1 ≡ site - 1 = eqb-true (p.site - 1) (site - 1) f in
          ap (λ (k : ℕ). kth p.number (replica_from now k).machine.sent) same
          ∙ ap (λ (l : List Message). kth p.number l) here
          ∙ kth_more p.number (replica_from replicas (site - 1)).machine.sent more message
          (ap (λ (k : ℕ). kth p.number (replica_from replicas k).machine.sent) (sym same) ∙ e)
      at false f =
          ap (λ (r : ReplicaValue). kth p.number r.machine.sent)
          (set_other replicas (site - 1) (p.site - 1) (after_step input (replica_from replicas (site - 1)))
          (λ (g : site - 1 ≡ p.site - 1). eqb-false (p.site - 1) (site - 1) f (sym g)))
          ∙ e

  abbrev added : List Post
  added = new_posts site (length more) (length (replica_from replicas (site - 1)).machine.sent)

  pub stand_now : (messages : List Message) → StandFor (posted replicas) posts messages
      → StandFor (posted now) (posts ++ added) (messages ++ more)
  stand_now messages h =
      stand_both (posted now) posts messages added more (stand_on (posted replicas) (posted now) still posts messages h)
      (news_stand now site (replica_from replicas (site - 1)).machine.sent more here)

  -- the world is the one after the move
  pub value_now : StandFor (posted replicas) posts (filter_map (posted replicas) posts)
      → world_value now (posts ++ added) ≡ moved (record { site = site; input = input }) (world_value replicas posts)
  value_now h =
      ap (λ (l : List Message). as_world l)
      (stand_filter_map (posted now) (posts ++ added) (filter_map (posted replicas) posts ++ more)
      (stand_now (filter_map (posted replicas) posts) h))
    where
      as_world : List Message → WorldValue
      as_world l = record { replicas = now; sent = l }

-- what was sent keeps its number
pub still_at : (moves : List Move) (w : WorldValue) (k : ℕ) (message : Message) → slice_get w.sent k ≡ Some message
    → slice_get (moved_all moves w).sent k ≡ Some message
still_at [] w k message e = e
still_at (move ∷ moves) w k message e =
    still_at moves (moved move w) k message (get_more w.sent (sent_by move w) k message e)
