-- What a site made, it sent.
use Rattle.std.proofs.Common.{◌≡◌, ◌≢◌, List, [], ◌∷◌, Bool, true, false, Option, Some}
use Rattle.std.proofs.Common.{None, refl, sym, ap, ◌∙◌, subst, inl, inr}
use Rattle.td_base.specs.Value.{DotValue}
use Rattle.td_base.specs.Lists.{In}
use Rattle.td_base.proofs.Lists.{In-front, In-back}
use Rattle.td_path.specs.declared.slot.Slot.{Slot}
use Rattle.td_op.specs.declared.body.Body.{Body}
use Rattle.td_op.specs.declared.body.Body.TheVariants.{Insert as InsertIn, Delete as DeleteOf}
use Rattle.td_op.specs.declared.body.Body.TheVariants.{Propose as ProposeOf, Commit, Abort}
use Rattle.td_op.specs.declared.message.Message.{Message}
use Rattle.td_op.specs.declared.message.Message.TheVariants.{Op as AnOp}
use Rattle.td_op.specs.Op.{OpValue}
use Rattle.td_machine.specs.Log.{proposed}
use Rattle.td_machine.specs.Decision.{outcome, new_ballot, counted as counted_vote, revise}
use Rattle.td_machine.specs.Machine.{Machine, next_op, next_dot}
use Rattle.td_machine.specs.Making.{done, make, decide, hold, open_ballot}
use Rattle.td_machine.specs.Taking.{Stepped, take, take_as, answer, vote_on, forget}
use Rattle.td_machine.specs.Request.{perform}
use Rattle.td_machine.specs.History.{IsReached}
use Rattle.td_machine.proofs.StepKinds.{by_kinds}
use Rattle.td_machine.proofs.Induction.{by_steps}
use Rattle.td_machine.proofs.Reached.{waits_of_sites}

abbrev pub Posts : Machine → Type 0
Posts m = (x : OpValue) → In x m.log → x.dot.site ≡ m.site → In (AnOp x) m.sent

posts_make : (body : Body) (m n : Machine) → Posts m → n.log ≡ m.log → n.sent ≡ m.sent → n.site ≡ m.site
    → Posts (make body n)
posts_make body m n h log sent site x (inl e) s =
    In-back (AnOp x) n.sent (AnOp (next_op n body) ∷ []) (inl (ap (λ (y : OpValue). AnOp y) e))
posts_make body m n h log sent site x (inr i) s =
    In-front (AnOp x) n.sent (AnOp (next_op n body) ∷ [])
    (subst (λ (l : List Message). In (AnOp x) l) (sym sent)
    (h x (subst (λ (l : List OpValue). In x l) log i) (s ∙ site)))

posts_decide : (p : DotValue) (o : Option Bool) (m n : Machine) → Posts m → n.log ≡ m.log → n.sent ≡ m.sent
    → n.site ≡ m.site → Posts (decide p o n)
posts_decide p (Some true) m n h log sent site = λ x i s. posts_make (Commit p) m n h log sent site x i s
posts_decide p (Some false) m n h log sent site = λ x i s. posts_make (Abort p) m n h log sent site x i s
posts_decide p None m n h log sent site =
    λ x i s.
    subst (λ (l : List Message). In (AnOp x) l) (sym sent)
    (h x (subst (λ (l : List OpValue). In x l) log i) (s ∙ site))

posts_perform : (body : Body) (m : Machine) → Posts m → Posts (perform body m)
posts_perform (InsertIn slot run) m h = λ x i s. posts_make (InsertIn slot run) m m h refl refl refl x i s
posts_perform (DeleteOf y) m h = λ x i s. posts_make (DeleteOf y) m m h refl refl refl x i s
posts_perform (Commit p) m h = λ x i s. posts_make (Commit p) m m h refl refl refl x i s
posts_perform (Abort p) m h = λ x i s. posts_make (Abort p) m m h refl refl refl x i s
posts_perform (ProposeOf slot) m h =
    posts_decide (next_dot m) (outcome m.size true (new_ballot (next_dot m))) (make (ProposeOf slot) m)
    (open_ballot (next_dot m) (hold (next_dot m) slot (make (ProposeOf slot) m)))
    (λ x i s. posts_make (ProposeOf slot) m m h refl refl refl x i s) refl refl refl

posts_take : (x : OpValue) (m n : Machine) → x.dot.site ≢ m.site → Posts m → n.log ≡ m.log → n.sent ≡ m.sent
    → n.site ≡ m.site → Posts (take x n)
posts_take x m n apart h log sent site = slotted (proposed x.body)
  where
    old : (y : OpValue) → In y (x ∷ n.log) → y.dot.site ≡ n.site → In (AnOp y) n.sent
    old y (inl e) s = absurd (apart (sym (ap (λ (z : OpValue). z.dot.site) e) ∙ s ∙ site))
    old y (inr i) s =
        subst (λ (l : List Message). In (AnOp y) l) (sym sent)
        (h y (subst (λ (l : List OpValue). In y l) log i) (s ∙ site))

    answered : (slot : Slot) (says : Bool) → Posts (answer x.dot slot says (done x n))
    answered slot true = λ y i s. In-front (AnOp y) n.sent _ (old y i s)
    answered slot false = λ y i s. In-front (AnOp y) n.sent _ (old y i s)

    slotted : (o : Option Slot) → Posts (take_as o x n)
    slotted None = λ y i s. old y i s
    slotted (Some slot) = answered slot (vote_on x slot n)

pub posts : (m : Machine) → IsReached m → Posts m
posts =
    by_steps (λ (m : Machine). Posts m) (λ site size some within few x i s. absurd i)
    (λ m input r valid h.
    by_kinds m (λ (s : Stepped). Posts s.machine) input
    (record {
      stays = λ reply. h;
      makes = λ request a e f held room. posts_perform a.body m h;
      cancels = λ request p e f. posts_decide p (Some false) m m h refl refl refl;
      delays = λ x e foreign late y i s. h y i s;
      takes = λ x e foreign ready fits. posts_take x m m foreign.other h refl refl refl;
      counts =
          λ v b e f g far here.
          posts_decide v.proposal (outcome m.size v.yes (counted_vote v.voter v.yes b)) m
          (record m { ballots = revise v.proposal (counted_vote v.voter v.yes) m.ballots }) h refl refl refl;
      drops = λ x why i ready y j s. h y j s;
      resumes =
          λ x i ready fits. posts_take x m (forget x m) (waits_of_sites m r x i).3 h refl refl refl;
    }))
