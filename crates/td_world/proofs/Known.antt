-- What it means that a machine would answer Repeat.
use Rattle.std.proofs.lemmas.Bool.{eqb-true, eq-eqb}
use Rattle.std.proofs.Common.{◌≡◌, Bool, true, false, if◌then◌else◌, ◌||◌, not, nat_eq, nat_lt}
use Rattle.std.proofs.Common.{length, Option, Some, None, refl, sym, ap, ◌∙◌, true≢false}
use Rattle.std.specs.List.{find}
use Rattle.td_clock.specs.Vector.{vector_get}
use Rattle.td_op.specs.declared.reply.Reply.TheVariants.{New, Repeat, Unfit, Later}
use Rattle.td_op.specs.declared.reply.Why.{Why}
use Rattle.td_op.specs.declared.reply.Why.TheVariants.{Size, Own, Address}
use Rattle.td_op.specs.declared.vote.Vote.{Vote}
use Rattle.td_op.specs.Op.{OpValue}
use Rattle.td_machine.specs.Decision.{Ballot, is_on, is_counted}
use Rattle.td_machine.specs.Machine.{Machine, made}
use Rattle.td_machine.specs.Ready.{is_had, is_ready, waits}
use Rattle.td_machine.specs.Taking.{Stepped, stepped, misfit, keep_waiting, fit_step}
use Rattle.td_machine.specs.Taking.{op_step, vote_step, ballot_step, count}
use Rattle.td_replica.specs.Replica.{is_repeat}

-- a choice that would be a repeat on one side alone
only : (b : Bool) (x y : Stepped) → is_repeat x.reply ≡ false → is_repeat (if b then x else y).reply ≡ true
    → is_repeat y.reply ≡ true
only true x y no_ e = absurd (true≢false (sym e ∙ no_))
only false x y no_ e = e

fit_no_repeat : (why : Option Why) (x : OpValue) (m : Machine) → is_repeat (fit_step why x m).reply ≡ false
fit_no_repeat None x m = refl
fit_no_repeat (Some why) x m = refl

-- an operation is had, or waits
pub repeat_op : (x : OpValue) (m : Machine) → is_repeat (op_step x m).reply ≡ true
    → (is_had m.have x || waits x.dot m.waiting) ≡ true
repeat_op x m e =
    let own : Bool = nat_eq x.dot.site m.site || nat_lt (made m) (vector_get x.deps m.site) in
    let late : Stepped =
    if not (is_ready m.have x) then stepped Later (keep_waiting x m) else fit_step (misfit x m) x m in
    let rest : Stepped = if own then stepped (Unfit Own) m else late in
    again (is_had m.have x || waits x.dot m.waiting) refl
    (only (not (nat_eq (length x.deps) m.size)) (stepped (Unfit Size) m)
    (if is_had m.have x || waits x.dot m.waiting then stepped Repeat m else rest) refl e)
  where
    none : is_repeat (if nat_eq x.dot.site m.site || nat_lt (made m) (vector_get x.deps m.site) then stepped
        (Unfit Own) m
        else (if not (is_ready m.have x) then stepped Later (keep_waiting x m) else fit_step (misfit x m) x m)).reply
        ≡ true → ⊥
    none k =
        let late : Stepped =
        if not (is_ready m.have x) then stepped Later (keep_waiting x m) else fit_step (misfit x m) x m in
        let a =
        only (nat_eq x.dot.site m.site || nat_lt (made m) (vector_get x.deps m.site)) (stepped (Unfit Own) m) late
        refl k in
        let b =
        only (not (is_ready m.have x)) (stepped Later (keep_waiting x m)) (fit_step (misfit x m) x m) refl a in
        true≢false (sym b ∙ fit_no_repeat (misfit x m) x m)

    again : (b : Bool) → (is_had m.have x || waits x.dot m.waiting) ≡ b
        → is_repeat (if b then stepped Repeat m else
        (if nat_eq x.dot.site m.site || nat_lt (made m) (vector_get x.deps m.site) then stepped (Unfit Own) m
        else (if not (is_ready m.have x) then stepped Later (keep_waiting x m) else fit_step (misfit x m) x m))).reply
        ≡ true
        → (is_had m.have x || waits x.dot m.waiting) ≡ true
    again true f k = f
    again false f k = absurd (none k)

pub record IsCountedAt (v : Vote) (m : Machine) : Type 0 where
  pub ballot : Ballot
  pub found : find (is_on v.proposal) m.ballots ≡ Some ballot
  pub counted : is_counted v.voter ballot ≡ true

-- a vote is counted, or its proposal decided
pub repeat_vote : (v : Vote) (m : Machine) → is_repeat (vote_step v m).reply ≡ true → IsCountedAt v m
repeat_vote v m e =
    let here : Stepped =
    if not (nat_eq v.proposal.site m.site) then stepped (Unfit Address) m
    else ballot_step (find (is_on v.proposal) m.ballots) v m in
    let a =
    only (nat_lt m.size v.voter || nat_lt m.size v.proposal.site) (stepped (Unfit Size) m) here refl e in
    let b =
    only (not (nat_eq v.proposal.site m.site)) (stepped (Unfit Address) m)
    (ballot_step (find (is_on v.proposal) m.ballots) v m) refl a in
    at (find (is_on v.proposal) m.ballots) refl b
  where
    at : (o : Option Ballot) → find (is_on v.proposal) m.ballots ≡ o → is_repeat (ballot_step o v m).reply ≡ true
        → IsCountedAt v m
    at None f k = absurd (true≢false (sym k))
    at (Some b) f k = cases (is_counted v.voter b) refl k
      where
        cases : (c : Bool) → is_counted v.voter b ≡ c
            → is_repeat (if c then stepped Repeat m else stepped New (count v b m)).reply ≡ true → IsCountedAt v m
        cases true g l = record { ballot = b; found = f; counted = g }
        cases false g l = absurd (true≢false (sym l))

-- ---- and what it takes

pub repeat_sized : (x : OpValue) (m : Machine) → is_repeat (op_step x m).reply ≡ true → length x.deps ≡ m.size
repeat_sized x m e = at (nat_eq (length x.deps) m.size) refl e
  where
    at : (b : Bool) → nat_eq (length x.deps) m.size ≡ b
        → is_repeat (if not b then stepped (Unfit Size) m
        else (if is_had m.have x || waits x.dot m.waiting then stepped Repeat m
        else (if nat_eq x.dot.site m.site || nat_lt (made m) (vector_get x.deps m.site) then stepped (Unfit Own) m
        else (if not (is_ready m.have x) then stepped Later (keep_waiting x m) else fit_step (misfit x m) x
        m)))).reply ≡ true
        → length x.deps ≡ m.size
    at true f k = eqb-true (length x.deps) m.size f
    at false f k = absurd (true≢false (sym k))

pub from_op : (x : OpValue) (m : Machine) → length x.deps ≡ m.size
    → (is_had m.have x || waits x.dot m.waiting) ≡ true → is_repeat (op_step x m).reply ≡ true
from_op x m sized again =
    ap (λ (b : Bool). is_repeat (if not b then stepped (Unfit Size) m
    else (if is_had m.have x || waits x.dot m.waiting then stepped Repeat m
    else (if nat_eq x.dot.site m.site || nat_lt (made m) (vector_get x.deps m.site) then stepped (Unfit Own) m
    else (if not (is_ready m.have x) then stepped Later (keep_waiting x m) else fit_step (misfit x m) x m)))).reply)
    (eq-eqb (length x.deps) m.size sized)
    ∙ ap (λ (b : Bool). is_repeat (if b then stepped Repeat m
    else (if nat_eq x.dot.site m.site || nat_lt (made m) (vector_get x.deps m.site) then stepped (Unfit Own) m
    else (if not (is_ready m.have x) then stepped Later (keep_waiting x m) else fit_step (misfit x m) x m))).reply)
    again

-- the vote is for so many sites, and on a proposal of this one
pub record IsPlaced (v : Vote) (m : Machine) : Type 0 where
  pub near : (nat_lt m.size v.voter || nat_lt m.size v.proposal.site) ≡ false
  pub own : nat_eq v.proposal.site m.site ≡ true

pub repeat_fits : (v : Vote) (m : Machine) → is_repeat (vote_step v m).reply ≡ true → IsPlaced v m
repeat_fits v m e = at (nat_lt m.size v.voter || nat_lt m.size v.proposal.site) refl e
  where
    here : (b : Bool) → nat_eq v.proposal.site m.site ≡ b
        → is_repeat (if not b then stepped (Unfit Address) m
        else ballot_step (find (is_on v.proposal) m.ballots) v m).reply ≡ true → nat_eq v.proposal.site m.site ≡ true
    here true f k = f
    here false f k = absurd (true≢false (sym k))

    at : (b : Bool) → (nat_lt m.size v.voter || nat_lt m.size v.proposal.site) ≡ b
        → is_repeat (if b then stepped (Unfit Size) m
        else (if not (nat_eq v.proposal.site m.site) then stepped (Unfit Address) m
        else ballot_step (find (is_on v.proposal) m.ballots) v m)).reply ≡ true → IsPlaced v m
    at true f k = absurd (true≢false (sym k))
    at false f k = record { near = f; own = here (nat_eq v.proposal.site m.site) refl k }

pub from_vote : (v : Vote) (m : Machine) → IsPlaced v m → IsCountedAt v m → is_repeat (vote_step v m).reply ≡ true
from_vote v m p k =
    ap (λ (b : Bool). is_repeat (if b then stepped (Unfit Size) m
    else (if not (nat_eq v.proposal.site m.site) then stepped (Unfit Address) m
    else ballot_step (find (is_on v.proposal) m.ballots) v m)).reply) p.near
    ∙ (ap (λ (b : Bool). is_repeat (if not b then stepped (Unfit Address) m
    else ballot_step (find (is_on v.proposal) m.ballots) v m).reply) p.own
    ∙ (ap (λ (o : Option Ballot). is_repeat (ballot_step o v m).reply) k.found
    ∙ ap (λ (b : Bool). is_repeat (if b then stepped Repeat m else stepped New (count v k.ballot m)).reply) k.counted))
