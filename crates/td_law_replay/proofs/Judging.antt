-- What an entry that is done came to.
use Rattle.std.proofs.Common.{◌≡◌, ◌≢◌, ◌<◌, ◌≤◌, ◌-◌, ◌||◌, List, [], ◌∷◌, ℕ, Bool, true, false, not, if◌then◌else◌}
use Rattle.std.proofs.Common.{nat_eq, nat_le, length, Option, Some, None, option_and_then, refl, sym, ap, ◌∙◌, arith}
use Rattle.std.proofs.lemmas.List.{get_or_past}
use Rattle.std.proofs.lemmas.Bool.{eqb-true, eqb-false, leb-true, leb-false}
use Rattle.td_base.specs.Value.{DotValue}
use Rattle.td_op.specs.declared.input.Input.TheVariants.{Take, Next}
use Rattle.td_op.specs.declared.message.Message.TheVariants.{Op as AnOp, Vote as AVote}
use Rattle.td_op.specs.declared.vote.Vote.{Vote}
use Rattle.td_op.specs.declared.reply.Reply.{Reply}
use Rattle.td_op.specs.Op.{OpValue}
use Rattle.td_machine.specs.Machine.{Machine}
use Rattle.td_machine.specs.Taking.{Stepped}
use Rattle.td_machine.specs.Step.{step}
use Rattle.td_trace.specs.declared.entry.TraceEntry.{TraceEntry}
use Rattle.td_trace.specs.declared.told_input.ToldInput.TheVariants.{TookOp, TookVote, Went}
use Rattle.td_law_replay.specs.Counting.{deps_from, no_count, in_vector, made_deps}
use Rattle.td_law_replay.specs.Judging.{outline, States, made_op, Lost, Waits, Steps, take_waiting}
use Rattle.td_law_replay.specs.Judging.{judge_offer, judge_taken, judge_next, judge}
use Rattle.td_law_replay.specs.Replies.{is_new, taken_of}
use Rattle.td_law_replay.specs.Traced.{site_entries}

-- ---- the three judgements

pub same_steps : (s t : Stepped) → Steps s ≡ Steps t → t ≡ s
same_steps s t e = cc

pub lost_waits : Lost ≢ Waits
lost_waits e = cc

pub lost_steps : (t : Stepped) → Lost ≢ Steps t
lost_steps t e = cc

pub waits_steps : (t : Stepped) → Waits ≢ Steps t
waits_steps t e = cc

pub none_left : (e : TraceEntry) (rest : List TraceEntry) → [] ≢ e ∷ rest
none_left e rest k = cc

-- ---- votes

pub record VoteJudged (site : ℕ) (m : Machine) (v : Vote) (to : Stepped) : Type 0 where
  pub another : v.voter ≢ site
  pub addressed : v.proposal.site ≡ site
  pub is : to ≡ step m (Take (AVote v))

pub vote_judged : (all : List (List TraceEntry)) (states : States) (site : ℕ) (m : Machine) (v : Vote) (reply : Reply)
    (to : Stepped)
    → judge all states site m (TookVote v) reply ≡ Steps to → VoteJudged site m v to
vote_judged all states site m v reply to e = at (nat_eq v.voter site) (nat_eq v.proposal.site site) refl refl e
  where
    at : (a b : Bool) → nat_eq v.voter site ≡ a → nat_eq v.proposal.site site ≡ b
        → (if a || not b then Lost else Steps (step m (Take (AVote v)))) ≡ Steps to → VoteJudged site m v to
    at true b f g k = absurd cc
    at false false f g k = absurd cc
    at false true f g k =
        record {
          another = eqb-false v.voter site f;
          addressed = eqb-true v.proposal.site site g;
          is = same_steps (step m (Take (AVote v))) to k;
        }

-- ---- operations that are offered

pub data Offer (all : List (List TraceEntry)) (states : States) (site : ℕ) (m : Machine) (d : DotValue) (reply : Reply)
    (to : Stepped) : Type 0 where
  Used : (x : OpValue) (deps : List ℕ) → d.site ≢ site → made_deps all d ≡ Some deps → made_op states d ≡ Some x
      → is_new reply ≡ true → to ≡ step m (Take (AnOp x)) → Offer all states site m d reply to
  Known : (deps : List ℕ) → d.site ≢ site → made_deps all d ≡ Some deps → is_new reply ≡ false
      → to ≡ step m (Take (AnOp (outline d deps))) → Offer all states site m d reply to

pub offer_judged : (all : List (List TraceEntry)) (states : States) (site : ℕ) (m : Machine) (d : DotValue)
    (reply : Reply)
    (to : Stepped) → judge all states site m (TookOp d) reply ≡ Steps to → Offer all states site m d reply to
offer_judged all states site m d reply to e =
    at (nat_eq d.site site) (made_deps all d) (made_op states d) (is_new reply) refl refl refl refl e
  where
    at : (own : Bool) (t : Option (List ℕ)) (o : Option OpValue) (new : Bool) → nat_eq d.site site ≡ own
        → made_deps all d ≡ t
        → made_op states d ≡ o → is_new reply ≡ new
        → (if own then Lost else judge_offer t o new d m) ≡ Steps to → Offer all states site m d reply to
    at true t o new f g h i k = absurd cc
    at false None o new f g h i k = absurd cc
    at false (Some deps) None true f g h i k = absurd cc
    at false (Some deps) (Some x) true f g h i k =
        Used x deps (eqb-false d.site site f) g h i (same_steps (step m (Take (AnOp x))) to k)
    at false (Some deps) o false f g h i k =
        Known deps (eqb-false d.site site f) g i (same_steps (step m (Take (AnOp (outline d deps)))) to k)

-- ---- going on

pub data Onward (all : List (List TraceEntry)) (states : States) (site : ℕ) (m : Machine) (reply : Reply)
    (to : Stepped)
    : Type 0 where
  Idles : taken_of reply ≡ None → to ≡ step m Next → Onward all states site m reply to
  TakesUp : (d : DotValue) (x : OpValue) (deps : List ℕ) → taken_of reply ≡ Some d → d.site ≢ site
      → made_deps all d ≡ Some deps → made_op states d ≡ Some x → to ≡ take_waiting x m
      → Onward all states site m reply to

pub onward_judged : (all : List (List TraceEntry)) (states : States) (site : ℕ) (m : Machine) (reply : Reply)
    (to : Stepped)
    → judge all states site m Went reply ≡ Steps to → Onward all states site m reply to
onward_judged all states site m reply to e = at (taken_of reply) refl e
  where
    at : (o : Option DotValue) → taken_of reply ≡ o → judge_next o all states site m ≡ Steps to
        → Onward all states site m reply to
    at None f k = Idles f (same_steps (step m Next) to k)
    at (Some d) f k = found (nat_eq d.site site) (made_deps all d) (made_op states d) refl refl refl k
      where
        found : (own : Bool) (t : Option (List ℕ)) (o : Option OpValue) → nat_eq d.site site ≡ own
            → made_deps all d ≡ t
            → made_op states d ≡ o → (if own then Lost else judge_taken t o m) ≡ Steps to
            → Onward all states site m reply to
        found true t o g h i k = absurd cc
        found false None o g h i k = absurd cc
        found false (Some deps) None g h i k = absurd cc
        found false (Some deps) (Some x) g h i k =
            TakesUp d x deps f (eqb-false d.site site g) h i (same_steps (take_waiting x m) to k)

-- ---- what is told is of a site

pub made_deps_within : (all : List (List TraceEntry)) (d : DotValue) (deps : List ℕ) → made_deps all d ≡ Some deps
    → d.site ≤ length all
made_deps_within all d deps e = at (nat_le d.site (length all)) refl
  where
    at : (b : Bool) → nat_le d.site (length all) ≡ b → d.site ≤ length all
    at true f = leb-true d.site (length all) f
    at false f =
        let past : length all < d.site = leb-false d.site (length all) f in
        let none : site_entries all d.site ≡ [] = get_or_past all (d.site - 1) [] (omega (arith, past)) in
        absurd (never (sym (ap (λ (l : List TraceEntry). option_and_then in_vector
        (deps_from d.site (length all) d.seq (no_count (length all)) l)) none) ∙ e))
      where
        never : None ≡ Some deps → ⊥
        never k = cc
