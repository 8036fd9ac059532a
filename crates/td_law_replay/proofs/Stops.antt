-- The examples that are stopped, each at its cause.
use Rattle.std.proofs.Common.{◌≡◌, ◌≢◌, ◌<◌, ℕ, List, [], ◌∷◌, true, false, codes, length, refl, inl, inr, arith}
use Rattle.td_base.specs.Value.{DotValue}
use Rattle.td_op.specs.declared.reply.Reply.TheVariants.{Made, New, Later}
use Rattle.td_machine.specs.Stage.{dot, vote_yes}
use Rattle.td_machine.proofs.Witness.{at_two}
use Rattle.td_trace.specs.declared.entry.TraceEntry.{TraceEntry}
use Rattle.td_law_replay.specs.Judging.{begin}
use Rattle.td_law_replay.specs.Replay.{Reaches, AllDone}
use Rattle.td_law_replay.specs.Rounds.{Course, Starts, Does, Passes, Done, Waiting, IsLostAt, IsWrongAt, IsStuck}
use Rattle.td_law_replay.specs.Ended.{VotesWereSent}
use Rattle.td_law_replay.specs.Stage.{puts, takes_vote, takes, after_sites}
use Rattle.td_law_replay.specs.Examples.{never_made, not_late, misnumbered, each_first, never_voted}
use Rattle.td_law_replay.proofs.Staged.{CanDo, goes_left, reaches_sites}

-- the first site does its entry, and has none left
second_turn : (all : List (List TraceEntry)) → CanDo all (begin all) 1 (begin all 1).machine (begin all 1).left
    → 1 < length all → (after_sites all (1 ∷ []) 1).left ≡ [] → Course all (after_sites all (1 ∷ [])) 2 true
second_turn all c more done =
    Passes (Does Starts (goes_left all (begin all) 1 (begin all 1).left refl c)) more (Done done)

pub never_made_course : Course never_made (after_sites never_made (1 ∷ [])) 2 true
never_made_course = second_turn never_made (omega arith, omega arith, refl, refl, tt) (omega arith) refl

pub never_made_lost : IsLostAt never_made 2 (after_sites never_made (1 ∷ [])) (takes (dot 1 2) New)
never_made_lost = record { rest = []; next = refl; lost = refl }

pub not_late_course : Course not_late (after_sites not_late (1 ∷ [])) 2 true
not_late_course = second_turn not_late (omega arith, omega arith, refl, refl, tt) (omega arith) refl

pub not_late_wrong : IsWrongAt not_late 2 (after_sites not_late (1 ∷ [])) (takes (dot 1 1) Later)
not_late_wrong = record { rest = []; next = refl; to = _; judged = refl; wrong = inl (λ e. cc) }

pub misnumbered_course : Course misnumbered (begin misnumbered) 1 false
misnumbered_course = Starts

pub misnumbered_wrong : IsWrongAt misnumbered 1 (begin misnumbered) (puts (codes "a") (dot 1 2))
misnumbered_wrong = record { rest = []; next = refl; to = _; judged = refl; wrong = inl apart }
  where
    seqs : (d e : DotValue) → Made d ≡ Made e → d.seq ≡ e.seq
    seqs d e k = cc

    apart : Made (dot 1 1) ≢ Made (dot 1 2)
    apart k = let other : (dot 1 1).seq ≡ (dot 1 2).seq = seqs (dot 1 1) (dot 1 2) k in absurd (omega (arith, other))

pub each_first_stuck : IsStuck each_first (begin each_first)
each_first_stuck =
    record {
      site = 2;
      last = refl;
      course = Passes Starts (omega arith) (Waiting _ _ refl refl);
      rests = Waiting _ _ refl refl;
      left = λ over. absurd (nothing_left (over 1 (omega arith) (omega arith)));
    }
  where
    nothing_left : (begin each_first 1).left ≡ [] → ⊥
    nothing_left e = cc

pub never_voted_reaches : Reaches never_voted (after_sites never_voted (1 ∷ 1 ∷ 1 ∷ []))
never_voted_reaches =
    reaches_sites never_voted (1 ∷ 1 ∷ 1 ∷ []) (
      (omega arith, omega arith, refl, refl, tt),
      ((omega arith, omega arith, refl, refl, tt), ((omega arith, omega arith, refl, refl, tt), tt)),
    )

pub never_voted_over : AllDone never_voted (after_sites never_voted (1 ∷ 1 ∷ 1 ∷ []))
never_voted_over =
    at_two (λ (site : ℕ). (after_sites never_voted (1 ∷ 1 ∷ 1 ∷ []) site).left ≡ []) refl refl

pub never_voted_missing : ¬ VotesWereSent never_voted (after_sites never_voted (1 ∷ 1 ∷ 1 ∷ []))
never_voted_missing sent =
    (sent 1 (omega arith) (omega arith) (takes_vote (vote_yes 2 (dot 1 2))) (inr (inr (inl refl)))
    (vote_yes 2 (dot 1 2))
    refl).1
