-- The example that no order in time gives is replayed to its end.
use Rattle.std.proofs.Common.{◌≡◌, ◌<◌, ◌≤◌, ℕ, zero, suc, [], true, codes, refl, subst, arith}
use Rattle.std.specs.List.{AllByRecursion}
use Rattle.td_base.specs.Value.{DotValue, IsDot}
use Rattle.td_base.proofs.Lists.{all_in}
use Rattle.td_op.specs.declared.message.Message.TheVariants.{Vote as AVote}
use Rattle.td_machine.specs.Stage.{dot, vote_yes}
use Rattle.td_machine.proofs.Ranges.{dot_fits, atom_from, message_from}
use Rattle.td_trace.specs.declared.entry.TraceEntry.{TraceEntry}
use Rattle.td_trace.specs.declared.told_input.ToldInput.{ToldInput}
use Rattle.td_trace.specs.declared.told_input.ToldInput.TheVariants.{TookVote}
use Rattle.td_law_replay.specs.Traced.{site_entries, IsTold, AreInRange}
use Rattle.td_law_replay.specs.Judging.{begin}
use Rattle.td_law_replay.specs.Replay.{Reaches, AllDone}
use Rattle.td_law_replay.specs.Ended.{VotesWereSent, IsReplayed}
use Rattle.td_law_replay.specs.Stage.{after_sites}
use Rattle.td_law_replay.specs.Examples.{crossing, crossing_sites}
use Rattle.td_law_replay.proofs.Staged.{AllCan, reaches_sites}

dot_from : (d : DotValue) → dot_fits d ≡ true → IsDot d
dot_from d h = (message_from (AVote (vote_yes 1 d)) h).proposal

pub at_three : (P : ℕ → Type 0) → P 1 → P 2 → P 3 → (site : ℕ) → 0 < site → site ≤ 3 → P site
at_three P a b c zero up low = absurd (omega (arith, up))
at_three P a b c (suc zero) up low = a
at_three P a b c (suc (suc zero)) up low = b
at_three P a b c (suc (suc (suc zero))) up low = c
at_three P a b c (suc (suc (suc (suc k)))) up low = absurd (omega (arith, low))

abbrev InRange : ℕ → Type 0
InRange site = AllByRecursion (λ (e : TraceEntry). IsTold e.told) (site_entries crossing site)

first_range : InRange 1
first_range = (
  dot_from (dot 2 1) refl,
  (
    dot_from (dot 3 1) refl,
    (
      atom_from (codes "a") refl,
      (dot_from (dot 3 2) refl, (tt, tt)),
    ),
  ),
)

second_range : InRange 2
second_range = (
  dot_from (dot 1 1) refl,
  (
    dot_from (dot 3 1) refl,
    (
      dot_from (dot 3 2) refl,
      (atom_from (codes "b") refl, (tt, tt)),
    ),
  ),
)

third_range : InRange 3
third_range = (
  atom_from (codes "x") refl,
  (
    atom_from (codes "y") refl,
    (
      dot_from (dot 1 1) refl,
      (dot_from (dot 2 1) refl, tt),
    ),
  ),
)

pub crossing_entries : AreInRange crossing
crossing_entries =
    record {
      some = omega arith;
      few = omega arith;
      each = λ site up low e i.
          all_in (λ (e : TraceEntry). IsTold e.told) (site_entries crossing site)
          (at_three InRange first_range second_range third_range site up low) e i;
    }

-- no entry takes a vote
abbrev NoVote : ToldInput → Type 0
NoVote (TookVote v) = ⊥
NoVote told = Unit {0}

abbrev NoVotes : ℕ → Type 0
NoVotes site = AllByRecursion (λ (e : TraceEntry). NoVote e.told) (site_entries crossing site)

no_votes : (site : ℕ) → 0 < site → site ≤ 3 → NoVotes site
no_votes =
    at_three NoVotes (tt, (tt, (tt, (tt, (tt, tt))))) (tt, (tt, (tt, (tt, (tt, tt))))) (tt, (tt, (tt, (tt, tt))))

pub crossing_goes : AllCan crossing (begin crossing) crossing_sites
crossing_goes = (
  (omega arith, omega arith, refl, refl, tt),
  (
    (omega arith, omega arith, refl, refl, tt),
    (
      (omega arith, omega arith, refl, refl, tt),
      (
        (omega arith, omega arith, refl, refl, tt),
        (
          (omega arith, omega arith, refl, refl, tt),
          (
            (omega arith, omega arith, refl, refl, tt),
            (
              (omega arith, omega arith, refl, refl, tt),
              (
                (omega arith, omega arith, refl, refl, tt),
                (
                  (omega arith, omega arith, refl, refl, tt),
                  (
                    (omega arith, omega arith, refl, refl, tt),
                    (
                      (omega arith, omega arith, refl, refl, tt),
                      (
                        (omega arith, omega arith, refl, refl, tt),
                        (
                          (omega arith, omega arith, refl, refl, tt),
                          ((omega arith, omega arith, refl, refl, tt), tt),
                        ),
                      ),
                    ),
                  ),
                ),
              ),
            ),
          ),
        ),
      ),
    ),
  ),
)

pub crossing_reaches : Reaches crossing (after_sites crossing crossing_sites)
crossing_reaches = reaches_sites crossing crossing_sites crossing_goes

pub crossing_over : AllDone crossing (after_sites crossing crossing_sites)
crossing_over = at_three (λ (site : ℕ). (after_sites crossing crossing_sites site).left ≡ []) refl refl refl

pub crossing_votes : VotesWereSent crossing (after_sites crossing crossing_sites)
crossing_votes site up low e i v k =
    absurd
    (subst (λ (told : ToldInput). NoVote told) k
    (all_in (λ (e : TraceEntry). NoVote e.told) (site_entries crossing site) (no_votes site up low) e i))

pub crossing_replayed : IsReplayed crossing
crossing_replayed =
    record {
      are = crossing_entries;
      states = after_sites crossing crossing_sites;
      reaches = crossing_reaches;
      over = crossing_over;
      votes = crossing_votes;
    }
