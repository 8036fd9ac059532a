-- Where the replay is stopped there is no consistent family with these entries.
use Rattle.std.proofs.Common.{◌<◌, ◌≤◌, List, ℕ, length, subst}
use Rattle.td_machine.specs.History.{Family, IsConsistent}
use Rattle.td_trace.specs.declared.entry.TraceEntry.{TraceEntry}
use Rattle.td_trace.specs.Entries.{traced_family}
use Rattle.td_law_replay.specs.Judging.{States}
use Rattle.td_law_replay.specs.Replay.{Reaches, AllDone}
use Rattle.td_law_replay.specs.Rounds.{IsLostAt, IsWrongAt, IsStuck}
use Rattle.td_law_replay.specs.Ended.{VotesWereSent, IsConsistentTrace}
use Rattle.td_law_replay.proofs.Going.{many}
use Rattle.td_law_replay.proofs.Rounding.{not_lost, not_wrong, not_stuck}
use Rattle.td_law_replay.proofs.Shown.{votes_sent}

-- what no consistent family has, no entries of one have
untraced : (P : List (List TraceEntry) → Type 0)
    → ((family : Family) → IsConsistent family → P (traced_family family) → ⊥)
    → (all : List (List TraceEntry)) → P all → ¬ IsConsistentTrace all
untraced P never all p t =
    subst (λ (a : List (List TraceEntry)). P a → ⊥) t.is (never t.family t.consistent) p

pub lost_untraced : (all : List (List TraceEntry)) (states : States) → Reaches all states → (site : ℕ) → 0 < site
    → site ≤ length all → (entry : TraceEntry) → IsLostAt all site states entry → ¬ IsConsistentTrace all
lost_untraced all states r site some within entry l =
    untraced
    (λ (a : List (List TraceEntry)). Reaches a states × (site ≤ length a) × IsLostAt a site states entry)
    (λ family c q.
    not_lost family c states q.0 site some (subst (λ (n : ℕ). site ≤ n) (many family) q.1) entry q.2) all
    (r, within, l)

pub wrong_untraced : (all : List (List TraceEntry)) (states : States) → Reaches all states → (site : ℕ) → 0 < site
    → site ≤ length all → (entry : TraceEntry) → IsWrongAt all site states entry → ¬ IsConsistentTrace all
wrong_untraced all states r site some within entry w =
    untraced
    (λ (a : List (List TraceEntry)). Reaches a states × (site ≤ length a) × IsWrongAt a site states entry)
    (λ family c q.
    not_wrong family c states q.0 site some (subst (λ (n : ℕ). site ≤ n) (many family) q.1) entry q.2) all
    (r, within, w)

pub stuck_untraced : (all : List (List TraceEntry)) (states : States) → IsStuck all states → ¬ IsConsistentTrace all
stuck_untraced all states s =
    untraced (λ (a : List (List TraceEntry)). IsStuck a states) (λ family c q. not_stuck family c states q) all s

pub unsent_untraced : (all : List (List TraceEntry)) (last : States) → Reaches all last → AllDone all last
    → ¬ VotesWereSent all last → ¬ IsConsistentTrace all
unsent_untraced all last r over unsent =
    untraced (λ (a : List (List TraceEntry)). Reaches a last × AllDone a last × (¬ VotesWereSent a last))
    (λ family c q. q.2 (votes_sent family c last q.0 q.1)) all (r, over, unsent)
