-- The histories of the example `used_again` are a consistent family.
use Rattle.std.proofs.Common.{ℕ, [], ◌∷◌, codes, refl, inl, inr, arith}
use Rattle.td_base.specs.declared.bit.Bit.TheVariants.{Right}
use Rattle.td_base.specs.Lists.{In}
use Rattle.td_path.specs.declared.slot.Slot.TheVariants.{At}
use Rattle.td_op.specs.declared.body.Body.TheVariants.{Propose, Commit}
use Rattle.td_op.specs.Op.{OpValue}
use Rattle.td_order.specs.Example.{op}
use Rattle.td_law_logs.specs.Logs.{IsCommit}
use Rattle.td_machine.specs.Machine.{start}
use Rattle.td_machine.specs.History.{Family, history, log_of, IsConsistent, IsOpOf}
use Rattle.td_machine.specs.Stage.{atom_id, dot, family_after}
use Rattle.td_machine.specs.Examples.{used_again}
use Rattle.td_machine.proofs.Ranges.{atom_from}
use Rattle.td_machine.proofs.Witness.{EachFair, consistent_from, asked, took, at_two}

abbrev two_sites : Family
two_sites = family_after 2 used_again

first : EachFair two_sites 1 (start 1 2) (history two_sites 1)
first = (
  asked two_sites 1 _ _ _ (atom_from (codes "x") refl) refl,
  (
    asked two_sites 1 _ _ _ (atom_from (codes "y") refl) refl,
    (
      asked two_sites 1 _ _ _ tt refl,
      (
        asked two_sites 1 _ _ _ tt refl,
        (
          took two_sites 1 _ _ _ 0 refl refl refl refl,
          (
            asked two_sites 1 _ _ _ (atom_from (codes "p") refl) refl,
            (
              took two_sites 1 _ _ _ 1 refl refl refl refl,
              tt,
            ),
          ),
        ),
      ),
    ),
  ),
)

second : EachFair two_sites 2 (start 2 2) (history two_sites 2)
second = (
  took two_sites 2 _ _ _ 0 refl refl refl refl,
  (
    took two_sites 2 _ _ _ 1 refl refl refl refl,
    (
      took two_sites 2 _ _ _ 2 refl refl refl refl,
      (
        took two_sites 2 _ _ _ 3 refl refl refl refl,
        (
          took two_sites 2 _ _ _ 4 refl refl refl refl,
          (
            asked two_sites 2 _ _ _ (atom_from (codes "q") refl) refl,
            (
              took two_sites 2 _ _ _ 5 refl refl refl refl,
              tt,
            ),
          ),
        ),
      ),
    ),
  ),
)

pub consistent : IsConsistent two_sites
consistent =
    consistent_from two_sites (omega arith) (omega arith)
    (at_two (λ (site : ℕ). EachFair two_sites site (start site 2) (history two_sites site)) first second)

op_of : (x : OpValue) → In x (log_of two_sites 1) → IsOpOf two_sites x
op_of x i = record { site = 1; some = omega arith; within = omega arith; inside = i }

-- it has a commit of the right side of x
pub commit : IsCommit two_sites (op 1 5 (4 ∷ 0 ∷ []) (Commit (dot 1 4)))
    (op 1 4 (3 ∷ 0 ∷ []) (Propose (At (atom_id 1 1 0) Right))) (At (atom_id 1 1 0) Right)
commit =
    record {
      inside = op_of (op 1 5 (4 ∷ 0 ∷ []) (Commit (dot 1 4))) (inr (inr (inl refl)));
      proposed = op_of (op 1 4 (3 ∷ 0 ∷ []) (Propose (At (atom_id 1 1 0) Right))) (inr (inr (inr (inl refl))));
      asks = refl;
      is = refl;
    }
