-- The histories of the example `with_a_flatten` are a consistent family.
use Rattle.std.proofs.Common.{ℕ, codes, refl, arith}
use Rattle.td_machine.specs.Machine.{start}
use Rattle.td_machine.specs.History.{Family, history, IsConsistent}
use Rattle.td_machine.specs.Stage.{family_after}
use Rattle.td_machine.specs.Examples.{with_a_flatten}
use Rattle.td_machine.proofs.Ranges.{atom_from}
use Rattle.td_machine.proofs.Witness.{EachFair, consistent_from, asked, went_on, took, at_two}

abbrev two_sites : Family
two_sites = family_after 2 with_a_flatten

first : EachFair two_sites 1 (start 1 2) (history two_sites 1)
first = (
  asked two_sites 1 _ _ _ (atom_from (codes "a") refl) refl,
  (
    asked two_sites 1 _ _ _ (atom_from (codes "b") refl) refl,
    (
      asked two_sites 1 _ _ _ tt refl,
      (
        asked two_sites 1 _ _ _ tt refl,
        (
          took two_sites 1 _ _ _ 0 refl refl refl refl,
          (
            asked two_sites 1 _ _ _ (atom_from (codes "d") refl) refl,
            tt,
          ),
        ),
      ),
    ),
  ),
)

second : EachFair two_sites 2 (start 2 2) (history two_sites 2)
second = (
  took two_sites 2 _ _ _ 1 refl refl refl refl,
  (
    took two_sites 2 _ _ _ 0 refl refl refl refl,
    (
      went_on two_sites 2 _ _ refl,
      (
        took two_sites 2 _ _ _ 0 refl refl refl refl,
        (
          took two_sites 2 _ _ _ 2 refl refl refl refl,
          (
            took two_sites 2 _ _ _ 3 refl refl refl refl,
            (
              asked two_sites 2 _ _ _ (atom_from (codes "c") refl) refl,
              (
                took two_sites 2 _ _ _ 4 refl refl refl refl,
                (
                  asked two_sites 2 _ _ _ (atom_from (codes "c") refl) refl,
                  (
                    took two_sites 2 _ _ _ 5 refl refl refl refl,
                    tt,
                  ),
                ),
              ),
            ),
          ),
        ),
      ),
    ),
  ),
)

pub consistent : IsConsistent two_sites
consistent =
    consistent_from two_sites (omega arith) (omega arith)
    (at_two (λ (site : ℕ). EachFair two_sites site (start site 2) (history two_sites site)) first second)
