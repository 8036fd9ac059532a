-- What holds of commits in the order of their dots holds of them in any order.
use Rattle.std.proofs.Common.{◌≡◌, ◌&&◌, ◌||◌, ℕ, List, [], ◌∷◌, Bool, true, false, if◌then◌else◌, not, refl, ap, ◌∙◌}
use Rattle.std.specs.List.{list_any, list_all}
use Rattle.td_base.specs.Order.{dot_lt}
use Rattle.td_clock.specs.Vector.{vector_has}
use Rattle.td_path.specs.declared.slot.Slot.{Slot}
use Rattle.td_doc.specs.Document.{DocRow}
use Rattle.td_doc.specs.Slots.{overlaps, is_known}
use Rattle.td_doc.specs.Answers.{is_rooted}
use Rattle.td_machine.specs.Hold.{Hold}
use Rattle.td_machine.specs.Log.{Committed}
use Rattle.td_machine.specs.Vote.{is_apart, votes_yes}
use Rattle.td_vote.specs.Commits.{put_commit, in_order}

swap_tests : (a b c : Bool) → (a && (b && c)) ≡ (b && (a && c))
swap_tests true b c = refl
swap_tests false true c = refl
swap_tests false false c = refl

module _ (test : Committed → Bool) where
  all_put_at : (c d : Committed) (commits : List Committed) (b : Bool)
      → list_all test (put_commit c commits) ≡ (test c && list_all test commits)
      → list_all test (if b then d ∷ put_commit c commits else c ∷ d ∷ commits)
      ≡ (test c && list_all test (d ∷ commits))
  all_put_at c d commits true h =
      ap (λ (rest : Bool). test d && rest) h ∙ swap_tests (test d) (test c) (list_all test commits)
  all_put_at c d commits false h = refl

  all_put : (c : Committed) (commits : List Committed)
      → list_all test (put_commit c commits) ≡ (test c && list_all test commits)
  all_put c [] = refl
  all_put c (d ∷ commits) = all_put_at c d commits (dot_lt d.dot c.dot) (all_put c commits)

  -- a test that each commit passes
  pub all_in_order : (commits : List Committed) → list_all test (in_order commits) ≡ list_all test commits
  all_in_order [] = refl
  all_in_order (c ∷ commits) =
      all_put c (in_order commits) ∙ ap (λ (rest : Bool). test c && rest) (all_in_order commits)

-- the vote over commits in any order
pub votes_in_order : (rows : List DocRow) (holds : List Hold) (commits : List Committed) (slot : Slot) (v : List ℕ)
    → votes_yes rows holds (in_order commits) slot v ≡ votes_yes rows holds commits slot v
votes_in_order rows holds commits slot v =
    ap
    (λ (b : Bool). is_rooted rows slot
    && is_known rows slot v
    && not (list_any (λ (h : Hold). overlaps rows h.slot slot) holds)
    && b)
    (all_in_order (λ (c : Committed). vector_has v c.dot || is_apart rows slot c) commits)
