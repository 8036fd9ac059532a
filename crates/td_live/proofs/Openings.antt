-- A live script that bytes spell can be opened as a room.
use Rattle.std.proofs.Common.{◌≡◌, ◌≤◌, ℕ, List, [], ◌∷◌, length, map, ap, ◌∙◌, subst}
use Rattle.std.specs.Prelude.{All}
use Rattle.std.specs.List.{AllByRecursion, AllZip}
use Rattle.std.proofs.lemmas.List.{length-map}
use Rattle.std.proofs.lemmas.List.Elements.{All-cons, All-nil}
use Rattle.td_line.specs.Editors.{EditorValue}
use Rattle.td_law_meeting.specs.Thin.{Loss}
use Rattle.td_room.specs.Opening.{AreOpened, IsRoom}
use Rattle.td_room.specs.Workers.{WorkerValue}
use Rattle.td_script.specs.Script.{IsSiteOf}
use Rattle.td_script.specs.declared.live.editor_line.EditorLine.{EditorLine}
use Rattle.td_live.specs.Live.{IsTraceAmong}
use Rattle.td_live.specs.Seating.{CanSit, homes_of}
use Rattle.td_live.proofs.Seats.{all_can_sit, count_of, opened_homes}

pub homes_within : (sites : ℕ) (homes : List ℕ) → AllByRecursion (IsSiteOf sites) homes
    → All (λ (home : ℕ). home ≤ sites) homes
homes_within sites [] all = All-nil (λ (home : ℕ). home ≤ sites)
homes_within sites (home ∷ homes) all =
    All-cons (λ (h : ℕ). h ≤ sites) home homes all.0.1 (homes_within sites homes all.1)

pub as_many_counts : (lines : List (List EditorLine)) (counts homes : List ℕ) → counts ≡ map count_of lines
    → length lines ≡ length homes → length counts ≡ length homes
as_many_counts lines counts homes counts_are same =
    ap length counts_are ∙ length-map lines count_of ∙ same

module _ (size : ℕ) (homes counts : List ℕ) (lost : Loss) (workers : List WorkerValue) (editors : List EditorValue)
    (lines : List (List EditorLine)) (room : IsRoom size homes counts lost workers editors)
    (counts_are : counts ≡ map count_of lines) (same : length lines ≡ length homes) where
  pub all_can : AllZip CanSit editors lines
  all_can =
      all_can_sit homes lines editors same
      (subst (λ (c : List ℕ). AreOpened homes c editors) counts_are room.editors_are)

  pub traced_room : (bytes : List ℕ) → IsTraceAmong (length workers) (homes_of editors) lines bytes
      → IsTraceAmong size homes lines bytes
  traced_room bytes is =
      subst (λ (x : ℕ × List ℕ). IsTraceAmong x.0 x.1 lines bytes)
      (λ i. (room.size_is i, opened_homes homes counts editors room.editors_are i)) is
