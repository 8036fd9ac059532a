-- All lines are done and all is settled: what the trace tells goes on from the books.
use Rattle.std.proofs.Common.{◌≡◌, ℕ, List, [], ◌∷◌, map, refl, sym, ◌∙◌, subst, append-nil}
use Rattle.std.specs.List.{AllZip}
use mathlib.Core.List.{IsPrefix}
use Rattle.td_script.specs.declared.live.editor_line.EditorLine.{EditorLine}
use Rattle.td_trace.specs.declared.log.EditorLog.{EditorLog}
use Rattle.td_world.specs.World.{WorldValue, IsWorld, family_of, size}
use Rattle.td_world.specs.Calls.{IsSettled}
use Rattle.td_world.specs.Promises.{SameVectors, AllDecided}
use Rattle.td_world.proofs.Moves.{size_family}
use Rattle.td_live.specs.Live.{IsLiveFamilyOf, IsTraced}
use Rattle.td_live.specs.Books.{BookValue, AreBooks, log_of}
use Rattle.td_live.specs.Finishing.{IsFinishing, LaterBook}
use Rattle.td_live.specs.Ending.{IsTraceFrom}
use Rattle.td_live.proofs.Recording.{grown_then}
use Rattle.td_live.proofs.Settling.{grown_settled, books_settled}
use Rattle.td_live.proofs.Telling.{live_family}

homes_same : (books later : List BookValue) → AllZip LaterBook books later
    → map (λ (b : BookValue). b.home) later ≡ map (λ (b : BookValue). b.home) books
homes_same [] [] z = refl
homes_same [] (c ∷ later) z = absurd z
homes_same (b ∷ books) [] z = absurd z
homes_same (b ∷ books) (c ∷ later) z = let rest = homes_same books later z.1 in λ i. z.0.home i ∷ rest i

logs_kept : (books later : List BookValue) → AllZip LaterBook books later
    → AllZip (λ (b : BookValue) (log : EditorLog). IsPrefix b.did log.did) books (map log_of later)
logs_kept [] [] z = tt
logs_kept [] (c ∷ later) z = absurd z
logs_kept (b ∷ books) [] z = absurd z
logs_kept (b ∷ books) (c ∷ later) z = (z.0.did, logs_kept books later z.1)

module _ (w v u : WorldValue) (given : ℕ) (books : List BookValue) (logs : List EditorLog)
    (f : IsFinishing (family_of w) books (family_of v) logs []) (s : IsSettled v u given) where
  all_later : AllZip LaterBook books f.done
  all_later = subst (λ (bs : List BookValue). AllZip LaterBook books bs) (append-nil f.done) f.later

  pub size_wound : (sites : ℕ) → sites ≡ size w → sites ≡ size u
  size_wound sites e =
      e ∙ sym (size_family w) ∙ sym f.grown.size ∙ sym (grown_settled v u given s).size ∙ size_family u

  pub wound_up : (bytes : List ℕ) → IsWorld u → SameVectors u → AllDecided u → IsTraced (family_of u) logs bytes
      → (lines : List (List EditorLine)) → AreBooks (family_of w) lines books
      → IsTraceFrom lines (family_of w) books bytes
  wound_up bytes i vectors decided traced lines h =
      let last : AreBooks (family_of v) lines f.done =
      subst (λ (bs : List BookValue). AreBooks (family_of v) lines bs) (append-nil f.done) (f.books lines h) in
      let live = live_family u i vectors decided lines f.done (books_settled v u given s lines f.done last) f.over in
      record {
        family = family_of u;
        logs = logs;
        live = subst (λ (x : List ℕ × List EditorLog). IsLiveFamilyOf x.0 lines (family_of u) x.1)
            (λ k. (homes_same books f.done all_later k, sym f.logs_are k)) live;
        traced = traced;
        grown = grown_then (family_of w) (family_of v) (family_of u) f.grown (grown_settled v u given s);
        kept = subst (λ (ls : List EditorLog). AllZip (λ (b : BookValue) (log : EditorLog). IsPrefix b.did log.did)
            books ls)
            (sym f.logs_are) (logs_kept books f.done all_later);
      }
