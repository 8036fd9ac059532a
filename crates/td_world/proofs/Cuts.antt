-- Moves of which a front is done.
use Rattle.std.proofs.Common.{◌≡◌, ◌++◌, List, [], ◌∷◌, refl, sym, ap, ◌∙◌, subst, append_assoc}
use Rattle.std.specs.Prelude.{Result, Ok, Err, OnErr}
use Rattle.td_world.specs.World.{WorldValue, Move, moved, moved_all}
use Rattle.td_world.specs.Calls.{IsCutShort, IsStopped}
use Rattle.td_world.proofs.Moves.{moved_both}

-- what is cut short behind others
pub cut_after : (first rest : List Move) (w middle new : WorldValue) → middle ≡ moved_all first w
    → IsCutShort rest middle new → IsCutShort (first ++ rest) w new
cut_after first rest w middle new e k =
    record {
      front = first ++ k.front;
      back = k.back;
      splits = ap (λ (l : List Move). first ++ l) k.splits ∙ sym (append_assoc first k.front k.back);
      after = k.after ∙ (ap (λ (v : WorldValue). moved_all k.front v) e ∙ sym (moved_both first k.front w));
    }

-- and in front of others
pub cut_before : (first rest : List Move) (w new : WorldValue) → IsCutShort first w new
    → IsCutShort (first ++ rest) w new
cut_before first rest w new k =
    record {
      front = k.front;
      back = k.back ++ rest;
      splits = ap (λ (l : List Move). l ++ rest) k.splits ∙ append_assoc k.front k.back rest;
      after = k.after;
    }

pub err_always : {T E P : Type 0} (r : Result T E) → P → OnErr r P
err_always (Ok x) p = tt
err_always (Err e) p = p

-- ---- where a move found no memory

-- the first one
pub stopped_here : (move : Move) (rest : List Move) (w new : WorldValue) → new ≡ w → IsStopped (move ∷ rest) w new
stopped_here move rest w new e = record { front = []; wanting = move; back = rest; splits = refl; after = e }

-- one of those behind others
pub stopped_after : (first rest : List Move) (w middle new : WorldValue) → middle ≡ moved_all first w
    → IsStopped rest middle new → IsStopped (first ++ rest) w new
stopped_after first rest w middle new e k =
    record {
      front = first ++ k.front;
      wanting = k.wanting;
      back = k.back;
      splits = ap (λ (l : List Move). first ++ l) k.splits ∙ sym (append_assoc first k.front (k.wanting ∷ k.back));
      after = k.after ∙ (ap (λ (v : WorldValue). moved_all k.front v) e ∙ sym (moved_both first k.front w));
    }

-- and of those in front of others
pub stopped_before : (first rest : List Move) (w new : WorldValue) → IsStopped first w new
    → IsStopped (first ++ rest) w new
stopped_before first rest w new k =
    record {
      front = k.front;
      wanting = k.wanting;
      back = k.back ++ rest;
      splits = ap (λ (l : List Move). l ++ rest) k.splits ∙ append_assoc k.front (k.wanting ∷ k.back) rest;
      after = k.after;
    }

-- the rest depends on where the first move leads
pub stopped_same : (move : Move) (rest : WorldValue → List Move) (w middle new : WorldValue) → middle ≡ moved move w
    → IsStopped (rest middle) middle new → IsStopped (move ∷ rest (moved move w)) w new
stopped_same move rest w middle new e k =
    stopped_after (move ∷ []) (rest (moved move w)) w middle new e
    (subst (λ (v : WorldValue). IsStopped (rest v) middle new) e k)

pub stopped_cut : (moves : List Move) (w new : WorldValue) → IsStopped moves w new → IsCutShort moves w new
stopped_cut moves w new k = record { front = k.front; back = k.wanting ∷ k.back; splits = k.splits; after = k.after }
