-- The loops of a world's calls: what is done, and what is still to do.
use Rattle.std.proofs.Common.{◌≡◌, ◌<◌, ◌+◌, ◌-◌, ◌++◌, ℕ, zero, suc, List, [], ◌∷◌, Bool, true, false, if◌then◌else◌}
use Rattle.std.proofs.Common.{length, refl, sym, ap, ◌∙◌, subst, append-nil, append_assoc, arith}
use Rattle.td_world.specs.World.{WorldValue, Move, size, machine_of, moved, moved_all}
use Rattle.td_replica.specs.Replica.{has_ready}
use Rattle.td_world.specs.Calls.{next, nexts, IsCutShort, IsStopped}
use Rattle.td_world.proofs.Cuts.{cut_after, stopped_here, stopped_after}
use Rattle.td_world.proofs.Moves.{moved_both, size_after}

-- of these moves so many are done, and those others are left
pub record IsDoing (all rest : List Move) (old now : WorldValue) : Type 0 where
  pub front : List Move
  pub splits : all ≡ front ++ rest
  pub after : now ≡ moved_all front old

pub doing_none : (all : List Move) (w : WorldValue) → IsDoing all all w w
doing_none all w = record { front = []; splits = refl; after = refl }

pub doing_more : (all first rest : List Move) (old now new : WorldValue) → IsDoing all (first ++ rest) old now
    → new ≡ moved_all first now → IsDoing all rest old new
doing_more all first rest old now new d e =
    record {
      front = d.front ++ first;
      splits = d.splits ∙ sym (append_assoc d.front first rest);
      after = e ∙ (ap (λ (v : WorldValue). moved_all first v) d.after ∙ sym (moved_both d.front first old));
    }

pub doing_done : (all rest : List Move) (old now : WorldValue) → IsDoing all rest old now → rest ≡ []
    → now ≡ moved_all all old
doing_done all rest old now d e =
    d.after ∙ ap (λ (l : List Move). moved_all l old)
    (sym (d.splits ∙ (ap (λ (l : List Move). d.front ++ l) e ∙ append-nil d.front)))

pub doing_size : (all rest : List Move) (old now : WorldValue) → IsDoing all rest old now → size now ≡ size old
doing_size all rest old now d = ap size d.after ∙ size_after d.front old

pub doing_cut : (all rest : List Move) (old now new : WorldValue) → IsDoing all rest old now → IsCutShort rest now new
    → IsCutShort all old new
doing_cut all rest old now new d k =
    subst (λ (l : List Move). IsCutShort l old new) (sym d.splits) (cut_after d.front rest old now new d.after k)

pub doing_stopped : (all rest : List Move) (old now new : WorldValue) → IsDoing all rest old now
    → IsStopped rest now new
    → IsStopped all old new
doing_stopped all rest old now new d k =
    subst (λ (l : List Move). IsStopped l old new) (sym d.splits) (stopped_after d.front rest old now new d.after k)

-- ---- nexts

-- k of at most so many are done
pub record IsGoing (site count k : ℕ) (old now : WorldValue) : Type 0 where
  pub doing : IsDoing (nexts count site old) (nexts (count - k) site now) old now
  pub many : length (nexts count site old) ≡ k + length (nexts (count - k) site now)

nexts_on : (site count : ℕ) (w : WorldValue) → has_ready (machine_of w site) ≡ true → 0 < count
    → nexts count site w ≡ next site ∷ nexts (count - 1) site (moved (next site) w)
nexts_on site zero w e some = absurd (omega (arith, some))
nexts_on site (suc count) w e some =
    let same : suc count - 1 ≡ count = omega arith in
    ap (λ (b : Bool). if b then next site ∷ nexts count site (moved (next site) w) else []) e
    ∙ ap (λ (k : ℕ). next site ∷ nexts k site (moved (next site) w)) (sym same)

nexts_off : (site count : ℕ) (w : WorldValue) → has_ready (machine_of w site) ≡ false → nexts count site w ≡ []
nexts_off site zero w e = refl
nexts_off site (suc count) w e =
    ap (λ (b : Bool). if b then next site ∷ nexts count site (moved (next site) w) else []) e

pub going_more : (site count k : ℕ) (old now new : WorldValue) → k < count → IsGoing site count k old now
    → has_ready (machine_of now site) ≡ true → new ≡ moved (next site) now → IsGoing site count (k + 1) old new
going_more site count k old now new less g e is =
    let left : List Move = nexts (count - (k + 1)) site (moved (next site) now) in
    let same : count - k - 1 ≡ count - (k + 1) = omega (arith, less) in
    let some : 0 < count - k = omega (arith, less) in
    let on : nexts (count - k) site now ≡ next site ∷ nexts (count - (k + 1)) site (moved (next site) now) =
    nexts_on site (count - k) now e some ∙ ap (λ (n : ℕ). next site ∷ nexts n site (moved (next site) now)) same in
    let many : length (nexts (count - k) site now)
    ≡ suc (length (nexts (count - (k + 1)) site (moved (next site) now))) =
    ap (λ (l : List Move). length l) on in
    let all : length (nexts count site old) ≡ k + length (nexts (count - k) site now) = g.many in
    subst (λ (w : WorldValue). IsGoing site count (k + 1) old w) (sym is)
    (record {
      doing = doing_more (nexts count site old) (next site ∷ [])
          (nexts (count - (k + 1)) site (moved (next site) now)) old now
          (moved (next site) now)
          (subst (λ (l : List Move). IsDoing (nexts count site old) l old now) on g.doing) refl;
      many = omega (arith, many, all);
    })

-- the next one finds no memory
pub going_stopped : (site count k : ℕ) (old now new : WorldValue) → k < count → IsGoing site count k old now
    → has_ready (machine_of now site) ≡ true → new ≡ now → IsStopped (nexts count site old) old new
going_stopped site count k old now new less g e is =
    let some : 0 < count - k = omega (arith, less) in
    doing_stopped (nexts count site old) (nexts (count - k) site now) old now new g.doing
    (subst (λ (l : List Move). IsStopped l now new) (sym (nexts_on site (count - k) now e some))
    (stopped_here (next site) (nexts (count - k - 1) site (moved (next site) now)) now new is))

-- nothing is ready any more
pub going_off : (site count k : ℕ) (old now : WorldValue) → IsGoing site count k old now
    → has_ready (machine_of now site) ≡ false
    → (now ≡ moved_all (nexts count site old) old) × (k ≡ length (nexts count site old))
going_off site count k old now g e =
    let off : nexts (count - k) site now ≡ [] = nexts_off site (count - k) now e in
    let none : length (nexts (count - k) site now) ≡ 0 = ap (λ (l : List Move). length l) off in
    let all : length (nexts count site old) ≡ k + length (nexts (count - k) site now) = g.many in
    (doing_done (nexts count site old) (nexts (count - k) site now) old now g.doing off, omega (arith, none, all))
