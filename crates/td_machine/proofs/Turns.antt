-- The operations of a machine's log came in their turn, and its vector counts them.
use Rattle.std.proofs.Common.{◌≡◌, ◌<◌, ◌≤◌, ◌+◌, ◌++◌, ◌-◌, ℕ, List, [], ◌∷◌, not}
use Rattle.std.proofs.Common.{length, refl, sym, ap, ◌∙◌, subst, arith}
use Rattle.std.proofs.lemmas.Bool.{leb-true, leb-false, le-leb, and_parts, not-true}
use Rattle.std.proofs.lemmas.List.{length-set, length-replicate}
use Rattle.td_base.specs.Value.{DotValue}
use Rattle.td_clock.specs.Vector.{vector_get, vector_bump, vector_covers}
use Rattle.td_clock.proofs.VectorLemmas.{covers_itself, covered_dots}
use Rattle.td_op.specs.declared.message.Message.{Message}
use Rattle.td_op.specs.Op.{OpValue}
use Rattle.td_machine.specs.Ready.{is_had}
use Rattle.td_machine.specs.Counts.{counts, IsNext, IsInTurn}
use Rattle.td_machine.specs.Machine.{Machine}
use Rattle.td_base.proofs.Elements.{same_head, same_tail}
use Rattle.td_machine.specs.Parts.{IsFit, IsBuilt}
use Rattle.td_machine.proofs.Parts.{IsDone, Own, Other, by_operations}

pub length_counts : (n : ℕ) (log : List OpValue) → length (counts n log) ≡ n
length_counts n [] = length-replicate n 0
length_counts n (x ∷ log) =
    length-set (counts n log) (x.dot.site - 1) (vector_get (counts n log) x.dot.site + 1) ∙ length_counts n log

abbrev Counted : ℕ → List ℕ → List OpValue → Type 0
Counted n have log = (have ≡ counts n log) × IsInTurn n log

long_at : (m : Machine) → Counted m.size m.have m.log → length m.have ≡ m.size
long_at m h = ap (λ (v : List ℕ). length v) h.0 ∙ length_counts m.size m.log

-- a ready operation of this size has the next number of its site
fit_next : {Came : Message → Type 0} (m : Machine) (x : OpValue) → length m.have ≡ m.size → IsFit Came m x
    → IsNext m.have x
fit_next m x long fit =
    let parts = and_parts (not (is_had m.have x)) (vector_covers m.have x.deps) fit.ready in
    let late : vector_get m.have x.dot.site < x.dot.seq =
    leb-false x.dot.seq (vector_get m.have x.dot.site) (not-true (is_had m.have x) parts.0) in
    let last : ℕ = vector_get x.deps x.dot.site in
    let known : DotValue = record { site = x.dot.site; seq = last } in
    let had : last ≤ vector_get m.have x.dot.site =
    leb-true last (vector_get m.have x.dot.site)
    (covered_dots m.have x.deps parts.1 known (le-leb last last (omega arith))) in
    let number : last + 1 ≡ x.dot.seq = fit.offered.valid.op.next in
    let own : x.dot.site ≤ length x.deps = fit.offered.valid.op.own in
    let sized : length x.deps ≡ m.size = fit.offered.sized in
    record {
      some = fit.offered.valid.dot.site.least;
      within = omega (arith, own, sized, long);
      size = sized ∙ sym long;
      next = omega (arith, late, had, number);
      past = parts.1;
    }

module _ {Came : Message → Type 0} {site size : ℕ} where
  -- the machine is that of its site, which is one of its sites
  pub placed : (m : Machine) → IsBuilt Came site size m
      → (0 < m.site) × (m.site ≤ m.size) × (m.site ≡ site) × (m.size ≡ size)
  placed =
      by_operations (λ s n doc have log. (0 < s) × (s ≤ n) × (s ≡ site) × (n ≡ size))
      (λ some within. (some, within, refl, refl)) (λ m b x done h. h)

  next_at : (m : Machine) → IsBuilt Came site size m → (x : OpValue) → IsDone Came m x → length m.have ≡ m.size
      → IsNext m.have x
  next_at m b x (Own body may) long =
      let p = placed m b in
      let within : m.site ≤ m.size = p.1 in
      record { some = p.0; within = omega (arith, long, within); size = refl; next = refl; past = covers_itself m.have }
  next_at m b x (Other y fit) long = fit_next m y long fit

  pub counted : (m : Machine) → IsBuilt Came site size m → Counted m.size m.have m.log
  counted =
      by_operations (λ s n doc have log. Counted n have log) (λ some within. (refl, tt))
      (λ m b x done h. (
        ap (λ (v : List ℕ). vector_bump v x.dot.site) h.0,
        (subst (λ (v : List ℕ). IsNext v x) h.0 (next_at m b x done (long_at m h)), h.1),
      ))

  pub length_have : (m : Machine) → IsBuilt Came site size m → length m.have ≡ m.size
  length_have m b = long_at m (counted m b)

  -- what is made or taken is the next of its site
  pub comes_next : (m : Machine) → IsBuilt Came site size m → (x : OpValue) → IsDone Came m x → IsNext m.have x
  comes_next m b x done = next_at m b x done (length_have m b)

  -- what holds of each operation where it comes, by what the log had then, holds of it in each later log
  pub by_each : (R : ℕ → ℕ → OpValue → List OpValue → Type 0)
      → ((m : Machine) → IsBuilt Came site size m → (x : OpValue) → IsDone Came m x → R m.site m.size x m.log)
      → (m : Machine) → IsBuilt Came site size m → (newer : List OpValue) (x : OpValue) (older : List OpValue)
      → m.log ≡ newer ++ x ∷ older → R m.site m.size x older
  by_each R comes =
      by_operations
      (λ s n doc have log.
      (newer : List OpValue) (x : OpValue) (older : List OpValue) → log ≡ newer ++ x ∷ older → R s n x older)
      (λ some within. none) (λ m b x done h. more m x (comes m b x done) h)
    where
      none : (newer : List OpValue) (x : OpValue) (older : List OpValue) → [] ≡ newer ++ x ∷ older → R site size x older
      none [] x older e = absurd cc
      none (y ∷ newer) x older e = absurd cc

      more : (m : Machine) (x : OpValue) → R m.site m.size x m.log
          → ((newer : List OpValue) (y : OpValue) (older : List OpValue) → m.log ≡ newer ++ y ∷ older
          → R m.site m.size y older)
          → (newer : List OpValue) (y : OpValue) (older : List OpValue) → x ∷ m.log ≡ newer ++ y ∷ older
          → R m.site m.size y older
      more m x r h [] y older e =
          subst (λ (z : OpValue). R m.site m.size z older) (same_head x m.log y older e)
          (subst (R m.site m.size x) (same_tail x m.log y older e) r)
      more m x r h (z ∷ newer) y older e = h newer y older (same_tail x m.log z (newer ++ y ∷ older) e)
