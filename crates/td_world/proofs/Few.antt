-- How many messages there are: a machine sends one at most with each operation that it makes or takes, and of each site
-- it has at most 65,535.
use Rattle.std.proofs.Common.{◌≡◌, ◌<◌, ◌≤◌, ◌-◌, ◌+◌, ◌*◌, ◌++◌, ℕ, zero, suc, List, [], ◌∷◌}
use Rattle.std.proofs.Common.{Bool, true, false, if◌then◌else◌, nat_eq, length, filter, get_or}
use Rattle.std.proofs.Common.{set, refl, sym, ap, ◌∙◌, subst, inl, inr, arith}
use Rattle.std.proofs.lemmas.Bool.{eqb-true, eqb-false}
use Rattle.std.proofs.lemmas.List.{length-append}
use Rattle.std.proofs.lemmas.List.Folds.{sum_by-replicate}
use Rattle.std.proofs.lemmas.List.Sums.{sum_by-cons, sum_by-set}
use Rattle.std.specs.Prelude.{sum}
use Rattle.td_base.specs.Value.{DotValue}
use Rattle.td_base.specs.Lists.{In}
use Rattle.td_base.specs.declared.site.TheConstants.{MAX_SITE}
use Rattle.td_base.specs.declared.dot.TheConstants.{MAX_SEQ}
use Rattle.td_op.specs.declared.message.Message.{Message}
use Rattle.td_op.specs.declared.message.Message.TheVariants.{Op as AnOp, Vote as AVote}
use Rattle.td_op.specs.Op.{OpValue}
use Rattle.td_machine.specs.Counts.{counts, ops_of, IsInTurn, IsNext}
use Rattle.td_machine.specs.History.{IsReached}
use Rattle.td_op.specs.Message.{sender}
use Rattle.td_machine.specs.Machine.{Machine, next_op}
use Rattle.td_machine.proofs.Counting.{total, found, Found}
use Rattle.td_machine.proofs.Induction.{built_of}
use Rattle.td_machine.specs.Parts.{IsBuilt, Part, Makes, Proposes, Takes, Agrees, Declines, vote_here}
use Rattle.td_machine.proofs.Parts.{by_parts}
use Rattle.td_machine.proofs.Turns.{counted, length_counts}
use Rattle.td_op.specs.declared.body.Body.TheVariants.{Propose}
use Rattle.td_law_replay.proofs.Values.{values_of}
use Rattle.td_world.specs.World.{WorldValue, IsWorld, size, machine_of, family_of, is_sent_by}
use Rattle.td_world.proofs.Kept.{reached_in}
use Rattle.td_world.proofs.Moves.{low, size_family}
use Rattle.td_world.proofs.Named.{size_is}

-- ---- one machine

module _ {Came : Message → Type 0} {site size : ℕ} where
  -- no more was sent than was made or taken
  fewer_sent : (m : Machine) → IsBuilt Came site size m → length m.sent ≤ length m.log
  fewer_sent = by_parts (λ (m : Machine). length m.sent ≤ length m.log) (λ some within. omega arith) keeps
    where
      one : (sent : List Message) (message : Message) (x : OpValue) (log : List OpValue) → length sent ≤ length log
          → length (sent ++ message ∷ []) ≤ length (x ∷ log)
      one sent message x log h =
          let long : length (sent ++ message ∷ []) ≡ length sent + 1 = length-append sent (message ∷ []) in
          omega (arith, h, long)

      keeps : (m n : Machine) → IsBuilt Came site size m → Part Came m n → length m.sent ≤ length m.log
          → length n.sent ≤ length n.log
      keeps m n b (Makes body e may) h = one m.sent (AnOp (next_op m body)) (next_op m body) m.log h
      keeps m n b (Proposes slot may) h = one m.sent (AnOp (next_op m (Propose slot))) (next_op m (Propose slot))
          m.log h
      keeps m n b (Takes x e fit) h = omega (arith, h)
      keeps m n b (Agrees x slot e fit says) h = one m.sent (AVote (vote_here x true m)) x m.log h
      keeps m n b (Declines x slot e fit says) h = one m.sent (AVote (vote_here x false m)) x m.log h
      keeps m n b part h = h

sum_counts : (n : ℕ) (log : List OpValue) → IsInTurn n log → sum (counts n log) ≡ length log
sum_counts n [] t =
    let none : n * 0 ≡ 0 = omega arith in sum_by-replicate (λ (k : ℕ). k) n 0 ∙ none
sum_counts n (x ∷ log) t =
    let ih : sum (counts n log) ≡ length log = sum_counts n log t.1 in
    let next : IsNext (counts n log) x = t.0 in
    let some : 0 < x.dot.site = next.some in
    let within : x.dot.site ≤ length (counts n log) = next.within in
    let place : x.dot.site - 1 < length (counts n log) = omega (arith, some, within) in
    let more : sum (set (counts n log) (x.dot.site - 1) (get_or (counts n log) (x.dot.site - 1) 0 + 1))
    + get_or (counts n log) (x.dot.site - 1) 0 ≡ sum (counts n log) + (get_or (counts n log) (x.dot.site - 1) 0 + 1) =
    sum_by-set (λ (k : ℕ). k) (counts n log) (x.dot.site - 1) (get_or (counts n log) (x.dot.site - 1) 0 + 1) 0 place in
    omega (arith, ih, more)

sum_below : (v : List ℕ) → ((k : ℕ) → k < length v → get_or v k 0 ≤ 65535) → sum v ≤ length v * 65535
sum_below [] h = omega arith
sum_below (x ∷ v) h =
    let first : x ≤ 65535 = h 0 (omega arith) in
    let rest : sum v ≤ length v * 65535 = sum_below v (λ k less. h (suc k) (omega (arith, less))) in
    let both : sum (x ∷ v) ≡ x + sum v = sum_by-cons (λ (k : ℕ). k) x v in
    omega (arith, first, rest, both)

few_logged : (m : Machine) → IsReached m → length m.log ≤ m.size * 65535
few_logged m r =
    let c = counted m (built_of m r).built in
    let all : sum (counts m.size m.log) ≡ length m.log = sum_counts m.size m.log c.1 in
    let long : length (counts m.size m.log) ≡ m.size = length_counts m.size m.log in
    let few : sum (counts m.size m.log) ≤ length (counts m.size m.log) * 65535 =
    sum_below (counts m.size m.log)
    (λ k less. each c.1 k (subst (λ (n : ℕ). k < n) long less) (nat_eq (get_or (counts m.size m.log) k 0) 0) refl) in
    omega (arith, all, long, few)
  where
    each : IsInTurn m.size m.log → (k : ℕ) → k < m.size → (b : Bool) → nat_eq (get_or (counts m.size m.log) k 0) 0 ≡ b
        → get_or (counts m.size m.log) k 0 ≤ 65535
    each turn k less true e =
        let none : get_or (counts m.size m.log) k 0 ≡ 0 = eqb-true (get_or (counts m.size m.log) k 0) 0 e in
        omega (arith, none)
    each turn k less false e =
        let other = eqb-false (get_or (counts m.size m.log) k 0) 0 e in
        let same : suc k - 1 ≡ k = omega arith in
        let number : get_or (counts m.size m.log) (suc k - 1) 0 ≡ length (ops_of (suc k) m.log) =
        total m.size (suc k) m.log (omega arith) (omega (arith, less)) turn in
        let here : get_or (counts m.size m.log) k 0 ≡ length (ops_of (suc k) m.log) =
        ap (λ (j : ℕ). get_or (counts m.size m.log) j 0) (sym same) ∙ number in
        let f : Found (record { site = suc k; seq = get_or (counts m.size m.log) k 0 }) m.log =
        found m.size (suc k) (get_or (counts m.size m.log) k 0) m.log
        (positive (get_or (counts m.size m.log) k 0) other) turn
        (omega (arith, here)) in
        let low : f.op.dot.seq ≤ MAX_SEQ = (values_of m r f.op f.inside).dot.greatest in
        let is : f.op.dot.seq ≡ get_or (counts m.size m.log) k 0 = ap (λ (d : DotValue). d.seq) f.is in
        omega (arith, low, is)
      where
        positive : (j : ℕ) → (j ≡ 0 → ⊥) → 0 < j
        positive j a = omega (arith, a)

-- so many at most
pub few_from : (w : WorldValue) → IsWorld w → (s : ℕ) → 0 < s → s ≤ size w → length (machine_of w s).sent ≤ 4194240
few_from w i s some within =
    let r = reached_in w i s some within in
    let sent : length (machine_of w s).sent ≤ length (machine_of w s).log =
    fewer_sent (machine_of w s) (built_of (machine_of w s) r).built in
    let had : length (machine_of w s).log ≤ (machine_of w s).size * 65535 = few_logged (machine_of w s) r in
    let is : (machine_of w s).size ≡ length (family_of w) =
    ap (λ (m : Machine). m.size) (i.machines s some within)
    ∙ size_is (family_of w) i.consistent s some (low w i s within) in
    let few : length (family_of w) ≤ MAX_SITE = i.consistent.legal.few in
    omega (arith, sent, had, is, few)

-- ---- all that was sent

-- of the first n sites
sent_upto : ℕ → List Message → ℕ
sent_upto zero xs = 0
sent_upto (suc n) xs = length (filter (is_sent_by (suc n)) xs) + sent_upto n xs

none_more : (n : ℕ) (x : Message) (xs : List Message) → sent_upto n xs ≤ sent_upto n (x ∷ xs)
unfolding sent_upto
none_more zero x xs = omega arith
none_more (suc n) x xs = at (is_sent_by (suc n) x) (none_more n x xs)
  where
    at : (b : Bool) → sent_upto n xs ≤ sent_upto n (x ∷ xs)
        → length (filter (is_sent_by (suc n)) xs) + sent_upto n xs
        ≤ length (if b then x ∷ filter (is_sent_by (suc n)) xs else filter (is_sent_by (suc n)) xs) + sent_upto n
        (x ∷ xs)
    at true h = omega (arith, h)
    at false h = omega (arith, h)

one_counted : (n : ℕ) (x : Message) (xs : List Message) → 0 < sender x → sender x ≤ n
    → sent_upto n xs + 1 ≤ sent_upto n (x ∷ xs)
unfolding sent_upto
one_counted zero x xs some within = absurd (omega (arith, some, within))
one_counted (suc n) x xs some within =
    at (is_sent_by (suc n) x) refl (none_more n x xs) (λ (few : sender x ≤ n). one_counted n x xs some few)
  where
    at : (b : Bool) → is_sent_by (suc n) x ≡ b → sent_upto n xs ≤ sent_upto n (x ∷ xs)
        → (sender x ≤ n → sent_upto n xs + 1 ≤ sent_upto n (x ∷ xs))
        → length (filter (is_sent_by (suc n)) xs) + sent_upto n xs + 1
        ≤ length (if b then x ∷ filter (is_sent_by (suc n)) xs else filter (is_sent_by (suc n)) xs) + sent_upto n
        (x ∷ xs)
    at true e h rest = omega (arith, h)
    at false e h rest =
        let other = eqb-false (sender x) (suc n) e in
        let more : sent_upto n xs + 1 ≤ sent_upto n (x ∷ xs) = rest (omega (arith, within, other)) in
        omega (arith, more)

all_counted : (n : ℕ) (xs : List Message) → ((x : Message) → In x xs → (0 < sender x) × (sender x ≤ n))
    → length xs ≤ sent_upto n xs
all_counted n [] h = omega arith
all_counted n (x ∷ xs) h =
    let p = h x (inl refl) in
    let rest : length xs ≤ sent_upto n xs = all_counted n xs (λ y j. h y (inr j)) in
    let one : sent_upto n xs + 1 ≤ sent_upto n (x ∷ xs) = one_counted n x xs p.0 p.1 in
    omega (arith, rest, one)

few_upto : (n : ℕ) (xs : List Message)
    → ((s : ℕ) → 0 < s → s ≤ n → length (filter (is_sent_by s) xs) ≤ 4194240) → sent_upto n xs ≤ n * 4194240
unfolding sent_upto
few_upto zero xs h = omega arith
few_upto (suc n) xs h =
    let here : length (filter (is_sent_by (suc n)) xs) ≤ 4194240 = h (suc n) (omega arith) (omega arith) in
    let rest : sent_upto n xs ≤ n * 4194240 = few_upto n xs (λ s up within. h s up (omega (arith, within))) in
    omega (arith, here, rest)

pub few_sent : (w : WorldValue) → IsWorld w → length w.sent ≤ 268431360
few_sent w i =
    let all : length w.sent ≤ sent_upto (size w) w.sent = all_counted (size w) w.sent i.senders in
    let few : sent_upto (size w) w.sent ≤ size w * 4194240 =
    few_upto (size w) w.sent
    (λ s up within.
    subst (λ (l : List Message). length l ≤ 4194240) (sym (i.sent s up within)) (few_from w i s up within)) in
    let sites : length (family_of w) ≤ MAX_SITE = i.consistent.legal.few in
    let same : length (family_of w) ≡ size w = size_family w in
    omega (arith, all, few, sites, same)
