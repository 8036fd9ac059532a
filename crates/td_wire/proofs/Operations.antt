-- Dependencies, bodies and operations at the front of the bytes.
use Rattle.std.proofs.Common.{◌≡◌, ℕ, zero, suc, ◌+◌, ◌-◌, ◌<◌, ◌≤◌, eqb, List, [], ◌∷◌, ◌++◌, length, get_or}
use Rattle.std.proofs.Common.{Ok, inl, inr, refl, sym, ap, subst, ◌∙◌, append_assoc, arith}
use Rattle.std.specs.List.{flat_map, AllByRecursion}
use Rattle.std.proofs.lemmas.Bool.{eq-eqb, ne_eqb, cond-true, cond-false, cases_eq}
use Rattle.std.proofs.lemmas.List.Concat.{flat_map-cons}
use Rattle.td_base.specs.Value.{DotValue, AtomIdValue}
use Rattle.td_path.specs.declared.slot.Slot.{Slot}
use Rattle.td_path.specs.declared.slot.Slot.TheVariants.{Root}
use Rattle.td_op.specs.declared.body.Body.{Body}
use Rattle.td_op.specs.declared.body.Body.TheVariants.{Insert, Delete, Propose, Commit, Abort}
use Rattle.td_op.specs.Op.{OpValue}
use Rattle.td_wire.specs.declared.format.Format.{Format}
use Rattle.td_wire.specs.declared.format.Format.TheVariants.{One, Two}
use Rattle.td_wire.specs.Spelling.{number_bytes as number, dot_bytes as dot}
use Rattle.td_wire.specs.Spelling.{identity_bytes as identity, slot_bytes as slot, run_bytes as run}
use Rattle.td_wire.specs.Spelling.{deps_bytes as deps, kind, body_bytes as body, op_bytes as op}
use Rattle.td_wire.specs.Reading.{Read, ◌>>=◌, byte_at, number_at, dot_at, identity_at, slot_at, run_at}
use Rattle.td_wire.specs.Reading.{dep_least, dep_most, deps_at, insert_at, body_at, max_site, op_at}
use Rattle.td_wire.proofs.Exact.{Reads, Field, renamed, made, chain, nothing}
use Rattle.td_wire.proofs.Bytes.{InRange, one_byte, byte_reads, number_reads}
use Rattle.td_wire.proofs.Fields.{DotIn, dot_reads, IdentityIn, identity_reads, SlotIn, slot_reads}
use Rattle.td_wire.proofs.Runs.{head_of, tail_of, RunIn, run_reads}

-- ---- dependencies

abbrev DepsFrom : DotValue → ℕ → ℕ → List ℕ → Type 0
DepsFrom own site zero ds = [] ≡ ds
DepsFrom own site (suc n) ds = InRange (dep_least own site) (dep_most own site) (head_of ds)
    × (DepsFrom own (suc site) n (tail_of ds) × (head_of ds ∷ tail_of ds ≡ ds))

dep_own : (own : DotValue) (site : ℕ) → own.site ≡ site → (dep_least own site ≡ own.seq - 1)
    × (dep_most own site ≡ own.seq - 1)
dep_own own site e = (
  cond-true (eqb own.site site) _ _ (eq-eqb own.site site e),
  cond-true (eqb own.site site) _ _
      (eq-eqb own.site site e),
)

dep_other : (own : DotValue) (site : ℕ) → (own.site ≡ site → ⊥) → (dep_least own site ≡ 0) × (dep_most own site ≡ 65535)
dep_other own site d = (
  cond-false (eqb own.site site) _ _ (ne_eqb own.site site d),
  cond-false (eqb own.site site) _
      _ (ne_eqb own.site site d),
)

dep_some : (own : DotValue) (site : ℕ) → dep_least own site ≤ dep_most own site
dep_some own site = elim (cases_eq own.site site) [
  | inl e ↦ let d = dep_own own site e in omega (arith, d.0, d.1)
  | inr e ↦ let d = dep_other own site e in omega (arith, d.0, d.1)
]

dep_short : (own : DotValue) (site : ℕ) → own.seq ≤ 65535 → dep_most own site ≤ 65535
dep_short own site h = elim (cases_eq own.site site) [
  | inl e ↦ let d = dep_own own site e in omega (arith, d.1)
  | inr e ↦ let d = dep_other own site e in omega (arith, d.1)
]

deps_reads : (own : DotValue) (site n : ℕ) → own.seq ≤ 65535
    → Reads (Field (DepsFrom own site n) (flat_map number)) (deps_at own site n)
unfolding deps_at
deps_reads own site zero h = renamed (λ ds. [] ≡ ds) (DepsFrom own site zero) (λ _. []) (flat_map number) _
    (λ ds e. e) (λ ds e. e) (λ ds e. ap (flat_map number) e) (nothing [])
deps_reads own site (suc n) h = renamed _ (DepsFrom own site (suc n)) _ (flat_map number) _ (λ ds c. c) (λ ds c. c)
    (λ ds c. sym (flat_map-cons number (head_of ds) (tail_of ds)) ∙ ap (flat_map number) c.1.1)
    (chain (InRange (dep_least own site) (dep_most own site)) number
    (λ d ds. DepsFrom own (suc site) n (tail_of ds) × (d ∷ tail_of ds ≡ ds))
    (λ d ds. flat_map number (tail_of ds)) head_of
    (number_at (dep_least own site) (dep_most own site)) _
    (λ d ds z c. ap head_of (sym c.1)) (number_reads (dep_least own site) (dep_most own site) (dep_some own site)
    (dep_short own site h)) (λ d z.
    made (DepsFrom own (suc site) n) (flat_map number) (λ ds. d ∷ ds) tail_of (deps_at own (suc site) n) (λ ds. refl)
    (deps_reads own (suc site) n h)))

-- so many numbers of at most 65535, of which that of the dot's site is the one before the dot's
pub record Deps (own : DotValue) (site n : ℕ) (ds : List ℕ) : Type 0 where
  pub count : length ds ≡ n
  pub small : AllByRecursion (λ d. d ≤ 65535) ds
  pub before : (i : ℕ) → i < n → own.site ≡ site + i → get_or ds i 0 ≡ own.seq - 1

to_deps : (own : DotValue) (site n : ℕ) (ds : List ℕ) → own.seq ≤ 65535 → DepsFrom own site n ds → Deps own site n ds
to_deps own site zero ds h e = subst (Deps own site zero) e
    (record { count = refl; small = tt; before = λ i lt _. absurd (omega (arith, lt)) })
to_deps own site (suc n) [] h c = absurd (differ c.1.1) where
  differ : ◌≡◌ {A = List ℕ} (0 ∷ []) [] → ⊥
  differ e = cc
to_deps own site (suc n) (d ∷ ds) h c =
    let rest = to_deps own (suc site) n ds h c.1.0 in
    let short = dep_short own site h in
    record {
      count = ap suc rest.count;
      small = (omega (arith, c.0.most, short), rest.small);
      before = at rest;
    } where
      at : Deps own (suc site) n ds → (i : ℕ) → i < suc n → own.site ≡ site + i → get_or (d ∷ ds) i 0 ≡ own.seq - 1
      at rest zero lt e = let own_is = dep_own own site (omega (arith, e)) in
          omega (arith, c.0.least, c.0.most, own_is.0, own_is.1)
      at rest (suc i) lt e = rest.before i (omega (arith, lt)) (omega (arith, e))

from_deps : (own : DotValue) (site n : ℕ) (ds : List ℕ) → Deps own site n ds → DepsFrom own site n ds
from_deps own site zero [] c = refl
from_deps own site zero (d ∷ ds) c = absurd (omega (arith, c.count))
from_deps own site (suc n) [] c = absurd (omega (arith, c.count))
from_deps own site (suc n) (d ∷ ds) c = (
  elim (cases_eq own.site site) [
    | inl e ↦
        let own_is = dep_own own site e in
        let here : d ≡ own.seq - 1 = c.before 0 (omega arith) (omega (arith, e)) in
        record { least = omega (arith, own_is.0, here); most = omega (arith, own_is.1, here) }
    | inr e ↦
        let other = dep_other own site e in
        let small = c.small.0 in
        record { least = omega (arith, other.0); most = omega (arith, other.1, small) }
  ],
  (
    from_deps own (suc site) n ds (record {
      count = omega (arith, c.count);
      small = c.small.1;
      before = λ i lt e. c.before (suc i) (omega (arith, lt)) (omega (arith, e));
    }),
    refl,
  ),
)

-- ---- bodies

abbrev pub BodyIn : Format → ℕ → Body → Type 0
BodyIn f n (Insert s atoms) = SlotIn f n s × RunIn f atoms
BodyIn f n (Delete target) = IdentityIn f n target
BodyIn f n (Propose s) = SlotIn f n s
BodyIn f n (Commit proposal) = DotIn n proposal
BodyIn f n (Abort proposal) = DotIn n proposal

-- a body of a kind
abbrev pub BodyOf : Format → ℕ → ℕ → Body → Type 0
BodyOf f n k b = (kind b ≡ k) × BodyIn f n b

abbrev some_dot : DotValue
some_dot = record { site = 0; seq = 0 }

abbrev slot_of : Body → Slot
slot_of (Insert s atoms) = s
slot_of (Delete target) = Root
slot_of (Propose s) = s
slot_of (Commit proposal) = Root
slot_of (Abort proposal) = Root

abbrev run_of : Body → List (List ℕ)
run_of (Insert s atoms) = atoms
run_of (Delete target) = []
run_of (Propose s) = []
run_of (Commit proposal) = []
run_of (Abort proposal) = []

abbrev target_of : Body → AtomIdValue
target_of (Insert s atoms) = record { dot = some_dot; offset = 0 }
target_of (Delete target) = target
target_of (Propose s) = record { dot = some_dot; offset = 0 }
target_of (Commit proposal) = record { dot = some_dot; offset = 0 }
target_of (Abort proposal) = record { dot = some_dot; offset = 0 }

abbrev proposal_of : Body → DotValue
proposal_of (Insert s atoms) = some_dot
proposal_of (Delete target) = some_dot
proposal_of (Propose s) = some_dot
proposal_of (Commit proposal) = proposal
proposal_of (Abort proposal) = proposal

from_insert : (f : Format) (n : ℕ) (b : Body) → BodyOf f n 1 b → SlotIn f n (slot_of b)
    × (RunIn f (run_of b) × (Insert (slot_of b) (run_of b) ≡ b))
from_insert f n (Insert s atoms) h = (h.1.0, (h.1.1, refl))
from_insert f n (Delete target) h = absurd (omega (arith, h.0))
from_insert f n (Propose s) h = absurd (omega (arith, h.0))
from_insert f n (Commit proposal) h = absurd (omega (arith, h.0))
from_insert f n (Abort proposal) h = absurd (omega (arith, h.0))

from_delete : (f : Format) (n : ℕ) (b : Body) → BodyOf f n 2 b → IdentityIn f n (target_of b)
    × (Delete (target_of b) ≡ b)
from_delete f n (Insert s atoms) h = absurd (omega (arith, h.0))
from_delete f n (Delete target) h = (h.1, refl)
from_delete f n (Propose s) h = absurd (omega (arith, h.0))
from_delete f n (Commit proposal) h = absurd (omega (arith, h.0))
from_delete f n (Abort proposal) h = absurd (omega (arith, h.0))

from_propose : (f : Format) (n : ℕ) (b : Body) → BodyOf f n 3 b → SlotIn f n (slot_of b) × (Propose (slot_of b) ≡ b)
from_propose f n (Insert s atoms) h = absurd (omega (arith, h.0))
from_propose f n (Delete target) h = absurd (omega (arith, h.0))
from_propose f n (Propose s) h = (h.1, refl)
from_propose f n (Commit proposal) h = absurd (omega (arith, h.0))
from_propose f n (Abort proposal) h = absurd (omega (arith, h.0))

from_commit : (f : Format) (n : ℕ) (b : Body) → BodyOf f n 4 b → DotIn n (proposal_of b) × (Commit (proposal_of b) ≡ b)
from_commit f n (Insert s atoms) h = absurd (omega (arith, h.0))
from_commit f n (Delete target) h = absurd (omega (arith, h.0))
from_commit f n (Propose s) h = absurd (omega (arith, h.0))
from_commit f n (Commit proposal) h = (h.1, refl)
from_commit f n (Abort proposal) h = absurd (omega (arith, h.0))

from_abort : (f : Format) (n : ℕ) (b : Body) → BodyOf f n 5 b → DotIn n (proposal_of b) × (Abort (proposal_of b) ≡ b)
from_abort f n (Insert s atoms) h = absurd (omega (arith, h.0))
from_abort f n (Delete target) h = absurd (omega (arith, h.0))
from_abort f n (Propose s) h = absurd (omega (arith, h.0))
from_abort f n (Commit proposal) h = absurd (omega (arith, h.0))
from_abort f n (Abort proposal) h = (h.1, refl)

insert_reads : (f : Format) (n : ℕ) → 1 ≤ n → Reads (Field (BodyOf f n 1) (body f)) (insert_at f n)
unfolding insert_at
insert_reads f n some = renamed _ (BodyOf f n 1) _ (body f) (insert_at f n)
    (λ b h. subst (BodyOf f n 1) h.1.1 (refl, (h.0, h.1.0))) (from_insert f n)
    (λ b h. ap (body f) (from_insert f n b h).1.1)
    (chain (SlotIn f n) (slot f) (λ s b. RunIn f (run_of b) × (Insert s (run_of b) ≡ b)) (λ s b. run f (run_of b))
    slot_of (slot_at f n) _
    (λ s b z h. ap slot_of (sym h.1)) (slot_reads f n some) (λ s z.
    made (RunIn f) (run f) (Insert s) run_of (run_at f) (λ atoms. refl) (run_reads f)))

-- a body with one part
one_part : {A : Type 0} (f : Format) (n k : ℕ) (P : A → Type 0) (s : A → List ℕ) (con : A → Body) (part : Body → A)
    (r : List ℕ → Read A) → ((a : A) → part (con a) ≡ a)
    → ((a : A) → P a → BodyOf f n k (con a)) → ((b : Body) → BodyOf f n k b → P (part b) × (con (part b) ≡ b))
    → ((a : A) → s a ≡ body f (con a))
    → Reads (Field P s) r → Reads (Field (BodyOf f n k) (body f)) (λ xs. r xs >>= λ x. Ok (con x.0, x.1))
one_part f n k P s con part r back to from spelled reads =
    renamed (λ b. P (part b) × (con (part b) ≡ b)) (BodyOf f n k) (λ b. s (part b)) (body f) _
    (λ b h. subst (BodyOf f n k) h.1 (to (part b) h.0)) from (λ b h. spelled (part b) ∙ ap (body f) (from b h).1)
    (made P s con part r back reads)

pub body_reads : (f : Format) (k n : ℕ) → 1 ≤ n → InRange 1 5 k → Reads (Field (BodyOf f n k) (body f)) (body_at f k n)
unfolding body_at
body_reads f zero n some r = absurd (omega (arith, r.least))
body_reads f (suc zero) n some r = insert_reads f n some
body_reads f (suc (suc zero)) n some r =
    one_part f n 2 (IdentityIn f n) (identity f) Delete target_of (identity_at f n) (λ a. refl) (λ a h. (refl, h))
    (from_delete f n) (λ a. refl) (identity_reads f n some)
body_reads f (suc (suc (suc zero))) n some r =
    one_part f n 3 (SlotIn f n) (slot f) Propose slot_of (slot_at f n) (λ a. refl) (λ a h. (refl, h))
    (from_propose f n) (λ a. refl) (slot_reads f n some)
body_reads f (suc (suc (suc (suc zero)))) n some r =
    one_part f n 4 (DotIn n) dot Commit proposal_of (dot_at n) (λ a. refl) (λ a h. (refl, h)) (from_commit f n)
    (λ a. refl) (dot_reads n some)
body_reads f (suc (suc (suc (suc (suc zero))))) n some r =
    one_part f n 5 (DotIn n) dot Abort proposal_of (dot_at n) (λ a. refl) (λ a h. (refl, h)) (from_abort f n)
    (λ a. refl) (dot_reads n some)
body_reads f (suc (suc (suc (suc (suc (suc k)))))) n some r = absurd (omega (arith, r.most))

-- ---- operations

-- an operation whose body has the kind, as a format has it
pub record OpOf (f : Format) (k : ℕ) (o : OpValue) : Type 0 where
  pub own : DotIn (max_site f) o.dot
  pub size : InRange o.dot.site (max_site f) (length o.deps)
  pub before : Deps o.dot 1 (length o.deps) o.deps
  pub what : BodyOf f (length o.deps) k o.body

abbrev with_body : DotValue → List ℕ → Body → OpValue
with_body own ds b = record { dot = own; deps = ds; body = b }

pub some_sites : (f : Format) → 1 ≤ max_site f
some_sites One = omega arith
some_sites Two = omega arith

abbrev Parts : Format → ℕ → OpValue → Type 0
Parts f k o = DotIn (max_site f) o.dot × (InRange o.dot.site (max_site f) (length o.deps)
    × (DepsFrom o.dot 1 (length o.deps) o.deps × (BodyOf f (length o.deps) k o.body
    × (with_body o.dot o.deps o.body ≡ o))))

pub op_reads : (f : Format) (k : ℕ) → InRange 1 5 k → Reads (Field (OpOf f k) (op f)) (op_at f k)
unfolding op_at
op_reads f k r = renamed (Parts f k) (OpOf f k) _ (op f) (op_at f k)
    (λ o h. record {
      own = h.0;
      size = h.1.0;
      before = to_deps o.dot 1 (length o.deps) o.deps h.0.seq.most h.1.1.0;
      what = h.1.1.1.0;
    })
    (λ o h. (h.own, (h.size, (from_deps o.dot 1 (length o.deps) o.deps h.before, (h.what, refl)))))
    (λ o h. sym (append_assoc (dot o.dot) (deps o.deps) (body f o.body)))
    (chain (DotIn (max_site f)) dot (λ own o. InRange own.site (max_site f) (length o.deps)
    × (DepsFrom own 1 (length o.deps) o.deps × (BodyOf f (length o.deps) k o.body × (with_body own o.deps o.body ≡ o))))
    (λ own o. (length o.deps ∷ []) ++ (flat_map number o.deps ++ body f o.body)) (λ o. o.dot) (dot_at (max_site f)) _
    (λ own o z h. ap (λ (x : OpValue). x.dot) (sym h.1.1.1)) (dot_reads (max_site f) (some_sites f)) (λ own z.
    chain (InRange own.site (max_site f)) one_byte
    (λ n o. DepsFrom own 1 n o.deps × (BodyOf f n k o.body × (with_body own o.deps o.body ≡ o)))
    (λ n o. flat_map number o.deps ++ body f o.body) (λ o. length o.deps) (byte_at own.site (max_site f)) _
    (λ n o y h. (to_deps own 1 n o.deps z.seq.most h.0).count) (byte_reads own.site (max_site f) z.site.most) (λ n y.
    chain (DepsFrom own 1 n) (flat_map number) (λ ds o. BodyOf f n k o.body × (with_body own ds o.body ≡ o))
    (λ ds o. body f o.body) (λ o. o.deps) (deps_at own 1 n) _
    (λ ds o x h. ap (λ (v : OpValue). v.deps) (sym h.1)) (deps_reads own 1 n z.seq.most) (λ ds x.
    made (BodyOf f n k) (body f) (with_body own ds) (λ o. o.body) (body_at f k n) (λ b. refl)
    (body_reads f k n (omega (arith, z.site.least, y.least)) r)))))
