-- Deeds, one after the other, and all together.
use Rattle.std.proofs.Common.{◌≡◌, ℕ, zero, suc, ◌+◌, ◌<◌, List, [], ◌∷◌, ◌++◌, length, take, map}
use Rattle.std.proofs.Common.{fold, refl, ap, sym, ◌∙◌, arith, slice_index_or, add-one}
use Rattle.td_op.specs.declared.change.Change.{Change}
use Rattle.td_op.specs.Change.{changed}
use Rattle.td_view.specs.declared.deed.Deed.{Deed}
use Rattle.td_view.specs.declared.deed.Deed.TheVariants.{Alter, Stamp}
use Rattle.td_view.specs.Publishes.{changed_all}
use Rattle.td_view.specs.Deeds.{Publishes, State, done_by, deeds}

next_suc : (cs : List Change) (at : ℕ) (d : Change) (tail : List Deed) → at < length cs
    → take at (map Alter cs ++ tail) ++ Alter (slice_index_or cs at d) ∷ [] ≡ take (suc at) (map Alter cs ++ tail)
next_suc [] at d tail h = absurd (omega (arith, h))
next_suc (c ∷ cs) zero d tail h = refl
next_suc (c ∷ cs) (suc at) d tail h = ap (λ (l : List Deed). Alter c ∷ l) (next_suc cs at d tail (omega (arith, h)))

pub next_deed : (cs : List Change) (at : ℕ) (d : Change) (upto last count : ℕ) (past : Publishes) → at < length cs
    → take at (deeds cs upto last count past) ++ Alter (slice_index_or cs at d) ∷ []
    ≡ take (at + 1) (deeds cs upto last count past)
next_deed cs at d upto last count past h =
    next_suc cs at d (Stamp upto last count past ∷ []) h
    ∙ ap (λ n. take n (deeds cs upto last count past)) (sym (add-one at))

-- what all deeds of a publish make of a text
altered : (s : State) (cs : List Change) (tail : List Deed)
    → fold done_by s (map Alter cs ++ tail) ≡ fold done_by (s.0, s.1, s.2, changed_all cs s.3, s.4) tail
altered s [] tail = refl
altered s (c ∷ cs) tail = altered (s.0, s.1, s.2, changed c s.3, s.4) cs tail

-- a state that comes of all deeds of a publish
pub all_done : (t s : State) (pending : List Deed) (cs : List Change) (upto last count : ℕ) (past : Publishes) → t
    ≡ fold done_by s pending
    → pending ≡ deeds cs upto last count past → t ≡ (upto, last, count, changed_all cs s.3, past)
all_done t s pending cs upto last count past comes is =
    comes ∙ (ap (λ (ds : List Deed). fold done_by s ds) is ∙ altered s cs (Stamp upto last count past ∷ []))

-- and a state that comes of none
pub none_done : (t s : State) (pending : List Deed) → t ≡ fold done_by s pending → pending ≡ [] → t ≡ s
none_done t s pending comes is = comes ∙ ap (λ (ds : List Deed). fold done_by s ds) is
