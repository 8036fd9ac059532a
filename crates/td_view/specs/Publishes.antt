-- Publishes, and which lists of them may come.
use Rattle.std.specs.Prelude.{◌≡◌, ℕ, zero, suc, ◌+◌, ◌-◌, ◌<◌, ◌≤◌, ◌≢◌, List, [], ◌∷◌, length, take, drop}
use Rattle.std.proofs.Props.{props}
use Rattle.td_op.specs.declared.change.Change.{Change}
use Rattle.td_op.specs.Change.{changed}
use Rattle.td_view.specs.declared.publish.Publish.{Publish}

abbrev pub publish : ℕ → List (List ℕ) → ℕ → Publish
publish upto atoms last = record { upto = upto; atoms = atoms; last = last }

-- what is shown before anything is published
abbrev pub start : Publish
start = publish 0 [] 0

-- the same text, with another `last`
abbrev pub again : Publish → ℕ → Publish
again p last = publish p.upto p.atoms last

-- q may come right after p: upto does not fall; after a `last` above 1 comes the same with one less; after 1 nothing
pub record MayFollow (p q : Publish) : Type 0 where
  pub rises : p.upto ≤ q.upto
  pub goes_on : p.last ≢ 1
  pub counts : 1 < p.last → (q.upto ≡ p.upto) × (q.atoms ≡ p.atoms) × (q.last + 1 ≡ p.last)

-- each publish may come right after the one before it
abbrev pub IsLegalAfter : Publish → List Publish → Type 0
IsLegalAfter p [] = Unit {0}
IsLegalAfter p (q ∷ rest) = MayFollow p q × IsLegalAfter q rest

abbrev pub AreLegal : List Publish → Type 0
AreLegal [] = Unit {0}
AreLegal (p ∷ rest) = IsLegalAfter p rest

-- the list ends with this publish
abbrev pub EndsWith : List Publish → Publish → Type 0
EndsWith log p = drop (length log - 1) log ≡ p ∷ []

-- ys begins with xs
abbrev pub StartsWith : {X : Type 0} → List X → List X → Type 0
StartsWith ys xs = take (length xs) ys ≡ xs

-- the atoms after the changes, one after the other
abbrev pub changed_all : List Change → List (List ℕ) → List (List ℕ)
changed_all [] atoms = atoms
changed_all (change ∷ changes) atoms = changed_all changes (changed change atoms)

-- the publishes by which a writer ends: the same text, counted down to 1
abbrev pub countdown : Publish → ℕ → List Publish
countdown p zero = []
countdown p (suc m) = again p (suc m) ∷ countdown p m

-- the upto of the last publish
abbrev pub last_upto : List Publish → ℕ
last_upto [] = 0
last_upto (p ∷ []) = p.upto
last_upto (p ∷ q ∷ rest) = last_upto (q ∷ rest)

pub legal_after_prop : (p : Publish) (rest : List Publish) → IsProp (IsLegalAfter p rest)
legal_after_prop p [] = hlevel props
legal_after_prop p (q ∷ rest) = hlevel (props, legal_after_prop q rest)

pub legal_prop : (log : List Publish) → IsProp (AreLegal log)
legal_prop [] = hlevel props
legal_prop (p ∷ rest) = legal_after_prop p rest
