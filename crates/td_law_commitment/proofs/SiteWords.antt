-- What is known of one site's log, the last operation first, of its votes and of its holds.
use Rattle.std.specs.Prelude.{◌≡◌, ◌⊎◌, List, ◌∷◌, Bool, true, false, Option, Some}
use Rattle.td_base.specs.Lists.{In}
use Rattle.td_law_logs.proofs.Suffixes.{Suffix}

pub record SiteWords (Op Id Path : Type 0) : Type 1 where
  -- a log of the site
  pub IsLog : List Op → Type 0
  pub at : List Op → Id → Option Path
  pub born : Op → Id → Bool
  -- the operation is a commit, and its slot has the rows with this path
  pub holds : Op → Path → Bool
  pub SameSlot : Op → Op → Type 0
  pub IsCommit : Op → Type 0
  pub focus : Op → Id
  pub base : Op → List Op
  pub proposal : Op → Op
  -- the log in which the site voted on the commit's proposal, or made it
  pub vote : Op → List Op
  -- an edit that the site made, and an atom that it put in or deleted
  pub Edits : Op → Id → Type 0

module _ {Op Id Path : Type 0} (w : SiteWords Op Id Path) where
  pub data Overlap (log : List Op) (e c : Op) : Type 0 where
    one_slot : w.SameSlot e c → Overlap log e c
    in_first : (p : Path) → w.at log (w.focus c) ≡ Some p → w.holds e p ≡ true → Overlap log e c
    in_second : (p : Path) → w.at log (w.focus e) ≡ Some p → w.holds c p ≡ true → Overlap log e c

  -- the site holds the commit's proposal
  pub record Held (c : Op) (log : List Op) : Type 0 where
    pub commit : w.IsCommit c
    pub since : Suffix (w.proposal c ∷ w.vote c) log
    pub open_yet : In c log → ⊥

  pub record Site : Type 0 where
    pub tail : (o : Op) (log : List Op) → w.IsLog (o ∷ log) → w.IsLog log
    pub known : (e c : Op) (log : List Op) → w.IsLog (e ∷ log) → w.IsCommit c
        → In e (w.base c) ⊎ (In e (w.base c) → ⊥)
    pub onward : (o e c : Op) → In o (w.base e) → In e (w.base c) → In o (w.base c)
    -- documents
    pub stays : (o : Op) (log : List Op) (x : Id) (p : Path) → w.IsLog (o ∷ log) → w.at log x ≡ Some p
        → w.holds o p ≡ false → w.at (o ∷ log) x ≡ Some p
    pub was : (o : Op) (log : List Op) (x : Id) (p : Path) → w.IsLog (o ∷ log) → w.at (o ∷ log) x ≡ Some p
        → (w.born o x ≡ true)
        ⊎ ((q : Path) × (w.at log x ≡ Some q)
        × (((w.holds o q ≡ false) × (q ≡ p)) ⊎ ((w.holds o q ≡ true) × (w.holds o p ≡ true))))
    pub own : (c : Op) (log : List Op) (p : Path) → w.IsLog log → w.at log (w.focus c) ≡ Some p → w.holds c p ≡ true
        → ⊥
    pub nested : (c e : Op) (log : List Op) (x : Id) (p : Path) → w.IsLog log → w.at log x ≡ Some p
        → w.holds e p ≡ true → w.holds c p ≡ true → Overlap log e c
    pub committed : (o : Op) (log : List Op) (p : Path) → w.IsLog (o ∷ log) → w.holds o p ≡ true → w.IsCommit o
    pub no_commit : (c : Op) → w.IsCommit c → w.IsCommit (w.proposal c) → ⊥
    pub old_focus : (o e : Op) (log : List Op) → w.IsLog (o ∷ log) → In e log ⊎ Held e log
        → w.born o (w.focus e) ≡ true → ⊥
    pub bears_not : (c : Op) (x : Id) → w.IsCommit c → w.born c x ≡ true → ⊥
    pub bare : (c : Op) (x : Id) → w.IsCommit c → w.born (w.proposal c) x ≡ true → ⊥
    pub no_edit : (c : Op) (y : Id) → w.IsCommit c → w.Edits (w.proposal c) y → ⊥
    -- votes and holds
    pub held : (c : Op) (log : List Op) → w.IsCommit c → w.IsLog (c ∷ log) → Held c log
    pub holds_apart : (c d : Op) (log : List Op) → w.IsLog log → Held c log → Held d log → (c ≡ d → ⊥)
        → Overlap log c d → ⊥
    pub saw_commits : (c e : Op) → w.IsCommit c → w.IsLog (w.proposal c ∷ w.vote c) → In e (w.vote c) → w.IsCommit e
        → Overlap (w.vote c) e c → In e (w.base c)
    pub saw_rows : (c e : Op) (y : Id) (p : Path) → w.IsCommit c → w.IsLog (w.proposal c ∷ w.vote c) → In e (w.vote c)
        → w.Edits e y → w.at (w.vote c) y ≡ Some p → w.holds c p ≡ true → In e (w.base c)
    -- the atom of the slot voted on is a row then, so at each moment before, since its insert
    pub slot_row : (c o : Op) (log : List Op) → w.IsCommit c → w.IsLog (w.proposal c ∷ w.vote c)
        → Suffix (o ∷ log) (w.vote c) → (p : Path) → w.at log (w.focus c) ≡ Some p
        → (q : Path) × (w.at (o ∷ log) (w.focus c) ≡ Some q)
    -- an edit is refused where a hold has it
    pub refused : (e c : Op) (y : Id) (p : Path) (log : List Op) → w.Edits e y → w.IsLog (e ∷ log)
        → w.at (e ∷ log) y ≡ Some p → w.holds c p ≡ true → Held c log → ⊥
