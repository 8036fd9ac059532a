-- What is known of the logs of one family, the last operation of a log first. Op, Id and Path stand for operations,
-- identities of atoms and paths of rows.
use Rattle.std.specs.Prelude.{◌≡◌, ◌⊎◌, ◌<◌, ◌≤◌, ℕ, List, ◌∷◌, length, Bool, true, false, Option, Some, None}
use Rattle.td_base.specs.Lists.{In}

-- the words of a family
pub record Words (Op Id Path : Type 0) : Type 1 where
  -- an operation of the family
  pub Is : Op → Type 0
  -- the log of a site at some moment
  pub IsLog : List Op → Type 0
  -- where the atom's row stands after these operations, if it is a row
  pub at : List Op → Id → Option Path
  -- the atom is of this insert
  pub born : Op → Id → Bool
  -- the operation is a commit, and its slot has the rows with this path
  pub holds : Op → Path → Bool
  -- the log in which an edit was made; of a commit, the log in which its proposal was made
  pub base : Op → List Op
  -- an insert that names an atom, or a delete
  pub edits : Op → Bool
  -- the operation is a delete of the atom
  pub kills : Op → Id → Bool
  -- the atom that an edit, or the slot of a commit, names
  pub focus : Op → Id
  pub depth : Path → ℕ
  -- where the insert of an atom put it, and where a commit put it
  pub birth : Id → Option Path
  pub after : Op → Id → Option Path
  -- the slots of two commits overlap after these operations
  pub Overlap : List Op → Op → Op → Type 0

module _ {Op Id Path : Type 0} (w : Words Op Id Path) where
  abbrev pub holds_some : Op → Option Path → Bool
  holds_some o None = false
  holds_some o (Some path) = w.holds o path

  -- the commit renames the atom: it is in the slot where the commit was proposed
  abbrev pub renames : Op → Id → Bool
  renames o x = holds_some o (w.at (w.base o) x)

  abbrev pub IsBorn : List Op → Id → Type 0
  IsBorn log x = (o : Op) × In o log × (w.born o x ≡ true)

  -- how two slots with one row in both lie: they are one; or the atom of the one is in the other
  pub data Nested (c e : Op) (x : Id) (path : Path) : Type 0 where
    one_slot : ((log : List Op) → w.IsLog log → w.Overlap log e c) → Nested c e x path
    atom_within : (p : Path)
        → ((log : List Op) → w.IsLog log → w.at log x ≡ Some path → w.at log (w.focus c) ≡ Some p)
        → w.holds e p ≡ true → Nested c e x path
    within_atom : (z : Id) (p : Path) → ((log : List Op) → w.IsLog log → w.at log x ≡ Some path → w.at log z ≡ Some p)
        → w.holds c p ≡ true → w.depth p < w.depth path
        → ((log : List Op) (q : Path) → w.IsLog log → w.at log z ≡ Some q → w.holds c q ≡ true → w.Overlap log e c)
        → Nested c e x path

  pub record Agrees (o : Op) (log : List Op) : Type 0 where
    pub focus : w.edits o ≡ true → w.at log (w.focus o) ≡ w.at (w.base o) (w.focus o)
    pub here : (x : Id) (path : Path) → w.holds o path ≡ true → w.at log x ≡ Some path → w.at (w.base o) x ≡ Some path
    pub there : (x : Id) (path : Path) → w.holds o path ≡ true → w.at (w.base o) x ≡ Some path
        → w.at log x ≡ Some path
    pub killed : (x : Id) (path : Path) → w.holds o path ≡ true → w.at (w.base o) x ≡ Some path → (d : Op) → In d log
        → w.kills d x ≡ true → In d (w.base o)

  -- the operation is the next one of the log, or the commit of a proposal that the log's site holds there
  pub record Pending (o : Op) (log : List Op) : Type 0 where
    pub of : w.Is o
    pub is : w.IsLog log
    pub once : In o log → ⊥
    pub base_log : w.IsLog (w.base o)
    pub base_in : (e : Op) → In e (w.base o) → In e log
    pub base_few : length (w.base o) ≤ length log
    pub focus_born : w.edits o ≡ true → IsBorn (w.base o) (w.focus o)
    pub held_row : (path slot_path : Path) → w.holds o slot_path ≡ true → w.at (w.base o) (w.focus o) ≡ Some path
        → (p : Path) × (w.at log (w.focus o) ≡ Some p)
    -- at one site, a commit is proposed after every commit that overlaps it
    pub in_turn : (e : Op) → In e log → w.Overlap log e o → In e (w.base o)

  pub record Family : Type 0 where
    pub tail : (o : Op) (log : List Op) → w.IsLog (o ∷ log) → w.IsLog log
    pub ready : (o : Op) (log : List Op) → w.IsLog (o ∷ log) → Pending o log
    pub member : (o : Op) (log : List Op) → w.IsLog log → In o log → w.Is o
    pub base_member : (o e : Op) → In o (w.base e) → w.Is o
    pub known : (e : Op) (log : List Op) → w.Is e → w.IsLog log → In e log ⊎ (In e log → ⊥)
    -- pasts
    pub base_not : (o : Op) → In o (w.base o) → ⊥
    pub base_one_way : (o e : Op) → In o (w.base e) → In e (w.base o) → ⊥
    pub base_onward : (o e c : Op) → In o (w.base e) → In e (w.base c) → In o (w.base c)
    -- one step of a document
    pub born_at : (o : Op) (log : List Op) (x : Id) → w.IsLog (o ∷ log) → w.born o x ≡ true
        → (w.edits o ≡ true → w.at log (w.focus o) ≡ w.at (w.base o) (w.focus o)) → w.at (o ∷ log) x ≡ w.birth x
    pub stays : (o : Op) (log : List Op) (x : Id) → w.IsLog (o ∷ log) → w.born o x ≡ false
        → ((path : Path) → w.at log x ≡ Some path → w.holds o path ≡ false) → w.at (o ∷ log) x ≡ w.at log x
    pub renamed : (o : Op) (log : List Op) (x : Id) → w.IsLog (o ∷ log) → Agrees o log → renames o x ≡ true
        → w.at (o ∷ log) x ≡ w.after o x
    pub after_within : (o : Op) (x : Id) (path : Path) → w.Is o → w.after o x ≡ Some path → w.holds o path ≡ true
    -- who is a row
    pub row_born : (log : List Op) (x : Id) (path : Path) → w.IsLog log → w.at log x ≡ Some path → IsBorn log x
    pub born_once : (o e : Op) (x : Id) → w.Is o → w.Is e → w.born o x ≡ true → w.born e x ≡ true → o ≡ e
    pub renames_born : (o : Op) (log : List Op) (x : Id) → w.IsLog (o ∷ log) → renames o x ≡ true
        → IsBorn (w.base o) x
    -- slots
    pub nested : (c e : Op) (x : Id) (path : Path) → w.holds c path ≡ true → w.holds e path ≡ true → Nested c e x path
    pub both_hold : (c e : Op) (log : List Op) (x : Id) (path : Path) → w.IsLog log → w.at log x ≡ Some path
        → w.holds e path ≡ true → w.holds c path ≡ true → w.Overlap log e c
    pub holds_focus : (c e : Op) (log : List Op) (path other : Path) → w.IsLog log → w.holds c other ≡ true
        → w.at log (w.focus c) ≡ Some path → w.holds e path ≡ true → w.Overlap log e c
    -- no edit is concurrent with a commit of a slot that it touches where it is made
    pub touches : (e c : Op) (path : Path) → w.Is e → w.Is c → w.edits e ≡ true
        → w.at (w.base e) (w.focus e) ≡ Some path → w.holds c path ≡ true → In e (w.base c) ⊎ In c (w.base e)
    pub kills_edit : (d : Op) (x : Id) → w.kills d x ≡ true → (w.edits d ≡ true) × (w.focus d ≡ x)
    pub touches_born : (e c : Op) (x : Id) (path : Path) → w.Is e → w.Is c → w.born e x ≡ true → w.birth x ≡ Some path
        → w.holds c path ≡ true → In e (w.base c) ⊎ In c (w.base e)

  -- of two commits of one family: one has the other in its base, or some site voted Yes on the later one where it had
  -- taken the other or held its proposal, and the two slots did not overlap there
  pub record MetAt (first later : Op) : Type 0 where
    pub log : List Op
    pub pending : Pending later log
    pub apart : w.Overlap log first later → ⊥
    pub had : In first log ⊎ Pending first log

  pub data Met (c d : Op) : Type 0 where
    one : c ≡ d → Met c d
    earlier : In c (w.base d) → Met c d
    behind : In d (w.base c) → Met c d
    met : MetAt c d → Met c d
    met_back : MetAt d c → Met c d

  -- the slots that inserts write
  pub record Slots : Type 1 where
    -- the own slot of a row with this path is the one that the insert wrote
    pub top : Op → Path → Bool
    pub SameSlot : Op → Op → Type 0
    pub votes : (c d : Op) (x : Id) → w.Is c → w.Is d → renames c x ≡ true → renames d x ≡ true → Met c d
    pub same_itself : (a : Op) (path : Path) → top a path ≡ true → SameSlot a a
    pub same_rows : (a c : Op) (path : Path) → SameSlot c a → top c path ≡ top a path
    pub same_focus : (c d : Op) → SameSlot c d → w.edits c ≡ true → (w.edits d ≡ true) × (w.focus d ≡ w.focus c)
    -- the slot in which an insert is made contains no row
    pub free : (a : Op) → w.IsLog (a ∷ w.base a) → (x : Id) (path : Path) → w.at (w.base a) x ≡ Some path
        → top a path ≡ true → ⊥
    -- its middle atom goes right into it
    pub middle : (a c : Op) → w.Is c → SameSlot c a
        → (x : Id) × (w.born c x ≡ true) × (path : Path) × (w.birth x ≡ Some path) × (top c path ≡ true)
    -- a commit that holds a row right in the slot has the slot, or holds the atom that the slot names
    pub nest : (a e : Op) (x : Id) (path : Path) → w.Is e → top a path ≡ true → w.holds e path ≡ true
        → ((d : Op) → w.Is d → SameSlot a d → In d (w.base e) ⊎ In e (w.base d))
        ⊎ ((p : Path) × (w.edits a ≡ true)
        × ((log : List Op) → w.IsLog log → w.at log x ≡ Some path → w.at log (w.focus a) ≡ Some p)
        × (w.holds e p ≡ true))

  -- middle atoms
  pub record Tops (t : Slots) : Type 1 where
    pub Middle : Op → Id → Type 0
    -- an atom that its insert put right into the slot of a: it is the middle one and the inserts have one slot, or a's
    -- slot is at an atom of its insert
    pub birth_tops : (a c : Op) (x : Id) (path : Path) → w.Is c → w.born c x ≡ true → w.birth x ≡ Some path
        → t.top a path ≡ true
        → (t.SameSlot c a × Middle c x) ⊎ ((w.edits a ≡ true) × (w.born c (w.focus a) ≡ true))
    pub middle_tops : (a c : Op) (x : Id) → w.Is c → t.SameSlot c a → Middle c x
        → (path : Path) × (w.birth x ≡ Some path) × (t.top a path ≡ true)
