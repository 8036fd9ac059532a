-- What a world comes to.
use Rattle.std.specs.Prelude.{◌≡◌, ◌<◌, ◌≤◌, ℕ, false}
use Rattle.td_doc.specs.Document.{live_atoms, text_of}
use Rattle.td_machine.specs.Machine.{undecided}
use Rattle.td_order.specs.Show.{show, shown_atoms}
use Rattle.td_law_convergence.specs.Headline.{KeepsPromises}
use Rattle.td_world.specs.World.{WorldValue, size, machine_of, family_of}
use Rattle.td_replica.specs.Replica.{has_ready}

-- no site has an operation that waits and can be taken
abbrev pub NobodyReady : WorldValue → Type 0
NobodyReady w = (site : ℕ) → 0 < site → site ≤ size w → has_ready (machine_of w site) ≡ false

-- all sites have the same operations
abbrev pub SameVectors : WorldValue → Type 0
SameVectors w =
    (r s : ℕ) → 0 < r → r ≤ size w → 0 < s → s ≤ size w → (machine_of w r).have ≡ (machine_of w s).have

-- no proposal is undecided at its site
abbrev pub AllDecided : WorldValue → Type 0
AllDecided w = (site : ℕ) → 0 < site → site ≤ size w → undecided (machine_of w site) ≡ 0

-- at every moment up to now: each site shows the atoms inserted and not deleted by the operations that it has taken, in
-- one order that the insertions alone fix; no two sites decide a flatten differently; a commit changes no text, and no
-- edit of its slot is concurrent with it; and nothing that came was unfit
abbrev pub IsPromised : WorldValue → Type 0
IsPromised w = KeepsPromises (family_of w)

-- so now: the atoms of each site are those that its operations show
abbrev pub AtomsAreShown : WorldValue → Type 0
AtomsAreShown w =
    (site : ℕ) → 0 < site → site ≤ size w → live_atoms (machine_of w site).doc ≡ shown_atoms (machine_of w site).log

-- and so is its text
abbrev pub TextsAreShown : WorldValue → Type 0
TextsAreShown w =
    (site : ℕ) → 0 < site → site ≤ size w → text_of (machine_of w site).doc ≡ show (machine_of w site).log
