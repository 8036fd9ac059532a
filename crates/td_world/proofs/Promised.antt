-- What every consistent family is promised, of a world.
use Rattle.std.proofs.Common.{◌≡◌, ◌<◌, ◌≤◌, ℕ, [], ap, sym, subst}
use Rattle.std.specs.List.{concat}
use Rattle.std.proofs.lemmas.List.{append-nil, length-map}
use Rattle.td_doc.specs.Document.{live_atoms}
use Rattle.td_machine.specs.Machine.{Machine}
use Rattle.td_machine.specs.History.{Moment, history}
use Rattle.td_order.specs.Show.{shown_atoms}
use Rattle.td_replica.specs.Replica.{ReplicaValue}
use Rattle.td_law_convergence.proofs.EveryFamily.{promises, atoms}
use Rattle.td_world.specs.World.{WorldValue, IsWorld, family_of, size}
use Rattle.td_world.specs.Promises.{IsPromised, AtomsAreShown, TextsAreShown}

pub promised : (w : WorldValue) → IsWorld w → IsPromised w
promised w is = promises (family_of w) is.consistent

-- a site, after its whole history
now : (w : WorldValue) (site : ℕ) → 0 < site → site ≤ size w → Moment (family_of w)
now w site some within =
    record {
      site = site;
      some = some;
      within = subst (λ (n : ℕ). site ≤ n) (sym (length-map w.replicas (λ (r : ReplicaValue). r.entries))) within;
      front = history (family_of w) site;
      back = [];
      splits = sym (append-nil (history (family_of w) site));
    }

pub atoms_shown : (w : WorldValue) → IsWorld w → AtomsAreShown w
unfolding now
atoms_shown w is site some within =
    subst (λ (m : Machine). live_atoms m.doc ≡ shown_atoms m.log) (sym (is.machines site some within))
    (atoms (family_of w) is.consistent (now w site some within))

pub shown : (w : WorldValue) → IsWorld w → TextsAreShown w
shown w is site some within = ap concat (atoms_shown w is site some within)
