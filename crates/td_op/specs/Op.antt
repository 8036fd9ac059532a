-- Operations as records: what one names, and which are operations.
use Rattle.std.specs.Prelude.{◌≡◌, ◌≤◌, ◌+◌, ℕ, List, length, Option, Some, None, IfSome}
use Rattle.td_base.specs.Value.{DotValue, AtomIdValue}
use Rattle.td_clock.specs.Vector.{vector_get}
use Rattle.td_path.specs.Slot.{slot_atom, slot_site}
use Rattle.td_op.specs.declared.body.Body.{Body}
use Rattle.td_op.specs.declared.body.Body.TheVariants.{Insert, Delete, Propose, Commit, Abort}

-- the dot, how many operations of each site were known, and what it does
pub record OpValue : Type 0 where
  pub dot : DotValue
  pub deps : List ℕ
  pub body : Body

-- the atom that a body names: that of its slot, or its target
abbrev pub named_atom : Body → Option AtomIdValue
named_atom (Insert slot run) = slot_atom slot
named_atom (Delete target) = Some target
named_atom (Propose slot) = slot_atom slot
named_atom (Commit proposal) = None
named_atom (Abort proposal) = None

-- the site that a body names: of the slot's atom, of the target or of the proposal
abbrev pub body_site : Body → Option ℕ
body_site (Insert slot run) = slot_site slot
body_site (Delete target) = Some target.dot.site
body_site (Propose slot) = slot_site slot
body_site (Commit proposal) = Some proposal.site
body_site (Abort proposal) = Some proposal.site

-- neither its own site nor the one that its body names is past the vector's size, and its number is the next of its
-- site
pub record IsOp (x : OpValue) : Type 0 where
  pub own : x.dot.site ≤ length x.deps
  pub named : IfSome (body_site x.body) (λ site. site ≤ length x.deps)
  pub next : vector_get x.deps x.dot.site + 1 ≡ x.dot.seq
