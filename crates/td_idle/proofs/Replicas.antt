-- What a replica's machine is: its rows are a document, and its vectors have its size.
use Rattle.std.proofs.Common.{◌≡◌, ◌-◌, ℕ, List, length, Some, ◌∙◌, subst, nat_eq}
use Rattle.std.specs.Prelude.{slice_get}
use Rattle.std.proofs.Math.ListN.{length-set}
use Rattle.td_base.specs.Lists.{In}
use Rattle.td_base.proofs.Lists.{In-filter}
use Rattle.td_base.proofs.Elements.{CutAt, cut_at}
use Rattle.td_doc.specs.Document.{IsDocument}
use Rattle.td_op.specs.Op.{OpValue}
use Rattle.td_machine.specs.Counts.{ops_of, IsInTurn}
use Rattle.td_machine.specs.Machine.{Machine}
use Rattle.td_machine.proofs.Counting.{older_in_turn}
use Rattle.td_machine.proofs.Induction.{built_of}
use Rattle.td_machine.proofs.Turns.{counted, length_counts, length_have}
use Rattle.td_machine.proofs.Reached.{rules_of}
use Rattle.td_replica.specs.Replica.{ReplicaValue, IsReplica}
use Rattle.td_replica.proofs.Legal.{reached}
use Rattle.td_idle.specs.Stable.{had_after}
use Rattle.td_idle.proofs.StillToCome.{first_in}

pub document : (r : ReplicaValue) → IsReplica r → IsDocument r.machine.doc
document r h = rules_of r.machine (reached r h)

pub have_sized : (r : ReplicaValue) → IsReplica r → length r.machine.have ≡ r.machine.size
have_sized r h = length_have r.machine (built_of r.machine (reached r h)).built

deps_sized : (m : Machine) → IsInTurn m.size m.log → (x : OpValue) → In x m.log → length x.deps ≡ m.size
deps_sized m turn x i =
    let s : CutAt x m.log = cut_at x m.log i in
    (older_in_turn m.size s.front x s.back (subst (λ (log : List OpValue). IsInTurn m.size log) s.is turn)).0.size
    ∙ length_counts m.size s.back

-- what the last operation of a site tells has the size
pub last_sized : (r : ReplicaValue) → IsReplica r → (site : ℕ) (x : OpValue)
    → slice_get (ops_of site r.machine.log) 0 ≡ Some x → length (had_after x) ≡ r.machine.size
last_sized r h site x e =
    let i = In-filter (λ (y : OpValue). nat_eq y.dot.site site) x r.machine.log
    (first_in (ops_of site r.machine.log) x e) in
    length-set x.deps (x.dot.site - 1) x.dot.seq
    ∙ deps_sized r.machine (counted r.machine (built_of r.machine (reached r h)).built).1 x i.0
