-- What the start has, and each part keeps, holds of each machine that is built of parts; and so for what an operation
-- alone changes.
use Rattle.std.proofs.Common.{◌<◌, ◌≤◌, ℕ, List, [], ◌∷◌, replicate}
use Rattle.td_clock.specs.Vector.{vector_bump}
use Rattle.td_op.specs.declared.body.Body.{Body}
use Rattle.td_op.specs.declared.body.Body.TheVariants.{Propose}
use Rattle.td_op.specs.declared.message.Message.{Message}
use Rattle.td_op.specs.Op.{OpValue}
use Rattle.td_doc.specs.Document.{DocRow}
use Rattle.td_machine.specs.Machine.{Machine, start, next_op}
use Rattle.td_machine.specs.Making.{effect}
use Rattle.td_machine.specs.Parts.{MayMake, IsFit, Part, Makes, Proposes, Takes, Agrees}
use Rattle.td_machine.specs.Parts.{Declines, IsBuilt, Begins, Goes}

-- an operation that is made or taken
pub data IsDone (Came : Message → Type 0) (m : Machine) : OpValue → Type 0 where
  Own : (body : Body) → MayMake body m → IsDone Came m (next_op m body)
  Other : (x : OpValue) → IsFit Came m x → IsDone Came m x

module _ {Came : Message → Type 0} {site size : ℕ} where
  -- What the start has, and each part keeps, each machine has. Where a part leaves alone what is said, `m n b part h =
  -- h` is the proof
  pub by_parts : (P : Machine → Type 0) → (0 < site → site ≤ size → P (start site size))
      → ((m n : Machine) → IsBuilt Came site size m → Part Came m n → P m → P n)
      → (m : Machine) → IsBuilt Came site size m → P m
  by_parts P h keeps m (Begins some within) = h some within
  by_parts P h keeps n (Goes {m = m} b part) = keeps m n b part (by_parts P h keeps m b)

  -- what is said of the document, the vector and the log is kept where each operation keeps it
  pub by_operations : (P : ℕ → ℕ → List DocRow → List ℕ → List OpValue → Type 0)
      → (0 < site → site ≤ size → P site size [] (replicate size 0) [])
      → ((m : Machine) → IsBuilt Came site size m → (x : OpValue) → IsDone Came m x → P m.site m.size m.doc m.have m.log
      → P m.site m.size (effect m.log x.dot x.body m.doc) (vector_bump m.have x.dot.site) (x ∷ m.log))
      → (m : Machine) → IsBuilt Came site size m → P m.site m.size m.doc m.have m.log
  by_operations P h does = by_parts (λ (m : Machine). P m.site m.size m.doc m.have m.log) h keeps
    where
      keeps : (m n : Machine) → IsBuilt Came site size m → Part Came m n → P m.site m.size m.doc m.have m.log
          → P n.site n.size n.doc n.have n.log
      keeps m n b (Makes body e may) p = does m b (next_op m body) (Own body may) p
      keeps m n b (Proposes slot free) p = does m b (next_op m (Propose slot)) (Own (Propose slot) free) p
      keeps m n b (Takes x e fit) p = does m b x (Other x fit) p
      keeps m n b (Agrees x slot e fit says) p = does m b x (Other x fit) p
      keeps m n b (Declines x slot e fit says) p = does m b x (Other x fit) p
      keeps m n b part p = p
