-- What holds after every legal history.
use Rattle.std.proofs.Common.{◌≡◌, ◌≢◌, ◌<◌, ◌≤◌, ◌+◌, ◌++◌, ◌∷◌, ℕ, List, true, false, length, None, sym, subst, arith}
use Rattle.std.specs.Prelude.{IsTrue}
use Rattle.td_base.specs.Value.{DotValue}
use Rattle.td_base.specs.declared.dot.TheConstants.{MAX_SEQ}
use Rattle.td_base.specs.Lists.{In, Successive}
use Rattle.td_clock.specs.Vector.{vector_get, vector_has}
use Rattle.td_op.specs.Op.{OpValue}
use Rattle.td_doc.specs.Document.{IsDocument}
use Rattle.td_doc.specs.Slots.{overlaps, is_known}
use Rattle.td_path.specs.declared.slot.Slot.TheVariants.{Root}
use Rattle.td_machine.specs.Hold.{Hold}
use Rattle.td_doc.specs.Answers.{is_rooted}
use Rattle.td_machine.specs.Counts.{counts, ops_of, IsNext, IsInTurn}
use Rattle.td_machine.specs.Machine.{Machine, made, undecided}
use Rattle.td_machine.specs.Replay.{doc_of}
use Rattle.td_machine.specs.History.{IsReached}
use Rattle.td_base.proofs.Elements.{cut_at, CutAt}
use Rattle.td_machine.specs.Parts.{RoomFor, IsOffered, IsBuilt, Anything}
use Rattle.td_machine.proofs.Walk.{offered}
use Rattle.td_machine.proofs.Turns.{length_counts, counted}
use Rattle.td_machine.proofs.Counting.{total, older_in_turn, numbered, past_found, Found}
use Rattle.td_machine.proofs.Documents.{documents, logged}
use Rattle.td_machine.proofs.Knowing.{rows_known}
use Rattle.td_machine.proofs.Holding.{holding}
use Rattle.td_machine.proofs.Naming.{own_ballots}
use Rattle.td_machine.proofs.OwnProposals.{polls, open_proposed}
use Rattle.td_machine.specs.Decision.{Ballot, is_open}
use Rattle.td_machine.specs.Log.{proposed_slot, decision}
use Rattle.std.specs.Option.{is_some}
use Rattle.td_machine.proofs.Room.{room}
use Rattle.td_machine.proofs.Induction.{IsBuiltSomewhere, built_of}

module _ (m : Machine) (r : IsReached m) where
  abbrev somewhere : IsBuiltSomewhere m
  somewhere = built_of m r

  abbrev built : IsBuilt Anything somewhere.site somewhere.size m
  built = somewhere.built

  pub counted_of : (site : ℕ) → 0 < site → site ≤ m.size → vector_get m.have site ≡ length (ops_of site m.log)
  counted_of site some within =
      let c = counted m built in
      subst (λ (v : List ℕ). vector_get v site ≡ length (ops_of site m.log)) (sym c.0)
      (total m.size site m.log some within c.1)

  older : (newer : List OpValue) (x : OpValue) (rest : List OpValue) → m.log ≡ newer ++ x ∷ rest
      → IsNext (counts m.size rest) x × IsInTurn m.size rest
  older newer x rest e =
      older_in_turn m.size newer x rest (subst (λ (log : List OpValue). IsInTurn m.size log) e (counted m built).1)

  pub numbered_of : (newer : List OpValue) (x : OpValue) (rest : List OpValue) → m.log ≡ newer ++ x ∷ rest
      → x.dot.seq ≡ length (ops_of x.dot.site rest) + 1
  numbered_of newer x rest e = let o = older newer x rest e in numbered m.size x rest o.0 o.1

  pub past_of : (newer : List OpValue) (x : OpValue) (rest : List OpValue) → m.log ≡ newer ++ x ∷ rest
      → (d : DotValue) → 0 < d.site → 0 < d.seq → IsTrue (vector_has x.deps d) → (y : OpValue) × In y rest × (y.dot ≡ d)
  past_of newer x rest e d site seq has =
      let o = older newer x rest e in
      let f : Found d rest = past_found m.size x rest o.0 o.1 d site seq has in
      (f.op, f.inside, f.is)

  -- what is made or taken has a dot of one of the sites
  pub of_sites : (x : OpValue) → In x m.log → (0 < x.dot.site) × (x.dot.site ≤ m.size) × (0 < x.dot.seq)
  of_sites x i =
      let s : CutAt x m.log = cut_at x m.log i in
      let o = older s.front x s.back s.is in
      let next : IsNext (counts m.size s.back) x = o.0 in
      let within : x.dot.site ≤ length (counts m.size s.back) = next.within in
      let long : length (counts m.size s.back) ≡ m.size = length_counts m.size s.back in
      let number : x.dot.seq ≡ vector_get (counts m.size s.back) x.dot.site + 1 = next.next in
      (next.some, omega (arith, within, long), omega (arith, number))

  -- and what waits
  pub waits_of_sites : (x : OpValue) → In x m.waiting
      → (0 < x.dot.site) × (x.dot.site ≤ m.size) × (0 < x.dot.seq) × (x.dot.site ≢ m.site)
  waits_of_sites x i =
      let o : IsOffered Anything m.site m.size x = offered m built x i in
      let own : x.dot.site ≤ length x.deps = o.valid.op.own in
      let sized : length x.deps ≡ m.size = o.sized in
      (o.valid.dot.site.least, omega (arith, own, sized), o.valid.dot.least, o.other)

  pub room_of : made m + undecided m ≤ MAX_SEQ
  room_of = let h : RoomFor 0 m = room m built in omega (arith, h)

  pub rules_of : IsDocument m.doc
  rules_of = (documents m built).0

  pub known_of : is_known m.doc Root m.have ≡ true
  known_of = rows_known m built

  pub replay_of : m.doc ≡ doc_of m.log
  replay_of = logged m built

  pub rooted_of : (h : Hold) → In h m.holds → is_rooted m.doc h.slot ≡ true
  rooted_of h i = (holding m built).rooted h i

  pub apart_of : Successive (λ (g h : Hold). overlaps m.doc g.slot h.slot ≡ false) m.holds
  apart_of = (holding m built).apart

  pub ballots_of : (b : Ballot) → In b m.ballots → (b.proposal.site ≡ m.site) × IsTrue (vector_has m.have b.proposal)
  ballots_of b i = (own_ballots m built b i, (polls m built).had b i)

  pub open_of : (b : Ballot) → In b m.ballots → is_open b ≡ true
      → IsTrue (is_some (proposed_slot b.proposal m.log)) × (decision b.proposal m.log ≡ None)
  open_of b i o = (open_proposed m built b i o, (polls m built).undecided b i o)
