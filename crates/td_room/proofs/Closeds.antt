-- What is answered when a room is closed.
use Rattle.std.proofs.Common.{◌≡◌, ◌<◌, ◌≤◌, ◌+◌, ℕ, List, length, map, sym, ap, ◌∙◌, subst}
use Rattle.std.specs.List.{AllByRecursion, AllZip}
use Rattle.td_replica.specs.Replica.{ReplicaValue}
use Rattle.td_world.specs.World.{replica_from}
use Rattle.td_line.specs.declared.answer.Answer.{Answer}
use Rattle.td_line.specs.Calls.{local_at}
use Rattle.td_line.specs.Editors.{EditorValue}
use Rattle.td_peer.specs.Peers.{PeerState}
use Rattle.td_room.specs.Workers.{WorkerValue}
use Rattle.td_room.specs.Rooms.{AreOfOneRoom, editors_of}
use Rattle.td_room.specs.Closing.{IsAnswered, IsAnsweredAtHome, all_at, answers_of}
use Rattle.td_room.specs.Ending.{AllEnded, gathered, CanGather}
use Rattle.td_room.proofs.Ends.{lengths, at_place}
use Rattle.td_room.proofs.Gathers.{Fits, Gathers, gathers}

module _ (es : List EditorValue) (ws : List WorkerValue) (rs : List ReplicaValue) (gs : List (List (List Answer)))
    (rows : List (List PeerState)) (room : AreOfOneRoom ws es) (h : AllEnded es ws rs gs rows) where
  abbrev R : ℕ → EditorValue → List Answer → Type 0
  R place e a = IsAnswered (replica_from rs place) e a

  many : length gs ≡ length ws
  many = (lengths es ws rs gs rows h).3

  fits : Fits R es gs
  fits =
      record {
        at_home = subst (λ (n : ℕ). AllByRecursion (λ (e : EditorValue). (0 < e.home) × (e.home ≤ n)) es) (sym many)
            room.homes;
        zips = λ place l.
            let k = at_place es ws rs gs rows h place (subst (λ (n : ℕ). place < n) many l) in
            let site = k.ended.left in
            let home = (room.sites place k.worker k.found).site in
            subst (λ (x : ℕ × ReplicaValue × List (List Answer)). AllZip (IsAnswered x.1) (editors_of x.0 es) x.2)
            (λ i. (home i, sym k.one i, sym k.its i)) site.answered;
      }

  pub its : Gathers R es gs
  its = gathers R es gs fits

  pub can_gather : CanGather (map (λ (e : EditorValue). e.home) es) gs
  can_gather = its.can

  pub all_answered : AllZip (IsAnsweredAtHome rs) es (gathered (map (λ (e : EditorValue). e.home) es) gs)
  all_answered = its.zips

  pub only_these : (place k : ℕ) → place < length ws
      → all_at k (answers_of (place + 1) es (gathered (map (λ (e : EditorValue). e.home) es) gs))
      ≡ local_at (replica_from rs place).entries k
  only_these place k l =
      let p = at_place es ws rs gs rows h place l in
      ap (all_at k) (its.back place (subst (λ (n : ℕ). place < n) (sym many) l))
      ∙ ap (all_at k) p.its ∙ p.ended.left.only k
      ∙ ap (λ (r : ReplicaValue). local_at r.entries k) (sym p.one)
