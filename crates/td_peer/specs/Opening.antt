-- What is kept for other workers at the beginning.
use Rattle.std.specs.Prelude.{◌≡◌, ◌+◌, ℕ, List, [], ◌∷◌, ◌++◌, map, drop, length, Some, None, false, slice_get}
use Rattle.std.specs.List.{AllByRecursion, range_with_len}
use Rattle.td_link.specs.Ends.{TxValue, RxValue}
use Rattle.td_law_meeting.specs.Thin.{Loss}
use Rattle.td_law_meeting.specs.Accounts.{others}
use Rattle.td_law_meeting.specs.Rows.{MatchesFirsts}
use Rattle.td_peer.specs.declared.opening.TheConstants.{PLACES}
use Rattle.td_peer.specs.declared.parcel.Parcel.{Parcel}
use Rattle.td_peer.specs.Peers.{PeerState, AreLinked}

-- over these links, with nothing waiting and nothing dealt with
abbrev pub new_state : ℕ → ℕ → RxValue Parcel ℕ → TxValue Parcel ℕ → Loss → PeerState
new_state own site inbox outbox loss =
    record {
      own = own;
      site = site;
      inbox = inbox;
      outbox = outbox;
      waiting = None;
      dealt = 0;
      addressed = 0;
      again = false;
      loss = loss;
    }

-- what the worker of one site keeps for that of another one, over a link of so many places, when nothing was sent
-- either way
pub record IsNewPeer (one other places : ℕ) (lost : Loss) (p : PeerState) : Type 0 where
  pub nothing : p ≡ new_state one other p.inbox p.outbox lost
  pub taken : p.inbox.taken ≡ []
  pub sent : p.outbox.sent ≡ []
  pub cap : p.outbox.cap ≡ places

-- what the worker of one of so many sites keeps for each other one then, in the order of their sites
pub record IsFreshRow (size site : ℕ) (lost : Loss) (row : List PeerState) : Type 0 where
  pub sites : map (λ (p : PeerState). p.site) row ≡ others size site
  pub fresh : AllByRecursion (λ (p : PeerState). IsNewPeer site p.site PLACES lost p) row

-- the rows of so many sites, that of site 1 first
pub record AreFreshRows (size : ℕ) (lost : Loss) (rows : List (List PeerState)) : Type 0 where
  pub all : length rows ≡ size
  pub each : (place : ℕ) (row : List PeerState) → slice_get rows place ≡ Some row
      → IsFreshRow size (place + 1) lost row

-- what the workers of a first site and of a later one keep for each other then
pub record Paired (first : ℕ) (lost : Loss) (p q : PeerState) : Type 0 where
  pub linked : AreLinked p q
  pub mine : IsNewPeer first p.site PLACES lost p
  pub theirs : IsNewPeer p.site first PLACES lost q

-- one more of the rows behind has got something for the first site in front, and the row of the first site something
-- for it
pub record OpensNext (first other : ℕ) (lost : Loss) (row next : List PeerState)
    (rows behind done more : List (List PeerState)) : Type 0 where
  pub one : PeerState
  pub twin : PeerState
  pub left : List PeerState
  pub paired : Paired first lost one twin
  pub site : one.site ≡ other
  pub longer : next ≡ row ++ one ∷ []
  pub shorter : rows ≡ left ∷ behind
  pub put : more ≡ done ++ (twin ∷ left) ∷ []

-- the row of the first site stands before the others, each of which has got something for it in front
pub record OpensFirst (first : ℕ) (lost : Loss) (rows : List (List PeerState)) (row : List PeerState)
    (theirs : List (List PeerState)) : Type 0 where
  pub paired : MatchesFirsts (Paired first lost) row theirs
  pub sites : map (λ (p : PeerState). p.site) row ≡ range_with_len (first + 1) (length rows)
  pub rests : map (drop 1) theirs ≡ rows
