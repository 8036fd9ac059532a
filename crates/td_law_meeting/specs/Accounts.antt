-- What is known of workers when all their links are settled.
use Rattle.std.specs.Prelude.{◌≡◌, ◌<◌, ◌≤◌, ◌+◌, ℕ, List, length, map, filter, not, Some, slice_get, ◌==◌}
use Rattle.std.specs.List.{AllByRecursion, range_with_len}
use Rattle.td_base.specs.Lists.{In, Successive}
use Rattle.td_base.specs.declared.site.TheConstants.{MAX_SITE}
use Rattle.td_machine.specs.Machine.{start}
use Rattle.td_machine.specs.History.{Family, History, after, IsLegal}
use Rattle.td_law_meeting.specs.Takes.{TakesWelcome}
use Rattle.td_law_meeting.specs.Peers.{PeerValue, Hears, Tells, Met}

-- what one worker did: the history of its replica, and what it keeps for the other workers, in the order of their sites
pub record Account : Type 0 where
  pub site : ℕ
  pub entries : History
  pub peers : List PeerValue

-- the other sites of so many
abbrev pub others : ℕ → ℕ → List ℕ
others size site = filter (λ (k : ℕ). not (k == site)) (range_with_len 1 size)

-- what each worker can tell by itself: its history is legal, it has a peer for each other site, and what it took and
-- sent is what its history takes and what its replica sent
pub record IsAccount (size : ℕ) (a : Account) : Type 0 where
  pub legal : IsLegal a.site size a.entries
  pub peers : map (λ (p : PeerValue). p.site) a.peers ≡ others size a.site
  pub welcome : TakesWelcome a.site size (start a.site size) a.entries
  pub hears : AllByRecursion (Hears a.entries) a.peers
  pub tells : AllByRecursion (Tells (after (start a.site size) a.entries).sent) a.peers

-- the two workers have met: what they keep for each other has
abbrev pub WorkersMet : Account → Account → Type 0
WorkersMet a b =
    (p q : PeerValue) → In p a.peers → p.site ≡ b.site → In q b.peers → q.site ≡ a.site → Met p q

-- the workers of sites 1 to n, in this order, with all their links settled
pub record AreSettled (accounts : List Account) : Type 0 where
  pub some : 0 < length accounts
  pub few : length accounts ≤ MAX_SITE
  pub sites : (place : ℕ) (a : Account) → slice_get accounts place ≡ Some a
      → (a.site ≡ place + 1) × IsAccount (length accounts) a
  pub met : Successive WorkersMet accounts

-- the histories of the workers
abbrev pub family_of : List Account → Family
family_of accounts = map (λ (a : Account). a.entries) accounts
