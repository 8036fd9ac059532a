-- The course of the replay that a checker takes, and its three stops. It goes in rounds over the sites, at each site
-- entry after entry, up to one that waits.
use Rattle.std.specs.Prelude.{◌≡◌, ◌≢◌, ◌⊎◌, ◌<◌, ◌+◌, List, [], ◌∷◌, ℕ, Bool, true, false, length}
use Rattle.td_machine.specs.Taking.{Stepped}
use Rattle.td_trace.specs.declared.entry.TraceEntry.{TraceEntry}
use Rattle.td_law_replay.specs.Replies.{NotUnfit}
use Rattle.td_law_replay.specs.Judging.{States, begin, Lost, Waits, Steps, judge}
use Rattle.td_law_replay.specs.Replay.{Goes, AllDone}

-- the next entry of this site is done
pub record GoesAt (all : List (List TraceEntry)) (site : ℕ) (states new : States) : Type 0 where
  pub goes : Goes all states new
  pub here : goes.site ≡ site

-- no entry is left there, or the next one waits
pub data Rests (all : List (List TraceEntry)) (site : ℕ) (states : States) : Type 0 where
  Done : (states site).left ≡ [] → Rests all site states
  Waiting : (entry : TraceEntry) (rest : List TraceEntry) → (states site).left ≡ entry ∷ rest
      → judge all states site (states site).machine entry.told entry.reply ≡ Waits → Rests all site states

-- the states, the site whose turn it is, and whether an entry was done in this round
pub data Course (all : List (List TraceEntry)) : States → ℕ → Bool → Type 0 where
  Starts : Course all (begin all) 1 false
  Does : {old new : States} {site : ℕ} {moved : Bool} → Course all old site moved → GoesAt all site old new
      → Course all new site true
  Passes : {states : States} {site : ℕ} {moved : Bool} → Course all states site moved → site < length all
      → Rests all site states → Course all states (site + 1) moved
  Repeats : {states : States} {site : ℕ} → Course all states site true → site ≡ length all
      → Rests all site states → Course all states 1 false

-- stopped as missing: the next entry of the site names what no site can have sent here
pub record IsLostAt (all : List (List TraceEntry)) (site : ℕ) (states : States) (entry : TraceEntry) : Type 0 where
  pub rest : List TraceEntry
  pub next : (states site).left ≡ entry ∷ rest
  pub lost : judge all states site (states site).machine entry.told entry.reply ≡ Lost

-- stopped as a wrong reply: it is not the machine's, or says that something unfit came
pub record IsWrongAt (all : List (List TraceEntry)) (site : ℕ) (states : States) (entry : TraceEntry) : Type 0 where
  pub rest : List TraceEntry
  pub next : (states site).left ≡ entry ∷ rest
  pub to : Stepped
  pub judged : judge all states site (states site).machine entry.told entry.reply ≡ Steps to
  pub wrong : (to.reply ≢ entry.reply) ⊎ (NotUnfit entry.reply → ⊥)

-- stopped as missing too: a round in which nothing was done, with entries left
pub record IsStuck (all : List (List TraceEntry)) (states : States) : Type 0 where
  pub site : ℕ
  pub last : site ≡ length all
  pub course : Course all states site false
  pub rests : Rests all site states
  pub left : AllDone all states → ⊥
