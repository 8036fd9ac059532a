-- Workers that have ended, and whose links are settled.
use Rattle.std.proofs.Common.{◌≡◌, ◌≢◌, ◌<◌, ◌≤◌, ◌+◌, ◌-◌, ◌++◌, ℕ, zero, suc, List, [], ◌∷◌, Bool, true}
use Rattle.std.proofs.Common.{false, not, cond, nat_eq, length, map, drop, slice_get, get_or, Some, refl}
use Rattle.std.proofs.Common.{sym, ap, ◌∙◌, subst, append_assoc, append-nil, arith}
use Rattle.std.proofs.lemmas.Bool.Decides.{nat_tests}
use Rattle.std.specs.List.{AllByRecursion, AllZip}
use Rattle.td_base.specs.declared.site.TheConstants.{MAX_SITE}
use Rattle.td_machine.specs.Machine.{Machine, start}
use Rattle.td_machine.specs.History.{Family, History, after, IsLegal, IsConsistent}
use Rattle.td_replica.specs.Replica.{ReplicaValue, has_ready}
use Rattle.td_world.specs.World.{AreSites, replica_from, world_of}
use Rattle.td_world.specs.Promises.{NobodyReady}
use Rattle.td_law_meeting.specs.Takes.{TakesWelcome}
use Rattle.td_law_meeting.specs.Peers.{PeerValue, Hears, Tells, Met}
use Rattle.td_law_meeting.specs.Accounts.{Account, IsAccount, AreSettled, others, family_of}
use Rattle.td_law_meeting.specs.Rows.{MatchesFirsts, AllMatch, rows_of}
use Rattle.td_law_meeting.proofs.Consistency.{consistent}
use Rattle.td_law_meeting.proofs.Matching.{have_met}
use Rattle.td_line.specs.declared.answer.Answer.{Answer}
use Rattle.td_line.specs.Editors.{EditorValue}
use Rattle.td_peer.specs.Peers.{PeerState, peer_of, AreLinked, PeersMet}
use Rattle.td_peer.specs.Serving.{Serves, LaterPeer}
use Rattle.td_room.specs.Workers.{WorkerValue}
use Rattle.td_room.specs.Rooms.{AreOfOneRoom, IsAtHome, Joined, editors_of}
use Rattle.td_room.specs.Closing.{GoesOn, AreLooked}
use Rattle.td_room.specs.Ending.{IsEnded, AllEnded, EndedNext, FirstJoined, others_of}
use Rattle.td_room.proofs.Linked.{all_linked}

all_under : {X Y : Type 0} (P : X → Type 0) (Q : Y → Type 0) (f : X → Y) (xs : List X) → ((x : X) → P x → Q (f x))
    → AllByRecursion P xs → AllByRecursion Q (map f xs)
all_under P Q f [] g h = h
all_under P Q f (x ∷ xs) g h = (g x h.0, all_under P Q f xs g h.1)

some_same : {X : Type 0} (x y : X) → Some x ≡ Some y → x ≡ y
some_same x y e = cc

-- ---- one after another

all_ended_next : (es : List EditorValue) (ws : List WorkerValue) (rs : List ReplicaValue)
    (gs : List (List (List Answer)))
    (rows : List (List PeerState)) (w : WorkerValue) (r : ReplicaValue) (a : List (List Answer)) (ps : List PeerState)
    → AllEnded es ws rs gs rows → IsEnded w (editors_of w.site.replica.machine.site es) r a ps
    → AllEnded es (ws ++ w ∷ []) (rs ++ r ∷ []) (gs ++ a ∷ []) (rows ++ ps ∷ [])
all_ended_next es [] [] [] [] w r a ps h e = (e, h)
all_ended_next es [] [] [] (q ∷ rows) w r a ps h e = absurd h
all_ended_next es [] [] (x ∷ gs) rows w r a ps h e = absurd h
all_ended_next es [] (q ∷ rs) gs rows w r a ps h e = absurd h
all_ended_next es (v ∷ ws) [] gs rows w r a ps h e = absurd h
all_ended_next es (v ∷ ws) (q ∷ rs) [] rows w r a ps h e = absurd h
all_ended_next es (v ∷ ws) (q ∷ rs) (x ∷ gs) [] w r a ps h e = absurd h
all_ended_next es (v ∷ ws) (q ∷ rs) (x ∷ gs) (y ∷ rows) w r a ps h e =
    (h.0, all_ended_next es ws rs gs rows w r a ps h.1 e)

-- so many of the workers have ended; of the editors those of later sites are left
pub record Ending (editors : List EditorValue) (all left : List WorkerValue) (others : List EditorValue)
    (rs : List ReplicaValue) (gs : List (List (List Answer))) (rows : List (List PeerState)) : Type 0 where
  pub done : List WorkerValue
  pub splits : all ≡ done ++ left
  pub ended : AllEnded editors done rs gs rows
  pub theirs : (site : ℕ) → length done < site → editors_of site others ≡ editors_of site editors

pub ending_first : (editors : List EditorValue) (all : List WorkerValue) (rs : List ReplicaValue)
    (gs : List (List (List Answer))) (rows : List (List PeerState)) → rs ≡ [] → gs ≡ [] → rows ≡ []
    → Ending editors all all editors rs gs rows
ending_first editors all rs gs rows e f g =
    record {
      done = [];
      splits = refl;
      ended = subst (λ (v : List ReplicaValue × List (List (List Answer)) × List (List PeerState)). AllEnded editors
          [] v.0 v.1 v.2)
          (λ i. (sym e i, sym f i, sym g i)) tt;
      theirs = λ site l. refl;
    }

-- the site of the first worker that is left
at_front : (done left : List WorkerValue) (w : WorkerValue) → slice_get (done ++ w ∷ left) (length done) ≡ Some w
at_front [] left w = refl
at_front (v ∷ done) left w = at_front done left w

pub first_site : (editors : List EditorValue) (all left next : List WorkerValue) (others : List EditorValue)
    (rs : List ReplicaValue) (gs : List (List (List Answer))) (rows : List (List PeerState)) (w : WorkerValue)
    → AreOfOneRoom all editors → (v : Ending editors all left others rs gs rows) → left ≡ w ∷ next
    → IsAtHome editors (length all) (length v.done + 1) w
first_site editors all left next others rs gs rows w room v e =
    let is : all ≡ v.done ++ w ∷ next = v.splits ∙ ap (λ (l : List WorkerValue). v.done ++ l) e in
    room.sites (length v.done) w (ap (λ (l : List WorkerValue). slice_get l (length v.done)) is
    ∙ at_front v.done next w)

pub joined_first : (editors : List EditorValue) (all left : List WorkerValue) (others : List EditorValue)
    (rs : List ReplicaValue) (gs : List (List (List Answer))) (rows : List (List PeerState))
    → AreOfOneRoom all editors → Ending editors all left others rs gs rows → FirstJoined left others
joined_first editors all [] others rs gs rows room v = tt
joined_first editors all (w ∷ left) others rs gs rows room v =
    let home = first_site editors all (w ∷ left) left others rs gs rows w room v refl in
    let late : length v.done < length v.done + 1 = omega arith in
    subst (λ (k : ℕ). AllZip (Joined w.site.writer.views) w.lines (editors_of k others)) (sym home.site)
    (subst (λ (es : List EditorValue). AllZip (Joined w.site.writer.views) w.lines es)
    (sym (v.theirs (length v.done + 1) late)) home.lines)

no_both : (a b c : ℕ) → nat_eq a b ≡ true → nat_eq a c ≡ true → c ≡ b
no_both a b c p q = grind (arith, nat_tests)

-- those of another site are not taken out
kept : (s t : ℕ) (es : List EditorValue) → t ≢ s → editors_of t (others_of s es) ≡ editors_of t es
kept s t [] n = refl
kept s t (e ∷ es) n = at (nat_eq e.home s) (nat_eq e.home t) refl refl (kept s t es n)
  where
    at : (b c : Bool) → nat_eq e.home s ≡ b → nat_eq e.home t ≡ c → editors_of t (others_of s es) ≡ editors_of t es
        → editors_of t (cond (not b) (e ∷ others_of s es) (others_of s es))
        ≡ cond c (e ∷ editors_of t es) (editors_of t es)
    at true true p q rest = absurd (n (no_both e.home s t p q))
    at true false p q rest = rest
    at false true p q rest =
        ap (λ (c : Bool). cond c (e ∷ editors_of t (others_of s es)) (editors_of t (others_of s es))) q
        ∙ ap (λ (l : List EditorValue). e ∷ l) rest
    at false false p q rest =
        ap (λ (c : Bool). cond c (e ∷ editors_of t (others_of s es)) (editors_of t (others_of s es))) q ∙ rest

length_snoc : (ws : List WorkerValue) (w : WorkerValue) → length (ws ++ w ∷ []) ≡ length ws + 1
length_snoc [] w = refl
length_snoc (v ∷ ws) w = let h = length_snoc ws w in omega arith

pub ending_next : (editors : List EditorValue) (all left next : List WorkerValue) (others fewer : List EditorValue)
    (rs qs : List ReplicaValue) (gs hs : List (List (List Answer))) (rows more : List (List PeerState))
    → AreOfOneRoom all editors → Ending editors all left others rs gs rows
    → EndedNext left next others fewer rows more rs qs gs hs → Ending editors all next fewer qs hs more
ending_next editors all left next others fewer rs qs gs hs rows more room v n =
    let w = n.worker in
    let home = first_site editors all left next others rs gs rows w room v n.first in
    let one : ℕ = length v.done + 1 in
    let late : length v.done < one = omega arith in
    let own : editors_of w.site.replica.machine.site others ≡ editors_of w.site.replica.machine.site editors =
    subst (λ (k : ℕ). editors_of k others ≡ editors_of k editors) (sym home.site) (v.theirs one late) in
    let ended : IsEnded w (editors_of w.site.replica.machine.site editors) n.replica n.answers n.peers =
    subst (λ (es : List EditorValue). IsEnded w es n.replica n.answers n.peers) own n.ended in
    record {
      done = v.done ++ w ∷ [];
      splits = v.splits ∙ ap (λ (l : List WorkerValue). v.done ++ l) n.first ∙ sym (append_assoc v.done (w ∷ []) next);
      ended = subst (λ (x : List ReplicaValue × List (List (List Answer)) × List (List PeerState)). AllEnded editors
          (v.done ++ w ∷ []) x.0 x.1 x.2)
          (λ i. (sym n.one i, sym n.its i, sym n.row i))
          (all_ended_next editors v.done rs gs rows w n.replica n.answers n.peers v.ended ended);
      theirs = λ site l.
          let count = length_snoc v.done w in
          let apart : site ≢ one = λ e. absurd (omega (arith, e, l, count)) in
          let before : length v.done < site = omega (arith, l, count) in
          ap (λ (es : List EditorValue). editors_of site es) n.rest
          ∙ kept w.site.replica.machine.site site others (λ e. apart (e ∙ home.site))
          ∙ v.theirs site before;
    }

pub ending_last : (editors : List EditorValue) (all left : List WorkerValue) (others : List EditorValue)
    (rs : List ReplicaValue) (gs : List (List (List Answer))) (rows : List (List PeerState))
    → Ending editors all left others rs gs rows → length left ≡ 0 → AllEnded editors all rs gs rows
ending_last editors all [] others rs gs rows v none =
    subst (λ (w : List WorkerValue). AllEnded editors w rs gs rows) (sym (v.splits ∙ append-nil v.done)) v.ended
ending_last editors all (w ∷ left) others rs gs rows v none = absurd (omega (arith, none))

-- ---- what they come to

abbrev account : ReplicaValue → List PeerState → Account
account r ps =
    record { site = r.machine.site; entries = r.entries; peers = map (λ (p : PeerState). peer_of p) ps }

abbrev accounts : List ReplicaValue → List (List PeerState) → List Account
accounts [] rows = []
accounts (r ∷ rs) [] = []
accounts (r ∷ rs) (ps ∷ rows) = account r ps ∷ accounts rs rows

module _ (es : List EditorValue) where
  rows_later : (ws : List WorkerValue) (rs : List ReplicaValue) (gs : List (List (List Answer)))
      (rows : List (List PeerState))
      → AllEnded es ws rs gs rows
      → AllZip (λ (ps qs : List PeerState). AllZip LaterPeer ps qs) (map (λ (w : WorkerValue). w.peers) ws) rows
  rows_later [] [] [] [] h = tt
  rows_later [] [] [] (ps ∷ rows) h = absurd h
  rows_later [] [] (x ∷ gs) rows h = absurd h
  rows_later [] (r ∷ rs) gs rows h = absurd h
  rows_later (w ∷ ws) [] gs rows h = absurd h
  rows_later (w ∷ ws) (r ∷ rs) [] rows h = absurd h
  rows_later (w ∷ ws) (r ∷ rs) (x ∷ gs) [] h = absurd h
  rows_later (w ∷ ws) (r ∷ rs) (x ∷ gs) (ps ∷ rows) h = (h.0.later, rows_later ws rs gs rows h.1)

  pub lengths : (ws : List WorkerValue) (rs : List ReplicaValue) (gs : List (List (List Answer)))
      (rows : List (List PeerState))
      → AllEnded es ws rs gs rows
      → (length rs ≡ length ws) × (length rows ≡ length ws) × (length (accounts rs rows) ≡ length ws)
      × (length gs ≡ length ws)
  lengths [] [] [] [] h = (refl, refl, refl, refl)
  lengths [] [] [] (ps ∷ rows) h = absurd h
  lengths [] [] (x ∷ gs) rows h = absurd h
  lengths [] (r ∷ rs) gs rows h = absurd h
  lengths (w ∷ ws) [] gs rows h = absurd h
  lengths (w ∷ ws) (r ∷ rs) [] rows h = absurd h
  lengths (w ∷ ws) (r ∷ rs) (x ∷ gs) [] h = absurd h
  lengths (w ∷ ws) (r ∷ rs) (x ∷ gs) (ps ∷ rows) h =
      let k = lengths ws rs gs rows h.1 in (ap suc k.0, ap suc k.1, ap suc k.2, ap suc k.3)

  pub linked_rows : (ws : List WorkerValue) (rs : List ReplicaValue) (gs : List (List (List Answer)))
      (rows : List (List PeerState))
      → AllEnded es ws rs gs rows → AreOfOneRoom ws es → AllMatch AreLinked (length rows) rows
  linked_rows ws rs gs rows h room =
      subst (λ (k : ℕ). AllMatch AreLinked k rows) (sym (lengths ws rs gs rows h).1)
      (all_linked (length ws) (map (λ (w : WorkerValue). w.peers) ws) rows (rows_later ws rs gs rows h) room.linked)

  family_is : (ws : List WorkerValue) (rs : List ReplicaValue) (gs : List (List (List Answer)))
      (rows : List (List PeerState))
      → AllEnded es ws rs gs rows → family_of (accounts rs rows) ≡ map (λ (r : ReplicaValue). r.entries) rs
  family_is [] [] [] [] h = refl
  family_is [] [] [] (ps ∷ rows) h = absurd h
  family_is [] [] (x ∷ gs) rows h = absurd h
  family_is [] (r ∷ rs) gs rows h = absurd h
  family_is (w ∷ ws) [] gs rows h = absurd h
  family_is (w ∷ ws) (r ∷ rs) [] rows h = absurd h
  family_is (w ∷ ws) (r ∷ rs) (x ∷ gs) [] h = absurd h
  family_is (w ∷ ws) (r ∷ rs) (x ∷ gs) (ps ∷ rows) h =
      ap (λ (l : List History). r.entries ∷ l) (family_is ws rs gs rows h.1)

  peers_are : (ws : List WorkerValue) (rs : List ReplicaValue) (gs : List (List (List Answer)))
      (rows : List (List PeerState))
      → AllEnded es ws rs gs rows
      → rows_of (accounts rs rows) ≡ map (λ (ps : List PeerState). map (λ (p : PeerState). peer_of p) ps) rows
  peers_are [] [] [] [] h = refl
  peers_are [] [] [] (ps ∷ rows) h = absurd h
  peers_are [] [] (x ∷ gs) rows h = absurd h
  peers_are [] (r ∷ rs) gs rows h = absurd h
  peers_are (w ∷ ws) [] gs rows h = absurd h
  peers_are (w ∷ ws) (r ∷ rs) [] rows h = absurd h
  peers_are (w ∷ ws) (r ∷ rs) (x ∷ gs) [] h = absurd h
  peers_are (w ∷ ws) (r ∷ rs) (x ∷ gs) (ps ∷ rows) h =
      ap (λ (l : List (List PeerValue)). map (λ (p : PeerState). peer_of p) ps ∷ l) (peers_are ws rs gs rows h.1)

  pub all_go_on : (ws : List WorkerValue) (rs : List ReplicaValue) (gs : List (List (List Answer)))
      (rows : List (List PeerState))
      → AllEnded es ws rs gs rows → AllZip GoesOn ws rs
  all_go_on [] [] [] [] h = tt
  all_go_on [] [] [] (ps ∷ rows) h = absurd h
  all_go_on [] [] (x ∷ gs) rows h = absurd h
  all_go_on [] (r ∷ rs) gs rows h = absurd h
  all_go_on (w ∷ ws) [] gs rows h = absurd h
  all_go_on (w ∷ ws) (r ∷ rs) [] rows h = absurd h
  all_go_on (w ∷ ws) (r ∷ rs) (x ∷ gs) [] h = absurd h
  all_go_on (w ∷ ws) (r ∷ rs) (x ∷ gs) (ps ∷ rows) h =
      (record { grown = h.0.left.grown; done = h.0.done }, all_go_on ws rs gs rows h.1)

  pub all_looked : (ws : List WorkerValue) (rs : List ReplicaValue) (gs : List (List (List Answer)))
      (rows : List (List PeerState))
      → AllEnded es ws rs gs rows → AllZip (AreLooked es) ws rs
  all_looked [] [] [] [] h = tt
  all_looked [] [] [] (ps ∷ rows) h = absurd h
  all_looked [] [] (x ∷ gs) rows h = absurd h
  all_looked [] (r ∷ rs) gs rows h = absurd h
  all_looked (w ∷ ws) [] gs rows h = absurd h
  all_looked (w ∷ ws) (r ∷ rs) [] rows h = absurd h
  all_looked (w ∷ ws) (r ∷ rs) (x ∷ gs) [] h = absurd h
  all_looked (w ∷ ws) (r ∷ rs) (x ∷ gs) (ps ∷ rows) h = (h.0.left.looks, all_looked ws rs gs rows h.1)

-- what the peers are is the same after they are told without their links

abbrev told_rows : List (List PeerState) → List (List PeerValue)
told_rows rows = map (λ (ps : List PeerState). map (λ (p : PeerState). peer_of p) ps) rows

firsts_told : (ps : List PeerState) (rows : List (List PeerState)) → MatchesFirsts PeersMet ps rows
    → MatchesFirsts Met (map (λ (p : PeerState). peer_of p) ps) (told_rows rows)
firsts_told [] [] m = m
firsts_told [] (r ∷ rows) m = absurd m
firsts_told (p ∷ ps) [] m = absurd m
firsts_told (p ∷ ps) ([] ∷ rows) m = absurd m
firsts_told (p ∷ ps) ((q ∷ qs) ∷ rows) m = (m.0, firsts_told ps rows m.1)

rests_told : (rows : List (List PeerState)) → map (drop 1) (told_rows rows) ≡ told_rows (map (drop 1) rows)
rests_told [] = refl
rests_told ([] ∷ rows) = ap (λ (l : List (List PeerValue)). [] ∷ l) (rests_told rows)
rests_told ((p ∷ ps) ∷ rows) = ap (λ (l : List (List PeerValue)). map (λ (q : PeerState). peer_of q) ps ∷ l)
    (rests_told rows)

all_told : (k : ℕ) (rows : List (List PeerState)) → AllMatch PeersMet k rows → AllMatch Met k (told_rows rows)
all_told zero rows m = m
all_told (suc k) [] m = m
all_told (suc k) (ps ∷ rows) m = (
  firsts_told ps rows m.0,
  subst (λ (v : List (List PeerValue)). AllMatch Met k v) (sym (rests_told rows)) (all_told k (map (drop 1) rows) m.1),
)

sites_told : (ps : List PeerState)
    → map (λ (p : PeerValue). p.site) (map (λ (p : PeerState). peer_of p) ps) ≡ map (λ (p : PeerState). p.site) ps
sites_told [] = refl
sites_told (p ∷ ps) = ap (λ (l : List ℕ). p.site ∷ l) (sites_told ps)

-- the worker of one site
is_account : (w : WorkerValue) (es : List EditorValue) (r : ReplicaValue) (a : List (List Answer)) (ps : List PeerState)
    (n : ℕ) → IsEnded w es r a ps → r.machine.size ≡ n → IsAccount n (account r ps)
is_account w es r a ps n e size =
    let c = e.left.connected in
    let is : after (start r.machine.site n) r.entries ≡ r.machine =
    ap (λ (k : ℕ). after (start r.machine.site k) r.entries) (sym size) ∙ sym e.left.replica.is in
    record {
      legal = subst (λ (k : ℕ). IsLegal r.machine.site k r.entries) size e.left.replica.legal;
      peers = sites_told ps ∙ c.numbers ∙ ap (λ (k : ℕ). others k r.machine.site) size;
      welcome = subst (λ (k : ℕ). TakesWelcome r.machine.site k (start r.machine.site k) r.entries) size c.welcome;
      hears = all_under (λ (p : PeerState). Hears r.entries (peer_of p)) (Hears r.entries)
          (λ (p : PeerState). peer_of p) ps
          (λ p h. h) c.hears;
      tells = subst (λ (m : Machine). AllByRecursion (Tells m.sent) (map (λ (p : PeerState). peer_of p) ps)) (sym is)
          (all_under (λ (p : PeerState). Serves r.machine.sent p) (Tells r.machine.sent)
          (λ (p : PeerState). peer_of p) ps
          (λ p h. h.tells) c.serves);
    }

-- what stands at one place
pub record At (es : List EditorValue) (ws : List WorkerValue) (rs : List ReplicaValue) (gs : List (List (List Answer)))
    (place : ℕ) : Type 0 where
  pub worker : WorkerValue
  pub replica : ReplicaValue
  pub answers : List (List Answer)
  pub peers : List PeerState
  pub found : slice_get ws place ≡ Some worker
  pub one : replica_from rs place ≡ replica
  pub its : get_or gs place [] ≡ answers
  pub ended : IsEnded worker (editors_of worker.site.replica.machine.site es) replica answers peers

pub at_place : (es : List EditorValue) (ws : List WorkerValue) (rs : List ReplicaValue) (gs : List (List (List Answer)))
    (rows : List (List PeerState)) → AllEnded es ws rs gs rows → (place : ℕ) → place < length ws → At es ws rs gs place
at_place es [] rs gs rows h place l = absurd (omega (arith, l))
at_place es (w ∷ ws) [] gs rows h place l = absurd h
at_place es (w ∷ ws) (r ∷ rs) [] rows h place l = absurd h
at_place es (w ∷ ws) (r ∷ rs) (x ∷ gs) [] h place l = absurd h
at_place es (w ∷ ws) (r ∷ rs) (x ∷ gs) (ps ∷ rows) h zero l =
    record { worker = w; replica = r; answers = x; peers = ps; found = refl; one = refl; its = refl; ended = h.0 }
at_place es (w ∷ ws) (r ∷ rs) (x ∷ gs) (ps ∷ rows) h (suc place) l =
    let k = at_place es ws rs gs rows h.1 place (omega (arith, l)) in
    record {
      worker = k.worker;
      replica = k.replica;
      answers = k.answers;
      peers = k.peers;
      found = k.found;
      one = k.one;
      its = k.its;
      ended = k.ended;
    }

-- the account at a place is that of what stands there
record AccountAt (es : List EditorValue) (ws : List WorkerValue) (place : ℕ) (a : Account) : Type 0 where
  worker : WorkerValue
  replica : ReplicaValue
  answers : List (List Answer)
  peers : List PeerState
  found : slice_get ws place ≡ Some worker
  ended : IsEnded worker (editors_of worker.site.replica.machine.site es) replica answers peers
  is : a ≡ account replica peers

account_at : (es : List EditorValue) (ws : List WorkerValue) (rs : List ReplicaValue) (gs : List (List (List Answer)))
    (rows : List (List PeerState)) → AllEnded es ws rs gs rows → (place : ℕ) (a : Account)
    → slice_get (accounts rs rows) place ≡ Some a → AccountAt es ws place a
account_at es [] [] [] [] h place a e = absurd (cc e)
account_at es [] [] [] (ps ∷ rows) h place a e = absurd h
account_at es [] [] (x ∷ gs) rows h place a e = absurd h
account_at es [] (r ∷ rs) gs rows h place a e = absurd h
account_at es (w ∷ ws) [] gs rows h place a e = absurd h
account_at es (w ∷ ws) (r ∷ rs) [] rows h place a e = absurd h
account_at es (w ∷ ws) (r ∷ rs) (x ∷ gs) [] h place a e = absurd h
account_at es (w ∷ ws) (r ∷ rs) (x ∷ gs) (ps ∷ rows) h zero a e =
    record {
      worker = w;
      replica = r;
      answers = x;
      peers = ps;
      found = refl;
      ended = h.0;
      is = sym (some_same (account r ps) a e);
    }
account_at es (w ∷ ws) (r ∷ rs) (x ∷ gs) (ps ∷ rows) h (suc place) a e =
    let k = account_at es ws rs gs rows h.1 place a e in
    record {
      worker = k.worker;
      replica = k.replica;
      answers = k.answers;
      peers = k.peers;
      found = k.found;
      ended = k.ended;
      is = k.is;
    }

module _ (es : List EditorValue) (ws : List WorkerValue) (rs : List ReplicaValue) (gs : List (List (List Answer)))
    (rows : List (List PeerState)) (room : AreOfOneRoom ws es) (h : AllEnded es ws rs gs rows) where
  sites : (place : ℕ) (a : Account) → slice_get (accounts rs rows) place ≡ Some a
      → (a.site ≡ place + 1) × IsAccount (length (accounts rs rows)) a
  sites place a e =
      let k = account_at es ws rs gs rows h place a e in
      let f = room.sites place k.worker k.found in
      let n : length ws ≡ length (accounts rs rows) = sym (lengths es ws rs gs rows h).2 in
      subst (λ (b : Account). (b.site ≡ place + 1) × IsAccount (length (accounts rs rows)) b) (sym k.is) (
        k.ended.left.site ∙ f.site,
        is_account k.worker (editors_of k.worker.site.replica.machine.site es) k.replica k.answers k.peers
            (length (accounts rs rows)) k.ended (k.ended.left.size ∙ f.size_is ∙ n),
      )

  settled : AllMatch PeersMet (length rows) rows → AreSettled (accounts rs rows)
  settled m =
      let n : length (accounts rs rows) ≡ length ws = (lengths es ws rs gs rows h).2 in
      let met : AllMatch Met (length (accounts rs rows)) (rows_of (accounts rs rows)) =
      subst (λ (v : List (List PeerValue)). AllMatch Met (length (accounts rs rows)) v)
      (sym (peers_are es ws rs gs rows h))
      (subst (λ (k : ℕ). AllMatch Met k (told_rows rows)) ((lengths es ws rs gs rows h).1 ∙ sym n)
      (all_told (length rows) rows m)) in
      record {
        some = subst (λ (k : ℕ). 0 < k) (sym n) room.some;
        few = subst (λ (k : ℕ). k ≤ MAX_SITE) (sym n) room.few;
        sites = sites;
        met = have_met (accounts rs rows) (λ place a e. let k = sites place a e in (k.0, k.1.peers)) met;
      }

  pub closed : AllMatch PeersMet (length rows) rows → IsConsistent (map (λ (r : ReplicaValue). r.entries) rs)
  closed m = subst (λ (f : Family). IsConsistent f) (family_is es ws rs gs rows h)
      (consistent (accounts rs rows) (settled m))

  pub closed_sites : AreSites rs
  closed_sites place few =
      let n : length rs ≡ length ws = (lengths es ws rs gs rows h).0 in
      let k = at_place es ws rs gs rows h place (subst (λ (x : ℕ). place < x) n few) in
      let r = room.sites place k.worker k.found in (
        ap (λ (x : ReplicaValue). x.machine.site) k.one ∙ k.ended.left.site ∙ r.site,
        ap (λ (x : ReplicaValue). x.machine.size) k.one ∙ k.ended.left.size ∙ r.size_is ∙ sym n,
      )

  pub closed_nobody : NobodyReady (world_of rs)
  closed_nobody site some within =
      let n : length rs ≡ length ws = (lengths es ws rs gs rows h).0 in
      let few : site - 1 < length ws = omega (arith, n, some, within) in
      let k = at_place es ws rs gs rows h (site - 1) few in
      subst (λ (x : ReplicaValue). has_ready x.machine ≡ false) (sym k.one) k.ended.left.still
