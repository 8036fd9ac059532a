-- How a room is opened.
use Rattle.std.proofs.Common.{◌≡◌, ◌≢◌, ◌<◌, ◌≤◌, ◌+◌, ◌++◌, ℕ, zero, suc, List, [], ◌∷◌, Bool, true, false, cond}
use Rattle.std.proofs.Common.{nat_eq, length, map, take, drop, replicate, remove, set, get_or, slice_get, count_by}
use Rattle.std.proofs.Common.{All, Some, refl, sym, ap, ◌∙◌, subst, append_assoc, append-nil, arith}
use Rattle.std.proofs.lemmas.Bool.Decides.{nat_tests}
use Rattle.std.specs.List.{AllByRecursion, AllZip}
use Rattle.std.specs.Option.{option_to_list}
use Rattle.std.proofs.lemmas.List.Elements.{All-head, All-tail}
use Rattle.std.proofs.lemmas.List.Sums.{sum_by-cons}
use Rattle.std.proofs.lemmas.Slice.Zip.{all_zipped_more}
use Rattle.td_peer.specs.declared.opening.TheConstants.{PLACES}
use Rattle.logbook.specs.Pages.{Book}
use Rattle.td_base.specs.declared.site.TheConstants.{MAX_SITE}
use Rattle.td_replica.specs.Replica.{ReplicaValue, new_replica}
use Rattle.td_view.specs.Publishes.{start}
use Rattle.td_view.specs.Values.{ReaderValue, WriterValue, new_reader}
use Rattle.td_law_meeting.specs.Thin.{Loss}
use Rattle.td_law_meeting.specs.Rows.{AllMatch}
use Rattle.td_law_meeting.specs.Peers.{Hears}
use Rattle.td_site.specs.Sites.{SiteValue}
use Rattle.td_line.specs.Calls.{AreRecorded, answers_at, local_at}
use Rattle.td_line.specs.Lines.{LineValue, HasServed}
use Rattle.td_line.specs.Editors.{EditorValue, IsNewLine, IsNewEditor, Belongs}
use Rattle.td_peer.specs.Peers.{PeerState, peer_of, AreLinked}
use Rattle.td_peer.specs.Serving.{Serves}
use Rattle.td_peer.specs.Opening.{IsNewPeer, IsFreshRow, AreFreshRows}
use Rattle.td_peer.proofs.Later.{fresh_serves, fresh_hears}
use Rattle.td_room.specs.Workers.{WorkerValue, IsConnected, IsServing, IsWorker, given_at}
use Rattle.td_room.specs.Rooms.{IsAtHome, Joined, editors_of}
use Rattle.td_room.specs.Opening.{numbers_of, AreNewWorkers, IsEditorOpened, AreOpened, IsRoom}
use Rattle.td_room.specs.Opening.{IsOpen, AreOpen, AreFreshRowsFrom, OpenedNext}
use Rattle.td_room.proofs.Walks.{all_map}

-- ---- a new worker

no_locals : (k : ℕ) → 0 ≡ local_at [] k
no_locals zero = refl
no_locals (suc k) = refl

pub new_connected : (size site : ℕ) (lost : Loss) (r : ReplicaValue) (ps : List PeerState) → r ≡ new_replica site size
    → IsFreshRow size site lost ps → IsConnected r ps
new_connected size site lost r ps e f =
    subst (λ (x : ReplicaValue). IsConnected x ps) (sym e)
    (record {
      numbers = f.sites;
      owns = all_map (λ (p : PeerState). IsNewPeer site p.site PLACES lost p) (λ (p : PeerState). p.own ≡ site) ps
          (λ p h. ap (λ (x : PeerState). x.own) h.nothing) f.fresh;
      welcome = tt;
      hears = all_map (λ (p : PeerState). IsNewPeer site p.site PLACES lost p) (λ (p : PeerState). Hears [] (peer_of p))
          ps
          (λ p h. fresh_hears site p.site PLACES lost p h) f.fresh;
      serves = all_map (λ (p : PeerState). IsNewPeer site p.site PLACES lost p) (λ (p : PeerState). Serves [] p) ps
          (λ p h. fresh_serves site p.site PLACES lost p [] h) f.fresh;
    })

pub new_worker : (s : SiteValue) (lines : List LineValue) (ps : List PeerState) (lost : Loss)
    → s.replica ≡ new_replica s.replica.machine.site s.replica.machine.size → lines ≡ []
    → IsFreshRow s.replica.machine.size s.replica.machine.site lost ps
    → IsWorker (record { site = s; lines = lines; peers = ps })
new_worker s lines ps lost e none f =
    record {
      connected = new_connected s.replica.machine.size s.replica.machine.site lost s.replica ps e f;
      serving = subst (λ (ls : List LineValue). IsServing s ls) (sym none)
          (record {
            served = tt;
            views = tt;
            counted = λ k. no_locals k ∙ ap (λ (x : ReplicaValue). local_at x.entries k) (sym e);
          });
    }

-- ---- one line more

all_last : {X : Type 0} (P : X → Type 0) (xs : List X) (x : X) → AllByRecursion P xs → P x
    → AllByRecursion P (xs ++ x ∷ [])
all_last P [] x h p = (p, h)
all_last P (y ∷ xs) x h p = (h.0, all_last P xs x h.1 p)

given_last : (k : ℕ) (ls : List LineValue) (l : LineValue) → l.given ≡ [] → given_at k (ls ++ l ∷ []) ≡ given_at k ls
given_last k [] l e = let a : answers_at k l.given ≡ 0 = ap (answers_at k) e in omega arith
given_last k (x ∷ ls) l e = ap (λ (n : ℕ). answers_at k x.given + n) (given_last k ls l e)

pub new_line : (s : SiteValue) (ls : List LineValue) (l : LineValue) (number : ℕ) → IsNewLine number s.writer.views l
    → IsServing s ls → IsServing s (ls ++ l ∷ [])
new_line s ls l number n h =
    record {
      served = all_last (λ (x : LineValue). HasServed s.replica.entries x) ls l h.served (record {
        done = [];
        taken = n.asks ∙ ap option_to_list (sym n.ask);
        recorded = subst (λ gs. AreRecorded s.replica.entries 0 [] gs) (sym n.given) tt;
      });
      views = all_last (λ (x : LineValue). x.answers.mark ≡ Some s.writer.views) ls l h.views n.mark;
      counted = λ k. given_last k ls l n.given ∙ h.counted k;
    }

-- ---- the editors of one site

same_test : (a b : ℕ) → a ≡ b → nat_eq a b ≡ true
same_test a b e = grind (arith, nat_tests)

other_test : (a b : ℕ) → a ≢ b → nat_eq a b ≡ false
other_test a b n = grind (arith, nat_tests)

numbers_other : (site k home : ℕ) (homes : List ℕ) → home ≢ site
    → numbers_of site k (homes ++ home ∷ []) ≡ numbers_of site k homes
numbers_other site k home [] n = ap (λ (b : Bool). cond b (k ∷ []) []) (other_test home site n)
numbers_other site k home (x ∷ homes) n =
    ap (λ (l : List ℕ). cond (nat_eq x site) (k ∷ l) l) (numbers_other site (k + 1) home homes n)

numbers_own : (site k home : ℕ) (homes : List ℕ) → home ≡ site
    → numbers_of site k (homes ++ home ∷ []) ≡ numbers_of site k homes ++ (k + length homes) ∷ []
numbers_own site k home [] e =
    ap (λ (b : Bool). cond b (k ∷ []) []) (same_test home site e) ∙ ap (λ (n : ℕ). n ∷ []) (omega arith)
numbers_own site k home (x ∷ homes) e =
    let rest : numbers_of site (k + 1) (homes ++ home ∷ [])
    ≡ numbers_of site (k + 1) homes ++ (k + suc (length homes)) ∷ [] =
    numbers_own site (k + 1) home homes e
    ∙ ap (λ (n : ℕ). numbers_of site (k + 1) homes ++ n ∷ []) (one_up k (length homes)) in
    at (nat_eq x site) rest
  where
    one_up : (a b : ℕ) → a + 1 + b ≡ a + suc b
    one_up a b = omega arith

    at : (b : Bool)
        → numbers_of site (k + 1) (homes ++ home ∷ []) ≡ numbers_of site (k + 1) homes ++ (k + suc (length homes)) ∷ []
        → cond b (k ∷ numbers_of site (k + 1) (homes ++ home ∷ [])) (numbers_of site (k + 1) (homes ++ home ∷ []))
        ≡ cond b (k ∷ numbers_of site (k + 1) homes) (numbers_of site (k + 1) homes) ++ (k + suc (length homes)) ∷ []
    at true r = ap (λ (l : List ℕ). k ∷ l) r
    at false r = r

editors_other : (site : ℕ) (es : List EditorValue) (e : EditorValue) → e.home ≢ site
    → editors_of site (es ++ e ∷ []) ≡ editors_of site es
editors_other site [] e n = ap (λ (b : Bool). cond b (e ∷ []) []) (other_test e.home site n)
editors_other site (x ∷ es) e n =
    ap (λ (l : List EditorValue). cond (nat_eq x.home site) (x ∷ l) l) (editors_other site es e n)

editors_own : (site : ℕ) (es : List EditorValue) (e : EditorValue) → e.home ≡ site
    → editors_of site (es ++ e ∷ []) ≡ editors_of site es ++ e ∷ []
editors_own site [] e h = ap (λ (b : Bool). cond b (e ∷ []) []) (same_test e.home site h)
editors_own site (x ∷ es) e h = at (nat_eq x.home site) (editors_own site es e h)
  where
    at : (b : Bool) → editors_of site (es ++ e ∷ []) ≡ editors_of site es ++ e ∷ []
        → cond b (x ∷ editors_of site (es ++ e ∷ [])) (editors_of site (es ++ e ∷ []))
        ≡ cond b (x ∷ editors_of site es) (editors_of site es) ++ e ∷ []
    at true r = ap (λ (l : List EditorValue). x ∷ l) r
    at false r = r

abbrev count : ℕ → List ℕ → ℕ
count site left = count_by (λ (home : ℕ). nat_eq home site) left

count_other : (site home : ℕ) (left : List ℕ) → home ≢ site → count site (home ∷ left) ≡ count site left
count_other site home left n =
    sum_by-cons (λ (x : ℕ). cond (nat_eq x site) 1 0) home left
    ∙ ap (λ (b : Bool). cond b 1 0 + count site left) (other_test home site n) ∙ zero_front (count site left)
  where
    zero_front : (a : ℕ) → 0 + a ≡ a
    zero_front a = omega arith

count_own : (site home : ℕ) (left : List ℕ) → home ≡ site → count site (home ∷ left) ≡ suc (count site left)
count_own site home left e =
    sum_by-cons (λ (x : ℕ). cond (nat_eq x site) 1 0) home left
    ∙ ap (λ (b : Bool). cond b 1 0 + count site left) (same_test home site e) ∙ one_front (count site left)
  where
    one_front : (a : ℕ) → 1 + a ≡ suc a
    one_front a = omega arith

-- ---- a site to which the next editor does not belong, and the one to which it does

pub open_other : (done left : List ℕ) (size : ℕ) (lost : Loss) (es : List EditorValue) (site home : ℕ) (w : WorkerValue)
    (rs : List ReaderValue) (e : EditorValue) → home ≢ site → e.home ≡ home
    → IsOpen done (home ∷ left) size lost es site w rs
    → IsOpen (done ++ home ∷ []) left size lost (es ++ e ∷ []) site w rs
open_other done left size lost es site home w rs e n h o =
    record {
      new = record {
        replica = o.new.replica;
        publishes = o.new.publishes;
        late = o.new.late;
        peers = o.new.peers;
        lines = subst (λ (ns : List ℕ). AllZip (λ (number : ℕ) (l : LineValue). IsNewLine number w.site.writer.views
            l) ns w.lines)
            (sym (numbers_other site 1 home done n)) o.new.lines;
      };
      joined = subst (λ (xs : List EditorValue). AllZip (Joined w.site.writer.views) w.lines xs)
          (sym (editors_other site es e (λ g. n (sym h ∙ g)))) o.joined;
      readers_are = o.readers_are ∙ ap (λ (k : ℕ). replicate k (new_reader w.site.writer.views (start ∷ [])))
          (count_other site home left n);
    }

pub open_own : (done left : List ℕ) (size : ℕ) (lost : Loss) (es : List EditorValue) (site home : ℕ) (w v : WorkerValue)
    (rs rest : List ReaderValue) (r : ReaderValue) (l : LineValue) (e : EditorValue) (number : ℕ) → home ≡ site
    → e.home ≡ home → v ≡ record w { lines = w.lines ++ l ∷ [] } → rs ≡ r ∷ rest → number ≡ length done + 1
    → IsNewLine number r.views l → Belongs l e → e.reader ≡ r → IsOpen done (home ∷ left) size lost es site w rs
    → IsOpen (done ++ home ∷ []) left size lost (es ++ e ∷ []) site v rest
open_own done left size lost es site home w v rs rest r l e number same h is split numbered line belongs reader o =
    subst (λ (x : WorkerValue). IsOpen (done ++ home ∷ []) left size lost (es ++ e ∷ []) site x rest) (sym is) there
  where
    new : ReaderValue
    new = new_reader w.site.writer.views (start ∷ [])

    heads : (a b : ReaderValue) (us vs : List ReaderValue) → a ∷ us ≡ b ∷ vs → (a ≡ b) × (us ≡ vs)
    heads a b us vs f = (cc, cc)

    parts : (r ≡ new) × (rest ≡ replicate (count site left) new)
    parts =
        heads r new rest (replicate (count site left) new)
        (sym split ∙ o.readers_are ∙ ap (λ (k : ℕ). replicate k new) (count_own site home left same))

    views : r.views ≡ w.site.writer.views
    views = ap (λ (x : ReaderValue). x.views) parts.0

    number_is : number ≡ 1 + length done
    number_is = numbered ∙ turned (length done)
      where
        turned : (a : ℕ) → a + 1 ≡ 1 + a
        turned a = omega arith

    there : IsOpen (done ++ home ∷ []) left size lost (es ++ e ∷ []) site (record w { lines = w.lines ++ l ∷ [] }) rest
    there =
        record {
          new = record {
            replica = o.new.replica;
            publishes = o.new.publishes;
            late = o.new.late;
            peers = o.new.peers;
            lines = subst (λ (ns : List ℕ). AllZip (λ (k : ℕ) (x : LineValue). IsNewLine k w.site.writer.views x) ns
                (w.lines ++ l ∷ []))
                (sym (numbers_own site 1 home done same))
                (all_zipped_more (λ (k : ℕ) (x : LineValue). IsNewLine k w.site.writer.views x) (numbers_of site 1 done)
                w.lines (1 + length done) l
                o.new.lines (subst (λ (y : ℕ × Book). IsNewLine y.0 y.1 l) (λ i. (number_is i, views i)) line));
          };
          joined = subst (λ (xs : List EditorValue). AllZip (Joined w.site.writer.views) (w.lines ++ l ∷ []) xs)
              (sym (editors_own site es e (h ∙ same)))
              (all_zipped_more (Joined w.site.writer.views) w.lines (editors_of site es) l e o.joined
              (record { belongs = belongs; watches = ap (λ (x : ReaderValue). x.views) reader ∙ views }));
          readers_are = parts.1;
        }

-- ---- all sites

all_other : (done left : List ℕ) (size : ℕ) (lost : Loss) (es : List EditorValue) (site home : ℕ)
    (ws : List WorkerValue)
    (rss : List (List ReaderValue)) (e : EditorValue) → home < site → e.home ≡ home
    → AreOpen done (home ∷ left) size lost es site ws rss
    → AreOpen (done ++ home ∷ []) left size lost (es ++ e ∷ []) site ws rss
all_other done left size lost es site home [] [] e n h o = tt
all_other done left size lost es site home [] (rs ∷ rss) e n h o = absurd o
all_other done left size lost es site home (w ∷ ws) [] e n h o = absurd o
all_other done left size lost es site home (w ∷ ws) (rs ∷ rss) e n h o = (
  open_other done left size lost es site home w rs e (λ f. absurd (omega (arith, n, f))) h o.0,
  all_other done left size lost es (suc site) home ws rss e (omega (arith, n)) h o.1,
)

pub opens : (done left : List ℕ) (size : ℕ) (lost : Loss) (es : List EditorValue) (site home p : ℕ)
    (ws : List WorkerValue)
    (rss : List (List ReaderValue)) (w v : WorkerValue) (rs rest : List ReaderValue) (r : ReaderValue) (l : LineValue)
    (e : EditorValue) (number : ℕ) → home ≡ site + p → p < length ws → w ≡ get_or ws p w → rs ≡ get_or rss p rs
    → e.home ≡ home → v ≡ record w { lines = w.lines ++ l ∷ [] } → rs ≡ r ∷ rest → number ≡ length done + 1
    → IsNewLine number r.views l → Belongs l e → e.reader ≡ r → AreOpen done (home ∷ left) size lost es site ws rss
    → AreOpen (done ++ home ∷ []) left size lost (es ++ e ∷ []) site (set ws p v) (set rss p rest)
opens done left size lost es site home p [] rss w v rs rest r l e number at few wis rsis h is split numbered line
    belongs reader o =
    absurd (omega (arith, few))
opens done left size lost es site home p (x ∷ ws) [] w v rs rest r l e number at few wis rsis h is split numbered line
    belongs reader o =
    absurd o
opens done left size lost es site home zero (x ∷ ws) (xs ∷ rss) w v rs rest r l e number at few wis rsis h is split
    numbered line belongs reader o =
    let same : home ≡ site = omega (arith, at) in (
      open_own done left size lost es site home x v xs rest r l e number same h
          (is ∙ ap (λ (y : WorkerValue). record y { lines = y.lines ++ l ∷ [] }) wis) (sym rsis ∙ split) numbered line
          belongs reader o.0,
      all_other done left size lost es (suc site) home ws rss e (omega (arith, same)) h o.1,
    )
opens done left size lost es site home (suc p) (x ∷ ws) (xs ∷ rss) w v rs rest r l e number at few wis rsis h is split
    numbered line belongs reader o = (
      open_other done left size lost es site home x xs e (λ f. absurd (omega (arith, at, f))) h o.0,
      opens done left size lost es (suc site) home p ws rss w v rs rest r l e number (omega (arith, at))
          (omega (arith, few)) wis rsis h is split
          numbered line belongs reader o.1,
    )

-- what is there for the next editor
pub record There (home : ℕ) (ws : List WorkerValue) (rss : List (List ReaderValue)) (p : ℕ) : Type 0 where
  pub place : p < length rss
  pub some : (rs : List ReaderValue) → rs ≡ get_or rss p rs → 0 < length rs
  pub first : (w : WorkerValue) (rs rest : List ReaderValue) (r : ReaderValue) → w ≡ get_or ws p w → rs
      ≡ get_or rss p rs
      → rs ≡ r ∷ rest → r ≡ new_reader w.site.writer.views (start ∷ [])

pub there : (done left : List ℕ) (size : ℕ) (lost : Loss) (es : List EditorValue) (site home p : ℕ)
    (ws : List WorkerValue)
    (rss : List (List ReaderValue)) → home ≡ site + p → p < length ws
    → AreOpen done (home ∷ left) size lost es site ws rss
    → There home ws rss p
there done left size lost es site home p [] rss at few o = absurd (omega (arith, few))
there done left size lost es site home p (x ∷ ws) [] at few o = absurd o
there done left size lost es site home zero (x ∷ ws) (xs ∷ rss) at few o =
    let same : home ≡ site = omega (arith, at) in
    let is : xs ≡ new_reader x.site.writer.views (start ∷ []) ∷ replicate (count site left)
    (new_reader x.site.writer.views (start ∷ [])) =
    o.0.readers_are ∙ ap (λ (k : ℕ). replicate k (new_reader x.site.writer.views (start ∷ [])))
    (count_own site home left same) in
    record {
      place = omega arith;
      some = λ rs e. subst (λ (ys : List ReaderValue). 0 < length ys) (sym (e ∙ is)) (omega arith);
      first = λ w rs rest r e f g.
          heads r (new_reader x.site.writer.views (start ∷ [])) rest
          (replicate (count site left) (new_reader x.site.writer.views (start ∷ []))) (sym g ∙ f ∙ is)
          ∙ ap (λ (y : WorkerValue). new_reader y.site.writer.views (start ∷ [])) (sym e);
    }
  where
    heads : (a b : ReaderValue) (us vs : List ReaderValue) → a ∷ us ≡ b ∷ vs → a ≡ b
    heads a b us vs f = cc
there done left size lost es site home (suc p) (x ∷ ws) (xs ∷ rss) at few o =
    let h = there done left size lost es (suc site) home p ws rss (omega (arith, at)) (omega (arith, few)) o.1 in
    record { place = (let k = h.place in omega (arith, k)); some = h.some; first = h.first }

-- ---- sites opened one after another

open_last : (homes : List ℕ) (size : ℕ) (lost : Loss) (site : ℕ) (ws : List WorkerValue) (rss : List (List ReaderValue))
    (w : WorkerValue) (rs : List ReaderValue) → AreOpen [] homes size lost [] site ws rss
    → IsOpen [] homes size lost [] (site + length ws) w rs
    → AreOpen [] homes size lost [] site (ws ++ w ∷ []) (rss ++ rs ∷ [])
open_last homes size lost site [] [] w rs o n =
    (subst (λ (k : ℕ). IsOpen [] homes size lost [] k w rs) (zero_end site) n, tt)
  where
    zero_end : (a : ℕ) → a + 0 ≡ a
    zero_end a = omega arith
open_last homes size lost site [] (x ∷ rss) w rs o n = absurd o
open_last homes size lost site (x ∷ ws) [] w rs o n = absurd o
open_last homes size lost site (x ∷ ws) (xs ∷ rss) w rs o n = (
  o.0,
  open_last homes size lost (suc site) ws rss w rs o.1
      (subst (λ (k : ℕ). IsOpen [] homes size lost [] k w rs) (one_up site (length ws)) n),
)
  where
    one_up : (a b : ℕ) → a + suc b ≡ suc a + b
    one_up a b = omega arith

map_last : (ws : List WorkerValue) (w : WorkerValue)
    → map (λ (x : WorkerValue). x.peers) (ws ++ w ∷ []) ≡ map (λ (x : WorkerValue). x.peers) ws ++ w.peers ∷ []
map_last [] w = refl
map_last (x ∷ ws) w = ap (λ (l : List (List PeerState)). x.peers ∷ l) (map_last ws w)

length_last : (ws : List WorkerValue) (w : WorkerValue) → length (ws ++ w ∷ []) ≡ length ws + 1
length_last [] w = refl
length_last (x ∷ ws) w = let h = length_last ws w in omega arith

-- while sites are opened
pub record Sites (homes : List ℕ) (size : ℕ) (all left : List (List PeerState)) (ws : List WorkerValue)
    (rss : List (List ReaderValue)) : Type 0 where
  pub peers : map (λ (w : WorkerValue). w.peers) ws ++ left ≡ all
  pub many : length ws + length left ≡ size
  pub opens_all : (lost : Loss) → AreFreshRowsFrom size lost 1 all
      → AreFreshRowsFrom size lost (length ws + 1) left × AreOpen [] homes size lost [] 1 ws rss

pub sites_first : (homes : List ℕ) (size : ℕ) (all : List (List PeerState)) (ws : List WorkerValue)
    (rss : List (List ReaderValue))
    → ws ≡ [] → rss ≡ [] → length all ≡ size → Sites homes size all all ws rss
sites_first homes size all ws rss e f n =
    subst (λ (x : List WorkerValue × List (List ReaderValue)). Sites homes size all all x.0 x.1)
    (λ i. (sym e i, sym f i))
    (record {
      peers = refl;
      many = zero_front (length all) ∙ n;
      opens_all = λ lost fresh. (fresh, tt);
    })
  where
    zero_front : (a : ℕ) → 0 + a ≡ a
    zero_front a = omega arith

pub sites_next : (homes : List ℕ) (size : ℕ) (all left next : List (List PeerState)) (ws vs : List WorkerValue)
    (rss qss : List (List ReaderValue)) (row : List PeerState) → left ≡ row ∷ next → Sites homes size all left ws rss
    → OpenedNext homes size (length ws + 1) row ws vs rss qss → Sites homes size all next vs qss
sites_next homes size all left next ws vs rss qss row e s o =
    let count : length vs ≡ length ws + 1 = ap (λ (l : List WorkerValue). length l) o.last ∙ length_last ws o.worker in
    record {
      peers = ap (λ (l : List WorkerValue). map (λ (w : WorkerValue). w.peers) l ++ next) o.last
          ∙ ap (λ (l : List (List PeerState)). l ++ next) (map_last ws o.worker)
          ∙ append_assoc (map (λ (w : WorkerValue). w.peers) ws) (o.worker.peers ∷ []) next
          ∙ ap (λ (ps : List PeerState). map (λ (w : WorkerValue). w.peers) ws ++ ps ∷ next) o.peers
          ∙ ap (λ (l : List (List PeerState)). map (λ (w : WorkerValue). w.peers) ws ++ l) (sym e) ∙ s.peers;
      many =
          let a : length left ≡ suc (length next) = ap (λ (l : List (List PeerState)). length l) e in
          let b = s.many in
          omega (arith, a, b, count);
      opens_all = λ lost fresh.
          let h = s.opens_all lost fresh in
          let rows = subst (λ (l : List (List PeerState)). AreFreshRowsFrom size lost (length ws + 1) l) e h.0 in
          let up : suc (length ws + 1) ≡ length vs + 1 = omega (arith, count) in (
            subst (λ (k : ℕ). AreFreshRowsFrom size lost k next) up rows.1,
            subst (λ (x : List WorkerValue × List (List ReaderValue)). AreOpen [] homes size lost [] 1 x.0 x.1)
                (λ i. (sym o.last i, sym o.theirs i))
                (open_last homes size lost 1 ws rss o.worker o.its h.1
                (subst (λ (k : ℕ). IsOpen [] homes size lost [] k o.worker o.its) (turned (length ws))
                (o.opened lost rows.0))),
          );
    }
  where
    turned : (a : ℕ) → a + 1 ≡ 1 + a
    turned a = omega arith

pub sites_last : (homes : List ℕ) (size : ℕ) (all left : List (List PeerState)) (ws : List WorkerValue)
    (rss : List (List ReaderValue)) → length left ≡ 0 → Sites homes size all left ws rss
    → (map (λ (w : WorkerValue). w.peers) ws ≡ all)
    × ((lost : Loss) → AreFreshRowsFrom size lost 1 all → AreOpen [] homes size lost [] 1 ws rss)
sites_last homes size all [] ws rss none s =
    (sym (append-nil (map (λ (w : WorkerValue). w.peers) ws)) ∙ s.peers, λ lost fresh. (s.opens_all lost fresh).1)
sites_last homes size all (row ∷ left) ws rss none s = absurd (omega (arith, none))

fresh_from : (size : ℕ) (lost : Loss) (site : ℕ) (rows : List (List PeerState))
    → ((place : ℕ) (row : List PeerState) → slice_get rows place ≡ Some row → IsFreshRow size (site + place) lost row)
    → AreFreshRowsFrom size lost site rows
fresh_from size lost site [] f = tt
fresh_from size lost site (row ∷ rows) f = (
  subst (λ (k : ℕ). IsFreshRow size k lost row) (zero_end site) (f zero row refl),
  fresh_from size lost (suc site) rows
      (λ place r e. subst (λ (k : ℕ). IsFreshRow size k lost r) (one_up site place) (f (suc place) r e)),
)
  where
    zero_end : (a : ℕ) → a + 0 ≡ a
    zero_end a = omega arith

    one_up : (a b : ℕ) → a + suc b ≡ suc a + b
    one_up a b = omega arith

pub fresh_rows : (size : ℕ) (lost : Loss) (rows : List (List PeerState)) → AreFreshRows size lost rows
    → AreFreshRowsFrom size lost 1 rows
fresh_rows size lost rows f =
    fresh_from size lost 1 rows
    (λ place row e. subst (λ (k : ℕ). IsFreshRow size k lost row) (turned place) (f.each place row e))
  where
    turned : (a : ℕ) → a + 1 ≡ 1 + a
    turned a = omega arith

-- ---- the room

all_new : (homes : List ℕ) (size : ℕ) (lost : Loss) (es : List EditorValue) (site : ℕ) (ws : List WorkerValue)
    (rss : List (List ReaderValue)) → AreOpen homes [] size lost es site ws rss → AreNewWorkers homes size lost site ws
all_new homes size lost es site [] rss o = tt
all_new homes size lost es site (w ∷ ws) [] o = absurd o
all_new homes size lost es site (w ∷ ws) (rs ∷ rss) o = (o.0.new, all_new homes size lost es (suc site) ws rss o.1)

at_home : (homes : List ℕ) (size n : ℕ) (lost : Loss) (es : List EditorValue) (site : ℕ) (ws : List WorkerValue)
    (rss : List (List ReaderValue)) → AreOpen homes [] size lost es site ws rss → size ≡ n
    → (place : ℕ) (w : WorkerValue)
    → slice_get ws place ≡ Some w → IsAtHome es n (site + place) w
at_home homes size n lost es site [] rss o same place w e = absurd (cc e)
at_home homes size n lost es site (x ∷ ws) [] o same place w e = absurd o
at_home homes size n lost es site (x ∷ ws) (rs ∷ rss) o same zero w e =
    subst (λ (y : WorkerValue). IsAtHome es n (site + 0) y) (some_same x w e)
    (subst (λ (k : ℕ). IsAtHome es n k x) (sym (zero_end site))
    (record {
      site = ap (λ (r : ReplicaValue). r.machine.site) o.0.new.replica;
      size_is = ap (λ (r : ReplicaValue). r.machine.size) o.0.new.replica ∙ same;
      lines = o.0.joined;
    }))
  where
    some_same : (a b : WorkerValue) → Some a ≡ Some b → a ≡ b
    some_same a b f = cc

    zero_end : (a : ℕ) → a + 0 ≡ a
    zero_end a = omega arith
at_home homes size n lost es site (x ∷ ws) (rs ∷ rss) o same (suc place) w e =
    subst (λ (k : ℕ). IsAtHome es n k w) (one_up site place)
    (at_home homes size n lost es (suc site) ws rss o.1 same place w e)
  where
    one_up : (a b : ℕ) → suc a + b ≡ a + suc b
    one_up a b = omega arith

homes_within : (n : ℕ) (homes calls : List ℕ) (es : List EditorValue) → All (λ home. home ≤ n) homes
    → AreOpened homes calls es → AllByRecursion (λ (e : EditorValue). (0 < e.home) × (e.home ≤ n)) es
homes_within n [] calls [] within o = tt
homes_within n [] calls (e ∷ es) within o = absurd o
homes_within n (h ∷ homes) calls [] within o = absurd o
homes_within n (h ∷ homes) [] (e ∷ es) within o = absurd o
homes_within n (h ∷ homes) (c ∷ calls) (e ∷ es) within o = (
  subst (λ (k : ℕ). (0 < k) × (k ≤ n)) (sym o.0.new.home_is) (o.0.some, All-head (λ home. home ≤ n) h homes within),
  homes_within n homes calls es (All-tail (λ home. home ≤ n) h homes within) o.1,
)

map_length : (ws : List WorkerValue) → length (map (λ (w : WorkerValue). w.peers) ws) ≡ length ws
map_length [] = refl
map_length (w ∷ ws) = ap suc (map_length ws)

pub room_is : (n : ℕ) (homes calls : List ℕ) (lost : Loss) (rows : List (List PeerState)) (ws : List WorkerValue)
    (es : List EditorValue) (rss : List (List ReaderValue)) → 1 ≤ n → n ≤ MAX_SITE → AreFreshRows n lost rows
    → AllMatch AreLinked n rows → map (λ (w : WorkerValue). w.peers) ws ≡ rows → All (λ home. home ≤ n) homes
    → AreOpen homes [] n lost es 1 ws rss → AreOpened homes calls es
    → IsRoom n homes calls lost ws es
room_is n homes calls lost rows ws es rss some few fresh linked peers within there opened =
    let many : length ws ≡ n = sym (map_length ws) ∙ ap (λ (l : List (List PeerState)). length l) peers ∙ fresh.all in
    record {
      room = record {
        some = omega (arith, some, many);
        few = omega (arith, few, many);
        sites = λ place w e.
            subst (λ (k : ℕ). IsAtHome es (length ws) k w) (turned place)
            (at_home homes n (length ws) lost es 1 ws rss there (sym many) place w e);
        linked = subst (λ (x : ℕ × List (List PeerState)). AllMatch AreLinked x.0 x.1) (λ i. (sym many i, sym peers i))
            linked;
        homes = subst (λ (k : ℕ). AllByRecursion (λ (e : EditorValue). (0 < e.home) × (e.home ≤ k)) es) (sym many)
            (homes_within n homes calls es within opened);
      };
      size_is = many;
      workers_are = all_new homes n lost es 1 ws rss there;
      editors_are = opened;
    }
  where
    turned : (a : ℕ) → 1 + a ≡ a + 1
    turned a = omega arith

-- ---- one site, one editor

pub open_new : (homes : List ℕ) (size : ℕ) (lost : Loss) (site : ℕ) (w : WorkerValue) (rs all : List ReaderValue)
    (s : SiteValue)
    (r : ReplicaValue) (writer : WriterValue) (row ps : List PeerState) (number : ℕ)
    → w ≡ record { site = s; lines = []; peers = ps } → s ≡ record { replica = r; writer = writer; late = false }
    → r ≡ new_replica site size → writer.publishes ≡ start ∷ [] → ps ≡ row → IsFreshRow size site lost row
    → rs ≡ remove all 0 → all ≡ replicate (number + 1) (new_reader writer.views (start ∷ [])) → number
    ≡ count site homes
    → IsOpen [] homes size lost [] site w rs
open_new homes size lost site w rs all s r writer row ps number is site_is new published same fresh left readers
    counted =
    subst (λ (x : WorkerValue). IsOpen [] homes size lost [] site x rs) (sym is)
    (subst (λ (x : SiteValue). IsOpen [] homes size lost [] site (record { site = x; lines = []; peers = ps }) rs)
    (sym site_is)
    (record {
      new = record {
        replica = new;
        publishes = published;
        late = refl;
        peers = subst (λ (x : List PeerState). IsFreshRow size site lost x) (sym same) fresh;
        lines = tt;
      };
      joined = tt;
      readers_are = left ∙ ap (λ (l : List ReaderValue). remove l 0) readers
          ∙ one_fewer number (new_reader writer.views (start ∷ []))
          ∙ ap (λ (k : ℕ). replicate k (new_reader writer.views (start ∷ []))) counted;
    }))
  where
    one_fewer : (k : ℕ) (x : ReaderValue) → remove (replicate (k + 1) x) 0 ≡ replicate k x
    one_fewer k x = let e : k + 1 ≡ suc k = omega arith in ap (λ (j : ℕ). remove (replicate j x) 0) e

pub opened : (home calls : ℕ) (r : ReaderValue) (e : EditorValue) (views : Book) → 1 ≤ home → IsNewEditor home r calls e
    → r ≡ new_reader views (start ∷ []) → IsEditorOpened home calls e
opened home calls r e views some n is =
    let same : e.reader ≡ new_reader views (start ∷ []) = n.reader_is ∙ is in
    record {
      some = omega (arith, some);
      new = record {
        home_is = n.home_is;
        reader_is = refl;
        calls_is = n.calls_is;
        places = n.places;
        made = n.made;
        entry = n.entry;
        asks = n.asks;
        answers = n.answers;
      };
      reader = same ∙ ap (λ (x : ReaderValue). new_reader x.views (start ∷ [])) (sym same);
    }

pub peers_set : (ws : List WorkerValue) (p : ℕ) (w v : WorkerValue) (l : LineValue) → w ≡ get_or ws p w
    → v ≡ record w { lines = w.lines ++ l ∷ [] }
    → map (λ (x : WorkerValue). x.peers) (set ws p v) ≡ map (λ (x : WorkerValue). x.peers) ws
peers_set [] p w v l e f = refl
peers_set (x ∷ ws) zero w v l e f =
    ap (λ (ps : List PeerState). ps ∷ map (λ (y : WorkerValue). y.peers) ws)
    (ap (λ (y : WorkerValue). y.peers) f ∙ ap (λ (y : WorkerValue). y.peers) e)
peers_set (x ∷ ws) (suc p) w v l e f =
    ap (λ (rows : List (List PeerState)). x.peers ∷ rows) (peers_set ws p w v l e f)

-- ---- one more of the homes and of the numbers of calls

pub take_one : (xs : List ℕ) (i d : ℕ) → i < length xs → take (i + 1) xs ≡ take i xs ++ get_or xs i d ∷ []
take_one xs i d l =
    let one : i + 1 ≡ suc i = omega arith in ap (λ (k : ℕ). take k xs) one ∙ next xs i l
  where
    next : (ys : List ℕ) (k : ℕ) → k < length ys → take (suc k) ys ≡ take k ys ++ get_or ys k d ∷ []
    next [] k m = absurd (omega (arith, m))
    next (y ∷ ys) zero m = refl
    next (y ∷ ys) (suc k) m = ap (λ (l : List ℕ). y ∷ l) (next ys k (omega (arith, m)))

pub drop_one : (xs : List ℕ) (i d : ℕ) → i < length xs → drop i xs ≡ get_or xs i d ∷ drop (i + 1) xs
drop_one xs i d l =
    let one : suc i ≡ i + 1 = omega arith in next xs i l ∙ ap (λ (k : ℕ). get_or xs i d ∷ drop k xs) one
  where
    next : (ys : List ℕ) (k : ℕ) → k < length ys → drop k ys ≡ get_or ys k d ∷ drop (suc k) ys
    next [] k m = absurd (omega (arith, m))
    next (y ∷ ys) zero m = refl
    next (y ∷ ys) (suc k) m = next ys k (omega (arith, m))

pub take_length : (xs : List ℕ) (i : ℕ) → i ≤ length xs → length (take i xs) ≡ i
take_length xs zero l = refl
take_length [] (suc i) l = absurd (omega (arith, l))
take_length (x ∷ xs) (suc i) l = ap suc (take_length xs i (omega (arith, l)))

pub take_whole : (xs : List ℕ) (i : ℕ) → length xs ≤ i → take i xs ≡ xs
take_whole [] zero l = refl
take_whole [] (suc i) l = refl
take_whole (x ∷ xs) zero l = absurd (omega (arith, l))
take_whole (x ∷ xs) (suc i) l = ap (λ (ys : List ℕ). x ∷ ys) (take_whole xs i (omega (arith, l)))

pub drop_whole : (xs : List ℕ) (i : ℕ) → length xs ≤ i → drop i xs ≡ []
drop_whole [] zero l = refl
drop_whole [] (suc i) l = refl
drop_whole (x ∷ xs) zero l = absurd (omega (arith, l))
drop_whole (x ∷ xs) (suc i) l = drop_whole xs i (omega (arith, l))

pub opened_more : (homes calls : List ℕ) (es : List EditorValue) (home number : ℕ) (e : EditorValue)
    → length calls ≡ length homes → AreOpened homes calls es → IsEditorOpened home number e
    → AreOpened (homes ++ home ∷ []) (calls ++ number ∷ []) (es ++ e ∷ [])
opened_more [] [] [] home number e n o k = (k, tt)
opened_more [] (x ∷ calls) [] home number e n o k = absurd (omega (arith, n))
opened_more [] calls (x ∷ es) home number e n o k = absurd o
opened_more (h ∷ homes) calls [] home number e n o k = absurd o
opened_more (h ∷ homes) [] (x ∷ es) home number e n o k = absurd o
opened_more (h ∷ homes) (c ∷ calls) (x ∷ es) home number e n o k =
    (o.0, opened_more homes calls es home number e (omega (arith, n)) o.1 k)

pub all_get : (P : ℕ → Type 0) (xs : List ℕ) (i h : ℕ) → All P xs → i < length xs → h ≡ get_or xs i h → P h
all_get P [] i h a l e = absurd (omega (arith, l))
all_get P (x ∷ xs) zero h a l e = subst P (sym e) (All-head P x xs a)
all_get P (x ∷ xs) (suc i) h a l e = all_get P xs i h (All-tail P x xs a) (omega (arith, l)) e

pub all_le : (m n : ℕ) (xs : List ℕ) → m ≡ n → All (λ x. x ≤ m) xs → All (λ x. x ≤ n) xs
all_le m n xs e a = subst (λ (k : ℕ). All (λ x. x ≤ k) xs) e a

pub as_many_workers : (ws vs : List WorkerValue)
    → map (λ (w : WorkerValue). w.peers) ws ≡ map (λ (w : WorkerValue). w.peers) vs → length ws ≡ length vs
as_many_workers ws vs e =
    sym (map_length ws) ∙ ap (λ (l : List (List PeerState)). length l) e ∙ map_length vs

pub workers_of_rows : (n : ℕ) (lost : Loss) (rows : List (List PeerState)) (ws : List WorkerValue)
    → AreFreshRows n lost rows
    → map (λ (w : WorkerValue). w.peers) ws ≡ rows → length ws ≡ n
workers_of_rows n lost rows ws f e =
    sym (map_length ws) ∙ ap (λ (l : List (List PeerState)). length l) e ∙ f.all
