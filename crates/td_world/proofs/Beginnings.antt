-- How a world begins.
use Rattle.std.proofs.Common.{◌≡◌, ◌<◌, ◌≤◌, ◌+◌, ◌-◌, ◌++◌, ℕ, zero, suc, List, [], ◌∷◌, Bool, true}
use Rattle.std.proofs.Common.{false, nat_eq, length, map, filter, replicate, take, Some, refl, sym, ap}
use Rattle.std.proofs.Common.{◌∙◌, subst, ⊎_elim, append-nil, append_assoc, arith}
use Rattle.std.proofs.lemmas.Bool.{eqb-true, eqb-false, eq-eqb}
use Rattle.std.proofs.lemmas.List.{length-replicate}
use Rattle.std.specs.List.{filter_map, slice_get}
use Rattle.std.proofs.lemmas.List.Elements.{filter-append}
use Rattle.td_base.specs.declared.site.TheConstants.{MAX_SITE}
use Rattle.td_base.specs.Lists.{In}
use Rattle.td_base.proofs.Lists.{In-append}
use Rattle.td_base.proofs.Searches.{filter_all, filter_none}
use Rattle.td_op.specs.declared.message.Message.{Message}
use Rattle.td_history.specs.Standing.{StandFor}
use Rattle.td_history.proofs.Standing.{stand_filter_map}
use Rattle.td_machine.specs.Machine.{start}
use Rattle.td_machine.specs.History.{History, IsConsistent, machine, after, history}
use Rattle.td_op.specs.Message.{sender}
use Rattle.td_machine.proofs.Growing.{consistent_start}
use Rattle.td_replica.specs.Replica.{ReplicaValue, IsReplica, new_replica, has_ready}
use Rattle.td_replica.proofs.Legal.{built}
use Rattle.td_world.specs.declared.post.Post.{Post}
use Rattle.td_world.specs.World.{WorldValue, IsWorld, AreSites, replica, replica_from, machine_of, family_of}
use Rattle.td_world.specs.World.{new_replicas, new_world, all_sent, world_of, is_sent_by}
use Rattle.td_world.specs.Parts.{posted, world_value, new_posts, ArePassed, IsWorldParts}
use Rattle.td_world.specs.Promises.{NobodyReady}
use Rattle.td_world.proofs.Moves.{size_family}
use Rattle.td_world.proofs.Posts.{news_stand, stand_both}
use Rattle.td_world.proofs.Replicas.{history_from, new_from, new_length}
use Rattle.td_world.proofs.Sending.{sending}

-- ---- nothing is passed

zero_at : (n k count : ℕ) → slice_get (replicate n 0) k ≡ Some count → 0 ≡ count
zero_at zero k count e = absurd cc
zero_at (suc n) zero count e = cc
zero_at (suc n) (suc k) count e = zero_at n k count e

none_passed : (site count : ℕ) (w : WorldValue) → 0 ≡ count → ArePassed site w count
none_passed site count w e = (omega (arith, e), (λ k less. absurd (omega (arith, less, e))))

-- ---- sites that have done nothing

new_histories : (n k site : ℕ) → map (λ (r : ReplicaValue). r.entries) (new_replicas n k site) ≡ replicate k []
new_histories n zero site = refl
new_histories n (suc k) site = ap (λ (l : List History). [] ∷ l) (new_histories n k (suc site))

pub new_is_world : (n : ℕ) → 1 ≤ n → n ≤ MAX_SITE → IsWorld (new_world n)
new_is_world n some few =
    record {
      consistent = subst IsConsistent (sym (new_histories n n 1)) (consistent_start n some few);
      machines = λ site up within. machines site up (omega (arith, within, long));
      sent = λ site up within. sym (ap (λ (r : ReplicaValue). r.machine.sent)
          (here site up (omega (arith, within, long))));
      senders = λ message i. absurd i;
    }
  where
    long : length (new_replicas n n 1) ≡ n
    long = new_length n n 1

    here : (site : ℕ) → 0 < site → site ≤ n → replica (new_world n) site ≡ new_replica site n
    here site up within =
        let same : 1 + (site - 1) ≡ site = omega (arith, up) in
        new_from n n 1 (site - 1) (omega (arith, up, within)) ∙ ap (λ (s : ℕ). new_replica s n) same

    machines : (site : ℕ) → 0 < site → site ≤ n → machine_of (new_world n) site ≡ machine (family_of (new_world n)) site
    machines site up within =
        ap (λ (r : ReplicaValue). r.machine) (here site up within)
        ∙ sym (ap (λ (k : ℕ). after (start site k) (history (family_of (new_world n)) site))
        (size_family (new_world n) ∙ long)
        ∙ ap (λ (h : History). after (start site n) h)
        (history_from (new_replicas n n 1) (site - 1) ∙ ap (λ (r : ReplicaValue). r.entries) (here site up within)))

pub new_parts : (n : ℕ) → 1 ≤ n → n ≤ MAX_SITE → IsWorldParts (new_replicas n n 1) [] (replicate n 0)
new_parts n some few =
    record {
      world = new_is_world n some few;
      standing = tt;
      sites = length-replicate n 0 ∙ sym (new_length n n 1);
      known = λ place count e. none_passed (place + 1) count (world_value (new_replicas n n 1) [])
          (zero_at n place count e);
    }

pub new_more : (n k site : ℕ) → new_replicas n (k + 1) site ≡ new_replicas n k site ++ new_replica (site + k) n ∷ []
new_more n zero site =
    let one : 0 + 1 ≡ 1 = omega arith in
    let same : site ≡ site + 0 = omega arith in
    ap (λ (s : ℕ). new_replica s n ∷ []) same
new_more n (suc k) site =
    let one : suc k + 1 ≡ suc (k + 1) = omega arith in
    let same : suc site + k ≡ site + suc k = omega arith in
    ap (λ (j : ℕ). new_replicas n j site) one
    ∙ ap (λ (l : List ReplicaValue). new_replica site n ∷ l)
    (new_more n k (suc site) ∙ ap (λ (s : ℕ). new_replicas n k (suc site) ++ new_replica s n ∷ []) same)

pub zeros_more : (k : ℕ) → replicate {A = ℕ} (k + 1) 0 ≡ replicate {A = ℕ} k 0 ++ 0 ∷ []
zeros_more zero = refl
zeros_more (suc k) =
    let one : suc k + 1 ≡ suc (k + 1) = omega arith in
    ap (λ (j : ℕ). replicate {A = ℕ} j 0) one ∙ ap (λ (l : List ℕ). 0 ∷ l) (zeros_more k)

-- ---- sites that did something before

-- what each of so many sites sent, from this one on, is its own
abbrev pub AreOwn : ℕ → List ReplicaValue → Type 0
AreOwn site [] = Unit {0}
AreOwn site (r ∷ replicas) =
    ((message : Message) → In message r.machine.sent → sender message ≡ site) × AreOwn (suc site) replicas

own_sent : (site s : ℕ) (replicas : List ReplicaValue) → AreOwn site replicas → s < site
    → filter (is_sent_by s) (all_sent replicas) ≡ []
own_sent site s [] own less = refl
own_sent site s (r ∷ replicas) own less =
    filter-append (is_sent_by s) r.machine.sent (all_sent replicas)
    ∙ (λ i. none i ++ own_sent (suc site) s replicas own.1 (omega (arith, less)) i)
  where
    off : (message : Message) → sender message ≡ site → (b : Bool) → nat_eq (sender message) s ≡ b
        → nat_eq (sender message) s ≡ false
    off message e true f = let same : sender message ≡ s = eqb-true (sender message) s f in
        absurd (omega (arith, e, same, less))
    off message e false f = f

    none : filter (is_sent_by s) r.machine.sent ≡ []
    none =
        filter_none (is_sent_by s) r.machine.sent
        (λ message i. off message (own.0 message i) (nat_eq (sender message) s) refl)

pub sent_there : (site k : ℕ) (replicas : List ReplicaValue) → AreOwn site replicas → k < length replicas
    → filter (is_sent_by (site + k)) (all_sent replicas) ≡ (replica_from replicas k).machine.sent
sent_there site k [] own less = absurd (omega (arith, less))
sent_there site zero (r ∷ replicas) own less =
    let same : site + 0 ≡ site = omega arith in
    filter-append (is_sent_by (site + 0)) r.machine.sent (all_sent replicas)
    ∙ (λ i. all i ++ none i) ∙ append-nil r.machine.sent
  where
    all : filter (is_sent_by (site + 0)) r.machine.sent ≡ r.machine.sent
    all =
        filter_all (is_sent_by (site + 0)) r.machine.sent
        (λ message i. eq-eqb (sender message) (site + 0)
        (let e : sender message ≡ site = own.0 message i in omega (arith, e)))

    none : filter (is_sent_by (site + 0)) (all_sent replicas) ≡ []
    none = own_sent (suc site) (site + 0) replicas own.1 (omega arith)
sent_there site (suc k) (r ∷ replicas) own less =
    let same : suc site + k ≡ site + suc k = omega arith in
    filter-append (is_sent_by (site + suc k)) r.machine.sent (all_sent replicas)
    ∙ (λ i. none i ++ filter (is_sent_by (site + suc k)) (all_sent replicas))
    ∙ ap (λ (s : ℕ). filter (is_sent_by s) (all_sent replicas)) (sym same)
    ∙ sent_there (suc site) k replicas own.1 (omega (arith, less))
  where
    off : (message : Message) → sender message ≡ site → (b : Bool) → nat_eq (sender message) (site + suc k) ≡ b
        → nat_eq (sender message) (site + suc k) ≡ false
    off message e true f =
        let same : sender message ≡ site + suc k = eqb-true (sender message) (site + suc k) f in
        absurd (omega (arith, e, same))
    off message e false f = f

    none : filter (is_sent_by (site + suc k)) r.machine.sent ≡ []
    none =
        filter_none (is_sent_by (site + suc k)) r.machine.sent
        (λ message i. off message (own.0 message i) (nat_eq (sender message) (site + suc k)) refl)

senders_there : (site : ℕ) (replicas : List ReplicaValue) → AreOwn site replicas → (message : Message)
    → In message (all_sent replicas) → (site ≤ sender message) × (sender message < site + length replicas)
senders_there site [] own message i = absurd i
senders_there site (r ∷ replicas) own message i =
    ⊎_elim
    (λ (j : In message r.machine.sent).
    let e : sender message ≡ site = own.0 message j in (omega (arith, e), omega (arith, e)))
    (λ (j : In message (all_sent replicas)).
    let h = senders_there (suc site) replicas own.1 message j in
    let up : suc site ≤ sender message = h.0 in
    let low : sender message < suc site + length replicas = h.1 in
    (omega (arith, up), omega (arith, low)))
    (In-append message r.machine.sent (all_sent replicas) i)

-- each replica of the list has a history that leads to its machine
abbrev pub AreReplicas : List ReplicaValue → Type 0
AreReplicas replicas = (place : ℕ) → place < length replicas → IsReplica (replica_from replicas place)

own_from : (site : ℕ) (replicas : List ReplicaValue)
    → ((place : ℕ) → place < length replicas → IsReplica (replica_from replicas place)
    × ((replica_from replicas place).machine.site ≡ site + place))
    → AreOwn site replicas
own_from site [] h = tt
own_from site (r ∷ replicas) h =
    let first = h zero (omega arith) in
    let same : site + 0 ≡ site = omega arith in (
      (λ message i. (sending r.machine (built r first.0)).own message i ∙ first.1 ∙ same),
      own_from (suc site) replicas
          (λ place less.
          let next = h (suc place) (omega (arith, less)) in
          let more : site + suc place ≡ suc site + place = omega arith in (next.0, next.1 ∙ more)),
    )

module _ (replicas : List ReplicaValue) (sites : AreSites replicas) (each : AreReplicas replicas)
    (consistent : IsConsistent (map (λ (r : ReplicaValue). r.entries) replicas)) where
  own : AreOwn 1 replicas
  own =
      own_from 1 replicas
      (λ place less.
      let same : place + 1 ≡ 1 + place = omega arith in (each place less, (sites place less).0 ∙ same))

  machines : (site : ℕ) → 0 < site → site ≤ length replicas
      → machine_of (world_of replicas) site ≡ machine (family_of (world_of replicas)) site
  machines site up within =
      let place : site - 1 < length replicas = omega (arith, up, within) in
      let r : ReplicaValue = replica_from replicas (site - 1) in
      let at : (replica_from replicas (site - 1)).machine.site ≡ site - 1 + 1 = (sites (site - 1) place).0 in
      let same : site - 1 + 1 ≡ site = omega (arith, up) in
      (each (site - 1) place).is
      ∙ (λ i. after (start ((at ∙ same) i) ((sites (site - 1) place).1 i)) r.entries)
      ∙ sym (ap (λ (k : ℕ). after (start site k) (history (family_of (world_of replicas)) site))
      (size_family (world_of replicas))
      ∙ ap (λ (h : History). after (start site (length replicas)) h) (history_from replicas (site - 1)))

  pub world_of_is_world : IsWorld (world_of replicas)
  world_of_is_world =
      record {
        consistent = consistent;
        machines = machines;
        sent = λ site up within.
            let same : 1 + (site - 1) ≡ site = omega (arith, up) in
            ap (λ (s : ℕ). filter (is_sent_by s) (all_sent replicas)) (sym same)
            ∙ sent_there 1 (site - 1) replicas own (omega (arith, up, within));
        senders = λ message i.
            let h = senders_there 1 replicas own message i in
            let up : 1 ≤ sender message = h.0 in
            let low : sender message < 1 + length replicas = h.1 in
            (omega (arith, up), omega (arith, low));
      }

  pub of_parts : (posts : List Post) → StandFor (posted replicas) posts (all_sent replicas)
      → IsWorldParts replicas posts (replicate (length replicas) 0)
  of_parts posts stand =
      let same : filter_map (posted replicas) posts ≡ all_sent replicas =
      stand_filter_map (posted replicas) posts (all_sent replicas) stand in
      record {
        world = subst (λ (l : List Message). IsWorld (record { replicas = replicas; sent = l })) (sym same)
            world_of_is_world;
        standing = subst (λ (l : List Message). StandFor (posted replicas) posts l) (sym same) stand;
        sites = length-replicate (length replicas) 0;
        known = λ place count e.
            none_passed (place + 1) count (world_value replicas posts) (zero_at (length replicas) place count e);
      }

pub of_value : (replicas : List ReplicaValue) (posts : List Post) → StandFor (posted replicas) posts (all_sent replicas)
    → world_value replicas posts ≡ world_of replicas
of_value replicas posts stand =
    as_world (stand_filter_map (posted replicas) posts (all_sent replicas) stand)
  where
    as_world : filter_map (posted replicas) posts ≡ all_sent replicas → world_value replicas posts ≡ world_of replicas
    as_world e = ap (λ (l : List Message). with_sent l) e
      where
        with_sent : List Message → WorldValue
        with_sent l = record { replicas = replicas; sent = l }

-- what one more site sent
sent_upto : (k : ℕ) (replicas : List ReplicaValue) → k < length replicas
    → all_sent (take (k + 1) replicas) ≡ all_sent (take k replicas) ++ (replica_from replicas k).machine.sent
sent_upto k [] less = absurd (omega (arith, less))
sent_upto zero (r ∷ replicas) less =
    let one : 0 + 1 ≡ 1 = omega arith in append-nil r.machine.sent
sent_upto (suc k) (r ∷ replicas) less =
    let one : suc k + 1 ≡ suc (k + 1) = omega arith in
    ap (λ (j : ℕ). all_sent (take j (r ∷ replicas))) one
    ∙ ap (λ (l : List Message). r.machine.sent ++ l) (sent_upto k replicas (omega (arith, less)))
    ∙ sym (append_assoc r.machine.sent (all_sent (take k replicas)) (replica_from replicas k).machine.sent)

-- after so many sites
pub record IsOpening (replicas : List ReplicaValue) (k : ℕ) (posts : List Post) (passed : List ℕ) : Type 0 where
  pub stand : StandFor (posted replicas) posts (all_sent (take k replicas))
  pub passed_is : passed ≡ replicate {A = ℕ} k 0
  pub each : (place : ℕ) → place < k → IsReplica (replica_from replicas place)

pub opening_more : (replicas : List ReplicaValue) (k : ℕ) (posts posts_now : List Post) (passed passed_now : List ℕ)
    → AreSites replicas → k < length replicas → IsOpening replicas k posts passed → (r : ReplicaValue) → r
    ≡ replica_from replicas k
    → IsReplica r → (site count : ℕ) → site ≡ r.machine.site → count ≡ length r.machine.sent
    → posts_now ≡ posts ++ new_posts site count 0 → passed_now ≡ passed ++ 0 ∷ []
    → IsOpening replicas (k + 1) posts_now passed_now
opening_more replicas k posts posts_now passed passed_now sites less o r at is site count e f g h =
    let here : site ≡ k + 1 = e ∙ ap (λ (q : ReplicaValue). q.machine.site) at ∙ (sites k less).0 in
    let back : k + 1 - 1 ≡ k = omega arith in
    let many : count ≡ length (replica_from replicas k).machine.sent =
    f ∙ ap (λ (q : ReplicaValue). length q.machine.sent) at in
    let news : StandFor (posted replicas) (new_posts (k + 1) (length (replica_from replicas k).machine.sent) 0)
    (replica_from replicas k).machine.sent =
    news_stand replicas (k + 1) [] (replica_from replicas k).machine.sent
    (ap (λ (j : ℕ). (replica_from replicas j).machine.sent) back) in
    record {
      stand = subst (λ (l : List Message). StandFor (posted replicas) posts_now l) (sym (sent_upto k replicas less))
          (subst (λ (l : List Post).
          StandFor (posted replicas) l (all_sent (take k replicas) ++ (replica_from replicas k).machine.sent))
          (sym (g ∙ (λ i. posts ++ new_posts (here i) (many i) 0)))
          (stand_both (posted replicas) posts (all_sent (take k replicas))
          (new_posts (k + 1) (length (replica_from replicas k).machine.sent) 0) (replica_from replicas k).machine.sent
          o.stand news));
      passed_is = h ∙ (ap (λ (l : List ℕ). l ++ 0 ∷ []) o.passed_is ∙ sym (zeros_more k));
      each = λ place less. cases place less (nat_eq place k) refl;
    }
  where
    cases : (place : ℕ) → place < k + 1 → (b : Bool) → nat_eq place k ≡ b → IsReplica (replica_from replicas place)
    cases place below true q =
        subst (λ (j : ℕ). IsReplica (replica_from replicas j)) (sym (eqb-true place k q)) (subst IsReplica at is)
    cases place below false q = let other = eqb-false place k q in o.each place (omega (arith, below, other))

take_whole : {X : Type 0} (xs : List X) → take (length xs) xs ≡ xs
take_whole [] = refl
take_whole {X = X} (x ∷ xs) = ap (λ (l : List X). x ∷ l) (take_whole xs)

-- after all of them
pub record IsOpen (replicas : List ReplicaValue) (posts : List Post) (passed : List ℕ) : Type 0 where
  pub parts : IsWorldParts replicas posts passed
  pub value : world_value replicas posts ≡ world_of replicas

pub opening_done : (replicas : List ReplicaValue) (k : ℕ) (posts : List Post) (passed : List ℕ) → AreSites replicas
    → IsConsistent (map (λ (r : ReplicaValue). r.entries) replicas) → IsOpening replicas k posts passed → k
    ≡ length replicas
    → IsOpen replicas posts passed
opening_done replicas k posts passed sites consistent o all =
    let stand : StandFor (posted replicas) posts (all_sent replicas) =
    subst (λ (l : List ReplicaValue). StandFor (posted replicas) posts (all_sent l)) (take_whole replicas)
    (subst (λ (j : ℕ). StandFor (posted replicas) posts (all_sent (take j replicas))) all o.stand) in
    let each : AreReplicas replicas = λ place less. o.each place (omega (arith, less, all)) in
    record {
      parts = subst (λ (l : List ℕ). IsWorldParts replicas posts l)
          (sym (o.passed_is ∙ ap (λ (j : ℕ). replicate {A = ℕ} j 0) all))
          (of_parts replicas sites each consistent posts stand);
      value = of_value replicas posts stand;
    }

-- nobody waits at the beginning
pub new_nobody : (n : ℕ) → NobodyReady (new_world n)
new_nobody n site up within =
    let long : length (new_replicas n n 1) ≡ n = new_length n n 1 in
    let same : 1 + (site - 1) ≡ site = omega (arith, up) in
    ap (λ (r : ReplicaValue). has_ready r.machine)
    (new_from n n 1 (site - 1) (omega (arith, up, within, long)) ∙ ap (λ (s : ℕ). new_replica s n) same)
