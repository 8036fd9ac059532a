-- The peers of a worker, one of which is heard or told.
use Rattle.std.proofs.Common.{◌≡◌, ◌≢◌, ◌<◌, ◌≤◌, ◌+◌, ◌++◌, ℕ, zero, suc, List, [], ◌∷◌, true, not, nat_eq}
use Rattle.std.proofs.Common.{length, map, set, get_or, refl, sym, ap, ◌∙◌, subst, inl, inr, arith}
use Rattle.std.specs.List.{AllByRecursion, range_with_len}
use Rattle.std.proofs.lemmas.Bool.Decides.{nat_tests}
use Rattle.td_base.specs.Lists.{In, Successive}
use Rattle.td_base.proofs.Lists.{In-filter, In-map, map_successive, successive_filter}
use Rattle.td_op.specs.declared.message.Message.{Message}
use Rattle.td_replica.specs.Replica.{ReplicaValue}
use Rattle.td_law_meeting.specs.Takes.{takes_from}
use Rattle.td_law_meeting.specs.Peers.{ArePackets, Hears}
use Rattle.td_law_meeting.specs.Accounts.{others}
use Rattle.td_site.specs.Sites.{SiteValue}
use Rattle.std.specs.Option.{option_to_list}
use Rattle.td_peer.specs.Peers.{PeerState, packets, peer_of}
use Rattle.td_peer.specs.Serving.{Serves, LaterPeer}
use Rattle.td_room.specs.Later.{Heard}
use Rattle.td_room.specs.Workers.{IsConnected}
use Rattle.td_room.proofs.Heards.{hears_on}
use Rattle.td_peer.proofs.Later.{serves_more}

-- ---- one of a list

pub all_get : {X : Type 0} (P : X → Type 0) (xs : List X) (i : ℕ) (x : X) → AllByRecursion P xs → i < length xs
    → x ≡ get_or xs i x → P x
all_get P [] i x h l e = absurd (omega (arith, l))
all_get P (y ∷ xs) zero x h l e = subst P (sym e) h.0
all_get P (y ∷ xs) (suc i) x h l e = all_get P xs i x h.1 (omega (arith, l)) e

all_both : {X : Type 0} (R P Q : X → Type 0) (xs : List X) → ((x : X) → R x → P x → Q x) → AllByRecursion R xs
    → AllByRecursion P xs → AllByRecursion Q xs
all_both R P Q [] f r p = p
all_both R P Q (x ∷ xs) f r p = (f x r.0 p.0, all_both R P Q xs f r.1 p.1)

-- no two have one number
abbrev pub Apart : List PeerState → Type 0
Apart ps = Successive (λ (p q : PeerState). p.site ≢ q.site) ps

all_set : (P Q : PeerState → Type 0) (ps : List PeerState) (i : ℕ) (p q : PeerState) → i < length ps → p ≡ get_or ps i p
    → Apart ps → ((x : PeerState) → x.site ≢ p.site → P x → Q x) → (P p → Q q) → AllByRecursion P ps
    → AllByRecursion Q (set ps i q)
all_set P Q [] i p q l e a f g h = absurd (omega (arith, l))
all_set P Q (x ∷ ps) zero p q l e a f g h = (
  g (subst P (sym e) h.0),
  all_both (λ (y : PeerState). x.site ≢ y.site) P Q ps
      (λ y r k. f y (λ (s : y.site ≡ p.site). r (sym (s ∙ ap (λ (z : PeerState). z.site) e))) k) a.0 h.1,
)
all_set P Q (x ∷ ps) (suc i) p q l e a f g h =
    let k : i < length ps = omega (arith, l) in
    (f x (all_get (λ (y : PeerState). x.site ≢ y.site) ps i p a.0 k e) h.0, all_set P Q ps i p q k e a.1 f g h.1)

numbers_set : (ps : List PeerState) (i : ℕ) (p q : PeerState) → i < length ps → p ≡ get_or ps i p → q.site ≡ p.site
    → map (λ (x : PeerState). x.site) (set ps i q) ≡ map (λ (x : PeerState). x.site) ps
numbers_set [] i p q l e n = refl
numbers_set (x ∷ ps) zero p q l e n =
    ap (λ (k : ℕ). k ∷ map (λ (y : PeerState). y.site) ps) (n ∙ ap (λ (y : PeerState). y.site) e)
numbers_set (x ∷ ps) (suc i) p q l e n =
    ap (λ (ns : List ℕ). x.site ∷ ns) (numbers_set ps i p q (omega (arith, l)) e n)

-- ---- the numbers of the others

all_above : (j k n : ℕ) → j < k → AllByRecursion (λ (b : ℕ). j ≢ b) (range_with_len k n)
all_above j k zero l = tt
all_above j k (suc n) l = ((λ e. absurd (omega (arith, l, e))), all_above j (k + 1) n (omega (arith, l)))

numbers_apart : (k n : ℕ) → Successive (λ (a b : ℕ). a ≢ b) (range_with_len k n)
numbers_apart k zero = tt
numbers_apart k (suc n) = (all_above k (k + 1) n (omega arith), numbers_apart (k + 1) n)

pub apart_of : (size site : ℕ) (ps : List PeerState) → map (λ (p : PeerState). p.site) ps ≡ others size site → Apart ps
apart_of size site ps e =
    map_successive (λ (a b : ℕ). a ≢ b) (λ (p : PeerState). p.site) ps
    (subst (λ (ns : List ℕ). Successive (λ (a b : ℕ). a ≢ b) ns) (sym e)
    (successive_filter (λ (a b : ℕ). a ≢ b) (λ (k : ℕ). not (nat_eq k site)) (range_with_len 1 size)
    (numbers_apart 1 size)))

numbers_within : (k n s : ℕ) → In s (range_with_len k n) → (k ≤ s) × (s < k + n)
numbers_within k zero s i = absurd i
numbers_within k (suc n) s (inl e) = (omega (arith, e), omega (arith, e))
numbers_within k (suc n) s (inr i) =
    let h = numbers_within (k + 1) n s i in (omega (arith, h.0), omega (arith, h.1))

pub record Another (size site s : ℕ) : Type 0 where
  pub some : 0 < s
  pub within : s ≤ size
  pub other : s ≢ site

another : (size site s : ℕ) → In s (others size site) → Another size site s
another size site s i =
    let f = In-filter (λ (k : ℕ). not (nat_eq k site)) s (range_with_len 1 size) i in
    let w = numbers_within 1 size s f.0 in
    record { some = omega (arith, w.0); within = omega (arith, w.1); other = differs s site f.1 }
  where
    differs : (a b : ℕ) → not (nat_eq a b) ≡ true → a ≢ b
    differs a b h e = absurd (contradiction a b h e)
      where
        contradiction : (c d : ℕ) → not (nat_eq c d) ≡ true → c ≡ d → ⊥
        contradiction c d k f = grind (arith, nat_tests)

get_in : (ps : List PeerState) (i : ℕ) (p : PeerState) → i < length ps → p ≡ get_or ps i p → In p ps
get_in [] i p l e = absurd (omega (arith, l))
get_in (x ∷ ps) zero p l e = inl e
get_in (x ∷ ps) (suc i) p l e = inr (get_in ps i p (omega (arith, l)) e)

pub another_at : (r : ReplicaValue) (ps : List PeerState) (i : ℕ) (p : PeerState) → IsConnected r ps → i < length ps
    → p ≡ get_or ps i p → Another r.machine.size r.machine.site p.site
another_at r ps i p c l e =
    another r.machine.size r.machine.site p.site
    (subst (λ (ns : List ℕ). In p.site ns) c.numbers (In-map (λ (x : PeerState). x.site) p ps (get_in ps i p l e)))

-- ---- one peer is heard

serves_kept : (sent : List Message) (p q : PeerState) → q ≡ record p { inbox = q.inbox; waiting = q.waiting }
    → Serves sent p
    → Serves sent q
serves_kept sent p q e s =
    subst (λ (x : PeerState). Serves sent x) (sym e)
    (record {
      tells = record { within = s.tells.within; next = s.tells.next; packets = s.tells.packets };
      counted = s.counted;
      twice = s.twice;
    })

pub heard_connected : (s t : SiteValue) (ps : List PeerState) (i : ℕ) (p q : PeerState) → Heard s p t q → i < length ps
    → p ≡ get_or ps i p → IsConnected s.replica ps → IsConnected t.replica (set ps i q)
heard_connected s t ps i p q v l e c =
    let a = apart_of s.replica.machine.size s.replica.machine.site ps c.numbers in
    let k = another_at s.replica ps i p c l e in
    record {
      numbers = numbers_set ps i p q l e v.peer.site ∙ c.numbers
          ∙ (λ j. others (sym v.later.size j) (sym v.later.site j));
      owns = all_set (λ (x : PeerState). x.own ≡ s.replica.machine.site)
          (λ (x : PeerState). x.own ≡ t.replica.machine.site)
          ps i p q l e a (λ x n o. o ∙ sym v.later.site) (λ o. v.peer.own ∙ o ∙ sym v.later.site) c.owns;
      welcome = v.welcome k.some k.within k.other c.welcome;
      hears = all_set (λ (x : PeerState). Hears s.replica.entries (peer_of x))
          (λ (x : PeerState). Hears t.replica.entries (peer_of x))
          ps i p q l e a (λ x n h. hears_on s.replica.entries t.replica.entries x (v.others x.site n) h) v.hears
          c.hears;
      serves = all_set (λ (x : PeerState). Serves s.replica.machine.sent x)
          (λ (x : PeerState). Serves t.replica.machine.sent x)
          ps i p q l e a (λ x n h. grown x h) (λ h. grown q (serves_kept s.replica.machine.sent p q v.kept h)) c.serves;
    }
  where
    grown : (x : PeerState) → Serves s.replica.machine.sent x → Serves t.replica.machine.sent x
    grown x h =
        subst (λ (m : List Message). Serves m x) v.later.sent.1 (serves_more s.replica.machine.sent v.later.sent.0 x h)

-- ---- one peer is told

pub told_connected : (r : ReplicaValue) (ps : List PeerState) (i : ℕ) (p q : PeerState) → i < length ps → p
    ≡ get_or ps i p
    → LaterPeer p q → q.inbox ≡ p.inbox → q.waiting ≡ p.waiting → Serves r.machine.sent q → IsConnected r ps
    → IsConnected r (set ps i q)
told_connected r ps i p q l e later inbox waiting serves c =
    let a = apart_of r.machine.size r.machine.site ps c.numbers in
    record {
      numbers = numbers_set ps i p q l e later.site ∙ c.numbers;
      owns = all_set (λ (x : PeerState). x.own ≡ r.machine.site) (λ (x : PeerState). x.own ≡ r.machine.site)
          ps i p q l e a (λ x n o. o) (λ o. later.own ∙ o) c.owns;
      welcome = c.welcome;
      hears = all_set (λ (x : PeerState). Hears r.entries (peer_of x)) (λ (x : PeerState). Hears r.entries (peer_of x))
          ps i p q l e a (λ x n h. h)
          same c.hears;
      serves = all_set (λ (x : PeerState). Serves r.machine.sent x) (λ (x : PeerState). Serves r.machine.sent x)
          ps i p q l e a (λ x n h. h) (λ h. serves) c.serves;
    }
  where
    same : Hears r.entries (peer_of p) → Hears r.entries (peer_of q)
    same h =
        subst (λ (v : List Message × List (List ℕ)). ArePackets v.0 v.1)
        (λ j. (
          takes_from (sym later.site j) r.entries
              ++ option_to_list (sym waiting j),
          packets (ap (λ x. x.taken) (sym inbox) j),
        )) h
