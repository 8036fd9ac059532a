-- A move that fits a world leads to a world.
use Rattle.std.proofs.Common.{◌≡◌, ◌≢◌, ◌<◌, ◌≤◌, ◌-◌, ◌++◌, ℕ, suc, List, [], ◌∷◌, Bool, true}
use Rattle.std.proofs.Common.{false, not, nat_eq, length, map, filter, drop, set, refl, sym, ap, ◌∙◌}
use Rattle.std.proofs.Common.{subst, ⊎_elim, append-nil, true≢false, arith}
use Rattle.std.proofs.lemmas.Bool.{eqb-true, eqb-false, eq-eqb, and_parts}
use Rattle.std.proofs.lemmas.List.{length-set}
use Rattle.std.proofs.lemmas.List.Elements.{filter-append}
use Rattle.td_base.specs.Lists.{In}
use Rattle.td_base.proofs.Lists.{In-append, In-front, filter_In}
use Rattle.td_base.proofs.Searches.{In-drop, filter_all, filter_none}
use Rattle.td_op.specs.declared.entry.Entry.{Entry}
use Rattle.td_op.specs.declared.message.Message.{Message}
use Rattle.td_op.specs.declared.message.Message.TheVariants.{Op as AnOp, Vote as AVote}
use Rattle.td_machine.specs.Machine.{Machine, start}
use Rattle.td_machine.specs.Step.{step}
use Rattle.td_machine.specs.History.{History, IsConsistent, IsAddressed, MayCome, machine, after, history, with_entry}
use Rattle.td_op.specs.Message.{sender, is_for}
use Rattle.td_machine.proofs.Growing.{consistent_more, step_sends}
use Rattle.td_machine.proofs.Induction.{after_both}
use Rattle.td_replica.specs.Replica.{ReplicaValue, after_step}
use Rattle.td_world.specs.World.{WorldValue, Move, IsWorld, IsFit, size, replica, machine_of}
use Rattle.td_world.specs.World.{family_of, is_sent_by, sent_by, moved, moved_all}
use Rattle.td_world.proofs.Named.{sending_end, own_named, site_is}
use Rattle.td_world.proofs.Replicas.{set_same, set_other, history_from, with_entries}

-- what is for a site was sent by another and is addressed to it
pub for_parts : (site : ℕ) (message : Message) → is_for site message ≡ true
    → (sender message ≢ site) × IsAddressed site message
for_parts site (AnOp x) e = (apart (nat_eq x.dot.site site) refl e, tt)
  where
    apart : (b : Bool) → nat_eq x.dot.site site ≡ b → not b ≡ true → x.dot.site ≢ site
    apart true f g = absurd (true≢false (sym g))
    apart false f g = eqb-false x.dot.site site f
for_parts site (AVote v) e =
    let p = and_parts (not (nat_eq v.voter site)) (nat_eq v.proposal.site site) e in
    (apart (nat_eq v.voter site) refl p.0, eqb-true v.proposal.site site p.1)
  where
    apart : (b : Bool) → nat_eq v.voter site ≡ b → not b ≡ true → v.voter ≢ site
    apart true f g = absurd (true≢false (sym g))
    apart false f g = eqb-false v.voter site f

pub size_family : (w : WorldValue) → length (family_of w) ≡ size w
size_family w = at w.replicas
  where
    at : (replicas : List ReplicaValue) → length (map (λ (r : ReplicaValue). r.entries) replicas) ≡ length replicas
    at [] = refl
    at (r ∷ replicas) = ap (λ (k : ℕ). suc k) (at replicas)

-- what is dropped in front was there
pub drop_front : {X : Type 0} (xs ys : List X) → drop (length xs) (xs ++ ys) ≡ ys
drop_front [] ys = refl
drop_front (x ∷ xs) ys = drop_front xs ys

-- ---- the replicas after a move

pub size_moved : (w : WorldValue) (move : Move) → size (moved move w) ≡ size w
size_moved w move = length-set w.replicas (move.site - 1) (after_step move.input (replica w move.site))

pub moved_here : (w : WorldValue) (move : Move) → 0 < move.site → move.site ≤ size w
    → replica (moved move w) move.site ≡ after_step move.input (replica w move.site)
moved_here w move some within =
    set_same w.replicas (move.site - 1) (after_step move.input (replica w move.site)) (omega (arith, some, within))

pub moved_there : (w : WorldValue) (move : Move) → 0 < move.site → (s : ℕ) → 0 < s → s ≢ move.site
    → replica (moved move w) s ≡ replica w s
moved_there w move some s up other =
    set_other w.replicas (move.site - 1) (s - 1) (after_step move.input (replica w move.site))
    (λ (e : move.site - 1 ≡ s - 1). other (omega (arith, some, up, e)))

-- ---- what may come

module _ (w : WorldValue) (i : IsWorld w) where
  pub low : (site : ℕ) → site ≤ size w → site ≤ length (family_of w)
  low site within = let e : length (family_of w) ≡ size w = size_family w in omega (arith, e, within)

  -- what another site sent and addressed here may come
  pub may_come : (site : ℕ) → 0 < site → site ≤ size w → (message : Message) → In message w.sent
      → is_for site message ≡ true → MayCome (family_of w) site (machine (family_of w) site) message
  may_come site some within message inside to =
      let p = for_parts site message to in
      let from = i.senders message inside in
      let sent : In message (machine (family_of w) (sender message)).sent =
      subst (λ (m : Machine). In message m.sent) (i.machines (sender message) from.0 from.1)
      (subst (λ (l : List Message). In message l) (i.sent (sender message) from.0 from.1)
      (filter_In (is_sent_by (sender message)) message w.sent inside (eq-eqb (sender message) (sender message) refl)))
      in
      record {
        another = p.0;
        sent = sent;
        addressed = p.1;
        own_made = own_named (family_of w) i.consistent (sender message) from.0 (low (sender message) from.1) site some
            (low site within) message sent p.1;
      }

module _ (w : WorldValue) (i : IsWorld w) (move : Move) (fit : IsFit w move) where
  abbrev site : ℕ
  site = move.site

  abbrev old : Machine
  old = machine_of w move.site

  abbrev new : Machine
  new = (step (machine_of w move.site) move.input).machine

  abbrev now : WorldValue
  now = moved move w

  same_size : size now ≡ size w
  same_size = size_moved w move

  here : replica now move.site ≡ after_step move.input (replica w move.site)
  here = moved_here w move fit.some fit.within

  there : (s : ℕ) → 0 < s → s ≢ move.site → replica now s ≡ replica w s
  there = moved_there w move fit.some

  -- the machine of the family is that of the world
  abbrev entry : Entry
  entry = record { input = move.input; reply = (step (machine (family_of w) move.site) move.input).reply }

  same_old : old ≡ machine (family_of w) move.site
  same_old = i.machines move.site fit.some fit.within

  family_now : family_of now ≡ with_entry (family_of w) move.site entry
  family_now =
      with_entries w.replicas (move.site - 1) (after_step move.input (replica w move.site)) entry
      (ap (λ (m : Machine). (replica w move.site).entries
      ++ (record { input = move.input; reply = (step m move.input).reply }) ∷ [])
      same_old)

  consistent_now : IsConsistent (family_of now)
  consistent_now =
      subst IsConsistent (sym family_now)
      (consistent_more (family_of w) i.consistent move.site fit.some (low w i move.site fit.within) move.input fit.valid
      (λ message e.
      let came = fit.came message e in may_come w i move.site fit.some fit.within message came.0 came.1))

  length_now : length (family_of now) ≡ length (family_of w)
  length_now = size_family now ∙ same_size ∙ sym (size_family w)

  -- a machine of the family now
  machine_now : (s : ℕ) → machine (family_of now) s ≡ after (start s (length (family_of w))) (replica now s).entries
  machine_now s =
      ap (λ (n : ℕ). after (start s n) (history (family_of now) s)) length_now
      ∙ ap (λ (h : History). after (start s (length (family_of w))) h)
      (history_from (set w.replicas (move.site - 1) (after_step move.input (replica w move.site))) (s - 1))

  machine_was : (s : ℕ) → machine (family_of w) s ≡ after (start s (length (family_of w))) (replica w s).entries
  machine_was s = ap (λ (h : History). after (start s (length (family_of w))) h) (history_from w.replicas (s - 1))

  machines_now : (s : ℕ) → 0 < s → s ≤ size now → machine_of now s ≡ machine (family_of now) s
  machines_now s up within = at (nat_eq s move.site) refl
    where
      at : (b : Bool) → nat_eq s move.site ≡ b → machine_of now s ≡ machine (family_of now) s
      at true e =
          let same : s ≡ move.site = eqb-true s move.site e in
          subst (λ (t : ℕ). machine_of now t ≡ machine (family_of now) t) (sym same)
          (ap (λ (r : ReplicaValue). r.machine) here
          ∙ ap (λ (m : Machine). (step m move.input).machine) (same_old ∙ machine_was move.site)
          ∙ sym (machine_now move.site
          ∙ ap (λ (r : ReplicaValue). after (start move.site (length (family_of w))) r.entries) here
          ∙ after_both (start move.site (length (family_of w))) (replica w move.site).entries
          ((record { input = move.input; reply = (step old move.input).reply }) ∷ [])))
      at false e =
          let other : s ≢ move.site = eqb-false s move.site e in
          let few : s ≤ size w = (let k : size now ≡ size w = same_size in omega (arith, within, k)) in
          ap (λ (r : ReplicaValue). r.machine) (there s up other)
          ∙ (i.machines s up few ∙ machine_was s)
          ∙ sym (machine_now s
          ∙ ap (λ (r : ReplicaValue). after (start s (length (family_of w))) r.entries) (there s up other))

  -- what is sent is the site's own
  more_sent : new.sent ≡ old.sent ++ sent_by move w
  more_sent =
      let more = step_sends old move.input in
      more.1 ∙ ap (λ (l : List Message). old.sent ++ l)
      (sym (ap (λ (l : List Message). drop (length old.sent) l) more.1 ∙ drop_front old.sent more.0))

  own_sent : (message : Message) → In message (sent_by move w) → sender message ≡ move.site
  own_sent message j =
      let within : move.site ≤ size now = (let k : size now ≡ size w = same_size in
      let l : move.site ≤ size w = fit.within in omega (arith, k, l)) in
      let few : move.site ≤ length (family_of now) =
      (let k : length (family_of now) ≡ size now = size_family now in omega (arith, k, within)) in
      let end : machine (family_of now) move.site ≡ new =
      sym (machines_now move.site fit.some within) ∙ ap (λ (r : ReplicaValue). r.machine) here in
      let inside : In message new.sent = In-drop message (length old.sent) new.sent j in
      (sending_end (family_of now) consistent_now move.site fit.some few).own message
      (subst (λ (m : Machine). In message m.sent) (sym end) inside)
      ∙ site_is (family_of now) consistent_now move.site fit.some few

  sent_now : (s : ℕ) → 0 < s → s ≤ size now → filter (is_sent_by s) now.sent ≡ (machine_of now s).sent
  sent_now s up within = at (nat_eq s move.site) refl
    where
      few : s ≤ size w
      few = let k : size now ≡ size w = same_size in omega (arith, within, k)

      at : (b : Bool) → nat_eq s move.site ≡ b → filter (is_sent_by s) now.sent ≡ (machine_of now s).sent
      at true e =
          let same : s ≡ move.site = eqb-true s move.site e in
          filter-append (is_sent_by s) w.sent (sent_by move w)
          ∙ ap (λ (l : List Message). l ++ filter (is_sent_by s) (sent_by move w)) (i.sent s up few)
          ∙ ap (λ (l : List Message). (machine_of w s).sent ++ l)
          (filter_all (is_sent_by s) (sent_by move w) (λ message j. eq-eqb (sender message) s
          (own_sent message j ∙ sym same)))
          ∙ ap (λ (t : ℕ). (machine_of w t).sent ++ sent_by move w) same
          ∙ sym (ap (λ (t : ℕ). (machine_of now t).sent) same ∙ ap (λ (r : ReplicaValue). r.machine.sent) here
          ∙ more_sent)
      at false e =
          let other : s ≢ move.site = eqb-false s move.site e in
          filter-append (is_sent_by s) w.sent (sent_by move w)
          ∙ ap (λ (l : List Message). l ++ filter (is_sent_by s) (sent_by move w)) (i.sent s up few)
          ∙ ap (λ (l : List Message). (machine_of w s).sent ++ l)
          (filter_none (is_sent_by s) (sent_by move w)
          (λ message j. off message (λ (k : sender message ≡ s). other (sym k ∙ own_sent message j))
          (nat_eq (sender message) s) refl))
          ∙ append-nil (machine_of w s).sent
          ∙ sym (ap (λ (r : ReplicaValue). r.machine.sent) (there s up other))
        where
          off : (message : Message) → (sender message ≡ s → ⊥) → (b : Bool) → nat_eq (sender message) s ≡ b
              → nat_eq (sender message) s ≡ false
          off message apart true f = absurd (apart (eqb-true (sender message) s f))
          off message apart false f = f

  senders_now : (message : Message) → In message now.sent → (0 < sender message) × (sender message ≤ size now)
  senders_now message j =
      ⊎_elim
      (λ (k : In message w.sent).
      let s = i.senders message k in
      let within : sender message ≤ size w = s.1 in
      (s.0, subst (λ (n : ℕ). sender message ≤ n) (sym same_size) within))
      (λ (k : In message (sent_by move w)).
      let same : sender message ≡ move.site = own_sent message k in (
        subst (λ (t : ℕ). 0 < t) (sym same) fit.some,
        subst (λ (n : ℕ). sender message ≤ n) (sym same_size) (subst (λ (t : ℕ). t ≤ size w) (sym same) fit.within),
      ))
      (In-append message w.sent (sent_by move w) j)

  pub world_moved : IsWorld (moved move w)
  world_moved =
      record { consistent = consistent_now; machines = machines_now; sent = sent_now; senders = senders_now }

-- moves that fit one after another
abbrev pub AreFit : List Move → WorldValue → Type 0
AreFit [] w = Unit {0}
AreFit (move ∷ moves) w = IsFit w move × AreFit moves (moved move w)

pub world_after : (moves : List Move) (w : WorldValue) → IsWorld w → AreFit moves w → IsWorld (moved_all moves w)
world_after [] w i fit = i
world_after (move ∷ moves) w i fit = world_after moves (moved move w) (world_moved w i move fit.0) fit.1

pub moved_both : (front back : List Move) (w : WorldValue)
    → moved_all (front ++ back) w ≡ moved_all back (moved_all front w)
moved_both [] back w = refl
moved_both (move ∷ front) back w = moved_both front back (moved move w)

pub fit_both : (front back : List Move) (w : WorldValue) → AreFit front w → AreFit back (moved_all front w)
    → AreFit (front ++ back) w
fit_both [] back w f b = b
fit_both (move ∷ front) back w f b = (f.0, fit_both front back (moved move w) f.1 b)

pub fit_front : (front back : List Move) (w : WorldValue) → AreFit (front ++ back) w → AreFit front w
fit_front [] back w f = tt
fit_front (move ∷ front) back w f = (f.0, fit_front front back (moved move w) f.1)

-- what was sent stays sent
pub still_sent : (moves : List Move) (w : WorldValue) (message : Message) → In message w.sent
    → In message (moved_all moves w).sent
still_sent [] w message i = i
still_sent (move ∷ moves) w message i =
    still_sent moves (moved move w) message (In-front message w.sent (sent_by move w) i)

pub size_after : (moves : List Move) (w : WorldValue) → size (moved_all moves w) ≡ size w
size_after [] w = refl
size_after (move ∷ moves) w = size_after moves (moved move w) ∙ size_moved w move
