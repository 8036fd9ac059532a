-- The set of the votes that were sent, vote by vote, and what it says of the messages sent.
use Rattle.std.proofs.Common.{◌≡◌, ◌≢◌, ◌-◌, ◌==◌, ◌&&◌, ◌||◌, ℕ, List, Bool, true, false, cond, nat_lt, Some}
use Rattle.std.proofs.Common.{◌≤◌, ◌+◌, length, slice_get, refl, sym, ap, subst, ◌∙◌, true≢false, arith}
use Rattle.std.specs.List.{list_any}
use Rattle.std.proofs.lemmas.Bool.{eq-eqb, eqb-true, eqb-false, ne_eqb, lt-ltb, le-ltb, ltb-true, ltb-false}
use Rattle.std.proofs.lemmas.Option.{slice_get_past}
use Rattle.std.proofs.lemmas.Cmp.{on_total, then_total, nat_cmp_total, tied_itself, ranked}
use Rattle.std.specs.BTreeSet.{BTreeSet, contains}
use Rattle.std.specs.Cmp.{IsTotalOrder, bool_cmp_total}
use Rattle.std.specs.declared.cmp.Ordering.TheVariants.{Equal}
use Rattle.std.specs.Ordering.{bool_cmp, is_eq, eq_by_cmp}
use Rattle.td_base.specs.Lists.{In}
use Rattle.td_base.proofs.Lists.{any_found, any_from}
use Rattle.td_base.proofs.Orders.{dot_total, equal_dots, then_equal, is_eq_true}
use Rattle.td_op.specs.declared.message.Message.{Message}
use Rattle.td_op.specs.declared.message.Message.TheVariants.{Op, Vote as AVote}
use Rattle.td_op.specs.declared.vote.Vote.{Vote}
use Rattle.td_machine.specs.Machine.{Machine}
use Rattle.td_check.specs.declared.sent.SentVote.{SentVote}
use Rattle.td_check.specs.SentVotes.{sent_cmp, sent_vote, is_vote, sends, was_sent}

-- ---- the order of keys

pub sent_total : IsTotalOrder sent_cmp
sent_total =
    then_total (on_total (λ (x : SentVote). x.voter) nat_cmp_total)
    (then_total (on_total (λ (x : SentVote). x.proposal) dot_total) (on_total (λ (x : SentVote). x.yes) bool_cmp_total))

equal_bools : (b c : Bool) → bool_cmp b c ≡ Equal → b ≡ c
equal_bools false false e = refl
equal_bools false true e = cc
equal_bools true false e = cc
equal_bools true true e = refl

-- votes with one key are one
pub same_votes : (v w : Vote) → eq_by_cmp sent_cmp (sent_vote w) (sent_vote v) ≡ true → v ≡ w
same_votes v w h =
    let all = then_equal _ _ (is_eq_true _ h) in
    let rest = then_equal _ _ all.1 in
    let voter : w.voter ≡ v.voter = ranked w.voter v.voter Equal (sym all.0) in
    let proposal = equal_dots w.proposal v.proposal rest.0 in
    let yes = equal_bools w.yes v.yes rest.1 in
    λ i. record { proposal = sym proposal i; voter = sym voter i; yes = sym yes i }

-- ---- one more vote

-- behind the vote w, which is that of the site at this place
pub vote_added : (old new : BTreeSet SentVote) (w : Vote) (place : ℕ) → w.voter - 1 ≡ place
    → ((q : SentVote) → contains sent_cmp new q
    ≡ cond (eq_by_cmp sent_cmp (sent_vote w) q) true (contains sent_cmp old q))
    → (v : Vote) → contains sent_cmp new (sent_vote v)
    ≡ (contains sent_cmp old (sent_vote v) || (v.voter - 1 == place && is_vote v (AVote w)))
vote_added old new w place here updates v =
    updates (sent_vote v)
    ∙ at (eq_by_cmp sent_cmp (sent_vote w) (sent_vote v)) (contains sent_cmp old (sent_vote v)) (v.voter - 1 == place)
    (λ e. eq-eqb (v.voter - 1) place (ap (λ (x : Vote). x.voter - 1) (same_votes v w e) ∙ here))
  where
    at : (same before placed : Bool) → (same ≡ true → placed ≡ true)
        → cond same true before ≡ (before || (placed && same))
    at true true placed h = refl
    at true false placed h = sym (ap (λ (b : Bool). b && true) (h refl))
    at false true placed h = refl
    at false false true h = refl
    at false false false h = refl

-- a vote of another site's changes nothing
pub vote_passed : (set : BTreeSet SentVote) (w : Vote) (place : ℕ) → w.voter - 1 ≢ place
    → (v : Vote) → contains sent_cmp set (sent_vote v)
    ≡ (contains sent_cmp set (sent_vote v) || (v.voter - 1 == place && is_vote v (AVote w)))
vote_passed set w place apart v =
    at (eq_by_cmp sent_cmp (sent_vote w) (sent_vote v)) (contains sent_cmp set (sent_vote v)) (v.voter - 1 == place)
    (λ e.
    let one : w.voter - 1 ≡ v.voter - 1 = ap (λ (x : Vote). x.voter - 1) (sym (same_votes v w e)) in
    ne_eqb (v.voter - 1) place (λ (p : v.voter - 1 ≡ place). apart (one ∙ p)))
  where
    at : (same before placed : Bool) → (same ≡ true → placed ≡ false) → before ≡ (before || (placed && same))
    at same true placed h = refl
    at true false placed h = sym (ap (λ (b : Bool). b && true) (h refl))
    at false false true h = refl
    at false false false h = refl

-- ---- one more message, one more site

-- one more vote behind what was there before
pub message_added : (before placed all more : Bool) → (before || (placed && (all || more)))
    ≡ ((before || (placed && all)) || (placed && more))
message_added true placed all more = refl
message_added false true all more = refl
message_added false false all more = refl

-- the votes of the sites at the first so many places
abbrev pub sent_before : List Machine → ℕ → Vote → Bool
sent_before machines places v = nat_lt (v.voter - 1) places && was_sent machines v

-- one more site
pub sent_next : (machines : List Machine) (place : ℕ) (m : Machine) → slice_get machines place ≡ Some m → (v : Vote)
    → (sent_before machines place v || (v.voter - 1 == place && list_any (is_vote v) m.sent))
    ≡ sent_before machines (place + 1) v
sent_next machines place m here v = at (nat_lt k place) refl (k == place) refl
  where
    k : ℕ
    k = v.voter - 1

    was : Bool
    was = was_sent machines v

    more : Bool
    more = list_any (is_vote v) m.sent

    or_false : (b : Bool) → (b || false) ≡ b
    or_false true = refl
    or_false false = refl

    at : (low : Bool) → nat_lt k place ≡ low → (same : Bool) → (k == place) ≡ same
        → ((low && was) || (same && more)) ≡ (nat_lt k (place + 1) && was)
    at true l same e =
        let apart : same ≡ false = sym e ∙ ne_eqb k place (λ (p : k ≡ place). omega (arith, ltb-true k place l, p)) in
        (λ i. was || (apart i && more)) ∙ or_false was
        ∙ sym (ap (λ (b : Bool). b && was) (lt-ltb k (place + 1) (omega (arith, ltb-true k place l))))
    at false l true e =
        let one : k ≡ place = eqb-true k place e in
        sym (ap (sends v) (ap (slice_get machines) one ∙ here))
        ∙ sym (ap (λ (b : Bool). b && was) (lt-ltb k (place + 1) (omega (arith, one))))
    at false l false e =
        let high = ltb-false k place l in
        let apart = eqb-false k place e in
        sym (ap (λ (b : Bool). b && was) (le-ltb k (place + 1) (omega (arith, high, apart))))

-- all sites
pub sent_all : (machines : List Machine) (places : ℕ) → length machines ≤ places → (v : Vote)
    → sent_before machines places v ≡ was_sent machines v
sent_all machines places all v = at (nat_lt k places) refl
  where
    k : ℕ
    k = v.voter - 1

    at : (low : Bool) → nat_lt k places ≡ low → (low && was_sent machines v) ≡ was_sent machines v
    at true l = refl
    at false l = sym (ap (sends v) (slice_get_past machines k (omega (arith, ltb-false k places l, all))))

-- ---- what was sent

vote_found : (v : Vote) (message : Message) → is_vote v message ≡ true → message ≡ AVote v
vote_found v (Op x) h = absurd (true≢false (sym h))
vote_found v (AVote w) h = ap AVote (sym (same_votes v w h))

pub sent_in : (machines : List Machine) (v : Vote) (m : Machine) → slice_get machines (v.voter - 1) ≡ Some m
    → was_sent machines v ≡ true → In (AVote v) m.sent
sent_in machines v m e h =
    let found = any_found (is_vote v) m.sent (sym (ap (sends v) e) ∙ h) in
    subst (λ (message : Message). In message m.sent) (vote_found v found.0 found.2) found.1

pub in_sent : (machines : List Machine) (v : Vote) (m : Machine) → slice_get machines (v.voter - 1) ≡ Some m
    → In (AVote v) m.sent → was_sent machines v ≡ true
in_sent machines v m e h =
    ap (sends v) e
    ∙ any_from (is_vote v) m.sent (AVote v) h (ap is_eq (tied_itself sent_total (sent_vote v)))
