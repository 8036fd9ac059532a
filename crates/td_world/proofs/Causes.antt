-- The causes of what give answers, and that settle leaves one world.
use Rattle.std.proofs.Common.{◌≡◌, ◌≢◌, ◌⊎◌, ◌↔◌, ◌≤◌, ◌+◌, ◌++◌, ℕ, zero, suc, List, [], Bool, true}
use Rattle.std.proofs.Common.{false, not, if◌then◌else◌, nat_eq, Option, Some, None, refl, sym, ap}
use Rattle.std.proofs.Common.{◌∙◌, inl, inr, ⊎_elim, append-nil, arith}
use Rattle.std.proofs.lemmas.Bool.{eqb-true, eq-eqb, and_from}
use Rattle.td_op.specs.declared.message.Message.{Message}
use Rattle.td_op.specs.declared.message.Message.TheVariants.{Op as AnOp, Vote as AVote}
use Rattle.td_base.specs.Lists.{kth}
use Rattle.td_machine.specs.History.{IsAddressed}
use Rattle.td_op.specs.Message.{sender, is_for}
use Rattle.td_replica.specs.declared.given.Given.TheVariants.{NoSuch, Stray}
use Rattle.td_world.specs.World.{WorldValue, Move, moved_all}
use Rattle.td_world.specs.Calls.{found_given, numbered_given, took, pass, passes, count_given, IsSettled}
use Rattle.td_world.proofs.Moves.{for_parts}
use Rattle.td_world.proofs.Settling.{passes_last}

-- ---- for whom a message is

apart : (a b : ℕ) → (a ≡ b → ⊥) → (t : Bool) → nat_eq a b ≡ t → not (nat_eq a b) ≡ true
apart a b d true e = absurd (d (eqb-true a b e))
apart a b d false e = ap (λ (t : Bool). not t) e

pub for_is : (site : ℕ) (message : Message)
    → is_for site message ≡ true ↔ (sender message ≢ site) × IsAddressed site message
for_is site message = (for_parts site message, back message)
  where
    back : (m : Message) → (sender m ≢ site) × IsAddressed site m → is_for site m ≡ true
    back (AnOp x) p = apart x.dot.site site p.0 (nat_eq x.dot.site site) refl
    back (AVote v) p =
        and_from (not (nat_eq v.voter site)) (nat_eq v.proposal.site site)
        (apart v.voter site p.0 (nat_eq v.voter site) refl) (eq-eqb v.proposal.site site p.1)

-- ---- what give answers

took_other : (site : ℕ) (message : Message) (w : WorldValue) → (took site message w ≡ NoSuch → ⊥)
    × (took site message w ≡ Stray → ⊥)
took_other site message w = ((λ e. no_such e), (λ e. stray e))
  where
    no_such : took site message w ≡ NoSuch → ⊥
    no_such e = cc

    stray : took site message w ≡ Stray → ⊥
    stray e = cc

pub no_such_is : (site number : ℕ) (w : WorldValue) → numbered_given site number w ≡ NoSuch ↔ (kth number w.sent ≡ None)
no_such_is site number w = at (kth number w.sent)
  where
    at : (o : Option Message) → found_given site o w ≡ NoSuch ↔ (o ≡ None)
    at None = ((λ e. refl), (λ e. refl))
    at (Some m) = (cases (is_for site m), (λ e. absurd (some_none e)))
      where
        some_none : Some m ≡ None → ⊥
        some_none e = cc

        stray_no : Stray ≡ NoSuch → ⊥
        stray_no e = cc

        cases : (b : Bool) → (if b then took site m w else Stray) ≡ NoSuch → Some m ≡ None
        cases true e = absurd ((took_other site m w).0 e)
        cases false e = absurd (stray_no e)

pub stray_is : (site number : ℕ) (w : WorldValue) → numbered_given site number w ≡ Stray
    ↔ ((message : Message) × (kth number w.sent ≡ Some message) × (is_for site message ≡ false))
stray_is site number w = at (kth number w.sent)
  where
    at : (o : Option Message) → found_given site o w ≡ Stray
        ↔ ((message : Message) × (o ≡ Some message) × (is_for site message ≡ false))
    at None = ((λ e. absurd (no_stray e)), (λ p. absurd (none_some p.0 p.1)))
      where
        no_stray : NoSuch ≡ Stray → ⊥
        no_stray e = cc

        none_some : (m : Message) → None ≡ Some m → ⊥
        none_some m e = cc
    at (Some m) = ((λ e. (m, refl, cases (is_for site m) refl e)), (λ p. back p.0 p.1 p.2))
      where
        cases : (b : Bool) → is_for site m ≡ b → (if b then took site m w else Stray) ≡ Stray → is_for site m ≡ false
        cases true f e = absurd ((took_other site m w).1 e)
        cases false f e = f

        same : (a b : Message) → Some a ≡ Some b → a ≡ b
        same a b e = cc

        back : (n : Message) → Some m ≡ Some n → is_for site n ≡ false → found_given site (Some m) w ≡ Stray
        back n e f =
            ap (λ (b : Bool). if b then took site m w else Stray)
            (ap (λ (k : Message). is_for site k) (same m n e) ∙ f)

-- ---- settle

-- once a pass gives nothing, no further one does
pub passes_end : (k d : ℕ) (w : WorldValue) → pass (moved_all (passes k w) w) ≡ [] → passes (d + k) w ≡ passes k w
passes_end k zero w e = let same : 0 + k ≡ k = omega arith in ap (λ (n : ℕ). passes n w) same
passes_end k (suc d) w e =
    let one : suc d + k ≡ suc (d + k) = omega arith in
    let before : passes (d + k) w ≡ passes k w = passes_end k d w e in
    ap (λ (n : ℕ). passes n w) one ∙ passes_last (d + k) w
    ∙ ap (λ (l : List Move). l ++ pass (moved_all l w)) before
    ∙ ap (λ (l : List Move). passes k w ++ l) e ∙ append-nil (passes k w)

passes_same : (j k : ℕ) (w : WorldValue) → j ≤ k → pass (moved_all (passes j w) w) ≡ [] → passes k w ≡ passes j w
passes_same j k w less e =
    let d = difference j k less in ap (λ (n : ℕ). passes n w) d.1 ∙ passes_end j d.0 w e
  where
    difference : (a b : ℕ) → a ≤ b → (d : ℕ) × (b ≡ d + a)
    difference zero b h = (b, omega arith)
    difference (suc a) zero h = absurd (omega (arith, h))
    difference (suc a) (suc b) h =
        let r = difference a b (omega (arith, h)) in let e : b ≡ r.0 + a = r.1 in (r.0, omega (arith, e))

ended : (old new : WorldValue) (given : ℕ) (s : IsSettled old new given) → pass (moved_all (passes s.number old) old)
    ≡ []
ended old new given s = ap pass (sym s.after) ∙ s.still

ordered : (a b : ℕ) → (a ≤ b) ⊎ (b ≤ a)
ordered zero b = inl (omega arith)
ordered (suc a) zero = inr (omega arith)
ordered (suc a) (suc b) =
    ⊎_elim (λ (h : a ≤ b). inl (omega (arith, h))) (λ (h : b ≤ a). inr (omega (arith, h))) (ordered a b)

pub settled_one : (old new other : WorldValue) (given more : ℕ) → IsSettled old new given → IsSettled old other more
    → (new ≡ other) × (given ≡ more)
settled_one old new other given more s t =
    let same : passes s.number old ≡ passes t.number old =
    ⊎_elim
    (λ (h : s.number ≤ t.number). sym (passes_same s.number t.number old h (ended old new given s)))
    (λ (h : t.number ≤ s.number). passes_same t.number s.number old h (ended old other more t))
    (ordered s.number t.number) in (
      s.after ∙ ap (λ (l : List Move). moved_all l old) same ∙ sym t.after,
      s.count ∙ ap count_given same ∙ sym t.count,
    )
