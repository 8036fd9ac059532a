-- What was done, and one thing more.
use Rattle.std.proofs.Common.{◌≡◌, ◌≤◌, ◌+◌, ◌-◌, ◌++◌, ℕ, suc, List, [], ◌∷◌, length}
use Rattle.std.proofs.Common.{drop, refl, ap, subst, inl, inr, arith}
use Rattle.std.specs.List.{concat}
use mathlib.Core.List.{IsPrefix}
use Rattle.td_base.specs.Lists.{In}
use Rattle.td_base.proofs.Lists.{In-front}
use Rattle.td_view.specs.declared.publish.Publish.{Publish}
use Rattle.td_view.specs.Publishes.{EndsWith}
use Rattle.td_line.specs.declared.ask.Ask.{Ask as Sent}
use Rattle.td_line.specs.declared.answer.Answer.{Answer}
use Rattle.td_trace.specs.declared.log.Did.{Did}
use Rattle.td_trace.specs.declared.log.Did.TheVariants.{Call, Look}
use Rattle.td_trace.specs.Editors.{Sofar, further}
use Rattle.td_live.specs.Following.{Act, Called, Looked}
use Rattle.td_live.specs.Desks.{acts_by, AreAnswered, AreLooksAt, sofar_of}

-- ---- which acts they are

-- requests that have no answer are none of them
pub acts_more : (asks more : List Sent) (answers : List Answer) (count : ℕ) (did : List Did)
    → AreAnswered count answers did → length answers ≤ length asks
    → acts_by (asks ++ more) answers did ≡ acts_by asks answers did
acts_more asks more answers count [] are few = refl
acts_more asks more answers count (Look calls upto text ∷ did) are few =
    ap (λ (w : List Act). Looked ∷ w) (acts_more asks more answers count did are.1 few)
acts_more asks more [] count (Call call entry ∷ did) are few = absurd are
acts_more [] more (a ∷ answers) count (Call call entry ∷ did) are few = absurd (omega (arith, few))
acts_more (q ∷ asks) more (a ∷ answers) count (Call call entry ∷ did) are few =
    ap (λ (w : List Act). Called q.request a.reply ∷ w)
    (acts_more asks more answers (count + 1) did are.2 (omega (arith, few)))

-- a call more, with its answer
pub acts_call : (asks : List Sent) (q : Sent) (answers : List Answer) (a : Answer) (count : ℕ) (did : List Did)
    (call entry : ℕ) → AreAnswered count answers did → length answers ≡ length asks
    → acts_by (asks ++ q ∷ []) (answers ++ a ∷ []) (did ++ Call call entry ∷ [])
    ≡ acts_by asks answers did ++ Called q.request a.reply ∷ []
acts_call [] q [] a count [] call entry are same = refl
acts_call asks q (b ∷ answers) a count [] call entry are same = absurd (cc are)
acts_call (p ∷ asks) q [] a count [] call entry are same = absurd (omega (arith, same))
acts_call asks q answers a count (Look calls upto text ∷ did) call entry are same =
    ap (λ (w : List Act). Looked ∷ w) (acts_call asks q answers a count did call entry are.1 same)
acts_call asks q [] a count (Call c e ∷ did) call entry are same = absurd are
acts_call [] q (b ∷ answers) a count (Call c e ∷ did) call entry are same = absurd (omega (arith, same))
acts_call (p ∷ asks) q (b ∷ answers) a count (Call c e ∷ did) call entry are same =
    ap (λ (w : List Act). Called p.request b.reply ∷ w)
    (acts_call asks q answers a (count + 1) did call entry are.2 (omega (arith, same)))

-- a look more
pub acts_look : (asks : List Sent) (answers : List Answer) (count : ℕ) (did : List Did) (calls upto : ℕ) (text : List ℕ)
    → AreAnswered count answers did → length answers ≤ length asks
    → acts_by asks answers (did ++ Look calls upto text ∷ []) ≡ acts_by asks answers did ++ Looked ∷ []
acts_look asks answers count [] calls upto text are few = refl
acts_look asks answers count (Look c u t ∷ did) calls upto text are few =
    ap (λ (w : List Act). Looked ∷ w) (acts_look asks answers count did calls upto text are.1 few)
acts_look asks [] count (Call c e ∷ did) calls upto text are few = absurd are
acts_look [] (a ∷ answers) count (Call c e ∷ did) calls upto text are few = absurd (omega (arith, few))
acts_look (q ∷ asks) (a ∷ answers) count (Call c e ∷ did) calls upto text are few =
    ap (λ (w : List Act). Called q.request a.reply ∷ w)
    (acts_look asks answers (count + 1) did calls upto text are.2 (omega (arith, few)))

-- ---- which calls were answered

pub answered_call : (answers : List Answer) (a : Answer) (count : ℕ) (did : List Did) (call : ℕ)
    → AreAnswered count answers did → call ≡ count + length answers + 1
    → AreAnswered count (answers ++ a ∷ []) (did ++ Call call a.entry ∷ [])
answered_call [] a count [] call are next = (omega (arith, next), refl, refl)
answered_call (b ∷ answers) a count [] call are next = absurd (cc are)
answered_call answers a count (Look c u t ∷ did) call are next =
    (are.0, answered_call answers a count did call are.1 next)
answered_call [] a count (Call c e ∷ did) call are next = absurd are
answered_call (b ∷ answers) a count (Call c e ∷ did) call are next =
    (are.0, are.1, answered_call answers a (count + 1) did call are.2 (omega (arith, next)))

pub answered_look : (answers : List Answer) (count : ℕ) (did : List Did) (calls upto : ℕ) (text : List ℕ)
    → AreAnswered count answers did → calls ≡ count + length answers
    → AreAnswered count answers (did ++ Look calls upto text ∷ [])
answered_look [] count [] calls upto text are all = (omega (arith, all), refl)
answered_look (b ∷ answers) count [] calls upto text are all = absurd (cc are)
answered_look answers count (Look c u t ∷ did) calls upto text are all =
    (are.0, answered_look answers count did calls upto text are.1 all)
answered_look [] count (Call c e ∷ did) calls upto text are all = absurd are
answered_look (b ∷ answers) count (Call c e ∷ did) calls upto text are all =
    (are.0, are.1, answered_look answers (count + 1) did calls upto text are.2 (omega (arith, all)))

-- ---- how far it has come

pub sofar_more : (s : Sofar) (did : List Did) (x : Did) → sofar_of s (did ++ x ∷ []) ≡ further (sofar_of s did) x
sofar_more s [] x = refl
sofar_more s (d ∷ did) x = sofar_more (further s d) did x

-- ---- what was seen

-- the last publish is one of them
pub in_last : (seen : List Publish) (p : Publish) → EndsWith seen p → In p seen
in_last [] p e = let e' : ◌≡◌ {A = List Publish} [] (p ∷ []) = e in absurd cc
in_last (x ∷ []) p e =
    let n : length (x ∷ []) - 1 ≡ 0 = omega arith in
    inl (one_head x p (subst (λ (k : ℕ). drop k (x ∷ []) ≡ p ∷ []) n e))
  where
    one_head : (x p : Publish) → x ∷ [] ≡ p ∷ [] → p ≡ x
    one_head x p e = cc
in_last (x ∷ y ∷ seen) p e =
    let n : length (x ∷ y ∷ seen) - 1 ≡ suc (length (y ∷ seen) - 1) = omega arith in
    inr (in_last (y ∷ seen) p (subst (λ (k : ℕ). drop k (x ∷ y ∷ seen) ≡ p ∷ []) n e))

seen_on : (seen more : List Publish) (entry upto : ℕ) (did : List Did) → AreLooksAt seen entry upto did
    → AreLooksAt (seen ++ more) entry upto did
seen_on seen more entry upto [] are = tt
seen_on seen more entry upto (Call c k ∷ did) are = seen_on seen more k upto did are
seen_on seen more entry upto (Look c u t ∷ did) are =
    (are.0, are.1, (are.2.0, In-front are.2.0 seen more are.2.1, are.2.2, are.2.3), seen_on seen more entry u did are.3)

-- who sees more has seen the same
pub seen_later : (seen new : List Publish) (entry upto : ℕ) (did : List Did) → IsPrefix seen new
    → AreLooksAt seen entry upto did → AreLooksAt new entry upto did
seen_later seen new entry upto did p are =
    subst (λ (w : List Publish). AreLooksAt w entry upto did) p.1 (seen_on seen p.0 entry upto did are)

pub seen_call : (seen : List Publish) (s : Sofar) (did : List Did) (call k : ℕ) → AreLooksAt seen s.entry s.upto did
    → AreLooksAt seen s.entry s.upto (did ++ Call call k ∷ [])
seen_call seen s [] call k are = tt
seen_call seen s (Call c e ∷ did) call k are = seen_call seen (further s (Call c e)) did call k are
seen_call seen s (Look c u t ∷ did) call k are =
    (are.0, are.1, are.2, seen_call seen (further s (Look c u t)) did call k are.3)

-- a look at one of the publishes
pub seen_look : (seen : List Publish) (s : Sofar) (did : List Did) (calls : ℕ) (p : Publish)
    → AreLooksAt seen s.entry s.upto did → (sofar_of s did).entry ≤ p.upto → (sofar_of s did).upto ≤ p.upto → In p seen
    → AreLooksAt seen s.entry s.upto (did ++ Look calls p.upto (concat p.atoms) ∷ [])
seen_look seen s [] calls p are entry upto i = (entry, upto, (p, i, refl, refl), tt)
seen_look seen s (Call c e ∷ did) calls p are entry upto i =
    seen_look seen (further s (Call c e)) did calls p are entry upto i
seen_look seen s (Look c u t ∷ did) calls p are entry upto i =
    (are.0, are.1, are.2, seen_look seen (further s (Look c u t)) did calls p are.3 entry upto i)
