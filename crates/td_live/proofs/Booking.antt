-- How many calls a book has, when one thing more was done.
use Rattle.std.proofs.Common.{◌≡◌, ◌<◌, ◌+◌, ◌++◌, ℕ, List, [], ◌∷◌, length, drop, refl, sym, ap, ◌∙◌, arith}
use Rattle.td_op.specs.declared.reply.Reply.{Reply}
use Rattle.td_trace.specs.declared.log.Did.{Did}
use Rattle.td_trace.specs.declared.log.Did.TheVariants.{Call, Look}
use Rattle.td_trace.specs.Editors.{Sofar, nothing_yet}
use Rattle.td_live.specs.declared.ask.Ask.{Ask}
use Rattle.td_live.specs.Following.{Rest, replied}
use Rattle.td_live.specs.Books.{calls_done}
use Rattle.td_live.proofs.Logging.{sofar_more}

pub calls_more_call : (did more : List Did) (n m call entry : ℕ) → n ≡ calls_done did → m ≡ n + 1 → call ≡ m
    → more ≡ did ++ Call call entry ∷ [] → m ≡ calls_done more
calls_more_call did more n m call entry was next is at =
    next ∙ ap (λ (k : ℕ). k + 1) was
    ∙ sym (ap (λ (l : List Did). calls_done l) at
    ∙ ap (λ (s : Sofar). s.calls) (sofar_more nothing_yet did (Call call entry)))

pub calls_more_look : (did more : List Did) (n calls upto : ℕ) (text : List ℕ) → n ≡ calls_done did
    → more ≡ did ++ Look calls upto text ∷ [] → n ≡ calls_done more
calls_more_look did more n calls upto text was at =
    was
    ∙ sym (ap (λ (l : List Did). calls_done l) at
    ∙ ap (λ (s : Sofar). s.calls) (sofar_more nothing_yet did (Look calls upto text)))

-- the first call is there
pub first_ask : (asks : List Ask) → 0 < length asks → (ask : Ask) × (asks ≡ ask ∷ drop 1 asks)
first_ask [] some = absurd (omega (arith, some))
first_ask (ask ∷ asks) some = (ask, refl)

pub replied_next : (reply : Reply) (r s : Rest) → 0 < length r.asks
    → ((ask : Ask) (asks : List Ask) → r.asks ≡ ask ∷ asks → s ≡ replied reply r asks)
    → s ≡ replied reply r (drop 1 r.asks)
replied_next reply r s some f = let a = first_ask r.asks some in f a.0 (drop 1 r.asks) a.1
