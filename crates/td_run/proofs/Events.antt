-- Events one after another.
use Rattle.std.proofs.Common.{◌≡◌, ◌<◌, ◌≤◌, ◌+◌, ◌-◌, ◌++◌, ◌∷◌, ℕ, suc, zero, List, []}
use Rattle.std.proofs.Common.{take, drop, length, ap, sym, ◌∙◌, arith}
use Rattle.std.specs.List.{flat_map, slice_get}
use Rattle.std.proofs.lemmas.List.{append-nil, append_assoc, length-drop, take_all}
use Rattle.td_op.specs.declared.message.Message.{Message}
use Rattle.td_report.specs.Replies.{event_line}
use Rattle.td_world.specs.World.{WorldValue}
use Rattle.td_run.specs.Printing.{Printed, and_then, event_of, events, line_and_events, with_line, with_world}

-- the message behind the first n of those from a place on
next_of : (sent : List Message) (n : ℕ) → n < length sent
    → flat_map event_line (take (suc n) sent) ≡ flat_map event_line (take n sent) ++ event_of (slice_get sent n)
next_of [] n less = absurd (omega arith)
next_of (m ∷ sent) zero less = append-nil (event_line m)
next_of (m ∷ sent) (suc n) less =
    ap (λ (text : List ℕ). event_line m ++ text) (next_of sent n (omega arith))
    ∙ sym (append_assoc (event_line m) (flat_map event_line (take n sent)) (event_of (slice_get sent n)))

-- behind so many
behind_of : (sent : List Message) (before n : ℕ) → before + n < length sent
    → flat_map event_line (take (suc n) (drop before sent))
    ≡ flat_map event_line (take n (drop before sent)) ++ event_of (slice_get sent (before + n))
behind_of [] before n less = absurd (omega arith)
behind_of (m ∷ sent) zero n less =
    let same : 0 + n ≡ n = omega arith in
    next_of (m ∷ sent) n (omega (arith, less))
    ∙ ap (λ (k : ℕ). flat_map event_line (take n (m ∷ sent)) ++ event_of (slice_get (m ∷ sent) k)) (sym same)
behind_of (m ∷ sent) (suc before) n less =
    let same : suc before + n ≡ suc (before + n) = omega arith in
    behind_of sent before n (omega (arith, less))
    ∙ ap (λ (k : ℕ). flat_map event_line (take n (drop before sent)) ++ event_of (slice_get (m ∷ sent) k)) (sym same)

-- one message more is printed
pub one_more : (sent : List Message) (before number : ℕ) (start text next : List ℕ) → before ≤ number
    → number < length sent
    → text ≡ start ++ flat_map event_line (take (number - before) (drop before sent))
    → next ≡ text ++ event_of (slice_get sent number)
    → next ≡ start ++ flat_map event_line (take (number + 1 - before) (drop before sent))
one_more sent before number start text next behind less is more =
    let n : ℕ = number - before in
    let same : before + n ≡ number = omega arith in
    let later : number + 1 - before ≡ suc n = omega arith in
    more ∙ (λ i. is i ++ event_of (slice_get sent (sym same i)))
    ∙ append_assoc start (flat_map event_line (take n (drop before sent))) (event_of (slice_get sent (before + n)))
    ∙ ap (λ (l : List ℕ). start ++ l) (sym (behind_of sent before n (omega arith)))
    ∙ ap (λ (k : ℕ). start ++ flat_map event_line (take k (drop before sent))) (sym later)

-- nothing is left to print
pub all_events : (sent : List Message) (before number : ℕ) → length sent ≤ number
    → flat_map event_line (take (number - before) (drop before sent)) ≡ flat_map event_line (drop before sent)
all_events sent before number past =
    ap (flat_map event_line) (take_all (number - before) (drop before sent)
    (let rest : length (drop before sent) ≡ length sent - before = length-drop before sent in omega arith))

-- a line is printed, and then the events since a moment
pub line_then_events : (p q r : Printed) (world : WorldValue) (line : List ℕ) (before : ℕ) → before
    ≡ length p.world.sent
    → q ≡ with_line line (with_world world p)
    → r ≡ with_line (flat_map event_line (drop before q.world.sent)) q
    → r ≡ and_then p (line_and_events p.world world line)
line_then_events p q r world line before moment printed more =
    more
    ∙ (λ i. with_line (flat_map event_line (drop (moment i) (printed i).world.sent)) (printed i))
    ∙ (λ i. record { world = world; marks = p.marks; text = append_assoc p.text line (events p.world world) i })
