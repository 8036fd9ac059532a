-- Messages that are told, one after another.
use Rattle.std.proofs.Common.{◌≡◌, ◌+◌, ◌++◌, ◌∷◌, ℕ, zero, suc, List, [], Option, Some, None}
use Rattle.std.proofs.Common.{drop, ap, sym, ◌∙◌, arith}
use Rattle.std.specs.List.{flat_map, slice_get}
use Rattle.std.proofs.lemmas.List.{append_assoc}
use Rattle.td_base.specs.Lists.{kth}
use Rattle.td_base.proofs.Places.{kth_next}
use Rattle.td_op.specs.declared.message.Message.{Message}
use Rattle.td_report.specs.Replies.{event_line}
use Rattle.td_shell.specs.Sending.{events_behind, send_line, send_lines, sent_behind}

none_is_none : {X : Type 0} (x : X) → ◌≡◌ {A = Option X} None (Some x) → ⊥
none_is_none x e = cc

some_same : {X : Type 0} (x y : X) → ◌≡◌ {A = Option X} (Some x) (Some y) → x ≡ y
some_same x y e = cc

-- what stands behind so many begins with the next one
next_behind : {X : Type 0} (xs : List X) (k : ℕ) (x : X) → slice_get xs k ≡ Some x → drop k xs ≡ x ∷ drop (suc k) xs
next_behind [] k x e = absurd (none_is_none x e)
next_behind (y ∷ xs) zero x e = ap (λ z. z ∷ xs) (some_same y x e)
next_behind (y ∷ xs) (suc k) x e = next_behind xs k x e

pub next_told : {X : Type 0} (xs : List X) (k : ℕ) (x : X) → kth (k + 1) xs ≡ Some x → drop k xs ≡ x ∷ drop (k + 1) xs
next_told xs k x e =
    let one : k + 1 ≡ suc k = omega arith in
    let here : slice_get xs k ≡ Some x = sym (kth_next xs k) ∙ e in
    next_behind xs k x here ∙ ap (λ (n : ℕ). x ∷ drop n xs) (sym one)

-- a vote or a decision more
pub event_more : (sent : List Message) (k : ℕ) (m : Message) (text next : List ℕ) → kth (k + 1) sent ≡ Some m
    → next ≡ text ++ event_line m → text ++ events_behind k sent ≡ next ++ events_behind (k + 1) sent
event_more sent k m text next e is =
    ap (λ (ms : List Message). text ++ flat_map event_line ms) (next_told sent k m e)
    ∙ sym (append_assoc text (event_line m) (events_behind (k + 1) sent))
    ∙ ap (λ (front : List ℕ). front ++ events_behind (k + 1) sent) (sym is)

-- a message more
pub sent_more : (sent : List Message) (k : ℕ) (m : Message) (text next : List ℕ) → kth (k + 1) sent ≡ Some m
    → next ≡ text ++ send_line (k + 1) m → text ++ sent_behind k sent ≡ next ++ sent_behind (k + 1) sent
sent_more sent k m text next e is =
    let one : suc k ≡ k + 1 = omega arith in
    ap (λ (ms : List Message). text ++ send_lines (suc k) ms) (next_told sent k m e)
    ∙ ap (λ (n : ℕ). text ++ (send_line n m ++ send_lines (suc n) (drop (k + 1) sent))) one
    ∙ sym (append_assoc text (send_line (k + 1) m) (sent_behind (k + 1) sent))
    ∙ ap (λ (front : List ℕ). front ++ sent_behind (k + 1) sent) (sym is)
