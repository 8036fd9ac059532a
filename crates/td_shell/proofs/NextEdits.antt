-- Edits one after another.
use Rattle.std.proofs.Common.{◌≡◌, ◌<◌, ◌+◌, ◌-◌, ◌∷◌, List, length, ℕ, suc, Bool, true}
use Rattle.std.proofs.Common.{Some, ap, sym, ◌∙◌, arith, if◌then◌else◌}
use Rattle.td_op.specs.declared.reply.Reply.{Reply}
use Rattle.td_op.specs.declared.request.Request.TheVariants.{Delete, Paste}
use Rattle.td_replica.specs.Replica.{ReplicaValue}
use Rattle.td_report.specs.Asking.{deletes, is_made, pastes}
use Rattle.td_shell.specs.Asking.{Edited, after_request, ask_all, done_before, goes_on}
use Rattle.td_shell.specs.Asking.{reply_to}

-- edits that were done before others
pub done_twice : (k n : ℕ) (a : Edited) → done_before k (done_before n a) ≡ done_before (k + n) a
done_twice k n a =
    let same : k + (n + a.done) ≡ k + n + a.done = omega arith in
    λ i. record { replica = a.replica; done = same i; refused = a.refused }

-- none were done before
pub none_before : (a : Edited) → a ≡ done_before 0 a
none_before a =
    let same : a.done ≡ 0 + a.done = omega arith in
    λ i. record { replica = a.replica; done = same i; refused = a.refused }

-- a request that was made
pub made_on : (reply : Reply) (r : ReplicaValue) (n : ℕ) (others : Edited) → is_made reply ≡ true
    → goes_on reply r n others ≡ done_before n others
made_on reply r n others made =
    ap (λ (b : Bool). if b then done_before n others else record { replica = r; done = 0; refused = Some reply }) made

-- the next of the deletes that are left
pub next_delete : (index count done : ℕ) (r : ReplicaValue) → done < count
    → ask_all (deletes index (count - done)) r
    ≡ goes_on (reply_to (Delete index) r) (after_request (Delete index) r) 1
    (ask_all (deletes index (count - (done + 1))) (after_request (Delete index) r))
next_delete index count done r less =
    let more : count - done ≡ suc (count - (done + 1)) = omega arith in
    ap (λ (k : ℕ). ask_all (deletes index k) r) more

-- after the next of the runs that are left
pub pasted : (index done len next : ℕ) (run : List (List ℕ)) (rest left : List (List (List ℕ)))
    (r q : ReplicaValue) (all : Edited)
    → left ≡ run ∷ rest → is_made (reply_to (Paste index run) r) ≡ true
    → q ≡ after_request (Paste index run) r → len ≡ length run → next ≡ index + len
    → all ≡ done_before done (ask_all (pastes index left) r)
    → all ≡ done_before (done + len) (ask_all (pastes next rest) q)
pasted index done len next run rest left r q all left_is made q_is len_is next_is all_is =
    let later : Edited = ask_all (pastes (index + length run) rest) (after_request (Paste index run) r) in
    let behind : index + length run ≡ next = ap (λ (n : ℕ). index + n) (sym len_is) ∙ sym next_is in
    all_is
    ∙ ap (λ (runs : List (List (List ℕ))). done_before done (ask_all (pastes index runs) r)) left_is
    ∙ ap (done_before done) (made_on (reply_to (Paste index run) r) (after_request (Paste index run) r) (length run)
    later made)
    ∙ done_twice done (length run) later
    ∙ (λ i. done_before (done + sym len_is i) (ask_all (pastes (behind i) rest) (sym q_is i)))
