-- Edits one after another.
use Rattle.std.proofs.Common.{◌≡◌, ◌<◌, ◌+◌, ◌-◌, ◌∷◌, List, length, ℕ, suc, Bool, true}
use Rattle.std.proofs.Common.{Some, ap, sym, ◌∙◌, arith, if◌then◌else◌}
use Rattle.td_op.specs.declared.reply.Reply.{Reply}
use Rattle.td_op.specs.declared.request.Request.TheVariants.{Delete, Paste}
use Rattle.td_world.specs.World.{WorldValue, reply_to, moved}
use Rattle.td_world.specs.Calls.{ask}
use Rattle.td_report.specs.Asking.{deletes, is_made, pastes}
use Rattle.td_run.specs.Asking.{Asked, ask_all, done_before, goes_on}

-- edits that were done before others
pub done_twice : (k n : ℕ) (a : Asked) → done_before k (done_before n a) ≡ done_before (k + n) a
done_twice k n a =
    let same : k + (n + a.done) ≡ k + n + a.done = omega arith in
    λ i. record { world = a.world; done = same i; refused = a.refused }

-- none were done before
pub none_before : (a : Asked) → a ≡ done_before 0 a
none_before a =
    let same : a.done ≡ 0 + a.done = omega arith in
    λ i. record { world = a.world; done = same i; refused = a.refused }

-- a request that was made
pub made_on : (reply : Reply) (w : WorldValue) (n : ℕ) (others : Asked) → is_made reply ≡ true
    → goes_on reply w n others ≡ done_before n others
made_on reply w n others made =
    ap (λ (b : Bool). if b then done_before n others else record { world = w; done = 0; refused = Some reply }) made

-- the next of the deletes that are left
pub next_delete : (site index count done : ℕ) (w : WorldValue) → done < count
    → ask_all site (deletes index (count - done)) w
    ≡ goes_on (reply_to (ask site (Delete index)) w) (moved (ask site (Delete index)) w) 1
    (ask_all site (deletes index (count - (done + 1))) (moved (ask site (Delete index)) w))
next_delete site index count done w less =
    let more : count - done ≡ suc (count - (done + 1)) = omega arith in
    ap (λ (k : ℕ). ask_all site (deletes index k) w) more

-- after the next of the runs that are left
pub pasted : (site index done len next : ℕ) (run : List (List ℕ)) (rest left : List (List (List ℕ)))
    (w v : WorldValue) (all : Asked)
    → left ≡ run ∷ rest → is_made (reply_to (ask site (Paste index run)) w) ≡ true
    → v ≡ moved (ask site (Paste index run)) w → len ≡ length run → next ≡ index + len
    → all ≡ done_before done (ask_all site (pastes index left) w)
    → all ≡ done_before (done + len) (ask_all site (pastes next rest) v)
pasted site index done len next run rest left w v all left_is made v_is len_is next_is all_is =
    let move = ask site (Paste index run) in
    let later : Asked = ask_all site (pastes (index + length run) rest) (moved move w) in
    let behind : index + length run ≡ next = ap (λ (n : ℕ). index + n) (sym len_is) ∙ sym next_is in
    all_is
    ∙ ap (λ (runs : List (List (List ℕ))). done_before done (ask_all site (pastes index runs) w)) left_is
    ∙ ap (done_before done) (made_on (reply_to move w) (moved move w) (length run) later made)
    ∙ done_twice done (length run) later
    ∙ (λ i. done_before (done + sym len_is i) (ask_all site (pastes (behind i) rest) (sym v_is i)))
