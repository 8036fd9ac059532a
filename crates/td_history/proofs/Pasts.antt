-- What was sent and the entries, once more operations are kept.
use Rattle.std.proofs.Common.{◌≡◌, ◌≤◌, ◌<◌, ◌-◌, ℕ, zero, suc, true≢false, List, [], ◌∷◌}
use Rattle.std.proofs.Common.{length, Option, Some, sym, ap, ◌∙◌, subst, arith}
use Rattle.std.proofs.lemmas.Bool.{ne_eqb}
use Rattle.std.specs.List.{filter_map, slice_get}
use Rattle.std.specs.Option.{IsSome, option_map, option_and_then}
use Rattle.td_op.specs.declared.message.Message.TheVariants.{Op}
use Rattle.td_op.specs.Op.{OpValue}
use Rattle.td_history.specs.declared.message.CompactMessage.{CompactMessage}
use Rattle.td_history.specs.declared.message.CompactMessage.TheVariants.{Op as CompactOp}
use Rattle.td_history.specs.EntriesValue.{EntriesValue}
use Rattle.td_history.specs.Standing.{StandFor, IsGrown}
use Rattle.td_history.specs.Messages.{message_of}
use Rattle.td_history.specs.Entries.{entry_of}
use Rattle.td_history.specs.HistoryParts.{sent_of, entries_of, IsHistoryParts}
use Rattle.td_history.specs.LogValue.{LogValue}
use Rattle.td_base.specs.Lists.{kth}
use Rattle.td_history.proofs.Standing.{stand_on, stand_get, stand_some, stand_filter_map, grown_none}
use Rattle.td_history.proofs.Grown.{message_grown, entry_grown}

-- they stand for what is told of them
pub told : {X Y : Type 0} (f : X → Option Y) (xs : List X) (ys : List Y) → StandFor f xs ys
    → StandFor f xs (filter_map f xs)
told f xs ys h = subst (λ q. StandFor f xs q) (sym (stand_filter_map f xs ys h)) h

pub sent_on : (ops more : List OpValue) (sent : List CompactMessage) → IsGrown ops more
    → StandFor (message_of ops) sent (sent_of ops sent) → StandFor (message_of more) sent (sent_of ops sent)
sent_on ops more sent grown h =
    stand_on (message_of ops) (message_of more) (λ c m e. message_grown ops more c m grown e) sent (sent_of ops sent) h

-- the k-th message sent is what the compact one stands for
pub sent_is : (ops : List OpValue) (sent : List CompactMessage) (k : ℕ) (c : Option CompactMessage) → 1 ≤ k
    → StandFor (message_of ops) sent (sent_of ops sent) → c ≡ slice_get sent (k - 1)
    → option_and_then (message_of ops) c ≡ kth k (sent_of ops sent)
sent_is ops sent k c some h at =
    rw (ne_eqb k 0 (λ (e : k ≡ 0). omega arith))
    (ap (option_and_then (message_of ops)) at ∙ stand_get (message_of ops) sent (sent_of ops sent) (k - 1) h)

-- which is there, where it is an operation
pub sent_within : (ops : List OpValue) (sent : List CompactMessage) (k number : ℕ)
    → StandFor (message_of ops) sent (sent_of ops sent) → Some (CompactOp number) ≡ slice_get sent k
    → number < length ops
sent_within ops sent k number h at = within ops number
    (stand_some (message_of ops) sent (sent_of ops sent) k (CompactOp number) h (sym at))
  where
    within : (ops : List OpValue) (number : ℕ) → IsSome (option_map Op (slice_get ops number)) → number < length ops
    within [] number some = absurd (true≢false (sym some))
    within (x ∷ ops) zero some = omega arith
    within (x ∷ ops) (suc number) some = omega (arith, within ops number some)

pub entries_on : (ops more : List OpValue) (e : EntriesValue) → IsGrown ops more
    → StandFor (entry_of ops e) e.entries (entries_of ops e) → StandFor (entry_of more e) e.entries (entries_of ops e)
entries_on ops more e grown h =
    stand_on (entry_of ops e) (entry_of more e)
    (λ c m is. entry_grown ops more e.texts e.texts e.offered e.offered e.wholes e.wholes c m grown
    (grown_none e.texts) (grown_none e.offered) (grown_none e.wholes) is)
    e.entries (entries_of ops e) h

-- with more room
pub reserved : (site : ℕ) (log log_new : LogValue) (sent sent_new : List CompactMessage) (e e_new : EntriesValue)
    (sent_place room : ℕ)
    → site ≤ log.size → StandFor (message_of log.ops) sent (sent_of log.ops sent)
    → StandFor (entry_of log.ops e) e.entries (entries_of log.ops e)
    → log_new.size ≡ log.size → log_new.ops ≡ log.ops → sent_new ≡ sent → e_new.entries ≡ e.entries → e_new.texts
    ≡ e.texts → e_new.offered ≡ e.offered → e_new.wholes ≡ e.wholes
    → room ≤ log_new.room → room ≤ sent_place → room ≤ e_new.room
    → IsHistoryParts site log_new (record { items = sent_new; room = sent_place }) e_new room
reserved site log log_new sent sent_new e e_new sent_place room own sending entering size ops same entries texts
    offered wholes log_room sent_room entries_room =
    record {
      own = rw size own;
      sending = rw (ops, same) sending;
      entering = rw (ops, entries, texts, offered, wholes) entering;
      log_room = log_room;
      sent_room = sent_room;
      entries_room = entries_room;
    }
