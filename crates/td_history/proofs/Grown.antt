-- What entries stand for, once more was added.
use Rattle.std.proofs.Common.{◌≡◌, ℕ, List, Option, Some, None, refl, ap, ◌∙◌}
use Rattle.std.specs.List.{slice_get}
use Rattle.std.specs.Option.{option_map, option_and_then}
use Rattle.std.proofs.lemmas.Option.{option_and_then_some}
use Rattle.td_base.specs.Value.{DotValue}
use Rattle.td_op.specs.declared.entry.Entry.{Entry}
use Rattle.td_op.specs.declared.input.Input.{Input}
use Rattle.td_op.specs.declared.input.Input.TheVariants.{Local, Next as GoOn}
use Rattle.td_op.specs.declared.request.Request.TheVariants.{Delete as AskDelete}
use Rattle.td_op.specs.declared.reply.Reply.{Reply}
use Rattle.td_op.specs.Op.{OpValue}
use Rattle.td_history.specs.declared.put.CompactPut.{CompactPut}
use Rattle.td_history.specs.declared.put.CompactPut.TheVariants.{Insert}
use Rattle.td_history.specs.declared.input.CompactInput.{CompactInput}
use Rattle.td_history.specs.declared.input.CompactInput.TheVariants.{Done, Refused, Delete, DeleteAtom, Propose}
use Rattle.td_history.specs.declared.input.CompactInput.TheVariants.{ProposeAt, Cancel, Taken, Offered, Vote, Next}
use Rattle.td_history.specs.declared.entry.CompactEntry.{CompactEntry}
use Rattle.td_history.specs.declared.entry.CompactEntry.TheVariants.{Inserted, Deleted as WasDeleted}
use Rattle.td_history.specs.declared.entry.CompactEntry.TheVariants.{Taken as WasTaken, Kept, Resumed, Whole}
use Rattle.td_history.specs.declared.entry.WholeEntry.{WholeEntry}
use Rattle.td_history.specs.declared.message.CompactMessage.{CompactMessage}
use Rattle.td_history.specs.declared.message.CompactMessage.TheVariants.{Op as CompactOp, Vote as CompactVote}
use Rattle.td_history.specs.Standing.{IsGrown}
use Rattle.td_history.specs.Inputs.{put_input, input_of}
use Rattle.td_history.specs.Texts.{run_of, run_at}
use Rattle.td_history.specs.Entries.{entry_among, entry_with, whole_among}
use Rattle.td_history.specs.Replies.{reply_of}
use Rattle.td_history.specs.Messages.{message_of}
use Rattle.td_op.specs.declared.message.Message.{Message}
use Rattle.td_history.proofs.Standing.{grown_get}

-- what is something of a list's element still is, where the list was added to
and_then_grown : {X Y : Type 0} (f : X → Option Y) (old new : List X) (k : ℕ) (y : Y) → IsGrown old new
    → option_and_then f (slice_get old k) ≡ Some y → option_and_then f (slice_get new k) ≡ Some y
and_then_grown f old new k y grown e =
    option_and_then_some f (slice_get old k) y e
    (λ x is e. ap (option_and_then f) (grown_get old new k x grown is) ∙ e)

map_grown : {X Y : Type 0} (f : X → Y) (old new : List X) (k : ℕ) (y : Y) → IsGrown old new
    → option_map f (slice_get old k) ≡ Some y → option_map f (slice_get new k) ≡ Some y
map_grown f old new k y grown e = mapped (slice_get old k) refl e
  where
    mapped : (o : Option _) → slice_get old k ≡ o → option_map f o ≡ Some y → option_map f (slice_get new k) ≡ Some y
    mapped None is h = absurd (cc)
    mapped (Some x) is h = ap (option_map f) (grown_get old new k x grown is) ∙ h

put_grown : (put : CompactPut) (old new : List OpValue) (k : ℕ) (input : Input) → IsGrown old new
    → put_input put (run_at old k) ≡ Some input → put_input put (run_at new k) ≡ Some input
put_grown put old new k input grown e =
    option_and_then_some _ (run_at old k) input e
    (λ run is h. ap (put_input put) (and_then_grown (λ (x : OpValue). run_of x.body) old new k run grown is) ∙ h)

pub input_grown : (ops ops_new : List OpValue) (texts texts_new : List (List (List ℕ)))
    (offered offered_new : List OpValue)
    (c : CompactInput) (input : Input) → IsGrown ops ops_new → IsGrown texts texts_new → IsGrown offered offered_new
    → input_of ops texts offered c ≡ Some input → input_of ops_new texts_new offered_new c ≡ Some input
input_grown ops ops_new texts texts_new offered offered_new (Done put number) input a b c e =
    put_grown put ops ops_new number input a e
input_grown ops ops_new texts texts_new offered offered_new (Refused put text) input a b c e =
    and_then_grown _ texts texts_new text input b e
input_grown ops ops_new texts texts_new offered offered_new (Delete index) input a b c e = e
input_grown ops ops_new texts texts_new offered offered_new (DeleteAtom id) input a b c e = e
input_grown ops ops_new texts texts_new offered offered_new (Propose slot) input a b c e = e
input_grown ops ops_new texts texts_new offered offered_new (ProposeAt bit index) input a b c e = e
input_grown ops ops_new texts texts_new offered offered_new (Cancel proposal) input a b c e = e
input_grown ops ops_new texts texts_new offered offered_new (Taken number) input a b c e =
    map_grown _ ops ops_new number input a e
input_grown ops ops_new texts texts_new offered offered_new (Offered number) input a b c e =
    map_grown _ offered offered_new number input c e
input_grown ops ops_new texts texts_new offered offered_new (Vote vote) input a b c e = e
input_grown ops ops_new texts texts_new offered offered_new Next input a b c e = e

whole_grown : (ops ops_new : List OpValue) (texts texts_new : List (List (List ℕ))) (offered offered_new : List OpValue)
    (c : WholeEntry) (entry : Entry) → IsGrown ops ops_new → IsGrown texts texts_new → IsGrown offered offered_new
    → whole_among ops texts offered c ≡ Some entry → whole_among ops_new texts_new offered_new c ≡ Some entry
whole_grown ops ops_new texts texts_new offered offered_new c entry grown b d e =
    with_input (input_of ops texts offered c.input) refl e
  where
    with_input : (o : Option Input) → input_of ops texts offered c.input ≡ o
        → option_map {T = Input} {U = Entry} (λ (input : Input). record { input = input; reply = reply_of c.reply }) o
        ≡ Some entry
        → whole_among ops_new texts_new offered_new c ≡ Some entry
    with_input None is h = absurd (cc)
    with_input (Some input) is h =
        ap (option_map {T = Input} {U = Entry} (λ (i : Input). record { input = i; reply = reply_of c.reply }))
        (input_grown ops ops_new texts texts_new offered offered_new c.input input grown b d is) ∙ h

with_grown : (ops ops_new : List OpValue) (reply : DotValue → Reply) (number : ℕ) (o o_new : Option Input)
    (entry : Entry) → IsGrown ops ops_new
    → ((input : Input) → o ≡ Some input → o_new ≡ Some input)
    → entry_with ops reply number o ≡ Some entry → entry_with ops_new reply number o_new ≡ Some entry
with_grown ops ops_new reply number o o_new entry grown more e = found (slice_get ops number) refl o refl e
  where
    found : (s : Option OpValue) → slice_get ops number ≡ s → (q : Option Input) → o ≡ q
        → option_and_then {T = OpValue} {U = Entry} (λ (op : OpValue). option_map {T = Input} {U = Entry}
        (λ (i : Input). record { input = i; reply = reply op.dot }) q) s ≡ Some entry
        → entry_with ops_new reply number o_new ≡ Some entry
    found None is q same h = absurd (cc)
    found (Some op) is None same h = absurd (cc)
    found (Some op) is (Some input) same h =
        (λ k. option_and_then {T = OpValue} {U = Entry}
        (λ (op : OpValue). option_map {T = Input} {U = Entry}
        (λ (i : Input). record { input = i; reply = reply op.dot }) (more input same k))
        (grown_get ops ops_new number op grown is k)) ∙ h

pub entry_grown : (ops ops_new : List OpValue) (texts texts_new : List (List (List ℕ)))
    (offered offered_new : List OpValue)
    (wholes wholes_new : List WholeEntry) (c : CompactEntry) (entry : Entry) → IsGrown ops ops_new
    → IsGrown texts texts_new
    → IsGrown offered offered_new → IsGrown wholes wholes_new
    → entry_among ops texts offered wholes c ≡ Some entry → entry_among ops_new texts_new offered_new wholes_new c
    ≡ Some entry
entry_grown ops ops_new texts texts_new offered offered_new wholes wholes_new (Inserted index number) entry a b d w e =
    with_grown ops ops_new _ number _ _ entry a (λ input h. put_grown (Insert index) ops ops_new number input a h) e
entry_grown ops ops_new texts texts_new offered offered_new wholes wholes_new (WasDeleted index number) entry a b d w
    e =
    with_grown ops ops_new _ number (Some (Local (AskDelete index))) (Some (Local (AskDelete index))) entry a
    (λ input h. h) e
entry_grown ops ops_new texts texts_new offered offered_new wholes wholes_new (WasTaken number) entry a b d w e =
    with_grown ops ops_new _ number _ _ entry a (λ input h. map_grown _ ops ops_new number input a h) e
entry_grown ops ops_new texts texts_new offered offered_new wholes wholes_new (Kept number) entry a b d w e =
    with_grown ops ops_new _ number _ _ entry a (λ input h. map_grown _ ops ops_new number input a h) e
entry_grown ops ops_new texts texts_new offered offered_new wholes wholes_new (Resumed number) entry a b d w e =
    with_grown ops ops_new _ number (Some GoOn) (Some GoOn) entry a (λ input h. h) e
entry_grown ops ops_new texts texts_new offered offered_new wholes wholes_new (Whole place) entry a b d w e =
    option_and_then_some (whole_among ops texts offered) (slice_get wholes place) entry e
    (λ whole is h.
    ap (option_and_then (whole_among ops_new texts_new offered_new)) (grown_get wholes wholes_new place whole w is)
    ∙ whole_grown ops ops_new texts texts_new offered offered_new whole entry a b d h)

pub message_grown : (ops ops_new : List OpValue) (c : CompactMessage) (message : Message) → IsGrown ops ops_new
    → message_of ops c ≡ Some message → message_of ops_new c ≡ Some message
message_grown ops ops_new (CompactOp number) message grown e = map_grown _ ops ops_new number message grown e
message_grown ops ops_new (CompactVote vote) message grown e = e
