-- Messages: what is read is a spelling, in both formats.
use Rattle.std.proofs.Common.{◌≡◌, ℕ, zero, suc, ◌+◌, ◌-◌, ◌≤◌, Bool, true, false, cond, eqb, List, [], ◌∷◌}
use Rattle.std.proofs.Common.{◌++◌, length, get_or, Ok, refl, sym, ap, subst, ◌∙◌, arith}
use Rattle.std.specs.Prelude.{IfSome}
use Rattle.std.proofs.lemmas.Bool.{eqb-true, eqb-false}
use Rattle.std.proofs.lemmas.List.Elements.{All-from_recursion, recursion_from_All}
use Rattle.td_base.specs.Value.{DotValue, AtomIdValue, IsDot, IsAtomId}
use Rattle.td_base.specs.Run.{IsRun}
use Rattle.td_clock.specs.Vector.{vector_get}
use Rattle.td_path.specs.Slot.{IsSlot, slot_site}
use Rattle.td_path.specs.declared.slot.Slot.{Slot}
use Rattle.td_path.specs.declared.slot.Slot.TheVariants.{Root, At}
use Rattle.td_op.specs.declared.body.Body.{Body}
use Rattle.td_op.specs.declared.body.Body.TheVariants.{Insert, Delete, Propose, Commit, Abort}
use Rattle.td_op.specs.declared.message.Message.{Message}
use Rattle.td_op.specs.declared.message.Message.TheVariants.{Op, Vote}
use Rattle.td_op.specs.declared.vote.Vote.{Vote as VoteValue}
use Rattle.td_op.specs.Message.{IsBody, IsOpValue, IsMessage}
use Rattle.td_op.specs.Op.{OpValue, body_site}
use Rattle.td_wire.specs.declared.format.Format.{Format}
use Rattle.td_wire.specs.declared.format.Format.TheVariants.{One, Two}
use Rattle.td_wire.specs.Format.{IsFirst, IsOldSlot, IsOldBody, IsOld, CanSay}
use Rattle.td_wire.specs.Spelling.{dot_bytes as dot, kind, op_bytes as op, yes_byte as yes}
use Rattle.td_wire.specs.Spelling.{vote_bytes as vote, spelling, SpellsIn}
use Rattle.td_wire.specs.Reading.{◌>>=◌, byte_at, dot_at, max_site, op_at, vote_at}
use Rattle.td_wire.specs.Reading.{format_of, message_of_kind, message_at}
use Rattle.td_wire.proofs.Exact.{Reads, Seq, Field, same, renamed, made, made_in, chain, then}
use Rattle.td_wire.proofs.Bytes.{InRange, one_byte, Byte, byte_reads}
use Rattle.td_wire.proofs.Fields.{DotIn, dot_reads, OffsetIn, IdentityIn, SlotIn}
use Rattle.td_wire.proofs.Runs.{RunIn}
use Rattle.td_wire.proofs.Operations.{BodyIn, OpOf, op_reads, some_sites}

-- ---- votes

pub record VoteIn (f : Format) (v : VoteValue) : Type 0 where
  pub voter : InRange 1 (max_site f) v.voter
  pub proposal : DotIn (max_site f) v.proposal

abbrev with_answer : ℕ → DotValue → ℕ → VoteValue
with_answer voter proposal said = record { proposal = proposal; voter = voter; yes = eqb said 1 }

said_back : (n : ℕ) → n ≤ 1 → yes (eqb n 1) ≡ n
said_back zero h = refl
said_back (suc zero) h = refl
said_back (suc (suc n)) h = absurd (omega (arith, h))

yes_back : (b : Bool) → eqb (yes b) 1 ≡ b
yes_back true = refl
yes_back false = refl

yes_in : (b : Bool) → InRange 0 1 (yes b)
yes_in true = record { least = omega arith; most = omega arith }
yes_in false = record { least = omega arith; most = omega arith }

vote_reads : (f : Format) → Reads (Field (VoteIn f) vote) (vote_at f)
unfolding vote_at
vote_reads f = renamed _ (VoteIn f) _ vote (vote_at f)
    (λ v h. record { voter = h.0; proposal = h.1.0 })
    (λ v h. (h.voter, (h.proposal, (yes_in v.yes, ap (λ (b : Bool). with_yes v b) (yes_back v.yes)))))
    (λ v h. refl)
    (chain (InRange 1 (max_site f)) one_byte (λ voter v. DotIn (max_site f) v.proposal
    × (InRange 0 1 (yes v.yes) × (with_answer voter v.proposal (yes v.yes) ≡ v)))
    (λ voter v. dot v.proposal ++ yes v.yes ∷ []) (λ v. v.voter) (byte_at 1 (max_site f)) _
    (λ voter v z h. ap (λ (w : VoteValue). w.voter) (sym h.1.1)) (byte_reads 1 (max_site f) (some_sites f)) (λ voter z.
    chain (DotIn (max_site f)) dot (λ proposal v. InRange 0 1 (yes v.yes)
    × (with_answer voter proposal (yes v.yes) ≡ v)) (λ proposal v. yes v.yes ∷ []) (λ v. v.proposal)
    (dot_at (max_site f)) _
    (λ proposal v z h. ap (λ (w : VoteValue). w.proposal) (sym h.1)) (dot_reads (max_site f) (some_sites f))
    (λ proposal z.
    made_in (InRange 0 1) one_byte (with_answer voter proposal) (λ v. yes v.yes) (byte_at 0 1)
    (λ n r. said_back n r.most) (byte_reads 0 1 (omega arith))))) where
      with_yes : VoteValue → Bool → VoteValue
      with_yes v b = record { proposal = v.proposal; voter = v.voter; yes = b }

-- ---- by kind

abbrev kind_of : Message → ℕ
kind_of (Op o) = kind o.body
kind_of (Vote v) = 6

abbrev behind_kind : Format → Message → List ℕ
behind_kind f (Op o) = op f o
behind_kind f (Vote v) = vote v

abbrev MessageOf : Format → ℕ → Message → Type 0
MessageOf f k (Op o) = OpOf f k o
MessageOf f k (Vote v) = (k ≡ 6) × VoteIn f v

kind_low : (b : Body) → (1 ≤ kind b) × (kind b ≤ 5)
kind_low (Insert s atoms) = (omega arith, omega arith)
kind_low (Delete target) = (omega arith, omega arith)
kind_low (Propose s) = (omega arith, omega arith)
kind_low (Commit proposal) = (omega arith, omega arith)
kind_low (Abort proposal) = (omega arith, omega arith)

abbrev vote_of : Message → VoteValue
vote_of (Op o) = record { proposal = record { site = 0; seq = 0 }; voter = 0; yes = false }
vote_of (Vote v) = v

abbrev op_of : Message → OpValue
op_of (Op o) = o
op_of (Vote v) = record { dot = record { site = 0; seq = 0 }; deps = []; body = Propose Root }

to_vote : (f : Format) (k : ℕ) (m : Message) → k ≡ 6 → VoteIn f (vote_of m) × (Vote (vote_of m) ≡ m) → MessageOf f k m
to_vote f k m e h = subst (MessageOf f k) h.1 (e, h.0)

from_vote : (f : Format) (k : ℕ) (m : Message) → k ≡ 6 → MessageOf f k m → VoteIn f (vote_of m) × (Vote (vote_of m) ≡ m)
from_vote f k (Op o) e h = let low = kind_low o.body in absurd (omega (arith, low.1, h.what.0, e))
from_vote f k (Vote v) e h = (h.1, refl)

from_op : (f : Format) (k : ℕ) (m : Message) → (k ≡ 6 → ⊥) → MessageOf f k m → OpOf f k (op_of m) × (Op (op_of m) ≡ m)
from_op f k (Op o) d h = (h, refl)
from_op f k (Vote v) d h = absurd (d h.0)

by_kind : (f : Format) (k : ℕ) → InRange 1 6 k → (t : Bool) → eqb k 6 ≡ t
    → Reads (Field (MessageOf f k) (behind_kind f))
    (λ xs. cond t (vote_at f xs >>= λ v. Ok (Vote v.0, v.1)) (op_at f k xs >>= λ o. Ok (Op o.0, o.1)))
by_kind f k r true e = let six = eqb-true k 6 e in
    renamed (λ m. VoteIn f (vote_of m) × (Vote (vote_of m) ≡ m)) (MessageOf f k) (λ m. vote (vote_of m))
    (behind_kind f) _
    (λ m h. to_vote f k m six h) (λ m h. from_vote f k m six h) (λ m h. ap (behind_kind f) (from_vote f k m six h).1)
    (made (VoteIn f) vote Vote vote_of (vote_at f) (λ v. refl) (vote_reads f))
by_kind f k r false e = let other = eqb-false k 6 e in
    renamed (λ m. OpOf f k (op_of m) × (Op (op_of m) ≡ m)) (MessageOf f k) (λ m. op f (op_of m)) (behind_kind f) _
    (λ m h. subst (MessageOf f k) h.1 h.0) (λ m h. from_op f k m other h)
    (λ m h. ap (behind_kind f) (from_op f k m other h).1)
    (made (OpOf f k) (op f) Op op_of (op_at f k) (λ o. refl)
    (op_reads f k (record { least = r.least; most = omega (arith, r.most, other) })))

abbrev Whole : Format → Message → Type 0
Whole f m = InRange 1 6 (kind_of m) × MessageOf f (kind_of m) m

abbrev behind_mark : Format → Message → List ℕ
behind_mark f m = kind_of m ∷ behind_kind f m

of_kind : (f : Format) (k : ℕ) (m : Message) → MessageOf f k m → kind_of m ≡ k
of_kind f k (Op o) h = h.what.0
of_kind f k (Vote v) h = sym h.0

whole_reads : (f : Format) → Reads (Field (Whole f) (behind_mark f))
    (λ xs. byte_at 1 6 xs >>= λ k. message_of_kind f k.0 k.1)
whole_reads f = chain (InRange 1 6) one_byte (MessageOf f) (λ k. behind_kind f) kind_of (byte_at 1 6)
    (message_of_kind f)
    (λ k m z h. of_kind f k m h) (byte_reads 1 6 (omega arith)) (λ k z. by_kind f k z (eqb k 6) refl)

-- ---- the ranges of the fields are those of the values

few_sites : (f : Format) → max_site f ≤ 64
few_sites One = omega arith
few_sites Two = omega arith

to_dot : (n : ℕ) (d : DotValue) → n ≤ 64 → DotIn n d → IsDot d
to_dot n d h x = record {
  site = record { least = x.site.least; greatest = omega (arith, x.site.most, h) };
  least = x.seq.least;
  greatest = x.seq.most;
}

from_dot : (n : ℕ) (d : DotValue) → d.site ≤ n → IsDot d → DotIn n d
from_dot n d h x = record {
  site = record { least = x.site.least; most = h };
  seq = record { least = x.least; most = x.greatest };
}

offset_short : (f : Format) (offset : ℕ) → OffsetIn f offset → offset ≤ 63
offset_short One offset h = omega (arith, h)
offset_short Two offset h = h

to_identity : (f : Format) (n : ℕ) (x : AtomIdValue) → n ≤ 64 → IdentityIn f n x → IsAtomId x
to_identity f n x h i = record { dot = to_dot n x.dot h i.dot; greatest = offset_short f x.offset i.offset }

to_slot : (f : Format) (n : ℕ) (s : Slot) → n ≤ 64 → SlotIn f n s → IsSlot s
to_slot f n Root h i = tt
to_slot f n (At atom b) h i = to_identity f n atom h i

to_run : (f : Format) (atoms : List (List ℕ)) → RunIn f atoms → IsRun atoms
to_run One atoms r = r.0
to_run Two atoms r = r

to_body : (f : Format) (n : ℕ) (b : Body) → n ≤ 64 → BodyIn f n b → IsBody b
to_body f n (Insert s atoms) h i = (to_slot f n s h i.0, to_run f atoms i.1)
to_body f n (Delete target) h i = to_identity f n target h i
to_body f n (Propose s) h i = to_slot f n s h i
to_body f n (Commit proposal) h i = to_dot n proposal h i
to_body f n (Abort proposal) h i = to_dot n proposal h i

-- no site that a body names is past the size
slot_named : (f : Format) (n : ℕ) (s : Slot) → SlotIn f n s → IfSome (slot_site s) (λ site. site ≤ n)
slot_named f n Root i = tt
slot_named f n (At atom b) i = i.dot.site.most

body_named : (f : Format) (n : ℕ) (b : Body) → BodyIn f n b → IfSome (body_site b) (λ site. site ≤ n)
body_named f n (Insert s atoms) i = slot_named f n s i.0
body_named f n (Delete target) i = i.dot.site.most
body_named f n (Propose s) i = slot_named f n s i
body_named f n (Commit proposal) i = i.site.most
body_named f n (Abort proposal) i = i.site.most

pub to_op : (f : Format) (k : ℕ) (o : OpValue) → OpOf f k o → IsOpValue o
to_op f k o x =
    let few = few_sites f in
    let short : length o.deps ≤ 64 = omega (arith, x.size.most, few) in
    let some = x.own.site.least in
    let last : get_or o.deps (o.dot.site - 1) 0 ≡ o.dot.seq - 1 =
    x.before.before (o.dot.site - 1) (omega (arith, x.size.least, some)) (omega (arith, some)) in
    record {
      dot = to_dot (max_site f) o.dot few x.own;
      deps = record {
        some = omega (arith, x.size.least, some);
        short = short;
        small = All-from_recursion (λ d. d ≤ 65535) o.deps x.before.small;
      };
      body = to_body f (length o.deps) o.body short x.what.1;
      op = record {
        own = x.size.least;
        named = body_named f (length o.deps) o.body x.what.1;
        next = omega (arith, last, x.own.seq.least);
      };
    }

to_old_slot : (n : ℕ) (s : Slot) → SlotIn One n s → IsOldSlot s
to_old_slot n Root i = tt
to_old_slot n (At atom b) i = i.offset

to_old_body : (n : ℕ) (b : Body) → BodyIn One n b → IsOldBody b
to_old_body n (Insert s atoms) i = (to_old_slot n s i.0, i.1.1)
to_old_body n (Delete target) i = i.offset
to_old_body n (Propose s) i = to_old_slot n s i
to_old_body n (Commit proposal) i = tt
to_old_body n (Abort proposal) i = tt

to_message : (f : Format) (m : Message) → MessageOf f (kind_of m) m → IsMessage m
to_message f (Op o) h = to_op f (kind o.body) o h
to_message f (Vote v) h = let few = few_sites f in
    record {
      voter = record { least = h.1.voter.least; greatest = omega (arith, h.1.voter.most, few) };
      proposal = to_dot (max_site f) v.proposal few h.1.proposal;
    }

to_old : (m : Message) → MessageOf One (kind_of m) m → IsOld m
to_old (Op o) h = (h.size.most, to_old_body (length o.deps) o.body h.what.1)
to_old (Vote v) h = (h.1.voter.most, h.1.proposal.site.most)

can_say : (f : Format) (m : Message) → MessageOf f (kind_of m) m → CanSay f m
can_say One m h = (to_message One m h, to_old m h)
can_say Two m h = to_message Two m h

-- ---- and the other way

from_offset : (f : Format) (x : AtomIdValue) → IsAtomId x → (f ≡ One → IsFirst x) → OffsetIn f x.offset
from_offset One x i old = old refl
from_offset Two x i old = i.greatest

from_identity : (f : Format) (n : ℕ) (x : AtomIdValue) → x.dot.site ≤ n → IsAtomId x → (f ≡ One → IsFirst x)
    → IdentityIn f n x
from_identity f n x h i old = record { dot = from_dot n x.dot h i.dot; offset = from_offset f x i old }

from_slot : (f : Format) (n : ℕ) (s : Slot) → IfSome (slot_site s) (λ site. site ≤ n) → IsSlot s
    → (f ≡ One → IsOldSlot s) → SlotIn f n s
from_slot f n Root h i old = tt
from_slot f n (At atom b) h i old = from_identity f n atom h i old

from_run : (f : Format) (atoms : List (List ℕ)) → IsRun atoms → (f ≡ One → length atoms ≡ 1) → RunIn f atoms
from_run One atoms r old = (r, old refl)
from_run Two atoms r old = r

from_body : (f : Format) (n : ℕ) (b : Body) → IfSome (body_site b) (λ site. site ≤ n) → IsBody b
    → (f ≡ One → IsOldBody b) → BodyIn f n b
from_body f n (Insert s atoms) h i old = (from_slot f n s h i.0 (λ e. (old e).0), from_run f atoms i.1 (λ e. (old e).1))
from_body f n (Delete target) h i old = from_identity f n target h i old
from_body f n (Propose s) h i old = from_slot f n s h i old
from_body f n (Commit proposal) h i old = from_dot n proposal h i
from_body f n (Abort proposal) h i old = from_dot n proposal h i

size_in : (f : Format) (n : ℕ) → n ≤ 64 → (f ≡ One → n ≤ 16) → n ≤ max_site f
size_in One n h old = old refl
size_in Two n h old = h

from_op_message : (f : Format) (o : OpValue) → IsOpValue o → (f ≡ One → IsOld (Op o)) → OpOf f (kind o.body) o
from_op_message f o m old =
    let n : ℕ = length o.deps in
    let size = size_in f n m.deps.short (λ e. (old e).0) in
    let next = m.op.next in
    record {
      own = from_dot (max_site f) o.dot (omega (arith, m.op.own, size)) m.dot;
      size = record { least = m.op.own; most = size };
      before = record {
        count = refl;
        small = recursion_from_All (λ d. d ≤ 65535) o.deps m.deps.small;
        before = λ i lt e. before i e next;
      };
      what = (refl, from_body f n o.body m.op.named m.body (λ e. (old e).1));
    } where
      before : (i : ℕ) → o.dot.site ≡ 1 + i → vector_get o.deps o.dot.site + 1 ≡ o.dot.seq → get_or o.deps i 0
          ≡ o.dot.seq - 1
      before i e next =
          let place : o.dot.site - 1 ≡ i = omega (arith, e) in
          let here : get_or o.deps (o.dot.site - 1) 0 ≡ get_or o.deps i 0 = ap (λ (j : ℕ). get_or o.deps j 0) place in
          omega (arith, here, next)

from_message : (f : Format) (m : Message) → IsMessage m → (f ≡ One → IsOld m) → Whole f m
from_message f (Op o) h old = let low = kind_low o.body in
    (record { least = low.0; most = omega (arith, low.1) }, from_op_message f o h old)
from_message f (Vote v) h old = (
  record { least = omega arith; most = omega arith },
  (
    refl,
    record {
      voter = record { least = h.voter.least; most = size_in f v.voter h.voter.greatest (λ e. (old e).0) };
      proposal = from_dot (max_site f) v.proposal (size_in f v.proposal.site h.proposal.site.greatest
          (λ e. (old e).1)) h.proposal;
    },
  ),
)

two_is_not_one : {A : Type 0} → Two ≡ One → A
two_is_not_one e = absurd (differ e) where
  differ : Two ≡ One → ⊥
  differ e = cc

whole_from : (f : Format) (m : Message) → CanSay f m → Whole f m
whole_from One m h = from_message One m h.0 (λ _. h.1)
whole_from Two m h = from_message Two m h two_is_not_one

-- ---- both formats

abbrev digit_of : Format → ℕ
digit_of One = 49
digit_of Two = 50

digit_in : (f : Format) → InRange 49 50 (digit_of f)
digit_in One = record { least = omega arith; most = omega arith }
digit_in Two = record { least = omega arith; most = omega arith }

format_back : (f : Format) → format_of (digit_of f) ≡ f
format_back One = refl
format_back Two = refl

spelled_by_kind : (f : Format) (m : Message) → 84 ∷ digit_of f ∷ behind_mark f m ≡ spelling f m
spelled_by_kind One (Op o) = refl
spelled_by_kind One (Vote v) = refl
spelled_by_kind Two (Op o) = refl
spelled_by_kind Two (Vote v) = refl

digit_is : (d : ℕ) → InRange 49 50 d → digit_of (format_of d) ≡ d
digit_is d r = by_test (eqb d 49) refl where
  by_test : (t : Bool) → eqb d 49 ≡ t → digit_of (cond t One Two) ≡ d
  by_test true e = let equal = eqb-true d 49 e in omega (arith, equal)
  by_test false e = let differ = eqb-false d 49 e in omega (arith, differ, r.least, r.most)

abbrev Marked : Message → List ℕ → Type 0
Marked = Seq (Byte 84 84) (λ _. Seq (Byte 49 50) (λ d. Field (Whole (format_of d)) (behind_mark (format_of d))))

to_spells : (m : Message) (xs : List ℕ) → Marked m xs → SpellsIn m xs
to_spells m xs q =
    let t : q.first ≡ 84 = omega (arith, q.head.can.least, q.head.can.most) in
    let d : ℕ = q.tail.first in
    let f : Format = format_of d in
    let bytes : xs ≡ q.first ∷ d ∷ behind_mark f m = q.parts
    ∙ rw (q.head.is, q.tail.parts, q.tail.head.is, q.tail.tail.is) refl in
    let first : xs ≡ 84 ∷ digit_of f ∷ behind_mark f m = bytes ∙ ap (λ (b : ℕ). b ∷ d ∷ behind_mark f m) t
    ∙ ap (λ (b : ℕ). 84 ∷ b ∷ behind_mark f m) (sym (digit_is d q.tail.head.can)) in
    (f, record { can = can_say f m q.tail.tail.can.1; bytes_are = first ∙ spelled_by_kind f m })

from_spells : (m : Message) (xs : List ℕ) → SpellsIn m xs → Marked m xs
from_spells m xs s =
    let f : Format = s.0 in
    record {
      first = 84;
      front = 84 ∷ [];
      back = digit_of f ∷ behind_mark f m;
      parts = s.1.bytes_are ∙ sym (spelled_by_kind f m);
      head = record { can = record { least = omega arith; most = omega arith }; is = refl };
      tail = record {
        first = digit_of f;
        front = digit_of f ∷ [];
        back = behind_mark f m;
        parts = refl;
        head = record { can = digit_in f; is = refl };
        tail = subst (λ (g : Format). Field (Whole g) (behind_mark g) m (behind_mark f m)) (sym (format_back f))
            (record { can = whole_from f m s.1.can; is = refl });
      };
    }

pub message_reads : Reads SpellsIn message_at
unfolding message_at
message_reads = same Marked SpellsIn message_at to_spells from_spells
    (then (Byte 84 84) (λ _. Seq (Byte 49 50) (λ d. Field (Whole (format_of d)) (behind_mark (format_of d))))
    (byte_at 84 84) _ (byte_reads 84 84 (omega arith)) (λ _ _ _.
    then (Byte 49 50) (λ d. Field (Whole (format_of d)) (behind_mark (format_of d))) (byte_at 49 50) _
    (byte_reads 49 50 (omega arith)) (λ d _ _. whole_reads (format_of d))))
