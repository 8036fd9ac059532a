-- What the reading of a message says of all the bytes.
use Rattle.std.proofs.Common.{◌≡◌, ℕ, ◌+◌, ◌-◌, ◌<◌, ◌≤◌, List, [], ◌∷◌, ◌++◌, length, take, Ok, Err, refl, sym, ap}
use Rattle.std.proofs.Common.{subst, ◌∙◌, append_assoc, arith}
use Rattle.std.proofs.lemmas.List.{append-nil, length-append, nil_from_length, take_at}
use Rattle.std.proofs.Math.Seq.{take-append-add}
use Rattle.td_op.specs.declared.message.Message.{Message}
use Rattle.td_op.specs.declared.message.Message.TheVariants.{Op, Vote}
use Rattle.td_wire.specs.declared.length.TheConstants.{MAX_PACKET_LEN}
use Rattle.td_wire.specs.declared.format.Format.{Format}
use Rattle.td_wire.specs.declared.format.Format.TheVariants.{One, Two}
use Rattle.td_wire.specs.Spelling.{spelling, Spells, SpellsIn, BeginsSpelling, IsFaultAt}
use Rattle.td_base.specs.Value.{DotValue}
use Rattle.td_op.specs.declared.body.Body.{Body}
use Rattle.td_op.specs.Op.{OpValue, IsOp}
use Rattle.td_wire.specs.Reading.{Read, ◌>>=◌, byte_at, dot_at, deps_at, body_at, max_site, op_at, message_at}
use Rattle.td_wire.proofs.Bytes.{InRange}
use Rattle.td_wire.proofs.Loops.{byte_range}
use Rattle.td_wire.proofs.Operations.{op_reads}
use Rattle.td_wire.proofs.Sizes.{spelling_short}
use Rattle.td_wire.proofs.Exact.{ok, ok_is, ok_differs, Stops, IsFault}
use Rattle.td_wire.proofs.Messages.{to_op, message_reads}

-- a spelling is read whole
pub whole_read : (bytes : List ℕ) (m : Message) → SpellsIn m bytes → message_at bytes ≡ Ok (m, [])
whole_read bytes m s = ap message_at (sym (append-nil bytes)) ∙ message_reads.again m bytes [] s

pub one_message : (bytes : List ℕ) (f g : Format) (m n : Message) → Spells f m bytes → Spells g n bytes → m ≡ n
one_message bytes f g m n s t =
    ap (λ (x : Message × List ℕ). x.0) (ok_is (m, []) (n, [])
    (sym (whole_read bytes m (f, s)) ∙ whole_read bytes n (g, t)))

-- the second byte
abbrev second : List ℕ → ℕ
second [] = 0
second (a ∷ []) = 0
second (a ∷ b ∷ bytes) = b

abbrev digit : Format → ℕ
digit One = 49
digit Two = 50

second_is : (f : Format) (m : Message) → second (spelling f m) ≡ digit f
second_is One (Op o) = refl
second_is One (Vote v) = refl
second_is Two (Op o) = refl
second_is Two (Vote v) = refl

same_digit : (f g : Format) → digit f ≡ digit g → f ≡ g
same_digit One One e = refl
same_digit One Two e = absurd (omega (arith, e))
same_digit Two One e = absurd (omega (arith, e))
same_digit Two Two e = refl

pub one_format : (bytes : List ℕ) (f g : Format) (m n : Message) → Spells f m bytes → Spells g n bytes → f ≡ g
one_format bytes f g m n s t =
    same_digit f g (sym (second_is f m) ∙ ap second (sym s.bytes_are ∙ t.bytes_are) ∙ second_is g n)

-- ---- a reading of all the bytes

pub spelled : (bytes : List ℕ) (m : Message) (rest : List ℕ) → message_at bytes ≡ Ok (m, rest) → length rest ≡ 0
    → SpellsIn m bytes
spelled bytes m rest e none =
    let s = message_reads.sound bytes m rest e in
    let empty : rest ≡ [] = nil_from_length rest none in
    subst (SpellsIn m) (sym (s.1 ∙ ap (λ (ys : List ℕ). s.0 ++ ys) empty ∙ append-nil s.0)) s.2

-- the only message that is spelled is the one that is read
pub only_read : (bytes : List ℕ) (m n : Message) (rest : List ℕ) → message_at bytes ≡ Ok (m, rest) → SpellsIn n bytes
    → (m ≡ n) × (rest ≡ [])
only_read bytes m n rest e s =
    let both = ok_is (m, rest) (n, []) (sym e ∙ whole_read bytes n s) in
    (ap (λ (x : Message × List ℕ). x.0) both, ap (λ (x : Message × List ℕ). x.1) both)

pub none_spelled : (bytes : List ℕ) (left : ℕ) (n : Message) → message_at bytes ≡ Err left → SpellsIn n bytes → ⊥
none_spelled bytes left n e s = ok_differs (n, []) left (sym (whole_read bytes n s) ∙ e)

-- what a fault says of the fronts of the bytes
longest : (good bad : List ℕ) → Stops SpellsIn good bad → (k : ℕ) → length good < k → k ≤ length (good ++ bad)
    → ¬ BeginsSpelling (take k (good ++ bad))
longest good [] stops k above within = absurd (omega (arith, ap length (append-nil good)))
longest good (b ∷ bad) stops k above within = λ begins.
    let front : List ℕ = good ++ b ∷ [] in
    let j : ℕ = k - length front in
    let count : k ≡ length front + j = omega (arith, length-append good (b ∷ []), above) in
    let tail : List ℕ = take j bad in
    let split : take k (good ++ b ∷ bad) ≡ front ++ tail =
    ap (take k) (sym (append_assoc good (b ∷ []) bad)) ∙ ap (λ (n : ℕ). take n (front ++ bad)) count
    ∙ take-append-add front bad j in
    stops (
      begins.0,
      tail ++ begins.1,
      subst (SpellsIn begins.0)
          (ap (λ (ys : List ℕ). ys ++ begins.1) split ∙ append_assoc front tail begins.1) begins.2,
    )

pub fault_at : (bytes : List ℕ) (left at : ℕ) → IsFault SpellsIn bytes left → at + left ≡ length bytes
    → IsFaultAt bytes at
fault_at bytes left at f e =
    let long = length-append f.good f.bad in
    let whole = ap length f.parts in
    let here : length f.good ≡ at = omega (arith, long, whole, f.left_is, e) in
    let front : take at bytes ≡ f.good = ap (take at) f.parts ∙ take_at f.good f.bad at here in
    record {
      within = omega (arith, e);
      begins = subst BeginsSpelling (sym front) f.begins;
      longest = λ k above within begins. longest f.good f.bad f.stops k (omega (arith, above, here))
          (omega (arith, within, whole)) (subst (λ (ys : List ℕ). BeginsSpelling (take k ys)) f.parts begins);
    }

-- ---- bytes that are refused

-- no message is spelled, and so many bytes stand from the fault on
pub record Rejected (bytes : List ℕ) (left : ℕ) : Type 0 where
  pub none : (m : Message) → ¬ SpellsIn m bytes
  pub fault : IsFault SpellsIn bytes left

pub rejected_fault : (bytes : List ℕ) (left : ℕ) → message_at bytes ≡ Err left → Rejected bytes left
rejected_fault bytes left e = record {
  none = λ m s. none_spelled bytes left m e s;
  fault =
      message_reads.fault bytes left e;
}

-- a message with more bytes behind it
rest_stops : (m : Message) (front rest : List ℕ) → SpellsIn m front → Stops SpellsIn front rest
rest_stops m front [] s = tt
rest_stops m front (b ∷ rest) s = λ begins.
    let whole = message_reads.again begins.0 ((front ++ b ∷ []) ++ begins.1) [] begins.2 in
    let here : message_at (((front ++ b ∷ []) ++ begins.1) ++ []) ≡ Ok (m, b ∷ begins.1) =
    ap message_at (append-nil ((front ++ b ∷ []) ++ begins.1) ∙ append_assoc front (b ∷ []) begins.1)
    ∙ message_reads.again m front (b ∷ begins.1) s in
    let both = ap (λ (x : Message × List ℕ). length x.1) (ok_is (begins.0, []) (m, b ∷ begins.1) (sym whole ∙ here)) in
    absurd (omega (arith, both))

pub rejected_rest : (bytes : List ℕ) (m : Message) (rest : List ℕ) → message_at bytes ≡ Ok (m, rest)
    → (length rest ≡ 0 → ⊥) → Rejected bytes (length rest)
rejected_rest bytes m rest e some =
    let s = message_reads.sound bytes m rest e in
    record {
      none = λ n t. some (ap length (only_read bytes m n rest e t).1);
      fault = record {
        good = s.0;
        bad = rest;
        parts = s.1;
        left_is = refl;
        begins =
            (m, [], subst (SpellsIn m) (sym (append-nil s.0)) s.2);
        stops = rest_stops m s.0 rest s.2;
      };
    }

pub left_within : (bytes : List ℕ) (left : ℕ) → Rejected bytes left → left ≤ length bytes
left_within bytes left r = omega (
  arith,
  ap length r.fault.parts,
  length-append r.fault.good r.fault.bad,
  r.fault.left_is,
)

pub fault_short : (bytes : List ℕ) (left : ℕ) → Rejected bytes left → length bytes - left ≤ MAX_PACKET_LEN
fault_short bytes left r =
    let begins = r.fault.begins in
    let spelled = begins.2.1 in
    let short = spelling_short begins.2.0 begins.0 spelled.can in
    let whole = ap length spelled.bytes_are in
    omega (
      arith,
      short,
      whole,
      length-append r.fault.good begins.1,
      ap length r.fault.parts,
      length-append r.fault.good r.fault.bad,
      r.fault.left_is,
    )

pub rejected_at : (bytes : List ℕ) (left : ℕ) → Rejected bytes left → IsFaultAt bytes (length bytes - left)
rejected_at bytes left r = let within = left_within bytes left r in
    fault_at bytes left (length bytes - left) r.fault (omega (arith, within))

-- ---- operations that are read are valid

pub op_in : (f : Format) (k : ℕ) (own : DotValue) (n : ℕ) (ds : List ℕ) (b : Body)
    (xs after_own after_n after_deps rest : List ℕ) → InRange 1 5 k
    → dot_at (max_site f) xs ≡ Ok (own, after_own) → byte_at own.site (max_site f) after_own ≡ Ok (n, after_n)
    → deps_at own 1 n after_n ≡ Ok (ds, after_deps)
    → body_at f k n after_deps ≡ Ok (b, rest) → IsOp (record { dot = own; deps = ds; body = b })
unfolding op_at
op_in f k own n ds b xs after_own after_n after_deps rest range e1 e2 e3 e4 =
    let o : OpValue = record { dot = own; deps = ds; body = b } in
    let whole : op_at f k xs ≡ Ok (o, rest) =
    ap (λ (r : Read DotValue). r >>= λ own. byte_at own.0.site
    (max_site f) own.1 >>= λ n. deps_at own.0 1 n.0 n.1 >>= λ known. body_at f k n.0 known.1 >>= λ what.
    ok (record { dot = own.0; deps = known.0; body = what.0 }, what.1)) e1
    ∙ ap (λ (r : Read ℕ). r >>= λ n. deps_at own 1 n.0 n.1 >>= λ known. body_at f k n.0 known.1 >>= λ what. ok
    (record { dot = own; deps = known.0; body = what.0 }, what.1)) e2
    ∙ ap (λ (r : Read (List ℕ)). r >>= λ known. body_at f k n known.1 >>= λ what. ok
    (record { dot = own; deps = known.0; body = what.0 }, what.1)) e3
    ∙ ap (λ (r : Read Body). r >>= λ what. ok (record { dot = own; deps = ds; body = what.0 }, what.1)) e4 in
    (to_op f k o ((op_reads f k range).sound xs o rest whole).2.can).op

pub size_some : (own : DotValue) (n max_site : ℕ) (xs rest : List ℕ) → 1 ≤ own.site
    → byte_at own.site max_site xs ≡ Ok (n, rest) → (1 ≤ n) × (n ≤ max_site)
size_some own n max_site xs rest some read = let r = byte_range own.site max_site xs n rest read in
    (omega (arith, some, r.least), r.most)
