-- What is equal by parts is one.
use Rattle.std.proofs.Common.{◌≡◌, ◌≢◌, ◌==◌, true, false, refl, sym, true≢false}
use Rattle.std.proofs.lemmas.Bool.{and_parts, and_from, eqb-true, eq-eqb, false_from_ne_true}
use Rattle.td_base.specs.declared.bit.Bit.{Bit}
use Rattle.td_base.specs.declared.bit.Bit.TheVariants.{Left, Right}
use Rattle.td_base.specs.Value.{DotValue, AtomIdValue}
use Rattle.td_base.specs.Equality.{same_bit, same_dot, same_id}

pub same_bit_true : (b c : Bit) → same_bit b c ≡ true → b ≡ c
same_bit_true Left Left h = refl
same_bit_true Left Right h = absurd (true≢false (sym h))
same_bit_true Right Left h = absurd (true≢false (sym h))
same_bit_true Right Right h = refl

pub same_bit_refl : (b : Bit) → same_bit b b ≡ true
same_bit_refl Left = refl
same_bit_refl Right = refl

pub same_dot_true : (d e : DotValue) → same_dot d e ≡ true → d ≡ e
same_dot_true d e h =
    let p = and_parts (d.site == e.site) (d.seq == e.seq) h in
    let site : d.site ≡ e.site = eqb-true d.site e.site p.0 in
    let seq : d.seq ≡ e.seq = eqb-true d.seq e.seq p.1 in
    λ i. record { site = site i; seq = seq i }

pub same_dot_refl : (d : DotValue) → same_dot d d ≡ true
same_dot_refl d = and_from (d.site == d.site) (d.seq == d.seq) (eq-eqb d.site d.site refl) (eq-eqb d.seq d.seq refl)

pub same_id_true : (x y : AtomIdValue) → same_id x y ≡ true → x ≡ y
same_id_true x y h =
    let p = and_parts (same_dot x.dot y.dot) (x.offset == y.offset) h in
    let dot : x.dot ≡ y.dot = same_dot_true x.dot y.dot p.0 in
    let offset : x.offset ≡ y.offset = eqb-true x.offset y.offset p.1 in
    λ i. record { dot = dot i; offset = offset i }

pub same_id_refl : (x : AtomIdValue) → same_id x x ≡ true
same_id_refl x = and_from (same_dot x.dot x.dot) (x.offset == x.offset) (same_dot_refl x.dot)
    (eq-eqb x.offset x.offset refl)

-- and what is not one differs in some part

pub same_dot_other : (d e : DotValue) → d ≢ e → same_dot d e ≡ false
same_dot_other d e other = false_from_ne_true (same_dot d e) (λ h. other (same_dot_true d e h))

pub same_id_other : (x y : AtomIdValue) → x ≢ y → same_id x y ≡ false
same_id_other x y other = false_from_ne_true (same_id x y) (λ h. other (same_id_true x y h))
