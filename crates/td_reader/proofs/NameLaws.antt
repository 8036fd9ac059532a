-- Sites, dots and identities: what is written is read, and what is read is what is written of its value.
use Rattle.std.proofs.Common.{◌≡◌, ◌≤◌, ℕ, Bool, true, false, cond, eqb, List, [], ◌∷◌, ◌++◌}
use Rattle.std.proofs.Common.{Option, Some, None, codes, refl, sym, ap, subst, ◌∙◌, append_assoc, arith}
use Rattle.std.specs.Char.{is_ascii_digit}
use Rattle.std.specs.Fmt.{decimal}
use Rattle.std.proofs.lemmas.Bool.{cond-false, eqb-true, eqb-false, ne_eqb}
use Rattle.std.proofs.lemmas.Option.{some_pair_parts}
use Rattle.td_base.specs.Value.{DotValue, AtomIdValue, IsSite, IsDot, IsAtomId}
use Rattle.td_base.specs.declared.atom_id.TheConstants.{MAX_OFFSET}
use Rattle.td_base.specs.declared.dot.TheConstants.{MAX_SEQ}
use Rattle.td_base.specs.declared.site.TheConstants.{MAX_SITE}
use Rattle.td_report.specs.Parts.{identity, offset_part}
use Rattle.td_script.specs.Spelling.{dotted}
use Rattle.td_reader.specs.Arguments.{site_at, dot_at, offset_at, identity_at, ranged_at}
use Rattle.td_reader.specs.Reading.{Reading, after, choose}
use Rattle.td_reader.proofs.Cursors.{NoDigit, after_back}
use Rattle.td_reader.proofs.Numbers.{ranged_at_there, ranged_at_back, no_word}
use Rattle.td_reader.proofs.Readings.{IsRead, Ends, bind_back, choose_back, no_digit}

pub site_there : (n : ℕ) (rest : List ℕ) → IsSite n → NoDigit rest → site_at (decimal n ++ rest) ≡ Some (n, rest)
unfolding site_at
site_there n rest h ends = ranged_at_there 1 MAX_SITE n rest h.least h.greatest (omega (arith, h.greatest)) ends

pub site_back : (bytes : List ℕ) (n : ℕ) (rest : List ℕ) → site_at bytes ≡ Some (n, rest)
    → IsRead decimal IsSite bytes n rest
unfolding site_at
site_back bytes n rest e =
    let back = ranged_at_back 1 MAX_SITE bytes n rest e in
    record { fits = record { least = back.0; greatest = back.1 }; whole = back.2 }

pub dot_there : (d : DotValue) (rest : List ℕ) → IsDot d → NoDigit rest → dot_at (dotted d ++ rest) ≡ Some (d, rest)
unfolding dot_at
dot_there d rest h ends =
    let site : site_at (decimal d.site ++ 46 ∷ (decimal d.seq ++ rest)) ≡ Some
    (d.site, 46 ∷ (decimal d.seq ++ rest)) =
    site_there d.site (46 ∷ (decimal d.seq ++ rest)) h.site refl in
    let seq : ranged_at 1 MAX_SEQ (decimal d.seq ++ rest) ≡ Some (d.seq, rest) =
    ranged_at_there 1 MAX_SEQ d.seq rest h.least h.greatest (omega (arith, h.greatest)) ends in
    ap dot_at (append_assoc (decimal d.site) (46 ∷ decimal d.seq) rest) ∙ rw (site, seq) refl

pub dot_back : (bytes : List ℕ) (d : DotValue) (rest : List ℕ) → dot_at bytes ≡ Some (d, rest)
    → IsRead dotted IsDot bytes d rest
unfolding dot_at
dot_back bytes d rest e =
    bind_back e (λ (site : ℕ × List ℕ) is_site e. bind_back e
    (λ (behind : List ℕ) is_point e. bind_back e (λ (seq : ℕ × List ℕ) is_seq e.
    let front = site_back bytes site.0 site.1 is_site in
    let back = ranged_at_back 1 MAX_SEQ behind seq.0 seq.1 is_seq in
    let same = some_pair_parts (record { site = site.0; seq = seq.0 }) d seq.1 rest e in
    subst (λ (x : DotValue). IsRead dotted IsDot bytes x rest) same.0
    (subst (λ (r : List ℕ). IsRead dotted IsDot bytes (record { site = site.0; seq = seq.0 }) r) same.1 (record {
      fits = record { site = front.fits; least = back.0; greatest = back.1 };
      whole = front.whole ∙ ap (λ (t : List ℕ). decimal site.0 ++ t)
          (after_back (codes ".") site.1 behind is_point ∙ ap (λ (t : List ℕ). 46 ∷ t) back.2)
          ∙ sym (append_assoc (decimal site.0) (46 ∷ decimal seq.0) seq.1);
    })))))

no_plus : (rest : List ℕ) → Ends rest → after (codes "+") rest ≡ None
no_plus [] h = refl
no_plus (byte ∷ rest) h = cond-false {A = Option (List ℕ)} (eqb byte 43) (Some rest) None h.1

pub offset_there : (n : ℕ) (rest : List ℕ) → n ≤ MAX_OFFSET → Ends rest → offset_at (offset_part n ++ rest) ≡ Some
    (n, rest)
unfolding offset_at
offset_there n rest few ends = at_zero (eqb n 0) refl
  where
    at_zero : (z : Bool) → eqb n 0 ≡ z
        → choose (codes "+") (cond z [] (43 ∷ decimal n) ++ rest) (ranged_at 1 MAX_OFFSET)
        (Some (0, cond z [] (43 ∷ decimal n) ++ rest)) ≡ Some (n, rest)
    at_zero true e =
        let none : after (codes "+") rest ≡ None = no_plus rest ends in
        rw none (ap (λ (m : ℕ). Some (m, rest)) (sym (eqb-true n 0 e)))
    at_zero false e =
        let some : 1 ≤ n = omega (arith, eqb-false n 0 e) in
        ranged_at_there 1 MAX_OFFSET n rest some few (omega (arith, few)) (no_digit rest ends)

pub offset_back : (bytes : List ℕ) (n : ℕ) (rest : List ℕ) → offset_at bytes ≡ Some (n, rest)
    → IsRead offset_part (λ n. n ≤ MAX_OFFSET) bytes n rest
unfolding offset_at
offset_back bytes n rest e =
    choose_back (codes "+") e (λ behind whole e. plus behind whole e) (λ e. none e)
  where
    plus : (behind : List ℕ) → bytes ≡ 43 ∷ behind → ranged_at 1 MAX_OFFSET behind ≡ Some (n, rest)
        → IsRead offset_part (λ n. n ≤ MAX_OFFSET) bytes n rest
    plus behind whole e =
        let back = ranged_at_back 1 MAX_OFFSET behind n rest e in
        let some : 1 ≤ n = back.0 in
        let other : eqb n 0 ≡ false = ne_eqb n 0 (omega arith) in
        record {
          fits = back.1;
          whole = whole ∙ ap (λ (t : List ℕ). 43 ∷ t) back.2 ∙ ap
              (λ (z : Bool). cond z [] (43 ∷ decimal n) ++ rest) (sym other);
        }

    none : ◌≡◌ {A = Reading ℕ} (Some (0, bytes)) (Some (n, rest)) → IsRead offset_part
        (λ n. n ≤ MAX_OFFSET) bytes n rest
    none e =
        let same = some_pair_parts 0 n bytes rest e in
        subst (λ (m : ℕ). IsRead offset_part (λ n. n ≤ MAX_OFFSET) bytes m rest) same.0
        (record { fits = omega arith; whole = same.1 })

ends_behind : (n : ℕ) (rest : List ℕ) → Ends rest → NoDigit (offset_part n ++ rest)
ends_behind n rest ends = at_zero (eqb n 0)
  where
    at_zero : (z : Bool) → NoDigit (cond z [] (43 ∷ decimal n) ++ rest)
    at_zero true = no_digit rest ends
    at_zero false = refl

pub identity_there : (x : AtomIdValue) (rest : List ℕ) → IsAtomId x → Ends rest → identity_at
    (identity x ++ rest) ≡ Some (x, rest)
unfolding identity_at
identity_there x rest h ends =
    let dot : dot_at (dotted x.dot ++ (offset_part x.offset ++ rest)) ≡ Some (x.dot, offset_part x.offset ++ rest) =
    dot_there x.dot (offset_part x.offset ++ rest) h.dot (ends_behind x.offset rest ends) in
    let offset : offset_at (offset_part x.offset ++ rest) ≡ Some
    (x.offset, rest) = offset_there x.offset rest h.greatest ends in
    ap identity_at (append_assoc (dotted x.dot) (offset_part x.offset) rest) ∙ rw (dot, offset) refl

pub identity_back : (bytes : List ℕ) (x : AtomIdValue) (rest : List ℕ) → identity_at bytes ≡ Some (x, rest)
    → IsRead identity IsAtomId bytes x rest
unfolding identity_at
identity_back bytes x rest e =
    bind_back e (λ (dot : DotValue × List ℕ) is_dot e. bind_back e (λ (offset : ℕ × List ℕ) is_offset e.
    let front = dot_back bytes dot.0 dot.1 is_dot in
    let back = offset_back dot.1 offset.0 offset.1 is_offset in
    let same = some_pair_parts (record { dot = dot.0; offset = offset.0 }) x offset.1 rest e in
    subst (λ (y : AtomIdValue). IsRead identity IsAtomId bytes y rest) same.0
    (subst (λ (r : List ℕ). IsRead identity IsAtomId bytes (record { dot = dot.0; offset = offset.0 }) r) same.1
    (record {
      fits = record { dot = front.fits; greatest = back.fits };
      whole = front.whole ∙ ap (λ (t : List ℕ). dotted dot.0 ++ t) back.whole ∙ sym
          (append_assoc (dotted dot.0) (offset_part offset.0) offset.1);
    }))))

-- an identity begins with a digit
pub no_word_identity : (letter : ℕ) (word : List ℕ) (x : AtomIdValue) (rest : List ℕ) → is_ascii_digit letter ≡ false
    → IsAtomId x
    → after (letter ∷ word) (identity x ++ rest) ≡ None
no_word_identity letter word x rest other h =
    ap (after (letter ∷ word)) (append_assoc (dotted x.dot) (offset_part x.offset) rest
    ∙ append_assoc (decimal x.dot.site) (46 ∷ decimal x.dot.seq) (offset_part x.offset ++ rest))
    ∙ no_word letter word x.dot.site (46 ∷ (decimal x.dot.seq ++ (offset_part x.offset ++ rest))) other
    (omega (arith, h.dot.site.greatest))
