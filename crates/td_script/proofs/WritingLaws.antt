-- The line of a command is UTF-8 without control characters where its text has none but LF.
use Rattle.std.proofs.Common.{◌≡◌, ◌<◌, ◌≤◌, ℕ, Bool, true, false, cond, eqb, ltb, not, List, [], ◌∷◌, ◌++◌, get_or}
use Rattle.std.proofs.Common.{All, codes, refl, ◌∙◌, IsUtf8, arith}
use Rattle.std.specs.Fmt.{decimal}
use Rattle.std.specs.Int.{is_in_range, IsInRange}
use Rattle.std.specs.List.{concat, flat_map, list_all, list_any}
use Rattle.std.specs.Str.{is_utf8}
use Rattle.std.proofs.lemmas.Bool.{and_from, not_from_false, or_from, eqb-false}
use Rattle.std.proofs.lemmas.List.{get_or_default}
use Rattle.std.proofs.lemmas.List.Elements.{All-head, All-tail}
use Rattle.std.proofs.lemmas.List.Folds.{list_any-append, list_any_none}
use Rattle.std.proofs.lemmas.Str.{IsUtf8-append, IsUtf8-nil, is_utf8-from_IsUtf8}
use Rattle.td_base.specs.Atom.{IsAtom}
use Rattle.td_base.specs.Value.{DotValue}
use Rattle.td_base.specs.declared.bit.Bit.{Bit}
use Rattle.td_base.specs.declared.bit.Bit.TheVariants.{Left, Right}
use Rattle.td_base.specs.declared.site.TheConstants.{MAX_SITE}
use Rattle.td_marks.specs.declared.mark_op.TheConstants.{NAMES}
use Rattle.td_script.specs.declared.command.Command.{Command}
use Rattle.td_script.specs.declared.command.Command.TheVariants.{Sites, Ins, Paste, Del, Flat, FlatAuto, Cancel, Give}
use Rattle.td_script.specs.declared.command.Command.TheVariants.{GiveAll, Settle, Show, Tree, Count}
use Rattle.td_script.specs.declared.command.Command.TheVariants.{Mark, Meet, Marks}
use Rattle.td_script.specs.declared.command.Place.{Place}
use Rattle.td_script.specs.declared.command.Place.TheVariants.{Root, Beside}
use Rattle.std.specs.Char.{is_ascii_control}
use Rattle.td_script.specs.Lines.{is_text_line}
use Rattle.td_script.specs.Script.{IsClusters, IsCommand, IsDotOf, IsNumber, IsPlace, IsSiteOf, IsTextByte, IsWritable}
use Rattle.td_script.specs.Spelling.{line_of, spaced, spaced_bit, spaced_dot, spaced_place, spaced_text}
use Rattle.td_script.specs.Texts.{escaped}
use Rattle.td_script.proofs.SharedLaws.{decimal_utf8}
use Rattle.td_script.proofs.LineLaws.{ascii_by_test}
use Rattle.td_script.proofs.Numbers.{form_of_decimal}
use Rattle.td_script.proofs.TextWords.{written_utf8}
use Rattle.td_script.proofs.Results.{out_of_range}

-- bytes of a line that can be read
pub record IsClean (bytes : List ℕ) : Type 0 where
  pub plain : list_any is_ascii_control bytes ≡ false
  pub utf8 : IsUtf8 bytes

pub text_line : (line : List ℕ) → IsClean line → is_text_line line ≡ true
text_line line h = and_from (not (list_any is_ascii_control line)) (is_utf8 line)
    (not_from_false (list_any is_ascii_control line) h.plain) (is_utf8-from_IsUtf8 line h.utf8)

pub both : (xs ys : List ℕ) → IsClean xs → IsClean ys → IsClean (xs ++ ys)
both xs ys h k = record {
  plain = list_any-append is_ascii_control xs ys
      ∙ or_from (list_any is_ascii_control xs) (list_any is_ascii_control ys) h.plain k.plain;
  utf8 = IsUtf8-append xs ys h.utf8 k.utf8;
}

pub by_test : (xs : List ℕ) → list_any is_ascii_control xs ≡ false → list_all (λ b. ltb b 128) xs ≡ true → IsClean xs
by_test xs h k = record { plain = h; utf8 = ascii_by_test xs k }

printed : (b : ℕ) → 32 ≤ b → b < 127 → is_ascii_control b ≡ false
printed b h k =
    or_from (is_in_range 0 31 b) (is_in_range 127 127 b) (out_of_range 0 31 b (λ r. absurd (omega (arith, r.1))))
    (out_of_range 127 127 b (λ r. absurd (omega (arith, r.0))))

digits_clean : (n : ℕ) → IsNumber n → IsClean (decimal n)
digits_clean n small = record {
  plain = list_any_none is_ascii_control (decimal n) (λ i d inside.
      let same : get_or (decimal n) i d ≡ get_or (decimal n) i 0 = get_or_default (decimal n) i d 0 inside in
      let digit : IsInRange 48 57 (get_or (decimal n) i 0) = (form_of_decimal n small).digits i inside in
      printed (get_or (decimal n) i d) (omega arith) (omega arith));
  utf8 = decimal_utf8 n small;
}

pub spaced_clean : (n : ℕ) → IsNumber n → IsClean (spaced n)
spaced_clean n small = both (32 ∷ []) (decimal n) (by_test (32 ∷ []) refl refl) (digits_clean n small)

pub site_clean : (sites n : ℕ) → sites ≤ MAX_SITE → IsSiteOf sites n → IsClean (spaced n)
site_clean sites n few h = spaced_clean n (omega (arith, h.1))

pub dot_clean : (sites : ℕ) (d : DotValue) → sites ≤ MAX_SITE → IsDotOf sites d → IsClean (spaced_dot d)
dot_clean sites d few h = both (spaced d.site) (46 ∷ decimal d.seq) (site_clean sites d.site few h.0)
    (both (46 ∷ []) (decimal d.seq) (by_test (46 ∷ []) refl refl) (digits_clean d.seq (omega (arith, h.1.1))))

pub bit_clean : (bit : Bit) → IsClean (spaced_bit bit)
bit_clean Left = by_test (codes " left") refl refl
bit_clean Right = by_test (codes " right") refl refl

pub place_clean : (place : Place) → IsPlace place → IsClean (spaced_place place)
place_clean Root h = by_test (codes " root") refl refl
place_clean (Beside index bit) h = both (spaced index) (spaced_bit bit) (spaced_clean index h) (bit_clean bit)

byte_plain : (b : ℕ) (x y z : Bool) → eqb b 10 ≡ z → IsTextByte b
    → list_any is_ascii_control (cond x (92 ∷ 34 ∷ []) (cond y (92 ∷ 92 ∷ []) (cond z (92 ∷ 110 ∷ []) (b ∷ [])))) ≡
    false
byte_plain b true y z e h = refl
byte_plain b false true z e h = refl
byte_plain b false false true e h = refl
byte_plain b false false false e h = or_from (is_ascii_control b) false (h (eqb-false b 10 e)) refl

written_plain : (text : List ℕ) → All IsTextByte text → list_any is_ascii_control (flat_map escaped text) ≡ false
written_plain [] h = refl
written_plain (b ∷ text) h =
    list_any-append is_ascii_control (escaped b) (flat_map escaped text)
    ∙ or_from (list_any is_ascii_control (escaped b)) (list_any is_ascii_control (flat_map escaped text))
    (byte_plain b (eqb b 34) (eqb b 92) (eqb b 10) refl (All-head IsTextByte b text h))
    (written_plain text (All-tail IsTextByte b text h))

atoms_utf8 : (atoms : List (List ℕ)) → All IsAtom atoms → IsUtf8 (concat atoms)
atoms_utf8 [] h = IsUtf8-nil
atoms_utf8 (atom ∷ atoms) h = IsUtf8-append atom (concat atoms) (All-head IsAtom atom atoms h).text
    (atoms_utf8 atoms (All-tail IsAtom atom atoms h))

pub text_clean : (atoms : List (List ℕ)) → IsClusters atoms → All IsTextByte (concat atoms)
    → IsClean (spaced_text atoms)
text_clean atoms h k =
    let inner : IsClean (flat_map escaped (concat atoms)) =
    record { plain = written_plain (concat atoms) k; utf8 = written_utf8 (concat atoms) (atoms_utf8 atoms h.each) } in
    both (32 ∷ 34 ∷ []) (flat_map escaped (concat atoms) ++ 34 ∷ []) (by_test (32 ∷ 34 ∷ []) refl refl)
    (both (flat_map escaped (concat atoms)) (34 ∷ []) inner (by_test (34 ∷ []) refl refl))

-- a word, a site and the rest of a line
pub line_clean : (word : List ℕ) (sites site : ℕ) (rest : List ℕ) → list_any is_ascii_control word ≡ false
    → list_all (λ b. ltb b 128) word ≡ true → sites ≤ MAX_SITE → IsSiteOf sites site → IsClean rest
    → IsClean (word ++ (spaced site ++ rest))
line_clean word sites site rest h k few is clean =
    both word (spaced site ++ rest) (by_test word h k) (both (spaced site) rest (site_clean sites site few is) clean)

pub alone_clean : (word : List ℕ) (sites site : ℕ) → list_any is_ascii_control word ≡ false
    → list_all (λ b. ltb b 128) word ≡ true → sites ≤ MAX_SITE → IsSiteOf sites site → IsClean (word ++ spaced site)
alone_clean word sites site h k few is = both word (spaced site) (by_test word h k) (site_clean sites site few is)

mark_clean : (name index count : ℕ) → name < NAMES → IsNumber index → IsNumber count
    → IsClean (spaced name ++ (spaced index ++ spaced count))
mark_clean name index count h k l =
    both (spaced name) (spaced index ++ spaced count) (spaced_clean name (omega (arith, h)))
    (both (spaced index) (spaced count) (spaced_clean index k) (spaced_clean count l))

command_clean : (sites : ℕ) (c : Command) → sites ≤ MAX_SITE → IsCommand sites c → IsWritable c → IsClean (line_of c)
command_clean sites (Sites n) few h k = absurd h
command_clean sites (Ins site index atoms) few h k =
    line_clean (codes "ins") sites site (spaced index ++ spaced_text atoms) refl refl few h.0
    (both (spaced index) (spaced_text atoms) (spaced_clean index h.1) (text_clean atoms h.2 k))
command_clean sites (Paste site index atoms) few h k =
    line_clean (codes "paste") sites site (spaced index ++ spaced_text atoms) refl refl few h.0
    (both (spaced index) (spaced_text atoms) (spaced_clean index h.1) (text_clean atoms h.2 k))
command_clean sites (Del site index count) few h k =
    line_clean (codes "del") sites site (spaced index ++ spaced count) refl refl few h.0
    (both (spaced index) (spaced count) (spaced_clean index h.1) (spaced_clean count h.2))
command_clean sites (Flat site Root) few h k =
    line_clean (codes "flat") sites site (codes " root") refl refl few h (by_test (codes " root") refl refl)
command_clean sites (Flat site (Beside index bit)) few h k =
    line_clean (codes "flat") sites site (spaced index ++ spaced_bit bit) refl refl few h.0
    (both (spaced index) (spaced_bit bit) (spaced_clean index h.1) (bit_clean bit))
command_clean sites (FlatAuto site) few h k =
    line_clean (codes "flat") sites site (codes " auto") refl refl few h (by_test (codes " auto") refl refl)
command_clean sites (Cancel site proposal) few h k =
    line_clean (codes "cancel") sites site (spaced_dot proposal) refl refl few h.0 (dot_clean sites proposal few h.1)
command_clean sites (Give site number) few h k =
    line_clean (codes "give") sites site (spaced number) refl refl few h.0 (spaced_clean number h.1)
command_clean sites (GiveAll site) few h k =
    line_clean (codes "give") sites site (codes " all") refl refl few h (by_test (codes " all") refl refl)
command_clean sites Settle few h k = by_test (codes "settle") refl refl
command_clean sites (Show site) few h k = alone_clean (codes "show") sites site refl refl few h
command_clean sites (Tree site) few h k = alone_clean (codes "tree") sites site refl refl few h
command_clean sites (Count site) few h k = alone_clean (codes "count") sites site refl refl few h
command_clean sites (Mark site true name index count) few h k =
    line_clean (codes "mark") sites site (spaced name ++ (spaced index ++ spaced count)) refl refl few h.0
    (mark_clean name index count h.1 h.2 h.3)
command_clean sites (Mark site false name index count) few h k =
    line_clean (codes "unmark") sites site (spaced name ++ (spaced index ++ spaced count)) refl refl few h.0
    (mark_clean name index count h.1 h.2 h.3)
command_clean sites (Meet site other) few h k =
    line_clean (codes "meet") sites site (spaced other) refl refl few h.0 (site_clean sites other few h.1)
command_clean sites (Marks site) few h k = alone_clean (codes "marks") sites site refl refl few h

-- the line of a command of a script can be read
pub others_written : (sites : ℕ) (c : Command) → sites ≤ MAX_SITE → IsCommand sites c → IsWritable c
    → is_text_line (line_of c) ≡ true
others_written sites c few h k = text_line (line_of c) (command_clean sites c few h k)

pub sites_written : (n : ℕ) → IsSiteOf MAX_SITE n → is_text_line (line_of (Sites n)) ≡ true
sites_written n h = text_line (line_of (Sites n)) (alone_clean (codes "sites") MAX_SITE n refl refl (omega arith) h)
