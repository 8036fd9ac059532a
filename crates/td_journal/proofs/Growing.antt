-- Journals with more inputs, and lists of entries with more.
use Rattle.std.proofs.Common.{◌≡◌, ℕ, zero, suc, ◌≤◌, List, [], ◌∷◌, ◌++◌, length, take, drop}
use Rattle.std.proofs.Common.{refl, sym, ◌∙◌, ap, arith, append_assoc, take-append-drop}
use Rattle.std.proofs.lemmas.List.{append-nil, map-append}
use Rattle.td_op.specs.declared.entry.Entry.{Entry}
use Rattle.td_op.specs.declared.input.Input.{Input}
use Rattle.td_journal.specs.declared.format.Format.{Format}
use Rattle.td_journal.specs.Journal.{first_check, head_bytes, next_check, record_bytes, records_bytes}
use Rattle.td_journal.specs.Journal.{last_check, journal_bytes, journal_check, inputs_of}

pub records_both : (f : Format) (before : List ℕ) (ks ls : List Input)
    → records_bytes f before (ks ++ ls) ≡ records_bytes f before ks ++ records_bytes f (last_check f before ks) ls
records_both f before [] ls = refl
records_both f before (a ∷ ks) ls =
    let next : List ℕ = next_check f before a in
    ap (λ (l : List ℕ). record_bytes f before a ++ l) (records_both f next ks ls)
    ∙ sym (append_assoc (record_bytes f before a) (records_bytes f next ks) (records_bytes f (last_check f next ks) ls))

pub check_both : (f : Format) (before : List ℕ) (ks ls : List Input)
    → last_check f before (ks ++ ls) ≡ last_check f (last_check f before ks) ls
check_both f before [] ls = refl
check_both f before (a ∷ ks) ls = check_both f (next_check f before a) ks ls

pub records_grow : (f : Format) (before : List ℕ) (ks : List Input) (i : Input)
    → records_bytes f before (ks ++ i ∷ []) ≡ records_bytes f before ks ++ record_bytes f (last_check f before ks) i
records_grow f before ks i =
    records_both f before ks (i ∷ [])
    ∙ ap (λ (l : List ℕ). records_bytes f before ks ++ l) (append-nil (record_bytes f (last_check f before ks) i))

pub journal_both : (f : Format) (site n : ℕ) (ks ls : List Input)
    → journal_bytes f site n (ks ++ ls) ≡ journal_bytes f site n ks ++ records_bytes f (journal_check f site n ks) ls
journal_both f site n ks ls =
    ap (λ (l : List ℕ). head_bytes f site n ++ l) (records_both f (first_check f site n) ks ls)
    ∙ sym (append_assoc (head_bytes f site n) (records_bytes f (first_check f site n) ks)
    (records_bytes f (journal_check f site n ks) ls))

-- ---- entries

take_front : {A : Type 0} (n : ℕ) (xs ys : List A) → n ≤ length xs → take n (xs ++ ys) ≡ take n xs
take_front zero xs ys h = refl
take_front (suc n) [] ys h = absurd (omega (arith, h))
take_front {A} (suc n) (x ∷ xs) ys h = ap (λ (l : List A). x ∷ l) (take_front n xs ys (omega (arith, h)))

drop_front : {A : Type 0} (n : ℕ) (xs ys : List A) → n ≤ length xs → drop n (xs ++ ys) ≡ drop n xs ++ ys
drop_front zero xs ys h = refl
drop_front (suc n) [] ys h = absurd (omega (arith, h))
drop_front (suc n) (x ∷ xs) ys h = drop_front n xs ys (omega (arith, h))

pub first_entries : (n : ℕ) (es : List Entry) (e : Entry) → n ≤ length es → take n (es ++ e ∷ []) ≡ take n es
first_entries n es e h = take_front n es (e ∷ []) h

pub first_inputs : (n : ℕ) (es : List Entry) (e : Entry) → n ≤ length es
    → inputs_of (take n (es ++ e ∷ [])) ≡ inputs_of (take n es)
first_inputs n es e h = ap inputs_of (take_front n es (e ∷ []) h)

pub last_inputs : (n : ℕ) (es : List Entry) (e : Entry) → n ≤ length es
    → inputs_of (drop n (es ++ e ∷ [])) ≡ inputs_of (drop n es) ++ e.input ∷ []
last_inputs n es e h = ap inputs_of (drop_front n es (e ∷ []) h)
    ∙ map-append (λ (x : Entry). x.input) (drop n es) (e ∷ [])

pub inputs_grow : (es : List Entry) (e : Entry) → inputs_of (es ++ e ∷ []) ≡ inputs_of es ++ e.input ∷ []
inputs_grow es e = map-append (λ (x : Entry). x.input) es (e ∷ [])

pub inputs_split : (n : ℕ) (es : List Entry) → inputs_of es ≡ inputs_of (take n es) ++ inputs_of (drop n es)
inputs_split n es = ap inputs_of (sym (take-append-drop n es))
    ∙ map-append (λ (x : Entry). x.input) (take n es) (drop n es)
