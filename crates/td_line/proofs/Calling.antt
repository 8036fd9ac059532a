-- The calls in a history, as both grow.
use Rattle.std.proofs.Common.{◌≡◌, ◌≤◌, ◌+◌, ◌-◌, ◌++◌, ◌==◌, ℕ, zero, suc, Bool, true, false, List}
use Rattle.std.proofs.Common.{[], ◌∷◌, length, Some, slice_get, if◌then◌else◌, refl, sym, ap, ◌∙◌}
use Rattle.std.proofs.Common.{subst, length-append, append_assoc, arith}
use Rattle.std.specs.List.{AllByRecursion}
use Rattle.std.proofs.Math.Dec.{eqb-suc-suc, eqb-zero-suc, eqb-suc-zero}
use Rattle.std.proofs.lemmas.Option.{slice_get_within}
use Rattle.td_base.proofs.Places.{get_more}
use Rattle.td_base.proofs.Passing.{all_append}
use mathlib.Core.List.{IsPrefix}
use Rattle.td_op.specs.declared.entry.Entry.{Entry}
use Rattle.td_op.specs.declared.input.Input.TheVariants.{Local}
use Rattle.td_machine.specs.History.{History}
use Rattle.td_line.specs.declared.ask.Ask.{Ask}
use Rattle.td_line.specs.declared.answer.Answer.{Answer}
use Rattle.td_line.specs.Calls.{entry_at, AreRecorded, answers_at, local_in, local_of, local_at, OnlyLocals, IsAskDone}

abbrev pub entry_of : Ask → Answer → Entry
entry_of q a = record { input = Local q.request; reply = a.reply }

-- ---- entries

pub entry_more : (old more : History) (k : ℕ) (e : Entry) → entry_at old k ≡ Some e → entry_at (old ++ more) k ≡ Some e
entry_more old more zero e h = absurd (cc h)
entry_more old more (suc k) e h = get_more old more k e h

pub entry_within : (old : History) (k : ℕ) (e : Entry) → entry_at old k ≡ Some e → k ≤ length old
entry_within old zero e h = absurd (cc h)
entry_within old (suc k) e h = omega (arith, slice_get_within old k e h)

pub entry_last : (old : History) (e : Entry) → entry_at (old ++ e ∷ []) (suc (length old)) ≡ Some e
entry_last [] e = refl
entry_last (x ∷ old) e = entry_last old e

-- ---- calls

pub recorded_more : (old more : History) (last : ℕ) (asks : List Ask) (answers : List Answer)
    → AreRecorded old last asks answers → AreRecorded (old ++ more) last asks answers
recorded_more old more last [] [] r = r
recorded_more old more last [] (a ∷ answers) r = absurd r
recorded_more old more last (q ∷ asks) [] r = absurd r
recorded_more old more last (q ∷ asks) (a ∷ answers) r = (
  r.0,
  r.1,
  entry_more old more a.entry (entry_of q a) r.2,
  recorded_more old more a.entry asks answers r.3,
)

-- the same of a history that goes on
pub recorded_later : (old new : History) (last : ℕ) (asks : List Ask) (answers : List Answer) → IsPrefix old new
    → AreRecorded old last asks answers → AreRecorded new last asks answers
recorded_later old new last asks answers p r =
    subst (λ (h : History). AreRecorded h last asks answers) p.1 (recorded_more old p.0 last asks answers r)

-- one call more, whose entry is the last
recorded_last : (old : History) (last : ℕ) (asks : List Ask) (answers : List Answer) (q : Ask) (a : Answer)
    → a.call ≡ q.call → a.entry ≡ suc (length old) → last ≤ length old → AreRecorded old last asks answers
    → AreRecorded (old ++ entry_of q a ∷ []) last (asks ++ q ∷ []) (answers ++ a ∷ [])
recorded_last old last [] [] q a call entry below r = (
  call,
  omega (arith, entry),
  ap (λ (k : ℕ). entry_at (old ++ entry_of q a ∷ []) k) entry ∙ entry_last old (entry_of q a),
  tt,
)
recorded_last old last [] (b ∷ answers) q a call entry below r = absurd r
recorded_last old last (p ∷ asks) [] q a call entry below r = absurd r
recorded_last old last (p ∷ asks) (b ∷ answers) q a call entry below r = (
  r.0,
  r.1,
  entry_more old (entry_of q a ∷ []) b.entry (entry_of p b) r.2,
  recorded_last old b.entry asks answers q a call entry (entry_within old b.entry (entry_of p b) r.2) r.3,
)

entry_after : (old new : History) (e : Entry) (k : ℕ) → new ≡ old ++ e ∷ [] → k ≡ length new → k ≡ suc (length old)
entry_after old new e k is at = omega (arith, at, ap (λ (h : History). length h) is, length-append old (e ∷ []))

pub recorded_done : (old : History) (before : List Answer) (ask : Ask) (new : History) (after : List Answer)
    → IsAskDone old before ask new after → (asks : List Ask) → AreRecorded old 0 asks before
    → AreRecorded new 0 (asks ++ ask ∷ []) after
recorded_done old before ask new after d asks r =
    let a = d.answer in
    let at : a.entry ≡ suc (length old) = entry_after old new (entry_of ask a) a.entry d.entries d.entry in
    subst (λ (w : History × List Answer). AreRecorded w.0 0 (asks ++ ask ∷ []) w.1)
    (λ i. (sym d.entries i, sym d.given i))
    (recorded_last old 0 asks before ask a d.call at (omega arith) r)

-- the last of the answers is of an entry that there is
pub last_within : (old : History) (last : ℕ) (asks : List Ask) (answers : List Answer) (a : Answer)
    → AreRecorded old last asks answers → Some a ≡ slice_get answers (length answers - 1) → a.entry ≤ length old
last_within old last asks [] a r h = absurd (cc h)
last_within old last [] (b ∷ answers) a r h = absurd r
last_within old last (q ∷ asks) (b ∷ []) a r h =
    let first : length (b ∷ []) - 1 ≡ 0 = omega arith in
    let same : a ≡ b = one a b (h ∙ ap (λ (k : ℕ). slice_get (b ∷ []) k) first) in
    subst (λ (x : Answer). x.entry ≤ length old) (sym same) (entry_within old b.entry (entry_of q b) r.2)
  where
    one : (x y : Answer) → Some x ≡ Some y → x ≡ y
    one x y e = cc e
last_within old last (q ∷ asks) (b ∷ c ∷ answers) a r h =
    let next : length (b ∷ c ∷ answers) - 1 ≡ suc (length (c ∷ answers) - 1) = omega arith in
    last_within old b.entry asks (c ∷ answers) a r.3 (h ∙ ap (λ (k : ℕ). slice_get (b ∷ c ∷ answers) k) next)

-- ---- counts

-- 1 where the two are one number
is_at : ℕ → ℕ → ℕ
is_at a k = if a == k then 1 else 0

answers_more : (k : ℕ) (answers : List Answer) (a : Answer)
    → answers_at k (answers ++ a ∷ []) ≡ answers_at k answers + is_at a.entry k
unfolding is_at
answers_more k [] a = at (a.entry == k)
  where
    at : (b : Bool) → (if b then suc 0 else 0) ≡ 0 + (if b then 1 else 0)
    at true = refl
    at false = refl
answers_more k (c ∷ answers) a =
    at (c.entry == k) (answers_at k (answers ++ a ∷ [])) (answers_at k answers) (if a.entry == k then 1 else 0)
    (answers_more k answers a)
  where
    at : (b : Bool) (x y z : ℕ) → x ≡ y + z → (if b then suc x else x) ≡ (if b then suc y else y) + z
    at true x y z e = omega (arith, e)
    at false x y z e = e

at_next : (a k : ℕ) → is_at (suc a) (suc k) ≡ is_at a k
unfolding is_at
at_next a k = ap (λ (b : Bool). if b then 1 else 0) (eqb-suc-suc a k)

at_same : is_at 0 0 ≡ 1
unfolding is_at
at_same = refl

at_more : (k : ℕ) → is_at 0 (suc k) ≡ 0
unfolding is_at
at_more k = ap (λ (b : Bool). if b then 1 else 0) (eqb-zero-suc k)

at_less : (a : ℕ) → is_at (suc a) 0 ≡ 0
unfolding is_at
at_less a = ap (λ (b : Bool). if b then 1 else 0) (eqb-suc-zero a)

local_get : (old : History) (e : Entry) (k : ℕ) → local_in e.input ≡ 1
    → local_of (slice_get (old ++ e ∷ []) k) ≡ local_of (slice_get old k) + is_at (length old) k
local_get [] e zero h = omega (arith, h, at_same)
local_get [] e (suc k) h = omega (arith, at_more k)
local_get (x ∷ old) e zero h = omega (arith, at_less (length old))
local_get (x ∷ old) e (suc k) h =
    local_get old e k h ∙ ap (λ n. local_of (slice_get old k) + n) (sym (at_next (length old) k))

local_more : (old : History) (e : Entry) (k : ℕ) → local_in e.input ≡ 1
    → local_at (old ++ e ∷ []) k ≡ local_at old k + is_at (suc (length old)) k
local_more old e zero h = omega (arith, at_less (length old))
local_more old e (suc k) h =
    local_get old e k h ∙ ap (λ n. local_of (slice_get old k) + n) (sym (at_next (length old) k))

-- one entry more, and one answer more that has it
pub counts_done : (old : History) (before : List Answer) (ask : Ask) (new : History) (after : List Answer)
    → IsAskDone old before ask new after → (k : ℕ)
    → answers_at k after + local_at old k ≡ answers_at k before + local_at new k
counts_done old before ask new after d k =
    let a = d.answer in
    let at : a.entry ≡ suc (length old) = entry_after old new (entry_of ask a) a.entry d.entries d.entry in
    let one : answers_at k after ≡ answers_at k before + is_at a.entry k =
    ap (λ (l : List Answer). answers_at k l) d.given ∙ answers_more k before a in
    let two : local_at new k ≡ local_at old k + is_at (suc (length old)) k =
    ap (λ (h : History). local_at h k) d.entries ∙ local_more old (entry_of ask a) k refl in
    let same : is_at a.entry k ≡ is_at (suc (length old)) k = ap (λ (n : ℕ). is_at n k) at in
    omega arith

-- entries that are no requests leave the count of each
local_same_get : (old more : History) (k : ℕ) → AllByRecursion (λ (e : Entry). local_in e.input ≡ 0) more
    → local_of (slice_get (old ++ more) k) ≡ local_of (slice_get old k)
local_same_get [] [] k none = refl
local_same_get [] (e ∷ more) zero none = none.0
local_same_get [] (e ∷ more) (suc k) none = local_same_get [] more k none.1
local_same_get (x ∷ old) more zero none = refl
local_same_get (x ∷ old) more (suc k) none = local_same_get old more k none

pub local_same : (old more : History) → AllByRecursion (λ (e : Entry). local_in e.input ≡ 0) more
    → (k : ℕ) → local_at (old ++ more) k ≡ local_at old k
local_same old more none zero = refl
local_same old more none (suc k) = local_same_get old more k none

-- ---- only requests

pub only_none : (old new : History) → new ≡ old → OnlyLocals old new
only_none old new e = record { more = []; added = e ∙ sym (no_more old); local = tt }
  where
    no_more : (xs : History) → xs ++ [] ≡ xs
    no_more [] = refl
    no_more (x ∷ xs) = ap (λ (w : History). x ∷ w) (no_more xs)

pub only_then : (old now new : History) → OnlyLocals old now → OnlyLocals now new → OnlyLocals old new
only_then old now new a b =
    record {
      more = a.more ++ b.more;
      added = b.added ∙ ap (λ (w : History). w ++ b.more) a.added ∙ append_assoc old a.more b.more;
      local = all_append (λ (e : Entry). local_in e.input ≡ 1) a.more b.more a.local b.local;
    }

pub only_done : (old : History) (before : List Answer) (ask : Ask) (new : History) (after : List Answer)
    → IsAskDone old before ask new after → OnlyLocals old new
only_done old before ask new after d =
    record { more = entry_of ask d.answer ∷ []; added = d.entries; local = (refl, tt) }
