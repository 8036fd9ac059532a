-- What a step makes of a kept replica, as far as there is room, and what is released of it.
use Rattle.std.proofs.Common.{◌≡◌, ◌≢◌, ◌<◌, ◌≤◌, ◌+◌, ◌-◌, ◌++◌, ℕ, zero, suc, List, [], ◌∷◌, true, false}
use Rattle.std.proofs.Common.{Some, length, take, drop, refl, sym, ap, ◌∙◌, subst, arith}
use Rattle.std.proofs.Common.{append_assoc, append-nil, length-append, length-drop}
use Rattle.std.specs.Prelude.{Result, Ok, Err, OnOk}
use Rattle.std.specs.List.{slice_get}
use Rattle.std.proofs.lemmas.Bool.{le-leb, lt-leb}
use Rattle.std.proofs.lemmas.List.{take_all}
use Rattle.std.proofs.lemmas.Option.{same_Some}
use Rattle.td_base.specs.Lists.{kth}
use Rattle.td_disk.specs.MemDisk.{MemDiskValue}
use Rattle.td_disk.specs.declared.disk.Disk as disk
use Rattle.td_disk.specs.declared.disk.TheConstants.{MAX_DISK_LEN}
use Rattle.td_disk.specs.declared.gated.Gated.{Gated}
use Rattle.td_disk.specs.Gated.{disk_of}
use Rattle.td_doc.specs.declared.doc.Doc as doc
use Rattle.td_op.specs.declared.input.Input.{Input}
use Rattle.td_op.specs.declared.message.Message.{Message}
use Rattle.td_replica.specs.Replica.{ReplicaValue}
use Rattle.td_journal.specs.declared.check.Check.{Check}
use Rattle.td_journal.specs.declared.format.Format.{Format}
use Rattle.td_journal.specs.declared.format.Format.TheVariants.{Plain}
use Rattle.td_journal.specs.declared.kept.Kept.{Kept}
use Rattle.td_journal.specs.Check.{bytes_of}
use Rattle.td_journal.specs.Journal.{inputs_of, journal_bytes, record_bytes}
use Rattle.td_journal.specs.Seen.{format_of, is_closed, journal_of}
use Rattle.td_world.proofs.Kept.{kth_get}
use Rattle.td_kept.specs.KeptWorld.{fits, journal_len}
use Rattle.td_kept.specs.Sites.{IsQuiet, IsGoingOn}

-- ---- room

module _ (check : Check) (r : ReplicaValue) (input : Input) (end : ℕ) (staged : List ℕ) (plain : check.format ≡ Plain)
    (long : end + length staged
    ≡ length (journal_bytes check.format r.machine.site r.machine.size (inputs_of r.entries))) where
  same_record : record_bytes check.format (bytes_of check) input ≡ record_bytes Plain [] input
  same_record = ap (λ (f : Format). record_bytes f (bytes_of check) input) plain

  len_is : end + length staged ≡ journal_len r
  len_is = long
      ∙ ap (λ (f : Format). length (journal_bytes f r.machine.site r.machine.size (inputs_of r.entries))) plain

  pub fits_of : (new : List ℕ) → new ≡ staged ++ record_bytes check.format (bytes_of check) input
      → end + length new + 1 ≤ MAX_DISK_LEN → fits input r ≡ true
  fits_of new new_is room =
      le-leb (journal_len r + length (record_bytes Plain [] input) + 1) MAX_DISK_LEN
      (grown (journal_len r) (length (record_bytes Plain [] input)) (length staged) (length new) len_is
      (ap length new_is ∙ length-append staged (record_bytes check.format (bytes_of check) input)
      ∙ ap (λ (l : List ℕ). length staged + length l) same_record) room)
    where
      grown : (len record_len old now : ℕ) → end + old ≡ len → now ≡ old + record_len
          → end + now + 1 ≤ MAX_DISK_LEN → len + record_len + 1 ≤ MAX_DISK_LEN
      grown len record_len old now a b c = omega (arith, a, b, c)

  pub full_of : (len : ℕ) → len ≡ end + length staged
      → MAX_DISK_LEN < len + length (record_bytes check.format (bytes_of check) input) + 1
      → (fits input r ≡ false) × (len ≡ journal_len r)
  full_of len is past = (
    lt-leb (journal_len r + length (record_bytes Plain [] input) + 1) MAX_DISK_LEN
        (subst (λ (n : ℕ). MAX_DISK_LEN < n + length (record_bytes Plain [] input) + 1) (is ∙ len_is)
        (subst (λ (l : List ℕ). MAX_DISK_LEN < len + length l + 1) same_record past)),
    is ∙ len_is,
  )

-- ---- what goes on

module _ {D : Type 0} {d : doc.Ghosts D} {w : disk.Ghosts MemDiskValue} where
  pub goes_on : (k new : Kept D MemDiskValue d w) → journal_of new ≡ journal_of k → format_of new ≡ format_of k
      → is_closed new ≡ is_closed k → IsGoingOn k → IsGoingOn new
  goes_on k new journal format closed g = record {
    still_open = closed ∙ g.still_open;
    format = format ∙ g.format;
    quiet = subst (λ (j : Gated MemDiskValue). IsQuiet (disk_of j)) (sym journal) g.quiet;
  }

-- a record has some bytes
pub some_record : (f : Format) (before staged new : List ℕ) (input : Input)
    → new ≡ staged ++ record_bytes f before input → new ≢ []
some_record f before staged new input is none =
    let long : length new ≡ length staged + length (record_bytes f before input) =
    ap length is ∙ length-append staged (record_bytes f before input) in
    let no_bytes : length new ≡ 0 = ap length none in
    omega (arith, long, no_bytes)

-- ---- what is released

get_drop : {X : Type 0} (before k : ℕ) (xs : List X) → before ≤ k → slice_get (drop before xs) (k - before)
    ≡ slice_get xs k
get_drop zero k xs h = ap (slice_get xs) (same k)
  where
    same : (n : ℕ) → n - 0 ≡ n
    same n = omega arith
get_drop (suc before) zero xs h = absurd (omega (arith, h))
get_drop (suc before) (suc k) [] h = refl
get_drop (suc before) (suc k) (x ∷ xs) h =
    ap (slice_get (drop before xs)) (same k before) ∙ get_drop before k xs (omega (arith, h))
  where
    same : (k n : ℕ) → suc k - suc n ≡ k - n
    same k n = omega arith

take_next : {X : Type 0} (xs : List X) (n : ℕ) (x : X) → slice_get xs n ≡ Some x
    → take (suc n) xs ≡ take n xs ++ x ∷ []
take_next [] n x e = absurd (nothing n e)
  where
    nothing : (n : ℕ) → slice_get [] n ≡ Some x → ⊥
    nothing zero e = cc
    nothing (suc n) e = cc
take_next (y ∷ xs) zero x e = ap (λ z. z ∷ []) (same_Some y x e)
take_next (y ∷ xs) (suc n) x e = ap (λ l. y ∷ l) (take_next xs n x e)

-- one message more of those behind the first so many
pub released_more : (sent : List Message) (before k : ℕ) (message : Message) → before ≤ k
    → kth (k + 1) sent ≡ Some message
    → take (k + 1 - before) (drop before sent) ≡ take (k - before) (drop before sent) ++ message ∷ []
released_more sent before k message h e =
    let one : k + 1 - 1 ≡ k = omega arith in
    let more : k + 1 - before ≡ suc (k - before) = omega (arith, h) in
    let here : slice_get (drop before sent) (k - before) ≡ Some message =
    get_drop before k sent h ∙ ap (slice_get sent) (sym one) ∙ (kth_get (k + 1) sent message e).1 in
    ap (λ (n : ℕ). take n (drop before sent)) more ∙ take_next (drop before sent) (k - before) message here

-- as the loop has them
pub released_on : (old items new sent : List Message) (before k : ℕ) (message : Message) → before ≤ k
    → items ≡ old ++ take (k - before) (drop before sent) → kth (k + 1) sent ≡ Some message
    → new ≡ items ++ message ∷ [] → new ≡ old ++ take (k + 1 - before) (drop before sent)
released_on old items new sent before k message h is e more =
    more ∙ ap (λ (l : List Message). l ++ message ∷ []) is
    ∙ append_assoc old (take (k - before) (drop before sent)) (message ∷ [])
    ∙ ap (λ (l : List Message). old ++ l) (sym (released_more sent before k message h e))

pub released_none : (old sent : List Message) (before : ℕ) → old ≡ old ++ take (before - before) (drop before sent)
released_none old sent before =
    let none : before - before ≡ 0 = omega arith in
    sym (ap (λ (n : ℕ). old ++ take n (drop before sent)) none ∙ append-nil old)

-- all of them
pub released_all : (sent : List Message) (before k : ℕ) → length sent ≤ k
    → take (k - before) (drop before sent) ≡ drop before sent
released_all sent before k h =
    take_all (k - before) (drop before sent) (omega (arith, h, length-drop before sent))

-- an error of results of other types
pub other_err : {T E : Type 0} (U : Type 0) (e f : E) → ◌≡◌ {A = Result T E} (Err e) (Err f)
    → ◌≡◌ {A = Result U E} (Err e) (Err f)
other_err U e f h = let same : e ≡ f = cc in ap (λ x. Err x) same

pub err_on : {T E : Type 0} (U : Type 0) (e f g : E) → e ≡ f → ◌≡◌ {A = Result T E} (Err f) (Err g)
    → ◌≡◌ {A = Result U E} (Err e) (Err g)
err_on U e f g is h = let same : f ≡ g = cc in ap (λ x. Err x) (is ∙ same)

-- what holds anyway
pub always : {T E : Type 0} (r : Result T E) (P : Type 0) → P → OnOk r P
always (Ok x) P p = p
always (Err e) P p = tt
