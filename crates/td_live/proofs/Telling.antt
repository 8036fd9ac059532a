-- The trace of a world, and that what it tells is a live family.
use Rattle.std.proofs.Common.{◌≡◌, ◌<◌, ◌≤◌, ◌-◌, ◌+◌, ◌++◌, ℕ, zero, suc, true, List, [], ◌∷◌, length, map, take}
use Rattle.std.proofs.Common.{get_or, Some, slice_get, refl, sym, ap, ◌∙◌, subst, append_assoc, arith}
use Rattle.std.specs.List.{AllZip, AllByRecursion}
use Rattle.std.proofs.lemmas.List.{length-map}
use Rattle.td_op.specs.declared.input.Input.{Input}
use Rattle.td_op.specs.declared.input.Input.TheVariants.{Local, Take, Next}
use Rattle.td_op.specs.declared.message.Message.TheVariants.{Op as AnOp, Vote as AVote}
use Rattle.td_doc.specs.Document.{text_of}
use Rattle.td_machine.specs.Machine.{Machine, undecided}
use Rattle.td_machine.specs.History.{History, history, machine}
use Rattle.td_order.specs.Show.{show}
use Rattle.td_replica.specs.Replica.{ReplicaValue}
use Rattle.td_line.specs.Calls.{local_in, local_of, local_at}
use Rattle.td_report.specs.Trace.{all_written, numbered, history_said, log_said, text_said, trace}
use Rattle.td_report.specs.TraceLines.{TraceLine, SitesAre, Ended, written}
use Rattle.td_report.proofs.Tracing.{numbered_push, parts_of_trace}
use Rattle.td_script.specs.declared.live.editor_line.EditorLine.{EditorLine}
use Rattle.td_trace.specs.declared.log.EditorLog.{EditorLog}
use Rattle.td_trace.specs.Entries.{traced_history, traced_family, told_of, is_request, tells_request, is_request_at}
use Rattle.td_trace.specs.Family.{IsLogOf, AreTexts, IsSettledFamily}
use Rattle.td_world.specs.World.{WorldValue, IsWorld, size, replica_from, machine_of, family_of}
use Rattle.td_world.specs.Promises.{SameVectors, AllDecided}
use Rattle.td_world.proofs.Moves.{size_family}
use Rattle.td_world.proofs.Named.{site_is}
use Rattle.td_world.proofs.Promised.{promised, shown}
use Rattle.td_live.specs.Following.{FollowsLines, HasNothingLeft}
use Rattle.td_live.specs.Live.{IsLiveFamilyOf, IsTraced, TextsAreShown}
use Rattle.td_live.specs.Books.{BookValue, IsBook, AreBooks, log_of}
use Rattle.td_live.specs.Printing.{texts_of}

-- ---- one more line of a part

pub take_next : {X : Type 0} (xs : List X) (k : ℕ) (x : X) → slice_get xs k ≡ Some x
    → take (suc k) xs ≡ take k xs ++ x ∷ []
take_next [] k x e = absurd (cc e)
take_next {X} (y ∷ xs) zero x e = same y x e
  where
    same : (a b : X) → Some a ≡ Some b → a ∷ [] ≡ b ∷ []
    same a b f = cc f
take_next {X} (y ∷ xs) (suc k) x e = ap (λ (l : List X). y ∷ l) (take_next xs k x e)

take_long : {X : Type 0} (xs : List X) (k : ℕ) (x : X) → slice_get xs k ≡ Some x → length (take k xs) ≡ k
take_long [] k x e = absurd (cc e)
take_long (y ∷ xs) zero x e = refl
take_long (y ∷ xs) (suc k) x e = ap suc (take_long xs k x e)

-- what is said of the next
pub said_next : {X : Type 0} (say : ℕ → X → List TraceLine) (start : List ℕ) (xs : List X) (k : ℕ) (x : X)
    → slice_get xs k ≡ Some x
    → (start ++ all_written (numbered say 1 (take k xs))) ++ all_written (say (k + 1) x)
    ≡ start ++ all_written (numbered say 1 (take (k + 1) xs))
said_next {X} say start xs k x e =
    let one : suc k ≡ k + 1 = omega arith in
    let long : length (take k xs) ≡ k = take_long xs k x e in
    let number : k + 1 ≡ 1 + length (take k xs) = omega (arith, long) in
    append_assoc start (all_written (numbered say 1 (take k xs))) (all_written (say (k + 1) x))
    ∙ ap (λ (l : List ℕ). start ++ l)
    (ap (λ (n : ℕ). all_written (numbered say 1 (take k xs)) ++ all_written (say n x)) number
    ∙ sym (numbered_push say 1 (take k xs) x)
    ∙ ap (λ (l : List X). all_written (numbered say 1 l))
    (sym (take_next xs k x e) ∙ ap (λ (n : ℕ). take n xs) one))

-- at the end all is said
pub said_all : {X : Type 0} (say : ℕ → X → List TraceLine) (start : List ℕ) (xs : List X) (k : ℕ) → length xs ≤ k
    → start ++ all_written (numbered say 1 (take k xs)) ≡ start ++ all_written (numbered say 1 xs)
said_all {X} say start xs k all = ap (λ (l : List X). start ++ all_written (numbered say 1 l)) (whole xs k all)
  where
    whole : (ys : List X) (n : ℕ) → length ys ≤ n → take n ys ≡ ys
    whole [] zero h = refl
    whole [] (suc n) h = refl
    whole (y ∷ ys) zero h = absurd (omega (arith, h))
    whole (y ∷ ys) (suc n) h = ap (λ (l : List X). y ∷ l) (whole ys n (omega (arith, h)))

pub history_there : (replicas : List ReplicaValue) (k : ℕ) → k < length replicas
    → slice_get (traced_family (map (λ (r : ReplicaValue). r.entries) replicas)) k
    ≡ Some (traced_history (replica_from replicas k).entries)
history_there [] k less = absurd (omega (arith, less))
history_there (r ∷ replicas) zero less = refl
history_there (r ∷ replicas) (suc k) less = history_there replicas k (omega (arith, less))

-- there is one of each for each site
pub as_many_histories : (w : WorldValue) → length (traced_family (family_of w)) ≡ size w
as_many_histories w = length-map (family_of w) traced_history ∙ size_family w

pub as_many_texts : (w : WorldValue) → length (texts_of w.replicas) ≡ size w
as_many_texts w = length-map w.replicas (λ (r : ReplicaValue). text_of r.machine.doc)

-- the parts, one behind the other
pub trace_joined : (w : WorldValue) (logs : List EditorLog) (sites : ℕ) (bytes : List ℕ) → sites ≡ size w
    → bytes ≡ (((written (SitesAre sites) ++ all_written (numbered history_said 1 (traced_family (family_of w))))
    ++ all_written (numbered log_said 1 logs)) ++ all_written (numbered text_said 1 (texts_of w.replicas)))
    ++ written Ended
    → bytes ≡ trace (length (family_of w)) (traced_family (family_of w)) logs (texts_of w.replicas)
trace_joined w logs sites bytes many is =
    let a : List ℕ = written (SitesAre sites) in
    let b : List ℕ = all_written (numbered history_said 1 (traced_family (family_of w))) in
    let c : List ℕ = all_written (numbered log_said 1 logs) in
    let d : List ℕ = all_written (numbered text_said 1 (texts_of w.replicas)) in
    let e : List ℕ = written Ended in
    let one : (((a ++ b) ++ c) ++ d) ++ e ≡ a ++ (b ++ (c ++ (d ++ e))) =
    append_assoc ((a ++ b) ++ c) d e ∙ append_assoc (a ++ b) c (d ++ e) ∙ append_assoc a b (c ++ (d ++ e)) in
    is ∙ one ∙ sym (parts_of_trace sites (traced_family (family_of w)) logs (texts_of w.replicas))
    ∙ ap (λ (n : ℕ). trace n (traced_family (family_of w)) logs (texts_of w.replicas)) (many ∙ sym (size_family w))

-- ---- the texts

pub text_there : (replicas : List ReplicaValue) (k : ℕ) → k < length replicas
    → slice_get (texts_of replicas) k ≡ Some (text_of (replica_from replicas k).machine.doc)
text_there [] k less = absurd (omega (arith, less))
text_there (r ∷ replicas) zero less = refl
text_there (r ∷ replicas) (suc k) less = text_there replicas k (omega (arith, less))

module _ (w : WorldValue) (i : IsWorld w) where
  low : (site : ℕ) → site ≤ length (family_of w) → site ≤ size w
  low site within = subst (λ (n : ℕ). site ≤ n) (size_family w) within

  machine_is : (site : ℕ) → 0 < site → site ≤ length (family_of w) → machine_of w site ≡ machine (family_of w) site
  machine_is site some within = i.machines site some (low site within)

  pub number_is : (place : ℕ) → place < size w → (replica_from w.replicas place).machine.site ≡ place + 1
  number_is place less =
      let many : length (family_of w) ≡ size w = size_family w in
      let back : place ≡ place + 1 - 1 = omega arith in
      ap (λ (p : ℕ). (replica_from w.replicas p).machine.site) back
      ∙ ap (λ (m : Machine). m.site) (i.machines (place + 1) (omega arith) (omega (arith, less)))
      ∙ site_is (family_of w) i.consistent (place + 1) (omega arith) (omega (arith, less, many))

  texts_are : AreTexts (family_of w) (texts_of w.replicas)
  texts_are =
      record {
        each = length-map w.replicas (λ (r : ReplicaValue). text_of r.machine.doc) ∙ sym (size_family w);
        text = λ site some within.
            let few : site ≤ size w = low site within in
            text_there w.replicas (site - 1) (omega (arith, some, few))
            ∙ ap (λ (m : Machine). Some (text_of m.doc)) (machine_is site some within);
      }

  texts_shown : TextsAreShown (family_of w)
  texts_shown site some within =
      subst (λ (m : Machine). text_of m.doc ≡ show m.log) (machine_is site some within)
      (shown w i site some (low site within))

  pub is_traced : (logs : List EditorLog) (bytes : List ℕ)
      → bytes ≡ trace (length (family_of w)) (traced_family (family_of w)) logs (texts_of w.replicas)
      → IsTraced (family_of w) logs bytes
  is_traced logs bytes e =
      record {
        texts = texts_of w.replicas;
        texts_are = texts_are;
        shown = texts_shown;
        promises = promised w i;
        bytes_are = e;
      }

-- ---- a live family

request_local : (input : Input) → is_request (told_of input) ≡ true → local_in input ≡ 1
request_local (Local request) e = refl
request_local (Take (AnOp op)) e = absurd (cc e)
request_local (Take (AVote vote)) e = absurd (cc e)
request_local Next e = absurd (cc e)

get_local : (entries : History) (k : ℕ) → tells_request (slice_get (traced_history entries) k) ≡ true
    → local_of (slice_get entries k) ≡ 1
get_local [] k e = absurd (cc e)
get_local (x ∷ entries) zero e = request_local x.input e
get_local (x ∷ entries) (suc k) e = get_local entries k e

is_local : (entries : History) (k : ℕ) → is_request_at (traced_history entries) k ≡ true → local_at entries k ≡ 1
is_local entries zero e = absurd (cc e)
is_local entries (suc k) e = get_local entries k e

module _ (w : WorldValue) (i : IsWorld w) (vectors : SameVectors w) (decided : AllDecided w) where
  is_settled : IsSettledFamily (family_of w)
  is_settled =
      record {
        consistent = i.consistent;
        vectors = λ r s up high some within.
            sym (ap (λ (m : Machine). m.have) (machine_is w i r up high))
            ∙ vectors r s up (low w i r high) some (low w i s within)
            ∙ ap (λ (m : Machine). m.have) (machine_is w i s some within);
        decided = λ site some within.
            sym (ap (λ (m : Machine). undecided m) (machine_is w i site some within))
            ∙ decided site some (low w i site within);
      }

  logs_are : (lines : List (List EditorLine)) (books : List BookValue) → AllZip (IsBook (family_of w)) lines books
      → AllByRecursion (IsLogOf (family_of w)) (map log_of books)
  logs_are [] [] z = tt
  logs_are [] (b ∷ books) z = absurd z
  logs_are (l ∷ lines) [] z = absurd z
  logs_are (l ∷ lines) (b ∷ books) z = (z.0.logged, logs_are lines books z.1)

  followed : (lines : List (List EditorLine)) (books : List BookValue) → AllZip (IsBook (family_of w)) lines books
      → AllByRecursion (λ (b : BookValue). HasNothingLeft b.rest) books
      → AllZip (λ (own : List EditorLine) (log : EditorLog). FollowsLines (history (family_of w) log.home) own log.did)
      lines (map log_of books)
  followed [] [] z over = tt
  followed [] (b ∷ books) z over = absurd z
  followed (l ∷ lines) [] z over = absurd z
  followed (l ∷ lines) (b ∷ books) z over = (
    record { acts = z.0.acts; are = z.0.are; rest = b.rest; leads = z.0.leads; over = over.0 },
    followed lines books z.1 over.1,
  )

  homes_are : (books : List BookValue)
      → map (λ (log : EditorLog). log.home) (map log_of books) ≡ map (λ (b : BookValue). b.home) books
  homes_are [] = refl
  homes_are (b ∷ books) = ap (λ (l : List ℕ). b.home ∷ l) (homes_are books)

  pub live_family : (lines : List (List EditorLine)) (books : List BookValue) → AreBooks (family_of w) lines books
      → AllByRecursion (λ (b : BookValue). HasNothingLeft b.rest) books
      → IsLiveFamilyOf (map (λ (b : BookValue). b.home) books) lines (family_of w) (map log_of books)
  live_family lines books h over =
      record {
        live = record {
          settled = is_settled;
          logs_are = logs_are lines books h.each;
          calls = λ site k some within e.
              h.counted site k some within ∙ is_local (history (family_of w) site) k e;
        };
        homes_are = homes_are books;
        followed = followed lines books h.each over;
      }

pub found : {X : Type 0} (xs : List X) (k : ℕ) (x d : X) → k < length xs → x ≡ get_or xs k d → slice_get xs k ≡ Some x
found [] k x d less e = absurd (omega (arith, less))
found {X} (y ∷ xs) zero x d less e = ap (λ (z : X). Some z) (sym e)
found (y ∷ xs) (suc k) x d less e = found xs k x d (omega (arith, less)) e

-- ---- the lines of a site

pub site_told : (w : WorldValue) → IsWorld w → (place site : ℕ) (r : ReplicaValue) (lines : List ℕ) → place < size w
    → site ≡ place + 1 → r ≡ replica_from w.replicas (site - 1)
    → lines ≡ all_written (history_said r.machine.site (traced_history r.entries))
    → lines ≡ all_written (history_said (place + 1) (traced_history (replica_from w.replicas place).entries))
site_told w i place site r lines less at is told =
    let back : site - 1 ≡ place = omega (arith, at) in
    let there : r ≡ replica_from w.replicas place = is ∙ ap (λ (p : ℕ). replica_from w.replicas p) back in
    told ∙ ap (λ (x : ReplicaValue). all_written (history_said x.machine.site (traced_history x.entries))) there
    ∙ ap (λ (n : ℕ). all_written (history_said n (traced_history (replica_from w.replicas place).entries)))
    (number_is w i place less)

-- the lines of one more stand behind those before
pub behind : {X : Type 0} (say : ℕ → X → List TraceLine) (start now next : List ℕ) (xs : List X) (k : ℕ) (x : X)
    → slice_get xs k ≡ Some x → now ≡ start ++ all_written (numbered say 1 (take k xs))
    → next ≡ now ++ all_written (say (k + 1) x) → next ≡ start ++ all_written (numbered say 1 (take (k + 1) xs))
behind say start now next xs k x there was is =
    is ∙ ap (λ (l : List ℕ). l ++ all_written (say (k + 1) x)) was ∙ said_next say start xs k x there

pub five_parts : {p t b c d e f x y : List ℕ} (q r s : List ℕ) → b ≡ p → c ≡ b ++ q → d ≡ c ++ r → e ≡ d ++ s → f ≡ e
    ++ x → x ≡ y
    → y ≡ t → f ≡ (((p ++ q) ++ r) ++ s) ++ t
five_parts q r s e0 e1 e2 e3 e4 e5 e6 = cc
