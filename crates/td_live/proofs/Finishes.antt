-- The books of all editors, done one after the other.
use Rattle.std.proofs.Common.{◌≡◌, ◌≤◌, ◌+◌, ◌++◌, ℕ, List, [], ◌∷◌, length, map, refl}
use Rattle.std.proofs.Common.{sym, ap, ◌∙◌, subst, append_assoc, arith}
use Rattle.std.specs.List.{AllZip, AllByRecursion}
use Rattle.std.proofs.lemmas.List.{map-append}
use Rattle.td_base.proofs.Passing.{zip_weaker, all_append}
use Rattle.td_machine.specs.History.{Family, history}
use Rattle.td_site.proofs.Lists.{prefix_self, prefix_then}
use Rattle.td_line.specs.Calls.{local_at}
use Rattle.td_room.proofs.Walks.{zip_self}
use Rattle.td_script.specs.declared.live.editor_line.EditorLine.{EditorLine}
use Rattle.td_trace.specs.declared.log.EditorLog.{EditorLog}
use Rattle.td_trace.specs.Editors.{site_calls_at}
use Rattle.td_live.specs.Following.{HasNothingLeft}
use Rattle.td_live.specs.Books.{BookValue, IsBook, AreBooks, AreEntriesOfCalls, GoesFurther, log_of}
use Rattle.td_live.specs.Finishing.{LaterBook, IsFinishing, FinishedNext}
use Rattle.td_live.proofs.Recording.{grown_self, grown_then, book_grown, site_calls_both}

later_self : (b : BookValue) → LaterBook b b
later_self b = record { home = refl; did = prefix_self b.did }

later_then : (b c d : BookValue) → LaterBook b c → LaterBook c d → LaterBook b d
later_then b c d x y = record { home = y.home ∙ x.home; did = prefix_then b.did c.did d.did x.did y.did }

-- ---- one book among the others

module _ (old : Family) (b : BookValue) (new : Family) (c : BookValue) (g : GoesFurther old b new c) where
  later : LaterBook b c
  later = record { home = g.home; did = g.kept }

  later_replaced : (all done left : List BookValue) → AllZip LaterBook all (done ++ b ∷ left)
      → AllZip LaterBook all (done ++ c ∷ left)
  later_replaced [] [] left z = absurd z
  later_replaced [] (d ∷ done) left z = absurd z
  later_replaced (a ∷ all) [] left z = (later_then a b c z.0 later, z.1)
  later_replaced (a ∷ all) (d ∷ done) left z = (z.0, later_replaced all done left z.1)

  each_replaced : (lines : List (List EditorLine)) (done left : List BookValue)
      → AllZip (IsBook old) lines (done ++ b ∷ left) → AllZip (IsBook new) lines (done ++ c ∷ left)
  each_replaced [] [] left z = absurd z
  each_replaced [] (d ∷ done) left z = absurd z
  each_replaced (l ∷ lines) [] left z = (
    g.follows l z.0,
    zip_weaker (IsBook old) (IsBook new) lines left
        (λ own x i. book_grown old new g.grown own x i) z.1,
  )
  each_replaced (l ∷ lines) (d ∷ done) left z = (book_grown old new g.grown l d z.0, each_replaced lines done left z.1)

  parts : (site k : ℕ) (done left : List BookValue) (x : BookValue)
      → site_calls_at site k (map log_of (done ++ x ∷ left))
      ≡ site_calls_at site k (map log_of done)
      + (site_calls_at site k (log_of x ∷ []) + site_calls_at site k (map log_of left))
  parts site k done left x =
      ap (site_calls_at site k) (map-append log_of done (x ∷ left))
      ∙ site_calls_both site k (map log_of done) (log_of x ∷ map log_of left)
      ∙ ap (λ (n : ℕ). site_calls_at site k (map log_of done) + n)
      (site_calls_both site k (log_of x ∷ []) (map log_of left))

  counted_replaced : (done left : List BookValue) → AreEntriesOfCalls old (map log_of (done ++ b ∷ left))
      → AreEntriesOfCalls new (map log_of (done ++ c ∷ left))
  counted_replaced done left h site k some within =
      let low : site ≤ length old = subst (λ (n : ℕ). site ≤ n) g.grown.size within in
      let was : site_calls_at site k (map log_of (done ++ b ∷ left)) ≡ local_at (history old site) k =
      h site k some low in
      let p = parts site k done left b in
      let q = parts site k done left c in
      let more = g.counts site k some low in
      omega (arith, was, p, q, more)

  books_replaced : (lines : List (List EditorLine)) (done left : List BookValue) → AreBooks old lines (done ++ b ∷ left)
      → AreBooks new lines (done ++ c ∷ left)
  books_replaced lines done left h =
      record { each = each_replaced lines done left h.each; counted = counted_replaced done left h.counted }

-- ---- one after the other

pub finishing_first : (family : Family) (books : List BookValue) → IsFinishing family books family [] books
finishing_first family books =
    record {
      done = [];
      logs_are = refl;
      over = tt;
      later = zip_self LaterBook books later_self;
      grown = grown_self family;
      books = λ lines h. h;
    }

pub finishing_none : (family : Family) (books : List BookValue) (logs : List EditorLog) → logs ≡ []
    → IsFinishing family books family logs books
finishing_none family books logs none =
    subst (λ (ls : List EditorLog). IsFinishing family books family ls books) (sym none) (finishing_first family books)

pub finishing_next : (old : Family) (all : List BookValue) (now new : Family) (logs more : List EditorLog)
    (books left : List BookValue) → IsFinishing old all now logs books → FinishedNext now books logs new left more
    → IsFinishing old all new more left
finishing_next old all now new logs more books left f n =
    let assoc : f.done ++ n.last ∷ left ≡ (f.done ++ n.last ∷ []) ++ left =
    sym (append_assoc f.done (n.last ∷ []) left) in
    record {
      done = f.done ++ n.last ∷ [];
      logs_are = n.one ∙ ap (λ (ls : List EditorLog). ls ++ log_of n.last ∷ []) f.logs_are
          ∙ sym (map-append log_of f.done (n.last ∷ []));
      over = all_append (λ (b : BookValue). HasNothingLeft b.rest) f.done (n.last ∷ []) f.over (n.over, tt);
      later = subst (λ (bs : List BookValue). AllZip LaterBook all bs) assoc
          (later_replaced now n.book new n.last n.further all f.done left
          (subst (λ (bs : List BookValue). AllZip LaterBook all (f.done ++ bs)) n.first f.later));
      grown = grown_then old now new f.grown n.further.grown;
      books = λ lines h.
          subst (λ (bs : List BookValue). AreBooks new lines bs) assoc
          (books_replaced now n.book new n.last n.further lines f.done left
          (subst (λ (bs : List BookValue). AreBooks now lines (f.done ++ bs)) n.first (f.books lines h)));
    }

pub finishing_last : (old : Family) (all : List BookValue) (now : Family) (logs : List EditorLog)
    (books : List BookValue)
    → length books ≡ 0 → IsFinishing old all now logs books → IsFinishing old all now logs []
finishing_last old all now logs [] none f = f
finishing_last old all now logs (b ∷ books) none f = absurd (omega (arith, none))

-- the homes are those of a world of the same size
pub homes_next : (m n : ℕ) (books left : List BookValue) (b : BookValue) → books ≡ b ∷ left → n ≡ m
    → AllByRecursion (λ (x : BookValue). x.home ≤ m) books → AllByRecursion (λ (x : BookValue). x.home ≤ n) left
homes_next m n books left b first same h =
    let both : AllByRecursion (λ (x : BookValue). x.home ≤ m) (b ∷ left) =
    subst (λ (bs : List BookValue). AllByRecursion (λ (x : BookValue). x.home ≤ m) bs) first h in
    subst (λ (k : ℕ). AllByRecursion (λ (x : BookValue). x.home ≤ k) left) (sym same) both.1

pub home_first : (m : ℕ) (books left : List BookValue) (b : BookValue) → books ≡ b ∷ left
    → AllByRecursion (λ (x : BookValue). x.home ≤ m) books → b.home ≤ m
home_first m books left b first h =
    let both : AllByRecursion (λ (x : BookValue). x.home ≤ m) (b ∷ left) =
    subst (λ (bs : List BookValue). AllByRecursion (λ (x : BookValue). x.home ≤ m) bs) first h in
    both.0
