-- The desks taken apart, one after the other, and the books brought up.
use Rattle.std.proofs.Common.{◌≡◌, ◌<◌, ◌+◌, ◌++◌, ℕ, zero, suc, List, [], ◌∷◌, length, map, take, get_or}
use Rattle.std.proofs.Common.{refl, sym, ap, ◌∙◌, subst, append_assoc, append-nil, arith}
use Rattle.std.specs.List.{AllByRecursion, AllZip}
use Rattle.std.proofs.lemmas.List.{map-append, nil_from_length}
use Rattle.td_base.proofs.Passing.{all_append}
use Rattle.td_line.specs.declared.answer.Answer.{Answer}
use Rattle.td_line.specs.Editors.{EditorValue}
use Rattle.td_trace.specs.declared.log.Did.{Did}
use Rattle.td_trace.specs.declared.log.Did.TheVariants.{Call, Look}
use Rattle.td_trace.specs.Editors.{Sofar, further, nothing_yet}
use Rattle.td_live.specs.Desks.{DeskValue, IsDesk, sofar_of}
use Rattle.td_live.specs.Books.{BookValue, calls_done, brought_up}
use Rattle.td_live.specs.Drafts.{CanBringUp, TakenApart, all_brought_up, book_of}
use Rattle.td_live.proofs.Logging.{sofar_more}

-- ---- desks

-- of all desks the first are taken apart, and these are left
pub record IsTaking (all left : List DeskValue) (editors : List EditorValue) (books : List BookValue) : Type 0 where
  pub done : List DeskValue
  pub splits : all ≡ done ++ left
  pub editors_are : editors ≡ map (λ (d : DeskValue). d.editor) done
  pub books_are : books ≡ map book_of done
  pub desks : AllByRecursion IsDesk done

pub taking_none : (all : List DeskValue) (editors : List EditorValue) (books : List BookValue) → editors ≡ [] → books
    ≡ []
    → IsTaking all all editors books
taking_none all editors books e f =
    record { done = []; splits = refl; editors_are = e; books_are = f; desks = tt }

pub taking_next : (all left next : List DeskValue) (editors more : List EditorValue) (books others : List BookValue)
    → IsTaking all left editors books → TakenApart left next editors more books others
    → IsTaking all next more others
taking_next all left next editors more books others t n =
    record {
      done = t.done ++ n.desk ∷ [];
      splits = t.splits ∙ ap (λ (l : List DeskValue). t.done ++ l) n.first
          ∙ sym (append_assoc t.done (n.desk ∷ []) next);
      editors_are = n.editor ∙ ap (λ (l : List EditorValue). l ++ n.desk.editor ∷ []) t.editors_are
          ∙ sym (map-append (λ (d : DeskValue). d.editor) t.done (n.desk ∷ []));
      books_are = n.book ∙ ap (λ (l : List BookValue). l ++ book_of n.desk ∷ []) t.books_are
          ∙ sym (map-append book_of t.done (n.desk ∷ []));
      desks = all_append IsDesk t.done (n.desk ∷ []) t.desks (n.is, tt);
    }

pub taking_last : (all left : List DeskValue) (editors : List EditorValue) (books : List BookValue) → length left ≡ 0
    → IsTaking all left editors books → IsTaking all [] editors books
taking_last all left editors books none t =
    subst (λ (l : List DeskValue). IsTaking all l editors books) (nil_from_length left none) t

pub taking_all : (all : List DeskValue) (editors : List EditorValue) (books : List BookValue)
    → IsTaking all [] editors books → (t : List DeskValue) × (all ≡ t) × AllByRecursion IsDesk t
    × (editors ≡ map (λ (d : DeskValue). d.editor) t) × (books ≡ map book_of t)
taking_all all editors books t =
    (t.done, t.splits ∙ append-nil t.done, t.desks, t.editors_are, t.books_are)

-- ---- books

pub up_next : (answers left : List (List Answer)) (books others : List BookValue) (a : List Answer) (b : BookValue)
    → answers ≡ a ∷ left → books ≡ b ∷ others
    → all_brought_up answers books ≡ brought_up a b ∷ all_brought_up left others
up_next answers left books others a b e f = λ i. all_brought_up (e i) (f i)

pub can_next : (answers left : List (List Answer)) (books others : List BookValue) (a : List Answer) (b : BookValue)
    → answers ≡ a ∷ left → books ≡ b ∷ others → AllZip CanBringUp answers books
    → CanBringUp a b × AllZip CanBringUp left others
can_next answers left books others a b e f z =
    subst (λ (x : List (List Answer) × List BookValue). AllZip CanBringUp x.0 x.1) (λ i. (e i, f i)) z

pub some_answers : (answers : List (List Answer)) (books : List BookValue) → AllZip CanBringUp answers books
    → 0 < length books → 0 < length answers
some_answers [] [] z some = some
some_answers [] (b ∷ books) z some = absurd z
some_answers (a ∷ answers) books z some = omega arith

pub up_all : (all whole : List BookValue) (answers : List (List Answer)) (books : List BookValue) → length books ≡ 0
    → AllZip CanBringUp answers books → all ++ all_brought_up answers books ≡ whole → all ≡ whole
up_all all whole [] [] none z e = sym (append-nil all) ∙ e
up_all all whole (a ∷ answers) [] none z e = absurd z
up_all all whole answers (b ∷ books) none z e = absurd (omega (arith, none))

pub one_up : (all more : List BookValue) (answers left : List (List Answer)) (books others : List BookValue)
    (a : List Answer) (b c : BookValue) → answers ≡ a ∷ left → books ≡ b ∷ others → c ≡ brought_up a b
    → more ≡ all ++ c ∷ [] → more ++ all_brought_up left others ≡ all ++ all_brought_up answers books
one_up all more answers left books others a b c e f is at =
    ap (λ (l : List BookValue). l ++ all_brought_up left others) at
    ∙ append_assoc all (c ∷ []) (all_brought_up left others)
    ∙ ap (λ (x : BookValue). all ++ (x ∷ all_brought_up left others)) is
    ∙ ap (λ (l : List BookValue). all ++ l) (sym (up_next answers left books others a b e f))

-- ---- calls counted

take_one : (xs : List Did) (k : ℕ) (d : Did) → k < length xs → d ≡ get_or xs k d → take (suc k) xs ≡ take k xs ++ d ∷ []
take_one [] k d less e = absurd (omega (arith, less))
take_one (x ∷ xs) zero d less e = ap (λ (y : Did). y ∷ []) (sym e)
take_one (x ∷ xs) (suc k) d less e = ap (λ (l : List Did). x ∷ l) (take_one xs k d (omega (arith, less)) e)

calls_only : (s t : Sofar) (d : Did) → s.calls ≡ t.calls → (further s d).calls ≡ (further t d).calls
calls_only s t (Call call entry) e = ap (λ (n : ℕ). n + 1) e
calls_only s t (Look calls upto text) e = e

pub counted_next : (did : List Did) (k count more : ℕ) (d : Did) → k < length did → d ≡ get_or did k d
    → count ≡ calls_done (take k did) → more ≡ (further (record nothing_yet { calls = count }) d).calls
    → more ≡ calls_done (take (k + 1) did)
counted_next did k count more d less at was is =
    let one : k + 1 ≡ suc k = omega arith in
    is ∙ calls_only (record nothing_yet { calls = count }) (sofar_of nothing_yet (take k did)) d was
    ∙ sym (ap (λ (n : ℕ). calls_done (take n did)) one
    ∙ ap (λ (l : List Did). calls_done l) (take_one did k d less at)
    ∙ ap (λ (s : Sofar). s.calls) (sofar_more nothing_yet (take k did) d))
