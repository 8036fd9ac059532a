-- Lines end one after another.
use Rattle.std.proofs.Common.{◌≡◌, ◌<◌, ◌+◌, ◌++◌, ℕ, List, [], ◌∷◌, length, map, refl, sym, ap, ◌∙◌}
use Rattle.std.proofs.Common.{subst, append-nil, append_assoc, arith, remove, get_or}
use Rattle.std.specs.List.{AllByRecursion, AllZip}
use Rattle.std.proofs.lemmas.Slice.Zip.{all_zipped_more}
use Rattle.td_base.proofs.Passing.{zip_weaker}
use mathlib.Core.List.{IsPrefix}
use Rattle.logbook.specs.Pages.{Book}
use Rattle.td_op.specs.declared.entry.Entry.{Entry}
use Rattle.td_machine.specs.History.{History}
use Rattle.td_replica.specs.Replica.{ReplicaValue}
use Rattle.td_view.specs.Values.{ReaderValue}
use Rattle.td_site.specs.Sites.{SiteValue}
use Rattle.td_site.specs.Later.{LaterSite}
use Rattle.td_line.specs.declared.answer.Answer.{Answer}
use Rattle.td_line.specs.Calls.{answers_at, local_at, local_in, OnlyLocals}
use Rattle.td_line.specs.Lines.{LineValue, HasServed}
use Rattle.td_line.specs.Editors.{EditorValue}
use Rattle.td_room.specs.Workers.{given_at, IsServing}
use Rattle.td_room.specs.Rooms.{Joined}
use Rattle.td_room.specs.Closing.{IsAnswered, all_at}
use Rattle.td_room.specs.Ending.{EndedLine}
use Rattle.td_room.proofs.Locals.{recorded_on, served_on}
use Rattle.td_room.proofs.Walks.{all_map}

pub only_self : (h : History) → OnlyLocals h h
only_self h = record { more = []; added = sym (append-nil h); local = tt }

both : (xs ys : History) → AllByRecursion (λ (e : Entry). local_in e.input ≡ 1) xs
    → AllByRecursion (λ (e : Entry). local_in e.input ≡ 1) ys
    → AllByRecursion (λ (e : Entry). local_in e.input ≡ 1) (xs ++ ys)
both [] ys h k = k
both (x ∷ xs) ys h k = (h.0, both xs ys h.1 k)

pub only_then : (a b c : History) → OnlyLocals a b → OnlyLocals b c → OnlyLocals a c
only_then a b c p q =
    record {
      more = p.more ++ q.more;
      added = q.added ∙ ap (λ (h : History). h ++ q.more) p.added ∙ append_assoc a p.more q.more;
      local = both p.more q.more p.local q.local;
    }

pub answered_on : (r s : ReplicaValue) → IsPrefix r.entries s.entries → (e : EditorValue) (answers : List Answer)
    → IsAnswered r e answers → IsAnswered s e answers
answered_on r s grown e answers h =
    record {
      recorded = recorded_on r.entries s.entries 0 e.asks.sent answers grown h.recorded;
      polled_first = h.polled_first;
    }

-- while lines end one after another: these editors are all, these are left, and those that are done have these answers
pub record LinesEnd (editors : List EditorValue) (s : SiteValue) (lines : List LineValue) (left : List EditorValue)
    (answers : List (List Answer)) (readers : List ReaderValue) : Type 0 where
  pub served : AllByRecursion (λ (l : LineValue). HasServed s.replica.entries l) lines
  pub counted : (k : ℕ) → given_at k lines + all_at k answers ≡ local_at s.replica.entries k
  pub joined : AllZip (Joined s.writer.views) lines left
  pub done : List EditorValue
  pub splits : editors ≡ done ++ left
  pub answered : AllZip (IsAnswered s.replica) done answers
  pub watching : readers ≡ map (λ (e : EditorValue). e.reader) done

pub lines_first : (editors : List EditorValue) (s : SiteValue) (lines : List LineValue) (answers : List (List Answer))
    (readers : List ReaderValue) → IsServing s lines → AllZip (Joined s.writer.views) lines editors
    → answers ≡ [] → readers ≡ [] → LinesEnd editors s lines editors answers readers
lines_first editors s lines answers readers h j e f =
    record {
      served = h.served;
      counted = λ k.
          let c = h.counted k in
          let a : all_at k answers ≡ 0 = ap (all_at k) e in
          omega arith;
      joined = j;
      done = [];
      splits = refl;
      answered = subst (λ (v : List (List Answer)). AllZip (IsAnswered s.replica) [] v) (sym e) tt;
      watching = f;
    }

all_snoc : (k : ℕ) (all : List (List Answer)) (a : List Answer) → all_at k (all ++ a ∷ [])
    ≡ all_at k all + answers_at k a
all_snoc k [] a = omega arith
all_snoc k (x ∷ all) a = omega (arith, all_snoc k all a)

map_snoc : (es : List EditorValue) (e : EditorValue)
    → map (λ (x : EditorValue). x.reader) (es ++ e ∷ []) ≡ map (λ (x : EditorValue). x.reader) es ++ e.reader ∷ []
map_snoc [] e = refl
map_snoc (x ∷ es) e = ap (λ (l : List ReaderValue). x.reader ∷ l) (map_snoc es e)

joined_on : (views other : Book) → other ≡ views → (l : LineValue) (e : EditorValue) → Joined views l e
    → Joined other l e
joined_on views other same l e j = subst (λ (v : Book). Joined v l e) (sym same) j

pub lines_next : (editors : List EditorValue) (s t : SiteValue) (lines left : List LineValue) (es fs : List EditorValue)
    (answers more : List (List Answer)) (readers watching : List ReaderValue)
    → LinesEnd editors s lines es answers readers
    → EndedLine s t lines left es fs answers more readers watching → LaterSite s t
    → LinesEnd editors t left fs more watching
lines_next editors s t lines left es fs answers more readers watching v o later =
    let served = (subst (λ (w : List LineValue). AllByRecursion (λ (l : LineValue). HasServed s.replica.entries l) w)
    o.first_line v.served).1 in
    let joined = (subst (λ (w : List LineValue × List EditorValue). AllZip (Joined s.writer.views) w.0 w.1)
    (λ i. (o.first_line i, o.first_editor i)) v.joined).1 in
    record {
      served = all_map (λ (l : LineValue). HasServed s.replica.entries l)
          (λ (l : LineValue). HasServed t.replica.entries l) left
          (λ l. served_on s.replica.entries t.replica.entries l later.entries) served;
      counted = λ k.
          let c1 : given_at k lines ≡ answers_at k o.line.given + given_at k left = ap (given_at k) o.first_line in
          let c2 : all_at k more ≡ all_at k answers + answers_at k o.answers = ap (all_at k) o.next_answers
          ∙ all_snoc k answers o.answers in
          let c3 = v.counted k in
          let c4 = o.counts k in
          omega arith;
      joined = zip_weaker (Joined s.writer.views) (Joined t.writer.views) left fs
          (joined_on s.writer.views t.writer.views later.views) joined;
      done = v.done ++ o.editor ∷ [];
      splits = v.splits ∙ ap (λ (w : List EditorValue). v.done ++ w) o.first_editor
          ∙ sym (append_assoc v.done (o.editor ∷ []) fs);
      answered = subst (λ (w : List (List Answer)). AllZip (IsAnswered t.replica) (v.done ++ o.editor ∷ []) w)
          (sym o.next_answers)
          (all_zipped_more (IsAnswered t.replica) v.done answers o.editor o.answers
          (zip_weaker (IsAnswered s.replica) (IsAnswered t.replica) v.done answers
          (answered_on s.replica t.replica later.entries) v.answered)
          o.answered);
      watching = o.next_reader ∙ ap (λ (w : List ReaderValue). w ++ o.editor.reader ∷ []) v.watching
          ∙ sym (map_snoc v.done o.editor);
    }

none_left : (views : Book) (es : List EditorValue) → AllZip (Joined views) [] es → es ≡ []
none_left views [] z = refl
none_left views (e ∷ es) z = absurd z

nothing : (lines : List LineValue) → length lines ≡ 0 → lines ≡ []
nothing [] e = refl
nothing (l ∷ lines) e = absurd (omega (arith, e))

pub record LinesEnded (editors : List EditorValue) (s : SiteValue) (answers : List (List Answer))
    (readers : List ReaderValue)
    : Type 0 where
  pub answered : AllZip (IsAnswered s.replica) editors answers
  pub counted : (k : ℕ) → all_at k answers ≡ local_at s.replica.entries k
  pub readers_are : readers ≡ map (λ (e : EditorValue). e.reader) editors

pub lines_last : (editors : List EditorValue) (s : SiteValue) (lines : List LineValue) (es : List EditorValue)
    (answers : List (List Answer)) (readers : List ReaderValue) → length lines ≡ 0
    → LinesEnd editors s lines es answers readers → LinesEnded editors s answers readers
lines_last editors s lines es answers readers none v =
    let n = nothing lines none in
    let m = none_left s.writer.views es (subst (λ (w : List LineValue). AllZip (Joined s.writer.views) w es) n
    v.joined) in
    let all : editors ≡ v.done = v.splits ∙ ap (λ (w : List EditorValue). v.done ++ w) m ∙ append-nil v.done in
    record {
      answered = subst (λ (w : List EditorValue). AllZip (IsAnswered s.replica) w answers) (sym all) v.answered;
      counted = λ k.
          let c : given_at k lines ≡ 0 = ap (given_at k) n in
          let q = v.counted k in
          omega arith;
      readers_are = v.watching ∙ ap (λ (w : List EditorValue). map (λ (e : EditorValue). e.reader) w) (sym all);
    }

pub some_editor : (views : Book) (lines : List LineValue) (es : List EditorValue) → AllZip (Joined views) lines es
    → 0 < length lines → 0 < length es
some_editor views [] es z h = absurd (omega (arith, h))
some_editor views (l ∷ lines) [] z h = absurd z
some_editor views (l ∷ lines) (e ∷ es) z h = omega arith

pub first_out : {A : Type 0} (xs ys : List A) (x : A) → 0 < length xs → x ≡ get_or xs 0 x → ys ≡ remove xs 0 → xs
    ≡ x ∷ ys
first_out [] ys x h e r = absurd (omega (arith, h))
first_out (z ∷ zs) ys x h e r = λ i. sym e i ∷ sym r i

-- the first of the lines and its editor
pub first_joined : (views : Book) (lines left : List LineValue) (es fs : List EditorValue) (l : LineValue)
    (e : EditorValue)
    → lines ≡ l ∷ left → es ≡ e ∷ fs → AllZip (Joined views) lines es → Joined views l e
first_joined views lines left es fs l e p q z =
    (subst (λ (w : List LineValue × List EditorValue). AllZip (Joined views) w.0 w.1) (λ i. (p i, q i)) z).0

pub first_served : (h : History) (lines left : List LineValue) (l : LineValue) → lines ≡ l ∷ left
    → AllByRecursion (λ (x : LineValue). HasServed h x) lines → HasServed h l
first_served h lines left l p a =
    (subst (λ (w : List LineValue). AllByRecursion (λ (x : LineValue). HasServed h x) w) p a).0
