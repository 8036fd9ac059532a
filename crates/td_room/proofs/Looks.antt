-- The last looks.
use Rattle.std.proofs.Common.{◌≡◌, ◌++◌, ◌-◌, ℕ, zero, suc, List, [], ◌∷◌, length, map, drop}
use Rattle.std.proofs.Common.{refl, sym, ◌∙◌, subst, inl, get_or, arith}
use Rattle.std.specs.List.{AllByRecursion, AllZip}
use mathlib.Core.List.{IsPrefix}
use Rattle.logbook.specs.Pages.{Book}
use Rattle.td_view.specs.declared.publish.Publish.{Publish}
use Rattle.td_view.specs.Publishes.{again, EndsWith}
use Rattle.td_view.specs.Values.{ReaderValue, ToldValue}
use Rattle.td_view.proofs.Endings.{told_within}
use Rattle.td_replica.specs.Replica.{ReplicaValue}
use Rattle.td_site.proofs.Lists.{prefix_then}
use Rattle.td_site.specs.Shows.{IsTrueOf}
use Rattle.td_line.specs.Editors.{EditorValue}
use Rattle.td_line.specs.Lines.{LineValue}
use Rattle.td_room.specs.Rooms.{Joined}
use Rattle.td_room.specs.Ending.{SeenFrom}
use Rattle.td_room.proofs.Walks.{all_map}

-- one reader after another sees the end
pub record Seeing (told : List Publish) (views : Book) (all left : List ReaderValue) : Type 0 where
  pub views_left : AllByRecursion (λ (r : ReaderValue). r.views ≡ views) left
  pub back : AllByRecursion (SeenFrom told) left → AllByRecursion (SeenFrom told) all

pub seeing_first : (told : List Publish) (views : Book) (all : List ReaderValue)
    → AllByRecursion (λ (r : ReaderValue). r.views ≡ views) all → Seeing told views all all
seeing_first told views all h = record { views_left = h; back = λ k. k }

pub first_views : (views : Book) (left next : List ReaderValue) (r : ReaderValue) → left ≡ r ∷ next
    → AllByRecursion (λ (x : ReaderValue). x.views ≡ views) left → r.views ≡ views
first_views views left next r e h =
    (subst (λ (xs : List ReaderValue). AllByRecursion (λ (x : ReaderValue). x.views ≡ views) xs) e h).0

pub seeing_next : (told : List Publish) (views : Book) (all left next : List ReaderValue) (r : ReaderValue) → left
    ≡ r ∷ next
    → SeenFrom told r → Seeing told views all left → Seeing told views all next
seeing_next told views all left next r e s h =
    record {
      views_left =
          (subst (λ (xs : List ReaderValue). AllByRecursion (λ (x : ReaderValue). x.views ≡ views) xs) e
          h.views_left).1;
      back = λ k. h.back (subst (λ (xs : List ReaderValue). AllByRecursion (SeenFrom told) xs) (sym e) (s, k));
    }

pub seeing_last : (told : List Publish) (views : Book) (all left : List ReaderValue) → length left ≡ 0
    → Seeing told views all left → AllByRecursion (SeenFrom told) all
seeing_last told views all [] none h = h.back tt
seeing_last told views all (r ∷ left) none h = absurd (omega (arith, none))

-- ---- the one told of the end

heads : (a b : ToldValue) (us vs : List ToldValue) → a ∷ us ≡ b ∷ vs → a ≡ b
heads a b us vs e = cc

pub first_told : (ts us : List ToldValue) (t u : ToldValue) → ts ≡ u ∷ us → t ≡ get_or ts 0 t → t ≡ u
first_told [] us t u e f = absurd (cc e)
first_told (x ∷ ts) us t u e f = f ∙ heads x u ts us e

-- a reader that has seen the end has seen no more than was published
pub seen_within : (views : Book) (log : List Publish) (shown : Publish) (r : ReaderValue)
    → SeenFrom (log ++ again shown 1 ∷ []) r → IsPrefix r.seen (log ++ again shown 1 ∷ [])
seen_within views log shown r s =
    prefix_then r.seen s.last (log ++ again shown 1 ∷ []) s.seen
    (told_within views log shown 1 (record { views = views; list = log ++ again shown 1 ∷ [] }) s.last (inl refl)
    s.goes_on s.legal)

pub all_within : (views : Book) (log : List Publish) (shown : Publish) (told : List Publish) (rs : List ReaderValue)
    → told ≡ log ++ again shown 1 ∷ [] → AllByRecursion (SeenFrom told) rs
    → AllByRecursion (λ (r : ReaderValue). IsPrefix r.seen (log ++ again shown 1 ∷ [])) rs
all_within views log shown told rs e h =
    all_map (SeenFrom (log ++ again shown 1 ∷ [])) (λ (r : ReaderValue). IsPrefix r.seen (log ++ again shown 1 ∷ [])) rs
    (seen_within views log shown)
    (subst (λ (l : List Publish). AllByRecursion (SeenFrom l) rs) e h)

-- ---- readers and editors

pub of_editors : (P : ReaderValue → Type 0) (editors : List EditorValue) (rs : List ReaderValue)
    → rs ≡ map (λ (e : EditorValue). e.reader) editors → AllByRecursion P rs
    → AllByRecursion (λ (e : EditorValue). P e.reader) editors
of_editors P editors rs same h =
    at editors (subst (λ (xs : List ReaderValue). AllByRecursion P xs) same h)
  where
    at : (es : List EditorValue) → AllByRecursion P (map (λ (e : EditorValue). e.reader) es)
        → AllByRecursion (λ (e : EditorValue). P e.reader) es
    at [] k = k
    at (e ∷ es) k = (k.0, at es k.1)

pub to_readers : (P : ReaderValue → Type 0) (editors : List EditorValue) (rs : List ReaderValue)
    → rs ≡ map (λ (e : EditorValue). e.reader) editors → AllByRecursion (λ (e : EditorValue). P e.reader) editors
    → AllByRecursion P rs
to_readers P editors rs same h =
    subst (λ (xs : List ReaderValue). AllByRecursion P xs) (sym same) (at editors h)
  where
    at : (es : List EditorValue) → AllByRecursion (λ (e : EditorValue). P e.reader) es
        → AllByRecursion P (map (λ (e : EditorValue). e.reader) es)
    at [] k = k
    at (e ∷ es) k = (k.0, at es k.1)

-- ---- what is shown at the end

all_dropped : {X : Type 0} (P : X → Type 0) (k : ℕ) (xs : List X) → AllByRecursion P xs → AllByRecursion P (drop k xs)
all_dropped P zero xs h = h
all_dropped P (suc k) [] h = h
all_dropped P (suc k) (x ∷ xs) h = all_dropped P k xs h.1

all_put_last : {X : Type 0} (P : X → Type 0) (xs : List X) (x : X) → AllByRecursion P xs → P x
    → AllByRecursion P (xs ++ x ∷ [])
all_put_last P [] x h p = (p, h)
all_put_last P (y ∷ xs) x h p = (h.0, all_put_last P xs x h.1 p)

-- the text shown at the end is true, as those before it
pub ends_true : (r : ReplicaValue) (log : List Publish) (shown : Publish) → EndsWith log shown
    → AllByRecursion (IsTrueOf r) log → AllByRecursion (IsTrueOf r) (log ++ again shown 1 ∷ [])
ends_true r log shown ends h =
    let last : IsTrueOf r shown =
    (subst (λ (l : List Publish). AllByRecursion (IsTrueOf r) l) ends
    (all_dropped (IsTrueOf r) (length log - 1) log h)).0 in
    all_put_last (IsTrueOf r) log (again shown 1) h (record { within = last.within; atoms = last.atoms })

pub joined_watch : (views other : Book) (lines : List LineValue) (editors : List EditorValue) → other ≡ views
    → AllZip (Joined views) lines editors → AllByRecursion (λ (e : EditorValue). e.reader.views ≡ other) editors
joined_watch views other [] [] same z = tt
joined_watch views other [] (e ∷ editors) same z = absurd z
joined_watch views other (l ∷ lines) [] same z = absurd z
joined_watch views other (l ∷ lines) (e ∷ editors) same z =
    (z.0.watches ∙ sym same, joined_watch views other lines editors same z.1)
