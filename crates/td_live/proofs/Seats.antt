-- Editors at their desks, from the opening of a room to its end.
use Rattle.std.proofs.Common.{◌≡◌, ◌<◌, ◌≤◌, ◌+◌, ◌++◌, ℕ, zero, suc, take, drop, get_or, List, [], ◌∷◌}
use Rattle.std.proofs.Common.{length, map, refl, sym, ap, ◌∙◌, subst, arith, append-nil}
use Rattle.std.specs.Prelude.{sum_by}
use Rattle.std.specs.List.{AllZip}
use Rattle.std.proofs.lemmas.List.Elements.{length_all_zip}
use Rattle.td_line.specs.Editors.{EditorValue, IsNewEditor}
use Rattle.td_room.specs.Workers.{WorkerValue, LaterWorker}
use Rattle.td_room.specs.Rooms.{AreOfOneRoom}
use Rattle.td_room.specs.Opening.{IsEditorOpened, AreOpened}
use Rattle.td_script.specs.declared.live.editor_line.EditorLine.{EditorLine}
use Rattle.td_script.specs.LiveScript.{calls}
use Rattle.td_live.specs.Desks.{DeskValue, HasDoneLines, LaterDesk}
use Rattle.td_live.specs.Following.{Stays}
use Rattle.td_live.specs.Live.{IsLiveFamilyOf, IsTraceAmong}
use Rattle.td_live.specs.Ending.{IsLiveEnd}
use Rattle.td_live.specs.Working.{editors_at}
use Rattle.td_live.proofs.Each.{stays_in_room}
use Rattle.td_live.specs.Seating.{CanSit, SatDown, homes_of, seated}
use Rattle.td_live.specs.Turning.{new_desk}

-- how many calls the lines of an editor can ask for
abbrev pub count_of : List EditorLine → ℕ
count_of own = sum_by calls own

-- ---- the opening

opened_sits : (home count : ℕ) (own : List EditorLine) (e : EditorValue) → IsEditorOpened home count e
    → count ≡ count_of own → CanSit e own
opened_sits home count own e opened same =
    let new = opened.new in
    record {
      unused = subst (λ (h : ℕ). IsNewEditor h e.reader e.calls e) (sym new.home_is)
          (subst (λ (n : ℕ). IsNewEditor home e.reader n e) (sym new.calls_is) new);
      calls_are = omega (arith, new.calls_is, same);
    }

-- the editors of a new room can sit down with their lines
pub all_can_sit : (homes : List ℕ) (lines : List (List EditorLine)) (editors : List EditorValue)
    → length lines ≡ length homes → AreOpened homes (map count_of lines) editors → AllZip CanSit editors lines
all_can_sit [] [] [] same opened = tt
all_can_sit [] [] (e ∷ editors) same opened = absurd opened
all_can_sit [] (own ∷ lines) editors same opened = absurd (omega (arith, same))
all_can_sit (home ∷ homes) [] editors same opened = absurd (omega (arith, same))
all_can_sit (home ∷ homes) (own ∷ lines) [] same opened = absurd opened
all_can_sit (home ∷ homes) (own ∷ lines) (e ∷ editors) same opened =
    let fewer : length lines ≡ length homes = omega (arith, same) in
    (opened_sits home (count_of own) own e opened.0 refl, all_can_sit homes lines editors fewer opened.1)

pub opened_homes : (homes counts : List ℕ) (editors : List EditorValue) → AreOpened homes counts editors
    → homes_of editors ≡ homes
opened_homes [] counts [] opened = refl
opened_homes [] counts (e ∷ editors) opened = absurd opened
opened_homes (home ∷ homes) counts [] opened = absurd opened
opened_homes (home ∷ homes) [] (e ∷ editors) opened = absurd opened
opened_homes (home ∷ homes) (count ∷ counts) (e ∷ editors) opened = λ i.
    opened.0.new.home_is i ∷ opened_homes homes counts editors opened.1 i

-- ---- at the desks

pub editors_seated : (editors : List EditorValue) (lines : List (List EditorLine)) → AllZip CanSit editors lines
    → map (λ (d : DeskValue). d.editor) (seated editors lines) ≡ editors
editors_seated [] [] can = refl
editors_seated [] (own ∷ lines) can = absurd can
editors_seated (e ∷ editors) [] can = absurd can
editors_seated (e ∷ editors) (own ∷ lines) can =
    ap (λ (all : List EditorValue). e ∷ all) (editors_seated editors lines can.1)

-- who just sat down has done nothing of the lines
pub done_seated : (editors : List EditorValue) (lines : List (List EditorLine)) → AllZip CanSit editors lines
    → AllZip HasDoneLines lines (seated editors lines)
done_seated [] [] can = tt
done_seated [] (own ∷ lines) can = absurd can
done_seated (e ∷ editors) [] can = absurd can
done_seated (e ∷ editors) (own ∷ lines) can = (Stays, done_seated editors lines can.1)

-- the first of the editors, with its lines
pub sits_next : (editors others : List EditorValue) (lines left : List (List EditorLine)) (old : List DeskValue)
    (e : EditorValue) (own : List EditorLine) → editors ≡ e ∷ others → lines ≡ own ∷ left → CanSit e own
    → AllZip CanSit others left → SatDown editors others lines left old (old ++ new_desk e own ∷ [])
sits_next editors others lines left old e own first line can rest = record {
  can = rest;
  desks = desks_then;
  fewer = omega (arith, ap length first);
}
  where
    append_one : (xs : List DeskValue) (x : DeskValue) (ys : List DeskValue) → (xs ++ x ∷ []) ++ ys ≡ xs ++ x ∷ ys
    append_one [] x ys = refl
    append_one (y ∷ xs) x ys = ap (λ (all : List DeskValue). y ∷ all) (append_one xs x ys)

    desks_then : (old ++ new_desk e own ∷ []) ++ seated others left ≡ old ++ seated editors lines
    desks_then =
        append_one old (new_desk e own) (seated others left)
        ∙ (λ i. old ++ seated (sym first i) (sym line i))

-- ---- later

pub later_homes : (desks later : List DeskValue) → AllZip LaterDesk desks later
    → map (λ (d : DeskValue). d.editor.home) later ≡ map (λ (d : DeskValue). d.editor.home) desks
later_homes [] [] all = refl
later_homes [] (e ∷ later) all = absurd all
later_homes (d ∷ desks) [] all = absurd all
later_homes (d ∷ desks) (e ∷ later) all = λ i. all.0.editor.home i ∷ later_homes desks later all.1 i

pub later_done : (lines : List (List EditorLine)) (desks later : List DeskValue) → AllZip HasDoneLines lines desks
    → AllZip LaterDesk desks later → AllZip HasDoneLines lines later
later_done [] [] [] done all = tt
later_done [] [] (e ∷ later) done all = absurd all
later_done [] (d ∷ desks) later done all = absurd done
later_done (own ∷ lines) [] later done all = absurd done
later_done (own ∷ lines) (d ∷ desks) [] done all = absurd all
later_done (own ∷ lines) (d ∷ desks) (e ∷ later) done all =
    (all.0.done own done.0, later_done lines desks later done.1 all.1)

homes_twice : (desks : List DeskValue)
    → map (λ (d : DeskValue). d.editor.home) desks ≡ homes_of (map (λ (d : DeskValue). d.editor) desks)
homes_twice [] = refl
homes_twice (d ∷ desks) = ap (λ (all : List ℕ). d.editor.home ∷ all) (homes_twice desks)

-- the homes of the desks are those of the editors who sat down there
pub homes_kept : (editors : List EditorValue) (lines : List (List EditorLine)) (later : List DeskValue)
    → AllZip CanSit editors lines → AllZip LaterDesk (seated editors lines) later
    → map (λ (d : DeskValue). d.editor.home) later ≡ homes_of editors
homes_kept editors lines later can all =
    later_homes (seated editors lines) later all ∙ homes_twice (seated editors lines)
    ∙ ap homes_of (editors_seated editors lines can)

-- and what they have done is of their lines
pub done_kept : (editors : List EditorValue) (lines : List (List EditorLine)) (later : List DeskValue)
    → AllZip CanSit editors lines → AllZip LaterDesk (seated editors lines) later → AllZip HasDoneLines lines later
done_kept editors lines later can all =
    later_done lines (seated editors lines) later (done_seated editors lines can) all

-- ---- one after the other

pub seated_all : (desks whole : List DeskValue) (editors : List EditorValue) (lines : List (List EditorLine))
    → length editors ≡ 0 → desks ++ seated editors lines ≡ whole → desks ≡ whole
seated_all desks whole [] lines none all = sym (append-nil desks) ∙ all
seated_all desks whole (e ∷ editors) lines none all = absurd (omega (arith, none))

pub some_lines : (editors : List EditorValue) (lines : List (List EditorLine)) → AllZip CanSit editors lines
    → 0 < length editors → 0 < length lines
some_lines [] lines can some = absurd (omega (arith, some))
some_lines (e ∷ editors) [] can some = absurd can
some_lines (e ∷ editors) (own ∷ lines) can some = omega arith

-- the first can sit down, and so can the others
pub can_first : (editors others : List EditorValue) (lines left : List (List EditorLine)) (e : EditorValue)
    (own : List EditorLine) → editors ≡ e ∷ others → lines ≡ own ∷ left → AllZip CanSit editors lines
    → CanSit e own × AllZip CanSit others left
can_first editors others lines left e own first line can =
    subst (λ (x : List EditorValue × List (List EditorLine)). AllZip CanSit x.0 x.1) (λ i. (first i, line i)) can

-- ---- from the opening to the end

-- whatever turns were made, workers and editors are of one room
pub room_after : (workers after : List WorkerValue) (editors : List EditorValue) (lines : List (List EditorLine))
    (desks later : List DeskValue) → AreOfOneRoom workers editors → AllZip CanSit editors lines
    → desks ≡ seated editors lines → AllZip LaterWorker workers after → AllZip LaterDesk desks later
    → AreOfOneRoom after (map (λ (d : DeskValue). d.editor) later)
room_after workers after editors lines desks later room can desks_are worked turned =
    stays_in_room workers after desks later worked turned
    (subst (λ (es : List EditorValue). AreOfOneRoom workers es)
    (sym (ap editors_at desks_are ∙ editors_seated editors lines can)) room)

pub traced_after : (workers after : List WorkerValue) (editors : List EditorValue) (lines : List (List EditorLine))
    (desks later : List DeskValue) (bytes : List ℕ) → AllZip CanSit editors lines → desks ≡ seated editors lines
    → AllZip LaterWorker workers after → AllZip LaterDesk desks later
    → ((ls : List (List EditorLine)) → AllZip HasDoneLines ls later → IsLiveEnd after ls later bytes)
    → IsTraceAmong (length workers) (homes_of editors) lines bytes
traced_after workers after editors lines desks later bytes can desks_are worked turned ended =
    let all : AllZip LaterDesk (seated editors lines) later =
    subst (λ (ds : List DeskValue). AllZip LaterDesk ds later) desks_are turned in
    let e : IsLiveEnd after lines later bytes = ended lines (done_kept editors lines later can all) in
    record {
      family = e.family;
      logs = e.logs;
      size = e.size ∙ sym (length_all_zip LaterWorker workers after worked);
      live = subst (λ (homes : List ℕ). IsLiveFamilyOf homes lines e.family e.logs)
          (homes_kept editors lines later can all) e.live;
      traced = e.traced;
    }

-- ---- the numbers of calls

pub counts_more : (all : List (List EditorLine)) (i : ℕ) (own : List EditorLine) → i < length all → own
    ≡ get_or all i own
    → map count_of (take (i + 1) all) ≡ map count_of (take i all) ++ count_of own ∷ []
counts_more all i own l f =
    let one : i + 1 ≡ suc i = omega arith in
    ap (λ (k : ℕ). map count_of (take k all)) one ∙ next all i l f
  where
    next : (xs : List (List EditorLine)) (k : ℕ) → k < length xs → own ≡ get_or xs k own
        → map count_of (take (suc k) xs) ≡ map count_of (take k xs) ++ count_of own ∷ []
    next [] k m g = absurd (omega (arith, m))
    next (x ∷ xs) zero m g = ap (λ (y : List EditorLine). count_of y ∷ []) (sym g)
    next (x ∷ xs) (suc k) m g = ap (λ (l : List ℕ). count_of x ∷ l) (next xs k (omega (arith, m)) g)

pub counts_all : (all : List (List EditorLine)) (i : ℕ) → length all ≤ i → map count_of (take i all) ≡ map count_of all
counts_all [] zero l = refl
counts_all [] (suc i) l = refl
counts_all (own ∷ all) zero l = absurd (omega (arith, l))
counts_all (own ∷ all) (suc i) l = ap (λ (k : List ℕ). count_of own ∷ k) (counts_all all i (omega (arith, l)))

-- ---- what was lent comes back

-- a list as long is written over all of the one that was lent
pub lent_back : {X : Type 0} (new old : List X) → length old ≡ length new
    → take (length old) (new ++ drop (length new) old) ≡ new
lent_back [] [] e = refl
lent_back [] (y ∷ old) e = absurd (omega (arith, e))
lent_back {X} (x ∷ new) [] e = absurd (omega (arith, e))
lent_back {X} (x ∷ new) (y ∷ old) e = ap (λ (xs : List X). x ∷ xs) (lent_back new old (omega (arith, e)))

pub all_lent : {X : Type 0} (R : X → X → Type 0) (new old : List X) (len : ℕ) → len ≡ length old → AllZip R old new
    → take len (new ++ drop (length new) old) ≡ new
all_lent R new old len same all =
    ap (λ (n : ℕ). take n (new ++ drop (length new) old)) same ∙ lent_back new old (length_all_zip R old new all)
