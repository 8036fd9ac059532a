-- Operations whose runs and dependencies stand in lists are those that were stored, also where more was added to the
-- lists.
use Rattle.std.proofs.Common.{◌≡◌, ◌<◌, ◌≤◌, ◌+◌, ◌-◌, ◌^◌, ◌++◌, ◌∷◌, [], ℕ, List, length, map, take}
use Rattle.std.proofs.Common.{drop, get_or, refl, sym, ap, ◌∙◌, subst, arith, length-append}
use Rattle.std.specs.Prelude.{Some, slice_get}
use Rattle.std.specs.Option.{option_map, IfSome}
use Rattle.std.specs.List.{All}
use Rattle.std.proofs.lemmas.List.{length-map, map-append, take-append-drop, get_or_append_left, set-get_or}
use Rattle.std.proofs.lemmas.List.Elements.{All-tail, All-push}
use Rattle.std.proofs.lemmas.Option.{slice_get-map, slice_get-get_or, slice_get_read}
use Rattle.std.proofs.Math.Seq.{get_or-append_seam}
use Rattle.td_base.specs.Value.{DotValue}
use Rattle.td_clock.specs.Vector.{vector_get, vector_set}
use Rattle.td_op.specs.declared.body.Body.TheVariants.{Insert as InsertBody}
use Rattle.td_op.specs.Op.{OpValue, IsOp}
use Rattle.td_store.specs.declared.compact_body.CompactBody.{CompactBody}
use Rattle.td_store.specs.declared.compact_body.CompactBody.TheVariants.{Insert, Letter, Delete, Propose, Commit, Abort}
use Rattle.td_store.specs.declared.heads.CompactOp.{CompactOp}
use Rattle.td_store.specs.Compact.{slot_of}
use Rattle.td_store.specs.Lists.{RunsValue, VectorsValue}
use Rattle.td_store.specs.HeadsParts.{body_of, HasRun, deps_of, op_of, IsKept, AreHeadsParts}

-- ---- the row of an operation

-- a row that has the dependencies but at the site itself
pub found_row : (rows : List (List ℕ)) (k : ℕ) (dot : DotValue) (deps : List ℕ) (site : ℕ)
    → vector_get deps dot.site + 1 ≡ dot.seq → site ≡ dot.site
    → IfSome (slice_get rows k) (λ row. vector_set row site (vector_get deps site) ≡ deps) × (k < length rows)
    → deps_of (get_or rows k []) dot ≡ deps
found_row rows k dot deps site next own found =
    let before : dot.seq - 1 ≡ vector_get deps dot.site = omega (arith, next) in
    rw before (rw own at (rw (slice_get-get_or rows k [] found.1) at found.0))

-- the dependencies of an operation, as a row
pub added_row : (rows : List (List ℕ)) (k : ℕ) (dot : DotValue) (deps : List ℕ) → vector_get deps dot.site + 1 ≡ dot.seq
    → k ≡ length rows → deps_of (get_or (rows ++ deps ∷ []) k []) dot ≡ deps
added_row rows k dot deps next at =
    let before : dot.seq - 1 ≡ get_or deps (dot.site - 1) 0 = omega (arith, next) in
    rw (at, get_or-append_seam rows deps [] [], before) (set-get_or deps (dot.site - 1) 0)

-- ---- reading

-- one that is kept, and the operation at its place
pub record IsKeptAt (size : ℕ) (rows : List (List ℕ)) (runs : List (List (List ℕ))) (ops : List CompactOp) (k : ℕ)
    (stored : CompactOp) : Type 0 where
  pub kept : IsKept size rows runs stored
  pub found : slice_get (map (op_of rows runs) ops) k ≡ Some (op_of rows runs stored)

pub kept_at : (size : ℕ) (rows : List (List ℕ)) (runs : List (List (List ℕ))) (ops : List CompactOp) (k : ℕ)
    (stored : CompactOp) → All (IsKept size rows runs) ops
    → k < length (map (op_of rows runs) ops) → stored ≡ get_or ops k stored → IsKeptAt size rows runs ops k stored
kept_at size rows runs ops k stored kept bound at =
    let within : k < length ops = omega (arith, bound, length-map ops (op_of rows runs)) in
    record {
      kept = subst (IsKept size rows runs) (sym at) (kept k stored within);
      found = slice_get-map (op_of rows runs) ops k ∙ ap (option_map (op_of rows runs))
          (slice_get_read ops (length ops) k stored refl within at);
    }

-- ---- more rows and runs

-- what a list begins with
pub as_front : {X : Type 0} (xs ys : List X) → take (length xs) ys ≡ xs → ys ≡ xs ++ drop (length xs) ys
as_front xs ys front = sym (take-append-drop (length xs) ys) ∙ ap (λ (zs : List _). zs ++ drop (length xs) ys) front

-- in longer lists a stored operation is what it was
pub record StaysAs (size : ℕ) (rows : List (List ℕ)) (runs : List (List (List ℕ))) (stored : CompactOp)
    (op : OpValue) : Type 0 where
  pub kept : IsKept size rows runs stored
  pub same : op_of rows runs stored ≡ op

body_stays : (runs more : List (List (List ℕ))) (body : CompactBody) → HasRun runs body → HasRun (runs ++ more) body
    × (body_of (runs ++ more) body ≡ body_of runs body)
body_stays runs more (Insert slot run) has = (
  omega (arith, has, length-append runs more),
  ap (InsertBody (slot_of slot))
      (get_or_append_left runs more [] run has),
)
body_stays runs more (Letter slot letter) has = (has, refl)
body_stays runs more (Delete target) has = (tt, refl)
body_stays runs more (Propose slot) has = (tt, refl)
body_stays runs more (Commit proposal) has = (tt, refl)
body_stays runs more (Abort proposal) has = (tt, refl)

stays : (size : ℕ) (rows more_rows : List (List ℕ)) (runs more_runs : List (List (List ℕ))) (stored : CompactOp)
    → IsKept size rows runs stored
    → StaysAs size (rows ++ more_rows) (runs ++ more_runs) stored (op_of rows runs stored)
stays size rows more_rows runs more_runs stored kept =
    let body = body_stays runs more_runs stored.body kept.run in
    let row : get_or (rows ++ more_rows) stored.row []
    ≡ get_or rows stored.row [] = get_or_append_left rows more_rows [] stored.row kept.row in
    let same : op_of (rows ++ more_rows) (runs ++ more_runs) stored ≡ op_of rows runs stored =
    λ i. record { dot = stored.dot; deps = deps_of (row i) stored.dot; body = body.1 i } in
    record {
      kept = record {
        site = kept.site;
        row = omega (arith, kept.row, length-append rows more_rows);
        run = body.0;
        op = subst IsOp (sym same) kept.op;
      };
      same = same;
    }

ops_stay : (size : ℕ) (rows more_rows : List (List ℕ)) (runs more_runs : List (List (List ℕ))) (ops : List CompactOp)
    → All (IsKept size rows runs) ops
    → map (op_of (rows ++ more_rows) (runs ++ more_runs)) ops ≡ map (op_of rows runs) ops
ops_stay size rows more_rows runs more_runs [] kept = refl
ops_stay size rows more_rows runs more_runs (stored ∷ ops) kept =
    let first = (stays size rows more_rows runs more_runs stored (kept 0 stored (omega arith))).same in
    let rest = ops_stay size rows more_rows runs more_runs ops (All-tail (IsKept size rows runs) stored ops kept) in
    λ i. first i ∷ rest i

-- ---- more room

pub roomier : (size room now_room capacity now_capacity : ℕ) (stored : List CompactOp) (runs now_runs : RunsValue)
    (rows now_rows : VectorsValue) → AreHeadsParts size room capacity stored runs rows
    → now_runs ≡ record runs { room = now_runs.room } → now_rows ≡ record rows { room = now_rows.room }
    → now_room ≤ now_runs.room → now_room ≤ now_rows.room
    → length stored + now_room ≤ now_capacity → length stored + now_room < 2 ^ 32
    → AreHeadsParts size now_room now_capacity stored now_runs now_rows
roomier size room now_room capacity now_capacity stored runs now_runs rows now_rows parts same_runs same_rows
    runs_room rows_room ops_room places =
    let runs_are : now_runs.runs ≡ runs.runs = ap (λ (v : RunsValue). v.runs) same_runs in
    let rows_are : now_rows.rows ≡ rows.rows = ap (λ (v : VectorsValue). v.rows) same_rows in
    let size_is : now_rows.size ≡ rows.size = ap (λ (v : VectorsValue). v.size) same_rows in
    record {
      some = parts.some;
      short = parts.short;
      kept = rw (runs_are, rows_are) parts.kept;
      rows_size = size_is ∙ parts.rows_size;
      rows_room = rows_room;
      runs_room = runs_room;
      ops_room = ops_room;
      places = places;
    }

-- ---- one operation more

-- the new lists begin with the old ones, and took one element at most
pub record Extend (old_runs now_runs : RunsValue) (old_rows now_rows : VectorsValue) : Type 0 where
  pub runs : take (length old_runs.runs) now_runs.runs ≡ old_runs.runs
  pub runs_room : old_runs.room ≤ now_runs.room + 1
  pub rows : take (length old_rows.rows) now_rows.rows ≡ old_rows.rows
  pub rows_size : now_rows.size ≡ old_rows.size
  pub rows_room : old_rows.room ≤ now_rows.room + 1

-- what is kept and seen after a push
pub record IsPushed (size room capacity : ℕ) (stored : List CompactOp) (runs : RunsValue) (rows : VectorsValue)
    (before : List OpValue) (op : OpValue) : Type 0 where
  pub parts : AreHeadsParts size room capacity stored runs rows
  pub ops : map (op_of rows.rows runs.runs) stored ≡ before ++ op ∷ []

-- with the new lists as the old ones and more
pushed_on : (size room capacity now_capacity : ℕ) (stored now_stored : List CompactOp) (runs now_runs : RunsValue)
    (rows now_rows : VectorsValue) (more_runs : List (List (List ℕ))) (more_rows : List (List ℕ))
    (last : CompactOp) (op : OpValue)
    → AreHeadsParts size room capacity stored runs rows → 1 ≤ room → capacity ≤ now_capacity
    → Extend runs now_runs rows now_rows
    → now_runs.runs ≡ runs.runs ++ more_runs → now_rows.rows ≡ rows.rows ++ more_rows → now_stored ≡ stored ++ last ∷ []
    → StaysAs size now_rows.rows now_runs.runs last op
    → IsPushed size (room - 1) now_capacity now_stored now_runs now_rows (map (op_of rows.rows runs.runs) stored) op
pushed_on size room capacity now_capacity stored now_stored runs now_runs rows now_rows more_runs more_rows last op
    parts some wide extend runs_are rows_are stored_are new =
    let count = length-append stored (last ∷ []) in
    let each : (s : CompactOp) → IsKept size rows.rows runs.runs s → IsKept size now_rows.rows now_runs.runs s =
    λ s kept. rw (rows_are, runs_are) (stays size rows.rows more_rows runs.runs more_runs s kept).kept in
    let front : map (op_of now_rows.rows now_runs.runs) stored ≡ map (op_of rows.rows runs.runs) stored =
    rw (rows_are, runs_are) (ops_stay size rows.rows more_rows runs.runs more_runs stored parts.kept) in
    rw stored_are (record {
      parts = record {
        some = parts.some;
        short = parts.short;
        kept = All-push (IsKept size now_rows.rows now_runs.runs) stored last
            (λ k d l. each (get_or stored k d) (parts.kept k d l)) new.kept;
        rows_size = extend.rows_size ∙ parts.rows_size;
        rows_room = omega (arith, extend.rows_room, parts.rows_room);
        runs_room = omega (arith, extend.runs_room, parts.runs_room);
        ops_room = omega (arith, count, some, parts.ops_room, wide);
        places = omega (arith, count, some, parts.places);
      };
      ops = map-append (op_of now_rows.rows now_runs.runs) stored (last ∷ []) ∙ (λ i. front i ++ new.same i ∷ []);
    })

pub pushed : (size room capacity now_capacity : ℕ) (stored now_stored : List CompactOp) (runs now_runs : RunsValue)
    (rows now_rows : VectorsValue) (last : CompactOp) (op : OpValue)
    → AreHeadsParts size room capacity stored runs rows → 1 ≤ room → capacity ≤ now_capacity
    → Extend runs now_runs rows now_rows → now_stored ≡ stored ++ last ∷ []
    → StaysAs size now_rows.rows now_runs.runs last op
    → IsPushed size (room - 1) now_capacity now_stored now_runs now_rows (map (op_of rows.rows runs.runs) stored) op
pushed size room capacity now_capacity stored now_stored runs now_runs rows now_rows last op parts some wide extend
    stored_are new =
    pushed_on size room capacity now_capacity stored now_stored runs now_runs rows now_rows _ _ last op parts some
    wide extend
    (as_front runs.runs now_runs.runs extend.runs) (as_front rows.rows now_rows.rows extend.rows) stored_are new

-- the operation that was just stored
pub just_stored : (size : ℕ) (rows : List (List ℕ)) (runs : List (List (List ℕ))) (stored : CompactOp) (op : OpValue)
    → IsOp op → length op.deps ≡ size → stored.dot ≡ op.dot
    → stored.row < length rows → deps_of (get_or rows stored.row []) op.dot ≡ op.deps → HasRun runs stored.body
    → body_of runs stored.body ≡ op.body
    → StaysAs size rows runs stored op
just_stored size rows runs stored op is long dot row deps run body =
    let deps_are : deps_of (get_or rows stored.row []) stored.dot ≡ op.deps = rw dot deps in
    let same : op_of rows runs stored ≡ op = λ i. record { dot = dot i; deps = deps_are i; body = body i } in
    record {
      kept = record {
        site = rw dot (omega (arith, is.own, long));
        row = row;
        run = run;
        op = subst IsOp (sym same) is;
      };
      same = same;
    }
