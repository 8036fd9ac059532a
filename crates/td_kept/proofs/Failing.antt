-- What a crash leaves in memory where one call of a growth failed, and disks that fail no call.
use Rattle.std.proofs.Common.{◌≡◌, ◌≢◌, ◌<◌, ◌≤◌, ◌+◌, ◌-◌, ◌%◌, ◌==◌, ◌++◌, ℕ, List, [], ◌∷◌, Bool, true, false}
use Rattle.std.proofs.Common.{◌&&◌, ◌⊎◌, inl, inr, if◌then◌else◌, length, take, drop, refl, sym, ap, ◌∙◌, subst}
use Rattle.std.proofs.Common.{append_assoc, length-append, arith}
use Rattle.std.specs.Prelude.{Ok, slice_index, ⊤}
use Rattle.std.proofs.lemmas.Bool.{eqb-true, eqb-false, le-leb, lt-leb, false≢true}
use Rattle.std.proofs.lemmas.List.{take_at, drop_at, length-take-le}
use Rattle.td_io.specs.Count.{counted}
use Rattle.td_disk.specs.declared.disk.Disk as disk
use Rattle.td_doc.specs.declared.doc.Doc as doc
use Rattle.td_journal.specs.declared.kept.Kept.{Kept}
use Rattle.td_disk.specs.Calls.{Puts, Grows}
use Rattle.td_disk.specs.Device.{overwritten, Torn, Only}
use Rattle.td_disk.specs.Events.{Wrote, Synced, Device, Leaves, after, settled}
use Rattle.td_disk.specs.Gated.{Stands}
use Rattle.td_disk.specs.Image.{filled, image}
use Rattle.td_disk.specs.MemDisk.{MemDiskValue, IsTold, called, written, synced, Writes, Syncs}
use Rattle.td_disk.specs.Record.{RecordValue, device_of, noted}
use Rattle.td_disk.proofs.Writes.{asked_follows}
use Rattle.td_disk.proofs.Gates.{torn_behind}
use Rattle.td_disk.proofs.Growing.{staged_is, stands_of}
use Rattle.td_kept.specs.KeptWorld.{is_done}
use Rattle.td_kept.specs.Sites.{IsQuiet}

-- ---- one call

never_told : (d : MemDiskValue) → d.fails ≡ [] → IsTold d → d.fuse ≡ 1
never_told d none (inl told) =
    let k : ℕ = told.0 in
    let few : told.0 < length d.fails = told.1 in
    absurd (omega (arith, few, ap length none))
never_told d none (inr now) = now

-- it was done, and the disk fails none but what its fuse says
pub record IsTicked (old new : MemDiskValue) : Type 0 where
  pub fails : new.fails ≡ []
  pub fuse : new.fuse ≡ old.fuse - 1
  pub not_now : old.fuse ≢ 1
  pub sound : new.sound ≡ old.sound

pub wrote : (old : MemDiskValue) (at : ℕ) (bytes : List ℕ) (new : MemDiskValue) → old.fails ≡ []
    → Writes old at bytes true new → IsTicked old new × (new.past ≡ noted (Wrote at bytes) old.past)
wrote old at bytes new none w = (
  record {
    fails = ap (λ (d : MemDiskValue). d.fails) w.1 ∙ none;
    fuse = ap (λ (d : MemDiskValue). d.fuse) w.1;
    not_now = λ now. w.0 (inr now);
    sound = ap (λ (d : MemDiskValue). d.sound) w.1;
  },
  ap (λ (d : MemDiskValue). d.past) w.1,
)

pub did_sync : (old new : MemDiskValue) → old.fails ≡ [] → old.sound ≡ true → Syncs old true new
    → IsTicked old new × (new.past ≡ noted Synced old.past)
did_sync old new none sound s = (
  record {
    fails = ap (λ (d : MemDiskValue). d.fails) s.1 ∙ none;
    fuse = ap (λ (d : MemDiskValue). d.fuse) s.1;
    not_now = λ now. s.0 (inr now);
    sound = ap (λ (d : MemDiskValue). d.sound) s.1;
  },
  ap (λ (d : MemDiskValue). d.past) s.1
      ∙ ap (λ (b : Bool). if b then noted Synced old.past else old.past) sound,
)

never_starved : (n k : ℕ) → n ≡ 0 → n ≡ counted k → ⊥
never_starved n k none is = omega (arith, none, is)

wrote_not : (old : MemDiskValue) (at : ℕ) (bytes : List ℕ) (new : MemDiskValue) → old.fails ≡ [] → new.starved ≡ 0
    → Writes old at bytes false new → (old.fuse ≡ 1) × (new.past ≡ noted (Wrote at bytes) old.past)
wrote_not old at bytes new none fed (inl w) =
    (never_told old none w.0, ap (λ (d : MemDiskValue). d.past) w.1)
wrote_not old at bytes new none fed (inr w) =
    absurd (never_starved new.starved old.starved fed (ap (λ (d : MemDiskValue). d.starved) w))

did_not_sync : (old new : MemDiskValue) → old.fails ≡ [] → new.starved ≡ 0 → Syncs old false new
    → (old.fuse ≡ 1) × (new.past ≡ old.past)
did_not_sync old new none fed (inl s) = (never_told old none s.0, ap (λ (d : MemDiskValue). d.past) s.1)
did_not_sync old new none fed (inr s) =
    absurd (never_starved new.starved old.starved fed (ap (λ (d : MemDiskValue). d.starved) s))

-- ---- a put, and two

-- both calls were done
pub record IsPut (old new : MemDiskValue) (at : ℕ) (bytes : List ℕ) : Type 0 where
  pub fails : new.fails ≡ []
  pub fuse : new.fuse ≡ old.fuse - 2
  pub not_now : (old.fuse ≢ 1) × (old.fuse ≢ 2)
  pub sound : new.sound ≡ true
  pub past : new.past ≡ noted Synced (noted (Wrote at bytes) old.past)

-- what is noted where the k-th call failed: the piece is pending, or it is synced and the gate is pending
pub record IsBehind (gate : ℕ) (body : List ℕ) (old new : RecordValue) (k : ℕ) : Type 0 where
  pub early : k ≤ 2
  pub past : new ≡ noted (Wrote (gate + 1) body) old

pub record IsAtGate (gate : ℕ) (body : List ℕ) (old new : RecordValue) (k : ℕ) : Type 0 where
  pub late : 3 ≤ k
  pub past : new ≡ noted (Wrote gate (1 ∷ [])) (noted Synced (noted (Wrote (gate + 1) body) old))

-- the words of a disk in memory
pub record IsInMemory (w : disk.Ghosts MemDiskValue) : Type 0 where
  pub reads : (d : MemDiskValue) → w.reads d ≡ (device_of d.past).reads
  pub leaves : (d : MemDiskValue) (c : List ℕ) → Leaves (device_of d.past) c → w.leaves d c
  pub sound : (d : MemDiskValue) → w.is_sound d ≡ d.sound
  pub writes : (old : MemDiskValue) (at : ℕ) (bytes : List ℕ) (ok : Bool) (new : MemDiskValue)
      → w.writes old at bytes ok new → Writes old at bytes ok new
  pub syncs : (old : MemDiskValue) (ok : Bool) (new : MemDiskValue) → w.syncs old ok new → Syncs old ok new

-- of a kept replica whose disk is in memory
module _ {D : Type 0} {d : doc.Ghosts D} {w : disk.Ghosts MemDiskValue} (kept : Kept D MemDiskValue d w)
    (m : IsInMemory w) where
  put_done : (old : MemDiskValue) (at : ℕ) (bytes : List ℕ) (new : MemDiskValue) → old.fails ≡ [] → old.sound ≡ true
      → Puts w old at bytes true new → IsPut old new at bytes
  put_done old at bytes new none sound p =
      let mid : MemDiskValue = p.0 in
      let first = wrote old at bytes p.0 none (m.writes old at bytes true p.0 p.1) in
      let second = did_sync p.0 new first.0.fails (first.0.sound ∙ sound) (m.syncs p.0 true new p.2) in
      record {
        fails = second.0.fails;
        fuse = omega (arith, first.0.fuse, second.0.fuse);
        not_now = (
          first.0.not_now,
          λ two. second.0.not_now (omega (arith, first.0.fuse, two)),
        );
        sound = second.0.sound ∙ first.0.sound ∙ sound;
        past = second.1 ∙ ap (noted Synced) first.1;
      }

  -- the first or the second call failed, and the bytes are pending
  put_failed : (old : MemDiskValue) (at : ℕ) (bytes : List ℕ) (new : MemDiskValue) → old.fails ≡ []
      → new.starved ≡ 0 → Puts w old at bytes false new
      → ((old.fuse ≡ 1) ⊎ (old.fuse ≡ 2)) × (new.past ≡ noted (Wrote at bytes) old.past)
  put_failed old at bytes new none fed (inl p) =
      let first = wrote_not old at bytes new none fed (m.writes old at bytes false new p) in
      (inl first.0, first.1)
  put_failed old at bytes new none fed (inr p) =
      let first = wrote old at bytes p.0 none (m.writes old at bytes true p.0 p.1) in
      let second = did_not_sync p.0 new first.0.fails fed (m.syncs p.0 false new p.2) in
      let two : old.fuse ≡ 2 = omega (arith, first.0.fuse, second.0) in
      (inr two, second.1 ∙ first.1)

  pub cut_at : (old : MemDiskValue) (k gate : ℕ) (bytes : List ℕ) (ok : Bool) (new : MemDiskValue) → old.fails ≡ []
      → old.fuse ≡ k → 1 ≤ k → k ≤ 4 → old.sound ≡ true → new.starved ≡ 0 → Grows w old gate bytes ok new
      → IsBehind gate (drop 1 bytes) old.past new.past k ⊎ IsAtGate gate (drop 1 bytes) old.past new.past k
  cut_at old k gate bytes true new none fuse some few sound fed g =
      let first = put_done old (gate + 1) (drop 1 bytes) g.0 none sound g.1 in
      let second = put_done g.0 gate (1 ∷ []) new first.fails first.sound g.2 in
      let a : old.fuse ≢ 1 = first.not_now.0 in
      let b : old.fuse ≢ 2 = first.not_now.1 in
      let c : g.0.fuse ≢ 1 = second.not_now.0 in
      let d : g.0.fuse ≢ 2 = second.not_now.1 in
      absurd (omega (arith, a, b, c, d, first.fuse, fuse, some, few))
  cut_at old k gate bytes false new none fuse some few sound fed (inl p) =
      let first = put_failed old (gate + 1) (drop 1 bytes) new none fed p in
      inl (record { early = early first.0; past = first.1 })
    where
      early : (old.fuse ≡ 1) ⊎ (old.fuse ≡ 2) → k ≤ 2
      early (inl one) = omega (arith, one, fuse)
      early (inr two) = omega (arith, two, fuse)
  cut_at old k gate bytes false new none fuse some few sound fed (inr g) =
      let first = put_done old (gate + 1) (drop 1 bytes) g.0 none sound g.1 in
      let second = put_failed g.0 gate (1 ∷ []) new first.fails fed g.2 in
      inr (record {
        late = late g.0.fuse first.fuse second.0;
        past = second.1 ∙ ap (noted (Wrote gate (1 ∷ []))) first.past;
      })
    where
      late : (fuse_2 : ℕ) → fuse_2 ≡ old.fuse - 2 → (fuse_2 ≡ 1) ⊎ (fuse_2 ≡ 2) → 3 ≤ k
      late fuse_2 is (inl one) = omega (arith, one, fuse, is)
      late fuse_2 is (inr two) = omega (arith, two, fuse, is)

  -- ---- quiet disks

  pub quiet_synced : (old new : MemDiskValue) → IsQuiet old → w.syncs old true new → IsQuiet new
  quiet_synced old new q s =
      let is : new ≡ synced (called old) = (m.syncs old true new s).1 in
      record {
        fails = ap (λ (d : MemDiskValue). d.fails) is ∙ q.fails;
        fuse = ap (λ (d : MemDiskValue). d.fuse) is ∙ ap (λ (n : ℕ). n - 1) q.fuse;
        starved = ap (λ (d : MemDiskValue). d.starved) is ∙ q.starved;
      }

  quiet_written : (old : MemDiskValue) (at : ℕ) (bytes : List ℕ) (new : MemDiskValue) → IsQuiet old
      → w.writes old at bytes true new → IsQuiet new
  quiet_written old at bytes new q s =
      let is : new ≡ written at bytes (called old) = (m.writes old at bytes true new s).1 in
      record {
        fails = ap (λ (d : MemDiskValue). d.fails) is ∙ q.fails;
        fuse = ap (λ (d : MemDiskValue). d.fuse) is ∙ ap (λ (n : ℕ). n - 1) q.fuse;
        starved = ap (λ (d : MemDiskValue). d.starved) is ∙ q.starved;
      }

  pub quiet_put : (old : MemDiskValue) (at : ℕ) (bytes : List ℕ) (new : MemDiskValue) → IsQuiet old
      → Puts w old at bytes true new → IsQuiet new
  quiet_put old at bytes new q p = quiet_synced p.0 new (quiet_written old at bytes p.0 q p.1) p.2

  pub quiet_grown : (old : MemDiskValue) (gate : ℕ) (bytes : List ℕ) (new : MemDiskValue) → IsQuiet old
      → Grows w old gate bytes true new → IsQuiet new
  quiet_grown old gate bytes new q g =
      quiet_put g.0 gate (1 ∷ []) new (quiet_put old (gate + 1) (drop 1 bytes) g.0 q g.1) g.2

-- ---- images

-- the byte at the end of a front is written
gate_as : (front : List ℕ) (gate byte : ℕ) (rest : List ℕ)
    → overwritten (front ++ gate ∷ rest) (length front) (byte ∷ []) ≡ front ++ byte ∷ rest
gate_as front gate byte rest =
    append_assoc (take (length front) (front ++ gate ∷ rest)) (byte ∷ [])
    (drop (length front + 1) (front ++ gate ∷ rest))
    ∙ ap (λ (l : List ℕ). l ++ byte ∷ drop (length front + 1) (front ++ gate ∷ rest))
    (take_at front (gate ∷ rest) (length front) refl)
    ∙ ap (λ (l : List ℕ). front ++ byte ∷ l)
    (ap (λ (l : List ℕ). drop (length front + 1) l) (sym (append_assoc front (gate ∷ []) rest))
    ∙ drop_at (front ++ gate ∷ []) rest (length front + 1) (length-append front (gate ∷ [])))

-- the front with a piece or without it, by the byte at its gate
stands_by : (front body rest : List ℕ) (byte : ℕ) (is_one done : Bool) → (byte == 1) ≡ is_one → done ≡ is_one
    → Stands (if done then front ++ 1 ∷ body else front) (front ++ byte ∷ (body ++ 0 ∷ rest))
stands_by front body rest byte true true e f = record {
  gate = 0;
  rest = rest;
  shut = omega arith;
  is = ap (λ (b : ℕ). front ++ b ∷ (body ++ 0 ∷ rest)) (eqb-true byte 1 e)
      ∙ sym (append_assoc front (1 ∷ body) (0 ∷ rest));
}
stands_by front body rest byte true false e f = absurd (false≢true f)
stands_by front body rest byte false true e f = absurd (false≢true (sym f))
stands_by front body rest byte false false e f =
    record { gate = byte; rest = body ++ 0 ∷ rest; shut = eqb-false byte 1 e; is = refl }

module _ (past : RecordValue) (gate : ℕ) (bytes body : List ℕ) (piece : bytes ≡ 1 ∷ body ++ 0 ∷ [])
    (within : gate < length (device_of past).reads) (shut : slice_index (device_of past).reads gate ≢ 1)
    (durable : Only (device_of past).reads (Leaves (device_of past))) where
  abbrev file : List ℕ
  file = (device_of past).reads

  abbrev front : List ℕ
  front = take gate (device_of past).reads

  closed : Stands (take gate (device_of past).reads) (device_of past).reads
  closed = stands_of (device_of past).reads gate within shut

  long : length (take gate (device_of past).reads) ≡ gate
  long = length-take-le gate (device_of past).reads (omega (arith, within))

  -- the piece is pending behind the closed gate, whatever of it is left
  pub behind_left : (c : List ℕ) → Leaves (after (Wrote (gate + 1) (drop 1 bytes)) (device_of past)) c
      → Stands (take gate (device_of past).reads) c
  behind_left c left =
      let from = asked_follows {E = ⊤} (Ok tt) past past (noted (Wrote (gate + 1) (drop 1 bytes)) past)
      (noted (Wrote (gate + 1) (drop 1 bytes)) past) (gate + 1) (drop 1 bytes) refl refl (omega (arith, within))
      refl tt c left in
      let torn : Torn (gate + 1) (length (drop 1 bytes)) file c =
      subst (λ (f : List ℕ). Torn (gate + 1) (length (drop 1 bytes)) f c) (durable from.0 from.1) from.2 in
      let parts : Torn (gate + 1) (length (drop 1 bytes)) (front ++ closed.gate ∷ closed.rest) c =
      subst (λ (f : List ℕ). Torn (gate + 1) (length (drop 1 bytes)) f c) closed.is torn in
      let here : Torn (length front + 1) (length (drop 1 bytes)) (front ++ closed.gate ∷ closed.rest) c =
      subst (λ (n : ℕ). Torn (n + 1) (length (drop 1 bytes)) (front ++ closed.gate ∷ closed.rest) c) (sym long) parts
      in
      record {
        gate = closed.gate;
        rest = drop (length front + 1) c;
        shut = closed.shut;
        is = torn_behind front closed.gate closed.rest (length (drop 1 bytes)) c here;
      }

  abbrev tail : List ℕ
  tail = drop (gate + 1 + length (drop 1 bytes)) (device_of past).reads

  -- the piece behind its gate, all of it synced
  abbrev staged_file : List ℕ
  staged_file = overwritten (device_of past).reads (gate + 1) (drop 1 bytes)

  parts_of : staged_file ≡ front ++ closed.gate ∷ (body ++ 0 ∷ tail)
  parts_of =
      staged_is (device_of past).reads (take gate (device_of past).reads) closed.rest closed.gate gate closed.is long
      bytes body piece

  opened_as : (byte : ℕ) → overwritten staged_file gate (byte ∷ []) ≡ front ++ byte ∷ (body ++ 0 ∷ tail)
  opened_as byte =
      ap (λ (l : List ℕ). overwritten l gate (byte ∷ [])) parts_of
      ∙ ap (λ (n : ℕ). overwritten (front ++ closed.gate ∷ (body ++ 0 ∷ tail)) n (byte ∷ [])) (sym long)
      ∙ gate_as front closed.gate byte (body ++ 0 ∷ tail)

  abbrev at_gate : Device
  at_gate = after (Wrote gate (1 ∷ [])) (settled (overwritten (device_of past).reads (gate + 1) (drop 1 bytes)))

  image_by : (choice : ℕ) (none whole : Bool) → (choice == 0) ≡ none → (choice == 1) ≡ whole
      → Stands (if (choice % 256 == 1) then front ++ 1 ∷ body else front)
      (if none then at_gate.synced else if whole then at_gate.reads
      else filled (choice % 256) at_gate.pending at_gate.synced)
  image_by choice true whole e f =
      let zero_is : choice ≡ 0 = eqb-true choice 0 e in
      let no_one : (choice % 256 == 1) ≡ false = ap (λ (n : ℕ). n % 256 == 1) zero_is in
      subst (λ (l : List ℕ). Stands (if (choice % 256 == 1) then front ++ 1 ∷ body else front) l) (sym parts_of)
      (subst (λ (b : Bool). Stands (if b then front ++ 1 ∷ body else front)
      (front ++ closed.gate ∷ (body ++ 0 ∷ tail))) (sym no_one)
      (record { gate = closed.gate; rest = body ++ 0 ∷ tail; shut = closed.shut; is = refl }))
  image_by choice false true e f =
      let one_is : choice ≡ 1 = eqb-true choice 1 f in
      let is_one : (choice % 256 == 1) ≡ true = ap (λ (n : ℕ). n % 256 == 1) one_is in
      subst (λ (l : List ℕ). Stands (if (choice % 256 == 1) then front ++ 1 ∷ body else front) l) (sym (opened_as 1))
      (stands_by front body tail 1 true (choice % 256 == 1) refl is_one)
  image_by choice false false e f =
      subst (λ (l : List ℕ). Stands (if (choice % 256 == 1) then front ++ 1 ∷ body else front) l)
      (sym (opened_as (choice % 256)))
      (stands_by front body tail (choice % 256) (choice % 256 == 1) (choice % 256 == 1) refl refl)

  pub gate_left : (choice : ℕ) → Stands (if (choice % 256 == 1) then front ++ 1 ∷ body else front)
      (image choice at_gate)
  gate_left choice = image_by choice (choice == 0) (choice == 1) refl refl

  done_early : (k choice : ℕ) → k ≤ 2 → is_done k choice ≡ false
  done_early k choice early = ap (λ (b : Bool). b && (choice % 256 == 1)) (lt-leb 3 k (omega (arith, early)))

  done_late : (k choice : ℕ) → 3 ≤ k → is_done k choice ≡ (choice % 256 == 1)
  done_late k choice late = ap (λ (b : Bool). b && (choice % 256 == 1)) (le-leb 3 k late)

  -- the rule of crashes
  pub left_early : (k choice : ℕ) (new : RecordValue) → k ≤ 2
      → new ≡ noted (Wrote (gate + 1) (drop 1 bytes)) past → Leaves (device_of new) (image choice (device_of new))
      → Stands (if is_done k choice then front ++ 1 ∷ body else front) (image choice (device_of new))
  left_early k choice new early is left =
      subst (λ (b : Bool). Stands (if b then front ++ 1 ∷ body else front) (image choice (device_of new)))
      (sym (done_early k choice early))
      (behind_left (image choice (device_of new))
      (subst (λ (r : RecordValue). Leaves (device_of r) (image choice (device_of new))) is left))

  pub left_late : (k choice : ℕ) (new : RecordValue) → 3 ≤ k
      → new ≡ noted (Wrote gate (1 ∷ [])) (noted Synced (noted (Wrote (gate + 1) (drop 1 bytes)) past))
      → Stands (if is_done k choice then front ++ 1 ∷ body else front) (image choice (device_of new))
  left_late k choice new late is =
      subst (λ (b : Bool). Stands (if b then front ++ 1 ∷ body else front) (image choice (device_of new)))
      (sym (done_late k choice late))
      (subst (λ (r : RecordValue). Stands (if (choice % 256 == 1) then front ++ 1 ∷ body else front)
      (image choice (device_of r))) (sym is) (gate_left choice))
