-- How long what a crash leaves can be, and that the images of a disk in memory are among what a crash may leave.
use Rattle.std.proofs.Common.{◌≡◌, inl, inr, ℕ, Bool, true, false, ◌==◌, ◌%◌, ◌≤◌, List, [], ◌∷◌}
use Rattle.std.proofs.Common.{length, replicate, refl, ap, subst, arith, if◌then◌else◌}
use Rattle.std.proofs.lemmas.List.{length-replicate}
use Rattle.td_disk.specs.declared.disk.TheConstants.{MAX_DISK_LEN}
use Rattle.td_disk.specs.Device.{overwritten, Torn}
use Rattle.td_disk.specs.Events.{Event, Wrote, Synced, Device, Reaches, Leaves, LeftSince, AreWithin, replay}
use Rattle.td_disk.specs.Record.{RecordValue, device_of}
use Rattle.td_disk.specs.Image.{filled, image}
use Rattle.td_disk.proofs.Writes.{torn_same, torn_overwritten, long_overwritten, settled_leaves}

leaves_fit : (first : List ℕ) (events : List Event) → AreWithin first events → (c : List ℕ)
    → Leaves (replay first events) c → length c ≤ MAX_DISK_LEN
leaves_fit first [] within c now = omega (arith, ap length (settled_leaves first c now), within)
leaves_fit first (Wrote at bytes ∷ earlier) within c (inl is) =
    let torn = torn_overwritten (replay first earlier).reads at bytes within.0 in
    let before = leaves_fit first earlier within.2 (replay first earlier).reads (inl refl) in
    omega (arith, ap length is, torn.no_longer, within.1, before)
leaves_fit first (Wrote at bytes ∷ earlier) within c (inr from) =
    let before = leaves_fit first earlier within.2 from.0 (inr from.1) in
    omega (arith, from.2.no_longer, within.1, before)
leaves_fit first (Synced ∷ earlier) within c now =
    let before = leaves_fit first earlier within (replay first earlier).reads (inl refl) in
    omega (arith, ap length (settled_leaves (replay first earlier).reads c now), before)

since_fits : (first : List ℕ) (events : List Event) → AreWithin first events → (t : ℕ) (c : List ℕ)
    → LeftSince first events t c → length c ≤ MAX_DISK_LEN
since_fits first [] within t c now = leaves_fit first [] within c now
since_fits first (Wrote at bytes ∷ earlier) within t c (inl now) =
    leaves_fit first (Wrote at bytes ∷ earlier) within c now
since_fits first (Wrote at bytes ∷ earlier) within t c (inr was) = since_fits first earlier within.2 t c was.1
since_fits first (Synced ∷ earlier) within t c (inl now) = leaves_fit first (Synced ∷ earlier) within c now
since_fits first (Synced ∷ earlier) within t c (inr was) = since_fits first earlier within t c was.1

-- a record as it is inside and as it is seen
pub all_fit : (r seen : RecordValue) → r ≡ seen → AreWithin r.first r.events → (t : ℕ) (c : List ℕ)
    → LeftSince seen.first seen.events t c → length c ≤ MAX_DISK_LEN
all_fit r seen is within =
    subst (λ (s : RecordValue). (t : ℕ) (c : List ℕ) → LeftSince s.first s.events t c → length c ≤ MAX_DISK_LEN) is
    (since_fits r.first r.events within)

-- what the last sync left, whatever was written since
stays : (synced : List ℕ) (pending : List (ℕ × ℕ)) → Reaches synced pending synced
stays synced [] = refl
stays synced (write ∷ earlier) = (synced, stays synced earlier, torn_same write.0 write.1 synced)

-- each pending byte turned into one is left by a crash, and is as long as what was written
record IsReached (byte : ℕ) (d : Device) : Type 0 where
  reached : Reaches d.synced d.pending (filled byte d.pending d.synced)
  long : length (filled byte d.pending d.synced) ≡ length d.reads

reaches_filled : (byte : ℕ) (first : List ℕ) (events : List Event) → AreWithin first events
    → IsReached byte (replay first events)
reaches_filled byte first [] within = record { reached = refl; long = refl }
reaches_filled byte first (Wrote at bytes ∷ earlier) within =
    let was = reaches_filled byte first earlier within.2 in
    let d = replay first earlier in
    let before = filled byte d.pending d.synced in
    let n : length (replicate (length bytes) byte) ≡ length bytes = length-replicate (length bytes) byte in
    let inside : at ≤ length before = omega (arith, was.long, within.0) in
    let torn = torn_overwritten before at (replicate (length bytes) byte) inside in
    record {
      reached = (
        before,
        was.reached,
        subst (λ (k : ℕ). Torn at k before
            (overwritten before at (replicate (length bytes) byte))) n torn,
      );
      long = omega (
        arith,
        n,
        was.long,
        long_overwritten before at (replicate (length bytes) byte) inside,
        long_overwritten d.reads at bytes within.0,
      );
    }
reaches_filled byte first (Synced ∷ earlier) within = record { reached = refl; long = refl }

image_by : (byte : ℕ) (r : RecordValue) → AreWithin r.first r.events → (as_synced as_written : Bool)
    → Leaves (device_of r) (if as_synced then (device_of r).synced else if as_written then (device_of r).reads else
    filled byte (device_of r).pending (device_of r).synced)
image_by byte r within true as_written = inr (stays (device_of r).synced (device_of r).pending)
image_by byte r within false true = inl refl
image_by byte r within false false = inr (reaches_filled byte r.first r.events within).reached

image_leaves : (r : RecordValue) → AreWithin r.first r.events → (choice : ℕ)
    → Leaves (device_of r) (image choice (device_of r))
image_leaves r within choice = image_by (choice % 256) r within (choice == 0) (choice == 1)

pub image_is_left : (r seen : RecordValue) → r ≡ seen → AreWithin r.first r.events → (choice : ℕ)
    → Leaves (device_of seen) (image choice (device_of seen))
image_is_left r seen is within choice =
    subst (λ (s : RecordValue). Leaves (device_of s) (image choice (device_of s))) is (image_leaves r within choice)

pub image_fits : (r seen : RecordValue) → r ≡ seen → AreWithin r.first r.events → (choice : ℕ)
    → length (image choice (device_of seen)) ≤ MAX_DISK_LEN
image_fits r seen is within choice =
    subst (λ (s : RecordValue). length (image choice (device_of s)) ≤ MAX_DISK_LEN) is
    (leaves_fit r.first r.events within (image choice (device_of r)) (image_leaves r within choice))
