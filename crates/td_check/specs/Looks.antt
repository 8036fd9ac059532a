-- The looks of a trace, by the text that each is at, and which of them were found true.
use Rattle.std.specs.Prelude.{◌≡◌, ◌↔◌, ◌⊎◌, ◌<◌, ◌≤◌, ◌++◌, ◌∷◌, ◌==◌, [], ℕ, suc, Bool, true, false, List, Option}
use Rattle.std.specs.Prelude.{Some, None, if◌then◌else◌, slice_get, length, option_and_then}
use Rattle.std.specs.BTreeMap.{BTreeMap, get}
use Rattle.std.specs.BTreeSet.{BTreeSet, contains}
use Rattle.std.specs.Ordering.{is_eq, nat_cmp, ordering_then}
use Rattle.std.specs.declared.alloc.Global.{Global}
use Rattle.std.specs.declared.cmp.Ordering.{Ordering}
use Rattle.std.specs.declared.vec.Vec.{Vec}
use Rattle.td_base.specs.Lists.{In}
use Rattle.td_trace.specs.declared.log.Did.{Did}
use Rattle.td_trace.specs.declared.log.Did.TheVariants.{Look}
use Rattle.td_trace.specs.declared.log.EditorLog.{EditorLog}
use Rattle.td_reader.specs.Values.{TraceValue}
use Rattle.td_law_replay.specs.Traced.{site_entries}
use Rattle.td_check.specs.declared.looks.Looks.{Looks}
use Rattle.td_check.specs.declared.looks.Place.{Place}
use Rattle.td_check.specs.declared.looks.Spot.{Spot}

-- ---- looks

-- what the editor did there
abbrev pub did_at : TraceValue → ℕ → ℕ → Option Did
did_at t editor index = option_and_then (λ (log : EditorLog). slice_get log.did index) (slice_get t.logs editor)

-- what is told at this place is a look at this spot, with this text
pub record IsLookAt (t : TraceValue) (place : Place) (spot : Spot) (text : List ℕ) : Type 0 where
  pub log : EditorLog
  pub is : slice_get t.logs place.editor ≡ Some log
  pub home : log.home ≡ spot.site
  pub calls : ℕ
  pub told : slice_get log.did place.index ≡ Some (Look calls spot.upto text)

-- what is told at this place is a look with this text
abbrev pub TellsText : TraceValue → Place → List ℕ → Type 0
TellsText t place text = (spot : Spot) × IsLookAt t place spot text

-- ---- where each is found

-- spots go by site, then by the number of entries
abbrev pub spot_cmp : Spot → Spot → Ordering
spot_cmp s r = ordering_then (nat_cmp s.site r.site) (nat_cmp s.upto r.upto)

-- places go by editor, then by what it did
abbrev pub place_cmp : Place → Place → Ordering
place_cmp p q = ordering_then (nat_cmp p.editor q.editor) (nat_cmp p.index q.index)

abbrev pub listed : Option (Vec Place Global) → List Place
listed None = []
listed (Some places) = places.items

-- the places under a spot
abbrev pub places_at : BTreeMap Spot (Vec Place Global) → Spot → List Place
places_at due spot = listed (get spot_cmp due spot)

-- those that were under a spot, where this place was put under that one
abbrev pub noted_at : Spot → Place → Spot → List Place → List Place
noted_at spot place other places = if is_eq (spot_cmp spot other) then places ++ place ∷ [] else places

abbrev pub is_found : BTreeSet Place → Place → Bool
is_found found place = contains place_cmp found place

-- each look stands under its spot, and nothing else stands there
pub record AreDue (t : TraceValue) (due : BTreeMap Spot (Vec Place Global)) : Type 0 where
  pub each : (place : Place) (spot : Spot) (text : List ℕ) → IsLookAt t place spot text → In place (places_at due spot)
  pub only : (place : Place) (spot : Spot) → In place (places_at due spot)
      → (text : List ℕ) × IsLookAt t place spot text

-- ---- those that were found true

-- of each site the texts behind fewer than so many entries were seen, and were these: the looks at them are found where
-- they are true, and no others are
pub record AreLooks (t : TraceValue) (seen : ℕ → ℕ) (text_at : ℕ → ℕ → List ℕ) (looks : Looks) : Type 0 where
  pub due : AreDue t looks.due
  pub true_ones : (place : Place) (spot : Spot) (text : List ℕ) → IsLookAt t place spot text
      → spot.upto < seen spot.site → (is_found looks.found place ≡ true) ↔ (text ≡ text_at spot.site spot.upto)
  pub others : (place : Place) (spot : Spot) (text : List ℕ) → IsLookAt t place spot text
      → seen spot.site ≤ spot.upto → is_found looks.found place ≡ false

-- the text at the beginning of each site was seen, and that behind each of its entries
abbrev pub all_seen : TraceValue → ℕ → ℕ
all_seen t site = suc (length (site_entries t.histories site))

-- one more text of the site was seen
abbrev pub one_more : ℕ → (ℕ → ℕ) → ℕ → ℕ
one_more site seen other = if other == site then suc (seen other) else seen other

-- to those that were found come those of the places whose text is this
pub record AreFound (t : TraceValue) (text : List ℕ) (places : List Place) (old new : BTreeSet Place) : Type 0 where
  pub kept : (place : Place) → is_found old place ≡ true → is_found new place ≡ true
  pub each : (place : Place) → In place places → TellsText t place text → is_found new place ≡ true
  pub only : (place : Place) → is_found new place ≡ true
      → (is_found old place ≡ true) ⊎ (In place places × TellsText t place text)

-- ---- on the way to all of them

-- the place is one of an editor before this one, or one before this of its own
abbrev pub IsPlaceBefore : Place → ℕ → ℕ → Type 0
IsPlaceBefore place editor index = (place.editor < editor) ⊎ ((place.editor ≡ editor) × (place.index < index))

-- the looks before this place stand under their spots
pub record AreDueBefore (t : TraceValue) (editor index : ℕ) (due : BTreeMap Spot (Vec Place Global)) : Type 0 where
  pub each : (place : Place) (spot : Spot) (text : List ℕ) → IsLookAt t place spot text
      → IsPlaceBefore place editor index → In place (places_at due spot)
  pub only : (place : Place) (spot : Spot) → In place (places_at due spot)
      → (text : List ℕ) × IsLookAt t place spot text
