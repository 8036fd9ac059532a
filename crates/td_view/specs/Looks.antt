-- What a look leaves behind that shows nothing.
use Rattle.std.specs.Prelude.{◌≡◌, ◌<◌, ◌⊎◌, List, [], ◌∷◌, ◌++◌, length, map, Option, Some, None}
use mathlib.Core.List.{IsPrefix}
use Rattle.td_view.specs.declared.publish.Publish.{Publish}
use Rattle.td_view.specs.Deeds.{Publishes}
use Rattle.td_view.specs.Values.{ReaderValue}

-- `left_right` gave the reader no text, or an older one than it knows: of a shorter beginning of what was published
abbrev pub IsMissed : ReaderValue → ReaderValue → Type 0
IsMissed before after =
    (after.given ≡ before.given)
    ⊎ ((older : List Publish) × (after.given ≡ before.given ++ older ∷ []) × IsPrefix older before.known
    × (length older < length before.known))

-- what was published up to each of these
abbrev pub logs : List Publishes → List (List Publish)
logs pasts = map (λ (p : Publishes). p.log) pasts

-- the same of what somebody has, if there is somebody
abbrev pub logs_of : {L : Type 0} → Option L → (L → List Publishes) → List (List Publish)
logs_of None pasts = []
logs_of (Some l) pasts = logs (pasts l)
