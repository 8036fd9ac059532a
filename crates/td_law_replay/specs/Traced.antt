-- What a trace tells of 1 to 64 sites, entry by entry, with each part in the range that its type keeps.
use Rattle.std.specs.Prelude.{◌<◌, ◌≤◌, ◌-◌, ℕ, List, [], length, get_or}
use Rattle.td_base.specs.Value.{IsDot}
use Rattle.td_base.specs.Lists.{In}
use Rattle.td_base.specs.declared.site.TheConstants.{MAX_SITE}
use Rattle.td_op.specs.Input.{IsRequest}
use Rattle.td_op.specs.Message.{IsVote}
use Rattle.td_trace.specs.declared.entry.TraceEntry.{TraceEntry}
use Rattle.td_trace.specs.declared.told_input.ToldInput.{ToldInput}
use Rattle.td_trace.specs.declared.told_input.ToldInput.TheVariants.{Asked, TookOp, TookVote, Went}

-- the entries of a site, which stand at place site - 1
abbrev pub site_entries : List (List TraceEntry) → ℕ → List TraceEntry
site_entries all site = get_or all (site - 1) []

abbrev pub IsTold : ToldInput → Type 0
IsTold (Asked request) = IsRequest request
IsTold (TookOp d) = IsDot d
IsTold (TookVote v) = IsVote v
IsTold Went = Unit {0}

pub record AreInRange (all : List (List TraceEntry)) : Type 0 where
  pub some : 0 < length all
  pub few : length all ≤ MAX_SITE
  pub each : (site : ℕ) → 0 < site → site ≤ length all → (e : TraceEntry) → In e (site_entries all site)
      → IsTold e.told
