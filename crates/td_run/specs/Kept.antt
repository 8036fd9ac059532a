-- What the verdict yes says of a trace.
use Rattle.std.specs.Prelude.{◌≡◌, ◌⊎◌, ℕ, List}
use Rattle.td_law_convergence.specs.Headline.{KeepsPromises}
use Rattle.td_machine.specs.History.{Family}
use Rattle.td_reader.specs.Form.{IsTraceOf}
use Rattle.td_reader.specs.Values.{TraceValue}
use Rattle.td_trace.specs.Entries.{traced_family}
use Rattle.td_trace.specs.Family.{IsLiveFamily, AreTexts}

-- it is told of a live family, which is consistent, and of all that happened the six promises hold
pub record IsOfLiveFamily (t : TraceValue) : Type 0 where
  pub family : Family
  pub live : IsLiveFamily family t.logs
  pub histories : traced_family family ≡ t.histories
  pub texts : AreTexts family t.texts
  pub promises : KeepsPromises family

-- the bytes are the trace of no site, or of a live family
pub record TracesLiveFamily (bytes : List ℕ) : Type 0 where
  pub value : TraceValue
  pub is : IsTraceOf bytes value
  pub live : (value.sites ≡ 0) ⊎ IsOfLiveFamily value
