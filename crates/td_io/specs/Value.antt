-- What contracts see of a source and of a sink in memory.
use Rattle.std.specs.Prelude.{ℕ, List, [], Option, None}

-- the bytes still to come, how many a call gives at most, the calls that fail, how many calls were made and failed,
-- and which of them was the first that found the end
pub record SourceValue : Type 0 where
  pub left : List ℕ
  pub most : ℕ
  pub fails : List ℕ
  pub calls : ℕ
  pub faults : ℕ
  pub end : Option ℕ

-- the bytes taken so far, how many it takes in all, how many a call takes at most, and the same of calls
pub record SinkValue : Type 0 where
  pub held : List ℕ
  pub space : ℕ
  pub most : ℕ
  pub fails : List ℕ
  pub calls : ℕ
  pub faults : ℕ

-- before the first call
abbrev pub new_source : List ℕ → ℕ → List ℕ → SourceValue
new_source left most fails =
    record { left = left; most = most; fails = fails; calls = 0; faults = 0; end = None }

abbrev pub new_sink : ℕ → ℕ → List ℕ → SinkValue
new_sink space most fails =
    record { held = []; space = space; most = most; fails = fails; calls = 0; faults = 0 }

-- a reader, how many calls were made and failed, and which of them was the first that found the end
pub record ReaderValue (Inner : Type 0) : Type 0 where
  pub inner : Inner
  pub calls : ℕ
  pub faults : ℕ
  pub end : Option ℕ

-- a writer, and how many calls failed
pub record WriterValue (Inner : Type 0) : Type 0 where
  pub inner : Inner
  pub faults : ℕ
