-- What contracts see of the forms in memory.
use Rattle.std.specs.Prelude.{ℕ, ◌-◌, List, ◌++◌, length, min, slice_index}
use Rattle.delf_io.specs.Faults.{next_count}

-- a source: the bytes that are left, the numbers of the calls that are to fail, from 1, how many calls there were, and
-- how many of them failed
pub record SourceState : Type 0 where
  pub left : List ℕ
  pub fails : List ℕ
  pub calls : ℕ
  pub faults : ℕ

-- the source after a call that failed
abbrev pub failed_source : SourceState → SourceState
failed_source s = record s { calls = next_count s.calls; faults = next_count s.faults }

-- the source after a call that left these bytes
abbrev pub read_source : SourceState → List ℕ → SourceState
read_source s rest = record s { left = rest; calls = next_count s.calls }

-- a sink: the bytes that it holds, how many more fit before it has to ask for memory, the numbers of the calls that are
-- to fail, how many calls there were, how many failed, and how many of these were refused memory
pub record SinkState : Type 0 where
  pub held : List ℕ
  pub room : ℕ
  pub fails : List ℕ
  pub calls : ℕ
  pub faults : ℕ
  pub starved : ℕ

-- the sink after a call that failed, with this room, and so many calls that were refused memory
abbrev pub failed_sink : SinkState → ℕ → ℕ → SinkState
failed_sink s room refused =
    record s { room = room; calls = next_count s.calls; faults = next_count s.faults; starved = refused }

-- the sink after a call that took these bytes, with this room
abbrev pub written_sink : SinkState → ℕ → List ℕ → SinkState
written_sink s room bytes = record s { held = s.held ++ bytes; room = room; calls = next_count s.calls }

-- a clock: the moments that it answers, its last answer, and how often it was asked
pub record ClockState : Type 0 where
  pub answers : List ℕ
  pub last : ℕ
  pub asked : ℕ

-- the answer after so many others: the last one again at the end, and 0 where there is none
abbrev pub answer_at : List ℕ → ℕ → ℕ
answer_at answers asked = slice_index answers (min asked (length answers - 1))
