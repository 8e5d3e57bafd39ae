-- Which calls of a store in memory, and which writes of a sink in memory, fail.
use Rattle.std.specs.Prelude.{ℕ, ◌+◌, ◌-◌, ◌^◌, ◌==◌, min, IsTrue, List}
use Rattle.std.specs.List.{list_any}
use Rattle.vxcat_store.specs.declared.mem_sink.MemSink.{MemSink}
use Rattle.vxcat_store.specs.declared.mem_store.MemStore.{MemStore}

-- The numbers of the calls that fail.
abbrev pub named_calls : MemStore → List ℕ
named_calls s = s.failing.items

-- How many loads and saves there were so far.
abbrev pub calls_made : MemStore → ℕ
calls_made s = s.calls

-- The number of the next call: calls are counted from 1, and no further than 2^64 - 1.
abbrev pub next_call : ℕ → ℕ
next_call made = min (made + 1) (2 ^ 64 - 1)

-- The next call is one of those that fail.
abbrev pub FailsNext : MemStore → Type 0
FailsNext s = IsTrue (list_any (λ number. number == next_call s.calls) s.failing.items)

-- ---- sinks

-- The most bytes that a write takes.
abbrev pub most_taken : MemSink → ℕ
most_taken s = s.most

-- The number of the write that fails: none where it is 0.
abbrev pub failing_write : MemSink → ℕ
failing_write s = s.failing

-- How many writes there were so far.
abbrev pub writes_made : MemSink → ℕ
writes_made s = s.writes
