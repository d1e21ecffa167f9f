-- What a sink in memory tells.
use Rattle.std.specs.Prelude.{ℕ, List}
use Rattle.nr_outside.specs.declared.sink.mem.MemSink.{MemSink}

-- what was written to it
abbrev pub mem_sink_bytes : MemSink → List ℕ
mem_sink_bytes s = s.written.items

-- how often it was written to
abbrev pub mem_sink_writes : MemSink → ℕ
mem_sink_writes s = s.plan.calls

-- the numbers of its writes that are to fail
abbrev pub mem_sink_fails : MemSink → List ℕ
mem_sink_fails s = s.plan.fails.items
