-- What a sink over a writer writes to.
use Rattle.nr_outside.specs.declared.sink.standard.StdSink.{StdSink}

abbrev pub writer_of : {W : Type 0} → StdSink W → W
writer_of s = s.inner
