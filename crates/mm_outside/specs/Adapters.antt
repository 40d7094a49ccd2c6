-- What an adapter of std's streams holds.
use Rattle.std.specs.Prelude.{ℕ}
use Rattle.mm_outside.specs.declared.adapters.StdSource.{StdSource}
use Rattle.mm_outside.specs.declared.adapters.StdSink.{StdSink}

-- the reader of a source
abbrev pub reader_of : {R : Type 0} → StdSource R → R
reader_of source = source.reader

-- the failures of its reader so far
abbrev pub reader_faults : {R : Type 0} → StdSource R → ℕ
reader_faults source = source.faults

-- the writer of a sink
abbrev pub writer_of : {W : Type 0} → StdSink W → W
writer_of sink = sink.writer

-- the failures of its writer so far
abbrev pub writer_faults : {W : Type 0} → StdSink W → ℕ
writer_faults sink = sink.faults
