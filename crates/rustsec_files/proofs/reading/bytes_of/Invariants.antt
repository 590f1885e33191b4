use Rattle.std.specs.Io.KnownBytes.{Consumes}
use Rattle.rustsec_files.proofs.reading.bytes_of.Given as goal

-- what was taken so far
abbrev pub invariant-reads : goal.invariant-reads
invariant-reads g l = Consumes (g.R.Read.remaining l.fn.reader) (g.R.Read.remaining l.reader) l.all.items
