use Rattle.std.proofs.Common.{map, take}
use Rattle.rustsec_files.specs.Allowed.{AllowSame}
use Rattle.rustsec_program.proofs.ManyLines.{AreWritten}
use Rattle.rustsec_program.proofs.many.write_lines.Given as goal

-- the folders allow the same as at the beginning, and the lines for the paths so far are written
abbrev pub invariant-loop-path : goal.invariant-loop-path
invariant-loop-path g l = record {
  same : AllowSame (g.F.Folders.allowed l.fn.folders) (g.F.Folders.allowed l.folders);
  lines : AreWritten (g.F.Folders.allowed l.fn.folders) l.ground (map (λ p. p.now) (take l.path-index l.paths)) l.done.status
      (g.W.Write.contents l.fn.output) (g.W.Write.contents l.output);
}
