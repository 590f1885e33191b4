use Rattle.std.proofs.Common.{take}
use Rattle.rustsec_files.specs.Allowed.{AllowSame}
use Rattle.rustsec_registry.specs.index.IndexFolder.{AnswersAll, AreAnswers}
use Rattle.rustsec_registry.proofs.index.folder.answers_for.Given as goal

-- the answers so far are those for the names of the packages so far
abbrev pub invariant-loop-package : goal.invariant-loop-package
invariant-loop-package g l = record {
  same : AllowSame (g.F.Folders.allowed l.fn.folders) (g.F.Folders.allowed l.folders);
  each : AreAnswers (g.F.Folders.allowed l.fn.folders) l.place l.answers;
  all : AnswersAll (take l.package-index l.packages) l.answers;
}
