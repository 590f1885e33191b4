use Rattle.std.proofs.Common.{◌≡◌, ◌++◌, take}
use Rattle.rustsec_report.specs.Words.{package_words}
use Rattle.rustsec_report.proofs.arguments.add_packages.Given as goal

-- the arguments for the packages so far were appended
abbrev pub invariant-loop-package : goal.invariant-loop-package
invariant-loop-package l = l.words ≡ l.fn.words ++ package_words l.name l.versions (take l.package-index l.packages)
