use Rattle.std.proofs.Common.{◌≡◌, take}
use Rattle.rustsec_database.specs.Pairs.{pairs}
use Rattle.rustsec_database.proofs.database.Database.query_pairs.Given as goal

-- the pairs so far are those of the packages so far
abbrev pub invariant-loop-package : goal.invariant-loop-package
invariant-loop-package l = l.pairs.items ≡ pairs l.self (take l.package-index l.package-items) l.query
