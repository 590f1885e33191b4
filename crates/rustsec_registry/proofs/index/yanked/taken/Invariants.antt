use Rattle.std.proofs.Common.{◌≡◌, map, take}
use Rattle.std.specs.List.{AllByRecursion}
use Rattle.rustsec_registry.specs.Yanked.{seen}
use Rattle.rustsec_registry.specs.index.YankedPackages.{IsTaken, messages_in, packages_in}
use Rattle.rustsec_registry.proofs.index.yanked.taken.Given as goal

-- the answers so far are taken
abbrev pub invariant-loop-answer : goal.invariant-loop-answer
invariant-loop-answer l = record {
  all : AllByRecursion IsTaken (map seen (take l.answer-index l.answers));
  packages : l.yanked.packages ≡ packages_in (map seen (take l.answer-index l.answers));
  unlisted : l.yanked.unlisted ≡ messages_in (map seen (take l.answer-index l.answers));
}
