use Rattle.std.proofs.Common.{◌<◌, length, take}
use Rattle.rustsec_database.specs.Postings.{HaveListed}
use Rattle.rustsec_database.proofs.name_index.NameIndex.of.Given as goal

-- the lists have the postings of the advisories so far
abbrev pub invariant-loop-place : goal.invariant-loop-place
invariant-loop-place l = record {
  some : 0 < length l.lists.items;
  have : HaveListed (take l.place l.advisories) l.lists.items;
}
