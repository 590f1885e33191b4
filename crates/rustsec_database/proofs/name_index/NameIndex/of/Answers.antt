use Rattle.std.proofs.Common.{arith}
use Rattle.rustsec_database.proofs.Postings.{listed-more}
use Rattle.rustsec_database.proofs.name_index.NameIndex.of.Goals as goal

pub loop-place-preserved : goal.loop-place-preserved
loop-place-preserved c = record {
  some = let some = c.loop-place.invariant.some in let len = c.insert.ensures.len in omega (arith, some, len);
  have = listed-more c.args.advisories.now c.loop-place.place c.index-advisories-place.result c.new-slot.result c.new-posting.result
      c.loop-place.lists.items c.insert.new.lists.items c.loop-place-test.true c.index-advisories-place.is c.new-slot.ensures c.new-posting.ensures
      c.insert.ensures.len c.in_ok-insert.ensures.ok c.loop-place.invariant.have;
}
