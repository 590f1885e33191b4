use Rattle.std.proofs.Common.{rules}
use Rattle.rustsec_database.proofs.Tables.{selected-affecting, selected-named}
use Rattle.rustsec_database.proofs.database.Database.query.Goals as goal

pub indexed-requires : goal.indexed-requires
indexed-requires c = record {
  named = λ a h. selected-named c.args.query.now _ a (search rules) h;
  affects = λ a h. selected-affecting c.args.query.now _ a (search rules) h;
}
