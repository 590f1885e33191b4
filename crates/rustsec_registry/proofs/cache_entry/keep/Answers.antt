use Rattle.std.proofs.lemmas.Result.{on_ok_weaker}
use Rattle.rustsec_registry.proofs.Entries.{at_insert}
use Rattle.rustsec_registry.proofs.cache_entry.keep.Goals as goal

pub returns-clause-ok : goal.returns-clause-ok
returns-clause-ok c = on_ok_weaker c.insert.result (λ e q. rw e (at_insert c.args.kept.now q c.args.name c.args.answer)) c.insert.ensures.ok
