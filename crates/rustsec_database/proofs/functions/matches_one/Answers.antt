use Rattle.std.proofs.Common.{◌∙◌}
use Rattle.semver.proofs.EvalViews.{matches_all-views}
use Rattle.rustsec_database.proofs.functions.matches_one.Goals as goal

pub returns : goal.returns
returns c = c.matches.ensures ∙ matches_all-views c.args.req.now.comparators.items c.args.version.now
