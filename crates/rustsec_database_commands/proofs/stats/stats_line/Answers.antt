use Rattle.std.proofs.Common.{◌∙◌, ap}
use Rattle.serde_json.specs.Written.{has_float}
use Rattle.rustsec_json.specs.Lines.{tree_line}
use Rattle.rustsec_database_commands.proofs.StatsPlain.{stats-plain}
use Rattle.rustsec_database_commands.proofs.stats.stats_line.Goals as goal

pub returns-clause-ok : goal.returns-clause-ok
returns-clause-ok c =
    let is = c.in_ok-tree.ensures.ok in
    c.in_ok-line.ensures (ap has_float is ∙ stats-plain c.args.stats.now) ∙ ap tree_line is
