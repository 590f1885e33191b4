use Rattle.std.proofs.lemmas.Result.{on_ok_weaker}
use Rattle.toml.specs.View.{view}
use Rattle.rustsec_advisory.proofs.KeyOrder.{no-section}
use Rattle.rustsec_advisory.proofs.lint_rules.lint_top_key.Goals as goal

pub returns-in_default-clause-ordered : goal.returns-in_default-clause-ordered
returns-in_default-clause-ordered c =
    let none = rw c.in_default.is at c.as_table.ensures in
    on_ok_weaker c.add_key.result (λ _. no-section c.args.key.now (view c.args.value.now) none) c.add_key.ensures.ok
