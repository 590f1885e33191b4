use Rattle.std.proofs.Common.{◌≡◌, ◌∙◌, [], false, rules, sym, true}
use Rattle.toml.specs.View.{view}
use Rattle.rustsec_advisory.specs.LintErrors.{advisory_rows, is_one_of, quiet_keys}
use Rattle.rustsec_advisory.proofs.QuietKeys.{no-quiet-rows}
use Rattle.rustsec_advisory.proofs.Rows.{not-same}
use Rattle.rustsec_advisory.proofs.lint_rules.lint_advisory_key.Goals as goal

pub returns-then-is_quiet-clause-ok : goal.returns-then-is_quiet-clause-ok
returns-then-is_quiet-clause-ok c =
    let quiet : is_one_of quiet_keys c.args.key.now ≡ true = sym c.is_quiet.ensures ∙ c.if-is_quiet.true in
    let none : advisory_rows c.args.linted.draft c.args.linted.advisory.now.metadata (c.args.key.now, view c.args.value.now) ≡ [] =
    no-quiet-rows c.args.linted.draft c.args.linted.advisory.now.metadata (view c.args.value.now) c.args.key.now quiet in
    rw none (search rules)

pub returns-in_default-clause-ok : goal.returns-in_default-clause-ok
returns-in_default-clause-ok c =
    let loud : is_one_of quiet_keys c.args.key.now ≡ false = sym c.is_quiet.ensures ∙ c.if-is_quiet.false in
    rw (
      not-same _ _ c.in_default.not-id,
      not-same _ _ c.in_default.not-categories,
      not-same _ _ c.in_default.not-collection,
      not-same _ _ c.in_default.not-informational,
      not-same _ _ c.in_default.not-url,
      not-same _ _ c.in_default.not-yanked,
      not-same _ _ c.in_default.not-license,
      loud,
    ) c.add_key.ensures.ok
