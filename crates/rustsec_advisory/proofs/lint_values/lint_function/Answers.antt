use Rattle.std.proofs.Common.{◌≡◌, ◌∙◌, false, sym}
use Rattle.rustsec_advisory.specs.LintErrors.{begins_with}
use Rattle.rustsec_advisory.proofs.lint_values.lint_function.Goals as goal

pub returns-clause-ok : goal.returns-clause-ok
returns-clause-ok c =
    let other : begins_with c.args.name.now c.args.path.now ≡ false = sym c.begins_with.ensures ∙ c.if-begins_with.false in
    rw other (rw (c.deref.ensures, c.in_ok-printed.ensures.ok) at c.add_if.ensures.ok)
