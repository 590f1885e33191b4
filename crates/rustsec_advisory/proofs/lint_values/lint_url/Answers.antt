use Rattle.std.proofs.Common.{◌≡◌, append-nil, codes, sym}
use Rattle.std.proofs.lemmas.Str.Pattern.{starts_text}
use Rattle.toml.specs.View.{view}
use Rattle.toml.specs.Data.{string}
use Rattle.rustsec_advisory.proofs.Rows.{is-string}
use Rattle.rustsec_advisory.proofs.lint_values.lint_url.Goals as goal

pub returns-then-starts_with-clause-ok : goal.returns-then-starts_with-clause-ok
returns-then-starts_with-clause-ok c =
    let value : view c.args.value.now ≡ string c.in-Some.text.now = is-string (view c.args.value.now) c.in-Some.text.now (rw c.in-Some.is at (sym c.as_str.ensures)) in
    let starts = starts_text _ (codes "https://") c.in-Some.text.now c.starts_with.ensures.cases in
    rw (value, ← starts, c.if-starts_with.true) (sym (append-nil c.args.errors.now))

pub returns-clause-ok : goal.returns-clause-ok
returns-clause-ok c =
    let value : view c.args.value.now ≡ string c.in-Some.text.now = is-string (view c.args.value.now) c.in-Some.text.now (rw c.in-Some.is at (sym c.as_str.ensures)) in
    let starts = starts_text _ (codes "https://") c.in-Some.text.now c.starts_with.ensures.cases in
    let text = rw value at c.in_ok-printed.ensures in
    rw (value, ← starts, c.if-starts_with.false, ← text, ← c.deref.ensures) c.add_if.ensures.ok
