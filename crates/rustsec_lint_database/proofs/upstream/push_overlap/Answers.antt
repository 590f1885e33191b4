use Rattle.std.proofs.Common.{append-nil, sym}
use Rattle.rustsec_lint_database.proofs.upstream.push_overlap.Goals as goal

pub returns-then-has_two_apart : goal.returns-then-has_two_apart
returns-then-has_two_apart c = rw (c.has_two_apart.ensures c.if-has_two_apart.true) (sym (append-nil c.args.remarks.now))
