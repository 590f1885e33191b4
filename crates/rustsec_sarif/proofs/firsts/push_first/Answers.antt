use Rattle.rustsec_sarif.proofs.OnceEach.{first_kept, first_pushed}
use Rattle.rustsec_sarif.proofs.firsts.push_first.Goals as goal

pub returns-in_ok-push : goal.returns-in_ok-push
returns-in_ok-push c =
    rw c.in_ok-push.ensures.items
    (first_pushed c.args.finding c.args.first.now.items c.as_slice.result.now c.has_same.result c.has_same.ensures c.as_slice.ensures.value c.if-not-has_same.true)

pub returns-else-not-has_same : goal.returns-else-not-has_same
returns-else-not-has_same c =
    first_kept c.args.finding c.args.first.now.items c.as_slice.result.now c.has_same.result c.has_same.ensures c.as_slice.ensures.value c.if-not-has_same.false
