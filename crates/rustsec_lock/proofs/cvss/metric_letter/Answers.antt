use Rattle.std.proofs.Common.{[]}
use Rattle.rustsec_lock.proofs.CvssParts.{given_again, given_at_end}
use Rattle.rustsec_lock.proofs.cvss.metric_letter.Goals as goal

pub returns-then-is_some : goal.returns-then-is_some
returns-then-is_some c =
    given_again c.args.name.now c.args.parts.now c.loop-part.part-index (record { ref_ptr = (0, 0); now = [] }) c.loop-part.found
    c.in-Some.value.now c.loop-part-test.true c.in-Some.ensures c.if-is_some.ensures c.loop-part.invariant

pub returns : goal.returns
returns c = given_at_end c.args.name.now c.args.parts.now c.loop-part.part-index c.loop-part.found c.loop-part-test.false c.loop-part.invariant
