use Rattle.std.proofs.Common.{sym}
use Rattle.rustsec_check_output.proofs.Places.{places_more}
use Rattle.rustsec_check_output.proofs.package_json.packages_at.Goals as goal

pub loop-place-preserved : goal.loop-place-preserved
loop-place-preserved c =
    rw (c.in_ok-push_at.ensures, c.loop-place.invariant)
    (sym (places_more c.args.packages.now c.args.places.now c.loop-place.place-index 0 c.loop-place-test.true))
