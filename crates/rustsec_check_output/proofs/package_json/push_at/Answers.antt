use Rattle.std.proofs.Common.{length, refl}
use Rattle.std.proofs.lemmas.Option.{slice_get_past, slice_get_read}
use Rattle.rustsec_check_output.proofs.Places.{known_none, known_some}
use Rattle.rustsec_check_output.proofs.package_json.push_at.Goals as goal

pub returns-in_ok-push-in-Some : goal.returns-in_ok-push-in-Some
returns-in_ok-push-in-Some c =
    let there = c.in-Some.ensures.lookup in
    rw c.in_ok-push-in-Some.ensures.items
    (known_some c.args.found.now.items c.in-Some.package _
    (slice_get_read c.args.packages.now (length c.args.packages.now) c.args.place c.in-Some.package.now refl there.3.0 there.1))

pub returns-in-None : goal.returns-in-None
returns-in-None c =
    known_none c.args.found.now.items _ (slice_get_past c.args.packages.now c.args.place c.in-None.ensures.lookup.3)
