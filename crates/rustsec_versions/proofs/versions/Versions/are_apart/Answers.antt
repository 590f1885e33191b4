use Rattle.std.proofs.Common.{◌≡◌, ◌<◌, ◌≤◌, ap, arith, length, map, rules, subst, sym, true}
use Rattle.std.specs.Prelude.{IfOk}
use Rattle.std.proofs.Math.ListN.{length-map}
use Rattle.rustsec_versions.specs.acceptance.Lists.{Lists, accepted_apart}
use Rattle.rustsec_versions.specs.Views.{comparators_of}
use Rattle.rustsec_versions.proofs.lemmas.acceptance.Clashes.{accepted-all, apart_few}
use Rattle.rustsec_versions.proofs.versions.Versions.are_apart.Goals as goal

pub returns-then-as_slice-le1-clause-ok : goal.returns-then-as_slice-le1-clause-ok
returns-then-as_slice-le1-clause-ok c =
    let lists : Lists = record { patched = c.self.inside.patched; unaffected = c.self.inside.unaffected } in
    let many : length (map comparators_of c.as_slice.result.now) ≡ length c.as_slice.result.now = length-map c.as_slice.result.now comparators_of in
    let same : length (map comparators_of c.as_slice.result.now) ≡ length c.self.inside.patched = ap length c.as_slice.ensures in
    let few : length c.self.inside.patched ≤ 1 = omega arith in
    subst (λ (ls : Lists). true ≡ accepted_apart ls) c.self.view_is (sym (apart_few lists few c.self.invariant.ranges.ranges.accepts))

pub returns-clause-ok : goal.returns-clause-ok
returns-clause-ok c =
    let lists : Lists = record { patched = c.self.inside.patched; unaffected = c.self.inside.unaffected } in
    let all = accepted-all lists c.self.invariant.ranges.ranges.accepts in
    let decided : IfOk c.are_apart.result (λ b. b ≡ accepted_apart lists) = rw all c.are_apart.ensures in
    subst (λ (ls : Lists). IfOk c.are_apart.result (λ b. b ≡ accepted_apart ls)) c.self.view_is decided

pub returns-clause-none : goal.returns-clause-none
returns-clause-none c =
    let many : length (map comparators_of c.as_slice.result.now) ≡ length c.as_slice.result.now = length-map c.as_slice.result.now comparators_of in
    let same : length (map comparators_of c.as_slice.result.now) ≡ length c.self.inside.patched = ap length c.as_slice.ensures in
    let inside : 1 < length c.self.inside.patched = omega arith in
    let own : 1 < length c.args.self.now.patched = subst (λ (ls : Lists). 1 < length ls.patched) c.self.view_is inside in
    search rules
