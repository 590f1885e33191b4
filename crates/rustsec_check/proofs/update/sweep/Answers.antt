use Rattle.std.proofs.Common.{◌≡◌, ◌∙◌, None, Some, ap, option_map, refl, rules, sym}
use Rattle.semver.specs.Identifiers.{parts_of}
use Rattle.rustsec_versions.specs.ranges.Ranges.{Range}
use Rattle.rustsec_check.specs.LeastFree.{holding}
use Rattle.rustsec_check.proofs.Sweep.{fewer-left, free, never, start, up}
use Rattle.rustsec_check.proofs.update.sweep.Goals as goal

pub loop-range-init : goal.loop-range-init
loop-range-init c = λ fixes valid. start c.args.ranges.now (parts_of c.args.version.now) (parts_of c.args.version.now) valid refl

pub returns-in_default-fixed : goal.returns-in_default-fixed
returns-in_default-fixed c = λ all of valid.
    let missing : c.in-Some.range.now.fixed ≡ None = search rules in
    never all c.args.ranges.now (parts_of c.args.version.now) (parts_of c.loop-range.found.now) c.in-Some.range.now None of
    (c.loop-range.invariant of.valid valid) valid (sym c.in-Some.ensures) missing refl

pub loop-range-smaller : goal.loop-range-smaller
loop-range-smaller c =
    let fixed : c.in-Some.range.now.fixed ≡ Some (parts_of c.in-Some-fixed.fixed) =
    sym (ap (λ (r : Range). r.fixed) c.range.view_is) ∙ ap (option_map parts_of) c.in-Some-fixed.is in
    fewer-left c.args.ranges.now c.in-Some.range.now (parts_of c.loop-range.found.now) (parts_of c.in-Some-fixed.fixed) (sym c.in-Some.ensures) fixed

pub loop-range-preserved : goal.loop-range-preserved
loop-range-preserved c = λ fixes valid.
    let fixed : c.in-Some.range.now.fixed ≡ Some (parts_of c.in-Some-fixed.fixed) =
    sym (ap (λ (r : Range). r.fixed) c.range.view_is) ∙ ap (option_map parts_of) c.in-Some-fixed.is in
    up c.args.ranges.now (parts_of c.args.version.now) c.in-Some.range.now (parts_of c.loop-range.found.now) (parts_of c.in-Some-fixed.fixed) fixes
    (c.loop-range.invariant fixes valid) (sym c.in-Some.ensures) fixed

pub returns : goal.returns
returns c = λ all of valid.
    let none : holding c.args.ranges.now (parts_of c.loop-range.found.now) ≡ None = search rules in
    free all c.args.ranges.now (parts_of c.args.version.now) (parts_of c.loop-range.found.now) (Some (parts_of c.loop-range.found.now)) of
    (c.loop-range.invariant of.valid valid) valid none refl
