use Rattle.std.proofs.Common.{◌≡◌, ◌∙◌, ap, arith, length, map, sym}
use Rattle.rustsec_versions.specs.Views.{comparators_of}
use Rattle.rustsec_lint_database.proofs.Apart.{pair-of, two-apart}
use Rattle.rustsec_lint_database.proofs.upstream.has_two_apart.Goals as goal

pub returns : goal.returns
returns c =
    let two : length c.patched.result.now ≡ 2 = omega (arith, c.in-len2.len_at_least, c.in-len2.len_below) in
    let pair = pair-of c.patched.result.now c.first-item.result c.second-item.result two c.first-item.is c.second-item.is in
    λ h. two-apart c.args.versions.now (comparators_of c.first-item.result) (comparators_of c.second-item.result)
    (sym c.patched.ensures ∙ ap (map comparators_of) pair) (c.are_two_apart.ensures h) c.is_vulnerable.ensures.accepted
