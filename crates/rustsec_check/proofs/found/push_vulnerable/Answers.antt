use Rattle.std.proofs.Common.{◌≡◌, ◌++◌, ◌∷◌, [], rules}
use Rattle.rustsec_check.specs.Pairs.{as_unwarned}
use Rattle.rustsec_check.proofs.Packages.{appended, kept}
use Rattle.rustsec_check.proofs.found.push_vulnerable.Goals as goal
use Rattle.rustsec_check.proofs.found.push_vulnerable.Goals.{in-Some+in_ok-map_err, in_default}

pub loop-advisory-preserved : goal.loop-advisory-preserved
loop-advisory-preserved c =
    let give = as_unwarned c.args.placed.now in
    let i = c.loop-advisory.advisory-index in
    elim c.match-vulnerable.branch [
      | in-Some+in_ok-map_err w ↦
          let more : c.match-vulnerable.found.items ≡ c.loop-advisory.found.items ++ w.in-Some.pair ∷ [] = search rules in
          appended give c.args.advisories.now i c.advisory-item.result w.in-Some.pair c.args.found.now.items c.loop-advisory.found.items c.match-vulnerable.found.items
          c.loop-advisory-test.true c.advisory-item.is w.in-Some.ensures c.loop-advisory.invariant more
      | in_default w ↦
          let same : c.match-vulnerable.found.items ≡ c.loop-advisory.found.items = search rules in
          kept give c.args.advisories.now i c.advisory-item.result c.args.found.now.items c.loop-advisory.found.items c.match-vulnerable.found.items
          c.loop-advisory-test.true c.advisory-item.is w.in_default.ensures c.loop-advisory.invariant same
    ]
