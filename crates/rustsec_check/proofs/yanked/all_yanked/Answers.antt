use Rattle.std.proofs.Common.{◌≡◌, ◌++◌, ◌<◌, ◌∷◌, [], false, get_or, length, rules, true}
use Rattle.rustsec_check.specs.Yanked.{is_yanked}
use Rattle.rustsec_check.proofs.MoreYanked.{none-yanked, one-yanked}
use Rattle.rustsec_check.proofs.yanked.all_yanked.Goals as goal
use Rattle.rustsec_check.proofs.yanked.all_yanked.Goals.{else-has_package, then-has_package+in_ok-found+in_ok-map_err}

pub loop-place-preserved : goal.loop-place-preserved
loop-place-preserved c =
    let s = c.args.subject.now in
    let yanked = c.args.yanked.now in
    let packages = c.as_slice-packages.result.now in
    let i = c.loop-place.place in
    let p = c.index-packages-place.result in
    let old = c.loop-place.all.items in
    let new = c.if-has_package.all.items in
    let low : i < length packages = c.loop-place-test.true in
    let is : p ≡ get_or packages i p = c.index-packages-place.is in
    elim c.if-has_package.branch [
      | then-has_package+in_ok-found+in_ok-map_err w ↦
          let held : is_yanked yanked (i, p) ≡ true = search rules in
          let more : new ≡ old ++ w.in_ok-found.found ∷ [] = search rules in
          one-yanked s yanked packages i p old new w.in_ok-found.found low is c.loop-place.invariant held w.in_ok-found.ensures.at
          w.in_ok-found.ensures.ok more
      | else-has_package w ↦
          let other : is_yanked yanked (i, p) ≡ false = search rules in
          let same : new ≡ old = search rules in
          none-yanked s yanked packages i p old new low is c.loop-place.invariant other same
    ]
