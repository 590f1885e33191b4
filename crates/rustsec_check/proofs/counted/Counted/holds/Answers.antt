use Rattle.std.proofs.Common.{◌≡◌, ◌∙◌, List, ap, map, rules}
use Rattle.std.specs.Borrow.{Bor}
use Rattle.std.specs.List.{list_any}
use Rattle.rustsec_advisory.specs.declared.advisory.Advisory.{Advisory}
use Rattle.rustsec_versions.specs.Equality.{lists_eq}
use Rattle.rustsec_check.specs.Updates.{in_force}
use Rattle.rustsec_check.proofs.Movers.{any-now}
use Rattle.rustsec_check.proofs.counted.Counted.holds.Goals as goal

pub returns : goal.returns
returns c =
    let same = λ (a : Advisory). lists_eq a.versions c.args.advisory.now.versions in
    let items : List (Bor Advisory) = c.self.inside.in_force.items in
    let any : c.some_has_same.result ≡ list_any (λ (a : Bor Advisory). same a.now) items = search rules in
    let kept : map (λ (a : Bor Advisory). a.now) items ≡ in_force c.args.self.now.ids c.args.self.now.others = search rules in
    any ∙ (any-now same items ∙ ap (list_any same) kept)
