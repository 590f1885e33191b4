use Rattle.std.proofs.Common.{◌∙◌, List, ap}
use Rattle.std.specs.List.{list_any}
use Rattle.rustsec_lock.specs.Package.{PackageValue}
use Rattle.rustsec_database.specs.Places.{affects_at}
use Rattle.rustsec_database.proofs.Touching.{touched}
use Rattle.rustsec_database.proofs.locked.LockedPredicateAdvisory.holds.Goals as goal

pub returns : goal.returns
returns c =
    let a = c.args.advisory.now in
    let slots = c.slots-slots.result.now in
    c.affects_some.ensures
    ∙ (ap (λ (ps : List PackageValue). list_any (affects_at a.versions ps) slots) c.self.view_is ∙ touched c.args.self.now a slots c.slots-slots.ensures)
