use Rattle.std.proofs.Common.{◌∙◌}
use Rattle.std.specs.List.{list_any}
use Rattle.rustsec_database.specs.Places.{bears_at, is_named, places_from}
use Rattle.rustsec_database.proofs.Touching.{borne}
use Rattle.rustsec_database.proofs.locked.BearingPredicateAdvisory.holds.Goals as goal

pub returns : goal.returns
returns c =
    let a = c.args.advisory.now in
    let named = c.slots-named.result.now in
    c.bears_on_some.ensures
    ∙ ((λ i. list_any (bears_at (c.span_of-span.ensures i).fixed ((c.packages.ensures ∙ c.self.view_is) i)) named)
    ∙ borne c.args.self.now a named (c.slots-named.ensures ∙ (λ i. places_from (is_named a.metadata.«package») 0 (c.self.view_is i))))
