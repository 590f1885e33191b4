use Rattle.std.proofs.Common.{rules, subst, sym}
use Rattle.rustsec_versions.specs.ranges.Between.{IsComplementOf}
use Rattle.rustsec_versions.specs.acceptance.Lists.{Lists}
use Rattle.rustsec_versions.proofs.lemmas.ranges.Agreement.{some_gap}
use Rattle.rustsec_versions.proofs.versions.Versions.ranges.Goals as goal

pub returns-in_err-ranges-clause-none : goal.returns-in_err-ranges-clause-none
returns-in_err-ranges-clause-none c =
    let kept = subst (λ (ls : Lists). IsComplementOf ls c.self.inside.complement.items) c.self.view_is c.self.invariant in
    let none = some_gap c.args.self.now c.self.inside.complement.items kept (rw (sym c.deref.ensures.value) c.in_err-ranges.ensures.none) in
    search rules
