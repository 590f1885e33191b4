use Rattle.std.proofs.Common.{◌∙◌, sym}
use Rattle.std.proofs.lemmas.Bool.{false≢true}
use Rattle.rustsec_versions.proofs.lemmas.acceptance.Clashes.{accepted-none}
use Rattle.rustsec_values.proofs.Refusals.{only_memory}
use Rattle.rustsec_versions.proofs.versions.Versions.default.Goals as goal

pub returns-clause-err : goal.returns-clause-err
returns-clause-err c =
    let refused = rw (c.new.ensures.items, c.new-2.ensures.items) at c.new-3.ensures.err in
    only_memory _ c.new-3.result (λ bad. false≢true (sym bad ∙ accepted-none)) refused
