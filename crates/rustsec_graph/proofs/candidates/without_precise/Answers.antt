use Rattle.std.proofs.Common.{◌∙◌, sym}
use Rattle.rustsec_graph.proofs.Sources.{before-sign, whole}
use Rattle.rustsec_graph.proofs.candidates.without_precise.Goals as goal

pub returns-in-Some : goal.returns-in-Some
returns-in-Some c =
    let found = c.in-Some.ensures.cases in
    found.3 ∙ sym (before-sign _ found.0 found.1 found.2.0 found.2.1)

pub returns-in-None : goal.returns-in-None
returns-in-None c = sym (whole c.args.source.now c.in-None.ensures.cases)
