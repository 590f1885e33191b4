use Rattle.std.proofs.Common.{sym}
use Rattle.std.proofs.lemmas.Option.{slice_get-map}
use Rattle.rustsec_versions.specs.Views.{comparators_of}
use Rattle.rustsec_explain_output.proofs.tree.tree_at.Goals as goal

pub returns : goal.returns
returns c =
    rw (slice_get-map comparators_of c.args.requirements.now c.args.place, sym c.requirement_at.ensures) c.requirement_tree.ensures
