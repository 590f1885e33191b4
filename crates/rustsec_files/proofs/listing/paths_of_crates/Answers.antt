use Rattle.std.proofs.Common.{◌∙◌}
use Rattle.rustsec_files.specs.Seen.{listed_from}
use Rattle.rustsec_files.proofs.Same.{crates-refused}
use Rattle.rustsec_files.proofs.listing.paths_of_crates.Goals as goal

pub returns-clause-err : goal.returns-clause-err
returns-clause-err g c =
    crates-refused _ (listed_from g.F.Folders.listed (g.F.Folders.allowed c.args.folders.now)) _ _ c.paths_of_collection.result (c.deref.ensures ∙ c.in_ok-path.ensures) c.paths_of_collection.ensures.err
