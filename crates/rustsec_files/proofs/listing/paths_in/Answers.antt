use Rattle.rustsec_files.specs.Seen.{listed_from}
use Rattle.rustsec_files.proofs.Same.{folder-found}
use Rattle.rustsec_files.proofs.listing.paths_in.Goals as goal

pub returns-clause-ok : goal.returns-clause-ok
returns-clause-ok g c =
    folder-found (listed_from g.F.Folders.listed (g.F.Folders.allowed c.args.folders.now)) c.args.folder.now c.in_ok-names.names.items c.deref.result.now c.in_ok-paths.paths.items c.in_ok-names.ensures.ok c.deref.ensures.value
    c.in_ok-paths.ensures
