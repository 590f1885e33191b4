use Rattle.rustsec_files.proofs.Shown.{shows-names}
use Rattle.rustsec_files.proofs.names.names_in.Goals as goal

pub returns-clause-ok : goal.returns-clause-ok
returns-clause-ok g c =
    shows-names g.F.Folders.listed (g.F.Folders.allowed c.args.folders.now) c.args.folder.now c.in_ok-names.names c.in_ok-ordered.ordered.items
    c.in_ok-names.ensures.ok c.in_ok-names.ensures.listed
    c.in_ok-ordered.ensures
