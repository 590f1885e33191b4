use Rattle.rustsec_files.specs.Seen.{seen_by}
use Rattle.rustsec_database.proofs.EachKept.{each_opened}
use Rattle.rustsec_database.proofs.database.Database.open_with.Goals as goal

pub returns-clause-ok : goal.returns-clause-ok
returns-clause-ok g c =
    each_opened (g.F.Folders.allowed c.args.folders.now) c.args.root.now c.in_ok-kept.kept _ c.into_database.ensures c.in_ok-kept.ensures.ok

pub returns-clause-opened : goal.returns-clause-opened
returns-clause-opened g c =
    each_opened (seen_by g.F.Folders.listed g.F.Folders.opened (g.F.Folders.allowed c.args.folders.now)) c.args.root.now c.in_ok-kept.kept _ c.into_database.ensures c.in_ok-kept.ensures.opened
