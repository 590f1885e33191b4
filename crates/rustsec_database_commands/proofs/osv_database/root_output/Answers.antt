use Rattle.std.proofs.Common.{string_bytes}
use Rattle.rustsec_database_commands.proofs.osv_database.root_output.Goals as goal

pub returns-clause-ok : goal.returns-clause-ok
returns-clause-ok g c = (
  c.in_ok-database.database,
  (
    string_bytes c.in_ok-exported.exported.text,
    (c.in_ok-exported.exported.missing, (c.in_ok-database.ensures.ok, (c.in_ok-exported.ensures, c.exported_output.ensures))),
  ),
)
