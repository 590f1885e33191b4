use Rattle.std.proofs.Common.{◌∙◌, ap, option_map, string_bytes, subst, sym}
use Rattle.std.specs.Str.{IsAscii}
use Rattle.rustsec_registry.proofs.index.Names.{lower-given}
use Rattle.rustsec_registry.proofs.index.path.index_path.Goals as goal

pub folders_of-requires-clause-ascii : goal.folders_of-requires-clause-ascii
folders_of-requires-clause-ascii c =
    subst IsAscii (sym c.deref.ensures)
    (lower-given c.args.name.now (string_bytes c.in-Some.lower) (sym c.in_ok-lower.ensures ∙ ap (option_map string_bytes) c.in-Some.is))
