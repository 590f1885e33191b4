use Rattle.std.proofs.Common.{arith, subst, sym}
use Rattle.std.specs.Str.{IsAscii}
use Rattle.std.proofs.lemmas.Str.{IsCharBoundary-from_ascii}
use Rattle.rustsec_registry.proofs.index.Names.{drop-ascii}
use Rattle.rustsec_registry.proofs.index.path.folders_of.Goals as goal

pub split_at-requires-in_default-2 : goal.split_at-requires-in_default-2
split_at-requires-in_default-2 c =
    IsCharBoundary-from_ascii c.split_at-in_default.result.1.now 2
    (subst IsAscii (sym c.split_at-in_default.ensures.back) (drop-ascii c.args.name.now 2 c.requires.ascii)) (omega arith)
