use Rattle.std.proofs.Common.{Some, ap, refl}
use Rattle.rustsec_lock.specs.Package.{PackageValue}
use Rattle.rustsec_database.specs.Query.{of_package}
use Rattle.rustsec_database.proofs.Tables.{selected-affecting, selected-named}
use Rattle.rustsec_database.proofs.database.Database.query_of_package.Goals as goal

pub indexed-requires : goal.indexed-requires
indexed-requires c = record {
  named = λ a h. (
      let name = ap (λ (p : PackageValue). p.name) c.«package».view_is in
      rw name (selected-named (of_package c.args.query.now c.args.«package».now) c.args.«package».now.name a refl h)
      );
  affects = λ a h. (
      let version = ap (λ (p : PackageValue). p.version) c.«package».view_is in
      rw version (selected-affecting (of_package c.args.query.now c.args.«package».now) (Some c.args.«package».now.version) a refl h)
      );
}
