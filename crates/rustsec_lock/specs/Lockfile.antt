-- The packages of a lockfile's table.
use Rattle.std.specs.Prelude.{◌≡◌, ◌⊎◌, ◌++◌, ℕ, List, [], Option, None, Some, codes}
use Rattle.std.specs.List.{All}
use Rattle.semver.specs.Parse.{Parts, version_parts}
use Rattle.toml.specs.Data.{Data, Members, as_str, as_table}
use Rattle.toml.specs.Parse.{parse_document}
use Rattle.rustsec_values.specs.Reading.{◌>>=◌, read_optional, value_of}
use Rattle.rustsec_toml.specs.Fields.{defaulted, every, optional, required}
use Rattle.rustsec_files.specs.ReadFailures.{IsReadFailure}
use Rattle.rustsec_files.specs.Allowed.{Allowed}
use Rattle.rustsec_values.specs.Failure.{Failure, IsMemory, IsRefusal}
use Rattle.rustsec_values.specs.declared.error.ErrorKind.TheVariants as kind
use Rattle.rustsec_versions.specs.order.Precedence.{IsVersion}
use Rattle.rustsec_lock.specs.Names.{name_of}
use Rattle.rustsec_lock.specs.Package.{PackageValue}
use Rattle.rustsec_lock.specs.Source.{source_id_of}

-- the version of a text
abbrev pub version_of : List ℕ → Option Parts
version_of text = value_of (version_parts text)

-- the package of a table: texts at `name`, at `version` and, if the keys are present, at `source` and `checksum`
abbrev pub package_in : Members → Option PackageValue
package_in ms =
    required as_str (codes "name") ms >>= name_of >>= λ name.
    required as_str (codes "version") ms >>= version_of >>= λ version.
    optional as_str (codes "source") ms >>= read_optional source_id_of >>= λ source.
    optional as_str (codes "checksum") ms >>= λ checksum.
    Some (record { name = name; version = version; source = source; checksum = checksum })

-- the package of a value, which must be a table
abbrev pub package_of : Data → Option PackageValue
package_of d = as_table d >>= package_in

-- the packages of a lockfile's table, in order; none if the key `package` is missing; other keys are ignored
abbrev pub packages_of : Members → Option (List PackageValue)
packages_of ms = defaulted [] (every package_of) (codes "package") ms

-- the packages of a lockfile's text
abbrev pub lockfile_of : List ℕ → Option (List PackageValue)
lockfile_of text = parse_document text >>= packages_of

-- each package has a valid version
abbrev pub AreValid : List PackageValue → Type 0
AreValid ps = All (λ (p : PackageValue). IsVersion p.version) ps

-- ---- lockfiles at a path

-- the packages of a text that folders allow to be read at a path
abbrev pub IsLockfileAt : Allowed → List ℕ → List PackageValue → Type 0
IsLockfileAt allowed path packages = (text : List ℕ) × (allowed.reads path (Some text) × (lockfile_of text ≡ Some packages))

-- how a lockfile at a path is refused: it cannot be read there, a text that may be read there is not a lockfile, or out of memory
abbrev pub IsLockfileRefusal : Allowed → List ℕ → Failure → Type 0
IsLockfileRefusal allowed path e =
    IsRefusal kind.Io (allowed.reads path None) e
    ⊎ ((text : List ℕ) × (allowed.reads path (Some text) × IsRefusal kind.Parse (lockfile_of text ≡ None) e))

-- a parse error whose message names the path of the lockfile, or out of memory
abbrev pub IsParseFailure : List ℕ → Failure → Type 0
IsParseFailure path e = ((e.kind ≡ kind.Parse) × (e.message ≡ codes "error parsing " ++ path)) ⊎ IsMemory e

-- each kind of failure to load a lockfile has a message that names its path; out of memory has no message
abbrev pub NamesLockfile : List ℕ → Failure → Type 0
NamesLockfile path e = IsParseFailure path e ⊎ IsReadFailure path e
