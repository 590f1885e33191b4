-- Which fault an audit is refused for.
use Rattle.std.proofs.Common.{◌≡◌, ◌⊎◌, ℕ, List, Some, inl, inr}
use Rattle.std.specs.Prelude.{None}
use Rattle.rustsec_values.specs.Failure.{Failure, IsMemory, IsRefusal}
use Rattle.rustsec_values.specs.declared.error.ErrorKind.TheVariants as kind
use Rattle.rustsec_files.specs.declared.source_file.SourceFile.{SourceFile}
use Rattle.rustsec_lock.specs.Lockfile.{lockfile_of}
use Rattle.rustsec_lock.specs.Package.{PackageValue}
use Rattle.rustsec_advisory.specs.declared.advisory.Advisory.{Advisory}
use Rattle.rustsec_database.specs.Loaded.{AreLoaded, IsFirstFault}
use Rattle.rustsec.specs.Answers.{IsFirstWithoutExport}
use Rattle.rustsec.specs.Audits.{IsAuditRefusal}
use Rattle.rustsec.proofs.Acceptance.{advisory-if-accepted}

module _ (files : List SourceFile) (lockfile : List ℕ) (e : Failure) where
  pub for-memory : IsMemory e → IsAuditRefusal files lockfile e
  for-memory memory = inr (inr (inr memory))

  pub for-file : IsFirstFault files e ⊎ IsMemory e → IsAuditRefusal files lockfile e
  for-file (inl fault) = inl (record { first = fault; lists = advisory-if-accepted fault.bad.text })
  for-file (inr memory) = for-memory memory

  module _ (advisories : List Advisory) (loaded : AreLoaded files advisories) where
    pub for-lockfile : IsRefusal kind.Parse (lockfile_of lockfile ≡ None) e → IsAuditRefusal files lockfile e
    for-lockfile (inl bad) = inr (inl (bad.0, ((advisories, loaded), bad.1)))
    for-lockfile (inr memory) = for-memory memory

    pub for-export : (packages : List PackageValue) → lockfile_of lockfile ≡ Some packages → IsFirstWithoutExport advisories e ⊎ IsMemory e
        → IsAuditRefusal files lockfile e
    for-export packages locked (inl none) =
        inr (inr (inl (record { advisories = advisories; are_loaded = loaded; packages = packages; are_packages = locked; first = none })))
    for-export packages locked (inr memory) = for-memory memory
