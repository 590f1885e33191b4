-- The trees of a report and of its parts have no float, so that their texts are known.
use Rattle.std.proofs.Common.{◌++◌, refl}
use Rattle.rustsec_advisory.specs.Affected.{Function}
use Rattle.rustsec_advisory.specs.declared.affected.Affected.{Affected}
use Rattle.rustsec_advisory.specs.declared.metadata.Metadata.{Metadata}
use Rattle.rustsec_versions.specs.acceptance.Lists.{Lists}
use Rattle.rustsec_lock.specs.Package.{PackageValue}
use Rattle.rustsec_database.specs.declared.vulnerability.Vulnerability.{Vulnerability}
use Rattle.rustsec_report.specs.Trees.{affected_entries, affected_tree, functions, kinds, lockfile_tree, metadata_entries, metadata_tree, origin, package_entries, package_tree, requirements_tree, settings_entries, settings_tree, subject, terms, versions_entries, versions_tree, vulnerability_entries, vulnerability_tree, warning_entries, warning_tree}
use Rattle.rustsec_report.specs.declared.info.LockfileInfo.{LockfileInfo}
use Rattle.rustsec_report.specs.declared.settings.Settings.{Settings}
use Rattle.rustsec_report.specs.declared.warning.Warning.{Warning}
use Rattle.rustsec_report.proofs.PlainTrees.{AllPlain, Plain, append-plain, list-plain, map-plain, object-plain, optional-plain}

-- ---- the parts of a report

function-plain : (f : Function) → Plain (requirements_tree f.1)
function-plain f = list-plain _ (λ r. refl) f.1

affected-plain : (a : Affected) → Plain (affected_tree a)
affected-plain a = object-plain (affected_entries a) (
  list-plain _ (λ x. refl) a.arch,
  (object-plain (functions a.functions) (map-plain _ function-plain a.functions), (list-plain _ (λ x. refl) a.os, tt)),
)

versions-plain : (v : Lists) → Plain (versions_tree v)
versions-plain v = object-plain (versions_entries v) (list-plain _ (λ r. refl) v.patched, (list-plain _ (λ r. refl) v.unaffected, tt))

subject-plain : (m : Metadata) → AllPlain (subject m)
subject-plain m = (list-plain _ (λ x. refl) m.aliases, (refl, (refl, (refl, (list-plain _ (λ x. refl) m.related, tt)))))

kinds-plain : (m : Metadata) → AllPlain (kinds m)
kinds-plain m = (
  list-plain _ (λ x. refl) m.categories,
  (
    optional-plain _ (λ x. refl) m.collection,
    (
      optional-plain _ (λ x. refl) m.cvss,
      (optional-plain _ (λ x. refl) m.informational, (list-plain _ (λ x. refl) m.keywords, tt)),
    ),
  ),
)

origin-plain : (m : Metadata) → AllPlain (origin m)
origin-plain m = (list-plain _ (λ x. refl) m.references, (optional-plain _ (λ x. refl) m.source, (optional-plain _ (λ x. refl) m.url, tt)))

terms-plain : (m : Metadata) → AllPlain (terms m)
terms-plain m = (refl, (refl, (refl, (refl, (optional-plain _ (λ x. refl) m.withdrawn, tt)))))

metadata-plain : (m : Metadata) → Plain (metadata_tree m)
unfolding metadata_tree metadata_entries
metadata-plain m = object-plain (metadata_entries m)
    (append-plain (subject m) (kinds m ++ (origin m ++ terms m)) (subject-plain m)
    (append-plain (kinds m) (origin m ++ terms m) (kinds-plain m) (append-plain (origin m) (terms m) (origin-plain m) (terms-plain m))))

package-plain : (p : PackageValue) → Plain (package_tree p)
package-plain p = object-plain (package_entries p) (optional-plain _ (λ x. refl) p.checksum, (refl, (optional-plain _ (λ x. refl) p.source, (refl, tt))))

pub vulnerability-plain : (v : Vulnerability) → Plain (vulnerability_tree v)
unfolding vulnerability_tree
vulnerability-plain v = object-plain (vulnerability_entries v)
    (metadata-plain v.advisory, (optional-plain _ affected-plain v.affected, (package-plain v.«package», (versions-plain v.versions, tt))))

pub warning-plain : (w : Warning) → Plain (warning_tree w)
unfolding warning_tree
warning-plain w = object-plain (warning_entries w)
    (optional-plain _ metadata-plain w.advisory, (optional-plain _ affected-plain w.affected, (refl, (package-plain w.«package», (optional-plain _ versions-plain w.versions, tt)))))

pub settings-plain : (s : Settings) → Plain (settings_tree s)
settings-plain s = object-plain (settings_entries s) (
  list-plain _ (λ x. refl) s.ignore,
  (
    list-plain _ (λ x. refl) s.informational_warnings,
    (
      optional-plain _ (λ x. refl) s.severity,
      (list-plain _ (λ x. refl) s.target_arch, (list-plain _ (λ x. refl) s.target_os, tt)),
    ),
  ),
)

pub lockfile-plain : (l : LockfileInfo) → Plain (lockfile_tree l)
lockfile-plain l = object-plain _ (refl, tt)
