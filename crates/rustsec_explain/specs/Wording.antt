-- The words of the reasons.
use Rattle.std.specs.Prelude.{◌++◌, ℕ, List, [], ◌∷◌, Option, Some, None, codes, flat_map, option_and_then, slice_get}
use Rattle.std.specs.Fmt.{decimal}
use Rattle.semver.specs.Identifiers.{parts_text}
use Rattle.semver.specs.Parse.{Held, Parts}
use Rattle.rustsec_versions.specs.requirement.RequirementText.{requirement_text}
use Rattle.rustsec_lock.specs.Cvss.{cvss_severity}
use Rattle.rustsec_lock.specs.Package.{PackageValue}
use Rattle.rustsec_lock.specs.Platforms.{arch_text, os_text}
use Rattle.rustsec_lock.specs.Score.{severity_text}
use Rattle.rustsec_lock.specs.Source.{Source, source_text}
use Rattle.rustsec_lock.specs.declared.severity.Severity.{Severity}
use Rattle.rustsec_texts.specs.Collections.{collection_name}
use Rattle.rustsec_texts.specs.Informational.{informational_name}
use Rattle.rustsec_texts.specs.declared.collection.Collection.{Collection}
use Rattle.rustsec_texts.specs.declared.informational.Informational.{Informational}
use Rattle.rustsec_advisory.specs.declared.advisory.Advisory.{Advisory}
use Rattle.rustsec_advisory.specs.declared.affected.Affected.{Affected}
use Rattle.rustsec_report.specs.declared.settings.Settings.{Settings}
use Rattle.rustsec_explain.specs.declared.reason.Reason.{Reason}
use Rattle.rustsec_explain.specs.declared.reason.Reason.TheVariants as reason

-- a name between backquotes
abbrev pub quoted : List ℕ → List ℕ
quoted name = codes "`" ++ (name ++ codes "`")

-- the names of some values, each after a comma and between backquotes
abbrev pub further_names : {A : Type 0} → (A → List ℕ) → List A → List ℕ
further_names name xs = flat_map (λ x. codes ", " ++ quoted (name x)) xs

-- the names of some values, each between backquotes, joined by commas
abbrev pub quoted_names : {A : Type 0} → (A → List ℕ) → List A → List ℕ
quoted_names name [] = []
quoted_names name (x ∷ xs) = quoted (name x) ++ further_names name xs

-- that a source is not audited
abbrev pub not_audited_text : Option Source → List ℕ
not_audited_text None = codes "the source is not the default registry"
not_audited_text (Some s) = codes "the source `" ++ (source_text s ++ codes "` is not the default registry")

-- that the collection is another
abbrev pub other_collection_text : Option Collection → List ℕ
other_collection_text None = codes "the advisory is in no collection"
other_collection_text (Some c) = codes "the advisory is in the collection `" ++ (collection_name c ++ codes "` and not in `crates`")

-- that the name is another
abbrev pub other_package_text : List ℕ → List ℕ → List ℕ
other_package_text subject name = codes "the advisory is about `" ++ (subject ++ (codes "` and not about `" ++ (name ++ codes "`")))

-- that a requirement of a list holds a version; by its place if the list has no such place
abbrev pub held_text : List ℕ → ℕ → Option (List Held) → Parts → List ℕ
held_text list place None v = list ++ (codes " requirement " ++ (decimal place ++ (codes " holds " ++ parts_text v)))
held_text list place (Some r) v = list ++ (codes " `" ++ (requirement_text r ++ (codes "` holds " ++ parts_text v)))

-- the source that an advisory is about
abbrev pub subject_source_text : Option Source → List ℕ
subject_source_text None = codes "the default registry's index in git"
subject_source_text (Some s) = quoted (source_text s)

-- that the source is another
abbrev pub other_source_text : Option Source → Option Source → List ℕ
other_source_text subject None = codes "the advisory is about " ++ subject_source_text subject
other_source_text subject (Some s) =
    codes "the advisory is about " ++ (subject_source_text subject ++ (codes " and not about `" ++ (source_text s ++ codes "`")))

-- that a severity is below the least one
abbrev pub below_threshold_text : Option Severity → Option Severity → List ℕ
below_threshold_text None least = codes "the severity is below the least one"
below_threshold_text (Some s) None = codes "the severity is below the least one"
below_threshold_text (Some s) (Some least) = codes "severity " ++ (severity_text s ++ (codes " is below " ++ severity_text least))

-- that other platforms are affected than those that are asked for; both by their names
abbrev pub other_platform_text : List ℕ → List ℕ → List ℕ → List ℕ
other_platform_text plural listed asked =
    codes "the affected " ++ (plural ++ (codes " are " ++ (listed ++ (codes ", and those asked for are " ++ asked))))

abbrev pub other_architecture_text : Settings → Option Affected → List ℕ
other_architecture_text s None = codes "no affected architecture is asked for"
other_architecture_text s (Some f) = other_platform_text (codes "architectures") (quoted_names arch_text f.arch) (quoted_names arch_text s.target_arch)

abbrev pub other_system_text : Settings → Option Affected → List ℕ
other_system_text s None = codes "no affected system is asked for"
other_system_text s (Some f) = other_platform_text (codes "systems") (quoted_names os_text f.os) (quoted_names os_text s.target_os)

-- that an advisory was withdrawn
abbrev pub withdrawn_text : Option (List ℕ) → List ℕ
withdrawn_text None = codes "withdrawn"
withdrawn_text (Some date) = codes "withdrawn on " ++ date

-- an informational kind, and what is wrong with it
abbrev pub kind_text : Option Informational → List ℕ → List ℕ
kind_text None fault = codes "the kind " ++ fault
kind_text (Some kind) fault = codes "the kind `" ++ (informational_name kind ++ (codes "` " ++ fault))

-- the words of a reason of a pair
abbrev pub reason_text : Settings → Advisory → PackageValue → Reason → List ℕ
reason_text s a p reason.WithoutSource = codes "the package has no source"
reason_text s a p reason.NotAudited = not_audited_text p.source
reason_text s a p reason.OtherCollection = other_collection_text a.metadata.collection
reason_text s a p reason.OtherPackage = other_package_text a.metadata.«package» p.name
reason_text s a p (reason.HeldByPatched place) = held_text (codes "patched") place (slice_get a.versions.patched place) p.version
reason_text s a p (reason.HeldByUnaffected place) = held_text (codes "unaffected") place (slice_get a.versions.unaffected place) p.version
reason_text s a p reason.OtherSource = other_source_text a.metadata.source p.source
reason_text s a p reason.BelowThreshold = below_threshold_text (option_and_then cvss_severity a.metadata.cvss) s.severity
reason_text s a p reason.OtherArchitecture = other_architecture_text s a.affected
reason_text s a p reason.OtherSystem = other_system_text s a.affected
reason_text s a p reason.Withdrawn = withdrawn_text a.metadata.withdrawn
reason_text s a p reason.KindNotWanted = kind_text a.metadata.informational (codes "is not asked for")
reason_text s a p reason.KindWithoutWarnings = kind_text a.metadata.informational (codes "gives no warnings")
reason_text s a p reason.Ignored = codes "the ID `" ++ (a.metadata.id.text ++ codes "` is ignored")
