-- The words of a policy file (cargo-audit's `audit.toml`): what is denied, and how findings are written.
use Rattle.std.specs.Prelude.{ℕ, List, [], ◌∷◌, codes, Option}
use Rattle.rustsec_lock.specs.Score.{severity_text}
use Rattle.rustsec_lock.specs.declared.severity.Severity.{Severity}
use Rattle.rustsec_lock.specs.declared.severity.Severity.TheVariants as severity
use Rattle.rustsec_policy.specs.declared.choices.Denied.{Denied}
use Rattle.rustsec_policy.specs.declared.choices.Denied.TheVariants as denied
use Rattle.rustsec_policy.specs.declared.choices.OutputFormat.{OutputFormat}
use Rattle.rustsec_policy.specs.declared.choices.OutputFormat.TheVariants as format
use Rattle.rustsec_policy.specs.declared.choices.PackageSource.{PackageSource}
use Rattle.rustsec_policy.specs.declared.choices.PackageSource.TheVariants as source
use Rattle.rustsec_values.specs.ClosedTables.{from_name}

-- what is denied: every warning, or those of one kind
abbrev pub denied_name : Denied → List ℕ
denied_name denied.Warnings = codes "warnings"
denied_name denied.Unmaintained = codes "unmaintained"
denied_name denied.Unsound = codes "unsound"
denied_name denied.Yanked = codes "yanked"

abbrev pub denied_words : List Denied
denied_words = denied.Warnings ∷ denied.Unmaintained ∷ denied.Unsound ∷ denied.Yanked ∷ []

abbrev pub denied_of : List ℕ → Option Denied
denied_of = from_name denied_name denied_words

-- how findings are written
abbrev pub format_name : OutputFormat → List ℕ
format_name format.Terminal = codes "terminal"
format_name format.Json = codes "json"
format_name format.Sarif = codes "sarif"

abbrev pub formats : List OutputFormat
formats = format.Terminal ∷ format.Json ∷ format.Sarif ∷ []

abbrev pub format_of : List ℕ → Option OutputFormat
format_of = from_name format_name formats

-- which packages are looked at
abbrev pub package_source_name : PackageSource → List ℕ
package_source_name source.All = codes "all"
package_source_name source.Public = codes "public"
package_source_name source.Local = codes "local"

abbrev pub package_sources : List PackageSource
package_sources = source.All ∷ source.Public ∷ source.Local ∷ []

abbrev pub package_source_of : List ℕ → Option PackageSource
package_source_of = from_name package_source_name package_sources

-- the severities, by their names
abbrev pub severities : List Severity
severities = severity.None ∷ severity.Low ∷ severity.Medium ∷ severity.High ∷ severity.Critical ∷ []

abbrev pub severity_named : List ℕ → Option Severity
severity_named = from_name severity_text severities
