-- The fixed parts of the JSON of a check: how objects begin, and their further keys.
use Rattle.std.specs.Prelude.{ℕ, List, codes}
use Rattle.rustsec_check_output.specs.declared.part.First.{First}
use Rattle.rustsec_check_output.specs.declared.part.First.TheVariants as first
use Rattle.rustsec_check_output.specs.declared.part.Key.{Key}
use Rattle.rustsec_check_output.specs.declared.part.Key.TheVariants as key

-- the beginning of an object, up to its first value, or of the command that updates a package
unfoldable pub first_json : First → List ℕ
first_json first.Advisory = codes "{\"advisory\":"
first_json first.AdvisoryCount = codes "{\"advisory-count\":"
first_json first.Aliases = codes "{\"aliases\":"
first_json first.BelowThreshold = codes "{\"below-threshold\":"
first_json first.Check = codes "{\"check\":"
first_json first.Command = codes "{\"command\":"
first_json first.Denied = codes "{\"denied\":"
first_json first.DependencyCount = codes "{\"dependency-count\":"
first_json first.Lockfile = codes "{\"lockfile\":"
first_json first.Name = codes "{\"name\":"
first_json first.Patched = codes "{\"patched\":"
first_json first.UpdateCommand = codes "[\"cargo\",\"update\","

-- a further key of an object, up to its value
unfoldable pub key_json : Key → List ℕ
key_json key.Compatible = codes ",\"compatible\":"
key_json key.Cvss = codes ",\"cvss\":"
key_json key.Database = codes ",\"database\":"
key_json key.Date = codes ",\"date\":"
key_json key.Denied = codes ",\"denied\":"
key_json key.Dependents = codes ",\"dependents\":"
key_json key.Findings = codes ",\"findings\":"
key_json key.Id = codes ",\"id\":"
key_json key.Ignored = codes ",\"ignored\":"
key_json key.Kind = codes ",\"kind\":"
key_json key.LastDate = codes ",\"last-date\":"
key_json key.LeastFree = codes ",\"least-free\":"
key_json key.Lockfile = codes ",\"lockfile\":"
key_json key.Notes = codes ",\"notes\":"
key_json key.Old = codes ",\"old\":"
key_json key.Package = codes ",\"package\":"
key_json key.Path = codes ",\"path\":"
key_json key.Reason = codes ",\"reason\":"
key_json key.Refused = codes ",\"refused\":"
key_json key.Score = codes ",\"score\":"
key_json key.Severity = codes ",\"severity\":"
key_json key.Source = codes ",\"source\":"
key_json key.Title = codes ",\"title\":"
key_json key.Unaffected = codes ",\"unaffected\":"
key_json key.UnknownIgnores = codes ",\"unknown-ignores\":"
key_json key.Until = codes ",\"until\":"
key_json key.UnusedIgnores = codes ",\"unused-ignores\":"
key_json key.Update = codes ",\"update\":"
key_json key.Url = codes ",\"url\":"
key_json key.Version = codes ",\"version\":"
key_json key.Versions = codes ",\"versions\":"
key_json key.Yanked = codes ",\"yanked\":"
