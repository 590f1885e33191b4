-- What a contract sees of a parsed line and of a version, and the requirements and versions after one more line.
use Rattle.std.specs.Prelude.{[], ◌∷◌, ◌++◌}
use Rattle.semver.specs.Identifiers.{parts_of}
use Rattle.semver.specs.Parse.{Parts}
use Rattle.rustsec_versions.specs.Views.{comparators_of}
use Rattle.rustsec_commands.specs.input.Input.{Input}
use Rattle.rustsec_commands.specs.input.Line.{Line, blank, patched, unaffected, version}
use Rattle.rustsec_commands.specs.declared.input.version.InputVersion.{InputVersion}
use Rattle.rustsec_commands.specs.declared.input.version.InputVersion.TheVariants as kept
use Rattle.rustsec_commands.specs.declared.input.line.Line as given
use Rattle.rustsec_commands.specs.declared.input.line.Line.TheVariants as line

-- a version of the input, which is kept in one of two forms
abbrev pub version_view : InputVersion → Parts
version_view (kept.Numbers major minor patch) = (major, minor, patch, [], [])
version_view (kept.Whole v) = parts_of v.value

abbrev pub line_view : given.Line → Line
line_view line.Blank = blank
line_view (line.Patched r) = patched (comparators_of r)
line_view (line.Unaffected r) = unaffected (comparators_of r)
line_view (line.Version v) = version (parts_of v)

-- the requirements and versions after one more line
abbrev pub with_line : Input → Line → Input
with_line a blank = a
with_line a (patched r) = record a { lists = record { patched = a.lists.patched ++ r ∷ []; unaffected = a.lists.unaffected } }
with_line a (unaffected r) = record a { lists = record { patched = a.lists.patched; unaffected = a.lists.unaffected ++ r ∷ [] } }
with_line a (version v) = record a { versions = a.versions ++ v ∷ [] }
