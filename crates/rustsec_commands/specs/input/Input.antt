-- The requirements and the versions of the lines of an input.
use Rattle.std.specs.Prelude.{ℕ, List, Option, Some, None, filter_map, is_none, map, position}
use Rattle.semver.specs.Parse.{Held, Parts}
use Rattle.rustsec_versions.specs.acceptance.Lists.{Lists}
use Rattle.rustsec_commands.specs.input.Line.{Line, blank, line_says, lines_of, patched, said_for, unaffected, version}
use Rattle.rustsec_commands.specs.declared.input.InputKind.{InputKind}

-- each line of an input of a kind, as it is parsed
abbrev pub says : InputKind → List ℕ → List (Option Line)
says kind input = map (λ line. said_for kind (line_says line)) (lines_of input)

-- the place of the first malformed line, counted from 0
abbrev pub first_malformed : List (Option Line) → Option ℕ
first_malformed lines = position is_none lines

abbrev pub patched_in : Option Line → Option (List Held)
patched_in None = None
patched_in (Some blank) = None
patched_in (Some (patched r)) = Some r
patched_in (Some (unaffected r)) = None
patched_in (Some (version v)) = None

abbrev pub unaffected_in : Option Line → Option (List Held)
unaffected_in None = None
unaffected_in (Some blank) = None
unaffected_in (Some (patched r)) = None
unaffected_in (Some (unaffected r)) = Some r
unaffected_in (Some (version v)) = None

abbrev pub version_in : Option Line → Option Parts
version_in None = None
version_in (Some blank) = None
version_in (Some (patched r)) = None
version_in (Some (unaffected r)) = None
version_in (Some (version v)) = Some v

-- the requirements and the versions of the lines, each in order
pub record Input : Type 0 where
  pub lists : Lists
  pub versions : List Parts

abbrev pub input_of : List (Option Line) → Input
input_of lines = record {
  lists = record { patched = filter_map patched_in lines; unaffected = filter_map unaffected_in lines };
  versions = filter_map version_in lines;
}
