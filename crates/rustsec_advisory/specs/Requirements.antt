-- Lists of requirements in a document.
use Rattle.std.specs.Prelude.{ℕ, List, Option}
use Rattle.toml.specs.Data.{Data}
use Rattle.semver.specs.Parse.{Held, req_of}
use Rattle.rustsec_values.specs.Reading.{value_of}
use Rattle.rustsec_toml.specs.Fields.{every, text}

-- the comparators of a requirement's text
abbrev pub requirement_of : List ℕ → Option (List Held)
requirement_of t = value_of (req_of t)

-- the requirements of an array of texts
abbrev pub requirements_of : Data → Option (List (List Held))
requirements_of = every (text requirement_of)
