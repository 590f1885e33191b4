-- Outputs: texts and statuses. The outputs of the commands `affected` and `ranges` for an input.
use Rattle.std.specs.Prelude.{◌≡◌, ℕ, ◌+◌, true, false, List, ◌++◌, Option, Some, None, codes, flat_map, if◌then◌else◌}
use Rattle.std.specs.Fmt.{decimal}
use Rattle.semver.specs.Identifiers.{parts_text}
use Rattle.semver.specs.Parse.{Parts}
use Rattle.rustsec_values.specs.Failure.{kind_text}
use Rattle.rustsec_values.specs.declared.error.ErrorKind.{ErrorKind}
use Rattle.rustsec_versions.specs.acceptance.Lists.{Lists, accepted, affected}
use Rattle.rustsec_versions.specs.ranges.Ranges.{Range}
use Rattle.rustsec_versions.specs.ranges.AcceptedRanges.{AreMergedRanges}
use Rattle.rustsec_commands.specs.input.Input.{Input, first_malformed, input_of, says}
use Rattle.rustsec_commands.specs.declared.input.InputKind.TheVariants as input_kind

-- a text and a status
pub record Output : Type 0 where
  pub text : List ℕ
  pub status : ℕ

-- the output for a malformed line; its place is counted from 0, and printed from 1
abbrev pub malformed : ℕ → Output
malformed place = record { text = codes "line " ++ (decimal (place + 1) ++ codes ": malformed\n"); status = 2 }

-- the output for requirements that are not accepted
abbrev pub refused : Output
refused = record { text = codes "refused: bad parameter\n"; status = 2 }

-- the output for an error of this kind
abbrev pub refused_as : ErrorKind → Output
refused_as k = record { text = codes "refused: " ++ (kind_text k ++ codes "\n"); status = 2 }

-- ---- affected

-- the line for a version
abbrev pub verdict : Lists → Parts → List ℕ
verdict ls v = parts_text v ++ (if affected ls v then codes " affected\n" else codes " not affected\n")

-- a line for each version, in order
abbrev pub verdicts : Input → Output
verdicts a = if accepted a.lists then record { text = flat_map (verdict a.lists) a.versions; status = 0 } else refused

abbrev pub verdicts_or : Option ℕ → Input → Output
verdicts_or (Some place) a = malformed place
verdicts_or None a = verdicts a

-- the output of `affected` for an input
abbrev pub affected_output : List ℕ → Output
affected_output input = verdicts_or (first_malformed (says input_kind.Verdicts input)) (input_of (says input_kind.Verdicts input))

-- ---- ranges

-- a side of a range, or a dash if it is missing
abbrev pub side_text : Option Parts → List ℕ
side_text None = codes "-"
side_text (Some v) = parts_text v

-- the line for a range
abbrev pub range_line : Range → List ℕ
range_line r = side_text r.introduced ++ (codes " " ++ (side_text r.fixed ++ codes "\n"))

-- a line for each range of the lists, in order
pub record AreRangeLines (ls : Lists) (o : Output) : Type 0 where
  pub lines : accepted ls ≡ true → (rs : List Range) × (AreMergedRanges ls rs × (o ≡ record { text = flat_map range_line rs; status = 0 }))
  pub refused : accepted ls ≡ false → o ≡ refused

abbrev pub AreRangeLinesOr : Option ℕ → Lists → Output → Type 0
AreRangeLinesOr (Some place) ls o = o ≡ malformed place
AreRangeLinesOr None ls o = AreRangeLines ls o

-- the output of `ranges` for an input
abbrev pub IsRangesOutput : List ℕ → Output → Type 0
IsRangesOutput input o = AreRangeLinesOr (first_malformed (says input_kind.Ranges input)) ((input_of (says input_kind.Ranges input)).lists) o

-- the one output of `ranges` for an input
abbrev pub IsOnlyRangesOutput : List ℕ → Output → Type 0
IsOnlyRangesOutput input o = IsRangesOutput input o × ((other : Output) → IsRangesOutput input other → other ≡ o)

-- ---- usage

-- the output for words that do not name a command
abbrev pub usage : Output
usage = record { text = codes "usage: rustsec_audit COMMAND\n"; status = 2 }
