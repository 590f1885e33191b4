use Rattle.std.proofs.Common.{◌≡◌, ◌++◌, true, length}
use denote.Shadow.{shadow}
use denote.Text.{Utf8}
use Rattle.std.specs.List.{list_all}
use Rattle.rustsec_texts.specs.Paths.{between_colons, is_identifier}
use Rattle.rustsec_texts.proofs.function_path.segments_of.Given as goal

abbrev pub decreases-loop-segment : goal.decreases-loop-segment
decreases-loop-segment l = length l.rest

-- what is left is text; the parts so far, each an identifier, come before those of what is left
abbrev pub invariant-loop-segment : goal.invariant-loop-segment
invariant-loop-segment l =
    shadow (Utf8 l.rest) × (between_colons l.fn.text ≡ l.segments ++ between_colons l.rest) × (list_all is_identifier l.segments ≡ true)
