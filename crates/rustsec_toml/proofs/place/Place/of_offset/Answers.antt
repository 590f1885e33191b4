use Rattle.std.proofs.Common.{◌≡◌, ◌∙◌, [], ap}
use Rattle.rustsec_toml.specs.Places.{place_past}
use Rattle.rustsec_toml.proofs.Columns.{past-nil}
use Rattle.rustsec_toml.proofs.place.Place.of_offset.Goals as goal

pub returns : goal.returns
returns c = (c.beginning_of.result.now, (c.beginning_of.ensures, c.place_after.ensures.value [] past-nil ∙ ap place_past c.as_bytes.ensures.value))
