use Rattle.std.proofs.Common.{◌∙◌}
use Rattle.semver.specs.Identifiers.{parts_of}
use Rattle.rustsec_versions.specs.order.Precedence.{is_below}
use Rattle.rustsec_page.proofs.Mapped.{kept_map}
use Rattle.rustsec_page.proofs.cuts.place.Goals as goal

pub returns : goal.returns
returns c = c.count_below.ensures ∙ kept_map (λ p. is_below p (parts_of c.args.version.now)) parts_of c.args.cuts.now
