use Rattle.std.proofs.Common.{◌∙◌}
use Rattle.semver.specs.Identifiers.{parts_of}
use Rattle.rustsec_page.specs.Lines.{is_level}
use Rattle.rustsec_page.proofs.Mapped.{any_map}
use Rattle.rustsec_page.proofs.cuts.has_level.Goals as goal

pub returns : goal.returns
returns c = c.some_level.ensures ∙ any_map (λ p. is_level p (parts_of c.args.version.now)) parts_of c.args.cuts.now
