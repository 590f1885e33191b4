use Rattle.std.proofs.Common.{◌≡◌, ◌∙◌, ◌++◌, ap, sym}
use Rattle.std.specs.Str.{trim_start}
use Rattle.rustsec_toml.specs.declared.place.Place.{Place}
use Rattle.rustsec_advisory.proofs.advisory.first_line.Goals as goal

pub returns : goal.returns
returns c = λ body before opened whole.
    ap (λ (p : Place). p.line) (c.of_end.ensures.inside before (whole ∙ ap (λ t. before ++ t) (sym (c.trim_start.ensures.trim ∙ ap trim_start (c.after_opening.ensures body opened)))))
