use Rattle.std.proofs.Common.{◌∙◌, ap, map}
use Rattle.std.specs.List.{list_any}
use Rattle.rustsec_program.specs.CheckOptions.{sets}
use Rattle.rustsec_program.specs.Steps.{item_view}
use Rattle.rustsec_program.proofs.OptionWords.{any_map}
use Rattle.rustsec_program.proofs.options.Options.has.Goals as goal

pub returns : goal.returns
returns c =
    c.any_sets.ensures
    ∙ (any_map (sets c.args.flag) item_view c.as_slice.result.now
    ∙ (ap (λ xs. list_any (sets c.args.flag) (map item_view xs)) c.as_slice.ensures.value ∙ ap (λ xs. list_any (sets c.args.flag) xs) c.self.view_is))
