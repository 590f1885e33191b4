use Rattle.std.proofs.Common.{◌∙◌, ◌==◌, ℕ, ap, not, refl, rules, tests}
use Rattle.std.proofs.lemmas.Iterator.Search.{find_from_yields_List}
use Rattle.std.proofs.lemmas.Iterator.Splits.{YieldsList-from_slice_split}
use Rattle.std.specs.Str.{is_utf8}
use Rattle.rustsec_files.proofs.split.first_not_utf8.Goals as goal

pub returns : goal.returns
returns c =
    let parts = YieldsList-from_slice_split _ (λ b. b == 0) c.args.listing.now c.split.ensures.rest c.split.ensures.done c.split.ensures.closure (λ x b q k. (refl, k.called.met.said-raw.1.1.1 ∙ ap (λ (z : ℕ). z == 0) k.shows)) in
    find_from_yields_List (λ name. not (is_utf8 name)) _ _ _ c.find.ensures.ran parts (λ x b q k. search (rules, tests))
