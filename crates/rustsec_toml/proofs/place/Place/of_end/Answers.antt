use Rattle.std.proofs.Common.{◌≡◌, ◌∙◌, ◌++◌, ap, arith, drop, subst, sym}
use Rattle.std.proofs.lemmas.List.{take-append-drop}
use Rattle.rustsec_values.specs.Beginnings.{IsBeginning}
use Rattle.rustsec_toml.specs.Places.{place_past}
use Rattle.rustsec_toml.proofs.Columns.{ended, none-before, past-nil}
use Rattle.rustsec_toml.proofs.place.Place.of_end.Goals as goal

pub returns-clause-inside : goal.returns-clause-inside
returns-clause-inside c = λ before whole.
    let (b, (is, at)) = c.of_offset.ensures in
    at ∙ ap place_past (ended c.args.text.now before c.args.end.now b c.utf8.end whole (subst (λ n. IsBeginning n c.args.text.now b) c.saturating_sub.ensures is))

pub returns-clause-whole : goal.returns-clause-whole
returns-clause-whole c = λ short.
    let (b, (is, at)) = c.of_offset.ensures in
    at ∙ ap place_past (none-before c.saturating_sub.result c.args.text.now b (omega (arith, c.saturating_sub.ensures)) is) ∙ sym past-nil

pub returns-clause-within : goal.returns-clause-within
returns-clause-within c =
    let (b, ((n, low, at, is, most), shown)) = c.of_offset.ensures in
    let text = c.args.text.now in
    record { before = b; after = drop n text; whole = sym (ap (λ t. t ++ drop n text) is ∙ take-append-drop n text); shown = shown }
