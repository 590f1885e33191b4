use Rattle.std.proofs.Common.{◌≡◌, ◌∙◌, ◌==◌, ◌+◌, ap, arith, false, sym}
use Rattle.std.proofs.lemmas.Bool.Decides.{nat_tests}
use Rattle.toml_parser.specs.Lexical.{line_feed}
use Rattle.rustsec_toml.proofs.Columns.{past-char, past-feed, past-inside}
use Rattle.rustsec_toml.specs.declared.place.Place.{Place}
use Rattle.rustsec_toml.proofs.place.after_byte.Goals as goal

pub returns-then-byte-eq10-clause-value : goal.returns-then-byte-eq10-clause-value
returns-then-byte-eq10-clause-value c = λ before h.
    let f : Place → Place = λ p. record { line = p.line + 1; column = 1 } in ap f h ∙ past-feed before c.args.byte c.if-byte-eq10.true

pub returns-then-goes_on-clause-value : goal.returns-then-goes_on-clause-value
returns-then-goes_on-clause-value c = λ before h. h ∙
    (let h : (c.args.byte == line_feed) ≡ false = grind (arith, nat_tests) in past-inside before c.args.byte h (sym c.goes_on.ensures ∙ c.if-goes_on.true))

pub returns-else-goes_on-clause-value : goal.returns-else-goes_on-clause-value
returns-else-goes_on-clause-value c = λ before h.
    let f : Place → Place = λ p. record { line = p.line; column = p.column + 1 } in ap f h ∙
    (let h : (c.args.byte == line_feed) ≡ false = grind (arith, nat_tests) in past-char before c.args.byte h (sym c.goes_on.ensures ∙ c.if-goes_on.false))
