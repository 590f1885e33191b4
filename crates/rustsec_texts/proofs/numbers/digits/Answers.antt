use Rattle.std.proofs.Common.{◌≡◌, ◌∙◌, true, arith, subst, sym}
use Rattle.std.specs.Char.{is_ascii_digit}
use Rattle.std.specs.List.{list_all}
use Rattle.rustsec_texts.proofs.Numerals.{digits-short}
use Rattle.rustsec_texts.proofs.numbers.digits.Goals as goal

pub returns-clause-bound : goal.returns-clause-bound
returns-clause-bound c =
    digits-short c.args.text.now c.args.count (omega arith)
    (subst (λ t. list_all is_ascii_digit t ≡ true) c.as_bytes.ensures.value (sym c.are_digits.ensures ∙ c.if-not-are_digits.false))
    c.number.result c.number.ensures
