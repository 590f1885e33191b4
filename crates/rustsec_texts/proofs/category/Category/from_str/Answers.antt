use Rattle.std.proofs.Common.{◌≡◌, ◌∙◌, ap, sym, unwrap_or}
use Rattle.rustsec_texts.specs.declared.category.Category.TheVariants as category
use Rattle.rustsec_texts.specs.Categories.{categories, category_name, category_of}
use Rattle.rustsec_texts.proofs.OtherNames.{from_name-none, whatever_error}
use Rattle.rustsec_texts.proofs.category.Category.from_str.Goals as goal

other : (c : goal.In_ok-name-in_default) → category.Other c.in_ok-name-in_default.name ≡ category_of c.args.text.now
other c =
    let none = from_name-none category_name categories c.args.text.now (
      c.in_default.not-text,
      (
        c.in_default.not-text-2,
        (
          c.in_default.not-text-3,
          (
            c.in_default.not-text-4,
            (
              c.in_default.not-text-5,
              (c.in_default.not-malicious, (c.in_default.not-text-6, (c.in_default.not-text-7, (c.in_default.not-text-8, (c.in_default.not-text-9, tt))))),
            ),
          ),
        ),
      ),
    ) in
    ap category.Other c.in_ok-name-in_default.ensures ∙ ap (λ o. unwrap_or o (category.Other c.args.text.now)) (sym none)

pub returns-in_ok-name-in_default-clause-ok : goal.returns-in_ok-name-in_default-clause-ok
returns-in_ok-name-in_default-clause-ok c = other c

pub returns-in_ok-name-in_default-clause-read_again :
    goal.returns-in_ok-name-in_default-clause-read_again
returns-in_ok-name-in_default-clause-read_again c = sym (other c ∙ ap category_of (sym c.in_ok-name-in_default.ensures))

pub returns-in_err-name-in_default-clause-other : goal.returns-in_err-name-in_default-clause-other
returns-in_err-name-in_default-clause-other c =
    let none = from_name-none category_name categories c.args.text.now (
      c.in_default.not-text,
      (
        c.in_default.not-text-2,
        (
          c.in_default.not-text-3,
          (
            c.in_default.not-text-4,
            (
              c.in_default.not-text-5,
              (c.in_default.not-malicious, (c.in_default.not-text-6, (c.in_default.not-text-7, (c.in_default.not-text-8, (c.in_default.not-text-9, tt))))),
            ),
          ),
        ),
      ),
    ) in
    whatever_error c.from_residual.result none
