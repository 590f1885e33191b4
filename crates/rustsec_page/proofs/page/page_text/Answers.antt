use Rattle.std.proofs.Common.{◌≡◌, ◌∙◌, ap, arith, rules, subst}
use Rattle.std.specs.List.{filter}
use Rattle.std.proofs.lemmas.Grind.{common_steps}
use Rattle.rustsec_page.specs.Escaped.{is_mark}
use Rattle.rustsec_page.specs.Findings.{AreDrawn}
use Rattle.rustsec_page.specs.Page.{page}
use Rattle.rustsec_page.proofs.NoMarks.{marks_of_markup}
use Rattle.rustsec_page.proofs.page.page_text.Goals as goal

pub returns-clause-ok : goal.returns-clause-ok
returns-clause-ok c =
    let drawn = c.in_ok-drawn.drawn.items in
    let same : c.as_slice.result.now ≡ c.args.written.now.check.findings = first_of (search rules, grind (arith, common_steps)) in
    record {
      drawn = drawn;
      are_drawn = subst (λ fs. AreDrawn fs drawn) same c.in_ok-drawn.ensures.ok;
      is = first_of (search rules, grind (arith, common_steps));
    }

pub returns-clause-own : goal.returns-clause-own
returns-clause-own c =
    let is_page = returns-clause-ok c in
    record {
      drawn = is_page.drawn;
      are_drawn = is_page.are_drawn;
      own = ap (filter is_mark) is_page.is ∙ marks_of_markup (page c.args.written.now is_page.drawn);
    }
