use Rattle.rustsec_versions.specs.Views.{comparators_of}
use Rattle.rustsec_versions.proofs.Agreement.{none-found}
use Rattle.rustsec_versions.proofs.Found.{none-if-alike, single-differs, single-found}
use Rattle.rustsec_versions.proofs.Law.{as-whole, as-written, as-zeros}
use Rattle.rustsec_versions.proofs.Read.{read-last}
use Rattle.rustsec_versions.proofs.difference.find_difference.Goals as goal

pub returns-clause-none : goal.returns-clause-none
returns-clause-none c = λ last none i is v release. none-found _ _ i c.in_ok-interval.ensures.ok (c.first_difference-found.ensures.none none) last is v release

pub returns-clause-zeros : goal.returns-clause-zeros
returns-clause-zeros c = as-zeros (comparators_of c.args.requirement.now)

pub returns-in_err-interval-clause-zeros : goal.returns-in_err-interval-clause-zeros
returns-in_err-interval-clause-zeros c = as-zeros (comparators_of c.args.requirement.now)

pub returns-clause-whole : goal.returns-clause-whole
returns-clause-whole c = as-whole (comparators_of c.args.requirement.now)

pub returns-in_err-interval-clause-whole : goal.returns-in_err-interval-clause-whole
returns-in_err-interval-clause-whole c = as-whole (comparators_of c.args.requirement.now)

pub returns-clause-whole_none : goal.returns-clause-whole_none
returns-clause-whole_none c = λ whole. none-if-alike _ _ _ c.in_ok-interval.ensures.ok c.first_difference-found.ensures.found (as-whole _ whole)

pub returns-clause-alike : goal.returns-clause-alike
returns-clause-alike c = as-written (comparators_of c.args.requirement.now)

pub returns-in_err-interval-clause-alike : goal.returns-in_err-interval-clause-alike
returns-in_err-interval-clause-alike c = as-written (comparators_of c.args.requirement.now)

pub returns-clause-alike_none : goal.returns-clause-alike_none
returns-clause-alike_none c = λ last alike. none-if-alike _ _ _ c.in_ok-interval.ensures.ok c.first_difference-found.ensures.found (as-written _ last alike)

pub returns-clause-single : goal.returns-clause-single
returns-clause-single c = single-differs (comparators_of c.args.requirement.now)

pub returns-in_err-interval-clause-single : goal.returns-in_err-interval-clause-single
returns-in_err-interval-clause-single c = single-differs (comparators_of c.args.requirement.now)

pub returns-clause-single_found : goal.returns-clause-single_found
returns-clause-single_found c =
    single-found _ _ _ c.in_ok-interval.ensures.ok c.first_difference-found.ensures.found c.first_difference-found.ensures.first c.first_difference-found.ensures.none

pub returns-clause-read : goal.returns-clause-read
returns-clause-read c = λ text is. read-last text (comparators_of c.args.requirement.now) is

pub returns-in_err-interval-clause-read : goal.returns-in_err-interval-clause-read
returns-in_err-interval-clause-read c = λ text is. read-last text (comparators_of c.args.requirement.now) is
