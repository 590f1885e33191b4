use Rattle.std.proofs.Common.{◌∙◌, ap, List}
use Rattle.std.proofs.lemmas.List.Sorted.{IsPermutation-refl}
use Rattle.std.proofs.lemmas.Result.{err_from_is_err_and}
use Rattle.rustsec_osv.specs.DocumentEvents.{Event}
use Rattle.rustsec_osv.specs.Events.{events_say}
use Rattle.rustsec.proofs.Answers.{events-of-ranges, exported, not-exported}
use Rattle.rustsec.proofs.audited_advisory.AuditedAdvisory.of.Goals as goal

pub returns-clause-ok : goal.returns-clause-ok
returns-clause-ok c =
    let document = c.in_ok-document.ensures.ok in record {
      id = c.in_ok-id.ensures.ok;
      verdicts = c.in_ok-verdicts.ensures;
      ranges = record {
        are = record {
          ranges = c.in_ok-ranges.ensures.ranges;
          agree = c.in_ok-ranges.ensures.agree;
          agree_affects = c.in_ok-ranges.ensures.affects;
        };
        only = λ ranges merged. c.in_ok-ranges.ensures.order c.args.advisory.versions ranges (IsPermutation-refl _) merged;
      };
      events = record {
        of_ranges = c.in_ok-events.ensures ∙ events-of-ranges c.args.advisory _ _ _ document c.in_ok-ranges.ensures.order;
        agree = λ v valid. ap (λ (es : List Event). events_say es v) c.in_ok-events.ensures ∙ c.in_ok-document.ensures.events v valid;
      };
      has_export = exported c.args.advisory _ _ document;
    }

pub returns-in_err-document-clause-err : goal.returns-in_err-document-clause-err
returns-in_err-document-clause-err c =
    let p = err_from_is_err_and c.from_residual-in_err-document.result c.from_residual-in_err-document.ensures.1 in
    rw (p.1, p.2) (not-exported c.args.advisory c.in_err-document.field-0.0 c.in_err-document.ensures.err)
