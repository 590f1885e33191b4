use Rattle.std.proofs.Common.{◌≡◌, [], None, codes, refl}
use Rattle.std.proofs.lemmas.Result.{err_from_is_err_and}
use Rattle.serde_json.specs.View.{members_view, view}
use Rattle.rustsec_values.proofs.Refusals.{refused_by}
use Rattle.rustsec_json.specs.Fields.{defaulted, every}
use Rattle.rustsec_osv.specs.DocumentCodec.{read_document, reference_codec}
use Rattle.rustsec_osv.proofs.document.OsvAdvisory.from_value.Goals as goal

pub returns-in_err-references-clause-err : goal.returns-in_err-references-clause-err
returns-in_err-references-clause-err c =
    let p = err_from_is_err_and c.from_residual-in_err-references.result c.from_residual-in_err-references.ensures.1 in
    let ms = members_view c.in_ok-fields.fields.now.entries in
    let step : defaulted [] (every reference_codec.read) (codes "references") ms ≡ None → read_document (view c.args.tree.now) ≡ None = (λ none. rw (
      c.in_ok-fields.ensures.ok,
      c.in_ok-schema_version.ensures.ok,
      c.in_ok-id.ensures.ok,
      c.in_ok-modified.ensures.ok,
      c.in_ok-published.ensures.ok,
      c.in_ok-withdrawn.ensures.ok,
      c.in_ok-summary.ensures.ok,
      c.in_ok-details.ensures.ok,
      c.in_ok-severity.ensures.ok,
      c.in_ok-database_specific.ensures.ok,
      c.in_ok-aliases.ensures.ok,
      c.in_ok-related.ensures.ok,
      c.in_ok-affected.ensures.ok,
      none,
    ) refl) in
    rw (p.1, p.2) (refused_by _ c.in_err-references.field-0.0 step c.in_err-references.ensures.err)
