use Rattle.std.proofs.Common.{◌≡◌, ◌∙◌, None, rules, sym}
use Rattle.std.specs.List.{before_first}
use Rattle.rustsec_values.proofs.Refusals.{refusal}
use Rattle.rustsec_lock.specs.Source.{is_plus, kind_of}
use Rattle.rustsec_lock.proofs.Sources.{source_id_of-no_kind}
use Rattle.rustsec_lock.proofs.source.SourceId.from_url.Goals as goal

pub returns-in_default-from_name-clause-err : goal.returns-in_default-from_name-clause-err
returns-in_default-from_name-clause-err c =
    let cut : c.in-Some.word.now ≡ before_first is_plus c.args.text.now = search rules in
    let none : kind_of c.in-Some.word.now ≡ None = sym c.from_name.ensures.value ∙ c.in_default-from_name.is in
    refusal _ c.text_error-in_default-from_name.result (source_id_of-no_kind c.args.text.now c.in-Some.word.now cut none)
    c.text_error-in_default-from_name.ensures.kind
