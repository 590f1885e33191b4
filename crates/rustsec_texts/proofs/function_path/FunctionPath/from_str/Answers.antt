use Rattle.std.proofs.Common.{◌<◌, ap, arith, length}
use Rattle.std.proofs.lemmas.Result.{err_from_is_err_and}
use Rattle.rustsec_values.proofs.Refusals.{refusal, refused_by}
use Rattle.rustsec_texts.specs.Paths.{between_colons}
use Rattle.rustsec_texts.proofs.Colons.{bad-no-path, path-joined, short-no-path}
use Rattle.rustsec_texts.proofs.function_path.FunctionPath.from_str.Goals as goal

pub returns-in_err-segments-clause-none : goal.returns-in_err-segments-clause-none
returns-in_err-segments-clause-none c =
    let p = err_from_is_err_and c.from_residual.result c.from_residual.ensures.1 in
    rw (p.1, p.2) (refused_by _ c.in_err-segments.field-0.0 (bad-no-path c.args.text.now) c.in_err-segments.ensures.err)

pub returns-clause-joined : goal.returns-clause-joined
returns-clause-joined c = path-joined c.args.text.now c.in_ok-segments.segments c.in_ok-segments.ensures.ok (omega arith) c.in_ok-segments.ensures.each

pub returns-then-len-lt2-clause-none : goal.returns-then-len-lt2-clause-none
returns-then-len-lt2-clause-none c =
    let few : length (between_colons c.args.text.now) < 2 = omega (arith, c.if-len-lt2.true, c.len.ensures, ap length c.in_ok-segments.ensures.ok) in
    refusal _ c.text_error.result (short-no-path c.args.text.now few) c.text_error.ensures.kind
