use Rattle.std.proofs.Common.{◌∙◌, sym}
use Rattle.std.proofs.lemmas.Result.{on_ok_weaker}
use Rattle.rustsec_osv_database.proofs.Parts.{left-out, with-document, without-document}
use Rattle.rustsec_osv_database.proofs.lines.push_part.Goals as goal

pub returns-then-is_left_out : goal.returns-then-is_left_out
returns-then-is_left_out c = left-out _ _ _ _ _ (sym c.is_left_out.ensures ∙ c.if-is_left_out.true)

pub returns-in_ok-line-in-Ok : goal.returns-in_ok-line-in-Ok
returns-in_ok-line-in-Ok c =
    let out = sym c.is_left_out.ensures ∙ c.if-is_left_out.false in
    on_ok_weaker c.push_line.result
    (λ e. with-document _ _ _ _ _ _ _ _ _ out c.in-Ok.ensures.ok (c.deref.ensures ∙ c.in_ok-line-in-Ok.ensures) e.0 e.1) c.push_line.ensures

pub returns-in-Err : goal.returns-in-Err
returns-in-Err c =
    let out = sym c.is_left_out.ensures ∙ c.if-is_left_out.false in
    on_ok_weaker c.push_missing.result (λ e. without-document _ _ _ _ _ _ _ out (c.in-Err.ensures.err e.2) e.0 e.1) c.push_missing.ensures
