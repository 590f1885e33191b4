use Rattle.std.proofs.Common.{ap, not, sym}
use Rattle.std.proofs.lemmas.Str.{IsUtf8-from_is_utf8, is_utf8-from_IsUtf8}
use Rattle.std.specs.Str.{is_utf8}
use Rattle.std.proofs.lemmas.Bool.{false_from_ne_true}
use Rattle.rustsec_files.proofs.split.is_not_utf8.Goals as goal

pub returns-in-Ok : goal.returns-in-Ok
returns-in-Ok c = sym (ap not (is_utf8-from_IsUtf8 c.args.name.now c.in-Ok.ensures.cases.1))

pub returns-in-Err : goal.returns-in-Err
returns-in-Err c =
    let bytes = c.args.name.now in
    sym (ap not (false_from_ne_true (is_utf8 bytes) (λ is. c.in-Err.ensures.cases.0 (IsUtf8-from_is_utf8 bytes is))))
