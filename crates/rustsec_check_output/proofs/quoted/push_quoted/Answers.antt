use Rattle.std.proofs.Common.{◌≡◌, ◌∙◌, ◌++◌, ap, false, string_bytes, sym}
use Rattle.std.specs.List.{list_any}
use Rattle.rustsec_check_output.specs.CheckJson.{is_escaped}
use Rattle.rustsec_check_output.proofs.Pieces.{three_pieces}
use Rattle.rustsec_check_output.proofs.PlainTexts.{quoted_plain}
use Rattle.rustsec_check_output.proofs.quoted.push_quoted.Goals as goal

pub returns : goal.returns
returns c =
    let bytes = c.as_bytes.ensures.value in
    let plain : list_any is_escaped c.args.text.now ≡ false = ap (list_any is_escaped) (sym bytes) ∙ (sym c.has_escaped.ensures ∙ c.if-has_escaped.false) in
    three_pieces _ _ _ _ _ _ _ c.in_ok-push_str.ensures.bytes c.in_ok-push_str-2.ensures.bytes c.in_ok-push_str-3.ensures.bytes
    ∙ ap (λ t. string_bytes c.args.json.now ++ t) (sym (quoted_plain c.args.text.now plain))
