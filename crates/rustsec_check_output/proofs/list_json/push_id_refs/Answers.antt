use Rattle.std.proofs.Common.{◌∙◌, ◌++◌, Bor, ap, string_bytes}
use Rattle.rustsec_texts.specs.Ids.{IdValue}
use Rattle.rustsec_check_output.specs.CheckJson.{quoted}
use Rattle.rustsec_check_output.proofs.Places.{list_seen}
use Rattle.rustsec_check_output.proofs.list_json.push_id_refs.Goals as goal

pub returns : goal.returns
returns c =
    c.in_ok-push_list.ensures
    ∙ ap (λ t. string_bytes c.args.json.now ++ t) (list_seen (λ (i : Bor IdValue). i.now) (λ (i : IdValue). quoted i.text) c.args.ids.now)
