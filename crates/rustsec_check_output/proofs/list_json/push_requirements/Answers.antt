use Rattle.std.proofs.Common.{◌∙◌, ◌++◌, ap, string_bytes}
use Rattle.rustsec_versions.specs.Views.{comparators_of}
use Rattle.rustsec_versions.specs.requirement.RequirementText.{requirement_text}
use Rattle.rustsec_check_output.specs.CheckJson.{quoted}
use Rattle.rustsec_check_output.proofs.Places.{list_seen}
use Rattle.rustsec_check_output.proofs.list_json.push_requirements.Goals as goal

pub returns : goal.returns
returns c =
    c.in_ok-push_list.ensures
    ∙ ap (λ t. string_bytes c.args.json.now ++ t) (list_seen comparators_of (λ r. quoted (requirement_text r)) c.args.reqs.now)
