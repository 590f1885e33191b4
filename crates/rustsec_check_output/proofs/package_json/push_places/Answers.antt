use Rattle.std.proofs.Common.{◌∙◌, ◌++◌, Bor, ap, map, string_bytes}
use Rattle.rustsec_lock.specs.Package.{PackageValue}
use Rattle.rustsec_check_output.specs.CheckJson.{list_json, named_json}
use Rattle.rustsec_check_output.proofs.Places.{list_seen}
use Rattle.rustsec_check_output.proofs.package_json.push_places.Goals as goal

pub returns : goal.returns
returns c =
    c.in_ok-push_list.ensures
    ∙ ap (λ t. string_bytes c.args.json.now ++ t) (list_seen (λ (p : Bor PackageValue). p.now) named_json c.as_slice.result.now
    ∙ ap (list_json named_json) (ap (map (λ p. p.now)) c.as_slice.ensures.value ∙ c.in_ok-found.ensures))
