use Rattle.std.proofs.Common.{◌≡◌, ◌∙◌, rules}
use Rattle.std.specs.Option.{is_some}
use Rattle.rustsec_database.specs.Loaded.{has_id}
use Rattle.rustsec_check.proofs.Known.{known}
use Rattle.rustsec_check.proofs.checking.is_known.Goals as goal

pub returns : goal.returns
returns c =
    let found : c.is_some.result ≡ is_some c.get.result = search rules in
    found ∙ known c.get.result (has_id c.args.id.now) c.args.database.now c.get.ensures.found
