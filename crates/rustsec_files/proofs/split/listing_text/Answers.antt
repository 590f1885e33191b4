use Rattle.std.proofs.Common.{◌≡◌, ◌∙◌, ap, rules}
use Rattle.std.specs.Str.Lossy.{utf8_valid_len}
use Rattle.rustsec_files.proofs.split.listing_text.Goals as goal

pub returns-in-Err-clause-exact : goal.returns-in-Err-clause-exact
returns-in-Err-clause-exact c =
    let listing : c.as_bytes.result.now ≡ c.args.bytes.items = search rules in
    let offset : c.valid_up_to-offset.result ≡ utf8_valid_len c.args.bytes.items = search rules in
    rw (listing, offset) at c.not_utf8_error.ensures.exact
