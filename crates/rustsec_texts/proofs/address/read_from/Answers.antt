use Rattle.std.proofs.Common.{◌≡◌, ◌∙◌, IsAscii, None, ap, subst}
use Rattle.url.specs.Parts.{serialize}
use Rattle.url.proofs.Theorems.{parse_url_idempotent}
use Rattle.rustsec_texts.specs.Addresses.{printed}
use Rattle.rustsec_texts.proofs.address.read_from.Goals as goal

pub invariant_of-result : goal.invariant_of-result
invariant_of-result c =
    let is : c.from-2.result ≡ serialize c.args.url = c.from-2.ensures ∙ c.from.ensures in
    rw is (record {
      read_again = ap printed (parse_url_idempotent None None c.args.text.now c.args.url tt c.as_str-text.ensures.valid c.requires);
      ascii = subst IsAscii c.as_str-text.ensures.value c.as_str-text.ensures.ascii;
    })

pub returns : goal.returns
returns c =
    let is : c.from-2.result ≡ serialize c.args.url = c.from-2.ensures ∙ c.from.ensures in
    rw is (ap printed c.requires)
