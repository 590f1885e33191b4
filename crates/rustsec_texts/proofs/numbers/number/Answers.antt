use Rattle.rustsec_texts.proofs.Numerals.{parsed-ok}
use Rattle.rustsec_texts.proofs.numbers.number.Goals as goal

pub returns : goal.returns
returns c = parsed-ok c.args.text.now c.parse.result c.parse.ensures.value.0 c.ok.result c.ok.ensures.value
