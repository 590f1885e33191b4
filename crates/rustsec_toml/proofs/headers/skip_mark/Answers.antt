use Rattle.rustsec_toml.proofs.Steps.{as-it-is, unmarked}
use Rattle.rustsec_toml.proofs.headers.skip_mark.Goals as goal

pub returns-in-Some : goal.returns-in-Some
returns-in-Some c = unmarked c.args.text.now c.in-Some.rest.now c.in-Some.ensures.cases

pub returns-in-None : goal.returns-in-None
returns-in-None c = as-it-is c.args.text.now c.in-None.ensures.cases
