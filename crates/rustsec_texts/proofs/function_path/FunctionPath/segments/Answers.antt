use Rattle.rustsec_texts.proofs.Colons.{path_of-path_text}
use Rattle.rustsec_texts.proofs.function_path.FunctionPath.segments.Goals as goal

pub returns-clause-read_again : goal.returns-clause-read_again
returns-clause-read_again c = path_of-path_text c.args.self.now (rw (← c.self.view_is) c.self.invariant)
