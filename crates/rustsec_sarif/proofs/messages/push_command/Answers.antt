use Rattle.rustsec_sarif.specs.SarifWords.{command_words}
use Rattle.rustsec_check_output.proofs.Pieces.{two_pieces}
use Rattle.rustsec_sarif.proofs.messages.push_command.Goals as goal

pub returns : goal.returns
unfolding command_words
returns c = two_pieces _ _ _ _ _ c.in_ok-push_str.ensures.bytes c.in_ok-push_locked.ensures
