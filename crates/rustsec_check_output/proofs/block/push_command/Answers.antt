use Rattle.rustsec_check_output.specs.CheckText.{command_words}
use Rattle.rustsec_check_output.proofs.Pieces.{three_pieces}
use Rattle.rustsec_check_output.proofs.block.push_command.Goals as goal

pub returns : goal.returns
unfolding command_words
returns c = three_pieces _ _ _ _ _ _ _ c.in_ok-push_str.ensures.bytes c.in_ok-push_locked.ensures c.in_ok-push_str-2.ensures.bytes
