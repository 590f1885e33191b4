use Rattle.rustsec_sarif.specs.SarifWords.{incompatible_words}
use Rattle.rustsec_check_output.proofs.Pieces.{two_pieces}
use Rattle.rustsec_sarif.proofs.messages.push_incompatible.Goals as goal

pub returns : goal.returns
unfolding incompatible_words
returns c = two_pieces _ _ _ _ _ c.in_ok-push_str.ensures.bytes c.in_ok-push_locked_version.ensures
