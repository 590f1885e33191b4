use Rattle.rustsec_check_output.proofs.Pieces.{two_pieces}
use Rattle.rustsec_sarif.proofs.messages.push_version.Goals as goal

pub returns-then-is_compatible : goal.returns-then-is_compatible
returns-then-is_compatible c =
    rw c.if-is_compatible.true (two_pieces _ _ _ _ _ c.in_ok-write.ensures.bytes c.in_ok-push_command.ensures)

pub returns : goal.returns
returns c = rw c.if-is_compatible.false (two_pieces _ _ _ _ _ c.in_ok-write.ensures.bytes c.in_ok-push_incompatible.ensures)
