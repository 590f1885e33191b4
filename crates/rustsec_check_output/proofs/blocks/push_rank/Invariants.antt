use Rattle.std.proofs.Common.{◌≡◌, ◌++◌, flat_map, string_bytes, take}
use Rattle.std.specs.List.{filter}
use Rattle.rustsec_check_output.specs.CheckText.{block, is_of}
use Rattle.rustsec_check_output.proofs.blocks.push_rank.Given as goal

abbrev pub invariant-loop-finding : goal.invariant-loop-finding
invariant-loop-finding l =
    string_bytes l.text ≡ string_bytes l.fn.text
    ++ flat_map (block l.page.colored l.page.packages.now) (filter (is_of l.rank) (take l.finding-index l.findings))
