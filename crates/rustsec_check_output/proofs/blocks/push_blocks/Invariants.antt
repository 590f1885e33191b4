use Rattle.std.proofs.Common.{◌≡◌, ◌++◌, flat_map, length, string_bytes, take}
use Rattle.rustsec_check_output.specs.CheckText.{block, groups_of, ranks}
use Rattle.rustsec_check_output.proofs.blocks.push_blocks.Given as goal

abbrev pub invariant-loop-rank : goal.invariant-loop-rank
invariant-loop-rank l =
    string_bytes l.text ≡ string_bytes l.fn.text
    ++ flat_map (block l.page.colored l.page.packages.now)
    (flat_map (groups_of l.page.findings.now (length l.page.packages.now)) (take l.rank-index ranks))
