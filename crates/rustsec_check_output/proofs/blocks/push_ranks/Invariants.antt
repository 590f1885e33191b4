use Rattle.std.proofs.Common.{◌≡◌, ◌++◌, flat_map, string_bytes, take}
use Rattle.std.specs.List.{filter}
use Rattle.rustsec_check_output.specs.CheckText.{block, is_of, ranks}
use Rattle.rustsec_check_output.proofs.blocks.push_ranks.Given as goal

abbrev pub invariant-loop-rank : goal.invariant-loop-rank
invariant-loop-rank l =
    string_bytes l.text ≡ string_bytes l.fn.text
    ++ flat_map (block l.page.colored l.page.packages.now) (flat_map (λ r. filter (is_of r) l.findings) (take l.rank-index ranks))
