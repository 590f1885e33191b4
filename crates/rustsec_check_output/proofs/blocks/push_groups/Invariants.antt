use Rattle.std.proofs.Common.{◌≡◌, ◌++◌, flat_map, string_bytes, take}
use Rattle.rustsec_check_output.specs.CheckText.{block, group_at}
use Rattle.rustsec_check_output.proofs.blocks.push_groups.Given as goal

abbrev pub invariant-loop-place : goal.invariant-loop-place
invariant-loop-place l =
    string_bytes l.text ≡ string_bytes l.fn.text
    ++ flat_map (block l.page.colored l.page.packages.now) (flat_map (group_at l.page.findings.now) (take l.place-index l.place-items))
