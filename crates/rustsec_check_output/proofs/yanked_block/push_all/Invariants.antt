use Rattle.std.proofs.Common.{◌≡◌, ◌++◌, flat_map, string_bytes, take}
use Rattle.rustsec_check_output.specs.CheckText.{yanked_block}
use Rattle.rustsec_check_output.proofs.yanked_block.push_all.Given as goal

-- the lines of the packages so far are appended
abbrev pub invariant-loop-package : goal.invariant-loop-package
invariant-loop-package l =
    string_bytes l.text ≡ string_bytes l.fn.text ++ flat_map (yanked_block l.colored l.packages) (take l.package-index l.yanked)
