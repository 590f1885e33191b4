use Rattle.std.proofs.Common.{◌≡◌, ◌++◌, flat_map, string_bytes, take}
use Rattle.rustsec_page.specs.Lists.{yanked_row}
use Rattle.rustsec_page.specs.Pieces.{text_of}
use Rattle.rustsec_page.proofs.lists.push_all_yanked.Given as goal

abbrev pub invariant-loop-yanked : goal.invariant-loop-yanked
invariant-loop-yanked l = string_bytes l.text ≡ string_bytes l.fn.text ++ text_of (flat_map (yanked_row l.packages) (take l.yanked-index l.all))
