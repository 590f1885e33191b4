use Rattle.std.proofs.Common.{◌≡◌, ◌++◌, flat_map, map, string_bytes, take}
use Rattle.rustsec_page.specs.Findings.{moved_id}
use Rattle.rustsec_page.specs.Pieces.{text_of}
use Rattle.rustsec_page.proofs.mended.push_moved_ids.Given as goal

abbrev pub invariant-loop-id : goal.invariant-loop-id
invariant-loop-id l = string_bytes l.text ≡ string_bytes l.fn.text ++ text_of (flat_map moved_id (map (λ i. i.now) (take l.id-index l.ids)))
