use Rattle.std.proofs.Common.{◌≡◌, map}
use Rattle.std.specs.List.{filter}
use Rattle.std.specs.Option.{option_copied}
use Rattle.rustsec_files.specs.Paths.{is_segment, last, without_last}
use Rattle.rustsec_files.proofs.path.FilePath.of.Given as goal

-- the last three segments so far
abbrev pub invariant-loop-text : goal.invariant-loop-text
invariant-loop-text l =
    (option_copied l.file ≡ last (filter is_segment (map (λ p. p.now) l.yielded)))
    × ((option_copied l.folder ≡ last (without_last (filter is_segment (map (λ p. p.now) l.yielded))))
    × (option_copied l.parent ≡ last (without_last (without_last (filter is_segment (map (λ p. p.now) l.yielded))))))
