use Rattle.std.proofs.Common.{◌≡◌, map}
use Rattle.std.specs.List.{filter}
use Rattle.rustsec_program.specs.Check.{is_path}
use Rattle.rustsec_program.proofs.many.paths_of.Given as goal

-- the paths so far are those of the parts so far
abbrev pub invariant-loop-path : goal.invariant-loop-path
invariant-loop-path l = map (λ p. p.now) l.paths.items ≡ filter is_path (map (λ p. p.now) l.yielded)
