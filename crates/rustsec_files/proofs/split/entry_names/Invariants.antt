use Rattle.std.proofs.Common.{◌≡◌, map}
use Rattle.std.specs.List.{filter}
use Rattle.rustsec_files.specs.Entries.{is_entry_name}
use Rattle.rustsec_files.proofs.split.entry_names.Given as goal

-- the names so far are those of the parts so far
abbrev pub invariant-loop-part : goal.invariant-loop-part
invariant-loop-part l = l.names ≡ filter is_entry_name (map (λ p. p.now) l.yielded)
