-- What a contract sees of the files that a check looks at.
use Rattle.std.specs.Prelude.{option_map}
use Rattle.rustsec_program.specs.Locked as locked
use Rattle.rustsec_program.specs.declared.locked.Places as declared

abbrev pub places_view : declared.Places → locked.Places
places_view p = record { lock = p.lock.now; baseline = option_map (λ t. t.now) p.baseline; index = option_map (λ t. t.now) p.index }
