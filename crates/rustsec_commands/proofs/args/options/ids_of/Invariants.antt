use Rattle.std.proofs.Common.{◌≡◌, Some, map, take}
use Rattle.rustsec_values.specs.Reading.{read_all}
use Rattle.rustsec_texts.specs.Ids.{id_of}
use Rattle.rustsec_commands.proofs.args.options.ids_of.Given as goal

-- the texts so far are parsed as the IDs so far
abbrev pub invariant-loop-text : goal.invariant-loop-text
invariant-loop-text l = read_all id_of (map (λ t. t.now) (take l.text-index l.texts)) ≡ Some l.ids
