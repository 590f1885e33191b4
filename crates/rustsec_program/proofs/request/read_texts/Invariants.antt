use Rattle.std.proofs.Common.{◌≡◌, Some, map, take}
use Rattle.rustsec_values.specs.Reading.{read_all}
use Rattle.rustsec_program.proofs.request.read_texts.Given as goal

-- the texts so far are read as the values so far
abbrev pub invariant-loop-text : goal.invariant-loop-text
invariant-loop-text g l = read_all g.T.FromText.reads (map (λ t. t.now) (take l.text-index l.texts)) ≡ Some l.read
