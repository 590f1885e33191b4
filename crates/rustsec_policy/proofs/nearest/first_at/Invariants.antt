use Rattle.std.proofs.Common.{◌≡◌, drop, map}
use Rattle.rustsec_policy.specs.Nearest.{first_at}
use Rattle.rustsec_policy.proofs.nearest.first_at.Given as goal

-- the words that are left decide
abbrev pub invariant-loop-word : goal.invariant-loop-word
invariant-loop-word l = first_at l.steps l.text (map (λ w. w.now) l.words) ≡ first_at l.steps l.text (map (λ w. w.now) (drop l.word-index l.words))
