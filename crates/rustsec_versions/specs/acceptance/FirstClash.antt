-- The first two that clash, of intervals in the order of their starts. It only helps proofs: public contracts do not
-- depend on it.
use Rattle.std.specs.Prelude.{◌≡◌, ◌++◌, ◌∷◌, Contains, List, true}
use Rattle.rustsec_versions.specs.acceptance.Sweep.{TaggedInterval, are_clear, clashes}
use Rattle.rustsec_versions.specs.interval.Interval.{end_le}

-- the second one is the first of the list that clashes with an earlier one, and it clashes with the one that ends last
-- of all before it
pub record IsFirstClash (cs : List TaggedInterval) (c x : TaggedInterval) : Type 0 where
  pub before : List TaggedInterval
  pub after : List TaggedInterval
  pub parts : cs ≡ before ++ x ∷ after
  pub clear : are_clear before ≡ true
  pub earlier : Contains before c
  pub last : (d : TaggedInterval) → Contains before d → end_le d.interval.end c.interval.end ≡ true
  pub clash : clashes c x ≡ true
