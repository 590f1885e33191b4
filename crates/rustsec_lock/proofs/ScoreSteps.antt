-- The effect of one more product.
use Rattle.std.proofs.Common.{◌≡◌, ℕ, ◌+◌, refl, add-one}
use Rattle.rustsec_lock.specs.Score.{mul, multiplied}

pub multiplied_none : (x p : ℕ) → multiplied 0 x p ≡ p
unfolding multiplied
multiplied_none x p = refl

pub multiplied_more : (n x p : ℕ) → multiplied (n + 1) x p ≡ mul (multiplied n x p) x
unfolding multiplied
multiplied_more n x p = rw add-one refl
