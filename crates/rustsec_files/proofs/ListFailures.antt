-- How a folder cannot be listed, and which parts of a listing are kept.
use Rattle.std.proofs.Common.{◌≡◌, Bool, true, false, ℕ, List, [], ◌∷◌, inl, inr, refl}
use Rattle.std.specs.List.{filter}
use Rattle.rustsec_files.specs.ReadFailures.{IsIoFailure, open_message}
use Rattle.rustsec_files.specs.Entries.{IsListFailure}
use Rattle.rustsec_files.specs.Names.{under}
use Rattle.rustsec_values.specs.Failure.{Failure}

at-path : (p q : List ℕ) (e : Failure) → p ≡ q → IsIoFailure (open_message p) e → IsIoFailure (open_message q) e
at-path p q e is h = rw (← is) h

-- an entry of it cannot be looked at
pub entry-fails : (folder name path : List ℕ) (e : Failure) → path ≡ under folder name → IsIoFailure (open_message path) e → IsListFailure folder e
entry-fails folder name path e is h = inr (name, inl (at-path path (under folder name) e is h))

-- one part that is kept, and one that is not
pub filter_kept : {A : Type 0} (f : A → Bool) (x : A) → f x ≡ true → filter f (x ∷ []) ≡ x ∷ []
filter_kept f x h = rw h refl

pub filter_left : {A : Type 0} (f : A → Bool) (x : A) → f x ≡ false → filter f (x ∷ []) ≡ []
filter_left f x h = rw h refl
