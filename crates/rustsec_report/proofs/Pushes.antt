-- Two values appended, one after the other.
use Rattle.std.proofs.Common.{◌≡◌, List, [], ◌∷◌, ◌++◌, append_assoc}

pub push-push : {A : Type 0} (xs ys zs : List A) (a b : A) → ys ≡ xs ++ a ∷ [] → zs ≡ ys ++ b ∷ [] → zs ≡ xs ++ a ∷ b ∷ []
push-push xs ys zs a b h k = rw (k, h) (append_assoc xs (a ∷ []) (b ∷ []))
