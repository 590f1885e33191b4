-- Texts that are appended one after another.
use Rattle.std.proofs.Common.{◌≡◌, ◌∙◌, ◌++◌, ℕ, List, ap, append_assoc}

pub two_pieces : (old a b m n : List ℕ) → m ≡ old ++ a → n ≡ m ++ b → n ≡ old ++ (a ++ b)
two_pieces old a b m n h k = k ∙ ap (λ t. t ++ b) h ∙ append_assoc old a b

pub three_pieces : (old a b c l m n : List ℕ) → l ≡ old ++ a → m ≡ l ++ b → n ≡ m ++ c → n ≡ old ++ (a ++ (b ++ c))
three_pieces old a b c l m n h k j = two_pieces old a (b ++ c) l n h (two_pieces l b c m n k j)
