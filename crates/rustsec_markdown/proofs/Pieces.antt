-- Texts that are appended one after another.
use Rattle.std.proofs.Common.{◌≡◌, ◌∙◌, ◌++◌, ℕ, List, ap, append_assoc}

pub two_pieces : (old a b m n : List ℕ) → m ≡ old ++ a → n ≡ m ++ b → n ≡ old ++ (a ++ b)
two_pieces old a b m n h k = k ∙ ap (λ t. t ++ b) h ∙ append_assoc old a b

pub three_pieces : (old a b c l m n : List ℕ) → l ≡ old ++ a → m ≡ l ++ b → n ≡ m ++ c → n ≡ old ++ (a ++ (b ++ c))
three_pieces old a b c l m n h k j = two_pieces old a (b ++ c) l n h (two_pieces l b c m n k j)

pub four_pieces : (old a b c d k l m n : List ℕ) → k ≡ old ++ a → l ≡ k ++ b → m ≡ l ++ c → n ≡ m ++ d → n ≡ old ++ (a ++ (b ++ (c ++ d)))
four_pieces old a b c d k l m n h i j e = two_pieces old a (b ++ (c ++ d)) k n h (three_pieces k b c d l m n i j e)
