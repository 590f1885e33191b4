-- How long the words are that count.
use Rattle.std.proofs.Common.{◌≡◌, ◌+◌, ◌^◌, ◌<◌, ◌≤◌, ◌++◌, ℕ, List, ap, arith, decimal, length, length-append}
use Rattle.std.proofs.lemmas.Fmt.{length-decimal-le}

-- a number of 64 bits has at most 20 digits
pub decimal-short : (n : ℕ) → n < 2 ^ 64 → length (decimal n) ≤ 20
decimal-short n h = length-decimal-le 20 n (omega arith) (omega arith) h

-- a text with one more piece
pub one-piece : (old piece new : List ℕ) (k : ℕ) → new ≡ old ++ piece → length piece ≤ k → length new ≤ length old + k
one-piece old piece new k e h = omega (arith, ap length e, length-append old piece, h)
