-- Times.
use Rattle.std.proofs.Common.{◌≡◌, ◌&&◌, ℕ, ◌<◌, Bool, List, arith, codes, false, length, refl, take, true}
use Rattle.std.proofs.lemmas.List.{take_all}
use Rattle.std.specs.Cmp.Lexicographic.{pointwise}
use Rattle.rustsec_osv_rules.specs.schema.TimeScan.{fits, is_time}
use Rattle.rustsec_osv_rules.proofs.schema.Folds.{shape_short}

-- a text that ends before its zone is not a time
pub short_time : (t : List ℕ) → length t < 19 → false ≡ is_time t
short_time t l =
    let e : pointwise fits (codes "0000-00-00T00:00:00") (take 19 t) ≡ false = rw (take_all 19 t (omega arith)) (shape_short fits (codes "0000-00-00T00:00:00") t l) in
    rw e refl

-- an answer to the second of two tests, if the first one passes
pub and_second : (a b answer : Bool) → a ≡ true → answer ≡ b → answer ≡ (a && b)
and_second a b answer e is = rw e is
