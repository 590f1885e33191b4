-- A version that was read of a text is valid.
use Rattle.std.proofs.Common.{◌≡◌, ◌==◌, ◌<◌, ◌^◌, ℕ, List, [], ◌∷◌, Ok, arith, length, refl, true}
use Rattle.std.proofs.lemmas.Bool.{eqb-true}
use Rattle.semver.specs.Grammar.{IsValid, is_pre_release}
use Rattle.semver.specs.Parse.{Parts, version_parts}
use Rattle.semver.proofs.Grammar.{version_parts-sound}
use Rattle.rustsec_versions.specs.order.Precedence.{IsVersion}

-- a version that the crate `semver` calls valid is a valid version
pub IsVersion-valid : (v : Parts) → IsValid v → IsVersion v
IsVersion-valid v h = record { major = h.0; minor = h.1; patch = h.2; pre = h.3 }

pub IsVersion-read : (text : List ℕ) (v : Parts) → version_parts text ≡ Ok v → IsVersion v
IsVersion-read text v h = IsVersion-valid v ((version_parts-sound text v h).1)

no_pre : (p : List ℕ) → (length p == 0) ≡ true → is_pre_release p ≡ true
no_pre [] h = refl
no_pre (b ∷ p) h = absurd (omega (arith, eqb-true (length (b ∷ p)) 0 h))

-- so is one of three numbers of 64 bits without a pre-release
pub release_valid : (v : Parts) → v.0 < 2 ^ 64 → v.1 < 2 ^ 64 → v.2 < 2 ^ 64 → (length v.3 == 0) ≡ true → IsVersion v
release_valid v a b c h = record { major = a; minor = b; patch = c; pre = no_pre v.3 h }
