-- The licenses of advisories, by their SPDX identifiers.
use Rattle.std.specs.Prelude.{ℕ, List, [], ◌∷◌, codes, unwrap_or}
use Rattle.rustsec_texts.specs.declared.license.License.{License}
use Rattle.rustsec_texts.specs.declared.license.License.TheVariants as license
use Rattle.rustsec_values.specs.ClosedTables.{from_name}

-- the identifier of a license
abbrev pub license_name : License → List ℕ
license_name license.CcZero10 = codes "CC0-1.0"
license_name license.CcBy40 = codes "CC-BY-4.0"
license_name (license.Other text) = text

-- the licenses with an identifier of their own
abbrev pub licenses : List License
licenses = license.CcZero10 ∷ license.CcBy40 ∷ []

-- the license of a text: the one with that identifier, or `Other`, which keeps the text
abbrev pub license_of : List ℕ → License
license_of text = unwrap_or (from_name license_name licenses text) (license.Other text)

-- the license of an advisory without the key `license`
abbrev pub default_license : License
default_license = license.CcZero10
