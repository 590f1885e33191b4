-- The words of a log of SARIF 2.1.0 (OASIS): its levels, messages, fingerprints and addresses.
use Rattle.std.specs.Prelude.{◌&&◌, ◌||◌, ◌==◌, ◌++◌, ◌/◌, ◌%◌, ℕ, Bool, true, false, if◌then◌else◌, List, [], ◌∷◌, Option, Some, None, codes, length}
use Rattle.std.specs.Char.{is_ascii, is_ascii_alphanumeric}
use Rattle.std.specs.Fmt.{digit_glyph}
use Rattle.std.specs.List.{flat_map, list_any}
use Rattle.std.specs.Str.{chars, encode_utf8_all}
use Rattle.semver.specs.Identifiers.{parts_text}
use Rattle.semver.specs.Parse.{Held, Parts}
use Rattle.rustsec_versions.specs.requirement.RequirementText.{requirement_text}
use Rattle.rustsec_lock.specs.Package.{PackageValue}
use Rattle.rustsec_advisory.specs.declared.metadata.Metadata.{Metadata}
use Rattle.rustsec_check.specs.Values.{FindingValue, YankedValue}

-- ---- levels (3.27.10)

-- what a baseline has is a note; of the rest, what fails is an error, and what does not is a warning
abbrev pub level : Bool → Bool → List ℕ
level is_denied true = codes "note"
level true false = codes "error"
level false false = codes "warning"

-- ---- messages (3.11)

-- a text, or another one if it is empty
abbrev pub or_else : List ℕ → List ℕ → List ℕ
or_else text other = if length text == 0 then other else text

-- the characters that a message has for one: braces are doubled (3.11.5)
unfoldable pub doubled_char : ℕ → List ℕ
doubled_char c = if c == 0x7B || c == 0x7D then c ∷ c ∷ [] else c ∷ []

abbrev pub doubled : List ℕ → List ℕ
doubled text = encode_utf8_all (flat_map doubled_char (chars text))

-- the name and the version of a package
abbrev pub package_words : PackageValue → List ℕ
package_words p = p.name ++ (codes " " ++ parts_text p.version)

-- the name and the version of a package, as Cargo takes them
abbrev pub locked_words : PackageValue → List ℕ
locked_words p = p.name ++ (codes "@" ++ parts_text p.version)

-- how to mend a package: the version to update to, and whether Cargo updates to it without a change of a requirement
unfoldable pub command_words : PackageValue → List ℕ
command_words p = codes ": cargo update " ++ locked_words p

unfoldable pub incompatible_words : PackageValue → List ℕ
incompatible_words p = codes ", which is incompatible with ^" ++ parts_text p.version

abbrev pub update_words : PackageValue → Option Parts → Bool → List ℕ
update_words p None is_compatible = codes "No fixed version"
update_words p (Some v) is_compatible =
    codes "Update to " ++ (parts_text v ++ (if is_compatible then command_words p else incompatible_words p))

-- the package and the advisory's title
unfoldable pub subject_words : FindingValue → List ℕ
subject_words f = package_words f.«package» ++ (codes ": " ++ (doubled f.advisory.metadata.title ++ codes ". "))

-- the message of a finding: what it is about, and how to mend it
unfoldable pub finding_words : FindingValue → List ℕ
finding_words f = subject_words f ++ update_words f.«package» f.update.least_free f.update.is_compatible

-- the message of a yanked package
unfoldable pub yanked_words : YankedValue → List ℕ
yanked_words y = package_words y.«package» ++ codes ": yanked from its registry. Choose another version"

-- ---- rules (3.49)

-- the short text of an advisory: its title, or its ID without one
abbrev pub short_words : Metadata → List ℕ
short_words m = or_else m.title m.id.text

-- its long text: its description, or the short text without one
abbrev pub long_words : Metadata → List ℕ
long_words m = or_else m.description (short_words m)

-- requirements, each after ` or `
abbrev pub further_words : List (List Held) → List ℕ
further_words reqs = flat_map (λ r. codes " or " ++ requirement_text r) reqs

-- the patched versions
abbrev pub patched_words : List (List Held) → List ℕ
patched_words [] = codes "No patched version."
patched_words (r ∷ reqs) = codes "Patched: " ++ (requirement_text r ++ further_words reqs)

-- an address on a line of its own
abbrev pub address_words : Option (List ℕ) → List ℕ
address_words None = []
address_words (Some address) = codes "\n" ++ address

-- ---- fingerprints (3.27.17)

-- what stays the same while the lockfile changes elsewhere: the rule, and the name and version of the package
abbrev pub fingerprint : List ℕ → PackageValue → List ℕ
fingerprint rule p = rule ++ (codes ":" ++ (p.name ++ (codes ":" ++ parts_text p.version)))

-- ---- addresses (RFC 3986)

-- whether a byte of ASCII is a letter, a digit or one of these
abbrev pub is_one_of : List ℕ → ℕ → Bool
is_one_of others b = is_ascii b && (is_ascii_alphanumeric b || list_any (λ c. c == b) others)

-- a byte that the path of a reference holds as it is: an unreserved character (2.3), or the slash between segments
abbrev pub is_path_byte : ℕ → Bool
is_path_byte b = is_one_of (codes "-._~/") b

-- a byte that an address holds as it is: an unreserved or a reserved character (2.2), or the percent sign of an escape
abbrev pub is_address_byte : ℕ → Bool
is_address_byte b = is_one_of (codes "-._~:/?#[]@!$&'()*+,;=%") b

-- a byte as it is, or as a percent sign and two hexadecimal digits (2.1)
unfoldable pub uri_byte : Bool → ℕ → List ℕ
uri_byte true b = b ∷ []
uri_byte false b = 0x25 ∷ digit_glyph true (b / 16) ∷ digit_glyph true (b % 16) ∷ []

-- a path as a reference
abbrev pub path_uri : List ℕ → List ℕ
path_uri path = flat_map (λ b. uri_byte (is_path_byte b) b) path

-- an address of the URL Standard, which takes more characters
abbrev pub address_uri : List ℕ → List ℕ
address_uri address = flat_map (λ b. uri_byte (is_address_byte b) b) address
