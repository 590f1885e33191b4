-- The categories of advisories.
use Rattle.std.specs.Prelude.{ℕ, List, [], ◌∷◌, codes, unwrap_or}
use Rattle.std.specs.Cmp.Lexicographic.{slice_cmp}
use Rattle.std.specs.Ordering.{nat_cmp, on, then_cmp}
use Rattle.std.specs.declared.cmp.Ordering.{Ordering}
use Rattle.rustsec_texts.specs.declared.category.Category.{Category}
use Rattle.rustsec_texts.specs.declared.category.Category.TheVariants as category
use Rattle.rustsec_values.specs.ClosedTables.{from_name}

-- the name of a category
abbrev pub category_name : Category → List ℕ
category_name category.CodeExecution = codes "code-execution"
category_name category.CryptoFailure = codes "crypto-failure"
category_name category.DenialOfService = codes "denial-of-service"
category_name category.FileDisclosure = codes "file-disclosure"
category_name category.FormatInjection = codes "format-injection"
category_name category.Malicious = codes "malicious"
category_name category.MemoryCorruption = codes "memory-corruption"
category_name category.MemoryExposure = codes "memory-exposure"
category_name category.PrivilegeEscalation = codes "privilege-escalation"
category_name category.ThreadSafety = codes "thread-safety"
category_name (category.Other text) = text

-- the categories with a name of their own, in their order
abbrev pub categories : List Category
categories = category.CodeExecution ∷ category.CryptoFailure ∷ category.DenialOfService ∷ category.FileDisclosure
    ∷ category.FormatInjection ∷ category.Malicious ∷ category.MemoryCorruption ∷ category.MemoryExposure
    ∷ category.PrivilegeEscalation ∷ category.ThreadSafety ∷ []

-- the category of a text: the one with that name, or `Other`, which keeps the text
abbrev pub category_of : List ℕ → Category
category_of text = unwrap_or (from_name category_name categories text) (category.Other text)

-- the place of a category in the order, `Other` last
abbrev pub category_place : Category → ℕ
category_place category.CodeExecution = 0
category_place category.CryptoFailure = 1
category_place category.DenialOfService = 2
category_place category.FileDisclosure = 3
category_place category.FormatInjection = 4
category_place category.Malicious = 5
category_place category.MemoryCorruption = 6
category_place category.MemoryExposure = 7
category_place category.PrivilegeEscalation = 8
category_place category.ThreadSafety = 9
category_place (category.Other text) = 10

-- the order of categories: by place, `Other` by text
abbrev pub category_cmp : Category → Category → Ordering
category_cmp = then_cmp (on category_place nat_cmp) (on category_name (slice_cmp nat_cmp))
