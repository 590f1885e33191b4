-- The rows of the table of categories: the name of each, and which advisories it counts.
use Rattle.std.specs.Prelude.{ℕ, Bool, List, [], ◌∷◌, codes}
use Rattle.std.specs.List.{list_any}
use denote.Enum.Bare.{sameb}
use Rattle.rustsec_texts.specs.declared.category.Category.{Category}
use Rattle.rustsec_texts.specs.declared.category.Category.TheVariants as category
use Rattle.rustsec_advisory.specs.declared.advisory.Advisory.{Advisory}
use Rattle.rustsec_stats.specs.contracts.categories.CategoryRow.{the_type as row_type}
use Rattle.rustsec_stats.specs.declared.categories.CategoryRow.{CategoryRow}
use Rattle.rustsec_stats.specs.declared.categories.CategoryRow.TheVariants as of_category

abbrev pub category_row_name : CategoryRow → List ℕ
category_row_name of_category.CodeExecution = codes "code-execution"
category_row_name of_category.CryptoFailure = codes "crypto-failure"
category_row_name of_category.DenialOfService = codes "denial-of-service"
category_row_name of_category.FileDisclosure = codes "file-disclosure"
category_row_name of_category.FormatInjection = codes "format-injection"
category_row_name of_category.Malicious = codes "malicious"
category_row_name of_category.MemoryCorruption = codes "memory-corruption"
category_row_name of_category.MemoryExposure = codes "memory-exposure"
category_row_name of_category.PrivilegeEscalation = codes "privilege-escalation"
category_row_name of_category.ThreadSafety = codes "thread-safety"
category_row_name of_category.Other = codes "other"

abbrev pub category_rows : List CategoryRow
category_rows = of_category.CodeExecution ∷ of_category.CryptoFailure ∷ of_category.DenialOfService
    ∷ of_category.FileDisclosure ∷ of_category.FormatInjection ∷ of_category.Malicious ∷ of_category.MemoryCorruption
    ∷ of_category.MemoryExposure ∷ of_category.PrivilegeEscalation ∷ of_category.ThreadSafety ∷ of_category.Other ∷ []

-- the row of a category: that of its name, or the last one
abbrev pub category_row : Category → CategoryRow
category_row category.CodeExecution = of_category.CodeExecution
category_row category.CryptoFailure = of_category.CryptoFailure
category_row category.DenialOfService = of_category.DenialOfService
category_row category.FileDisclosure = of_category.FileDisclosure
category_row category.FormatInjection = of_category.FormatInjection
category_row category.Malicious = of_category.Malicious
category_row category.MemoryCorruption = of_category.MemoryCorruption
category_row category.MemoryExposure = of_category.MemoryExposure
category_row category.PrivilegeEscalation = of_category.PrivilegeEscalation
category_row category.ThreadSafety = of_category.ThreadSafety
category_row (category.Other text) = of_category.Other

abbrev pub is_in_row : CategoryRow → Category → Bool
is_in_row row c = sameb row_type row (category_row c)

-- an advisory counts for each row that one of its categories is in
abbrev pub has_category : CategoryRow → Advisory → Bool
has_category row a = list_any (is_in_row row) a.metadata.categories
