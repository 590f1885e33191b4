-- The pairs of packages and advisories that an explanation lists.
use Rattle.std.specs.Prelude.{ℕ, Bool, List, [], ◌∷◌, Option, Some, None, map, nat_eq}
use Rattle.std.specs.Cmp.Lexicographic.{pointwise}
use Rattle.std.specs.List.{filter, find, flat_map}
use Rattle.rustsec_lock.specs.Package.{PackageValue}
use Rattle.rustsec_texts.specs.IdOrder.{id_eq}
use Rattle.rustsec_texts.specs.Ids.{IdValue}
use Rattle.rustsec_advisory.specs.declared.advisory.Advisory.{Advisory}
use Rattle.rustsec_report.specs.Report.{is_among}
use Rattle.rustsec_report.specs.declared.settings.Settings.{Settings}
use Rattle.rustsec_explain.specs.Pair.{ExplainedPair}
use Rattle.rustsec_explain.specs.Reasons.{reasons_of}

-- a pair with every reason why it is not a finding
abbrev pub explained : Settings → PackageValue → Advisory → ExplainedPair
explained s p a = record { by = a; of = p; reasons = reasons_of s a p }

-- package by package, the pairs with each advisory
abbrev pub explained_pairs : Settings → List Advisory → List PackageValue → List ExplainedPair
explained_pairs s advisories packages = flat_map (λ p. map (explained s p) advisories) packages

-- whether a package has a name
abbrev pub is_named : List ℕ → PackageValue → Bool
is_named name p = pointwise nat_eq p.name name

-- whether an advisory is about a package with a name
abbrev pub is_about : List ℕ → Advisory → Bool
is_about name a = pointwise nat_eq a.metadata.«package» name

-- the packages with a name, each with the advisories about that name
abbrev pub explained_by_name : Settings → List Advisory → List PackageValue → List ℕ → List ExplainedPair
explained_by_name s advisories packages name = explained_pairs s (filter (is_about name) advisories) (filter (is_named name) packages)

-- the packages with the name that an advisory is about
abbrev pub explained_by : Settings → List PackageValue → Advisory → List ExplainedPair
explained_by s packages a = explained_pairs s (a ∷ []) (filter (is_named a.metadata.«package») packages)

-- whether an ID is an advisory's own
abbrev pub has_id : IdValue → Advisory → Bool
has_id id a = id_eq a.metadata.id id

-- whether an ID is among an advisory's aliases
abbrev pub has_alias : IdValue → Advisory → Bool
has_alias id a = is_among a.metadata.aliases id

-- one advisory, or without it some others
abbrev pub one_or : Option Advisory → List Advisory → List Advisory
one_or (Some a) others = a ∷ []
one_or None others = others

-- the advisories that an ID means: the first whose own ID it is, or without one those that list it among their aliases
abbrev pub advisories_with : List Advisory → IdValue → List Advisory
advisories_with advisories id = one_or (find (has_id id) advisories) (filter (has_alias id) advisories)

-- advisory by advisory that an ID means, the packages with the name that it is about
abbrev pub explained_by_id : Settings → List Advisory → List PackageValue → IdValue → List ExplainedPair
explained_by_id s advisories packages id = flat_map (explained_by s packages) (advisories_with advisories id)
