-- The names that the OSV schema 1.7.0 lists. It carries meaning: public contracts cite it.
use Rattle.std.specs.Prelude.{ℕ, List, [], ◌∷◌, codes}

-- the keys of a document (`properties`, with `additionalProperties: false`)
unfoldable pub document_keys : List (List ℕ)
document_keys =
    codes "schema_version" ∷ codes "id" ∷ codes "modified" ∷ codes "published" ∷ codes "withdrawn" ∷ codes "aliases"
    ∷ codes "related" ∷ codes "upstream" ∷ codes "summary" ∷ codes "details" ∷ codes "severity" ∷ codes "affected"
    ∷ codes "references" ∷ codes "credits" ∷ codes "database_specific" ∷ []

-- the beginnings of IDs (`$defs.prefix`), in four parts
unfoldable pub id_prefixes_a : List (List ℕ)
id_prefixes_a =
    codes "ASB-A-" ∷ codes "PUB-A-" ∷ codes "ALSA-" ∷ codes "ALBA-" ∷ codes "ALEA-" ∷ codes "BIT-" ∷ codes "CGA-" ∷ codes "CURL-"
    ∷ codes "CVE-" ∷ codes "DSA-" ∷ codes "DLA-" ∷ codes "ELA-" ∷ codes "DTSA-" ∷ []

unfoldable pub id_prefixes_b : List (List ℕ)
id_prefixes_b =
    codes "GHSA-" ∷ codes "GO-" ∷ codes "GSD-" ∷ codes "HSEC-" ∷ codes "KUBE-" ∷ codes "LBSEC-" ∷ codes "MAL-" ∷ codes "MINI-"
    ∷ codes "MGASA-" ∷ codes "OESA-" ∷ codes "OSV-" ∷ []

unfoldable pub id_prefixes_c : List (List ℕ)
id_prefixes_c =
    codes "PHSA-" ∷ codes "PSF-" ∷ codes "PYSEC-" ∷ codes "RHBA-" ∷ codes "RHEA-" ∷ codes "RHSA-" ∷ codes "RLSA-" ∷ codes "RXSA-"
    ∷ codes "RSEC-" ∷ codes "RUSTSEC-" ∷ codes "UBUNTU-" ∷ codes "USN-" ∷ codes "V8-" ∷ []

unfoldable pub id_prefixes_d : List (List ℕ)
id_prefixes_d =
    codes "SUSE-SU-" ∷ codes "SUSE-RU-" ∷ codes "SUSE-FU-" ∷ codes "SUSE-OU-"
    ∷ codes "openSUSE-SU-" ∷ codes "openSUSE-RU-" ∷ codes "openSUSE-FU-" ∷ codes "openSUSE-OU-" ∷ []

-- the ecosystems of packages (`$defs.ecosystemWithSuffix`), in three parts
unfoldable pub ecosystems_a : List (List ℕ)
ecosystems_a =
    codes "AlmaLinux" ∷ codes "Alpine" ∷ codes "Android" ∷ codes "Bioconductor" ∷ codes "Bitnami" ∷ codes "Chainguard"
    ∷ codes "ConanCenter" ∷ codes "CRAN" ∷ codes "crates.io" ∷ codes "Debian" ∷ codes "GHC" ∷ codes "GitHub Actions" ∷ []

unfoldable pub ecosystems_b : List (List ℕ)
ecosystems_b =
    codes "Go" ∷ codes "Hackage" ∷ codes "Hex" ∷ codes "Kubernetes" ∷ codes "Linux" ∷ codes "Mageia" ∷ codes "Maven"
    ∷ codes "MinimOS" ∷ codes "npm" ∷ codes "NuGet" ∷ codes "openEuler" ∷ codes "openSUSE" ∷ codes "OSS-Fuzz" ∷ []

unfoldable pub ecosystems_c : List (List ℕ)
ecosystems_c =
    codes "Packagist" ∷ codes "Photon OS" ∷ codes "Pub" ∷ codes "PyPI" ∷ codes "Red Hat" ∷ codes "Rocky Linux" ∷ codes "RubyGems"
    ∷ codes "SUSE" ∷ codes "SwiftURL" ∷ codes "Ubuntu" ∷ codes "Wolfi" ∷ codes "GIT" ∷ []

-- the types of ranges (`affected[].ranges[].type`)
unfoldable pub range_types : List (List ℕ)
range_types = codes "GIT" ∷ codes "SEMVER" ∷ codes "ECOSYSTEM" ∷ []

-- the keys of events (`affected[].ranges[].events[]`)
abbrev pub event_keys : List (List ℕ)
event_keys = codes "introduced" ∷ codes "fixed" ∷ codes "last_affected" ∷ codes "limit" ∷ []

-- the types of references (`references[].type`)
unfoldable pub reference_types : List (List ℕ)
reference_types =
    codes "ADVISORY" ∷ codes "ARTICLE" ∷ codes "DETECTION" ∷ codes "DISCUSSION" ∷ codes "REPORT" ∷ codes "FIX"
    ∷ codes "INTRODUCED" ∷ codes "GIT" ∷ codes "PACKAGE" ∷ codes "EVIDENCE" ∷ codes "WEB" ∷ []

-- the types of credits (`credits[].type`)
unfoldable pub credit_types : List (List ℕ)
credit_types =
    codes "FINDER" ∷ codes "REPORTER" ∷ codes "ANALYST" ∷ codes "COORDINATOR" ∷ codes "REMEDIATION_DEVELOPER"
    ∷ codes "REMEDIATION_REVIEWER" ∷ codes "REMEDIATION_VERIFIER" ∷ codes "TOOL" ∷ codes "SPONSOR" ∷ codes "OTHER" ∷ []

-- the priorities of Ubuntu (`severity[].score` of the type `Ubuntu`)
unfoldable pub priorities : List (List ℕ)
priorities = codes "negligible" ∷ codes "low" ∷ codes "medium" ∷ codes "high" ∷ codes "critical" ∷ []
