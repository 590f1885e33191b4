-- The answer to a query for a version of a package: the OSV documents of the advisories that affect it.
use Rattle.std.specs.Prelude.{◌≡◌, ℕ, false, Contains, List, [], ◌∷◌, Some, codes}
use Rattle.std.specs.List.{filter}
use Rattle.semver.specs.Parse.{Parts}
use Rattle.rustsec_files.specs.Listed.{Pairwise}
use Rattle.rustsec_texts.specs.declared.collection.Collection.TheVariants as collection
use Rattle.rustsec_advisory.specs.declared.advisory.Advisory.{Advisory}
use Rattle.rustsec_database.specs.Query.{Asked, unset}
use Rattle.rustsec_database.specs.Selects.{selects}
use Rattle.rustsec_osv.specs.Documents.{Document}
use Rattle.rustsec_osv.specs.Export.{IsDocument, noon}
use Rattle.rustsec_osv.specs.DocumentCodec.{document_tree}
use Rattle.rustsec_json.specs.Trees.{list_tree}
use Rattle.rustsec_report.specs.Trees.{object_of}
use Rattle.rustsec_json.specs.Lines.{tree_line}
use Rattle.rustsec_osv_database.specs.Lines.{HasNoDocument}

-- the query for a version of a package of crates.io: advisories that are not withdrawn, informational ones too
abbrev pub asked : List ℕ → Parts → Asked
asked name version = record unset {
  collection = Some collection.Crates;
  package_name = Some name;
  package_version = Some version;
  withdrawn = Some false;
}

-- the advisories of a database that affect the version, in load order
abbrev pub affecting : List ℕ → Parts → List Advisory → List Advisory
affecting name version advisories = filter (selects (asked name version)) advisories

-- the document of an advisory, as of noon of its day
abbrev pub IsOwnDocument : Advisory → Document → Type 0
IsOwnDocument a d = IsDocument a (noon a.metadata.date) d

-- the documents of some advisories, in their order
abbrev pub AreDocuments : List Advisory → List Document → Type 0
AreDocuments advisories documents = Pairwise IsOwnDocument advisories documents

-- the answer with some documents: an object with their list
abbrev pub answer_line : List Document → List ℕ
answer_line documents = tree_line (object_of ((codes "vulns", list_tree document_tree documents) ∷ []))

-- the answer for a version of a package
abbrev pub IsAnswerOf : List ℕ → Parts → List Advisory → List ℕ → Type 0
IsAnswerOf name version advisories text =
    (documents : List Document) × (AreDocuments (affecting name version advisories) documents × (text ≡ answer_line documents))

-- what refuses an answer: an advisory that affects the version and has no document
abbrev pub HasNoAnswer : List ℕ → Parts → List Advisory → Type 0
HasNoAnswer name version advisories = (a : Advisory) × (Contains (affecting name version advisories) a × HasNoDocument a)
