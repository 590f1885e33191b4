-- The fields of an advisory's metadata in four groups, which its reader and its copy use.
use Rattle.rustsec_advisory.specs.declared.metadata.Kinds.{Kinds}
use Rattle.rustsec_advisory.specs.declared.metadata.Metadata.{Metadata}
use Rattle.rustsec_advisory.specs.declared.metadata.Origin.{Origin}
use Rattle.rustsec_advisory.specs.declared.metadata.Subject.{Subject}
use Rattle.rustsec_advisory.specs.declared.metadata.Terms.{Terms}

-- the subject: names, package and day
abbrev pub subject_of : Metadata → Subject
subject_of m = record { id = m.id; name = m.«package»; date = m.date; aliases = m.aliases; related = m.related }

-- the classification of the vulnerability
abbrev pub kinds_of : Metadata → Kinds
kinds_of m = record { collection = m.collection; categories = m.categories; keywords = m.keywords; cvss = m.cvss; informational = m.informational }

-- references, source and address
abbrev pub origin_of : Metadata → Origin
origin_of m = record { references = m.references; source = m.source; url = m.url }

-- withdrawal, license and expectation of deletion
abbrev pub terms_of : Metadata → Terms
terms_of m = record { withdrawn = m.withdrawn; license = m.license; expect_deleted = m.expect_deleted }
