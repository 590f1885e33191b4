-- Reading the tree of a document gives an equal document: the codec of each of its parts is lawful.
use Rattle.std.proofs.Common.{◌≡◌, inl, inr, ℕ, List, Option, Some, None, refl}
use Rattle.semver.specs.Parse.{Parts}
use Rattle.std.specs.Prelude.{⊤}
use Rattle.serde_json.specs.Find.{as_null}
use Rattle.rustsec_json.specs.Codecs.{list_codec, object_codec}
use Rattle.rustsec_json.specs.TextCodecs.{id_codec, path_codec}
use Rattle.rustsec_json.proofs.CodecsRoundTrip.{IsLawful, any-text-again, left_out-again, list-again, object-again, optional-again, text-again, word-again}
use Rattle.rustsec_texts.specs.Addresses.{address_of}
use Rattle.rustsec_lock.specs.Cvss.{cvss_of, cvss_text}
use Rattle.rustsec_lock.specs.Platforms.{arch_of, arch_text, os_of, os_text}
use Rattle.rustsec_texts.specs.Categories.{category_name, category_of}
use Rattle.rustsec_texts.specs.Ids.{IdValue, id_of}
use Rattle.rustsec_texts.specs.Informational.{informational_name, informational_of}
use Rattle.rustsec_texts.specs.Paths.{path_of, path_text}
use Rattle.rustsec_osv.specs.DocumentCodec.{IsDocumentAgain, IsSeverityAgain, affected_codec, affected_object, affects_codec, affects_object, database_codec, database_object, document_codec, document_object, document_tree, ecosystem_codec, ecosystem_object, kind_codec, license_codec, license_object, package_codec, package_object, read_document, read_severity, reference_codec, reference_object, severity_codec, severity_tree}
use Rattle.rustsec_osv.specs.Documents.{Document}
use Rattle.rustsec_osv.specs.EventCodec.{event_codec, range_codec, range_object, version_codec}
use Rattle.rustsec_osv.specs.declared.reference.OsvReferenceKind.{OsvReferenceKind}
use Rattle.rustsec_osv.specs.declared.reference.OsvReferenceKind.TheVariants as kind
use Rattle.rustsec_osv.specs.declared.severity.OsvSeverity.{OsvSeverity}
use Rattle.rustsec_osv.specs.declared.severity.OsvSeverity.TheVariants as severity
use Rattle.rustsec_osv.proofs.EventsRoundTrip.{event-again, event-there, version-again}

infixr 5 ◌&◌
-- both facts
pub ◌&◌ : {A B : Type 0} → A → B → A × B
a & b = (a, b)

-- ---- a member of `affected`

range-object-again : IsLawful (object_codec range_object)
range-object-again = object-again range_object (record {
  keys = any-text-again.again & (list-again {c = event_codec} (record { again = event-again; there = event-there })).again & tt;
  differ = refl;
  made = λ r. refl;
})

pub ranges-again : IsLawful (list_codec range_codec)
ranges-again = list-again {c = range_codec} (record { again = λ r h. range-object-again.again r (tt, (h, tt)); there = λ r. refl })

package-again : IsLawful package_codec
package-again = object-again package_object (record {
  keys = any-text-again.again & any-text-again.again & optional-again any-text-again & tt;
  differ = refl;
  made = λ p. refl;
})

paths-again : IsLawful (list_codec path_codec)
paths-again = list-again (text-again path_text path_of)

affects-again : IsLawful affects_codec
affects-again = object-again affects_object (record {
  keys = (list-again (text-again arch_text arch_of)).again & (list-again (text-again os_text os_of)).again & paths-again.again & tt;
  differ = refl;
  made = λ a. refl;
})

ecosystem-again : IsLawful ecosystem_codec
ecosystem-again = object-again ecosystem_object (record {
  keys = optional-again affects-again & optional-again paths-again & tt;
  differ = refl;
  made = λ e. refl;
})

database-again : IsLawful database_codec
database-again = object-again database_object (record {
  keys = (list-again (word-again category_name category_of)).again & optional-again (text-again cvss_text cvss_of)
      & optional-again (word-again informational_name informational_of) & tt;
  differ = refl;
  made = λ d. refl;
})

affected-again : IsLawful affected_codec
affected-again = object-again affected_object (record {
  keys = package-again.again & optional-again ecosystem-again & database-again.again & optional-again ranges-again
      & optional-again (list-again any-text-again) & tt;
  differ = refl;
  made = λ a. refl;
})

-- ---- the other parts

severity-again : (s : OsvSeverity) → IsSeverityAgain s → read_severity (severity_tree s) ≡ Some s
severity-again (severity.CVSS_V3 base) (inl h) = rw h refl
severity-again (severity.CVSS_V3 base) (inr h) = rw h refl
severity-again (severity.CVSS_V4 vector) h = rw h refl

severity-there : (s : OsvSeverity) → as_null (severity_tree s) ≡ None
severity-there (severity.CVSS_V3 base) = refl
severity-there (severity.CVSS_V4 vector) = refl

kind-again : IsLawful kind_codec
kind-again = record { again = parsed; there = λ k. refl }
  where
    parsed : (k : OsvReferenceKind) → ⊤ → kind_codec.read (kind_codec.tree k) ≡ Some k
    parsed kind.ADVISORY h = refl
    parsed kind.ARTICLE h = refl
    parsed kind.REPORT h = refl
    parsed kind.FIX h = refl
    parsed kind.PACKAGE h = refl
    parsed kind.WEB h = refl

reference-object-again : IsLawful (object_codec reference_object)
reference-object-again = object-again reference_object (record {
  keys = kind-again.again & (text-again {A = List ℕ} (λ address. address) address_of).again & tt;
  differ = refl;
  made = λ r. refl;
})

license-again : IsLawful license_codec
license-again = object-again license_object (record { keys = optional-again any-text-again & tt; differ = refl; made = λ m. refl })

severities-again : IsLawful (list_codec severity_codec)
severities-again = list-again {c = severity_codec} (record { again = severity-again; there = severity-there })

references-again : IsLawful (list_codec reference_codec)
references-again = list-again {c = reference_codec} (record { again = λ r h. reference-object-again.again r (tt, (h, tt)); there = λ r. refl })

-- ---- a document

ids-again : IsLawful (list_codec id_codec)
ids-again = list-again (text-again (λ (id : IdValue). id.text) id_of)

pub document-lawful : IsLawful document_codec
document-lawful = object-again document_object (record {
  keys = left_out-again {c = version_codec} (record { again = version-again; there = λ v. refl }) & (λ id h. h) & any-text-again.again & any-text-again.again
      & left_out-again any-text-again & any-text-again.again & any-text-again.again & severities-again.again & license-again.again & ids-again.again
      & ids-again.again & (list-again affected-again).again & references-again.again & tt;
  differ = refl;
  made = λ d. refl;
})

-- a document is read from its tree
pub document-again : (d : Document) → IsDocumentAgain d → read_document (document_tree d) ≡ Some d
document-again = document-lawful.again

-- a document with these two keys, each present or left out
abbrev pub keyed : Document → Option Parts → Option (List ℕ) → Document
keyed d v w = record d { schema_version = v; withdrawn = w }
