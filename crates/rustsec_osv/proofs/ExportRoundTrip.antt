-- Reading the tree of an exported document gives an equal document, if the advisory is that of a text.
use Rattle.std.proofs.Common.{◌≡◌, inl, inr, ℕ, List, [], All, map, Option, Some, None, option_map, codes, option_to_list, sym, subst}
use Rattle.std.specs.Prelude.{Err, IfOk, Ok, Result, ⊤}
use Rattle.std.proofs.lemmas.List.Elements.{All-cons, All-head, All-nil}
use Rattle.std.proofs.lemmas.Option.{same_Some}
use Rattle.toml.specs.Data.{Data, Members, get_member}
use Rattle.rustsec_toml.specs.Fields.{text}
use Rattle.rustsec_lock.specs.Cvss.{cvss_of, cvss_text}
use Rattle.rustsec_lock.specs.Platforms.{arch_of, arch_text, arches, os_of, os_text, systems}
use Rattle.rustsec_lock.specs.declared.cvss.Cvss.{Cvss}
use Rattle.rustsec_lock.specs.declared.cvss.Cvss.TheVariants as cvss
use Rattle.rustsec_texts.specs.Categories.{category_name, category_of}
use Rattle.rustsec_texts.specs.Ids.{id_of}
use Rattle.rustsec_texts.specs.Informational.{informational_name, informational_of}
use Rattle.rustsec_advisory.specs.Advisory.{IsAdvisory, IsAffectedAt}
use Rattle.rustsec_advisory.specs.FieldGroups.{kinds_of}
use Rattle.rustsec_advisory.specs.Metadata.{IsMetadata}
use Rattle.rustsec_advisory.specs.declared.advisory.Advisory.{Advisory}
use Rattle.rustsec_advisory.specs.declared.affected.Affected.{Affected}
use Rattle.rustsec_advisory.specs.declared.metadata.Metadata.{Metadata}
use Rattle.rustsec_values.specs.Failure.{Failure}
use Rattle.rustsec_json.specs.Codecs.{IfThere}
use Rattle.rustsec_json.specs.TextCodecs.{id_codec, path_codec}
use Rattle.rustsec_json.proofs.TextsRoundTrip.{category-again, cvss-again, id-again, informational-again, named-again}
use Rattle.rustsec_osv.specs.DocumentCodec.{AreEventsValid, IsDocumentAgain, IsReferenceAgain, IsSeverityAgain, affected_codec, affects_codec, document_tree, read_document}
use Rattle.rustsec_osv.specs.DocumentEvents.{JsonRange}
use Rattle.rustsec_osv.specs.Documents.{Document}
use Rattle.rustsec_osv.specs.EventCodec.{IsRangeAgain}
use Rattle.rustsec_osv.specs.Export.{IsDocument, affects_of, database_of, document_with, member_of, noon, package_of, severity_of}
use Rattle.rustsec_osv.specs.declared.affected.OsvAffected.{OsvAffected}
use Rattle.rustsec_osv.specs.declared.reference.OsvReference.{OsvReference}
use Rattle.rustsec_osv.proofs.DocumentsRoundTrip.{◌&◌, document-again}
use Rattle.rustsec_osv.proofs.TablesRoundTrip.{functions-read, list-read, optional-read, text-read, through}

-- the vector
severity-of : (o : Option Cvss) → IfThere (λ (v : Cvss). cvss_of (cvss_text v) ≡ Some v) o → All IsSeverityAgain (map severity_of (option_to_list o))
severity-of None h = All-nil IsSeverityAgain
severity-of (Some (cvss.CvssV30 b)) h = All-cons IsSeverityAgain _ [] (inl h) (All-nil IsSeverityAgain)
severity-of (Some (cvss.CvssV31 b)) h = All-cons IsSeverityAgain _ [] (inr h) (All-nil IsSeverityAgain)
severity-of (Some (cvss.CvssV40 t)) h = All-cons IsSeverityAgain _ [] h (All-nil IsSeverityAgain)

-- the platforms and the functions
affects-of : (o : Option Data) (a : Option Affected) → IsAffectedAt o a → affects_codec.IsAgain (affects_of a)
affects-of None a h = subst (λ (x : Option Affected). affects_codec.IsAgain (affects_of x)) (sym h)
    (All-nil (λ x. arch_of (arch_text x) ≡ Some x) & All-nil (λ x. os_of (os_text x) ≡ Some x) & All-nil path_codec.IsAgain & tt)
affects-of (Some d) a h = subst (λ (x : Option Affected). affects_codec.IsAgain (affects_of x)) (sym h.2.1.1)
    (list-read (text arch_of) (λ x. arch_of (arch_text x) ≡ Some x) (text-read arch_of (λ x. arch_of (arch_text x) ≡ Some x) (λ t x e. named-again arch_text t arches x e)) (get_member (codes "arch") h.0) h.1.arch h.2.1.0.arch
    & list-read (text os_of) (λ x. os_of (os_text x) ≡ Some x) (text-read os_of (λ x. os_of (os_text x) ≡ Some x) (λ t x e. named-again os_text t systems x e)) (get_member (codes "os") h.0) h.1.os h.2.1.0.os
    & functions-read (get_member (codes "functions") h.0) h.1.functions h.2.1.0.functions & tt)

no-condition : {A : Type 0} (o : Option A) → IfThere (λ x. ⊤) o
no-condition None = tt
no-condition (Some x) = tt

-- a document with this metadata and this range
made : (title description modified : List ℕ) (table : Members) (m : Metadata) (o : Option Data) (a : Option Affected) (references : List OsvReference) (range : JsonRange)
    → IsMetadata table title description m → IsAffectedAt o a → IsRangeAgain range → All IsReferenceAgain references
    → IsDocumentAgain (document_with m a modified references range)
made title description modified table m o a references range h w r refs =
    let vectors : IfThere (λ (v : Cvss). cvss_of (cvss_text v) ≡ Some v) m.cvss =
    optional-read (text cvss_of) (λ (v : Cvss). cvss_of (cvss_text v) ≡ Some v) (text-read cvss_of (λ (v : Cvss). cvss_of (cvss_text v) ≡ Some v) cvss-again) (get_member (codes "cvss") table) m.cvss h.kinds.cvss in
    let ids = text-read id_of id_codec.IsAgain id-again in
    let categories = list-read (text (λ t. Some (category_of t))) (λ x. category_of (category_name x) ≡ x)
    (text-read (λ t. Some (category_of t)) (λ x. category_of (category_name x) ≡ x) (λ t x e. subst (λ y. category_of (category_name y) ≡ y) (same_Some (category_of t) x e) (category-again t)))
    (get_member (codes "categories") table) m.categories h.kinds.categories in
    let concern = optional-read (text (λ t. Some (informational_of t))) (λ x. informational_of (informational_name x) ≡ x)
    (text-read (λ t. Some (informational_of t)) (λ x. informational_of (informational_name x) ≡ x) (λ t x e. subst (λ y. informational_of (informational_name y) ≡ y) (same_Some (informational_of t) x e) (informational-again t)))
    (get_member (codes "informational") table) m.informational h.kinds.informational in
    let member : affected_codec.IsAgain (member_of (package_of m.«package») (database_of (kinds_of m)) a range) =
    (tt & tt & tt & tt) & (affects-of o a w & tt & tt) & (categories & vectors & concern & tt) & All-cons IsRangeAgain range [] r (All-nil IsRangeAgain)
    & All-nil (λ t. ⊤) & tt in
    tt & through (get_member (codes "id") table) (text id_of) id_codec.IsAgain ids m.id h.subject.id & tt & tt & no-condition (option_map noon m.withdrawn) & tt & tt
    & severity-of m.cvss vectors & (tt & tt) & list-read (text id_of) id_codec.IsAgain ids (get_member (codes "aliases") table) m.aliases h.subject.aliases
    & list-read (text id_of) id_codec.IsAgain ids (get_member (codes "related") table) m.related h.subject.related
    & All-cons affected_codec.IsAgain _ [] member (All-nil affected_codec.IsAgain) & refs & tt

-- the only member of its `affected`
abbrev exported-member : Metadata → Option Affected → JsonRange → OsvAffected
exported-member m a range = member_of (package_of m.«package») (database_of (kinds_of m)) a range

-- the range of a document whose events have valid versions
exported-range : (m : Metadata) (a : Option Affected) (modified : List ℕ) (references : List OsvReference) (range : JsonRange)
    → AreEventsValid (document_with m a modified references range) → IsRangeAgain range
exported-range m a modified references range h =
    All-head IsRangeAgain range [] (All-head (λ (x : OsvAffected). IfThere (All IsRangeAgain) x.ranges) (exported-member m a range) [] h)

-- the parts of the document are parsed from their texts, if the advisory is that of a text; so is each reference, as
-- each `Address` is
pub export-again : (t : List ℕ) (a : Advisory) (modified : List ℕ) (d : Document) → IsAdvisory t a → IsDocument a modified d → AreEventsValid d
    → All IsReferenceAgain d.references → IsDocumentAgain d
export-again t a modified d h x valid refs =
    let of = h.1.is_of in
    let same = x.is in
    subst IsDocumentAgain (sym same) (made _ _ modified of.advisory_table a.metadata (get_member (codes "affected") h.0) a.affected x.references x.range of.metadata of.affected
    (exported-range a.metadata a.affected modified x.references x.range (subst AreEventsValid same valid)) (subst (λ (y : Document). All IsReferenceAgain y.references) same refs))

-- reading its tree gives an equal document
pub exported-again : (t : List ℕ) (a : Advisory) (modified : List ℕ) (d : Document) → IsAdvisory t a → IsDocument a modified d → AreEventsValid d
    → All IsReferenceAgain d.references → read_document (document_tree d) ≡ Some d
exported-again t a modified d h x valid refs = document-again d (export-again t a modified d h x valid refs)

-- likewise for the result of the export, whose references are parsed from their texts
pub exported-read : (a : Advisory) (modified : List ℕ) (r : Result Document Failure) → IfOk r (IsDocument a modified) → IfOk r AreEventsValid
    → IfOk r (λ d. All IsReferenceAgain d.references)
    → IfOk r (λ d. (t : List ℕ) → IsAdvisory t a → read_document (document_tree d) ≡ Some d)
exported-read a modified (Ok d) x valid refs = λ t h. exported-again t a modified d h x valid refs
exported-read a modified (Err f) x valid refs = tt
