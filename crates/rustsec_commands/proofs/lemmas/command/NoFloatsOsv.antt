-- The tree of an OSV document has no float, so that its text is known.
use Rattle.std.proofs.Common.{◌≡◌, ℕ, false, List, [], ◌∷◌, Option, None, Some, option_map, codes, refl}
use Rattle.serde_json.specs.Data.{Data, Members, no_members, put, string}
use Rattle.serde_json.specs.Written.{members_have_float}
use Rattle.rustsec_json.specs.Codecs.{Fields, IfThere, Row, field, list_codec, members_in, no_more, object_of, put_some, with_rows}
use Rattle.rustsec_json.specs.TextCodecs.{path_codec}
use Rattle.rustsec_json.specs.Trees.{list_tree, optional_tree, text_tree}
use Rattle.rustsec_lock.specs.Cvss.{base_text, cvss_text}
use Rattle.rustsec_lock.specs.Platforms.{arch_text, os_text}
use Rattle.rustsec_texts.specs.Categories.{category_name}
use Rattle.rustsec_texts.specs.Informational.{informational_name}
use Rattle.rustsec_texts.specs.Paths.{path_text}
use Rattle.rustsec_osv.specs.DocumentEvents.{Event, JsonRange, fixed, introduced, last_affected}
use Rattle.rustsec_osv.specs.DocumentKinds.{reference_kind_name}
use Rattle.rustsec_osv.specs.Documents.{Document}
use Rattle.rustsec_osv.specs.DocumentCodec.{affected_codec, affects_codec, database_codec, document_object, document_tree, ecosystem_codec, license_codec, package_codec, reference_codec, severity_tree}
use Rattle.rustsec_osv.specs.EventCodec.{event_tree, range_tree, version_tree}
use Rattle.rustsec_osv.specs.declared.affected.OsvAffected.{OsvAffected}
use Rattle.rustsec_osv.specs.declared.affected.OsvDatabaseSpecific.{OsvDatabaseSpecific}
use Rattle.rustsec_osv.specs.declared.affected.OsvEcosystemSpecific.{OsvEcosystemSpecific}
use Rattle.rustsec_osv.specs.declared.affected.OsvEcosystemSpecificAffected.{OsvEcosystemSpecificAffected}
use Rattle.rustsec_osv.specs.declared.affected.OsvPackage.{OsvPackage}
use Rattle.rustsec_osv.specs.declared.document.MainOsvDatabaseSpecific.{MainOsvDatabaseSpecific}
use Rattle.rustsec_osv.specs.declared.reference.OsvReference.{OsvReference}
use Rattle.rustsec_osv.specs.declared.severity.OsvSeverity.{OsvSeverity}
use Rattle.rustsec_osv.specs.declared.severity.OsvSeverity.TheVariants as severity
use Rattle.rustsec_report.proofs.PlainTrees.{AllPlain, Plain, list-plain, optional-plain, put-plain}

rows-plain : (rows : List Row) (ms : Members) → AllPlain rows → members_have_float ms ≡ false → members_have_float (with_rows ms rows) ≡ false
rows-plain [] ms h hm = hm
rows-plain (row ∷ rows) ms h hm = rows-plain rows (put row.0 row.1 ms) h.1 (put-plain row.0 row.1 ms h.0 hm)

object-plain : (rows : List Row) → AllPlain rows → Plain (object_of rows)
object-plain rows h = rows-plain rows no_members h refl

if-plain : {A : Type 0} (tree : A → Data) (o : Option A) → ((x : A) → Plain (tree x)) → IfThere Plain (option_map tree o)
if-plain tree None h = tt
if-plain tree (Some x) h = h x

some-plain : (key : List ℕ) (o : Option Data) (ms : Members) → IfThere Plain o → members_have_float ms ≡ false → members_have_float (put_some key o ms) ≡ false
some-plain key None ms h hm = hm
some-plain key (Some d) ms h hm = put-plain key d ms h hm

module _ {S : Type 0} where
  -- the values at the keys of an object have no float
  abbrev plain_in : {K : Type 0} → Fields S K → S → Type 0
  plain_in no_more s = Unit {0}
  plain_in (field f part fs) s = IfThere Plain (f.tree (part s)) × plain_in fs s

  fields-plain : {K : Type 0} (fs : Fields S K) (s : S) (ms : Members) → plain_in fs s → members_have_float ms ≡ false
      → members_have_float (members_in fs s ms) ≡ false
  fields-plain no_more s ms h hm = hm
  fields-plain (field f part fs) s ms h hm =
      fields-plain fs s (put_some f.key (f.tree (part s)) ms) h.1 (some-plain f.key (f.tree (part s)) ms h.0 hm)

-- ---- the parts of a document

event-plain : (e : Event) → Plain (event_tree e)
event-plain (introduced v) = object-plain ((codes "introduced", version_tree v) ∷ []) (refl, tt)
event-plain (fixed v) = object-plain ((codes "fixed", version_tree v) ∷ []) (refl, tt)
event-plain (last_affected v) = object-plain ((codes "last_affected", version_tree v) ∷ []) (refl, tt)

range-plain : (r : JsonRange) → Plain (range_tree r)
range-plain r = object-plain ((codes "type", text_tree r.kind) ∷ (codes "events", list_tree event_tree r.events) ∷ [])
    (refl, (list-plain event_tree event-plain r.events, tt))

package-plain : (p : OsvPackage) → Plain (package_codec.tree p)
package-plain p = object-plain ((codes "ecosystem", text_tree p.ecosystem) ∷ (codes "name", text_tree p.name)
    ∷ (codes "purl", optional_tree text_tree p.purl) ∷ [])
    (refl, (refl, (optional-plain text_tree (λ x. refl) p.purl, tt)))

paths-plain : (paths : List (List (List ℕ))) → Plain ((list_codec path_codec).tree paths)
paths-plain paths = list-plain (λ path. string (path_text path)) (λ x. refl) paths

affects-plain : (a : OsvEcosystemSpecificAffected) → Plain (affects_codec.tree a)
affects-plain a = object-plain ((codes "arch", list_tree (λ x. string (arch_text x)) a.arch)
    ∷ (codes "os", list_tree (λ x. string (os_text x)) a.os) ∷ (codes "functions", (list_codec path_codec).tree a.functions) ∷ [])
    (list-plain (λ x. string (arch_text x)) (λ x. refl) a.arch, (list-plain (λ x. string (os_text x)) (λ x. refl) a.os, (paths-plain a.functions, tt)))

ecosystem-plain : (e : OsvEcosystemSpecific) → Plain (ecosystem_codec.tree e)
ecosystem-plain e = object-plain ((codes "affects", optional_tree affects_codec.tree e.affects)
    ∷ (codes "affected_functions", optional_tree (list_codec path_codec).tree e.affected_functions) ∷ [])
    (optional-plain affects_codec.tree affects-plain e.affects, (optional-plain (list_codec path_codec).tree paths-plain e.affected_functions, tt))

database-plain : (d : OsvDatabaseSpecific) → Plain (database_codec.tree d)
database-plain d = object-plain ((codes "categories", list_tree (λ x. string (category_name x)) d.categories)
    ∷ (codes "cvss", optional_tree (λ x. string (cvss_text x)) d.cvss)
    ∷ (codes "informational", optional_tree (λ x. string (informational_name x)) d.informational) ∷ []) (
      list-plain (λ x. string (category_name x)) (λ x. refl) d.categories,
      (optional-plain (λ x. string (cvss_text x)) (λ x. refl) d.cvss, (optional-plain (λ x. string (informational_name x)) (λ x. refl) d.informational, tt)),
    )

affected-plain : (a : OsvAffected) → Plain (affected_codec.tree a)
affected-plain a = object-plain ((codes "package", package_codec.tree a.«package»)
    ∷ (codes "ecosystem_specific", optional_tree ecosystem_codec.tree a.ecosystem_specific)
    ∷ (codes "database_specific", database_codec.tree a.database_specific)
    ∷ (codes "ranges", optional_tree (list_tree range_tree) a.ranges)
    ∷ (codes "versions", optional_tree (list_tree text_tree) a.versions) ∷ []) (
      package-plain a.«package»,
      (
        optional-plain ecosystem_codec.tree ecosystem-plain a.ecosystem_specific,
        (
          database-plain a.database_specific,
          (
            optional-plain (list_tree range_tree) (list-plain range_tree range-plain) a.ranges,
            (optional-plain (list_tree text_tree) (list-plain text_tree (λ x. refl)) a.versions, tt),
          ),
        ),
      ),
    )

severity-plain : (s : OsvSeverity) → Plain (severity_tree s)
severity-plain (severity.CVSS_V3 base) = object-plain ((codes "type", string (codes "CVSS_V3")) ∷ (codes "score", string (base_text base)) ∷ []) (refl, (refl, tt))
severity-plain (severity.CVSS_V4 vector) = object-plain ((codes "type", string (codes "CVSS_V4")) ∷ (codes "score", string vector) ∷ []) (refl, (refl, tt))

reference-plain : (r : OsvReference) → Plain (reference_codec.tree r)
reference-plain r = object-plain ((codes "type", string (reference_kind_name r.kind)) ∷ (codes "url", string r.url) ∷ []) (refl, (refl, tt))

license-plain : (m : MainOsvDatabaseSpecific) → Plain (license_codec.tree m)
license-plain m = object-plain ((codes "license", optional_tree text_tree m.license) ∷ []) (optional-plain text_tree (λ x. refl) m.license, tt)

pub document-plain : (d : Document) → Plain (document_tree d)
document-plain d = fields-plain document_object.fields d no_members (
  if-plain version_tree d.schema_version (λ x. refl),
  (
    refl,
    (
      refl,
      (
        refl,
        (
          if-plain text_tree d.withdrawn (λ x. refl),
          (
            refl,
            (
              refl,
              (
                list-plain severity_tree severity-plain d.severity,
                (
                  license-plain d.database_specific,
                  (
                    list-plain _ (λ x. refl) d.aliases,
                    (
                      list-plain _ (λ x. refl) d.related,
                      (list-plain affected_codec.tree affected-plain d.affected, (list-plain reference_codec.tree reference-plain d.references, tt)),
                    ),
                  ),
                ),
              ),
            ),
          ),
        ),
      ),
    ),
  ),
) refl
