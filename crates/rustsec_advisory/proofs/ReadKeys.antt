-- The keys that the readers of an advisory's tables ask for.
use Rattle.std.proofs.Common.{◌≡◌, ◌∙◌, ℕ, ℤ, List, [], ◌∷◌, Option, Some, None, true, false, codes, refl, sym, ap, subst, true≢false, ⊎_elim}
use Rattle.std.proofs.lemmas.Bool.{and_parts, false_from_ne_true, or_cases}
use Rattle.std.specs.Cmp.Lexicographic.{bytes_decides}
use Rattle.std.specs.List.{AllByRecursion, list_all}
use Rattle.std.specs.Str.{bytes_eq}
use Rattle.toml.specs.Data.{Data, Members, as_bool, as_str, as_table, get_member, integer}
use Rattle.rustsec_values.specs.Reading.{◌>>=◌, read_optional, value_or}
use Rattle.rustsec_lock.specs.Cvss.{cvss_of}
use Rattle.rustsec_lock.specs.Names.{name_of}
use Rattle.rustsec_lock.specs.Platforms.{arch_of, os_of}
use Rattle.rustsec_lock.specs.Source.{source_id_of}
use Rattle.rustsec_texts.specs.Categories.{category_of}
use Rattle.rustsec_texts.specs.Collections.{collection_of}
use Rattle.rustsec_texts.specs.Dates.{date_of}
use Rattle.rustsec_texts.specs.Ids.{id_of}
use Rattle.rustsec_texts.specs.Informational.{informational_of}
use Rattle.rustsec_texts.specs.Licenses.{default_license, license_of}
use Rattle.rustsec_texts.specs.Addresses.{address_of}
use Rattle.rustsec_advisory.specs.Requirements.{requirements_of}
use Rattle.rustsec_toml.specs.Fields.{defaulted, every, optional, required, text}
use Rattle.rustsec_advisory.specs.Advisory.{AreVersions, IsAffectedAt}
use Rattle.rustsec_advisory.specs.Affected.{AreFunctionsAt, IsAffected}
use Rattle.rustsec_advisory.specs.FieldGroups.{kinds_of, origin_of, subject_of, terms_of}
use Rattle.rustsec_advisory.specs.KnownKeys.{AreSameBut, IsRead, IsUnread, ReadsAdvisory, ReadsMetadata}
use Rattle.rustsec_advisory.specs.LintErrors.{is_one_of}
use Rattle.rustsec_advisory.specs.Metadata.{AreKinds, AreTerms, IsOrigin, IsSubject}
use Rattle.rustsec_advisory.specs.declared.advisory.Advisory.{Advisory}
use Rattle.rustsec_advisory.specs.declared.affected.Affected.{Affected}
use Rattle.rustsec_advisory.specs.declared.metadata.Kinds.{Kinds}
use Rattle.rustsec_advisory.specs.declared.metadata.Origin.{Origin}
use Rattle.rustsec_advisory.specs.declared.metadata.Subject.{Subject}
use Rattle.rustsec_advisory.specs.declared.metadata.Terms.{Terms}

-- ---- keys of a list

-- a key with the bytes of a listed one is listed
pub listed : (keys : List (List ℕ)) (k key : List ℕ) → is_one_of keys k ≡ true → bytes_eq key k ≡ true → is_one_of keys key ≡ true
listed keys k key h same = ap (is_one_of keys) ((bytes_decides key k).0 same) ∙ h

pub within : (xs ys : List (List ℕ)) → list_all (is_one_of ys) xs ≡ true → (key : List ℕ) → is_one_of xs key ≡ true → is_one_of ys key ≡ true
within [] ys all key h = absurd (true≢false (sym h))
within (x ∷ xs) ys all key h =
    let parts = and_parts (is_one_of ys x) (list_all (is_one_of ys) xs) all in
    ⊎_elim (listed ys x key parts.0) (within xs ys parts.1 key) (or_cases (bytes_eq key x) (is_one_of xs key) h)

pub not-within : (xs ys : List (List ℕ)) → list_all (is_one_of ys) xs ≡ true → (key : List ℕ) → is_one_of ys key ≡ false → is_one_of xs key ≡ false
not-within xs ys all key other = false_from_ne_true (is_one_of xs key) (λ h. true≢false (sym (within xs ys all key h) ∙ other))

each : (P : List ℕ → Type 0) (keys : List (List ℕ)) → AllByRecursion P keys → (key : List ℕ) → is_one_of keys key ≡ true → P key
each P [] all key h = absurd (true≢false (sym h))
each P (k ∷ ks) all key h =
    ⊎_elim (λ same. subst P (sym ((bytes_decides key k).0 same)) all.0) (each P ks all.1 key) (or_cases (bytes_eq key k) (is_one_of ks key) h)

-- ---- a value that is the same in two tables

module _ (keys : List (List ℕ)) (key : List ℕ) (other : is_one_of keys key ≡ false) (t u : Members) (same : AreSameBut key t u) where
  pub at : (k : List ℕ) → is_one_of keys k ≡ true → get_member k t ≡ get_member k u
  at k there = same k (λ e. true≢false (sym there ∙ ap (is_one_of keys) e ∙ other))

  required-at : {A : Type 0} (f : Data → Option A) (k : List ℕ) (x : A) → is_one_of keys k ≡ true → required f k t ≡ Some x
      → required f k u ≡ Some x
  required-at f k x there h = subst (λ (o : Option Data). (o >>= f) ≡ Some x) (at k there) h

  optional-at : {A : Type 0} (f : Data → Option A) (k : List ℕ) (x : Option A) → is_one_of keys k ≡ true → optional f k t ≡ Some x
      → optional f k u ≡ Some x
  optional-at f k x there h = subst (λ (o : Option Data). read_optional f o ≡ Some x) (at k there) h

  defaulted-at : {A : Type 0} (default : A) (f : Data → Option A) (k : List ℕ) (x : A) → is_one_of keys k ≡ true
      → defaulted default f k t ≡ Some x → defaulted default f k u ≡ Some x
  defaulted-at default f k x there h = subst (λ (o : Option Data). value_or default f o ≡ Some x) (at k there) h

-- ---- a number that a reader refuses

module _ (k : List ℕ) (t : Members) (n : ℤ) (at : get_member k t ≡ Some (integer n)) where
  not-required : {A : Type 0} (f : Data → Option A) (x : A) → required f k t ≡ Some x → f (integer n) ≡ None → ⊥
  not-required f x h none = let here = ap (λ (o : Option Data). o >>= f) at in cc (sym h ∙ here ∙ none)

  not-optional : {A : Type 0} (f : Data → Option A) (x : Option A) → optional f k t ≡ Some x → read_optional f (Some (integer n)) ≡ None → ⊥
  not-optional f x h none = let here = ap (λ (o : Option Data). read_optional f o) at in cc (sym h ∙ here ∙ none)

  not-defaulted : {A : Type 0} (default : A) (f : Data → Option A) (x : A) → defaulted default f k t ≡ Some x → f (integer n) ≡ None → ⊥
  not-defaulted default f x h none = let here = ap (λ (o : Option Data). value_or default f o) at in cc (sym h ∙ here ∙ none)

-- ---- the table `advisory`

abbrev pub metadata_keys : List (List ℕ)
metadata_keys = codes "title" ∷ codes "description" ∷ codes "id" ∷ codes "package" ∷ codes "date" ∷ codes "aliases" ∷ codes "related"
    ∷ codes "collection" ∷ codes "categories" ∷ codes "keywords" ∷ codes "cvss" ∷ codes "informational" ∷ codes "references"
    ∷ codes "source" ∷ codes "url" ∷ codes "withdrawn" ∷ codes "license" ∷ codes "expect-deleted" ∷ []

module _ (key : List ℕ) (other : is_one_of metadata_keys key ≡ false) (t u : Members) (same : AreSameBut key t u) where
  subject-at : (s : Subject) → IsSubject t s → IsSubject u s
  subject-at s h = record {
    id = required-at metadata_keys key other t u same _ (codes "id") _ refl h.id;
    name = required-at metadata_keys key other t u same _ (codes "package") _ refl h.name;
    date = required-at metadata_keys key other t u same _ (codes "date") _ refl h.date;
    aliases = defaulted-at metadata_keys key other t u same _ _ (codes "aliases") _ refl h.aliases;
    related = defaulted-at metadata_keys key other t u same _ _ (codes "related") _ refl h.related;
  }

  kinds-at : (k : Kinds) → AreKinds t k → AreKinds u k
  kinds-at k h = record {
    collection = optional-at metadata_keys key other t u same _ (codes "collection") _ refl h.collection;
    categories = defaulted-at metadata_keys key other t u same _ _ (codes "categories") _ refl h.categories;
    keywords = defaulted-at metadata_keys key other t u same _ _ (codes "keywords") _ refl h.keywords;
    cvss = optional-at metadata_keys key other t u same _ (codes "cvss") _ refl h.cvss;
    informational = optional-at metadata_keys key other t u same _ (codes "informational") _ refl h.informational;
  }

  origin-at : (o : Origin) → IsOrigin t o → IsOrigin u o
  origin-at o h = record {
    references = defaulted-at metadata_keys key other t u same _ _ (codes "references") _ refl h.references;
    source = optional-at metadata_keys key other t u same _ (codes "source") _ refl h.source;
    url = optional-at metadata_keys key other t u same _ (codes "url") _ refl h.url;
  }

  terms-at : (s : Terms) → AreTerms t s → AreTerms u s
  terms-at s h = record {
    withdrawn = optional-at metadata_keys key other t u same _ (codes "withdrawn") _ refl h.withdrawn;
    license = defaulted-at metadata_keys key other t u same _ _ (codes "license") _ refl h.license;
    expect_deleted = defaulted-at metadata_keys key other t u same _ _ (codes "expect-deleted") _ refl h.expect_deleted;
  }

pub metadata-unread : (key : List ℕ) → is_one_of metadata_keys key ≡ false → IsUnread ReadsMetadata key
metadata-unread key other t u m same h = record {
  no_title = defaulted-at metadata_keys key other t u same _ _ (codes "title") _ refl h.no_title;
  no_description = defaulted-at metadata_keys key other t u same _ _ (codes "description") _ refl h.no_description;
  title_is = h.title_is;
  description_is = h.description_is;
  subject = subject-at key other t u same (subject_of m) h.subject;
  kinds = kinds-at key other t u same (kinds_of m) h.kinds;
  origin = origin-at key other t u same (origin_of m) h.origin;
  terms = terms-at key other t u same (terms_of m) h.terms;
}

metadata-each : AllByRecursion (IsRead ReadsMetadata) metadata_keys
metadata-each = (λ t n m here h. not-defaulted (codes "title") t n here [] as_str _ h.no_title refl, (λ t n m here h. not-defaulted (codes "description") t n here [] as_str _ h.no_description refl, (λ t n m here h. not-required (codes "id") t n here (text id_of) _ h.subject.id refl, (λ t n m here h. not-required (codes "package") t n here (text name_of) _ h.subject.name refl, (λ t n m here h. not-required (codes "date") t n here (text date_of) _ h.subject.date refl, (λ t n m here h. not-defaulted (codes "aliases") t n here [] (every (text id_of)) _ h.subject.aliases refl, (λ t n m here h. not-defaulted (codes "related") t n here [] (every (text id_of)) _ h.subject.related refl, (λ t n m here h. not-optional (codes "collection") t n here (text collection_of) _ h.kinds.collection refl, (λ t n m here h. not-defaulted (codes "categories") t n here [] (every (text (λ x. Some (category_of x)))) _ h.kinds.categories refl, (λ t n m here h. not-defaulted (codes "keywords") t n here [] (every (text (λ x. Some x))) _ h.kinds.keywords refl, (λ t n m here h. not-optional (codes "cvss") t n here (text cvss_of) _ h.kinds.cvss refl, (λ t n m here h. not-optional (codes "informational") t n here (text (λ x. Some (informational_of x))) _ h.kinds.informational refl, (λ t n m here h. not-defaulted (codes "references") t n here [] (every (text address_of)) _ h.origin.references refl, (λ t n m here h. not-optional (codes "source") t n here (text source_id_of) _ h.origin.source refl, (λ t n m here h. not-optional (codes "url") t n here (text address_of) _ h.origin.url refl, (λ t n m here h. not-optional (codes "withdrawn") t n here (text date_of) _ h.terms.withdrawn refl, (λ t n m here h. not-defaulted (codes "license") t n here default_license (text (λ x. Some (license_of x))) _ h.terms.license refl, (λ t n m here h. not-defaulted (codes "expect-deleted") t n here false as_bool _ h.terms.expect_deleted refl, tt))))))))))))))))))

pub metadata-read : (key : List ℕ) → is_one_of metadata_keys key ≡ true → IsRead ReadsMetadata key
metadata-read = each (IsRead ReadsMetadata) metadata_keys metadata-each

-- ---- the table `affected`

abbrev pub affected_keys : List (List ℕ)
affected_keys = codes "arch" ∷ codes "os" ∷ codes "functions" ∷ []

pub affected-unread : (key : List ℕ) → is_one_of affected_keys key ≡ false → IsUnread IsAffected key
affected-unread key other t u a same h = record {
  arch = defaulted-at affected_keys key other t u same _ _ (codes "arch") _ refl h.arch;
  os = defaulted-at affected_keys key other t u same _ _ (codes "os") _ refl h.os;
  functions = subst (λ (o : Option Data). AreFunctionsAt o a.functions) (at affected_keys key other t u same (codes "functions") refl) h.functions;
}

not-functions : (t : Members) (n : ℤ) (a : Affected) → get_member (codes "functions") t ≡ Some (integer n) → ¬ IsAffected t a
not-functions t n a at h =
    let here = subst (λ (o : Option Data). AreFunctionsAt o a.functions) at h.functions in
    cc here.1.0

affected-each : AllByRecursion (IsRead IsAffected) affected_keys
affected-each = (
  λ t n a here h. not-defaulted (codes "arch") t n here [] (every (text arch_of)) _ h.arch refl,
  (λ t n a here h. not-defaulted (codes "os") t n here [] (every (text os_of)) _ h.os refl, (not-functions, tt)),
)

pub affected-read : (key : List ℕ) → is_one_of affected_keys key ≡ true → IsRead IsAffected key
affected-read = each (IsRead IsAffected) affected_keys affected-each

-- ---- the table `versions`

abbrev pub versions_keys : List (List ℕ)
versions_keys = codes "patched" ∷ codes "unaffected" ∷ []

pub versions-unread : (key : List ℕ) → is_one_of versions_keys key ≡ false → IsUnread AreVersions key
versions-unread key other t u ls same h = record {
  patched = required-at versions_keys key other t u same _ (codes "patched") _ refl h.patched;
  unaffected = defaulted-at versions_keys key other t u same _ _ (codes "unaffected") _ refl h.unaffected;
  accepted = h.accepted;
}

versions-each : AllByRecursion (IsRead AreVersions) versions_keys
versions-each = (
  λ t n ls here h. not-required (codes "patched") t n here requirements_of _ h.patched refl,
  (λ t n ls here h. not-defaulted (codes "unaffected") t n here [] requirements_of _ h.unaffected refl, tt),
)

pub versions-read : (key : List ℕ) → is_one_of versions_keys key ≡ true → IsRead AreVersions key
versions-read = each (IsRead AreVersions) versions_keys versions-each

-- ---- the document

abbrev pub document_keys : List (List ℕ)
document_keys = codes "advisory" ∷ codes "versions" ∷ codes "affected" ∷ []

pub document-unread : (key : List ℕ) → is_one_of document_keys key ≡ false → IsUnread ReadsAdvisory key
document-unread key other d e a same h = record {
  advisory_table = h.advisory_table;
  advisory_at = required-at document_keys key other d e same _ (codes "advisory") _ refl h.advisory_at;
  metadata = h.metadata;
  versions_table = h.versions_table;
  versions_at = required-at document_keys key other d e same _ (codes "versions") _ refl h.versions_at;
  versions = h.versions;
  affected = subst (λ (o : Option Data). IsAffectedAt o a.affected) (at document_keys key other d e same (codes "affected") refl) h.affected;
}

not-affected : (d : Members) (n : ℤ) (a : Advisory) → get_member (codes "affected") d ≡ Some (integer n) → ¬ ReadsAdvisory d a
not-affected d n a at h =
    let here = subst (λ (o : Option Data). IsAffectedAt o a.affected) at h.affected in
    cc here.2.0

document-each : AllByRecursion (IsRead ReadsAdvisory) document_keys
document-each = (
  λ d n a here h. not-required (codes "advisory") d n here as_table _ h.advisory_at refl,
  (λ d n a here h. not-required (codes "versions") d n here as_table _ h.versions_at refl, (not-affected, tt)),
)

pub document-read : (key : List ℕ) → is_one_of document_keys key ≡ true → IsRead ReadsAdvisory key
document-read = each (IsRead ReadsAdvisory) document_keys document-each
