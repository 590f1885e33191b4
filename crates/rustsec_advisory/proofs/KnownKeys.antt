-- The rows of a key call it unknown exactly if no reader asks for it.
use Rattle.std.proofs.Common.{◌≡◌, ◌⊎◌, ◌++◌, ℕ, Bool, List, [], ◌∷◌, Option, Some, None, true, false, All, Contains, codes, flat_map, is_some, not, refl, sym, ap, true≢false, inl, inr}
use Rattle.std.proofs.lemmas.Bool.{cond_both, not-false, not-true, or_from}
use Rattle.std.proofs.lemmas.List.Elements.{All-append, All-cons, All-contains, All-nil}
use Rattle.std.specs.Cmp.Lexicographic.{bytes_decides}
use Rattle.std.specs.List.{list_all}
use Rattle.std.specs.Str.{bytes_eq}
use Rattle.toml.specs.Data.{Data, string}
use Rattle.toml_writer.specs.Text.{string_text}
use Rattle.rustsec_texts.specs.declared.category.Category.{Category}
use Rattle.rustsec_texts.specs.declared.informational.Informational.{Informational}
use Rattle.rustsec_texts.specs.declared.license.License.{License}
use Rattle.rustsec_advisory.proofs.ReadKeys.{affected-read, affected-unread, affected_keys, document-read, document-unread, document_keys, listed, metadata-read, metadata-unread, metadata_keys, not-within, versions-read, versions-unread, versions_keys, within}
use Rattle.rustsec_advisory.specs.Advisory.{AreVersions}
use Rattle.rustsec_advisory.specs.Affected.{IsAffected}
use Rattle.rustsec_advisory.specs.KnownKeys.{AreKeysKnown, IsDeprecated, IsKnown, IsUnknown, ReadsAdvisory, ReadsMetadata}
use Rattle.rustsec_advisory.specs.LintErrors.{LintError, advisory_rows, affected_rows, bad_content, bad_value, category_row, crate_name_of, draft_row, function_row, id_rows, informational_row, is_one_of, kind_row, license_row, members_in, of_string, paths_in, platform_keys, quiet_keys, top_rows, unknown_key, url_row, versions_rows, when, year_row}
use Rattle.rustsec_advisory.specs.declared.advisory.Advisory.{Advisory}
use Rattle.rustsec_advisory.specs.declared.linter.ErrorKind.{ErrorKind}
use Rattle.rustsec_advisory.specs.declared.linter.ErrorKind.TheVariants as kind
use Rattle.rustsec_advisory.specs.declared.metadata.Metadata.{Metadata}

-- ---- rows that don't call a key unknown

-- whether a lint error is about a key alone
abbrev is_of_key : ErrorKind → Bool
is_of_key kind.Malformed = false
is_of_key (kind.InvalidKey name) = true
is_of_key (kind.InvalidValue name value) = false

abbrev IsOfValue : LintError → Type 0
IsOfValue e = is_of_key e.kind ≡ false

abbrev IsOfSection : LintError → Type 0
IsOfSection e = is_some e.section ≡ true

not-called : (rows : List LintError) (section : Option (List ℕ)) (key : List ℕ) → All IsOfValue rows → ¬ Contains rows (unknown_key section key)
not-called rows section key all there = true≢false (All-contains IsOfValue rows (unknown_key section key) all there)

not-called-top : (rows : List LintError) (key : List ℕ) → All IsOfSection rows → ¬ Contains rows (unknown_key None key)
not-called-top rows key all there = true≢false (sym (All-contains IsOfSection rows (unknown_key None key) all there))

-- ---- a fact of all rows

module _ (P : LintError → Type 0) where
  when-all : (test : Bool) (e : LintError) → P e → All P (when test e)
  when-all test e h = cond_both test (e ∷ []) [] (All P) (λ _. All-cons P e [] h (All-nil P)) (λ _. All-nil P)

  flat_map-all : {X : Type 0} (f : X → List LintError) (xs : List X) → ((x : X) → All P (f x)) → All P (flat_map f xs)
  flat_map-all f [] h = All-nil P
  flat_map-all f (x ∷ xs) h = All-append P (f x) (flat_map f xs) (h x) (flat_map-all f xs h)

  of_string-all : (rows : List ℕ → List LintError) (d : Data) → ((text : List ℕ) → All P (rows text)) → All P (of_string rows d)
  of_string-all rows (string text) h = h text
  of_string-all rows _ h = All-nil P

  module _ (value : (section key text message : List ℕ) → P (bad_value section key text message))
      (content : (section message : List ℕ) → P (bad_content section message)) where
    draft-all : (draft : Option Bool) (m : Metadata) (printed : List ℕ) → All P (draft_row draft m printed)
    draft-all draft m printed = when-all _ _ (value _ _ _ _)

    kind-all : (m : Metadata) (printed : List ℕ) → All P (kind_row m printed)
    kind-all m printed = when-all _ _ (value _ _ _ _)

    year-all : (m : Metadata) (printed : List ℕ) → All P (year_row m printed)
    year-all m printed = when-all _ _ (value _ _ _ _)

    id-all : (draft : Option Bool) (m : Metadata) (printed : List ℕ) → All P (id_rows draft m printed)
    id-all draft m printed =
        All-append P (draft_row draft m printed) (kind_row m printed ++ year_row m printed) (draft-all draft m printed)
        (All-append P (kind_row m printed) (year_row m printed) (kind-all m printed) (year-all m printed))

    id_value-all : (draft : Option Bool) (m : Metadata) (d : Data) → All P (of_string (λ text. id_rows draft m (string_text text)) d)
    id_value-all draft m d =
        of_string-all (λ text. id_rows draft m (string_text text)) d (λ text. id-all draft m (string_text text))

    category-all : (c : Category) → All P (category_row c)
    category-all c = when-all _ _ (value _ _ _ _)

    informational-all : (i : Option Informational) → All P (informational_row i)
    informational-all None = All-nil P
    informational-all (Some i) = when-all _ _ (value _ _ _ _)

    url-all : (text : List ℕ) → All P (url_row text)
    url-all text = when-all _ _ (value _ _ _ _)

    license-all : (l : License) → All P (license_row l)
    license-all l = when-all _ _ (value _ _ _ _)

    functions-all : (a : Advisory)
        → All P (flat_map (function_row (crate_name_of a.metadata.«package»)) (paths_in a.affected))
    functions-all a = flat_map-all (function_row (crate_name_of a.metadata.«package»)) (paths_in a.affected) (λ path. when-all _ _ (value _ _ _ _))

    categories-all : (m : Metadata) → All P (flat_map category_row m.categories)
    categories-all m = flat_map-all category_row m.categories category-all

    url_value-all : (d : Data) → All P (of_string url_row d)
    url_value-all d = of_string-all url_row d url-all

    collection-all : All P (bad_content (codes "advisory") (codes "collection shouldn't be explicit; inferred by location") ∷ [])
    collection-all = All-cons P _ [] (content (codes "advisory") (codes "collection shouldn't be explicit; inferred by location")) (All-nil P)

    yanked-all : (m : Metadata)
        → All P (when (not (is_some m.withdrawn)) (bad_content (codes "metadata") (codes "Field `yanked` is deprecated, use `withdrawn` field instead")))
    yanked-all m = when-all _ _ (content (codes "metadata") (codes "Field `yanked` is deprecated, use `withdrawn` field instead"))

-- ---- the section `advisory`

-- the keys with a row or a meaning
abbrev pub linted_keys : List (List ℕ)
linted_keys = codes "id" ∷ codes "categories" ∷ codes "collection" ∷ codes "informational" ∷ codes "url" ∷ codes "yanked" ∷ codes "license" ∷ quiet_keys

module _ (draft : Option Bool) (m : Metadata) (key : List ℕ) (d : Data) where
  abbrev AdvisoryAgrees : List LintError → Type 0
  AdvisoryAgrees rows = IsUnknown ReadsMetadata (Some (codes "advisory")) key rows
      ⊎ (IsKnown ReadsMetadata (Some (codes "advisory")) key rows ⊎ IsDeprecated key rows)

  named : (k : List ℕ) → is_one_of metadata_keys k ≡ true → bytes_eq key k ≡ true → (rows : List LintError) → All IsOfValue rows → AdvisoryAgrees rows
  named k there same rows all =
      inr (inl (metadata-read key (listed metadata_keys k key there same), not-called rows (Some (codes "advisory")) key all))

  yanked : bytes_eq key (codes "yanked") ≡ true → (rows : List LintError) → All IsOfValue rows → AdvisoryAgrees rows
  yanked same rows all =
      let is = (bytes_decides key (codes "yanked")).0 same in
      inr (inr (is, (metadata-unread key (ap (is_one_of metadata_keys) is), not-called rows (Some (codes "advisory")) key all)))

  quiet : list_all (is_one_of metadata_keys) quiet_keys ≡ true → is_one_of quiet_keys key ≡ true → AdvisoryAgrees []
  quiet included there =
      inr (inl (metadata-read key (within quiet_keys metadata_keys included key there), not-called [] (Some (codes "advisory")) key (All-nil IsOfValue)))

  unknown : list_all (is_one_of linted_keys) metadata_keys ≡ true → is_one_of linted_keys key ≡ false
      → AdvisoryAgrees (unknown_key (Some (codes "advisory")) key ∷ [])
  unknown covered other = inl (metadata-unread key (not-within metadata_keys linted_keys covered key other), refl)

  advisory-agrees : list_all (is_one_of metadata_keys) quiet_keys ≡ true → list_all (is_one_of linted_keys) metadata_keys ≡ true
      → AdvisoryAgrees (advisory_rows draft m (key, d))
  advisory-agrees included covered =
      let value : (section name text message : List ℕ) → IsOfValue (bad_value section name text message) = λ _ _ _ _. refl in
      let content : (section message : List ℕ) → IsOfValue (bad_content section message) = λ _ _. refl in
      cond_both (bytes_eq key (codes "id")) _ _ AdvisoryAgrees
      (λ is. named (codes "id") refl is _ (id_value-all IsOfValue value content draft m d))
      (λ not_id. cond_both (bytes_eq key (codes "categories")) _ _ AdvisoryAgrees
      (λ is. named (codes "categories") refl is _ (categories-all IsOfValue value content m))
      (λ not_categories. cond_both (bytes_eq key (codes "collection")) _ _ AdvisoryAgrees
      (λ is. named (codes "collection") refl is _ (collection-all IsOfValue value content))
      (λ not_collection. cond_both (bytes_eq key (codes "informational")) _ _ AdvisoryAgrees
      (λ is. named (codes "informational") refl is _ (informational-all IsOfValue value content m.informational))
      (λ not_informational. cond_both (bytes_eq key (codes "url")) _ _ AdvisoryAgrees
      (λ is. named (codes "url") refl is _ (url_value-all IsOfValue value content d))
      (λ not_url. cond_both (bytes_eq key (codes "yanked")) _ _ AdvisoryAgrees
      (λ is. yanked is _ (yanked-all IsOfValue value content m))
      (λ not_yanked. cond_both (bytes_eq key (codes "license")) _ _ AdvisoryAgrees
      (λ is. named (codes "license") refl is _ (license-all IsOfValue value content m.license))
      (λ not_license. cond_both (not (is_one_of quiet_keys key)) _ _ AdvisoryAgrees
      (λ loud. unknown covered (or_from _ _ not_id (or_from _ _ not_categories (or_from _ _ not_collection (or_from _ _ not_informational
      (or_from _ _ not_url (or_from _ _ not_yanked (or_from _ _ not_license (not-true (is_one_of quiet_keys key) loud)))))))))
      (λ is. quiet included (not-false (is_one_of quiet_keys key) is)))))))))

-- ---- the sections `affected` and `versions`

module _ (a : Advisory) (key : List ℕ) where
  abbrev AffectedAgrees : List LintError → Type 0
  AffectedAgrees rows = IsUnknown IsAffected (Some (codes "affected")) key rows ⊎ IsKnown IsAffected (Some (codes "affected")) key rows

  affected-known : is_one_of affected_keys key ≡ true → (rows : List LintError) → All IsOfValue rows → AffectedAgrees rows
  affected-known there rows all = inr (affected-read key there, not-called rows (Some (codes "affected")) key all)

  affected-agrees : AffectedAgrees (affected_rows a key)
  affected-agrees =
      cond_both (bytes_eq key (codes "functions")) _ _ AffectedAgrees
      (λ is. affected-known (listed affected_keys (codes "functions") key refl is) _
      (functions-all IsOfValue (λ _ _ _ _. refl) (λ _ _. refl) a))
      (λ not_functions. cond_both (not (is_one_of platform_keys key)) _ _ AffectedAgrees
      (λ other. inl (
        affected-unread key
            (not-within affected_keys (codes "functions" ∷ platform_keys) refl key (or_from _ _ not_functions (not-true (is_one_of platform_keys key) other))),
        refl,
      ))
      (λ is. affected-known (within platform_keys affected_keys refl key (not-false (is_one_of platform_keys key) is)) [] (All-nil IsOfValue)))

  abbrev VersionsAgree : List LintError → Type 0
  VersionsAgree rows = IsUnknown AreVersions (Some (codes "versions")) key rows ⊎ IsKnown AreVersions (Some (codes "versions")) key rows

  versions-agree : VersionsAgree (versions_rows key)
  versions-agree = cond_both (not (is_one_of versions_keys key)) _ _ VersionsAgree
      (λ other. inl (versions-unread key (not-true (is_one_of versions_keys key) other), refl))
      (λ is. inr (versions-read key (not-false (is_one_of versions_keys key) is), not-called [] (Some (codes "versions")) key (All-nil IsOfValue)))

-- ---- the top of the document

module _ (draft : Option Bool) (a : Advisory) where
  value-section : (section name text message : List ℕ) → IsOfSection (bad_value section name text message)
  value-section section name text message = refl

  content-section : (section message : List ℕ) → IsOfSection (bad_content section message)
  content-section section message = refl

  advisory-section : (entry : List ℕ × Data) → All IsOfSection (advisory_rows draft a.metadata entry)
  advisory-section entry =
      cond_both (bytes_eq entry.0 (codes "id")) _ _ (All IsOfSection)
      (λ _. id_value-all IsOfSection value-section content-section draft a.metadata entry.1)
      (λ _. cond_both (bytes_eq entry.0 (codes "categories")) _ _ (All IsOfSection)
      (λ _. categories-all IsOfSection value-section content-section a.metadata)
      (λ _. cond_both (bytes_eq entry.0 (codes "collection")) _ _ (All IsOfSection)
      (λ _. collection-all IsOfSection value-section content-section)
      (λ _. cond_both (bytes_eq entry.0 (codes "informational")) _ _ (All IsOfSection)
      (λ _. informational-all IsOfSection value-section content-section a.metadata.informational)
      (λ _. cond_both (bytes_eq entry.0 (codes "url")) _ _ (All IsOfSection)
      (λ _. url_value-all IsOfSection value-section content-section entry.1)
      (λ _. cond_both (bytes_eq entry.0 (codes "yanked")) _ _ (All IsOfSection)
      (λ _. yanked-all IsOfSection value-section content-section a.metadata)
      (λ _. cond_both (bytes_eq entry.0 (codes "license")) _ _ (All IsOfSection)
      (λ _. license-all IsOfSection value-section content-section a.metadata.license)
      (λ _. when-all IsOfSection _ _ refl)))))))

  affected-section : (entry : List ℕ × Data) → All IsOfSection (affected_rows a entry.0)
  affected-section entry =
      cond_both (bytes_eq entry.0 (codes "functions")) _ _ (All IsOfSection)
      (λ _. functions-all IsOfSection value-section content-section a)
      (λ _. when-all IsOfSection _ _ refl)

  versions-section : (entry : List ℕ × Data) → All IsOfSection (versions_rows entry.0)
  versions-section entry = when-all IsOfSection _ _ refl

  module _ (key : List ℕ) (d : Data) where
    abbrev TopAgrees : List LintError → Type 0
    TopAgrees rows = IsUnknown ReadsAdvisory None key rows ⊎ IsKnown ReadsAdvisory None key rows

    top-known : (k : List ℕ) → is_one_of document_keys k ≡ true → bytes_eq key k ≡ true → (rows : List LintError) → All IsOfSection rows → TopAgrees rows
    top-known k there same rows all = inr (document-read key (listed document_keys k key there same), not-called-top rows key all)

    top-agrees : TopAgrees (top_rows draft a (key, d))
    top-agrees =
        cond_both (bytes_eq key (codes "advisory")) _ _ TopAgrees
        (λ is. top-known (codes "advisory") refl is _ (flat_map-all IsOfSection (advisory_rows draft a.metadata) (members_in d) advisory-section))
        (λ not_advisory. cond_both (bytes_eq key (codes "affected")) _ _ TopAgrees
        (λ is. top-known (codes "affected") refl is _ (flat_map-all IsOfSection (λ entry. affected_rows a entry.0) (members_in d) affected-section))
        (λ not_affected. cond_both (bytes_eq key (codes "versions")) _ _ TopAgrees
        (λ is. top-known (codes "versions") refl is _ (flat_map-all IsOfSection (λ entry. versions_rows entry.0) (members_in d) versions-section))
        (λ not_versions. inl (document-unread key (or_from _ _ not_advisory (or_from _ _ not_versions (or_from _ _ not_affected refl))), refl))))

-- the law; the two facts are that the quiet keys are the reader's, and that each key of the reader has a row or is quiet
pub keys-known : (draft : Option Bool) (a : Advisory) → list_all (is_one_of metadata_keys) quiet_keys ≡ true
    → list_all (is_one_of linted_keys) metadata_keys ≡ true → AreKeysKnown draft a
keys-known draft a included covered = record {
  advisory = λ key d. advisory-agrees draft a.metadata key d included covered;
  affected = affected-agrees a;
  versions = versions-agree a;
  top = top-agrees draft a;
}
