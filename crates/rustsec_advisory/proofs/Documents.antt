-- Documents and texts with a refused part are not those of an advisory.
use Rattle.std.proofs.Common.{◌≡◌, ◌∙◌, ℕ, List, Option, Some, None, codes, subst, sym}
use Rattle.toml.specs.Data.{Data, Members, as_table, get_member}
use Rattle.toml.specs.Parse.{parse_document}
use Rattle.rustsec_versions.specs.acceptance.Lists.{Lists}
use Rattle.rustsec_texts.specs.Parts.{FileParts, parts_of}
use Rattle.rustsec_advisory.specs.Advisory.{AreVersions, IsAdvisory, IsAffectedAt, IsOfDocument, document_text}
use Rattle.rustsec_advisory.specs.Affected.{AreFunctions, AreFunctionsAt, Function}
use Rattle.rustsec_toml.specs.Fields.{required}
use Rattle.rustsec_advisory.specs.Metadata.{IsMetadata}
use Rattle.rustsec_advisory.specs.declared.advisory.Advisory.{Advisory}
use Rattle.rustsec_advisory.specs.declared.affected.Affected.{Affected}
use Rattle.rustsec_advisory.specs.declared.metadata.Metadata.{Metadata}

-- two values at one place
one : {A : Type 0} (o : Option A) (a b : A) → o ≡ Some a → o ≡ Some b → a ≡ b
one o a b h k = cc (sym h ∙ k)

never-both : {A : Type 0} {P : Type 0} (o : Option A) (a : A) → o ≡ None → o ≡ Some a → P
never-both o a h k = cc (sym h ∙ k)

module _ (d : Members) (title description : List ℕ) where
  pub no-advisory-table : required as_table (codes "advisory") d ≡ None → (a : Advisory) → ¬ IsOfDocument d title description a
  no-advisory-table none a h = never-both _ h.advisory_table none h.advisory_at

  pub no-metadata : (t : Members) → required as_table (codes "advisory") d ≡ Some t → ((m : Metadata) → ¬ IsMetadata t title description m)
      → (a : Advisory) → ¬ IsOfDocument d title description a
  no-metadata t at never a h =
      never a.metadata (subst (λ x. IsMetadata x title description a.metadata) (one _ h.advisory_table t h.advisory_at at) h.metadata)

  pub no-versions-table : required as_table (codes "versions") d ≡ None → (a : Advisory) → ¬ IsOfDocument d title description a
  no-versions-table none a h = never-both _ h.versions_table none h.versions_at

  pub no-versions : (t : Members) → required as_table (codes "versions") d ≡ Some t → ((ls : Lists) → ¬ AreVersions t ls)
      → (a : Advisory) → ¬ IsOfDocument d title description a
  no-versions t at never a h =
      never a.versions (subst (λ x. AreVersions x a.versions) (one _ h.versions_table t h.versions_at at) h.versions)

  pub no-affected : ((x : Option Affected) → ¬ IsAffectedAt (get_member (codes "affected") d) x) → (a : Advisory) → ¬ IsOfDocument d title description a
  no-affected never a h = never a.affected h.affected

pub no-document : (text : List ℕ) (p : FileParts) (d : Members) → parts_of text ≡ Some p → parse_document (document_text p.front_matter) ≡ Some d
    → ((a : Advisory) → ¬ IsOfDocument d p.title p.description a) → (a : Advisory) → ¬ IsAdvisory text a
no-document text p d parts document never a h =
    let same_parts = one _ h.1.parts p h.1.are_parts parts in
    let read = subst (λ (x : FileParts). parse_document (document_text x.front_matter) ≡ Some h.0) same_parts h.1.is_document in
    let of_parts = subst (λ (x : FileParts). IsOfDocument h.0 x.title x.description a) same_parts h.1.is_of in
    never a (subst (λ x. IsOfDocument x p.title p.description a) (one _ h.0 d read document) of_parts)

-- the functions at a key
pub no-functions : (o : Option Data) (d : Data) (t : Members) → o ≡ Some d → as_table d ≡ Some t → ((fs : List Function) → ¬ AreFunctions t fs)
    → (fs : List Function) → ¬ AreFunctionsAt o fs
no-functions o d t at is never fs h =
    let here = subst (λ x. AreFunctionsAt x fs) at h in
    never fs (subst (λ x. AreFunctions x fs) (one _ here.0 t here.1.0 is) here.1.1)
