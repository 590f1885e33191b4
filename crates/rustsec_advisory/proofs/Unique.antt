-- A text has at most one advisory, and one list of lint errors.
use Rattle.std.proofs.Common.{◌≡◌, ◌∙◌, ℕ, Bool, List, [], ◌∷◌, ◌⊎◌, Option, Some, None, Ordering, Less, IsPermutation}
use Rattle.std.proofs.Common.{refl, sym, ap, subst, inl, inr, ⊎_elim}
use Rattle.std.specs.Cmp.{IsTotalOrder, tied_itself}
use Rattle.std.specs.List.{AllByRecursion, Contains}
use Rattle.std.specs.List.Sorted.{IsStrictlySortedBy}
use Rattle.std.specs.Map.{keys_of}
use Rattle.std.specs.Ordering.{ordering_reverse}
use Rattle.std.proofs.lemmas.List.Elements.{All-cons, All-contains, All-from_recursion, All-nil}
use Rattle.std.proofs.lemmas.List.Elements.{Contains-append_cases, Contains-append_left, Contains-append_right, Contains-push}
use Rattle.std.proofs.lemmas.List.Sorted.{Contains-permutation, IsPermutation-sym, IsPermutation-trans}
use Rattle.std.proofs.lemmas.Option.{same_Some}
use Rattle.toml.specs.Data.{Data, Members}
use Rattle.toml.specs.Parse.{parse_document}
use Rattle.rustsec_versions.specs.acceptance.Lists.{Lists}
use Rattle.rustsec_texts.specs.Parts.{FileParts}
use Rattle.rustsec_texts.specs.Paths.{path_order, path_total}
use Rattle.rustsec_advisory.specs.Advisory.{AreVersions, IsAdvisory, IsAdvisoryWith, IsAffectedAt, IsOfDocument, document_text}
use Rattle.rustsec_advisory.specs.Affected.{AreFunctions, AreFunctionsAt, Function, IsAffected}
use Rattle.rustsec_advisory.specs.LintErrors.{LintError, lint_errors}
use Rattle.rustsec_advisory.specs.Lints.{Lints}
use Rattle.rustsec_advisory.specs.Metadata.{IsMetadata}
use Rattle.rustsec_advisory.specs.declared.advisory.Advisory.{Advisory}
use Rattle.rustsec_advisory.specs.declared.affected.Affected.{Affected}
use Rattle.rustsec_advisory.specs.declared.metadata.Metadata.{Metadata}
use Rattle.rustsec_advisory.specs.EqualityLaws.{same_metadata}

-- ---- entries whose keys rise

abbrev IsWithin : {X : Type 0} → List X → List X → Type 0
IsWithin {X} xs ys = (x : X) → Contains xs x → Contains ys x

none_there : {X P : Type 0} (x : X) → Contains [] x → P
none_there {X} {P} x h = All-contains (λ (y : X). P) [] x (All-nil _) h

first_there : {X : Type 0} (x : X) (xs : List X) → Contains (x ∷ xs) x
first_there x xs = Contains-append_left (x ∷ []) xs x (Contains-push [] x)

first_or_later : {X : Type 0} (x : X) (xs : List X) (y : X) → Contains (x ∷ xs) y → (x ≡ y) ⊎ Contains xs y
first_or_later x xs y h =
    let alone = All-cons (λ z. x ≡ z) x [] refl (All-nil (λ z. x ≡ z)) in
    ⊎_elim (λ there. inl (All-contains (λ z. x ≡ z) (x ∷ []) y alone there)) inr (Contains-append_cases (x ∷ []) xs y h)

module _ {K X : Type 0} (R : K → K → Ordering) where
  -- a key is below all keys of some entries
  abbrev IsBelow : K → List (K × X) → Type 0
  IsBelow k es = AllByRecursion (λ q. R k q ≡ Less) (keys_of es)

  abbrev Rises : List (K × X) → Type 0
  Rises es = IsStrictlySortedBy R (keys_of es)

  below_each : (k : K) (es : List (K × X)) → IsBelow k es → AllByRecursion (λ (e : K × X). R k e.0 ≡ Less) es
  below_each k [] h = tt
  below_each k (e ∷ es) h = (h.0, below_each k es h.1)

  below_one : (k : K) (es : List (K × X)) (e : K × X) → IsBelow k es → Contains es e → R k e.0 ≡ Less
  below_one k es e h there =
      All-contains (λ (f : K × X). R k f.0 ≡ Less) es e (All-from_recursion _ es (below_each k es h)) there

  module _ (total : IsTotalOrder R) where
    -- an entry below some others is not one of them
    not_below_itself : {P : Type 0} (e : K × X) (es : List (K × X)) → IsBelow e.0 es → Contains es e → P
    not_below_itself e es h there = cc (sym (below_one e.0 es e h there) ∙ tied_itself total e.0)

    -- two first entries such that each is in the other list
    first_same : (e f : K × X) (es fs : List (K × X)) → IsBelow e.0 es → IsBelow f.0 fs
        → (f ≡ e) ⊎ Contains fs e → (e ≡ f) ⊎ Contains es f → e ≡ f
    first_same e f es fs h k (inl same) back = sym same
    first_same e f es fs h k (inr there) (inl same) = same
    first_same e f es fs h k (inr there) (inr back) =
        cc (sym (below_one f.0 fs e k there) ∙ total.antisymm f.0 e.0 ∙ ap ordering_reverse (below_one e.0 es f h back))

    rest_within : (e f : K × X) (es fs : List (K × X)) → e ≡ f → IsBelow e.0 es → IsWithin (e ∷ es) (f ∷ fs) → IsWithin es fs
    rest_within e f es fs same h within x there =
        ⊎_elim (λ at. not_below_itself e es h (subst (Contains es) (sym (same ∙ at)) there)) (λ later. later)
        (first_or_later f fs x (within x (Contains-append_right (e ∷ []) es x there)))

    within_same : (es fs : List (K × X)) → Rises es → Rises fs → IsWithin es fs → IsWithin fs es → es ≡ fs
    unfolding IsStrictlySortedBy
    within_same [] [] h k there back = refl
    within_same [] (f ∷ fs) h k there back = none_there f (back f (first_there f fs))
    within_same (e ∷ es) [] h k there back = none_there e (there e (first_there e es))
    within_same (e ∷ es) (f ∷ fs) h k there back =
        let e_there = first_or_later f fs e (there e (first_there e es)) in
        let f_there = first_or_later e es f (back f (first_there f fs)) in
        let first = first_same e f es fs h.0 k.0 e_there f_there in
        let rest_there = rest_within e f es fs first h.0 there in
        let rest = within_same es fs h.1 k.1 rest_there (rest_within f e fs es (sym first) k.0 back) in
        λ i. first i ∷ rest i

    -- a list has one order in which its keys rise
    order_unique : (es fs gs : List (K × X)) → IsPermutation es fs → IsPermutation es gs → Rises fs → Rises gs → fs ≡ gs
    order_unique es fs gs p q h k =
        let turn = IsPermutation-trans fs es gs (IsPermutation-sym es fs p) q in
        let back = IsPermutation-sym fs gs turn in
        within_same fs gs h k (λ e. Contains-permutation fs gs e turn) (λ e. Contains-permutation gs fs e back)

-- ---- the parts of an advisory

-- two values at one place
agree : {A : Type 0} {o : Option A} {a b : A} → o ≡ Some a → o ≡ Some b → a ≡ b
agree {A} {o} {a} {b} h k = same_Some a b (sym h ∙ k)

functions_unique : (t : Members) (fs gs : List Function) → AreFunctions t fs → AreFunctions t gs → fs ≡ gs
functions_unique t fs gs h k =
    let same = subst (λ r. IsPermutation r fs) (agree h.is_read k.is_read) h.same in
    order_unique path_order path_total k.read fs gs same k.same h.ordered k.ordered

functions_at_unique : (o : Option Data) (fs gs : List Function) → AreFunctionsAt o fs → AreFunctionsAt o gs → fs ≡ gs
functions_at_unique None fs gs h k = h ∙ sym k
functions_at_unique (Some d) fs gs h k =
    let (t, (table, functions)) = h in
    let (u, (other_table, others)) = k in
    functions_unique u fs gs (subst (λ x. AreFunctions x fs) (agree table other_table) functions) others

affected_unique : (t : Members) (a b : Affected) → IsAffected t a → IsAffected t b → a ≡ b
affected_unique t a b h k =
    let arch = agree h.arch k.arch in
    let os = agree h.os k.os in
    let functions = functions_at_unique _ a.functions b.functions h.functions k.functions in
    λ i. record { arch = arch i; os = os i; functions = functions i }

affected_at_unique : (o : Option Data) (a b : Option Affected) → IsAffectedAt o a → IsAffectedAt o b → a ≡ b
affected_at_unique None a b h k = h ∙ sym k
affected_at_unique (Some d) a b h k =
    let (t, v, (table, (says, is))) = h in
    let (u, w, (other_table, (other_says, other_is))) = k in
    let here = subst (λ x. IsAffected x v) (agree table other_table) says in
    is ∙ ap Some (affected_unique u v w here other_says) ∙ sym other_is

versions_unique : (t : Members) (ls ms : Lists) → AreVersions t ls → AreVersions t ms → ls ≡ ms
versions_unique t ls ms h k =
    let patched = agree h.patched k.patched in
    let unaffected = agree h.unaffected k.unaffected in
    λ i. record { patched = patched i; unaffected = unaffected i }

metadata_unique : (t : Members) (title description : List ℕ) (m n : Metadata) → IsMetadata t title description m
    → IsMetadata t title description n → m ≡ n
metadata_unique t title description m n h k =
    let id = agree h.subject.id k.subject.id in
    let name = agree h.subject.name k.subject.name in
    let date = agree h.subject.date k.subject.date in
    let aliases = agree h.subject.aliases k.subject.aliases in
    let related = agree h.subject.related k.subject.related in
    let title_is = h.title_is ∙ sym k.title_is in
    let description_is = h.description_is ∙ sym k.description_is in
    let collection = agree h.kinds.collection k.kinds.collection in
    let categories = agree h.kinds.categories k.kinds.categories in
    let keywords = agree h.kinds.keywords k.kinds.keywords in
    let cvss = agree h.kinds.cvss k.kinds.cvss in
    let informational = agree h.kinds.informational k.kinds.informational in
    let references = agree h.origin.references k.origin.references in
    let source = agree h.origin.source k.origin.source in
    let url = agree h.origin.url k.origin.url in
    let withdrawn = agree h.terms.withdrawn k.terms.withdrawn in
    let license = agree h.terms.license k.terms.license in
    let expect_deleted = agree h.terms.expect_deleted k.terms.expect_deleted in
    same_metadata m n (
      id,
      (
        name,
        (
          title_is,
          (
            description_is,
            (
              date,
              (
                aliases,
                (
                  related,
                  (
                    collection,
                    (
                      categories,
                      (keywords, (cvss, (informational, (references, (source, (url, (withdrawn, (license, expect_deleted)))))))),
                    ),
                  ),
                ),
              ),
            ),
          ),
        ),
      ),
    )

-- ---- the advisory

of_document_unique : (d : Members) (title description : List ℕ) (a b : Advisory) → IsOfDocument d title description a
    → IsOfDocument d title description b → a ≡ b
of_document_unique d title description a b h k =
    let table = subst (λ t. IsMetadata t title description a.metadata) (agree h.advisory_at k.advisory_at) h.metadata in
    let lists = subst (λ t. AreVersions t a.versions) (agree h.versions_at k.versions_at) h.versions in
    let metadata = metadata_unique k.advisory_table title description a.metadata b.metadata table k.metadata in
    let affected = affected_at_unique _ a.affected b.affected h.affected k.affected in
    let versions = versions_unique k.versions_table a.versions b.versions lists k.versions in
    λ i. record { metadata = metadata i; affected = affected i; versions = versions i }

-- the document of a text's front matter
pub document_unique : (text : List ℕ) (d e : Members) (a b : Advisory) → IsAdvisoryWith text d a → IsAdvisoryWith text e b → d ≡ e
document_unique text d e a b h k =
    let same_parts = agree h.are_parts k.are_parts in
    agree (subst (λ (p : FileParts). parse_document (document_text p.front_matter) ≡ Some d) same_parts h.is_document) k.is_document

with_document_unique : (text : List ℕ) (d e : Members) (a b : Advisory) → IsAdvisoryWith text d a → IsAdvisoryWith text e b → a ≡ b
with_document_unique text d e a b h k =
    let of_parts = subst (λ (p : FileParts). IsOfDocument d p.title p.description a) (agree h.are_parts k.are_parts) h.is_of in
    let of_text = subst (λ x. IsOfDocument x k.parts.title k.parts.description a) (document_unique text d e a b h k) of_parts in
    of_document_unique e k.parts.title k.parts.description a b of_text k.is_of

pub advisory_unique : (text : List ℕ) (a b : Advisory) → IsAdvisory text a → IsAdvisory text b → a ≡ b
advisory_unique text a b h k = with_document_unique text h.0 k.0 a b h.1 k.1

-- with the lint errors that a linter finds in it
pub lints_unique : (text : List ℕ) (draft : Option Bool) (a b : Advisory) (fs gs : List LintError) → Lints text draft a fs
    → Lints text draft b gs → (a ≡ b) × (fs ≡ gs)
lints_unique text draft a b fs gs h k =
    let document = document_unique text h.document k.document a b h.is_advisory k.is_advisory in
    let advisory = with_document_unique text h.document k.document a b h.is_advisory k.is_advisory in
    let errors : lint_errors draft h.document a ≡ lint_errors draft k.document b = λ i. lint_errors draft (document i) (advisory i) in
    (advisory, h.errors_are ∙ errors ∙ sym k.errors_are)
