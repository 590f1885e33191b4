-- `==` of lint errors and of advisories holds exactly between the same values.
use Rattle.std.specs.Prelude.{◌≡◌, ◌&&◌, ℕ, Bool, List, Option, nat_eq, refl}
use Rattle.std.specs.Bool.{Decides, beq}
use Rattle.std.specs.Cmp.{booleans_Decides, first_so, second_so}
use Rattle.std.specs.Cmp.Lexicographic.{bytes_decides, pointwise, pointwise_decides}
use Rattle.std.specs.Option.{option_eq}
use Rattle.std.proofs.Common.{ap, subst}
use denote.Enum.Bare.{same_true, true_same}
use Rattle.rustsec_values.specs.Equality.{both_true, option_decides, pair_decides}
use Rattle.rustsec_versions.specs.EqualityLaws.{lists_decides, requirements_decides}
use Rattle.rustsec_versions.specs.Equality.{requirements_eq}
use Rattle.rustsec_lock.specs.CvssEquality.{cvss_decides}
use Rattle.rustsec_lock.specs.SourceOrder.{source_decides, source_eq}
use Rattle.rustsec_lock.specs.contracts.cvss.CvssPartialEq.TheImpl.{ghosts as cvss_equality}
use Rattle.rustsec_lock.specs.contracts.platforms.Arch.{the_type as arch}
use Rattle.rustsec_lock.specs.contracts.platforms.OS.{the_type as os}
use Rattle.rustsec_texts.specs.IdOrder.{id_decides, id_eq}
use Rattle.rustsec_texts.specs.Paths.{path_eq}
use Rattle.rustsec_texts.specs.contracts.category.CategoryExactEq.TheImpl.Laws.{decides-law as category_decides}
use Rattle.rustsec_texts.specs.contracts.category.CategoryPartialEq.TheImpl.{ghosts as category_equality}
use Rattle.rustsec_texts.specs.contracts.collection.CollectionExactEq.TheImpl.Laws.{decides-law as collection_decides}
use Rattle.rustsec_texts.specs.contracts.collection.CollectionPartialEq.TheImpl.{ghosts as collection_equality}
use Rattle.rustsec_texts.specs.contracts.informational.InformationalExactEq.TheImpl.Laws.{decides-law as informational_decides}
use Rattle.rustsec_texts.specs.contracts.informational.InformationalPartialEq.TheImpl.{ghosts as informational_equality}
use Rattle.rustsec_texts.specs.contracts.license.LicenseExactEq.TheImpl.Laws.{decides-law as license_decides}
use Rattle.rustsec_texts.specs.contracts.license.LicensePartialEq.TheImpl.{ghosts as license_equality}
use Rattle.rustsec_advisory.specs.Affected.{Function}
use Rattle.rustsec_advisory.specs.LintErrors.{LintError}
use Rattle.rustsec_advisory.specs.contracts.advisory.AdvisoryPartialEq.TheImpl.{ghosts as advisory_equality}
use Rattle.rustsec_advisory.specs.contracts.affected.AffectedPartialEq.TheImpl.{ghosts as affected_equality}
use Rattle.rustsec_advisory.specs.contracts.linter.ErrorKindPartialEq.TheImpl.{ghosts as kind_equality}
use Rattle.rustsec_advisory.specs.contracts.linter.ErrorPartialEq.TheImpl.{ghosts as lint_error_equality}
use Rattle.rustsec_advisory.specs.contracts.metadata.MetadataPartialEq.TheImpl.{ghosts as metadata_equality}
use Rattle.rustsec_advisory.specs.declared.advisory.Advisory.{Advisory}
use Rattle.rustsec_advisory.specs.declared.affected.Affected.{Affected}
use Rattle.rustsec_advisory.specs.declared.linter.ErrorKind.{ErrorKind}
use Rattle.rustsec_advisory.specs.declared.linter.ErrorKind.TheVariants as kind
use Rattle.rustsec_advisory.specs.declared.metadata.Metadata.{Metadata}

-- two tests at once
pub both_decide : {P Q : Type 0} (s t : Bool) → Decides s P → Decides t Q → Decides (s && t) (P × Q)
both_decide s t d e = (λ h. (d.0 (first_so s t h), e.0 (second_so s t h)), λ p. both_true s t (d.1 p.0) (e.1 p.1))

-- two tests at the same time
pub decides_as : {P Q : Type 0} (t : Bool) → (P → Q) → (Q → P) → Decides t P → Decides t Q
decides_as t f g d = (λ h. f (d.0 h), λ q. d.1 (g q))

-- ---- lint errors

pub kind_decides : (x y : ErrorKind) → Decides (kind_equality.eq x y) (x ≡ y)
kind_decides kind.Malformed kind.Malformed = (λ h. refl, λ e. refl)
kind_decides kind.Malformed (kind.InvalidKey m) = (λ h. cc h, λ e. cc e)
kind_decides kind.Malformed (kind.InvalidValue m w) = (λ h. cc h, λ e. cc e)
kind_decides (kind.InvalidKey n) kind.Malformed = (λ h. cc h, λ e. cc e)
kind_decides (kind.InvalidKey n) (kind.InvalidKey m) =
    (λ h. ap kind.InvalidKey ((bytes_decides n m).0 h), λ e. (bytes_decides n m).1 (cc e))
kind_decides (kind.InvalidKey n) (kind.InvalidValue m w) = (λ h. cc h, λ e. cc e)
kind_decides (kind.InvalidValue n v) kind.Malformed = (λ h. cc h, λ e. cc e)
kind_decides (kind.InvalidValue n v) (kind.InvalidKey m) = (λ h. cc h, λ e. cc e)
kind_decides (kind.InvalidValue n v) (kind.InvalidValue m w) =
    decides_as _ (λ p i. kind.InvalidValue (p.0 i) (p.1 i)) (λ e. (cc e, cc e))
    (both_decide (pointwise nat_eq n m) (pointwise nat_eq v w) (bytes_decides n m) (bytes_decides v w))

texts_decide : (x y : Option (List ℕ)) → Decides (option_eq (pointwise nat_eq) x y) (x ≡ y)
texts_decide = option_decides (pointwise nat_eq) bytes_decides

pub lint_error_decides : (x y : LintError) → Decides (lint_error_equality.eq x y) (x ≡ y)
lint_error_decides x y =
    decides_as _ (λ p i. record { kind = p.0 i; section = p.1.0 i; message = p.1.1 i })
    (λ e. (ap (λ (f : LintError). f.kind) e, (ap (λ (f : LintError). f.section) e, ap (λ (f : LintError). f.message) e)))
    (both_decide _ _ (kind_decides x.kind y.kind) (both_decide _ _ (texts_decide x.section y.section) (texts_decide x.message y.message)))

-- ---- the table `affected`

function_decides : (f g : Function) → Decides (path_eq f.0 g.0 && requirements_eq f.1 g.1) (f ≡ g)
function_decides = pair_decides path_eq requirements_eq (pointwise_decides bytes_decides) requirements_decides

pub affected_decides : (x y : Affected) → Decides (affected_equality.eq x y) (x ≡ y)
affected_decides x y =
    decides_as _ (λ p i. record { arch = p.0 i; os = p.1.0 i; functions = p.1.1 i })
    (λ e. (ap (λ (a : Affected). a.arch) e, (ap (λ (a : Affected). a.os) e, ap (λ (a : Affected). a.functions) e)))
    (both_decide _ _ (pointwise_decides (λ a b. (same_true arch tt a b, true_same arch a b)) x.arch y.arch)
    (both_decide _ _ (pointwise_decides (λ a b. (same_true os tt a b, true_same os a b)) x.os y.os)
    (pointwise_decides function_decides x.functions y.functions)))

-- ---- metadata: each group of fields, and those after it

abbrev SameTerms : Metadata → Metadata → Type 0
SameTerms x y = (x.withdrawn ≡ y.withdrawn) × ((x.license ≡ y.license) × (x.expect_deleted ≡ y.expect_deleted))

abbrev SameOrigin : Metadata → Metadata → Type 0
SameOrigin x y = (x.references ≡ y.references) × ((x.source ≡ y.source) × ((x.url ≡ y.url) × SameTerms x y))

abbrev SameKinds : Metadata → Metadata → Type 0
SameKinds x y =
    (x.collection ≡ y.collection) × ((x.categories ≡ y.categories) × ((x.keywords ≡ y.keywords)
    × ((x.cvss ≡ y.cvss) × ((x.informational ≡ y.informational) × SameOrigin x y))))

abbrev SameSubject : Metadata → Metadata → Type 0
SameSubject x y = (x.date ≡ y.date) × ((x.aliases ≡ y.aliases) × ((x.related ≡ y.related) × SameKinds x y))

abbrev pub SameFields : Metadata → Metadata → Type 0
SameFields x y =
    (x.id ≡ y.id) × ((x.«package» ≡ y.«package») × ((x.title ≡ y.title) × ((x.description ≡ y.description) × SameSubject x y)))

abbrev terms_eq : Metadata → Metadata → Bool
terms_eq x y =
    option_eq (pointwise nat_eq) x.withdrawn y.withdrawn
    && (license_equality.eq x.license y.license && beq x.expect_deleted y.expect_deleted)

abbrev origin_eq : Metadata → Metadata → Bool
origin_eq x y =
    pointwise (pointwise nat_eq) x.references y.references && (option_eq source_eq x.source y.source
    && (option_eq (pointwise nat_eq) x.url y.url && terms_eq x y))

abbrev kinds_eq : Metadata → Metadata → Bool
kinds_eq x y =
    option_eq collection_equality.eq x.collection y.collection && (pointwise category_equality.eq x.categories y.categories
    && (pointwise (pointwise nat_eq) x.keywords y.keywords && (option_eq cvss_equality.eq x.cvss y.cvss
    && (option_eq informational_equality.eq x.informational y.informational && origin_eq x y))))

abbrev subject_eq : Metadata → Metadata → Bool
subject_eq x y =
    pointwise nat_eq x.date y.date && (pointwise id_eq x.aliases y.aliases && (pointwise id_eq x.related y.related && kinds_eq x y))

terms_decide : (x y : Metadata) → Decides (terms_eq x y) (SameTerms x y)
terms_decide x y =
    both_decide _ _ (texts_decide x.withdrawn y.withdrawn)
    (both_decide _ _ (license_decides x.license y.license) (booleans_Decides x.expect_deleted y.expect_deleted))

origin_decide : (x y : Metadata) → Decides (origin_eq x y) (SameOrigin x y)
origin_decide x y =
    both_decide _ _ (pointwise_decides bytes_decides x.references y.references)
    (both_decide _ _ (option_decides source_eq source_decides x.source y.source)
    (both_decide _ _ (texts_decide x.url y.url) (terms_decide x y)))

kinds_decide : (x y : Metadata) → Decides (kinds_eq x y) (SameKinds x y)
kinds_decide x y =
    both_decide _ _ (option_decides collection_equality.eq collection_decides x.collection y.collection)
    (both_decide _ _ (pointwise_decides category_decides x.categories y.categories)
    (both_decide _ _ (pointwise_decides bytes_decides x.keywords y.keywords)
    (both_decide _ _ (option_decides cvss_equality.eq cvss_decides x.cvss y.cvss)
    (both_decide _ _ (option_decides informational_equality.eq informational_decides x.informational y.informational)
    (origin_decide x y)))))

subject_decide : (x y : Metadata) → Decides (subject_eq x y) (SameSubject x y)
subject_decide x y =
    both_decide _ _ (bytes_decides x.date y.date)
    (both_decide _ _ (pointwise_decides id_decides x.aliases y.aliases)
    (both_decide _ _ (pointwise_decides id_decides x.related y.related) (kinds_decide x y)))

fields_decide : (x y : Metadata) → Decides (metadata_equality.eq x y) (SameFields x y)
fields_decide x y =
    both_decide _ _ (id_decides x.id y.id)
    (both_decide _ _ (bytes_decides x.«package» y.«package»)
    (both_decide _ _ (bytes_decides x.title y.title)
    (both_decide _ _ (bytes_decides x.description y.description) (subject_decide x y))))

same_fields : (x : Metadata) → SameFields x x
same_fields x =
    let terms : SameTerms x x = (refl, (refl, refl)) in
    let origin : SameOrigin x x = (refl, (refl, (refl, terms))) in
    let kinds : SameKinds x x = (refl, (refl, (refl, (refl, (refl, origin))))) in
    let subject : SameSubject x x = (refl, (refl, (refl, kinds))) in
    (refl, (refl, (refl, (refl, subject))))

-- metadata with the same fields are the same
pub same_metadata : (x y : Metadata) → SameFields x y → x ≡ y
same_metadata x y (id, (name, (title, (description, (date, (aliases, (related, kinds))))))) =
    let (collection, (categories, (keywords, (cvss, (informational, origin))))) = kinds in
    let (references, (source, (url, (withdrawn, (license, expect_deleted))))) = origin in
    λ i. record {
      id = id i;
      «package» = name i;
      title = title i;
      description = description i;
      date = date i;
      aliases = aliases i;
      related = related i;
      collection = collection i;
      categories = categories i;
      keywords = keywords i;
      cvss = cvss i;
      informational = informational i;
      references = references i;
      source = source i;
      url = url i;
      withdrawn = withdrawn i;
      license = license i;
      expect_deleted = expect_deleted i;
    }

pub metadata_decides : (x y : Metadata) → Decides (metadata_equality.eq x y) (x ≡ y)
metadata_decides x y =
    decides_as _ (same_metadata x y) (λ e. subst (SameFields x) e (same_fields x)) (fields_decide x y)

-- ---- advisories

pub advisory_decides : (x y : Advisory) → Decides (advisory_equality.eq x y) (x ≡ y)
advisory_decides x y =
    decides_as _ (λ p i. record { metadata = p.0 i; affected = p.1.0 i; versions = p.1.1 i })
    (λ e. (ap (λ (a : Advisory). a.metadata) e, (ap (λ (a : Advisory). a.affected) e, ap (λ (a : Advisory). a.versions) e)))
    (both_decide _ _ (metadata_decides x.metadata y.metadata)
    (both_decide _ _ (option_decides affected_equality.eq affected_decides x.affected y.affected) (lists_decides x.versions y.versions)))
