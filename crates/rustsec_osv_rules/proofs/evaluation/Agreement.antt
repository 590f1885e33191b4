-- OSV's evaluation of an exported document agrees with the advisory.
use Rattle.std.proofs.Common.{◌≡◌, ◌∙◌, ℕ, Bool, true, false, List, [], ◌∷◌, Some, Ok, Err, ap, map, refl, subst, sym}
use Rattle.std.specs.Prelude.{IfOk, Result, codes, filter}
use Rattle.std.specs.Str.{bytes_eq}
use Rattle.std.proofs.lemmas.Slice.Eq.{bytes_eq-Decides}
use Rattle.semver.specs.Parse.{Parts}
use Rattle.rustsec_values.specs.Failure.{Failure}
use Rattle.rustsec_versions.specs.acceptance.Lists.{affected}
use Rattle.rustsec_versions.specs.order.Precedence.{IsVersion}
use Rattle.rustsec_versions.proofs.lemmas.order.Rising.{Rises}
use Rattle.rustsec_files.specs.Listed.{Pairwise}
use Rattle.rustsec_advisory.specs.declared.advisory.Advisory.{Advisory}
use Rattle.rustsec_osv.specs.DocumentEvents.{Event, JsonRange}
use Rattle.rustsec_osv.specs.Documents.{Document}
use Rattle.rustsec_osv.specs.Events.{events_say}
use Rattle.rustsec_advisory.specs.FieldGroups.{kinds_of}
use Rattle.rustsec_osv.specs.Export.{IsDocument, database_of, document_events, member_of, package_of}
use Rattle.rustsec_osv.specs.declared.affected.OsvAffected.{OsvAffected}
use Rattle.rustsec_osv.proofs.Exported.{document-events}
use Rattle.rustsec_osv_rules.specs.evaluation.Document.{IsAnswer, IsMemberAnswer, IsRangeOfAnswer, are_any, is_about, is_of_versions}
use Rattle.rustsec_osv_rules.specs.evaluation.Event.{seen}
use Rattle.rustsec_osv_rules.specs.evaluation.Order.{at}
use Rattle.rustsec_osv_rules.specs.evaluation.Pairs.{HaveOwnVersions, normalized, normalized_document, normalized_member, normalized_range}
use Rattle.rustsec_osv_rules.specs.evaluation.Range.{IsRangeAnswer, say_in_order}
use Rattle.rustsec_osv_rules.proofs.evaluation.DroppedPairs.{normalized-own, normalized-rises, normalized-says}
use Rattle.rustsec_osv_rules.proofs.evaluation.SameAnswers.{normalized-events}
use Rattle.rustsec_osv_rules.proofs.evaluation.Saying.{own-from, own-to, range-answer, says}
use Rattle.rustsec_osv_rules.proofs.evaluation.Turning.{Turns, events-rise, events-turn}

-- ---- one member with one range

one-answer : {A : Type 0} (R : A → Bool → Type 0) (x : A) (answers : List Bool) → Pairwise R (x ∷ []) answers
    → (b : Bool) × (R x b × (are_any answers ≡ b))
one-answer R x [] h = absurd h
one-answer R x (true ∷ []) h = (true, (h.0, refl))
one-answer R x (false ∷ []) h = (false, (h.0, refl))
one-answer R x (b ∷ c ∷ answers) h = absurd h.1

text-self : (text : List ℕ) → bytes_eq text text ≡ true
text-self text = (bytes_eq-Decides text text).1 refl

-- a member about a crate of this name, with one range of versions and no version that is listed
pub record HasOneRange (name : List ℕ) (a : OsvAffected) (range : JsonRange) : Type 0 where
  pub of : a.«package» ≡ package_of name
  pub ranges : a.ranges ≡ Some (range ∷ [])
  pub versions : a.versions ≡ Some []
  pub kind : range.kind ≡ codes "SEMVER"

about-self : (name : List ℕ) (a : OsvAffected) → a.«package» ≡ package_of name → is_about (codes "crates.io") name a ≡ true
about-self name a h = rw (h, text-self name) refl

member-answer : (name : List ℕ) (v : Parts) (a : OsvAffected) (range : JsonRange) (answer : Bool) → HasOneRange name a range → IsMemberAnswer v a answer
    → IsRangeAnswer (map seen range.events) v answer
member-answer name v a range answer one h =
    let each : Pairwise (IsRangeOfAnswer v) (range ∷ []) h.answers = rw one.ranges at h.each in
    let (b, (of, any)) = one-answer (IsRangeOfAnswer v) range h.answers each in
    let versions : is_of_versions range ≡ true = rw one.kind refl in
    let is : answer ≡ b = h.is ∙ (rw one.versions any) in
    subst (λ (c : Bool). IsRangeAnswer (map seen range.events) v c) (sym is) (of.versions versions)

document-answer : (name : List ℕ) (v : Parts) (d : Document) (a : OsvAffected) (range : JsonRange) (answer : Bool) → d.affected ≡ a ∷ []
    → HasOneRange name a range → IsAnswer (codes "crates.io") name v d answer → IsRangeAnswer (map seen range.events) v answer
document-answer name v d a range answer members one h =
    let about : filter (is_about (codes "crates.io") name) (a ∷ []) ≡ a ∷ [] = rw (about-self name a one.of) refl in
    let each : Pairwise (IsMemberAnswer v) (filter (is_about (codes "crates.io") name) (a ∷ [])) h.answers = rw members at h.each in
    let alone : Pairwise (IsMemberAnswer v) (a ∷ []) h.answers = subst (λ (xs : List OsvAffected). Pairwise (IsMemberAnswer v) xs h.answers) about each in
    let (b, (of, any)) = one-answer (IsMemberAnswer v) a h.answers alone in
    let range_answer = member-answer name v a range b one of in
    subst (λ (c : Bool). IsRangeAnswer (map seen range.events) v c) (sym (h.is ∙ any)) range_answer

-- ---- exported documents

module _ (a : Advisory) (modified : List ℕ) (d : Document) (h : IsDocument a modified d)
    (agrees : (v : Parts) → IsVersion v → events_say (document_events d) v ≡ affected a.versions v) where
  abbrev member : OsvAffected
  member = member_of (package_of a.metadata.«package») (database_of (kinds_of a.metadata)) a.affected h.range

  has-one : HasOneRange a.metadata.«package» member h.range
  has-one = record { of = refl; ranges = refl; versions = refl; kind = h.is_range.kind }

  members : d.affected ≡ member ∷ []
  members = ap (λ (x : Document). x.affected) h.is

  its-events : document_events d ≡ h.range.events
  its-events = ap document_events h.is ∙ document-events a.metadata a.affected modified h.references h.range

  rises : Rises (map at h.range.events)
  rises = subst (λ (es : List Event). Rises (map at es)) (sym h.is_range.events) (events-rise a.versions h.is_range.ranges h.is_range.are_ranges)

  turns : Turns true h.range.events
  turns = subst (λ (es : List Event). Turns true es) (sym h.is_range.events) (events-turn a.versions h.is_range.ranges h.is_range.are_ranges)

  in-order : (v : Parts) → IsVersion v → say_in_order (map seen h.range.events) v ≡ affected a.versions v
  in-order v valid = says v h.range.events turns ∙ (ap (λ (es : List Event). events_say es v) (sym its-events) ∙ agrees v valid)

  pub evaluated : HaveOwnVersions (document_events d) → (v : Parts) (answer : Bool) → IsVersion v
      → IsAnswer (codes "crates.io") a.metadata.«package» v d answer → answer ≡ affected a.versions v
  evaluated own v answer valid is =
      let own_events = subst (λ (es : List Event). HaveOwnVersions es) its-events own in
      range-answer h.range.events v answer rises (own-from h.range.events own_events)
      (document-answer a.metadata.«package» v d member h.range answer members has-one is) ∙ in-order v valid

  has-one-normalized : HasOneRange a.metadata.«package» (normalized_member member) (normalized_range h.range)
  has-one-normalized = record { of = refl; ranges = refl; versions = refl; kind = h.is_range.kind }

  members-normalized : (normalized_document d).affected ≡ normalized_member member ∷ []
  members-normalized = ap (λ (x : Document). (normalized_document x).affected) h.is

  events-normalized : (normalized_range h.range).events ≡ normalized h.range.events
  events-normalized = normalized-events h.range turns rises

  pub normalized-evaluated : (v : Parts) (answer : Bool) → IsVersion v
      → IsAnswer (codes "crates.io") a.metadata.«package» v (normalized_document d) answer → answer ≡ affected a.versions v
  normalized-evaluated v answer valid is =
      let its_answer = document-answer a.metadata.«package» v (normalized_document d) (normalized_member member) (normalized_range h.range) answer
      members-normalized has-one-normalized is in
      let said = subst (λ (es : List Event). IsRangeAnswer (map seen es) v answer) events-normalized its_answer in
      range-answer (normalized h.range.events) v answer (normalized-rises h.range.events rises) (normalized-own h.range.events rises) said
      ∙ (normalized-says v true h.range.events turns rises ∙ in-order v valid)

  normalized-its-events : document_events (normalized_document d) ≡ normalized h.range.events
  normalized-its-events =
      ap (λ (x : Document). document_events (normalized_document x)) h.is
      ∙ (document-events a.metadata a.affected modified h.references (normalized_range h.range) ∙ events-normalized)

  pub normalized-bare : HaveOwnVersions (document_events (normalized_document d))
  normalized-bare = subst (λ (es : List Event). HaveOwnVersions es) (sym normalized-its-events)
      (own-to (normalized h.range.events) (normalized-own h.range.events rises))

-- ---- answers of the export

pub evaluated-ok : (a : Advisory) (modified : List ℕ) (r : Result Document Failure) → IfOk r (IsDocument a modified)
    → IfOk r (λ d. (v : Parts) → IsVersion v → events_say (document_events d) v ≡ affected a.versions v)
    → IfOk r (λ d. HaveOwnVersions (document_events d) → (v : Parts) (answer : Bool) → IsVersion v
    → IsAnswer (codes "crates.io") a.metadata.«package» v d answer → answer ≡ affected a.versions v)
evaluated-ok a modified (Ok d) h k = evaluated a modified d h k
evaluated-ok a modified (Err e) h k = tt

pub normalized-ok : (a : Advisory) (modified : List ℕ) (r : Result Document Failure) → IfOk r (IsDocument a modified)
    → IfOk r (λ d. (v : Parts) → IsVersion v → events_say (document_events d) v ≡ affected a.versions v)
    → IfOk r (λ d. (v : Parts) (answer : Bool) → IsVersion v
    → IsAnswer (codes "crates.io") a.metadata.«package» v (normalized_document d) answer → answer ≡ affected a.versions v)
normalized-ok a modified (Ok d) h k = normalized-evaluated a modified d h k
normalized-ok a modified (Err e) h k = tt

pub bare-ok : (a : Advisory) (modified : List ℕ) (r : Result Document Failure) → IfOk r (IsDocument a modified)
    → IfOk r (λ d. (v : Parts) → IsVersion v → events_say (document_events d) v ≡ affected a.versions v)
    → IfOk r (λ d. HaveOwnVersions (document_events (normalized_document d)))
bare-ok a modified (Ok d) h k = normalized-bare a modified d h k
bare-ok a modified (Err e) h k = tt
