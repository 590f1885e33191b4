-- The two groups of rules, with their scans, are the definition.
use Rattle.std.proofs.Common.{◌≡◌, ◌∙◌, ◌↔◌, ◌⊎◌, ◌&&◌, ◌||◌, inl, inr, ℕ, Bool, true, false, List, [], ◌∷◌, Option, Some, None, ap, arith, codes, refl, subst, sym}
use Rattle.std.specs.Prelude.{Contains, option_map, unwrap_or}
use Rattle.std.specs.Cmp.Lexicographic.{bytes_decides}
use Rattle.std.specs.Str.{bytes_eq}
use Rattle.std.proofs.lemmas.Bool.{and_from, and_parts, or_left, or_right}
use Rattle.serde_json.specs.Data.{Data, Items, item, no_items}
use Rattle.serde_json.specs.Find.{as_array, as_str, get}
use Rattle.rustsec_json.specs.Codecs.{IfThere}
use Rattle.rustsec_osv_rules.specs.schema.Groups.{are_scored, are_severities, is_affected, is_severity, keeps_all, keeps_lists, keeps_texts}
use Rattle.rustsec_osv_rules.specs.schema.Names.{priorities}
use Rattle.rustsec_osv_rules.specs.schema.Schema.{AreSeverities, IsAffected, IsOsvSchema, IsSeverity, text_at}
use Rattle.rustsec_osv_rules.specs.schema.Texts.{is_one_of}
use Rattle.rustsec_osv_rules.specs.schema.TimeScan.{is_time}
use Rattle.rustsec_osv_rules.specs.schema.Times.{IsTime}
use Rattle.rustsec_osv_rules.specs.schema.Values.{Every, IsThere, ListOf, Optional, OrNull, Required, TextOf, every, is_null, list_of, optional, or_null, required, text_of}
use Rattle.rustsec_osv_rules.specs.schema.VectorScan.{is_score, is_vector_2, is_vector_3, is_vector_4}
use Rattle.rustsec_osv_rules.specs.schema.Vectors.{IsScore}
use Rattle.rustsec_osv_rules.proofs.schema.FieldLists.{vector-2, vector-2-kept}
use Rattle.rustsec_versions.proofs.lemmas.lists.Contained.{contains-cases, contains-here, contains-there}
use Rattle.rustsec_osv_rules.proofs.schema.Fields.{or-cases}
use Rattle.rustsec_osv_rules.proofs.schema.TimeForms.{time-complete, time-sound}
use Rattle.rustsec_osv_rules.proofs.schema.VectorForms.{vector-3, vector-3-kept, vector-4, vector-4-kept}

-- ---- scans and forms

-- an answer that a rule and a relation share, of a value that is there
there : {A : Type 0} (r : A → Bool) (R : A → Type 0) → ((x : A) → (r x ≡ true) ↔ R x) → (o : Option A) → (unwrap_or (option_map r o) false ≡ true) ↔ IsThere R o
there r R each None = (λ h. cc h, λ h. absurd h)
there r R each (Some x) = each x

if-there : {A : Type 0} (r : A → Bool) (R : A → Type 0) → ((x : A) → (r x ≡ true) ↔ R x) → (o : Option A) → (unwrap_or (option_map r o) true ≡ true) ↔ IfThere R o
if-there r R each None = (λ h. tt, λ h. refl)
if-there r R each (Some x) = each x

or-null : (r : Data → Bool) (R : Data → Type 0) → ((d : Data) → (r d ≡ true) ↔ R d) → (d : Data) → (or_null r d ≡ true) ↔ OrNull R d
or-null r R each d = (
  λ h. elim (or-cases (is_null d) (r d) h) [
    | inl e ↦ inl e
    | inr e ↦ inr ((each d).0 e)
  ],
  λ h. elim h [
    | inl e ↦ or_left (is_null d) (r d) e
    | inr e ↦ or_right (is_null d) (r d) ((each d).1 e)
  ],
)

every-item : (r : Data → Bool) (R : Data → Type 0) → ((d : Data) → (r d ≡ true) ↔ R d) → (ds : Items) → (every r ds ≡ true) ↔ Every R ds
every-item r R each no_items = (λ h. tt, λ h. refl)
every-item r R each (item d ds) =
    let later = every-item r R each ds in (
      λ h. (let p = and_parts (r d) (every r ds) h in ((each d).0 p.0, later.0 p.1)),
      λ h. and_from (r d) (every r ds) ((each d).1 h.0) (later.1 h.1),
    )

list-rule : (r : Data → Bool) (R : Data → Type 0) → ((d : Data) → (r d ≡ true) ↔ R d) → (d : Data) → (list_of r d ≡ true) ↔ ListOf R d
list-rule r R each d = there (every r) (Every R) (every-item r R each) (as_array d)

-- ---- times

time-rule : (d : Data) → (text_of is_time d ≡ true) ↔ TextOf IsTime d
time-rule d = there is_time IsTime (λ t. (time-sound t, time-complete t)) (as_str d)

-- ---- scores

same-text : (a b : List ℕ) → (bytes_eq a b ≡ true) ↔ (a ≡ b)
same-text a b = bytes_decides a b

both-rule : {P Q : Type 0} (a b : Bool) → (a ≡ true) ↔ P → (b ≡ true) ↔ Q → ((a && b) ≡ true) ↔ (P × Q)
both-rule a b p q = (λ h. (let parts = and_parts a b h in (p.0 parts.0, q.0 parts.1)), λ h. and_from a b (p.1 h.0) (q.1 h.1))

either-rule : {P Q : Type 0} (a b : Bool) → (a ≡ true) ↔ P → (b ≡ true) ↔ Q → ((a || b) ≡ true) ↔ (P ⊎ Q)
either-rule a b p q = (
  λ h. elim (or-cases a b h) [
    | inl e ↦ inl (p.0 e)
    | inr e ↦ inr (q.0 e)
  ],
  λ h. elim h [
    | inl e ↦ or_left a b (p.1 e)
    | inr e ↦ or_right a b (q.1 e)
  ],
)

one-of : (names : List (List ℕ)) (t : List ℕ) → (is_one_of names t ≡ true) ↔ Contains names t
one-of [] t = (λ h. cc h, λ c. absurd (omega (arith, c.1)))
one-of (name ∷ names) t = (
  λ h. elim (or-cases (bytes_eq t name) (is_one_of names t) h) [
    | inl e ↦ subst (λ (x : List ℕ). Contains (x ∷ names) t) ((bytes_decides t name).0 e) (contains-here t names)
    | inr e ↦ contains-there t name names ((one-of names t).0 e)
  ],
  λ c. elim (contains-cases t name names c) [
    | inl e ↦ or_left (bytes_eq t name) (is_one_of names t) ((bytes_decides t name).1 (sym e))
    | inr later ↦ or_right (bytes_eq t name) (is_one_of names t) ((one-of names t).1 later)
  ],
)

score-rule : (kind score : List ℕ) → (is_score kind score ≡ true) ↔ IsScore kind score
score-rule kind score =
    either-rule _ _ (both-rule (bytes_eq kind (codes "CVSS_V2")) (is_vector_2 score) (same-text kind (codes "CVSS_V2")) (vector-2 score, vector-2-kept score))
    (either-rule _ _ (both-rule (bytes_eq kind (codes "CVSS_V3")) (is_vector_3 score) (same-text kind (codes "CVSS_V3")) (vector-3 score, vector-3-kept score))
    (either-rule _ _ (both-rule (bytes_eq kind (codes "CVSS_V4")) (is_vector_4 score) (same-text kind (codes "CVSS_V4")) (vector-4 score, vector-4-kept score))
    (both-rule (bytes_eq kind (codes "Ubuntu")) (is_one_of priorities score) (same-text kind (codes "Ubuntu")) (one-of priorities score))))

-- ---- severities and members

scored-sound : (d : Data) (k s : Option (List ℕ)) → text_at (codes "type") d ≡ k → text_at (codes "score") d ≡ s → are_scored k s ≡ true → IsSeverity d
scored-sound d None s e f h = cc h
scored-sound d (Some kind) None e f h = cc h
scored-sound d (Some kind) (Some score) e f h = record { kind = kind; has_kind = e; score = score; has_score = f; is_score = (score-rule kind score).0 h }

severity-rule : (d : Data) → (is_severity d ≡ true) ↔ IsSeverity d
severity-rule d = (
  scored-sound d (text_at (codes "type") d) (text_at (codes "score") d) refl refl,
  λ s. ap (λ k. are_scored k (text_at (codes "score") d)) s.has_kind ∙ ap (are_scored (Some s.kind)) s.has_score ∙ (score-rule s.kind s.score).1 s.is_score,
)

severities-rule : (d : Data) → (are_severities d ≡ true) ↔ AreSeverities d
severities-rule d = or-null (list_of is_severity) (ListOf IsSeverity) (list-rule is_severity IsSeverity severity-rule) d

pub severities-at : (d : Data) → (optional (codes "severity") are_severities d ≡ true) ↔ Optional (codes "severity") AreSeverities d
severities-at d = if-there are_severities AreSeverities severities-rule (get (codes "severity") d)

affected-sound : (d : Data) → is_affected d ≡ true → IsAffected d
affected-sound d h =
    let p0 = and_parts _ _ h in
    let p1 = and_parts _ _ p0.1 in
    let p2 = and_parts _ _ p1.1 in
    let p3 = and_parts _ _ p2.1 in
    let p4 = and_parts _ _ p3.1 in
    let p5 = and_parts _ _ p4.1 in
    record {
      object = p0.0;
      «package» = p1.0;
      severity = (severities-at d).0 p2.0;
      ranges = p3.0;
      versions = p4.0;
      ecosystem_specific = p5.0;
      database_specific = p5.1;
    }

affected-complete : (d : Data) → IsAffected d → is_affected d ≡ true
affected-complete d a =
    and_from _ _ a.object (and_from _ _ a.«package» (and_from _ _ ((severities-at d).1 a.severity) (and_from _ _ a.ranges
    (and_from _ _ a.versions (and_from _ _ a.ecosystem_specific a.database_specific)))))

members-rule : (d : Data) → (or_null (list_of is_affected) d ≡ true) ↔ OrNull (ListOf IsAffected) d
members-rule d =
    or-null (list_of is_affected) (ListOf IsAffected) (list-rule is_affected IsAffected (λ a. (affected-sound a, affected-complete a))) d

-- ---- the definition

modified-at : (d : Data) → (required (codes "modified") (text_of is_time) d ≡ true) ↔ Required (codes "modified") (TextOf IsTime) d
modified-at d = there (text_of is_time) (TextOf IsTime) time-rule (get (codes "modified") d)

time-at : (key : List ℕ) (d : Data) → (optional key (text_of is_time) d ≡ true) ↔ Optional key (TextOf IsTime) d
time-at key d = if-there (text_of is_time) (TextOf IsTime) time-rule (get key d)

pub members-at : (d : Data) → (optional (codes "affected") (or_null (list_of is_affected)) d ≡ true) ↔ Optional (codes "affected") (OrNull (ListOf IsAffected)) d
members-at d = if-there (or_null (list_of is_affected)) (OrNull (ListOf IsAffected)) members-rule (get (codes "affected") d)

-- a document that keeps the groups keeps the schema
schema_from : (d : Data) → keeps_all d ≡ true → IsOsvSchema d
schema_from d h =
    let all = and_parts _ _ h in
    let groups = and_parts _ _ all.1 in
    let t0 = and_parts _ _ groups.0 in
    let t1 = and_parts _ _ t0.1 in
    let t2 = and_parts _ _ t1.1 in
    let t3 = and_parts _ _ t2.1 in
    let t4 = and_parts _ _ t3.1 in
    let t5 = and_parts _ _ t4.1 in
    let l0 = and_parts _ _ groups.1 in
    let l1 = and_parts _ _ l0.1 in
    let l2 = and_parts _ _ l1.1 in
    let l3 = and_parts _ _ l2.1 in
    let l4 = and_parts _ _ l3.1 in
    let l5 = and_parts _ _ l4.1 in
    let l6 = and_parts _ _ l5.1 in
    let l7 = and_parts _ _ l6.1 in
    record {
      keys = all.0;
      schema_version = t0.0;
      id = t1.0;
      modified = (modified-at d).0 t2.0;
      published = (time-at (codes "published") d).0 t3.0;
      withdrawn = (time-at (codes "withdrawn") d).0 t4.0;
      aliases = l0.0;
      related = l1.0;
      upstream = l2.0;
      summary = t5.0;
      details = t5.1;
      severity = (severities-at d).0 l3.0;
      affected = (members-at d).0 l4.0;
      one_severity = l5.0;
      references = l6.0;
      credits = l7.0;
      database_specific = l7.1;
    }

-- and back
texts_from : (d : Data) → IsOsvSchema d → keeps_texts d ≡ true
texts_from d s =
    and_from _ _ s.schema_version (and_from _ _ s.id (and_from _ _ ((modified-at d).1 s.modified) (and_from _ _ ((time-at (codes "published") d).1 s.published)
    (and_from _ _ ((time-at (codes "withdrawn") d).1 s.withdrawn) (and_from _ _ s.summary s.details)))))

lists_from : (d : Data) → IsOsvSchema d → keeps_lists d ≡ true
lists_from d s =
    and_from _ _ s.aliases (and_from _ _ s.related (and_from _ _ s.upstream (and_from _ _ ((severities-at d).1 s.severity)
    (and_from _ _ ((members-at d).1 s.affected) (and_from _ _ s.one_severity (and_from _ _ s.references (and_from _ _ s.credits s.database_specific)))))))

-- an answer that is whether a document keeps the groups decides whether it keeps the schema
pub decided : (d : Data) (answer : Bool) → answer ≡ keeps_all d → (answer ≡ true) ↔ IsOsvSchema d
decided d answer e = (
  λ yes. schema_from d (rw (← e) yes),
  λ s. rw e (and_from _ _ s.keys (and_from _ _ (texts_from d s) (lists_from d s))),
)
