-- A value that was parsed from a text is parsed from the text that it prints.
use Rattle.std.proofs.Common.{◌≡◌, ◌∙◌, ◌==◌, ℕ, Bool, true, false, cond, List, [], ◌∷◌, length, Option, Some, None, codes, option_map, if◌then◌else◌, refl, ap, sym, subst}
use Rattle.std.specs.Cmp.Lexicographic.{bytes_decides}
use Rattle.std.specs.Prelude.{unwrap_or}
use Rattle.std.specs.Str.{bytes_eq}
use Rattle.rustsec_values.specs.ClosedTables.{from_name}
use Rattle.rustsec_values.specs.Reading.{◌>>=◌, only_if}
use Rattle.rustsec_lock.specs.Cvss.{base_of, after_prefix, cvss_of, cvss_text, parse_metric, metrics_of, or_else, parts_of}
use Rattle.rustsec_lock.specs.Metrics.{attack_complexity_letter, attack_complexity_values, attack_vector_letter, attack_vector_values, availability_letter, availability_values, confidentiality_letter, confidentiality_values, integrity_letter, integrity_values, privileges_required_letter, privileges_required_values, scope_letter, scope_values, user_interaction_letter, user_interaction_values}
use Rattle.rustsec_lock.specs.declared.cvss.Cvss.{Cvss}
use Rattle.rustsec_lock.specs.declared.cvss.Cvss.TheVariants as cvss
use Rattle.rustsec_lock.specs.declared.metrics.Base.{Base}
use Rattle.rustsec_lock.proofs.CvssRoundTrip.{again_0, again_1}
use Rattle.rustsec_texts.specs.Categories.{categories, category_name, category_of}
use Rattle.rustsec_texts.specs.declared.category.Category.TheVariants as category
use Rattle.rustsec_texts.specs.Ids.{IdValue, has_year, id_of, id_with, is_placeholder, kind_of_id, year_of_kind}
use Rattle.rustsec_texts.specs.Informational.{informational_kinds, informational_name, informational_of}
use Rattle.rustsec_texts.specs.declared.informational.Informational.TheVariants as informational
use Rattle.rustsec_texts.specs.Paths.{path_of, path_text}
use Rattle.rustsec_texts.proofs.Colons.{is_path-path_of, path_of-path_text}

some-same : {A : Type 0} (a b : A) → Some a ≡ Some b → a ≡ b
some-same a b h = cc h

-- ---- IDs and paths

id-text : (b : Bool) (o : Option (Option ℕ)) (t : List ℕ) (i : IdValue) → (if b then Some (id_with t None) else (o >>= λ year. Some (id_with t year))) ≡ Some i → i.text ≡ t
id-text true o t i e = ap (λ (x : IdValue). x.text) (sym (some-same (id_with t None) i e))
id-text false None t i e = cc e
id-text false (Some y) t i e = ap (λ (x : IdValue). x.text) (sym (some-same (id_with t y) i e))

pub id-again : (t : List ℕ) (i : IdValue) → id_of t ≡ Some i → id_of i.text ≡ Some i
id-again t i e = subst (λ (x : List ℕ). id_of x ≡ Some i) (sym (id-text (is_placeholder t) (year_of_kind (has_year (kind_of_id t)) t) t i e)) e

pub path-again : (t : List ℕ) (p : List (List ℕ)) → path_of t ≡ Some p → path_of (path_text p) ≡ Some p
path-again t p e = path_of-path_text p (is_path-path_of t p e)

-- ---- closed tables

module _ {A : Type 0} (name : A → List ℕ) (t : List ℕ) where
  found : (b : Bool) (y x : A) (rest : Option A) → bytes_eq (name y) t ≡ b → (rest ≡ Some x → name x ≡ t) → cond b (Some y) rest ≡ Some x → name x ≡ t
  found true y x rest is more e = ap name (sym (some-same y x e)) ∙ (bytes_decides (name y) t).0 is
  found false y x rest is more e = more e

  named : (xs : List A) (x : A) → from_name name xs t ≡ Some x → name x ≡ t
  named [] x e = cc e
  named (y ∷ ys) x e = found (bytes_eq (name y) t) y x (from_name name ys t) refl (named ys x) e

  named-or : (o : Option A) (other : A) → ((x : A) → o ≡ Some x → name x ≡ t) → name other ≡ t → name (unwrap_or o other) ≡ t
  named-or None other h e = e
  named-or (Some x) other h e = h x refl

  pub named-again : (xs : List A) (x : A) → from_name name xs t ≡ Some x → from_name name xs (name x) ≡ Some x
  named-again xs x e = subst (λ (u : List ℕ). from_name name xs u ≡ Some x) (sym (named xs x e)) e

pub category-again : (t : List ℕ) → category_of (category_name (category_of t)) ≡ category_of t
category-again t = ap category_of (named-or category_name t (from_name category_name categories t) (category.Other t) (named category_name t categories) refl)

pub informational-again : (t : List ℕ) → informational_of (informational_name (informational_of t)) ≡ informational_of t
informational-again t = ap informational_of (named-or informational_name t (from_name informational_name informational_kinds t) (informational.Other t) (named informational_name t informational_kinds) refl)

-- ---- vectors

eight : {A B C D E F G H : Type 0} (a : Option A) (b : Option B) (c : Option C) (d : Option D) (e : Option E) (f : Option F) (g : Option G) (h : Option H)
    (make : A → B → C → D → E → F → G → H → Base) (m : ℕ) (x : Base)
    → ((a : A) (b : B) (c : C) (d : D) (e : E) (f : F) (g : G) (h : H) → (make a b c d e f g h).minor_version ≡ m)
    → (a >>= λ a. b >>= λ b. c >>= λ c. d >>= λ d. e >>= λ e. f >>= λ f. g >>= λ g. h >>= λ h. Some (make a b c d e f g h)) ≡ Some x → x.minor_version ≡ m
eight None b c d e f g h make m x is w = cc w
eight (Some a) None c d e f g h make m x is w = cc w
eight (Some a) (Some b) None d e f g h make m x is w = cc w
eight (Some a) (Some b) (Some c) None e f g h make m x is w = cc w
eight (Some a) (Some b) (Some c) (Some d) None f g h make m x is w = cc w
eight (Some a) (Some b) (Some c) (Some d) (Some e) None g h make m x is w = cc w
eight (Some a) (Some b) (Some c) (Some d) (Some e) (Some f) None h make m x is w = cc w
eight (Some a) (Some b) (Some c) (Some d) (Some e) (Some f) (Some g) None make m x is w = cc w
eight (Some a) (Some b) (Some c) (Some d) (Some e) (Some f) (Some g) (Some h) make m x is w =
    ap (λ (y : Base). y.minor_version) (sym (some-same (make a b c d e f g h) x w)) ∙ is a b c d e f g h

metrics-minor : (m : ℕ) (parts : List (List ℕ)) (x : Base) → metrics_of m parts ≡ Some x → x.minor_version ≡ m
metrics-minor m parts x e =
    eight (parse_metric attack_vector_letter attack_vector_values (codes "AV:") parts) (parse_metric attack_complexity_letter attack_complexity_values (codes "AC:") parts) (parse_metric privileges_required_letter privileges_required_values (codes "PR:") parts) (parse_metric user_interaction_letter user_interaction_values (codes "UI:") parts) (parse_metric scope_letter scope_values (codes "S:") parts) (parse_metric confidentiality_letter confidentiality_values (codes "C:") parts) (parse_metric integrity_letter integrity_values (codes "I:") parts) (parse_metric availability_letter availability_values (codes "A:") parts)
    (λ av ac pr ui s c i a. record { minor_version = m; av = av; ac = ac; pr = pr; ui = ui; s = s; c = c; i = i; a = a })
    m x (λ a b c d e f g h. refl) e

tested : (b : Bool) (o : Option Base) (x : Base) → only_if b o ≡ Some x → o ≡ Some x
tested true o x e = e
tested false o x e = cc e

base-minor : (m : ℕ) (o : Option (List ℕ)) (x : Base) → (o >>= base_of m) ≡ Some x → x.minor_version ≡ m
unfolding base_of
base-minor m None x e = cc e
base-minor m (Some t) x e = metrics-minor m (parts_of t) x (tested (length (parts_of t) == 8) (metrics_of m (parts_of t)) x e)

cvss-by : (a b : Option Base) (rest : Option (List ℕ)) (t : List ℕ) (v : Cvss) → ((x : Base) → a ≡ Some x → x.minor_version ≡ 0) → ((x : Base) → b ≡ Some x → x.minor_version ≡ 1)
    → or_else (a >>= λ x. Some (cvss.CvssV30 x)) (or_else (b >>= λ x. Some (cvss.CvssV31 x)) (option_map (λ r. cvss.CvssV40 t) rest)) ≡ Some v
    → cvss_of t ≡ Some v → cvss_of (cvss_text v) ≡ Some v
cvss-by (Some x) b rest t v h k e w = subst (λ (u : Cvss). cvss_of (cvss_text u) ≡ Some u) (some-same (cvss.CvssV30 x) v e) (again_0 x (h x refl))
cvss-by None (Some x) rest t v h k e w = subst (λ (u : Cvss). cvss_of (cvss_text u) ≡ Some u) (some-same (cvss.CvssV31 x) v e) (again_1 x (k x refl))
cvss-by None None None t v h k e w = cc e
cvss-by None None (Some r) t v h k e w = subst (λ (u : Cvss). cvss_of (cvss_text u) ≡ Some v) (some-same (cvss.CvssV40 t) v e) w

pub cvss-again : (t : List ℕ) (v : Cvss) → cvss_of t ≡ Some v → cvss_of (cvss_text v) ≡ Some v
cvss-again t v e =
    cvss-by (after_prefix (codes "CVSS:3.0/") t >>= base_of 0) (after_prefix (codes "CVSS:3.1/") t >>= base_of 1) (after_prefix (codes "CVSS:4.0/") t) t v
    (base-minor 0 (after_prefix (codes "CVSS:3.0/") t)) (base-minor 1 (after_prefix (codes "CVSS:3.1/") t)) e e
