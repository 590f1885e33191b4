-- There is one check of a subject: two answers that meet the definition are equal.
use Rattle.std.proofs.Common.{◌≡◌, ◌≢◌, ◌∙◌, ℕ, List, [], ◌∷◌, Option, Some, None, ap, map, refl, subst, sym}
use Rattle.std.specs.Prelude.{not}
use Rattle.std.specs.Cmp.Lexicographic.{slice_cmp}
use Rattle.std.specs.FinMap.{nat_cmp-IsAntisymmetric, slice_cmp-IsAntisymmetric}
use Rattle.std.specs.List.{All, filter}
use Rattle.std.specs.Ordering.{nat_cmp, ordering_reverse}
use Rattle.std.specs.declared.cmp.Ordering.{Ordering}
use Rattle.std.specs.declared.cmp.Ordering.TheVariants.{Equal, Greater, Less}
use Rattle.std.proofs.lemmas.Cmp.{nat_list_cmp_total}
use Rattle.std.proofs.lemmas.List.Elements.{All-filter, All-head, All-same, All-tail}
use Rattle.semver.specs.Parse.{Parts}
use Rattle.rustsec_versions.specs.order.Precedence.{IsVersion}
use Rattle.rustsec_lock.specs.Lockfile.{AreValid}
use Rattle.rustsec_lock.specs.Package.{PackageValue}
use Rattle.rustsec_graph.specs.Paths.{IsAnswer}
use Rattle.rustsec_texts.specs.Ids.{IdValue}
use Rattle.rustsec_advisory.specs.declared.advisory.Advisory.{Advisory}
use Rattle.rustsec_graph.specs.Edges.{dependents}
use Rattle.rustsec_check.specs.Checks.{IsCheckOf, is_unused}
use Rattle.rustsec_check.specs.Compatible.{is_compatible_with}
use Rattle.rustsec_check.specs.Findings.{AreFindings, IsFinding, IsUpdate, is_denied, is_old, pair_of}
use Rattle.rustsec_check.specs.Pairs.{counted, found, is_ignored}
use Rattle.rustsec_check.specs.Updates.{AreIdsOf, IsMover, IsUpdateBy, UpdateValue, counting, in_force, lists_of}
use Rattle.rustsec_check.specs.Values.{CheckValue, FindingValue, Found, SubjectValue}
use Rattle.rustsec_check.proofs.FoundPackages.{found-of}
use Rattle.rustsec_check.proofs.Movers.{one-ids}
use Rattle.rustsec_check.proofs.OneAnswer.{one-answer}

-- ---- paths

neither-after : (o : Ordering) → o ≢ Greater → ordering_reverse o ≢ Greater → o ≡ Equal
neither-after Less h k = absurd (k refl)
neither-after Equal h k = refl
neither-after Greater h k = absurd (h refl)

same-path : (p q : List ℕ) → slice_cmp nat_cmp p q ≢ Greater → slice_cmp nat_cmp q p ≢ Greater → p ≡ q
same-path p q h k =
    slice_cmp-IsAntisymmetric nat_cmp-IsAntisymmetric p q (neither-after (slice_cmp nat_cmp p q) h (λ g. k (nat_list_cmp_total.antisymm q p ∙ g)))

pub one-path : (edges : List (List ℕ)) (roots : List ℕ) (target : ℕ) (a b : Option (List ℕ)) → IsAnswer edges roots target a → IsAnswer edges roots target b → a ≡ b
one-path edges roots target None None h k = refl
one-path edges roots target None (Some q) h k = absurd (h q k.shortest.is_path)
one-path edges roots target (Some p) None h k = absurd (k p h.shortest.is_path)
one-path edges roots target (Some p) (Some q) h k = ap Some (same-path p q (h.none_before q k.shortest) (k.none_before p h.shortest))

-- ---- updates

one-update : (ids : List IdValue) (others : List Advisory) (p : PackageValue) (a : Advisory) (u v : UpdateValue)
    → IsUpdateBy ids others p a u → IsUpdateBy ids others p a v → u ≡ v
one-update ids others p a u v h k =
    let free : u.least_free ≡ v.least_free = one-answer (lists_of (a ∷ others)) p.version u.least_free v.least_free h.least_free k.least_free in
    let compatible : u.is_compatible ≡ v.is_compatible = h.is_compatible ∙ (ap (is_compatible_with p.version) free ∙ sym k.is_compatible) in
    let is_mover : Option Parts → Advisory → Type 0 = λ found. IsMover ids (lists_of (a ∷ in_force ids others)) p.version found in
    let moved : u.moved_by ≡ v.moved_by = one-ids (is_mover u.least_free) others u.moved_by v.moved_by h.moved_by
    (subst (λ (found : Option Parts). AreIdsOf (is_mover found) others v.moved_by) (sym free) k.moved_by) in
    λ i. record { least_free = free i; is_compatible = compatible i; moved_by = moved i }

-- ---- findings

one-finding-of : (s : SubjectValue) (f g : FindingValue) → IsVersion f.«package».version → pair_of f ≡ pair_of g → IsFinding s f → IsFinding s g → f ≡ g
one-finding-of s f g valid pair h k =
    let kind : f.kind ≡ g.kind = ap (λ (p : Found). p.kind) pair in
    let advisory : f.advisory ≡ g.advisory = ap (λ (p : Found). p.advisory) pair in
    let «package» : f.«package» ≡ g.«package» = ap (λ (p : Found). p.«package») pair in
    let place : f.place ≡ g.place = ap (λ (p : Found). p.place) pair in
    let denied : f.is_denied ≡ g.is_denied = h.is_denied ∙ (ap (is_denied s.denied) kind ∙ sym k.is_denied) in
    let old : f.is_old ≡ g.is_old = h.is_old ∙ (ap (is_old s.baseline) «package» ∙ sym k.is_old) in
    let path : f.path ≡ g.path
    = one-path s.graph.edges s.graph.roots f.place f.path g.path h.path
    (subst (λ (at : ℕ). IsAnswer s.graph.edges s.graph.roots at g.path) (sym place) k.path) in
    let on_it : f.dependents ≡ g.dependents = h.dependents ∙ (ap (dependents s.graph.edges) place ∙ sym k.dependents) in
    let update_of_g : IsVersion f.«package».version → IsUpdate s f.«package» f.advisory g.update
    = subst (λ (p : Found). IsVersion p.«package».version → IsUpdate s p.«package» p.advisory g.update) (sym pair) k.update in
    let update : f.update ≡ g.update = one-update s.settings.ignore (counting s.advisories f.«package») f.«package» f.advisory f.update g.update (h.update valid) (update_of_g valid) in
    λ i. record {
      kind = kind i;
      advisory = advisory i;
      «package» = «package» i;
      place = place i;
      is_denied = denied i;
      is_old = old i;
      path = path i;
      dependents = on_it i;
      update = update i;
    }

-- a package with a valid version, and a pair of one
abbrev pub HasVersion : PackageValue → Type 0
HasVersion p = IsVersion p.version

abbrev pub IsValidPair : Found → Type 0
IsValidPair f = HasVersion f.«package»

one-list : (s : SubjectValue) (fs gs : List FindingValue) → All IsValidPair (map pair_of fs) → map pair_of fs ≡ map pair_of gs
    → All (IsFinding s) fs → All (IsFinding s) gs → fs ≡ gs
one-list s [] [] valid pairs h k = refl
one-list s [] (g ∷ gs) valid pairs h k = cc pairs
one-list s (f ∷ fs) [] valid pairs h k = cc pairs
one-list s (f ∷ fs) (g ∷ gs) valid pairs h k =
    let head : pair_of f ≡ pair_of g = cc pairs in
    let tail : map pair_of fs ≡ map pair_of gs = cc pairs in
    let first : f ≡ g
    = one-finding-of s f g (All-head IsValidPair (pair_of f) (map pair_of fs) valid) head (All-head (IsFinding s) f fs h) (All-head (IsFinding s) g gs k) in
    let rest : fs ≡ gs
    = one-list s fs gs (All-tail IsValidPair (pair_of f) (map pair_of fs) valid) tail (All-tail (IsFinding s) f fs h) (All-tail (IsFinding s) g gs k) in
    λ i. first i ∷ rest i

-- ---- the check

one-findings : (s : SubjectValue) (fs gs : List FindingValue) → AreValid s.packages → AreFindings s fs → AreFindings s gs → fs ≡ gs
one-findings s fs gs valid h k =
    let pairs = found s.advisories s.packages s.settings in
    let all_valid = All-filter (λ f. not (is_ignored s.settings.ignore f)) IsValidPair pairs (found-of HasVersion s.advisories s.packages s.settings valid) in
    one-list s fs gs (All-same IsValidPair (map pair_of fs) (counted s.settings.ignore pairs) h.pairs all_valid) (h.pairs ∙ sym k.pairs) h.each k.each

pub one_check : (s : SubjectValue) (c d : CheckValue) → AreValid s.packages → IsCheckOf s c → IsCheckOf s d → d ≡ c
one_check s c d valid h k =
    let findings : d.findings ≡ c.findings = one-findings s d.findings c.findings valid k.findings h.findings in
    let ignored : d.ignored ≡ c.ignored = k.ignored ∙ sym h.ignored in
    let unused : d.unused ≡ c.unused
    = k.unused ∙ (ap (λ is. filter (is_unused s.advisories is) s.settings.ignore) ignored ∙ sym h.unused) in
    let unknown : d.unknown ≡ c.unknown = k.unknown ∙ sym h.unknown in
    let below : d.below_threshold ≡ c.below_threshold = k.below_threshold ∙ sym h.below_threshold in
    λ i. record {
      findings = findings i;
      ignored = ignored i;
      unused = unused i;
      unknown = unknown i;
      below_threshold = below i;
    }
