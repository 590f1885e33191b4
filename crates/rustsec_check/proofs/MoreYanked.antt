-- Yanked packages: one more package of a list, and no other answer.
use Rattle.std.proofs.Common.{◌≡◌, ◌∙◌, ◌+◌, ◌<◌, ◌++◌, ℕ, true, false, List, [], ◌∷◌, ap, arith, get_or, length, map, refl, subst, sym, take}
use Rattle.std.specs.List.{All, enumerate_from, filter}
use Rattle.std.proofs.lemmas.List.{append-nil, length-take-le, map-append, take_more}
use Rattle.std.proofs.lemmas.List.Elements.{All-head, All-push, All-tail, filter-append}
use Rattle.rustsec_lock.specs.Package.{PackageValue}
use Rattle.rustsec_graph.specs.Edges.{dependents}
use Rattle.rustsec_graph.specs.Paths.{IsAnswer}
use Rattle.rustsec_check.specs.Findings.{is_old}
use Rattle.rustsec_check.specs.Values.{SubjectValue, YankedValue}
use Rattle.rustsec_check.specs.Yanked.{AreYanked, AreYankedOf, IsYanked, is_yanked, placed_of, yanked_in}
use Rattle.rustsec_check.proofs.OneCheck.{one-path}
use Rattle.rustsec_check.proofs.Packages.{enumerate-more}

-- the places of one more package
places-more : (packages : List PackageValue) (i : ℕ) (p : PackageValue) → i < length packages → p ≡ get_or packages i p
    → enumerate_from 0 (take (i + 1) packages) ≡ enumerate_from 0 (take i packages) ++ (i, p) ∷ []
places-more packages i p low is =
    ap (enumerate_from 0) (take_more packages i p low ∙ ap (λ x. take i packages ++ x ∷ []) (sym is))
    ∙ enumerate-more 0 i (take i packages) p (omega (arith, length-take-le i packages (omega (arith, low))))

-- a package that is yanked is appended
pub one-yanked : (s : SubjectValue) (yanked packages : List PackageValue) (i : ℕ) (p : PackageValue) (old new : List YankedValue) (y : YankedValue)
    → i < length packages → p ≡ get_or packages i p → AreYankedOf s yanked (take i packages) old → is_yanked yanked (i, p) ≡ true
    → placed_of y ≡ (i, p) → IsYanked s y → new ≡ old ++ y ∷ [] → AreYankedOf s yanked (take (i + 1) packages) new
one-yanked s yanked packages i p old new y low is so h at known more =
    let before = enumerate_from 0 (take i packages) in
    let all : yanked_in yanked (take (i + 1) packages) ≡ yanked_in yanked (take i packages) ++ (i, p) ∷ []
    = ap (filter (is_yanked yanked)) (places-more packages i p low is) ∙ (filter-append (is_yanked yanked) before ((i, p) ∷ []) ∙ rw h refl) in
    rw more (record {
      places = map-append placed_of old (y ∷ []) ∙ (ap (λ ps. ps ++ placed_of y ∷ []) so.places
          ∙ (ap (λ (placed : ℕ × PackageValue). yanked_in yanked (take i packages) ++ placed ∷ []) at ∙ sym all));
      each = All-push (IsYanked s) old y so.each known;
    })

-- and another one is not
pub none-yanked : (s : SubjectValue) (yanked packages : List PackageValue) (i : ℕ) (p : PackageValue) (old new : List YankedValue)
    → i < length packages → p ≡ get_or packages i p → AreYankedOf s yanked (take i packages) old → is_yanked yanked (i, p) ≡ false → new ≡ old
    → AreYankedOf s yanked (take (i + 1) packages) new
none-yanked s yanked packages i p old new low is so h same =
    let before = enumerate_from 0 (take i packages) in
    let all : yanked_in yanked (take (i + 1) packages) ≡ yanked_in yanked (take i packages)
    = ap (filter (is_yanked yanked)) (places-more packages i p low is)
    ∙ (filter-append (is_yanked yanked) before ((i, p) ∷ []) ∙ rw h (append-nil (yanked_in yanked (take i packages)))) in
    rw same (record { places = so.places ∙ sym all; each = so.each })

-- ---- no other answer

one-of : (s : SubjectValue) (y z : YankedValue) → placed_of y ≡ placed_of z → IsYanked s y → IsYanked s z → y ≡ z
one-of s y z placed h k =
    let place : y.place ≡ z.place = ap (λ (p : ℕ × PackageValue). p.0) placed in
    let «package» : y.«package» ≡ z.«package» = ap (λ (p : ℕ × PackageValue). p.1) placed in
    let denied : y.is_denied ≡ z.is_denied = h.is_denied ∙ sym k.is_denied in
    let old : y.is_old ≡ z.is_old = h.is_old ∙ (ap (is_old s.baseline) «package» ∙ sym k.is_old) in
    let path : y.path ≡ z.path
    = one-path s.graph.edges s.graph.roots y.place y.path z.path h.path
    (subst (λ (at : ℕ). IsAnswer s.graph.edges s.graph.roots at z.path) (sym place) k.path) in
    let on_it : y.dependents ≡ z.dependents = h.dependents ∙ (ap (dependents s.graph.edges) place ∙ sym k.dependents) in
    λ i. record {
      «package» = «package» i;
      place = place i;
      is_denied = denied i;
      is_old = old i;
      path = path i;
      dependents = on_it i;
    }

one-list-of : (s : SubjectValue) (ys zs : List YankedValue) → map placed_of ys ≡ map placed_of zs → All (IsYanked s) ys → All (IsYanked s) zs → ys ≡ zs
one-list-of s [] [] places h k = refl
one-list-of s [] (z ∷ zs) places h k = cc places
one-list-of s (y ∷ ys) [] places h k = cc places
one-list-of s (y ∷ ys) (z ∷ zs) places h k =
    let head : placed_of y ≡ placed_of z = cc places in
    let tail : map placed_of ys ≡ map placed_of zs = cc places in
    let first : y ≡ z = one-of s y z head (All-head (IsYanked s) y ys h) (All-head (IsYanked s) z zs k) in
    let rest : ys ≡ zs = one-list-of s ys zs tail (All-tail (IsYanked s) y ys h) (All-tail (IsYanked s) z zs k) in
    λ i. first i ∷ rest i

pub one_yanked : (s : SubjectValue) (yanked : List PackageValue) (ys zs : List YankedValue) → AreYanked s yanked ys → AreYanked s yanked zs → ys ≡ zs
one_yanked s yanked ys zs h k = one-list-of s ys zs (h.places ∙ sym k.places) h.each k.each
