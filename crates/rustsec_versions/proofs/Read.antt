-- In each requirement that is read from a text the comparators leave out their last numbers alone.
use Rattle.std.proofs.Common.{◌≡◌, ◌==◌, ℕ, suc, zero, Bool, List, [], ◌∷◌, Option, None, Some, Result, Ok, Err, false, true, inl, inr, length, refl, subst}
use Rattle.std.specs.List.{All}
use Rattle.std.proofs.lemmas.Bool.{cases_Bool}
use Rattle.std.proofs.lemmas.List.Elements.{All-cons, All-nil}
use Rattle.semver.specs.Parse.{◌>>=◌, Held, Minor, Parsed, Patch, build_part, comparator_in, comparator_of, comparator_or, has, minor_of, minor_part, next_text, numeric, op_of, patch_number, patch_of, patch_part, pre_part, req_after, req_from, req_next, req_of, strip_spaces, wild_op, wild_req, wildcard_of}
use Rattle.semver.specs.declared.Op.{Op}
use Rattle.semver.specs.declared.error.Error.{Error}
use Rattle.semver.specs.declared.error.Position.{Position}
use Rattle.semver.specs.declared.error.Position.TheVariants as place
use Rattle.semver.proofs.Grammar.{bind-ok}
use Rattle.semver.proofs.Numerals.{ok-value}
use Rattle.semver.proofs.Requirements.{held}
use Rattle.rustsec_versions.specs.Matching.{LeavesLast}

some-none : {P : Type 0} (n : ℕ) (o : Option ℕ) → o ≡ Some n → o ≡ None → P
some-none n o is none = cc none

-- ---- a patch number

-- what is read without a patch
none-read : (o : Op) (pos : Position) (text : List ℕ) (p : Patch) → ◌≡◌ {A = Result Patch Error} (Ok (o, None, pos, text)) (Ok p) → p.1 ≡ None
none-read o pos text p h = subst (λ (q : Patch). q.1 ≡ None) (ok-value (o, None, pos, text) p h) refl

wild-number : (o : Op) (text : List ℕ) (w : Option (ℕ × List ℕ)) (default : Bool) (p : Patch) → patch_number o true text w default ≡ Ok p → p.1 ≡ None
wild-number o text (Some w) default p h = none-read (wild_op default o) place.Patch w.1 p h
wild-number o text None default p h = cc h

-- after a wildcard for the minor number
wild-patch : (default : Bool) (o : Op) (pos : Position) (text : List ℕ) (p : Patch) → patch_of default o true pos text ≡ Ok p → p.1 ≡ None
wild-patch default o pos [] p h = none-read o pos [] p h
wild-patch default o pos (b ∷ rest) p h = elim (cases_Bool (b == 46)) [
  | inl dot ↦ wild-number o rest (wildcard_of rest) default p (rw dot at h)
  | inr other ↦ none-read o pos (b ∷ rest) p (rw other at h)
]

-- where no dot follows the major number
undotted-patch : (default : Bool) (o : Op) (pos : Position) (b : ℕ) (rest : List ℕ) (p : Patch) → (b == 46) ≡ false
    → patch_of default o false pos (b ∷ rest) ≡ Ok p → p.1 ≡ None
undotted-patch default o pos b rest p other h = none-read o pos (b ∷ rest) p (rw other at h)

-- ---- a minor number

abbrev ReadsNone : Bool → Minor → Type 0
ReadsNone default m = m.1 ≡ None → (p : Patch) → patch_part default m ≡ Ok p → p.1 ≡ None

same-minor : (default : Bool) (n m : Minor) → ◌≡◌ {A = Result Minor Error} (Ok n) (Ok m) → ReadsNone default n → ReadsNone default m
same-minor default n m h = subst (λ (k : Minor). ReadsNone default n → ReadsNone default k) (ok-value n m h) (λ reads. reads)

dotted-minor : (default : Bool) (o : Op) (text : List ℕ) (w : Option (ℕ × List ℕ)) (m : Minor) → minor_of default o text w ≡ Ok m → ReadsNone default m
dotted-minor default o text (Some w) m h =
    same-minor default (wild_op default o, None, true, place.Minor, w.1) m h (λ is p. wild-patch default (wild_op default o) place.Minor w.1 p)
dotted-minor default o text None m h =
    let read = bind-ok (numeric place.Minor text) _ m h in
    same-minor default (o, Some read.0.0, false, place.Minor, read.0.1) m read.2 (λ is. some-none read.0.0 (Some read.0.0) refl is)

minor-none : (default : Bool) (o : Op) (text : List ℕ) (m : Minor) → minor_part default o text ≡ Ok m → ReadsNone default m
minor-none default o [] m h = same-minor default (o, None, false, place.Major, []) m h (λ is p. none-read o place.Major [] p)
minor-none default o (b ∷ rest) m h = elim (cases_Bool (b == 46)) [
  | inl dot ↦ dotted-minor default o rest (wildcard_of rest) m (rw dot at h)
  | inr other ↦
      same-minor default (o, None, false, place.Major, b ∷ rest) m (rw other at h) (λ is p. undotted-patch default o place.Major b rest p other)
]

-- ---- a pre-release

pre-none : (n : Option ℕ) (pos : Position) (text : List ℕ) (e : List ℕ × Position × List ℕ) → pre_part (has n) pos text ≡ Ok e → n ≡ None → e.0 ≡ []
pre-none None pos text e h is = subst (λ (q : List ℕ × Position × List ℕ). q.0 ≡ []) (ok-value ([], pos, text) e h) refl
pre-none (Some n) pos text e h is = cc is

-- ---- a comparator

by-build : (a : ℕ) (m : Minor) (p : Patch) (e : List ℕ × Position × List ℕ) (r : Parsed) → (m.1 ≡ None → p.1 ≡ None) → (p.1 ≡ None → e.0 ≡ [])
    → (build_part (has p.1) e.1 e.2 >>= λ b. Ok (p.0, a, m.1, p.1, e.0, b.0, strip_spaces b.1)) ≡ Ok r → LeavesLast (held r)
by-build a m p e r patch pre h =
    let build = bind-ok (build_part (has p.1) e.1 e.2) _ r h in
    subst (λ (q : Parsed). LeavesLast (held q)) (ok-value (p.0, a, m.1, p.1, e.0, build.0.0, strip_spaces build.0.1) r build.2)
    (record { patch = patch; pre = pre })

by-pre : (a : ℕ) (m : Minor) (p : Patch) (r : Parsed) → (m.1 ≡ None → p.1 ≡ None)
    → (pre_part (has p.1) p.2 p.3 >>= λ e. build_part (has p.1) e.1 e.2 >>= λ b. Ok (p.0, a, m.1, p.1, e.0, b.0, strip_spaces b.1)) ≡ Ok r → LeavesLast (held r)
by-pre a m p r patch h =
    let pre = bind-ok (pre_part (has p.1) p.2 p.3) _ r h in
    by-build a m p pre.0 r patch (pre-none p.1 p.2 p.3 pre.0 pre.1) pre.2

by-patch : (default : Bool) (o : Op) (text : List ℕ) (a : ℕ) (m : Minor) (r : Parsed) → minor_part default o text ≡ Ok m
    → (patch_part default m >>= λ p. pre_part (has p.1) p.2 p.3 >>= λ e. build_part (has p.1) e.1 e.2
    >>= λ b. Ok (p.0, a, m.1, p.1, e.0, b.0, strip_spaces b.1)) ≡ Ok r → LeavesLast (held r)
by-patch default o text a m r read h =
    let patch = bind-ok (patch_part default m) _ r h in
    by-pre a m patch.0 r (λ is. minor-none default o text m read is patch.0 patch.1) patch.2

comparator-last : (input : List ℕ) (r : Parsed) → comparator_of input ≡ Ok r → LeavesLast (held r)
comparator-last input r h =
    let default = length input == length (op_of input).1 in
    let major = bind-ok (numeric place.Major (strip_spaces (op_of input).1)) _ r h in
    let minor = bind-ok (minor_part default (op_of input).0 major.0.1) _ r major.2 in
    by-patch default (op_of input).0 major.0.1 major.0.0 minor.0 r minor.1 minor.2

or-read : (r : Result Parsed Error) (input : List ℕ) (p : Parsed) → comparator_or r input ≡ Ok p → r ≡ Ok p
or-read (Ok q) input p h = h
or-read (Err e) input p h = cc h

-- ---- a requirement

next-last : (rest : List ℕ → Result (List Held) Error) (c : Held) (next : Option (List ℕ)) (cs : List Held)
    → ((text : List ℕ) (ds : List Held) → rest text ≡ Ok ds → All LeavesLast ds) → LeavesLast c → req_next rest c next ≡ Ok cs → All LeavesLast cs
next-last rest c None cs more last h =
    subst (λ (ds : List Held). All LeavesLast ds) (ok-value (c ∷ []) cs h) (All-cons LeavesLast c [] last (All-nil LeavesLast))
next-last rest c (Some text) cs more last h =
    let read = bind-ok (rest text) _ cs h in
    subst (λ (ds : List Held). All LeavesLast ds) (ok-value (c ∷ read.0) cs read.2) (All-cons LeavesLast c read.0 last (more text read.0 read.1))

from-last : (n : ℕ) (text : List ℕ) (cs : List Held) → req_from n text ≡ Ok cs → All LeavesLast cs
unfolding req_from
from-last zero text cs h = cc h
from-last (suc n) text cs h =
    let first = bind-ok (comparator_in text) _ cs h in
    let next = bind-ok (next_text first.0.5 first.0.6) _ cs first.2 in
    next-last (req_from n) (held first.0) next.0 cs (from-last n) (comparator-last text first.0 (or-read (comparator_of text) text first.0 first.1)) next.2

wild-last : (ch : ℕ) (text : List ℕ) (cs : List Held) → wild_req ch text ≡ Ok cs → All LeavesLast cs
wild-last ch [] cs h = subst (λ (ds : List Held). All LeavesLast ds) (ok-value [] cs h) (All-nil LeavesLast)
wild-last ch (b ∷ rest) cs h = elim (cases_Bool (b == 44)) [
  | inl comma ↦ cc (rw comma at h)
  | inr other ↦ cc (rw other at h)
]

after-last : (w : Option (ℕ × List ℕ)) (text : List ℕ) (cs : List Held) → req_after w text ≡ Ok cs → All LeavesLast cs
after-last None text cs h = from-last 32 text cs h
after-last (Some w) text cs h = wild-last w.0 (strip_spaces w.1) cs h

pub read-last : (text : List ℕ) (cs : List Held) → req_of text ≡ Ok cs → All LeavesLast cs
read-last text cs h = after-last (wildcard_of (strip_spaces text)) (strip_spaces text) cs h
