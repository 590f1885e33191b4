use Rattle.std.proofs.Common.{◌≡◌, ◌∙◌, ◌+◌, ◌++◌, ◌∷◌, [], ap, false, option_map, refl, rules, subst, sym, take}
use Rattle.std.proofs.lemmas.List.{take_all, take_more}
use Rattle.semver.specs.Identifiers.{parts_of}
use Rattle.rustsec_check.specs.LeastFree.{HaveValidStarts}
use Rattle.rustsec_check.specs.Moving.{NoneMoves}
use Rattle.rustsec_check.proofs.Fixes.{valid-starts}
use Rattle.rustsec_check.proofs.Moves.{held-there, moved, none-more, start-there, unmoved}
use Rattle.rustsec_check.proofs.moving.Answer.is_moved_by.Goals as goal

pub returns-then-is_moved_in-clause-ok : goal.returns-then-is_moved_in-clause-ok
returns-then-is_moved_in-clause-ok c = λ all of valid.
    let v = parts_of c.args.self.now.version.now in
    let answer = option_map parts_of c.args.self.now.least_free.now in
    let ls = c.args.versions.now in
    let rs = c.as_slice-range-items.result.now in
    let i = c.loop-range.range-index in
    let r = c.range-item.result in
    let same : rs ≡ c.in_ok-ranges.ranges.items = c.as_slice-range-items.ensures.value in
    let more : take (i + 1) rs ≡ take i rs ++ r ∷ [] = take_more rs i r c.loop-range-test.true ∙ ap (λ x. take i rs ++ x ∷ []) (sym c.range-item.is) in
    let start = start-there rs i r more (subst HaveValidStarts (sym same) (valid-starts ls c.in_ok-ranges.ranges.items c.in_ok-ranges.ensures.ranges)) in
    let moves = (c.is_moved_in.ensures all of valid start).0 c.if-is_moved_in.true in
    (λ h. moved all v answer ls rs r (rw same c.in_ok-ranges.ensures.agree) (held-there rs i r more) moves, λ m. refl)

pub loop-range-preserved : goal.loop-range-preserved
loop-range-preserved c = λ all of valid.
    let v = parts_of c.args.self.now.version.now in
    let answer = option_map parts_of c.args.self.now.least_free.now in
    let rs = c.as_slice-range-items.result.now in
    let i = c.loop-range.range-index in
    let r = c.range-item.result in
    let same : rs ≡ c.in_ok-ranges.ranges.items = c.as_slice-range-items.ensures.value in
    let more : take (i + 1) rs ≡ take i rs ++ r ∷ [] = take_more rs i r c.loop-range-test.true ∙ ap (λ x. take i rs ++ x ∷ []) (sym c.range-item.is) in
    let start = start-there rs i r more (subst HaveValidStarts (sym same) (valid-starts c.args.versions.now c.in_ok-ranges.ranges.items c.in_ok-ranges.ensures.ranges)) in
    let off : c.is_moved_in.result ≡ false = search rules in
    subst (NoneMoves all v answer) (sym more)
    (none-more all v answer (take i rs) r (c.loop-range.invariant all of valid) (λ m. cc (sym off ∙ (c.is_moved_in.ensures all of valid start).1 m)))

pub returns-clause-ok : goal.returns-clause-ok
returns-clause-ok c = λ all of valid.
    let v = parts_of c.args.self.now.version.now in
    let answer = option_map parts_of c.args.self.now.least_free.now in
    let rs = c.as_slice-range-items.result.now in
    let same : rs ≡ c.in_ok-ranges.ranges.items = c.as_slice-range-items.ensures.value in
    let whole : take c.loop-range.range-index rs ≡ rs = take_all c.loop-range.range-index rs c.loop-range-test.false in
    let none = subst (NoneMoves all v answer) whole (c.loop-range.invariant all of valid) in
    (λ h. cc h, λ m. absurd (unmoved all v answer c.args.versions.now rs (rw same c.in_ok-ranges.ensures.agree) none m))
