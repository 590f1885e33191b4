use Rattle.std.proofs.Common.{◌≡◌, ◌∙◌, None, Some, false, option_map, rules, subst, sym, true}
use Rattle.semver.specs.Identifiers.{parts_of}
use Rattle.semver.specs.Parse.{Parts}
use Rattle.rustsec_versions.specs.order.Precedence.{IsVersion}
use Rattle.rustsec_versions.specs.ranges.Ranges.{is_until}
use Rattle.rustsec_check.specs.LeastFree.{IsLeastFree}
use Rattle.rustsec_check.specs.Moving.{later}
use Rattle.rustsec_check.proofs.Moves.{later-valid, moves-at, never-moves, not-past}
use Rattle.rustsec_check.proofs.moving.Answer.is_moved_in.Goals as goal

pub returns-then-is_until : goal.returns-then-is_until
returns-then-is_until c = λ all of valid start.
    let v = parts_of c.args.self.now.version.now in
    let answer = option_map parts_of c.args.self.now.least_free.now in
    let r = c.args.range.now in
    let found = parts_of c.in-Some.found.now in
    let from : parts_of c.later-start.result.now ≡ later r.introduced v = search rules in
    let good : IsVersion (parts_of c.later-start.result.now) = subst IsVersion (sym from) (later-valid v r.introduced valid start) in
    let free : IsLeastFree all (later r.introduced v) (Some found) = subst (λ (x : Parts). IsLeastFree all x (Some found)) from (rw c.in-Some.is at (c.sweep.ensures all of good)) in
    let till : is_until r.fixed found ≡ true = search rules in
    let above : c.is_above.result ≡ is_until answer found = search rules in
    (λ h. moves-at all v answer r found free till (sym above ∙ h), λ m. above ∙ (not-past all v answer r found free m).1)

pub returns-else-is_until : goal.returns-else-is_until
returns-else-is_until c = λ all of valid start.
    let v = parts_of c.args.self.now.version.now in
    let answer = option_map parts_of c.args.self.now.least_free.now in
    let r = c.args.range.now in
    let found = parts_of c.in-Some.found.now in
    let from : parts_of c.later-start.result.now ≡ later r.introduced v = search rules in
    let good : IsVersion (parts_of c.later-start.result.now) = subst IsVersion (sym from) (later-valid v r.introduced valid start) in
    let free : IsLeastFree all (later r.introduced v) (Some found) = subst (λ (x : Parts). IsLeastFree all x (Some found)) from (rw c.in-Some.is at (c.sweep.ensures all of good)) in
    let till : c.is_until.result ≡ is_until r.fixed found = search rules in
    let off : c.is_until.result ≡ false = search rules in
    (λ h. cc (sym off ∙ h), λ m. till ∙ (not-past all v answer r found free m).0)

pub returns-in-None : goal.returns-in-None
returns-in-None c = λ all of valid start.
    let v = parts_of c.args.self.now.version.now in
    let answer = option_map parts_of c.args.self.now.least_free.now in
    let r = c.args.range.now in
    let from : parts_of c.later-start.result.now ≡ later r.introduced v = search rules in
    let good : IsVersion (parts_of c.later-start.result.now) = subst IsVersion (sym from) (later-valid v r.introduced valid start) in
    let free : IsLeastFree all (later r.introduced v) None = subst (λ (x : Parts). IsLeastFree all x None) from (rw c.in-None.is at (c.sweep.ensures all of good)) in
    (λ h. cc h, λ m. absurd (never-moves all v answer r free m))
