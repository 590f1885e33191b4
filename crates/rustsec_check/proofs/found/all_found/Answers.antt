use Rattle.std.proofs.Common.{◌≡◌, ◌∙◌, ◌++◌, ◌<◌, ap, append_assoc, get_or, length, map, rules, sym, take}
use Rattle.std.specs.Borrow.{Bor}
use Rattle.std.specs.List.{filter_map}
use Rattle.rustsec_advisory.specs.declared.advisory.Advisory.{Advisory}
use Rattle.rustsec_check.specs.Pairs.{as_unwarned, as_wanted, found, vulnerable_at, wanted_at}
use Rattle.rustsec_check.proofs.Packages.{found-more, found-none}
use Rattle.rustsec_check.proofs.BothKinds.{vulnerable-by, wanted-by}
use Rattle.rustsec_check.proofs.found.all_found.Goals as goal

pub loop-place-init : goal.loop-place-init
loop-place-init c = c.new-found.ensures.items ∙ sym (found-none c.args.database.now c.args.settings.now)

pub loop-place-preserved : goal.loop-place-preserved
loop-place-preserved c =
    let advisories = c.args.database.now in
    let s = c.args.settings.now in
    let packages = c.args.lockfile.now.packages in
    let i = c.loop-place.place in
    let p = c.package-item.result in
    let before = found advisories (take i packages) s in
    let low : i < length packages = search rules in
    let is : p ≡ get_or packages i p = search rules in
    let advised = ap (map (λ (a : Bor Advisory). a.now)) c.deref.ensures.value ∙ c.in_ok-advisories.ensures in
    let again = ap (map (λ (a : Bor Advisory). a.now)) c.deref-in-loop-place.ensures.value ∙ c.in_ok-advisories.ensures in
    let vulnerable = ap (filter_map (as_unwarned (i, p))) advised ∙ vulnerable-by advisories s c.in_ok-query.query (i, p) c.in_ok-query.ensures.ok in
    let wanted = ap (filter_map (as_wanted s (i, p))) again ∙ wanted-by advisories s c.in_ok-query.query (i, p) c.in_ok-query.ensures.ok in
    let so_far = ap (λ fs. fs ++ vulnerable_at advisories s (i, p)) c.loop-place.invariant in
    let more = c.in_ok-push_vulnerable.ensures ∙ (ap (λ vs. c.loop-place.found.items ++ vs) vulnerable ∙ so_far) in
    c.in_ok-push_wanted.ensures ∙ (ap (λ ws. c.push_vulnerable.new.found.items ++ ws) wanted
    ∙ (ap (λ fs. fs ++ wanted_at advisories s (i, p)) more
    ∙ (append_assoc before (vulnerable_at advisories s (i, p)) (wanted_at advisories s (i, p))
    ∙ sym (found-more advisories s packages i p low is))))
