use Rattle.std.specs.Result.{is_ok}
use Rattle.std.proofs.Common.{Global, Vec, ◌≡◌, ◌∙◌, ◌+◌, ◌++◌, ◌∷◌, [], List, ap, false, map, option_map, rules, subst, sym, take, true}
use Rattle.std.proofs.lemmas.List.{map-append, map_more, take_all}
use Rattle.std.specs.Borrow.{Bor}
use Rattle.semver.specs.Identifiers.{parts_of}
use Rattle.rustsec_texts.specs.Ids.{IdValue}
use Rattle.rustsec_advisory.specs.declared.advisory.Advisory.{Advisory}
use Rattle.rustsec_check.specs.Updates.{AreIdsOf, IsMover}
use Rattle.rustsec_check.proofs.Movers.{ids-next}
use Rattle.rustsec_check.proofs.counted.movers.Goals as goal
use Rattle.rustsec_check.proofs.counted.movers.Goals.{else-branch, then-branch+in_ok-map_err}

pub loop-advisory-preserved : goal.loop-advisory-preserved
loop-advisory-preserved c = λ all of valid.
    let P = IsMover c.args.ids.now all (parts_of c.args.answer.version.now) (option_map parts_of c.args.answer.least_free.now) in
    let xs = c.args.advisories.now in
    let i = c.loop-advisory.advisory-index in
    let a = c.advisory-item.result.now in
    let b = c.in_ok-is_mover.field-0 in
    let so_far = map (λ (x : Bor Advisory). x.now) (take i xs) in
    let ids = map (λ (x : Bor IdValue). x.now) c.loop-advisory.moving.items in
    let new = map (λ (x : Bor IdValue). x.now) c.if-branch.moving.items in
    let more : map (λ (x : Bor Advisory). x.now) (take (i + 1) xs) ≡ so_far ++ a ∷ [] =
    map_more (λ (x : Bor Advisory). x.now) xs i c.advisory-item.result c.loop-advisory-test.true ∙ ap (λ (x : Bor Advisory). so_far ++ x.now ∷ []) (sym c.advisory-item.is) in
    let decides = c.in_ok-is_mover.ensures.ok all of valid in
    let held = c.loop-advisory.invariant all of valid in
    subst (λ (ys : List Advisory). AreIdsOf P ys new) (sym more) (elim c.if-branch.branch [
      | then-branch+in_ok-map_err w ↦
          let on : b ≡ true = search rules in
          let good : is_ok w.push.result ≡ true = search rules in
          let items = rw good at w.push.ensures.items in
          let added : new ≡ ids ++ a.metadata.id ∷ [] = ap (λ (v : Vec (Bor IdValue) Global). map (λ (x : Bor IdValue). x.now) v.items) w.moving-is ∙ (ap (map (λ (x : Bor IdValue). x.now)) items ∙ map-append (λ (x : Bor IdValue). x.now) c.loop-advisory.moving.items _) in
          ids-next P b so_far ids new a decides held (λ e. added) (λ e. cc (sym on ∙ e))
      | else-branch w ↦
          let off : b ≡ false = search rules in
          let same : new ≡ ids = search rules in
          ids-next P b so_far ids new a decides held (λ e. cc (sym off ∙ e)) (λ e. same)
    ])

pub returns-clause-ok : goal.returns-clause-ok
returns-clause-ok c = λ all of valid.
    let P = IsMover c.args.ids.now all (parts_of c.args.answer.version.now) (option_map parts_of c.args.answer.least_free.now) in
    let ids = map (λ (x : Bor IdValue). x.now) c.loop-advisory.moving.items in
    let whole = take_all c.loop-advisory.advisory-index c.args.advisories.now c.loop-advisory-test.false in
    subst (λ (xs : List (Bor Advisory)). AreIdsOf P (map (λ (x : Bor Advisory). x.now) xs) ids) whole (c.loop-advisory.invariant all of valid)
