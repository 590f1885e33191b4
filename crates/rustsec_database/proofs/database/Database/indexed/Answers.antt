use Rattle.std.proofs.Common.{◌∙◌, ◌≤◌, ap, arith, length, map, refl, subst, sym}
use Rattle.std.proofs.lemmas.List.{length-map, take_all}
use Rattle.std.specs.List.{filter, slice_get}
use Rattle.rustsec_database.specs.Places.{at_places}
use Rattle.rustsec_database.specs.Postings.{AreListed, IsIndexOf, IsPostingAmong}
use Rattle.rustsec_database.proofs.Places.{found-far, found-more, found-none, found-other, is-false}
use Rattle.rustsec_database.proofs.Postings.{among, by-digest, listed-at, near-by, place-at, place-within}
use Rattle.rustsec_database.proofs.database.Database.indexed.Goals as goal
use Rattle.rustsec_database.proofs.database.Database.indexed.Goals.{else-is_near, then-is_near+in-Some+then-holds+in_ok-push, then-is_near+in-Some+else-holds, then-is_near+in_default}

pub loop-posting-preserved : goal.loop-posting-preserved
loop-posting-preserved g c =
    let test = g.T.Predicate.holds c.args.test.now in
    let postings = c.postings-postings.result.now in
    let places = map (λ p. p.1) postings in
    let i = c.loop-posting.posting-index in
    let p = c.posting-item.result in
    let n = p.1 in
    let xs = c.args.self.now in
    let within = place-within postings i c.loop-posting-test.true in
    let listed = listed-at c.digest-digest.result xs c.self.inside.index postings c.postings-postings.ensures
    (subst (λ l. IsIndexOf l c.self.inside.index) c.self.view_is c.self.invariant) in
    let here = subst (IsPostingAmong xs) (sym c.posting-item.is) (among c.digest-digest.result xs postings listed i p c.loop-posting-test.true) in
    let at = place-at postings i p c.loop-posting-test.true c.posting-item.is in
    elim c.if-is_near.branch [
      | then-is_near+in-Some+then-holds+in_ok-push w ↦ ap (λ v. map (λ a. a.now) v.items) w.found-is ∙ (ap (map (λ a. a.now)) w.in_ok-push.ensures.items
          ∙ found-more test places i n xs c.loop-posting.found.items w.in-Some.advisory within at c.loop-posting.invariant
          (w.in-Some.ensures ∙ (λ j. slice_get (c.self.view_is j) (w.slot.ensures j))) (sym w.holds.ensures ∙ w.if-holds.true))
      | then-is_near+in-Some+else-holds w ↦ ap (λ v. map (λ a. a.now) v.items) w.found-is
          ∙ found-other test places i n xs c.loop-posting.found.items w.in-Some.advisory.now within at c.loop-posting.invariant
          (w.in-Some.ensures ∙ (λ j. slice_get (c.self.view_is j) (w.slot.ensures j))) (sym w.holds.ensures ∙ w.if-holds.false)
      | then-is_near+in_default w ↦ ap (λ v. map (λ a. a.now) v.items) w.found-is
          ∙ found-none test places i n xs c.loop-posting.found.items within at c.loop-posting.invariant
          (w.in_default.ensures ∙ (λ j. slice_get (c.self.view_is j) (w.slot.ensures j)))
      | else-is_near w ↦ ap (λ v. map (λ a. a.now) v.items) w.found-is
          ∙ found-far test places i n xs c.loop-posting.found.items (slice_get xs n) within at c.loop-posting.invariant refl
          (λ x there. is-false (test x) (λ t. cc (
          sym (near-by c.digest-digest.result c.args.name.now _ n p x c.digest-digest.ensures (here x (sym there)) (c.requires.named x t) (c.requires.affects x t))
          ∙ (sym c.is_near.ensures ∙ w.if-is_near.false))))
    ]

pub returns : goal.returns
returns g c =
    let test = g.T.Predicate.holds c.args.test.now in
    let postings = c.postings-postings.result.now in
    let places = map (λ p. p.1) postings in
    let i = c.loop-posting.posting-index in
    let xs = c.args.self.now in
    let len = length-map postings (λ p. p.1) in
    let past = c.loop-posting-test.false in
    let all : length places ≤ i = omega (arith, len, past) in
    let listed = listed-at c.digest-digest.result xs c.self.inside.index postings c.postings-postings.ensures
    (subst (λ l. IsIndexOf l c.self.inside.index) c.self.view_is c.self.invariant) in
    c.loop-posting.invariant
    ∙ (ap (λ ns. filter test (at_places ns xs)) (take_all i places all)
    ∙ by-digest test c.args.name.now xs postings c.requires.named (subst (λ n. AreListed n xs postings) c.digest-digest.ensures listed))
