use Rattle.std.proofs.Common.{◌≡◌, ◌+◌, ◌-◌, ◌/◌, ◌<◌, ◌^◌, arith, get_or, length, subst, sym, true, false}
use Rattle.std.specs.Prelude.{min}
use Rattle.std.proofs.lemmas.List.{get_or_default}
use Rattle.rustsec_versions.specs.interval.Interval.{Interval, has_bound, is_after}
use Rattle.rustsec_versions.proofs.lemmas.search.Halving.{all-partition_point, at_least-end, at_least-half, begins-if_first, none-partition_point, within-end, within-half}
use Rattle.rustsec_versions.proofs.search.partition_point.Goals as goal

pub loop-low-preserved-then-is_after_start : goal.loop-low-preserved-then-is_after_start
loop-low-preserved-then-is_after_start c =
    let inv = c.loop-low.invariant in
    let gs = c.args.complement.now in
    let m = c.loop-low.low + (c.loop-low.high - c.loop-low.low) / 2 in
    let here : m < length gs = omega (arith, inv.high, c.loop-low-test.true) in
    let fact : is_after (get_or gs m c.index-complement-middle.result).start c.args.version.now ≡ true =
    rw (← c.index-complement-middle.is) (sym c.if-is_after_start.ensures.answer) in
    let counts = λ (first : m ≡ 0 → has_bound (get_or gs 0 c.index-complement-middle.result).start ≡ true) (below : c.loop-low.steps < 2 ^ 64 - 1).
    c.is_after_start.ensures.least (rw c.index-complement-middle.is (begins-if_first gs m c.index-complement-middle.result c.requires.starts here first)) below in
    let first_begins = λ (e : Interval) (first : has_bound (get_or gs 0 e).start ≡ true).
    subst (λ (g : Interval). has_bound g.start ≡ true) (get_or_default gs 0 e c.index-complement-middle.result (omega (arith, here))) first in
    record {
      low = omega (arith, c.loop-low-test.true);
      high = inv.high;
      before = λ k d l. all-partition_point gs c.args.version.now m c.index-complement-middle.result c.requires.turn here fact k d l;
      after = inv.after;
      count = within-half (length gs) c.args.steps.now (c.loop-low.high - c.loop-low.low) c.loop-low.steps (c.loop-low.high - (m + 1)) c.is_after_start.new.steps
          (omega (arith, c.loop-low-test.true)) (omega (arith, c.loop-low-test.true)) c.is_after_start.ensures.count inv.count;
      least = at_least-half (length gs) c.args.steps.now ((c.loop-low.high - c.loop-low.low) + min c.loop-low.low 1) c.loop-low.steps
          ((c.loop-low.high - (m + 1)) + min (m + 1) 1) c.is_after_start.new.steps (omega (arith, c.loop-low-test.true)) c.is_after_start.ensures.rises
          (λ room below. counts (λ none. absurd (omega (arith, room, none))) below) inv.least;
      begins = λ e first. at_least-half (length gs + 1) c.args.steps.now ((c.loop-low.high - c.loop-low.low) + 1) c.loop-low.steps
          ((c.loop-low.high - (m + 1)) + 1) c.is_after_start.new.steps (omega (arith, c.loop-low-test.true)) c.is_after_start.ensures.rises
          (λ room below. counts (λ none. first_begins e first) below) (inv.begins e first);
      rises = omega (arith, inv.rises, c.is_after_start.ensures.rises);
      stays = λ h. c.is_after_start.ensures.stays (inv.stays h);
    }

pub loop-low-preserved : goal.loop-low-preserved
loop-low-preserved c =
    let inv = c.loop-low.invariant in
    let gs = c.args.complement.now in
    let m = c.loop-low.low + (c.loop-low.high - c.loop-low.low) / 2 in
    let here : m < length gs = omega (arith, inv.high, c.loop-low-test.true) in
    let fact : is_after (get_or gs m c.index-complement-middle.result).start c.args.version.now ≡ false =
    rw (← c.index-complement-middle.is) (sym c.if-is_after_start.ensures.answer) in
    let counts = λ (first : m ≡ 0 → has_bound (get_or gs 0 c.index-complement-middle.result).start ≡ true) (below : c.loop-low.steps < 2 ^ 64 - 1).
    c.is_after_start.ensures.least (rw c.index-complement-middle.is (begins-if_first gs m c.index-complement-middle.result c.requires.starts here first)) below in
    let first_begins = λ (e : Interval) (first : has_bound (get_or gs 0 e).start ≡ true).
    subst (λ (g : Interval). has_bound g.start ≡ true) (get_or_default gs 0 e c.index-complement-middle.result (omega (arith, here))) first in
    record {
      low = omega arith;
      high = omega (arith, inv.high, c.loop-low-test.true);
      before = inv.before;
      after = λ k d l h. none-partition_point gs c.args.version.now m c.index-complement-middle.result c.requires.turn here fact k d l h;
      count = within-half (length gs) c.args.steps.now (c.loop-low.high - c.loop-low.low) c.loop-low.steps (m - c.loop-low.low) c.is_after_start.new.steps
          (omega (arith, c.loop-low-test.true)) (omega arith) c.is_after_start.ensures.count inv.count;
      least = at_least-half (length gs) c.args.steps.now ((c.loop-low.high - c.loop-low.low) + min c.loop-low.low 1) c.loop-low.steps
          ((m - c.loop-low.low) + min (c.loop-low.low) 1) c.is_after_start.new.steps (omega (arith, c.loop-low-test.true)) c.is_after_start.ensures.rises
          (λ room below. counts (λ none. absurd (omega (arith, room, none))) below) inv.least;
      begins = λ e first. at_least-half (length gs + 1) c.args.steps.now ((c.loop-low.high - c.loop-low.low) + 1) c.loop-low.steps
          ((m - c.loop-low.low) + 1) c.is_after_start.new.steps (omega (arith, c.loop-low-test.true)) c.is_after_start.ensures.rises
          (λ room below. counts (λ none. first_begins e first) below) (inv.begins e first);
      rises = omega (arith, inv.rises, c.is_after_start.ensures.rises);
      stays = λ h. c.is_after_start.ensures.stays (inv.stays h);
    }

pub returns-clause-least : goal.returns-clause-least
returns-clause-least c = λ d l below.
    at_least-end (length c.args.complement.now) c.args.steps.now _ _ d (omega (arith, c.loop-low-test.false)) c.loop-low.invariant.least l below

pub returns-clause-begins : goal.returns-clause-begins
returns-clause-begins c = λ d e first l below.
    at_least-end (length c.args.complement.now + 1) c.args.steps.now _ _ d (omega (arith, c.loop-low-test.false)) (c.loop-low.invariant.begins e first) l below

pub returns-clause-count : goal.returns-clause-count
returns-clause-count c = λ d l. within-end (length c.args.complement.now) c.args.steps.now _ _ d c.loop-low.invariant.count l
