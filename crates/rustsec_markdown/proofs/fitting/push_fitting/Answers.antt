use Rattle.std.proofs.Common.{◌≡◌, ◌∙◌, ◌+◌, ◌-◌, ◌<◌, ◌≤◌, ◌++◌, ◌∷◌, ap, arith, drop, length, length-append, string_bytes, sym}
use Rattle.std.specs.List.{concat}
use Rattle.rustsec_markdown.specs.MarkdownText.{fitting}
use Rattle.rustsec_markdown.proofs.Fits.{all-counted, all-written, kept-first, left-first, more-written, none-left}
use Rattle.rustsec_markdown.proofs.fitting.push_fitting.Goals as goal
use Rattle.rustsec_markdown.proofs.fitting.push_fitting.Goals.{then-size-room+in_ok-push_str, else-size-room}

pub loop-line-preserved : goal.loop-line-preserved
loop-line-preserved c =
    let held = c.loop-line.invariant in
    let lines = c.args.lines.now in
    let i = c.loop-line.line-index in
    let room = c.loop-line.room in
    let line = c.line-item.result in
    let text = string_bytes c.loop-line.text in
    let rest = drop (i + 1) lines in
    elim c.if-size-room.branch [
      | then-size-room+in_ok-push_str w ↦
          let fits : length line ≤ room = omega (arith, c.len-size.ensures, w.if-size-room.true) in
          let left : c.if-size-room.room ≡ room - length line = w.room-is ∙ ap (λ n. room - n) c.len-size.ensures in
          let step : fitting room (drop i lines) ≡ line ∷ fitting c.if-size-room.room rest =
          kept-first lines i room line c.loop-line-test.true c.line-item.is fits ∙ ap (λ n. line ∷ fitting n rest) (sym left) in
          let more : string_bytes c.if-size-room.text ≡ text ++ line =
          ap string_bytes w.text-is ∙ w.in_ok-push_str.ensures.bytes ∙ ap (λ bs. text ++ bs) w.as_str.ensures in
          record {
            written = more-written text (string_bytes c.if-size-room.text) line _ (fitting room (drop i lines)) (fitting c.if-size-room.room rest) step more held.written;
            counted = omega (arith, w.kept-is, ap length step, held.counted);
            few = omega (arith, w.kept-is, held.few);
            short = omega (arith, ap length more, length-append text line, left, fits, held.short);
          }
      | else-size-room w ↦
          let long : room < length line = omega (arith, c.len-size.ensures, w.if-size-room.false) in
          let step : fitting room (drop i lines) ≡ fitting c.if-size-room.room rest =
          left-first lines i room line c.loop-line-test.true c.line-item.is long ∙ ap (λ n. fitting n rest) (sym w.room-is) in
          record {
            written =
                ap (λ t. string_bytes t ++ concat (fitting c.if-size-room.room rest)) w.text-is ∙ ap (λ ls. text ++ concat ls) (sym step) ∙ held.written;
            counted = omega (arith, w.kept-is, ap length step, held.counted);
            few = omega (arith, w.kept-is, held.few);
            short = omega (arith, ap (λ t. length (string_bytes t)) w.text-is, w.room-is, held.short);
          }
    ]

pub returns-clause-ok : goal.returns-clause-ok
returns-clause-ok c =
    all-written _ _ _ (none-left c.args.lines.now c.loop-line.line-index c.loop-line.room c.loop-line-test.false) c.loop-line.invariant.written

pub returns-clause-left : goal.returns-clause-left
returns-clause-left c =
    ap (λ k. length c.args.lines.now - k)
    (all-counted _ _ _ (none-left c.args.lines.now c.loop-line.line-index c.loop-line.room c.loop-line-test.false) c.loop-line.invariant.counted)
