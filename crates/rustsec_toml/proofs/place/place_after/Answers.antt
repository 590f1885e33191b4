use Rattle.std.proofs.Common.{◌≡◌, ◌∙◌, ◌+◌, ◌++◌, ◌∷◌, [], ap, append-nil, append_assoc, arith, get_or, rules, sym, take, take_all}
use Rattle.std.proofs.lemmas.List.{take_more}
use Rattle.rustsec_toml.specs.Places.{place_past}
use Rattle.rustsec_toml.proofs.place.place_after.Goals as goal

pub loop-byte-init : goal.loop-byte-init
loop-byte-init c = (λ before h. h ∙ ap place_past (sym (append-nil before)), omega arith, omega arith)

pub loop-byte-preserved : goal.loop-byte-preserved
loop-byte-preserved c =
    let l = c.loop-byte in (
      λ before h. c.after_byte-after.ensures.value _ (l.invariant.0 before h)
          ∙ ap place_past (append_assoc before _ _ ∙ ap (λ bs. before ++ bs) (sym (take_more c.args.bytes.now l.byte-index 0 c.loop-byte-test.true))),
      omega (arith, c.after_byte-after.ensures.line, l.invariant.1),
      omega (arith, c.after_byte-after.ensures.column, l.invariant.2),
    )

pub returns-clause-value : goal.returns-clause-value
returns-clause-value c = λ before h. c.loop-byte.invariant.0 before h ∙ ap (λ bs. place_past (before ++ bs)) (take_all c.loop-byte.byte-index c.args.bytes.now c.loop-byte-test.false)
