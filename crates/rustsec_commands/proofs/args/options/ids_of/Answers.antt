use Rattle.std.proofs.Common.{get_or, inl, inr, ⊎_elim}
use Rattle.std.proofs.lemmas.List.{get_or_default}
use Rattle.rustsec_values.proofs.Readers.{read_all-nil, read_map-more, read_map-stop}
use Rattle.rustsec_texts.specs.Ids.{id_of}
use Rattle.rustsec_commands.proofs.lemmas.args.OptionWords.{no_word}
use Rattle.rustsec_commands.proofs.args.options.ids_of.Goals as goal

pub loop-text-init : goal.loop-text-init
loop-text-init c = rw c.new-ids.ensures (read_all-nil id_of)

pub returns-in-Err-clause-err : goal.returns-in-Err-clause-err
returns-in-Err-clause-err c =
    let texts = c.args.texts.now in
    let i = c.loop-text.text-index in
    let there = get_or_default texts i no_word (get_or texts i no_word) c.loop-text-test.true in
    ⊎_elim (λ p. inl (p.0, read_map-stop (λ t. t.now) id_of texts i (get_or texts i no_word) c.loop-text-test.true there p.1)) inr c.in-Err.ensures.err

pub loop-text-preserved : goal.loop-text-preserved
loop-text-preserved c =
    let texts = c.args.texts.now in
    let i = c.loop-text.text-index in
    let there = get_or_default texts i no_word (get_or texts i no_word) c.loop-text-test.true in
    rw c.in_ok-push-in-Ok.ensures.ok
    (read_map-more (λ t. t.now) id_of texts i (get_or texts i no_word) _ _ c.loop-text-test.true there c.loop-text.invariant c.in-Ok.ensures.ok)
