use Rattle.std.proofs.Common.{get_or}
use Rattle.std.proofs.lemmas.List.{get_or_default}
use Rattle.rustsec_values.proofs.Readers.{read_all-nil, read_map-more, read_map-stop}
use Rattle.rustsec_program.proofs.OptionWords.{no_word, refused-there}
use Rattle.rustsec_program.proofs.request.read_texts.Goals as goal

pub loop-text-init : goal.loop-text-init
loop-text-init g c = rw c.new-read.ensures (read_all-nil g.T.FromText.reads)

pub returns-in-Err-clause-err : goal.returns-in-Err-clause-err
returns-in-Err-clause-err g c =
    let texts = c.args.texts.now in
    let i = c.loop-text.text-index in
    let there = get_or_default texts i no_word (get_or texts i no_word) c.loop-text-test.true in
    refused-there _ (λ none. read_map-stop (λ t. t.now) g.T.FromText.reads texts i (get_or texts i no_word) c.loop-text-test.true there none)
    c.in-Err.ensures.err c.with_place.ensures.kind c.with_place.ensures.memory

pub loop-text-preserved : goal.loop-text-preserved
loop-text-preserved g c =
    let texts = c.args.texts.now in
    let i = c.loop-text.text-index in
    let there = get_or_default texts i no_word (get_or texts i no_word) c.loop-text-test.true in
    rw c.in_ok-push-in-Ok.ensures.ok
    (read_map-more (λ t. t.now) g.T.FromText.reads texts i (get_or texts i no_word) _ _ c.loop-text-test.true there c.loop-text.invariant c.in-Ok.ensures.ok)
