use Rattle.rustsec_program.proofs.OptionWords.{values-more}
use Rattle.rustsec_program.proofs.options.Options.values.Goals as goal

pub loop-item-preserved : goal.loop-item-preserved
loop-item-preserved c = values-more c.args.key _ c.loop-item.item-index _ _ _ c.loop-item-test.true c.loop-item.invariant c.in_ok-add_value.ensures
