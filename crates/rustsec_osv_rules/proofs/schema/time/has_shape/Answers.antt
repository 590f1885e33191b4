use Rattle.std.proofs.Common.{◌∙◌, sym}
use Rattle.rustsec_osv_rules.proofs.schema.Folds.{shape_more, shape_stop}
use Rattle.rustsec_osv_rules.specs.schema.TimeScan.{fits}
use Rattle.rustsec_osv_rules.proofs.schema.time.has_shape.Goals as goal

pub returns-then-not-fits : goal.returns-then-not-fits
returns-then-not-fits c =
    sym (shape_stop fits c.args.shape.now c.args.text.now c.loop-i.i c.loop-i-test.true (sym c.fits.ensures ∙ c.if-not-fits.true) c.requires)

pub loop-i-preserved : goal.loop-i-preserved
loop-i-preserved c =
    shape_more fits c.args.shape.now c.args.text.now c.loop-i.i c.loop-i-test.true c.requires c.loop-i.invariant (sym c.fits.ensures ∙ c.if-not-fits.false)
