use Rattle.rustsec_lock.proofs.ScoreTable.{close_power, exact_products, positive_impact}
use Rattle.rustsec_lock.proofs.metrics.Base.score_tenths.Goals as goal

pub impact-requires-clause-positive : goal.impact-requires-clause-positive
impact-requires-clause-positive c =
    rw c.sub_score-iss.ensures.value (positive_impact c.args.self.now.c c.args.self.now.i c.args.self.now.a)

pub returns-clause-exact : goal.returns-clause-exact
returns-clause-exact c = λ h. exact_products c.args.self.now

pub returns-clause-close : goal.returns-clause-close
returns-clause-close c = λ h s. close_power c.args.self.now.c c.args.self.now.i c.args.self.now.a
