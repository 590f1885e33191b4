use Rattle.std.proofs.lemmas.Result.{IfErr-weaker, IfOk-weaker}
use Rattle.rustsec_registry.proofs.index.Found.{is-given, is-refused}
use Rattle.rustsec_registry.proofs.index.yanked.given_for.Goals as goal

pub returns-clause-ok : goal.returns-clause-ok
returns-clause-ok g c =
    IfOk-weaker c.taken.result _ _
    (is-given (g.F.Folders.allowed c.args.folders.now) c.args.root.now c.args.packages.now c.in_ok-index.index c.new-cached.result.index
    c.find_yanked.new.self.index c.find_yanked.new.self.kept c.in_ok-answers.answers.items c.as_slice.result.now c.in_ok-index.ensures.ok
    c.in_ok-index.ensures.all c.new-cached.ensures.index c.find_yanked.ensures.index c.find_yanked.ensures.given c.in_ok-answers.ensures.asked
    c.in_ok-answers.ensures.ok c.as_slice.ensures.value) c.taken.ensures.ok

pub returns-clause-err : goal.returns-clause-err
returns-clause-err g c =
    IfErr-weaker c.taken.result _ _
    (is-refused (g.F.Folders.allowed c.args.folders.now) c.args.root.now c.args.packages.now c.in_ok-index.index c.new-cached.result.index
    c.find_yanked.new.self.index c.find_yanked.new.self.kept c.in_ok-answers.answers.items c.as_slice.result.now c.in_ok-index.ensures.ok
    c.in_ok-index.ensures.all c.new-cached.ensures.index c.find_yanked.ensures.index c.find_yanked.ensures.given c.in_ok-answers.ensures.asked
    c.in_ok-answers.ensures.ok c.as_slice.ensures.value) c.taken.ensures.err
