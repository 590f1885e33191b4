use Rattle.rustsec_registry.proofs.index.Readings.{answers-before}
use Rattle.rustsec_registry.proofs.index.folder.IndexFolder.read.Goals as goal

pub returns-clause-ok : goal.returns-clause-ok
returns-clause-ok g c = (
  c.in_ok-place.place,
  c.in_ok-place.ensures.ok,
  answers-before _ _ c.in_ok-place.place c.in_ok-answers.answers c.find_place.ensures.same c.in_ok-answers.ensures.each,
)
