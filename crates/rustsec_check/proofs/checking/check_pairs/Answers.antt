use Rattle.std.proofs.Common.{List, subst, sym}
use Rattle.rustsec_check.specs.Facts.{ArePlaced}
use Rattle.rustsec_check.specs.Values.{Found}
use Rattle.rustsec_check.proofs.FoundPackages.{found-placed}
use Rattle.rustsec_check.proofs.checking.check_pairs.Goals as goal

pub findings_of-requires : goal.findings_of-requires
findings_of-requires c =
    let s = c.args.subject.now in
    subst (λ (pairs : List Found). ArePlaced s.packages pairs) (sym c.requires) (found-placed s.advisories s.packages s.settings)
