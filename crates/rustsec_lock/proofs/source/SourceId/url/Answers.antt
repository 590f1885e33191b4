use Rattle.std.proofs.Common.{◌<◌, length, subst}
use Rattle.rustsec_lock.specs.Source.{Source, location_of}
use Rattle.rustsec_lock.proofs.Sources.{source-back}
use Rattle.rustsec_lock.proofs.source.SourceId.url.Goals as goal

pub returns-clause-back : goal.returns-clause-back
returns-clause-back c =
    source-back c.args.self.now (subst (λ (s : Source). 0 < length (location_of s.kind s.address)) c.self.view_is c.self.invariant)
