use Rattle.std.proofs.Common.{◌∙◌, ap, rules, subst, sym}
use Rattle.serde_json.specs.Data.{Data}
use Rattle.rustsec_osv.specs.DocumentCodec.{read_document}
use Rattle.rustsec_osv.specs.EventObjects.{AreEventsRead}
use Rattle.rustsec_osv.specs.Export.{document_events}
use Rattle.rustsec_osv.proofs.DocumentsRoundTrip.{document-again}
use Rattle.rustsec_osv.proofs.EventObjects.{objects-read}
use Rattle.rustsec_osv.proofs.EventsKept.{events-same, ranges-same}
use Rattle.rustsec_osv.proofs.document.OsvAdvisory.to_value.Goals as goal

pub returns-clause-ok : goal.returns-clause-ok
returns-clause-ok c = search rules

pub returns-clause-again : goal.returns-clause-again
returns-clause-again c = λ h. ap read_document (returns-clause-ok c) ∙ document-again c.args.self.now h

pub returns-clause-objects : goal.returns-clause-objects
returns-clause-objects c =
    λ h. subst (λ (tree : Data). AreEventsRead tree (document_events c.args.self.now)) (sym (returns-clause-ok c)) (objects-read c.args.self.now h)

pub returns-clause-ranges : goal.returns-clause-ranges
returns-clause-ranges c = λ h d e. ranges-same c.args.self.now d h (ap read_document (sym (returns-clause-ok c)) ∙ e)

pub returns-clause-events : goal.returns-clause-events
returns-clause-events c = λ h d e. events-same c.args.self.now d h (ap read_document (sym (returns-clause-ok c)) ∙ e)
