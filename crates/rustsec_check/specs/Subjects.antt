-- What a contract sees of a subject.
use Rattle.std.specs.Prelude.{option_map}
use Rattle.rustsec_check.specs.Values.{SubjectValue}
use Rattle.rustsec_check.specs.declared.subject.Subject as declared

abbrev pub subject_view : declared.Subject → SubjectValue
subject_view s = record {
  advisories = s.database.now;
  packages = s.lockfile.now.packages;
  graph = s.graph.now;
  settings = s.settings.now;
  denied = s.denied.now;
  baseline = option_map (λ l. l.now.packages) s.baseline;
}
