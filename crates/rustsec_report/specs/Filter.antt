-- Which parts of a report apply to a compiled program, by the format of its file.
use Rattle.std.specs.Prelude.{◌==◌, ◌&&◌, ◌||◌, Bool, true, not, List, [], ◌∷◌, length, map, Option, Some, None}
use Rattle.std.specs.List.{filter, list_any}
use denote.Enum.Bare.{sameb}
use Rattle.rustsec_lock.specs.contracts.platforms.OS.{the_type as system}
use Rattle.rustsec_lock.specs.declared.platforms.OS.{OS}
use Rattle.rustsec_lock.specs.declared.platforms.OS.TheVariants as os
use Rattle.rustsec_advisory.specs.declared.affected.Affected.{Affected}
use Rattle.rustsec_database.specs.declared.vulnerability.Vulnerability.{Vulnerability}
use Rattle.rustsec_report.specs.declared.binary_format.BinaryFormat.{BinaryFormat}
use Rattle.rustsec_report.specs.declared.binary_format.BinaryFormat.TheVariants as format
use Rattle.rustsec_report.specs.declared.report.Report.{Report}
use Rattle.rustsec_report.specs.declared.warning.Warning.{Warning}
use Rattle.rustsec_report.specs.Report.{info_of}

-- whether a system is one of these
abbrev pub is_one_of : List OS → OS → Bool
is_one_of systems s = list_any (λ o. sameb system o s) systems

-- the systems of Windows programs
abbrev pub windows : List OS
windows = os.Windows ∷ []

-- Apple's systems
abbrev pub apple : List OS
apple = os.iOS ∷ os.MacOS ∷ os.TvOS ∷ os.VisionOS ∷ os.WatchOS ∷ []

-- the values of `OS` that are not a system
abbrev pub no_system : List OS
no_system = os.Unknown ∷ os.None ∷ []

-- whether a system may run programs of a format: Windows runs PE, Apple's systems run Mach-O, all others run ELF;
-- WebAssembly needs no system; an unknown format may be any of them
abbrev pub runs : BinaryFormat → OS → Bool
runs format.Elf32 s = not (is_one_of windows s) && not (is_one_of apple s)
runs format.Elf64 s = not (is_one_of windows s) && not (is_one_of apple s)
runs format.Macho s = is_one_of apple s
runs format.PE s = is_one_of windows s
runs format.Wasm s = is_one_of no_system s
runs format.Unknown s = true

-- whether an advisory with this table `affected` applies to a format: some listed system may run it; if none is
-- listed, all are affected
abbrev pub applicable : BinaryFormat → Option Affected → Bool
applicable f None = true
applicable f (Some a) = (length a.os == 0) || list_any (runs f) a.os

-- a report without what does not apply; each kind of warnings stays, even without warnings
unfoldable pub filtered : BinaryFormat → Report → Report
filtered f r = record r {
  vulnerabilities = info_of (filter (λ (v : Vulnerability). applicable f v.affected) r.vulnerabilities.list);
  warnings = map (λ e. (e.0, filter (λ (w : Warning). applicable f w.affected) e.1)) r.warnings;
}
