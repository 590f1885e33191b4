-- What the Rust crate refuses of an advisory.
use Rattle.std.specs.Prelude.{◌≡◌, ◌++◌, List, [], Option, None, Some, codes, false, is_some}
use Rattle.semver.specs.Parse.{Held}
use Rattle.rustsec_versions.specs.acceptance.Lists.{Lists, accepted_apart}
use Rattle.rustsec_versions.specs.interval.Interval.{Interval, overlap}
use Rattle.rustsec_versions.specs.order.Precedence.{version_order}
use Rattle.rustsec_versions.specs.requirement.Requirement.{interval_of}
use Rattle.rustsec_lock.specs.Source.{Source, url_of}
use Rattle.rustsec_texts.specs.Addresses.{address_of}
use Rattle.rustsec_advisory.specs.declared.advisory.Advisory.{Advisory}
use Rattle.rustsec_lint_database.specs.Remarks.{unless}
use Rattle.rustsec_lint_database.specs.declared.remark.Remark.{Remark}
use Rattle.rustsec_lint_database.specs.declared.remark.RemarkKind.TheVariants as kind

-- the intervals of two requirements do not overlap
abbrev pub AreApart : List Held → List Held → Type 0
AreApart p q = (i j : Interval) → interval_of p ≡ Some i → interval_of q ≡ Some j → overlap version_order i j ≡ false

-- patched requirements that overlap
abbrev pub overlap_remarks : Lists → List Remark
overlap_remarks ls = unless (accepted_apart ls) kind.Upstream (codes "the Rust crate refuses patched requirements that overlap")

-- a source whose address is not a URL
abbrev pub source_remarks : Option Source → List Remark
source_remarks None = []
source_remarks (Some s) = unless (is_some (address_of (url_of s))) kind.Upstream (codes "the Rust crate refuses a `source` whose address is not a URL")

-- what the Rust crate refuses of an advisory
abbrev pub upstream_remarks : Advisory → List Remark
upstream_remarks a = overlap_remarks a.versions ++ source_remarks a.metadata.source
