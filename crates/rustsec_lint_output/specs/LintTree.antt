-- The JSON object of what is wrong in a database.
use Rattle.std.specs.Prelude.{◌==◌, ◌||◌, Bool, List, [], ◌∷◌, codes, filter, length, not}
use Rattle.serde_json.specs.Data.{Data, boolean, number, string, unsigned}
use Rattle.rustsec_json.specs.Trees.{list_tree, optional_tree, text_tree}
use Rattle.rustsec_report.specs.Trees as trees
use Rattle.rustsec_report.specs.Trees.{object_of}
use Rattle.rustsec_lint_database.specs.Counts.{has_earlier}
use Rattle.rustsec_lint_database.specs.Remarks.{is_fault, kind_name}
use Rattle.rustsec_lint_database.specs.declared.counts.Counts.{Counts}
use Rattle.rustsec_lint_database.specs.declared.database.Entry.{Entry}
use Rattle.rustsec_lint_database.specs.declared.remark.Remark.{Remark}

-- a remark: whether it is a fault, its kind and its words
abbrev pub remark_entries : Bool → Remark → List trees.Entry
remark_entries upstream r =
    (codes "fault", boolean (is_fault upstream r.kind))
    ∷ (codes "kind", string (kind_name r.kind))
    ∷ (codes "text", string r.text)
    ∷ []

unfoldable pub remark_tree : Bool → Remark → Data
remark_tree upstream r = object_of (remark_entries upstream r)

-- a file: the path of the first file before it with its ID, or null; its own path; and its remarks, in order
abbrev pub file_entries : Bool → Entry → List trees.Entry
file_entries upstream e =
    (codes "first", optional_tree text_tree e.first)
    ∷ (codes "path", string e.file.path)
    ∷ (codes "remarks", list_tree (remark_tree upstream) e.file.remarks)
    ∷ []

unfoldable pub file_tree : Bool → Entry → Data
file_tree upstream e = object_of (file_entries upstream e)

-- whether a file is listed: it has the ID of an earlier file, or a remark
abbrev pub is_listed : Entry → Bool
is_listed e = has_earlier e || not (length e.file.remarks == 0)

-- the files that are listed, in order, and the numbers of faults, files and notes
abbrev pub lint_entries : Bool → Counts → List Entry → List trees.Entry
lint_entries upstream c es =
    (codes "entries", list_tree (file_tree upstream) (filter is_listed es))
    ∷ (codes "faults", number (unsigned c.faults))
    ∷ (codes "files", number (unsigned c.files))
    ∷ (codes "notes", number (unsigned c.notes))
    ∷ []

unfoldable pub lint_tree : Bool → Counts → List Entry → Data
lint_tree upstream c es = object_of (lint_entries upstream c es)
