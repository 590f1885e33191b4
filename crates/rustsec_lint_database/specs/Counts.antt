-- How many files, faults and notes there are.
use Rattle.std.specs.Prelude.{ℕ, ◌+◌, Bool, List, count_by, flat_map, is_some, not}
use Rattle.rustsec_lint_database.specs.Remarks.{is_fault}
use Rattle.rustsec_lint_database.specs.declared.database.Entry.{Entry}
use Rattle.rustsec_lint_database.specs.declared.remark.Remark.{Remark}

-- the remarks on some files
abbrev pub remarks_of : List Entry → List Remark
remarks_of es = flat_map (λ (e : Entry). e.file.remarks) es

-- whether a file has the ID of an earlier one
abbrev pub has_earlier : Entry → Bool
has_earlier e = is_some e.first

-- the faults: the remarks that are faults, and the files that have the ID of an earlier one
abbrev pub faults : Bool → List Entry → ℕ
faults upstream es = count_by (λ (r : Remark). is_fault upstream r.kind) (remarks_of es) + count_by has_earlier es

-- the notes: the other remarks
abbrev pub notes : Bool → List Entry → ℕ
notes upstream es = count_by (λ (r : Remark). not (is_fault upstream r.kind)) (remarks_of es)
