-- The tree of what is wrong in a database has no float, so that its text is known.
use Rattle.std.proofs.Common.{Bool, List, refl}
use Rattle.std.specs.List.{filter}
use Rattle.rustsec_json.specs.Trees.{text_tree}
use Rattle.rustsec_report.proofs.PlainTrees.{Plain, list-plain, object-plain, optional-plain}
use Rattle.rustsec_lint_database.specs.declared.counts.Counts.{Counts}
use Rattle.rustsec_lint_database.specs.declared.database.Entry.{Entry}
use Rattle.rustsec_lint_database.specs.declared.remark.Remark.{Remark}
use Rattle.rustsec_lint_output.specs.LintTree.{file_entries, file_tree, is_listed, lint_entries, lint_tree, remark_entries, remark_tree}

remark-plain : (upstream : Bool) (r : Remark) → Plain (remark_tree upstream r)
unfolding remark_tree
remark-plain upstream r = object-plain (remark_entries upstream r) (refl, (refl, (refl, tt)))

file-plain : (upstream : Bool) (e : Entry) → Plain (file_tree upstream e)
unfolding file_tree
file-plain upstream e =
    object-plain (file_entries upstream e)
    (optional-plain text_tree (λ x. refl) e.first, (refl, (list-plain (remark_tree upstream) (remark-plain upstream) e.file.remarks, tt)))

pub lint-plain : (upstream : Bool) (c : Counts) (es : List Entry) → Plain (lint_tree upstream c es)
unfolding lint_tree
lint-plain upstream c es =
    object-plain (lint_entries upstream c es)
    (list-plain (file_tree upstream) (file-plain upstream) (filter is_listed es), (refl, (refl, (refl, tt))))
