-- Trees on one line (RFC 8259, as JSON lines).
use Rattle.std.specs.Prelude.{ℕ, List, codes, ◌++◌}
use Rattle.serde_json.specs.Written.{compact_text}
use Rattle.serde_json.specs.Data.{Data}

-- a tree without spaces, with a line feed after it
abbrev pub tree_line : Data → List ℕ
tree_line tree = compact_text tree ++ codes "\n"
