-- The text of a requirement, as Cargo writes it: its comparators joined by a comma and a space, or `*` for none.
-- It carries meaning: public contracts cite it.
use Rattle.std.specs.Prelude.{ℕ, List, [], ◌∷◌, ◌++◌, Option, Some, None, codes}
use Rattle.std.specs.Fmt.{decimal}
use Rattle.semver.specs.Identifiers.{marked}
use Rattle.semver.specs.Parse.{Held}
use Rattle.semver.specs.declared.Op.{Op}
use Rattle.semver.specs.declared.Op.TheVariants as op

-- the text of an operator; the wildcard has none in front
abbrev pub op_text : Op → List ℕ
op_text op.Exact = codes "="
op_text op.Greater = codes ">"
op_text op.GreaterEq = codes ">="
op_text op.Less = codes "<"
op_text op.LessEq = codes "<="
op_text op.Tilde = codes "~"
op_text op.Caret = codes "^"
op_text op.Wildcard = []

-- what ends a wildcard
abbrev pub star : Op → List ℕ
star op.Wildcard = codes ".*"
star _ = []

-- a dot and a number, if the number is present
abbrev pub dotted : Option ℕ → List ℕ
dotted None = []
dotted (Some number) = codes "." ++ decimal number

-- a comparator: its operator, its major number, then the minor and the patch if present, and a dash and the
-- pre-release unless it is empty
abbrev pub comparator_text : Held → List ℕ
comparator_text c = op_text c.0 ++ (decimal c.1 ++ (dotted c.2 ++ (dotted c.3 ++ (marked 45 c.4 ++ star c.0))))

-- the comparators after the first
unfoldable pub more_text : List Held → List ℕ
more_text [] = []
more_text (c ∷ cs) = codes ", " ++ (comparator_text c ++ more_text cs)

-- a requirement
abbrev pub requirement_text : List Held → List ℕ
requirement_text [] = codes "*"
requirement_text (c ∷ cs) = comparator_text c ++ more_text cs
