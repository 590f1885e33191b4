-- Which values hold no text, so that no memory is taken for them. It carries meaning: public contracts cite it.
use Rattle.std.specs.Prelude.{◌&&◌, ◌==◌, Bool, false, true, List, [], ◌∷◌, Option, Some, None, length}
use Rattle.semver.specs.Parse.{Held, Parts}
use Rattle.semver.specs.declared.Op.{Op}
use Rattle.semver.specs.declared.Op.TheVariants as op

-- whether there is a version, and it has neither a pre-release nor build metadata
abbrev pub is_plain : Option Parts → Bool
is_plain None = false
is_plain (Some v) = length v.3 == 0 && length v.4 == 0

-- whether an operator gives a single bound: the version that the comparator names
abbrev pub gives_one_bound : Op → Bool
gives_one_bound op.Greater = true
gives_one_bound op.GreaterEq = true
gives_one_bound op.Less = true
gives_one_bound op.LessEq = true
gives_one_bound op.Exact = false
gives_one_bound op.Caret = false
gives_one_bound op.Tilde = false
gives_one_bound op.Wildcard = false

-- whether the bounds of comparators hold no text: there are no comparators, or there is one, which gives a single bound and
-- has no pre-release
abbrev pub hold_no_text : List Held → Bool
hold_no_text [] = true
hold_no_text (c ∷ []) = gives_one_bound c.0 && length c.4 == 0
hold_no_text (c ∷ d ∷ rest) = false
