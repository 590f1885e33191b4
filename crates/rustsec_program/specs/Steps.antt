-- Options word by word, for the function that reads them: what a contract sees of an option, and what one more word adds.
use Rattle.std.specs.Prelude.{ℕ, List, [], ◌∷◌, Option, Some, None}
use Rattle.rustsec_program.specs.CheckOptions.{CheckOption, flag_of, key_of, set, valued}
use Rattle.rustsec_program.specs.declared.keys.Flag.{Flag}
use Rattle.rustsec_program.specs.declared.keys.Key.{Key}
use Rattle.rustsec_program.specs.declared.options.Item as declared
use Rattle.rustsec_program.specs.declared.options.Item.TheVariants as item

abbrev pub item_view : declared.Item → CheckOption
item_view (item.Set f) = set f
item_view (item.Valued k value) = valued k value.now

-- the option that a word ends, if it ends one, and the key that still awaits its value; `None` if the word is not an option
abbrev pub by_name : Option Flag → Option Key → Option (Option CheckOption × Option Key)
by_name (Some f) k = Some (Some (set f), None)
by_name None (Some k) = Some (None, Some k)
by_name None None = None

abbrev pub step : Option Key → List ℕ → Option (Option CheckOption × Option Key)
step (Some k) word = Some (Some (valued k word), None)
step None word = by_name (flag_of word) (key_of word)

-- a list of an option that may be missing
abbrev pub given : Option CheckOption → List CheckOption
given None = []
given (Some o) = o ∷ []
