-- Options word by word, for the function that reads them: what a contract sees of what is asked for, and what one more word adds.
use Rattle.std.specs.Prelude.{ℕ, Bool, true, false, List, [], ◌∷◌, Option, Some, None, option_map}
use Rattle.rustsec_database_commands.specs.Options.{AskedValue, LintOption, flag_of, format, is_format, set}
use Rattle.rustsec_database_commands.specs.declared.options.LintInput as declared
use Rattle.rustsec_database_commands.specs.declared.options.Flag.{Flag}
use Rattle.rustsec_database_commands.specs.declared.options.Flag.TheVariants as flag

abbrev pub asked_view : declared.LintInput → AskedValue
asked_view a = record { format = option_map (λ t. t.now) a.format; upstream = a.upstream; progress = a.progress }

-- the option that a word ends, if it ends one, and whether `--format` still awaits its value; `None` if the word is not an option
abbrev pub by_name : Option Flag → Bool → Option (Option LintOption × Bool)
by_name (Some f) is = Some (Some (set f), false)
by_name None true = Some (None, true)
by_name None false = None

abbrev pub step : Bool → List ℕ → Option (Option LintOption × Bool)
step true word = Some (Some (format word), false)
step false word = by_name (flag_of word) (is_format word)

-- a list of an option that may be missing
abbrev pub given : Option LintOption → List LintOption
given None = []
given (Some o) = o ∷ []

-- what is asked for with one option more
abbrev pub with_flag : AskedValue → Flag → AskedValue
with_flag a flag.Upstream = record { format = a.format; upstream = true; progress = a.progress }
with_flag a flag.Progress = record { format = a.format; upstream = a.upstream; progress = true }

abbrev pub with_format : AskedValue → List ℕ → AskedValue
with_format a name = record { format = Some name; upstream = a.upstream; progress = a.progress }

abbrev pub with_option : AskedValue → Option LintOption → AskedValue
with_option a None = a
with_option a (Some (set f)) = with_flag a f
with_option a (Some (format name)) = with_format a name

-- what is asked for after one more word
abbrev pub asked_after : AskedValue → Bool → List ℕ → Option (AskedValue × Bool)
asked_after a awaits word = option_map (λ s. (with_option a s.0, s.1)) (step awaits word)
