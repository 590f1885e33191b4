-- The line of a version in an index: a JSON object (The Cargo Book, "Registry Index", "JSON Schema"; RFC 8259).
use Rattle.std.specs.Prelude.{◌==◌, ℕ, Bool, false, List, Option, Some, None, codes, if◌then◌else◌, is_some, length, nat_eq, option_map}
use Rattle.std.specs.Cmp.Lexicographic.{pointwise}
use Rattle.serde_json.specs.Data.{Data, Members}
use Rattle.serde_json.specs.Find.{as_bool, as_null, as_object, as_str, get_member}
use Rattle.serde_json.specs.Read.{read}
use Rattle.rustsec_values.specs.Reading.{◌>>=◌}
use Rattle.rustsec_registry.specs.declared.lookup.IndexVersion.{IndexVersion}
use Rattle.rustsec_registry.specs.declared.index.entry.Entry.{Entry}

-- the text at a key
abbrev pub text_at : List ℕ → Members → Option (List ℕ)
text_at key ms = get_member key ms >>= as_str

-- whether a version is yanked, by the value at `yanked`: a boolean. As Cargo reads it, a missing value or null means no
abbrev pub yanked_of : Option Data → Option Bool
yanked_of None = Some false
yanked_of (Some d) = if is_some (as_null d) then Some false else as_bool d

-- the entry in an object; the other keys are not read
abbrev pub entry_in : Members → Option Entry
entry_in ms = text_at (codes "name") ms >>= λ name. text_at (codes "vers") ms >>= λ version. yanked_of (get_member (codes "yanked") ms) >>= λ yanked.
    Some (record { name = name; version = version; yanked = yanked })

-- the entry of a line, none if the line is damaged
abbrev pub line_entry : List ℕ → Option Entry
line_entry line = read line >>= as_object >>= entry_in

-- the version of an entry, if the entry is for this name
abbrev pub version_for : List ℕ → Entry → Option IndexVersion
version_for name e = if pointwise nat_eq e.name name then Some (record { version = e.version; yanked = e.yanked }) else None

-- what a line says about a name: a version, or nothing if the line is empty or for another name; none if it is damaged
abbrev pub line_says : List ℕ → List ℕ → Option (Option IndexVersion)
line_says name line = if length line == 0 then Some None else option_map (version_for name) (line_entry line)
