-- A loop over the members of an object.
use Rattle.std.proofs.Common.{◌≡◌, ◌&&◌, List, [], ◌∷◌, Bool, Global, String, ap, refl, string_bytes}
use Rattle.std.specs.List.{list_all}
use Rattle.serde_json.specs.View.{members_view}
use Rattle.serde_json.specs.declared.value.Value.{Value}
use Rattle.rustsec_osv_rules.specs.schema.Names.{document_keys}
use Rattle.rustsec_osv_rules.specs.schema.Texts.{is_one_of}
use Rattle.rustsec_osv_rules.specs.schema.Values.{has_only}

-- whether the key of a member is one of the schema
abbrev pub is_key : String Global × Value → Bool
is_key e = is_one_of document_keys (string_bytes e.0)

pub only_view : (es : List (String Global × Value)) → list_all is_key es ≡ has_only document_keys (members_view es)
only_view [] = refl
only_view (e ∷ es) = ap (λ b. is_key e && b) (only_view es)
