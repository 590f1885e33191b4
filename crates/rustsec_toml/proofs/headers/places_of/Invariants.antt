use Rattle.std.proofs.Common.{◌≡◌, ◌+◌, ◌-◌, ◌≤◌, ◌++◌, length}
use denote.Text.{Utf8}
use denote.Shadow.{shadow}
use Rattle.rustsec_toml.specs.Places.{IsEnd, from_token, place_past, up_to}
use Rattle.rustsec_toml.proofs.HeaderLaws.{Found}
use Rattle.rustsec_toml.proofs.headers.places_of.Given as goal

-- the places of the headers so far, the text from the next token on, and its place
abbrev pub invariant-tokens : goal.invariant-tokens
invariant-tokens l = record {
  utf8 : shadow (Utf8 l.rest);
  found : Found l.text l.places.items l._at;
  token : l.rest ≡ from_token l.text l._at;
  end : IsEnd l.rest l.text;
  at : l.place ≡ place_past (up_to l.rest l.text);
  room : length l.rest + l._at ≤ length l.text;
  line : l.place.line + length l.rest ≤ length l.text + 1;
  column : l.place.column + length l.rest ≤ length l.text + 1;
}
