-- Addresses: texts that the URL Standard's parser accepts, seen as they print.
use Rattle.std.specs.Prelude.{◌≡◌, ℕ, IsAscii, List, Option, Some, None, Result, Ok, Err, alloc_error}
use Rattle.std.specs.declared.alloc.AllocError.{AllocError}
use Rattle.url.specs.Parser.{Parsed, parse_url}
use Rattle.url.specs.Parts.{Parts, serialize}
use Rattle.url.specs.declared.error.ParseError.TheVariants as reason

-- how a parsed address prints
abbrev pub printed : Parsed Parts → Option (List ℕ)
printed (Ok url) = Some (serialize url)
printed (Err e) = None

-- the address of a text
abbrev pub address_of : List ℕ → Option (List ℕ)
address_of text = printed (parse_url None text)

-- a text that is the address of itself, as every address prints
pub record IsAddress (text : List ℕ) : Type 0 where
  pub read_again : address_of text ≡ Some text
  pub ascii : IsAscii text

-- the parser's answer, none for a refusal; only a lack of room is out of memory
abbrev pub unless_no_room : {T : Type 0} → Parsed T → Result (Option T) AllocError
unless_no_room (Ok url) = Ok (Some url)
unless_no_room (Err reason.OutOfMemory) = Err alloc_error
unless_no_room (Err reason.Overflow) = Err alloc_error
unless_no_room (Err e) = Ok None
