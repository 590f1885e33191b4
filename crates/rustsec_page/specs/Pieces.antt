-- The pieces of the page: its own markup, and texts of files. A text of a file is written escaped, so the page's tags are
-- those of its markup.
use Rattle.std.specs.Prelude.{ℕ, List, []}
use Rattle.std.specs.Fmt.{decimal}
use Rattle.std.specs.List.{filter, flat_map}
use Rattle.rustsec_page.specs.Escaped.{escaped, is_mark}
use Rattle.rustsec_page.specs.Templates.{card_text, drawing_text, frame_text, item_text, section_text, style_text}
use Rattle.rustsec_page.specs.declared.style.Style.{Style}
use Rattle.rustsec_page.specs.declared.frame.Frame.{Frame}
use Rattle.rustsec_page.specs.declared.section.Section.{Section}
use Rattle.rustsec_page.specs.declared.card.Card.{Card}
use Rattle.rustsec_page.specs.declared.item.Item.{Item}
use Rattle.rustsec_page.specs.declared.drawing.Drawing.{Drawing}

-- a piece: a part of the style sheet or of the markup, or a text
pub data Piece : Type 0 where
  style : Style → Piece
  frame : Frame → Piece
  section : Section → Piece
  card : Card → Piece
  item : Item → Piece
  drawing : Drawing → Piece
  content : List ℕ → Piece

-- the bytes of a piece
unfoldable pub bytes_of : Piece → List ℕ
bytes_of (style p) = style_text p
bytes_of (frame p) = frame_text p
bytes_of (section p) = section_text p
bytes_of (card p) = card_text p
bytes_of (item p) = item_text p
bytes_of (drawing p) = drawing_text p
bytes_of (content text) = escaped text

-- the text of pieces: their bytes, one after another
abbrev pub text_of : List Piece → List ℕ
text_of pieces = flat_map bytes_of pieces

-- a number as a text
abbrev pub number : ℕ → Piece
number n = content (decimal n)

-- the bytes of a piece if it is markup
abbrev pub markup_of : Piece → List ℕ
markup_of (style p) = style_text p
markup_of (frame p) = frame_text p
markup_of (section p) = section_text p
markup_of (card p) = card_text p
markup_of (item p) = item_text p
markup_of (drawing p) = drawing_text p
markup_of (content text) = []

-- the bytes `<`, `>`, `"` and `'` of the markup of pieces
abbrev pub marks : List Piece → List ℕ
marks pieces = filter is_mark (flat_map markup_of pieces)
