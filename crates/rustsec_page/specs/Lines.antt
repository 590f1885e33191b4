-- The line of versions of a finding: where the affected stretches, the locked version and the least free version lie, in
-- precedence (SemVer 2.0.0, section 11). The versions are evenly spaced.
use Rattle.std.specs.Prelude.{◌+◌, ◌*◌, ◌++◌, ℕ, Bool, if◌then◌else◌, List, [], ◌∷◌, Option, Some, None, length}
use Rattle.std.specs.List.{filter, flat_map, fold, list_any}
use Rattle.std.specs.Ordering.{is_eq}
use Rattle.semver.specs.Identifiers.{parts_text}
use Rattle.semver.specs.Parse.{Parts}
use Rattle.rustsec_versions.specs.order.Precedence.{is_below, precedence}
use Rattle.rustsec_versions.specs.ranges.Ranges.{Range}
use Rattle.rustsec_page.specs.Pieces.{Piece, content, drawing, number}
use Rattle.rustsec_page.specs.declared.drawing.Drawing.TheVariants as part

-- ---- cuts

-- whether two versions have the same precedence
abbrev pub is_level : Parts → Parts → Bool
is_level a b = is_eq (precedence a b)

-- cuts with another version, unless one of them has its precedence
abbrev pub with_cut : List Parts → Parts → List Parts
with_cut cuts v = if list_any (λ c. is_level c v) cuts then cuts else cuts ++ (v ∷ [])

-- cuts with a version that may be missing
abbrev pub with_end : List Parts → Option Parts → List Parts
with_end cuts None = cuts
with_end cuts (Some v) = with_cut cuts v

-- cuts with the ends of a range
unfoldable pub with_range : List Parts → Range → List Parts
with_range cuts r = with_end (with_end cuts r.introduced) r.fixed

-- the cuts of a line: the ends of the affected ranges, the locked version and the least free one
unfoldable pub cuts_of : List Range → Parts → Option Parts → List Parts
cuts_of ranges locked free = with_end (with_cut (fold with_range [] ranges) locked) free

-- ---- places

-- how many cuts are below a version
abbrev pub place : List Parts → Parts → ℕ
place cuts v = length (filter (λ c. is_below c v) cuts)

-- where a version is drawn, and how wide the line is
unfoldable pub x_of : List Parts → Parts → ℕ
x_of cuts v = 96 * place cuts v + 48

unfoldable pub width : List Parts → ℕ
width cuts = 96 * length cuts

-- where an end of a range is drawn; a missing one is at an edge of the line
abbrev pub x_from : List Parts → Option Parts → ℕ
x_from cuts None = 0
x_from cuts (Some v) = x_of cuts v

abbrev pub x_till : List Parts → Option Parts → ℕ
x_till cuts None = width cuts
x_till cuts (Some v) = x_of cuts v

-- ---- shapes

-- the line itself
unfoldable pub axis : List Parts → List Piece
axis cuts =
    drawing part.Start ∷ number (width cuts) ∷ drawing part.Box ∷ number (width cuts) ∷ drawing part.AxisStart ∷ number (width cuts)
    ∷ drawing part.ShapeEnd ∷ []

-- the affected stretch of a range
unfoldable pub stretch : List Parts → Range → List Piece
stretch cuts r =
    drawing part.StretchStart ∷ number (x_from cuts r.introduced) ∷ drawing part.StretchTo ∷ number (x_till cuts r.fixed)
    ∷ drawing part.ShapeEnd ∷ []

-- the tick of a cut, with the version
unfoldable pub tick : List Parts → Parts → List Piece
tick cuts v =
    drawing part.TickStart ∷ number (x_of cuts v) ∷ drawing part.LabelStart ∷ number (x_of cuts v) ∷ drawing part.LabelText
    ∷ content (parts_text v) ∷ drawing part.LabelEnd ∷ []

-- the marker of the locked version
unfoldable pub locked_marker : List Parts → Parts → List Piece
locked_marker cuts v =
    drawing part.LockedStart ∷ number (x_of cuts v) ∷ drawing part.LockedLabel ∷ number (x_of cuts v) ∷ drawing part.LockedEnd ∷ []

-- the marker of the least free version, if any
unfoldable pub free_marker : List Parts → Parts → List Piece
free_marker cuts v =
    drawing part.FreeStart ∷ number (x_of cuts v) ∷ drawing part.FreeLabel ∷ number (x_of cuts v) ∷ drawing part.FreeEnd ∷ []

abbrev pub free_markers : List Parts → Option Parts → List Piece
free_markers cuts None = []
free_markers cuts (Some v) = free_marker cuts v

-- all shapes on the line
unfoldable pub shapes : List Parts → List Range → Parts → Option Parts → List Piece
shapes cuts ranges locked free =
    flat_map (stretch cuts) ranges ++ (flat_map (tick cuts) cuts ++ (locked_marker cuts locked ++ free_markers cuts free))

-- ---- words

-- which versions a range has, in words
abbrev pub limits : Option Parts → Option Parts → List Piece
limits None None = drawing part.Every ∷ []
limits None (Some fixed) = drawing part.Below ∷ content (parts_text fixed) ∷ []
limits (Some introduced) None = drawing part.From ∷ content (parts_text introduced) ∷ drawing part.On ∷ []
limits (Some introduced) (Some fixed) =
    drawing part.From ∷ content (parts_text introduced) ∷ drawing part.To ∷ content (parts_text fixed) ∷ []

unfoldable pub range_words : Range → List Piece
range_words r = drawing part.RangeStart ∷ (limits r.introduced r.fixed ++ (drawing part.RangeEnd ∷ []))

abbrev pub caption : List Range → List Piece
caption ranges = drawing part.CaptionStart ∷ (flat_map range_words ranges ++ (drawing part.End ∷ []))

-- ---- the whole

-- a line over some cuts
abbrev pub line_over : List Parts → List Range → Parts → Option Parts → List Piece
line_over cuts ranges locked free = axis cuts ++ (shapes cuts ranges locked free ++ caption ranges)

-- the line of affected ranges, a locked version, and a least free version that may be missing
unfoldable pub line : List Range → Parts → Option Parts → List Piece
line ranges locked free = line_over (cuts_of ranges locked free) ranges locked free
