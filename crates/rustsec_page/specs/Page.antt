-- The page of a check: one document (HTML Living Standard), which loads nothing and runs nothing.
use Rattle.std.specs.Prelude.{◌≡◌, ◌==◌, ◌++◌, not, ℕ, if◌then◌else◌, List, [], ◌∷◌, length}
use Rattle.std.specs.List.{filter}
use Rattle.rustsec_lock.specs.Package.{PackageValue}
use Rattle.rustsec_check.specs.Values.{FindingValue}
use Rattle.rustsec_check_output.specs.CheckText.{is_vulnerability}
use Rattle.rustsec_check_output.specs.CheckTree.{WrittenValue}
use Rattle.rustsec_page.specs.Escaped.{is_mark}
use Rattle.rustsec_page.specs.Findings.{AreDrawn, DrawnValue, by_rank}
use Rattle.rustsec_page.specs.Lists.{lists}
use Rattle.rustsec_page.specs.Pieces.{Piece, frame, marks, number, style, text_of}
use Rattle.rustsec_page.specs.declared.frame.Frame.{Frame}
use Rattle.rustsec_page.specs.declared.frame.Frame.TheVariants as part
use Rattle.rustsec_page.specs.declared.style.Style.TheVariants as look

-- ---- the style sheet

unfoldable pub page_styles : List Piece
page_styles = style look.Light ∷ style look.Dark ∷ style look.Layout ∷ style look.Words ∷ []

unfoldable pub part_styles : List Piece
part_styles = style look.Cards ∷ style look.Lines ∷ style look.Trees ∷ style look.Media ∷ []

unfoldable pub styles : List Piece
styles = page_styles ++ part_styles

-- ---- the summary

-- a number of things, in the singular or in the plural
unfoldable pub counted : ℕ → Frame → Frame → List Piece
counted n one many = number n ∷ frame (if n == 1 then one else many) ∷ []

-- how many vulnerabilities, warnings and ignored pairs there are
unfoldable pub found : List FindingValue → ℕ → List Piece
found findings ignored =
    counted (length (filter is_vulnerability findings)) part.OneVulnerability part.Vulnerabilities
    ++ (counted (length (filter (λ f. not (is_vulnerability f)) findings)) part.OneWarning part.Warnings
    ++ (number ignored ∷ frame part.SummaryEnd ∷ []))

-- how many advisories and packages were looked at
unfoldable pub looked_at : ℕ → ℕ → List Piece
looked_at advisories packages =
    counted advisories part.OneAdvisory part.Advisories ++ counted packages part.OnePackage part.Packages

-- how many pairs the least severity alone leaves out, if any
unfoldable pub below_words : ℕ → List Piece
below_words n = frame part.BelowStart ∷ number n ∷ frame part.ParagraphEnd ∷ []

abbrev pub below : ℕ → List Piece
below n = if n == 0 then [] else below_words n

-- the page up to the findings
unfoldable pub header : WrittenValue → List Piece
header w =
    found w.check.findings (length w.check.ignored) ++ (looked_at w.database.count (length w.packages)
    ++ (below w.check.below_threshold ++ (frame part.MainStart ∷ [])))

unfoldable pub head : WrittenValue → List Piece
head w = frame part.PageStart ∷ (styles ++ (frame part.BodyStart ∷ header w))

-- ---- the whole

-- the findings, or that there is none
abbrev pub findings : List PackageValue → List DrawnValue → List Piece
findings packages drawn = if length drawn == 0 then frame part.NoFindings ∷ [] else by_rank packages drawn

-- the page over findings with their ranges
unfoldable pub page : WrittenValue → List DrawnValue → List Piece
page w drawn = head w ++ (findings w.packages drawn ++ (lists w ++ (frame part.PageEnd ∷ [])))

-- whether a text is the page of a check
pub record IsPage (w : WrittenValue) (text : List ℕ) : Type 0 where
  pub drawn : List DrawnValue
  pub are_drawn : AreDrawn w.check.findings drawn
  pub is : text ≡ text_of (page w drawn)

-- the bytes `<`, `>`, `"` and `'` of a text are those of the markup of a check's page, in their order
pub record HasOwnMarks (w : WrittenValue) (text : List ℕ) : Type 0 where
  pub drawn : List DrawnValue
  pub are_drawn : AreDrawn w.check.findings drawn
  pub own : filter is_mark text ≡ marks (page w drawn)
