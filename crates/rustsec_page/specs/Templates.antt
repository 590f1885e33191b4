-- The texts of the page that come from no file: its markup (HTML Living Standard, SVG 2) and its style sheet (CSS). They
-- are constants.
use Rattle.std.specs.Prelude.{ℕ, List, codes}
use Rattle.rustsec_page.specs.declared.style.Style.{Style}
use Rattle.rustsec_page.specs.declared.style.Style.TheVariants as style
use Rattle.rustsec_page.specs.declared.frame.Frame.{Frame}
use Rattle.rustsec_page.specs.declared.frame.Frame.TheVariants as frame
use Rattle.rustsec_page.specs.declared.section.Section.{Section}
use Rattle.rustsec_page.specs.declared.section.Section.TheVariants as section
use Rattle.rustsec_page.specs.declared.card.Card.{Card}
use Rattle.rustsec_page.specs.declared.card.Card.TheVariants as card
use Rattle.rustsec_page.specs.declared.item.Item.{Item}
use Rattle.rustsec_page.specs.declared.item.Item.TheVariants as item
use Rattle.rustsec_page.specs.declared.drawing.Drawing.{Drawing}
use Rattle.rustsec_page.specs.declared.drawing.Drawing.TheVariants as drawing

-- a part of the style sheet (CSS)
unfoldable pub style_text : Style → List ℕ
style_text style.Light = codes ":root{color-scheme:light dark;--back:#f6f7f9;--card:#fff;--text:#1b1f24;--soft:#59636e;--line:#d5dae1;\n--link:#0a5bc4;--bad:#c62828;--good:#1a7f37;--critical:#8e1550;--high:#c62828;--medium:#b45309;\n--low:#7a6a00;--other:#4b5766}\n"
style_text style.Dark = codes "@media(prefers-color-scheme:dark){:root{--back:#0f1217;--card:#171b22;--text:#e3e8ee;--soft:#9aa5b1;\n--line:#303844;--link:#71b1ff;--bad:#f2645a;--good:#43c463;--critical:#ff7eb6;--high:#f2645a;\n--medium:#f0a84a;--low:#dcc94c;--other:#a3aebb}}\n"
style_text style.Layout = codes "*{box-sizing:border-box}\nbody{margin:0;background:var(--back);color:var(--text);\nfont:16px/1.5 system-ui,-apple-system,\"Segoe UI\",Roboto,sans-serif}\nbody>*{max-width:60rem;margin:0 auto;padding:0 1rem}\nbody>header{padding-top:2rem}\nbody>main{padding-bottom:2rem}\nh1,h2,h3,p,ul,ol,figure{margin:0;padding:0}\n"
style_text style.Words = codes "h1{font-size:1.6rem;line-height:1.25}\nh2{font-size:1.15rem;margin:2rem 0 .75rem}\nh3{font-size:1.05rem;line-height:1.35}\nsummary{font-size:.85rem;font-weight:600;color:var(--soft)}\na{color:var(--link)}\ncode,.path,svg text{font-family:ui-monospace,SFMono-Regular,Menlo,Consolas,monospace;font-size:.875rem}\nh1,h3,p,li,code,figcaption,.description{overflow-wrap:anywhere}\n.summary{font-size:1.1rem;margin-top:.5rem}\n.soft,figcaption{color:var(--soft);font-size:.9rem}\n"
style_text style.Cards = codes "article,.box{background:var(--card);border:1px solid var(--line);border-radius:8px;padding:1rem 1.25rem;\nmargin:0 0 1rem}\narticle{border-left:5px solid var(--other)}\narticle>*+*{margin-top:.75rem}\n.critical{--rank:var(--critical)}.high{--rank:var(--high)}.medium{--rank:var(--medium)}.low{\n--rank:var(--low)}\nsection[class] article{border-left-color:var(--rank,var(--other))}\n.facts{display:flex;flex-wrap:wrap;gap:.35rem .6rem;align-items:baseline}\n.tag{border:1px solid var(--rank,var(--other));color:var(--rank,var(--other));border-radius:999px;\npadding:0 .6rem;font-size:.8rem;font-weight:600;white-space:nowrap;\nbackground:color-mix(in srgb,var(--rank,var(--other)) 10%,transparent)}\n"
style_text style.Lines = codes ".drawing{overflow-x:auto}\nsvg{display:block;overflow:visible}\nfigcaption{margin-top:.25rem}\nfigcaption::before{content:\"\";display:inline-block;width:1.5rem;height:.5rem;margin-right:.5rem;\nbackground:var(--bad)}\n.range:not(:last-child)::after{content:\";\"}\nsvg text{text-anchor:middle;fill:var(--text);font-size:11px}\nsvg .name{font-family:system-ui,sans-serif;fill:var(--soft)}\n.axis,.tick{stroke:var(--soft);stroke-width:1.5;fill:none}\n.affected{stroke:var(--bad);stroke-width:8;fill:none}\n.locked{fill:var(--text);stroke:var(--card);stroke-width:2}\n.free{fill:var(--good);stroke:var(--card);stroke-width:2}\n"
style_text style.Trees = codes ".path{list-style:none}\n.path li+li::before{content:\"\\2514\\00a0\";color:var(--soft)}\n.path li:nth-child(2){margin-left:.25rem}.path li:nth-child(3){margin-left:1.25rem}\n.path li:nth-child(4){margin-left:2.25rem}.path li:nth-child(5){margin-left:3.25rem}\n.path li:nth-child(n+6){margin-left:4.25rem}\n.description{white-space:pre-wrap;margin-top:.5rem;font-size:.95rem}\nsummary{cursor:pointer}\nul.box{list-style:none}\n.box>li+li{border-top:1px solid var(--line);margin-top:.6rem;padding-top:.6rem}\n.links{padding-left:1.2rem;font-size:.9rem}\n"
style_text style.Media = codes "@media(max-width:30rem){h1{font-size:1.35rem}article,.box{padding:.85rem .9rem}}\n@media print{:root{--back:#fff;--card:#fff;--text:#000;--soft:#444;--line:#aaa}body{font-size:11pt}\narticle{break-inside:avoid}.drawing{overflow:visible}svg{max-width:100%;height:auto}\ndetails::details-content{content-visibility:visible;block-size:auto}}\n"

-- a part of the page around findings
unfoldable pub frame_text : Frame → List ℕ
frame_text frame.PageStart = codes "<!DOCTYPE html>\n<html lang=\"en\">\n<head>\n<meta charset=\"utf-8\">\n<meta http-equiv=\"Content-Security-Policy\" content=\"default-src 'none'; style-src 'unsafe-inline'\">\n<meta name=\"viewport\" content=\"width=device-width, initial-scale=1\">\n<title>Dependency check</title>\n<style>\n"
frame_text frame.BodyStart = codes "</style>\n</head>\n<body>\n<header>\n<h1>Dependency check</h1>\n<p class=\"summary\">"
frame_text frame.OneVulnerability = codes " vulnerability, "
frame_text frame.Vulnerabilities = codes " vulnerabilities, "
frame_text frame.OneWarning = codes " warning, "
frame_text frame.Warnings = codes " warnings, "
frame_text frame.SummaryEnd = codes " ignored</p>\n<p class=\"soft\">Looked at "
frame_text frame.OneAdvisory = codes " advisory and "
frame_text frame.Advisories = codes " advisories and "
frame_text frame.OnePackage = codes " package</p>\n"
frame_text frame.Packages = codes " packages</p>\n"
frame_text frame.BelowStart = codes "<p class=\"soft\">Left out below the least severity: "
frame_text frame.ParagraphEnd = codes "</p>\n"
frame_text frame.MainStart = codes "</header>\n<main>\n"
frame_text frame.NoFindings = codes "<p class=\"box\">No finding.</p>\n"
frame_text frame.PageEnd = codes "</main>\n</body>\n</html>\n"

-- a part of the page around a list: the findings of a rank, or another list
unfoldable pub section_text : Section → List ℕ
section_text section.Critical = codes "<section class=\"critical\">\n<h2>Critical</h2>\n"
section_text section.High = codes "<section class=\"high\">\n<h2>High</h2>\n"
section_text section.Medium = codes "<section class=\"medium\">\n<h2>Medium</h2>\n"
section_text section.Low = codes "<section class=\"low\">\n<h2>Low</h2>\n"
section_text section.Harmless = codes "<section class=\"harmless\">\n<h2>Score 0.0</h2>\n"
section_text section.Unrated = codes "<section class=\"unrated\">\n<h2>Not rated</h2>\n"
section_text section.Warning = codes "<section class=\"warning\">\n<h2>Warnings</h2>\n"
section_text section.Yanked = codes "<section>\n<h2>Yanked packages</h2>\n<ul class=\"box\">\n"
section_text section.Ignored = codes "<section>\n<h2>Ignored</h2>\n<ul class=\"box\">\n"
section_text section.Unused = codes "<section>\n<h2>Unused ignores</h2>\n<ul class=\"box\">\n"
section_text section.Unknown = codes "<section>\n<h2>Unknown ignores</h2>\n<ul class=\"box\">\n"
section_text section.Notes = codes "<section>\n<h2>Notes</h2>\n<ul class=\"box\">\n"
section_text section.ListEnd = codes "</ul>\n</section>\n"
section_text section.SectionEnd = codes "</section>\n"

-- a part of a finding
unfoldable pub card_text : Card → List ℕ
card_text card.Start = codes "<article>\n<h3>"
card_text card.TitleStart = codes " "
card_text card.TitleEnd = codes "</h3>\n<p class=\"facts\"><code>"
card_text card.KindStart = codes "</code> <span class=\"tag\">"
card_text card.RatingStart = codes ", "
card_text card.ScoreStart = codes " "
card_text card.KindEnd = codes "</span>"
card_text card.FactsEnd = codes "</p>\n"
card_text card.NoUpdate = codes "<p class=\"update\">No fixed version</p>\n"
card_text card.UpdateStart = codes "<p class=\"update\">Update to <strong>"
card_text card.CommandStart = codes "</strong> (compatible): <code>cargo update "
card_text card.CommandAt = codes "@"
card_text card.CommandEnd = codes "</code></p>\n"
card_text card.Incompatible = codes "</strong> (incompatible with ^"
card_text card.IncompatibleEnd = codes ")</p>\n"
card_text card.MovedStart = codes "<p class=\"update\">Ignoring does not help, these count for the update too:"
card_text card.MovedId = codes " "
card_text card.MovedEnd = codes "</p>\n"
card_text card.DescriptionStart = codes "<details>\n<summary>Description</summary>\n<div class=\"description\">"
card_text card.DescriptionEnd = codes "</div>\n</details>\n"
card_text card.LinksStart = codes "<ul class=\"links\">\n"
card_text card.LinksEnd = codes "</ul>\n"
card_text card.End = codes "</article>\n"

-- a part of a list or of a path
unfoldable pub item_text : Item → List ℕ
item_text item.Start = codes "<li>"
item_text item.End = codes "</li>\n"
item_text item.CodeStart = codes "<code>"
item_text item.CodeEnd = codes "</code>"
item_text item.VersionStart = codes " "
item_text item.Denied = codes " <span class=\"tag\">denied</span>"
item_text item.Old = codes " <span class=\"tag\">old</span>"
item_text item.Space = codes " "
item_text item.Until = codes " until "
item_text item.Reason = codes ": "
item_text item.PathStart = codes "<ol class=\"path\">\n"
item_text item.PathEnd = codes "</ol>\n"
item_text item.NoPath = codes "<p class=\"soft\">No path from a root</p>\n"
item_text item.Unknown = codes "?"
item_text item.LinkStart = codes "<a href=\""
item_text item.LinkText = codes "\" rel=\"noreferrer\">"
item_text item.LinkEnd = codes "</a>"

-- a part of the line of versions (SVG 2)
unfoldable pub drawing_text : Drawing → List ℕ
drawing_text drawing.Start = codes "<figure>\n<div class=\"drawing\"><svg width=\""
drawing_text drawing.Box = codes "\" height=\"64\" viewBox=\"0 0 "
drawing_text drawing.AxisStart = codes " 64\" role=\"img\" aria-label=\"Versions\">\n<path class=\"axis\" d=\"M0 32H"
drawing_text drawing.ShapeEnd = codes "\"/>\n"
drawing_text drawing.StretchStart = codes "<path class=\"affected\" d=\"M"
drawing_text drawing.StretchTo = codes " 32H"
drawing_text drawing.TickStart = codes "<path class=\"tick\" d=\"M"
drawing_text drawing.LabelStart = codes " 26v12\"/><text x=\""
drawing_text drawing.LabelText = codes "\" y=\"57\">"
drawing_text drawing.LabelEnd = codes "</text>\n"
drawing_text drawing.LockedStart = codes "<path class=\"locked\" d=\"M"
drawing_text drawing.LockedLabel = codes " 21l9 11-9 11-9-11z\"/><text class=\"name\" x=\""
drawing_text drawing.LockedEnd = codes "\" y=\"13\">locked</text>\n"
drawing_text drawing.FreeStart = codes "<circle class=\"free\" cy=\"32\" r=\"9\" cx=\""
drawing_text drawing.FreeLabel = codes "\"/><text class=\"name\" x=\""
drawing_text drawing.FreeEnd = codes "\" y=\"13\">least free</text>\n"
drawing_text drawing.CaptionStart = codes "</svg></div>\n<figcaption>Affected:"
drawing_text drawing.Every = codes "every version"
drawing_text drawing.Below = codes "below "
drawing_text drawing.From = codes "from "
drawing_text drawing.To = codes " to below "
drawing_text drawing.On = codes " on"
drawing_text drawing.RangeStart = codes " <span class=\"range\">"
drawing_text drawing.RangeEnd = codes "</span>"
drawing_text drawing.End = codes "</figcaption>\n</figure>\n"
