-- The parts of an advisory file: front matter in TOML between fences, then Markdown under a title.
use Rattle.std.specs.Prelude.{◌≡◌, ℕ, List, ◌++◌, codes, Option, Some}
use Rattle.std.specs.Str.{trim, trim_end, trim_start}
use Rattle.rustsec_values.specs.Reading.{◌>>=◌}
use Rattle.rustsec_values.specs.Failure.{Failure}
use Rattle.rustsec_values.specs.Beginnings.{IsBeginning}
use Rattle.rustsec_texts.specs.PatternCuts.{IsFirstCut, after_prefix, cut_at}

-- the parts: each is a slice of the text
pub record FileParts : Type 0 where
  pub front_matter : List ℕ
  pub markdown : List ℕ
  pub title : List ℕ
  pub description : List ℕ

-- how a file begins, what ends its front matter, how its Markdown begins, what ends its title
abbrev pub opening : List ℕ
opening = codes "```toml"

abbrev pub closing : List ℕ
closing = codes "\n```"

abbrev pub heading : List ℕ
heading = codes "# "

abbrev pub line_feed : List ℕ
line_feed = codes "\n"

-- these are the parts of a text: the opening, the front matter, the first closing, the Markdown, whose
-- heading ends at the first line feed. `trim`, `trim_start` and `trim_end` take off all white space of
-- Unicode on both sides, at the front, at the end
pub record AreParts (text : List ℕ) (p : FileParts) : Type 0 where
  pub body : List ℕ
  pub front : List ℕ
  pub rest : List ℕ
  pub lines : List ℕ
  pub title_line : List ℕ
  pub below : List ℕ
  pub opened : text ≡ opening ++ body
  pub closed : IsFirstCut closing body front rest
  pub front_matter : p.front_matter ≡ trim front
  pub markdown : p.markdown ≡ trim_start rest
  pub headed : p.markdown ≡ heading ++ lines
  pub first_line : IsFirstCut line_feed lines title_line below
  pub title : p.title ≡ trim_end title_line
  pub description : p.description ≡ trim below

-- the parts of Markdown below a front matter
abbrev pub titled : List ℕ → List ℕ → Option FileParts
titled front markdown = after_prefix heading markdown >>= cut_at line_feed >>= λ c. Some (record {
  front_matter = front;
  markdown = markdown;
  title = trim_end c.0;
  description = trim c.1;
})

-- the message for a text with another beginning
abbrev pub start_message : List ℕ → List ℕ
start_message beginning = codes "not the start of an advisory: found `" ++ (beginning ++ codes "`, expected a first line of three backticks and `toml`")

-- the message for a text with another beginning shows at most 20 bytes of it
abbrev pub ShowsBeginning : List ℕ → Failure → Type 0
ShowsBeginning text e = (b : List ℕ) × IsBeginning 20 text b × (e.message ≡ start_message b)

-- the parts of a text, if it has them
abbrev pub parts_of : List ℕ → Option FileParts
parts_of text = after_prefix opening text >>= cut_at closing >>= λ c. titled (trim c.0) (trim_start c.1)
