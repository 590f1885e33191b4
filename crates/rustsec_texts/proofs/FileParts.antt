-- The parts of a text are those of the relation.
use Rattle.std.proofs.Common.{◌≡◌, ◌↔◌, ℕ, List, Option, Some, None, refl, sym, ap, ◌∙◌}
use Rattle.std.specs.Str.{trim, trim_end, trim_start}
use Rattle.rustsec_values.specs.Reading.{◌>>=◌}
use Rattle.rustsec_texts.specs.PatternCuts.{after_prefix, cut_at}
use Rattle.rustsec_texts.specs.Parts.{AreParts, FileParts, closing, heading, line_feed, opening, parts_of, titled}
use Rattle.rustsec_texts.proofs.Cutting.{after_prefix-from, after_prefix-is, cut_at-from, cut_at-is}

bound : {A B : Type 0} (o : Option A) (f : A → Option B) (b : B) → (o >>= f) ≡ Some b → (a : A) × (o ≡ Some a) × (f a ≡ Some b)
bound None f b h = cc h
bound (Some a) f b h = (a, refl, h)

some-inj : {A : Type 0} (a b : A) → Some a ≡ Some b → a ≡ b
some-inj a b h = cc h

are-parts : (text : List ℕ) (p : FileParts) → parts_of text ≡ Some p → AreParts text p
are-parts text p h =
    let (c, e1, e2) = bound (after_prefix opening text >>= cut_at closing) (λ c. titled (trim c.0) (trim_start c.1)) p h in
    let (body, e3, e4) = bound (after_prefix opening text) (cut_at closing) c e1 in
    let (d, e5, e6) = bound (after_prefix heading (trim_start c.1) >>= cut_at line_feed)
    (λ d. Some (record { front_matter = trim c.0; markdown = trim_start c.1; title = trim_end d.0; description = trim d.1 })) p e2 in
    let (lines, e7, e8) = bound (after_prefix heading (trim_start c.1)) (cut_at line_feed) d e5 in
    let e = some-inj (record { front_matter = trim c.0; markdown = trim_start c.1; title = trim_end d.0; description = trim d.1 }) p e6 in
    let markdown = sym (ap (λ (q : FileParts). q.markdown) e) in
    record {
      body = body;
      front = c.0;
      rest = c.1;
      lines = lines;
      title_line = d.0;
      below = d.1;
      opened = after_prefix-is opening text body e3;
      closed = cut_at-is closing body c e4;
      front_matter = sym (ap (λ (q : FileParts). q.front_matter) e);
      markdown = markdown;
      headed = markdown ∙ after_prefix-is heading (trim_start c.1) lines e7;
      first_line = cut_at-is line_feed lines d e8;
      title = sym (ap (λ (q : FileParts). q.title) e);
      description = sym (ap (λ (q : FileParts). q.description) e);
    }

has-parts : (text : List ℕ) (p : FileParts) → AreParts text p → parts_of text ≡ Some p
has-parts text p a =
    let e1 = after_prefix-from opening text a.body a.opened in
    let e2 = cut_at-from closing a.body a.front a.rest a.closed in
    let e3 = after_prefix-from heading (trim_start a.rest) a.lines (sym a.markdown ∙ a.headed) in
    let e4 = cut_at-from line_feed a.lines a.title_line a.below a.first_line in
    rw (e1, e2, e3, e4) (λ i. Some (record {
      front_matter = sym a.front_matter i;
      markdown = sym a.markdown i;
      title = sym a.title i;
      description = sym a.description i;
    }))

pub parts_are : (text : List ℕ) (p : FileParts) → (parts_of text ≡ Some p) ↔ AreParts text p
parts_are text p = (are-parts text p, has-parts text p)
