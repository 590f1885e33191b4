-- What one more file, after the others, adds to the loaded advisories.
use Rattle.std.proofs.Common.{◌≡◌, ◌∙◌, ◌++◌, List, [], ◌∷◌, refl, subst, ap, arith}
use Rattle.std.proofs.lemmas.List.{get_or_append_left, length-append}
use Rattle.std.proofs.lemmas.List.Elements.{filter-append}
use Rattle.std.specs.List.{filter}
use Rattle.rustsec_advisory.specs.declared.advisory.Advisory.{Advisory}
use Rattle.rustsec_files.specs.declared.source_file.SourceFile.{SourceFile}
use Rattle.rustsec_database.specs.Placement.{IsFiled}
use Rattle.rustsec_database.specs.Loaded.{AreFiled, AreLoaded, HaveOwnIds, is_stored}

-- the advisories of some files and of one more
record LastFiled (files : List SourceFile) (file : SourceFile) (all : List Advisory) : Type 0 where
  before : List Advisory
  one : Advisory
  are : all ≡ before ++ one ∷ []
  are_filed : AreFiled files before
  is_filed : IsFiled file.path file.text one

last-filed : (files : List SourceFile) (file : SourceFile) (all : List Advisory) → AreFiled (files ++ file ∷ []) all → LastFiled files file all
last-filed [] file [] h = absurd h
last-filed [] file (a ∷ []) h = record { before = []; one = a; are = refl; are_filed = tt; is_filed = h.0 }
last-filed [] file (a ∷ b ∷ all) h = absurd h.1
last-filed (f ∷ files) file [] h = absurd h
last-filed (f ∷ files) file (a ∷ all) h =
    let more = last-filed files file all h.1 in
    record {
      before = a ∷ more.before;
      one = more.one;
      are = ap (λ l. a ∷ l) more.are;
      are_filed = (h.0, more.are_filed);
      is_filed = more.is_filed;
    }

own-before : (xs ys : List Advisory) → HaveOwnIds (xs ++ ys) → HaveOwnIds xs
own-before xs ys own i j d l m =
    let long = length-append xs ys in
    rw (get_or_append_left xs ys d i (omega (arith, l, m)), get_or_append_left xs ys d j m) at (own i j d l (omega (arith, m, long)))

-- the advisories of some files, and what one more file adds to them
pub record LoadedWith (files : List SourceFile) (file : SourceFile) (more : List Advisory) : Type 0 where
  pub before : List Advisory
  pub one : Advisory
  pub are_loaded : AreLoaded files before
  pub is_filed : IsFiled file.path file.text one
  pub more_are : more ≡ before ++ filter is_stored (one ∷ [])

pub loaded-with : (files : List SourceFile) (file : SourceFile) (more : List Advisory) → AreLoaded (files ++ file ∷ []) more
    → LoadedWith files file more
loaded-with files file more h =
    let last = last-filed files file h.all h.are_filed in
    let split = h.loaded_are ∙ (ap (filter is_stored) last.are ∙ filter-append is_stored last.before (last.one ∷ [])) in
    record {
      before = filter is_stored last.before;
      one = last.one;
      are_loaded = record {
        all = last.before;
        are_filed = last.are_filed;
        loaded_are = refl;
        own_ids = own-before (filter is_stored last.before) (filter is_stored (last.one ∷ [])) (subst HaveOwnIds split h.own_ids);
      };
      is_filed = last.is_filed;
      more_are = split;
    }
