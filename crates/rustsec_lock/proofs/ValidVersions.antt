-- The versions of packages that were read are valid.
use Rattle.std.proofs.Common.{◌≡◌, List, [], ◌∷◌, Option, Some, None, refl, subst}
use Rattle.std.specs.List.{All}
use Rattle.std.specs.Prelude.{ℕ, Result, Ok, Err, codes}
use Rattle.std.proofs.lemmas.List.Elements.{All-cons, All-nil}
use Rattle.semver.specs.Parse.{Parts, version_parts}
use Rattle.toml.specs.Data.{Data, Members, as_str, as_table}
use Rattle.rustsec_values.specs.Reading.{◌>>=◌, before, read_all, read_optional, value_of}
use Rattle.rustsec_toml.specs.Fields.{optional, required}
use Rattle.rustsec_versions.specs.order.Precedence.{IsVersion}
use Rattle.rustsec_versions.proofs.lemmas.requirement.Parsed.{IsVersion-read}
use Rattle.rustsec_lock.specs.Lockfile.{AreValid, package_in, package_of, version_of}
use Rattle.rustsec_lock.specs.Names.{name_of}
use Rattle.rustsec_lock.specs.Package.{PackageValue}
use Rattle.rustsec_lock.specs.Source.{Source, source_id_of}

-- the result of a second reader comes from the result of a first one
bound : {A B : Type 0} (o : Option A) (f : A → Option B) (y : B) → o >>= f ≡ Some y → (x : A) × ((o ≡ Some x) × (f x ≡ Some y))
bound None f y h = cc h
bound (Some x) f y h = (x, (refl, h))

value_of-ok : {A E : Type 0} (r : Result A E) (x : A) → value_of r ≡ Some x → r ≡ Ok x
value_of-ok (Ok x) y h = cc h
value_of-ok (Err e) y h = cc h

some-inj : {B : Type 0} (a b : B) → Some a ≡ Some b → a ≡ b
some-inj a b h = cc h

version_of-valid : (text : List ℕ) (v : Parts) → version_of text ≡ Some v → IsVersion v
version_of-valid text v h = IsVersion-read text v (value_of-ok (version_parts text) v h)

abbrev checksum_last : Members → List ℕ → Parts → Option Source → Option PackageValue
checksum_last ms name version source =
    optional as_str (codes "checksum") ms >>= λ checksum. Some (record { name = name; version = version; source = source; checksum = checksum })

abbrev source_next : Members → List ℕ → Parts → Option PackageValue
source_next ms name version = optional as_str (codes "source") ms >>= read_optional source_id_of >>= checksum_last ms name version

abbrev version_next : Members → List ℕ → Option PackageValue
version_next ms name = required as_str (codes "version") ms >>= version_of >>= source_next ms name

same-version : (a b : PackageValue) → Some a ≡ Some b → a.version ≡ b.version
same-version a b h = cc h

package_in-valid : (ms : Members) (p : PackageValue) → package_in ms ≡ Some p → IsVersion p.version
package_in-valid ms p h =
    let (name, (_, after_name)) = bound (required as_str (codes "name") ms >>= name_of) (version_next ms) p h in
    let (version, (read, after_version)) = bound (required as_str (codes "version") ms >>= version_of) (source_next ms name) p after_name in
    let (text, (_, is)) = bound (required as_str (codes "version") ms) version_of version read in
    let (source, (_, after_source)) = bound (optional as_str (codes "source") ms >>= read_optional source_id_of) (checksum_last ms name version) p after_version in
    let (checksum, (_, made)) = bound (optional as_str (codes "checksum") ms) (λ checksum. Some (record { name = name; version = version; source = source; checksum = checksum })) p after_source in
    rw (same-version _ p made) at (version_of-valid text version is)

package_of-valid : (d : Data) (p : PackageValue) → package_of d ≡ Some p → IsVersion p.version
package_of-valid d p h =
    let (ms, (_, is)) = bound (as_table d) package_in p h in
    package_in-valid ms p is

-- what holds for each result of a reader holds for all results of a list
module _ {A B : Type 0} (f : A → Option B) (P : B → Type 0) (each : (x : A) (y : B) → f x ≡ Some y → P y) where
  before-all : (h : Option B) (r : Option (List B)) (ys : List B) → ((y : B) → h ≡ Some y → P y) → ((zs : List B) → r ≡ Some zs → All P zs)
      → before h r ≡ Some ys → All P ys
  before-all None r ys first others e = cc e
  before-all (Some y) None ys first others e = cc e
  before-all (Some y) (Some zs) ys first others e = subst (λ (us : List B). All P us) (some-inj (y ∷ zs) ys e) (All-cons P y zs (first y refl) (others zs refl))

  read_all-all : (xs : List A) (ys : List B) → read_all f xs ≡ Some ys → All P ys
  unfolding read_all
  read_all-all [] ys e = subst (λ (us : List B). All P us) (some-inj [] ys e) (All-nil P)
  read_all-all (x ∷ xs) ys e = before-all (f x) (read_all f xs) ys (λ y. each x y) (read_all-all xs) e

pub values_valid : (ds : List Data) (ps : List PackageValue) → read_all package_of ds ≡ Some ps → AreValid ps
values_valid = read_all-all package_of (λ (p : PackageValue). IsVersion p.version) package_of-valid
