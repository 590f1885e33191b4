-- What contracts see of a list whose elements were cloned.
use Rattle.std.proofs.Common.{◌≡◌, List, [], ◌∷◌, map, refl}
use Rattle.std.specs.List.{AllZip}

-- if each clone looks like its source, so does the list
pub map-clones : {A B : Type 0} (R : A → A → Type 0) (view : A → B) → ((x y : A) → R x y → view y ≡ view x)
    → (xs ys : List A) → AllZip R xs ys → map view ys ≡ map view xs
map-clones R view each [] [] h = refl
map-clones R view each [] (y ∷ ys) h = absurd h
map-clones R view each (x ∷ xs) [] h = absurd h
map-clones R view each (x ∷ xs) (y ∷ ys) h = rw (each x y h.0, map-clones R view each xs ys h.1) refl
