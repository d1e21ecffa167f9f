-- Each path that a folder lists has a file.
use Rattle.std.proofs.Common.{◌≡◌, ℕ, Bool, true, false, cond, List, [], ◌∷◌, Option, Some, refl}
use Rattle.std.specs.Prelude.{is_some, ◌&&◌}
use Rattle.std.specs.Cmp.Lexicographic.{slice_cmp}
use Rattle.std.specs.Ordering.{nat_cmp, is_lt}
use Rattle.std.specs.Str.{bytes_eq}
use Rattle.std.proofs.lemmas.Slice.Eq.{bytes_eq-Decides}
use Rattle.nr_outside.specs.Folder.{ToldFile, class_paths, is_class_path, file_at}
use Rattle.nr_cli.specs.Order.{put_path, in_byte_order}
use Rattle.nr_cli.specs.Plan.{are_listed}

both : (a b : Bool) → (a && b) ≡ true → (a ≡ true) × (b ≡ true)
both true b e = (refl, e)
both false b e = absurd cc

joined : (a b : Bool) → a ≡ true → b ≡ true → (a && b) ≡ true
joined a b p q = rw (p, q) refl

found_or : (b : Bool) (x : List ℕ) (o : Option (List ℕ)) → is_some o ≡ true → is_some (cond b (Some x) o) ≡ true
found_or true x o e = refl
found_or false x o e = e

more_files : (dir : List ℕ) (f : ToldFile) (files : List ToldFile) (ps : List (List ℕ)) → are_listed dir files ps ≡ true → are_listed dir (f ∷ files) ps ≡ true
more_files dir f files [] e = refl
more_files dir f files (p ∷ ps) e =
    let h = both (is_some (file_at dir p files)) (are_listed dir files ps) e in
    joined _ _ (found_or (bytes_eq f.dir dir && bytes_eq f.path p) f.bytes (file_at dir p files) h.0) (more_files dir f files ps h.1)

itself : (xs : List ℕ) → bytes_eq xs xs ≡ true
itself xs = (bytes_eq-Decides xs xs).1 refl

here : (dir : List ℕ) (f : ToldFile) (files : List ToldFile) → bytes_eq f.dir dir ≡ true → is_some (file_at dir f.path (f ∷ files)) ≡ true
here dir f files e = rw (e, itself f.path) refl

pub own_paths : (dir : List ℕ) (files : List ToldFile) → are_listed dir files (class_paths dir files) ≡ true
own_paths dir [] = refl
own_paths dir (f ∷ files) =
    let later = more_files dir f files (class_paths dir files) (own_paths dir files) in
    elim (bytes_eq f.dir dir && is_class_path f.path) as (λ b. (bytes_eq f.dir dir && is_class_path f.path) ≡ b → are_listed dir (f ∷ files) (cond b (f.path ∷ class_paths dir files) (class_paths dir files)) ≡ true) [
      | true ↦ λ e. joined _ _ (here dir f files (both (bytes_eq f.dir dir) (is_class_path f.path) e).0) later
      | false ↦ λ e. later
    ] refl

put_listed : (dir : List ℕ) (files : List ToldFile) (x : List ℕ) (ys : List (List ℕ)) → is_some (file_at dir x files) ≡ true → are_listed dir files ys ≡ true → are_listed dir files (put_path x ys) ≡ true
put_listed dir files x [] e h = joined _ _ e refl
put_listed dir files x (y ∷ ys) e h =
    let parts = both (is_some (file_at dir y files)) (are_listed dir files ys) h in
    elim (is_lt (slice_cmp nat_cmp y x)) as (λ b. are_listed dir files (cond b (y ∷ put_path x ys) (x ∷ y ∷ ys)) ≡ true) [
      | true ↦ joined _ _ parts.0 (put_listed dir files x ys e parts.1)
      | false ↦ joined _ _ e h
    ]

in_order : (dir : List ℕ) (files : List ToldFile) (ps : List (List ℕ)) → are_listed dir files ps ≡ true → are_listed dir files (in_byte_order ps) ≡ true
in_order dir files [] h = refl
in_order dir files (p ∷ ps) h =
    let parts = both (is_some (file_at dir p files)) (are_listed dir files ps) h in
    put_listed dir files p (in_byte_order ps) parts.0 (in_order dir files ps parts.1)

pub sorted_paths : (dir : List ℕ) (files : List ToldFile) → are_listed dir files (in_byte_order (class_paths dir files)) ≡ true
sorted_paths dir files = in_order dir files (class_paths dir files) (own_paths dir files)
