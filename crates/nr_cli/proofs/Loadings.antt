-- Class files that are read one after the other.
use Rattle.std.proofs.Common.{◌≡◌, ◌⊎◌, ℕ, ◌+◌, ◌<◌, ◌≤◌, Bool, true, false, cond, ◌&&◌, List, [], ◌∷◌, ◌++◌, length, min, Result, Ok, Err, refl, sym, ap, subst, ◌∙◌, arith, inl, inr, append_assoc, add_assoc, add-one, drop-cons, suc, map, drop, get_or, None}
use Rattle.std.specs.Prelude.{is_some, is_ok}
use Rattle.std.specs.String.{string_bytes}
use Rattle.std.specs.declared.alloc.Global.{Global}
use Rattle.std.specs.declared.string.String.{String}
use Rattle.std.proofs.lemmas.Bool.{cases_lt, lt-leb}
use Rattle.std.proofs.lemmas.List.{append-nil, drop_all}
use Rattle.nr_outside.specs.Folder.{ToldFile, file_at}
use Rattle.nr_prog.specs.declared.body.loaded.Loaded.{Loaded}
use Rattle.nr_cli.specs.Words.{Command}
use Rattle.nr_cli.specs.Loading.{IsNext, IsRead}
use Rattle.nr_cli.specs.Plan.{loaded_at, and_then_all, all_loaded, folder_due, loaded_due, reads, are_listed}
use Rattle.nr_cli.specs.declared.ending.End.{End}
use Rattle.nr_cli.specs.declared.ending.End.TheVariants.{Memory, Folder}

abbrev All : Type 0
All = Result (List Loaded × ℕ) End

-- what the files before and those from here on give together
abbrev onto : List Loaded → ℕ → All → All
onto done sum (Ok x) = Ok (done ++ x.0, sum + x.1)
onto done sum (Err end) = Err end

-- The files at the paths before were read, and the others give the total.
pub record Walk (dir : List ℕ) (files : List ToldFile) (total : All) (rest : List (List ℕ)) (kept : List Loaded) (len : ℕ) : Type 0 where
  pub done : List Loaded
  pub sum : ℕ
  pub rest_gives : onto done sum (all_loaded dir files rest) ≡ total
  pub whole : len ≤ 67108864 → kept ≡ done
  pub lens : len ≡ min sum 67108865

same : (total : All) → onto [] 0 total ≡ total
same (Ok x) = λ i. Ok (x.0, zero_plus x.1 i)
  where
    zero_plus : (n : ℕ) → 0 + n ≡ n
    zero_plus n = omega arith
same (Err end) = refl

pub begins : (dir : List ℕ) (files : List ToldFile) (paths : List (List ℕ)) → Walk dir files (all_loaded dir files paths) paths [] 0
begins dir files paths = record { done = []; sum = 0; rest_gives = same (all_loaded dir files paths); whole = λ few. refl; lens = refl }

one_more : (done : List Loaded) (sum : ℕ) (class : Loaded) (len : ℕ) (others : All) → onto done sum (and_then_all (Ok (class, len)) others) ≡ onto (done ++ class ∷ []) (sum + len) others
one_more done sum class len (Ok x) = λ i. Ok (sym (append_assoc done (class ∷ []) x.0) i, sym (add_assoc sum len x.1) i)
one_more done sum class len (Err end) = refl

pub walks_on : (dir : List ℕ) (files : List ToldFile) (total : All) (path : List ℕ) (after : List (List ℕ)) (kept more : List Loaded) (len next : ℕ)
    → IsNext (loaded_at path (file_at dir path files)) kept len more next → Walk dir files total (path ∷ after) kept len → Walk dir files total after more next
walks_on dir files total path after kept more len next n w = record {
  done = w.done ++ n.loaded ∷ [];
  sum = w.sum + n.len;
  rest_gives =
      sym (one_more w.done w.sum n.loaded n.len (all_loaded dir files after))
      ∙ sym (ap (λ z. onto w.done w.sum (and_then_all z (all_loaded dir files after))) n.is) ∙ w.rest_gives;
  whole = λ few.
      let fewer : len ≤ 67108864 = omega (arith, n.lens, few) in
      n.classes few ∙ ap (λ z. z ++ n.loaded ∷ []) (w.whole fewer);
  lens = omega (arith, n.lens, w.lens);
}

pub stops : (dir : List ℕ) (files : List ToldFile) (total : All) (path : List ℕ) (after : List (List ℕ)) (kept : List Loaded) (len : ℕ) (end : End)
    → Walk dir files total (path ∷ after) kept len → (end ≡ Memory) ⊎ (end ≡ Folder) ⊎ (loaded_at path (file_at dir path files) ≡ Err end)
    → (end ≡ Memory) ⊎ (end ≡ Folder) ⊎ (total ≡ Err end)
stops dir files total path after kept len end w (inl e) = inl e
stops dir files total path after kept len end w (inr (inl e)) = inr (inl e)
stops dir files total path after kept len end w (inr (inr e)) =
    inr (inr (sym w.rest_gives ∙ ap (λ z. onto w.done w.sum (and_then_all z (all_loaded dir files after))) e))

pub ends : (dir : List ℕ) (files : List ToldFile) (total : All) (kept : List Loaded) (len : ℕ) → Walk dir files total [] kept len → IsRead total kept len
ends dir files total kept len w = record {
  classes = w.done;
  sum = w.sum;
  is = sym w.rest_gives ∙ (λ i. Ok (append-nil w.done i, plus_zero w.sum i));
  whole = w.whole;
  lens = w.lens;
}
  where
    plus_zero : (n : ℕ) → n + 0 ≡ n
    plus_zero n = omega arith

-- ---- what is kept is enough

-- too long together or not
by_length : (c : Command) (paths : List (List ℕ)) (kept classes : List Loaded) (len sum : ℕ) → len ≡ min sum 67108865 → (len ≤ 67108864 → kept ≡ classes)
    → folder_due c paths len kept ≡ folder_due c paths sum classes
by_length c paths kept classes len sum lens whole =
    elim (cases_lt 67108864 sum) [
      | inl lt ↦
          let long : 67108864 < len = omega (arith, lens) in
          rw (lt-leb len 67108864 long, lt-leb sum 67108864 lt) refl
      | inr le ↦
          let same : len ≡ sum = omega (arith, lens) in
          let few : len ≤ 67108864 = omega (arith, lens) in
          λ i. folder_due c paths (same i) (whole few i)
    ]

pub read_is : (c : Command) (paths : List (List ℕ)) (total : All) (kept : List Loaded) (len : ℕ) → IsRead total kept len → folder_due c paths len kept ≡ loaded_due c paths total
read_is c paths total kept len l =
    by_length c paths kept l.classes len l.sum l.lens l.whole ∙ sym (ap (loaded_due c paths) l.is)

-- ---- the same at a place of the paths, as the program holds them

abbrev bytes_of : List (String Global) → List (List ℕ)
bytes_of paths = map string_bytes paths

rest_at : (paths : List (String Global)) (i : ℕ) (path : String Global) → i < length paths → path ≡ get_or paths i path → drop i paths ≡ path ∷ drop (i + 1) paths
rest_at paths i path lt is = rw (add-one i) (drop-cons paths i path lt ∙ ap (λ z. z ∷ drop (suc i) paths) (sym is))

-- `name` and `told` are the path and the files, as a call was told them
pub walks_at : (dir name : List ℕ) (files told : List ToldFile) (total : All) (paths : List (String Global)) (i : ℕ) (path : String Global) (kept more : List Loaded) (len next : ℕ)
    → i < length paths → path ≡ get_or paths i path → name ≡ string_bytes path → told ≡ files → IsNext (loaded_at name (file_at dir name told)) kept len more next
    → Walk dir files total (bytes_of (drop i paths)) kept len → Walk dir files total (bytes_of (drop (i + 1) paths)) more next
walks_at dir name files told total paths i path kept more len next lt is named same n w =
    walks_on dir files total (string_bytes path) (bytes_of (drop (i + 1) paths)) kept more len next
    (subst (λ z. IsNext (loaded_at (string_bytes path) (file_at dir (string_bytes path) z)) kept len more next) same
    (subst (λ z. IsNext (loaded_at z (file_at dir z told)) kept len more next) named n))
    (subst (λ z. Walk dir files total (bytes_of z) kept len) (rest_at paths i path lt is) w)

pub stops_at : (dir name : List ℕ) (files told : List ToldFile) (total : All) (paths : List (String Global)) (i : ℕ) (path : String Global) (kept : List Loaded) (len : ℕ) (end : End)
    → i < length paths → path ≡ get_or paths i path → name ≡ string_bytes path → told ≡ files → Walk dir files total (bytes_of (drop i paths)) kept len
    → (end ≡ Memory) ⊎ (end ≡ Folder) ⊎ (loaded_at name (file_at dir name told) ≡ Err end)
    → (end ≡ Memory) ⊎ (end ≡ Folder) ⊎ (total ≡ Err end)
stops_at dir name files told total paths i path kept len end lt is named same w h =
    stops dir files total (string_bytes path) (bytes_of (drop (i + 1) paths)) kept len end
    (subst (λ z. Walk dir files total (bytes_of z) kept len) (rest_at paths i path lt is) w)
    (subst (λ z. (end ≡ Memory) ⊎ (end ≡ Folder) ⊎ (loaded_at (string_bytes path) (file_at dir (string_bytes path) z) ≡ Err end)) same
    (subst (λ z. (end ≡ Memory) ⊎ (end ≡ Folder) ⊎ (loaded_at z (file_at dir z told) ≡ Err end)) named h))

pub ends_at : (dir : List ℕ) (files : List ToldFile) (total : All) (paths : List (String Global)) (i : ℕ) (kept : List Loaded) (len : ℕ)
    → length paths ≤ i → Walk dir files total (bytes_of (drop i paths)) kept len → IsRead total kept len
ends_at dir files total paths i kept len le w =
    ends dir files total kept len (subst (λ z. Walk dir files total (bytes_of z) kept len) (drop_all i paths le) w)

both : (a b : Bool) → (a && b) ≡ true → (a ≡ true) × (b ≡ true)
both true b e = (refl, e)
both false b e = absurd cc

pub listed_on : (dir : List ℕ) (files : List ToldFile) (paths : List (String Global)) (i : ℕ) (path : String Global) → i < length paths → path ≡ get_or paths i path
    → are_listed dir files (bytes_of (drop i paths)) ≡ true → are_listed dir files (bytes_of (drop (i + 1) paths)) ≡ true
listed_on dir files paths i path lt is e =
    (both (is_some (file_at dir (string_bytes path) files)) _ (subst (λ z. are_listed dir files (bytes_of z) ≡ true) (rest_at paths i path lt is) e)).1

pub listed_here : (dir name : List ℕ) (files told : List ToldFile) (paths : List (String Global)) (i : ℕ) (path : String Global) → i < length paths → path ≡ get_or paths i path
    → name ≡ string_bytes path → told ≡ files → are_listed dir files (bytes_of (drop i paths)) ≡ true → file_at dir name told ≡ None → ⊥
listed_here dir name files told paths i path lt is named same e nothing =
    let none : file_at dir (string_bytes path) files ≡ None = subst (λ z. file_at dir (string_bytes path) z ≡ None) same (subst (λ z. file_at dir z told ≡ None) named nothing) in
    let some = (both (is_some (file_at dir (string_bytes path) files)) _ (subst (λ z. are_listed dir files (bytes_of z) ≡ true) (rest_at paths i path lt is) e)).0 in
    let no : is_some (file_at dir (string_bytes path) files) ≡ false = ap is_some none in
    absurd cc

-- ---- how many calls are made on the folder

reads_ok : (dir : List ℕ) (files : List ToldFile) (path : List ℕ) (after : List (List ℕ)) (x : Loaded × ℕ)
    → loaded_at path (file_at dir path files) ≡ Ok x → reads dir files (path ∷ after) ≡ 1 + reads dir files after
reads_ok dir files path after x e = ap (λ z. 1 + cond (is_ok z) (reads dir files after) 0) e

-- one more file was read, and it wasn't refused
pub reads_on : (dir name : List ℕ) (files told : List ToldFile) (paths : List (String Global)) (i : ℕ) (path : String Global) (kept more : List Loaded) (len next : ℕ) (before now most : ℕ)
    → i < length paths → path ≡ get_or paths i path → name ≡ string_bytes path → told ≡ files → IsNext (loaded_at name (file_at dir name told)) kept len more next
    → now ≤ before + 1 → before + reads dir files (bytes_of (drop i paths)) ≤ most → now + reads dir files (bytes_of (drop (i + 1) paths)) ≤ most
reads_on dir name files told paths i path kept more len next before now most lt is named same n call so_far =
    let read : loaded_at (string_bytes path) (file_at dir (string_bytes path) files) ≡ Ok (n.loaded, n.len) =
    subst (λ z. loaded_at (string_bytes path) (file_at dir (string_bytes path) z) ≡ Ok (n.loaded, n.len)) same
    (subst (λ z. loaded_at z (file_at dir z told) ≡ Ok (n.loaded, n.len)) named n.is) in
    let one : reads dir files (bytes_of (drop i paths)) ≡ 1 + reads dir files (bytes_of (drop (i + 1) paths)) =
    ap (λ z. reads dir files (bytes_of z)) (rest_at paths i path lt is) ∙ reads_ok dir files (string_bytes path) (bytes_of (drop (i + 1) paths)) (n.loaded, n.len) read in
    omega arith

-- one more file was read, and it is the last
pub reads_last : (dir : List ℕ) (files : List ToldFile) (paths : List (String Global)) (i : ℕ) (path : String Global) (before now most : ℕ)
    → i < length paths → path ≡ get_or paths i path → now ≤ before + 1 → before + reads dir files (bytes_of (drop i paths)) ≤ most → now ≤ most
reads_last dir files paths i path before now most lt is call so_far =
    let rest = reads dir files (bytes_of (drop (i + 1) paths)) in
    let one : reads dir files (bytes_of (drop i paths)) ≡ 1 + cond (is_ok (loaded_at (string_bytes path) (file_at dir (string_bytes path) files))) rest 0 =
    ap (λ z. reads dir files (bytes_of z)) (rest_at paths i path lt is) in
    omega arith
