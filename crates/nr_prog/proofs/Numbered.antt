-- Numbers of texts: two texts of a pool have one number exactly where they are the same.
use Rattle.std.proofs.Common.{◌≡◌, ℕ, zero, suc, ◌+◌, ◌-◌, ◌<◌, ◌≤◌, Bool, true, false, cond, ◌&&◌, eqb, eq-eqb, List, [], ◌∷◌, ◌++◌, length, get_or, take, map, Option, Some, None, Result, Ok, Err, add-one, refl, sym, ap, subst, ◌∙◌, arith}
use Rattle.std.specs.Prelude.{OnOk, slice_get}
use Rattle.std.specs.Option.{unwrap_or, option_or, option_map, option_map_or}
use Rattle.std.specs.Map.{lookup}
use Rattle.std.specs.Ordering.{is_eq, nat_cmp}
use Rattle.std.specs.Borrow.{Bor}
use Rattle.std.specs.BTreeMap.{BTreeMap}
use Rattle.std.proofs.lemmas.Option.{slice_get-map}
use Rattle.std.proofs.lemmas.List.{map-append, take_more}
use Rattle.std.specs.Str.{bytes_eq}
use Rattle.std.proofs.lemmas.Bool.{eqb-true}
use Rattle.std.specs.Cmp.Lexicographic.{bytes_decides, slice_cmp}
use Rattle.nr_prog.specs.declared.pool.PoolEntry.{PoolEntry}
use Rattle.nr_prog.specs.declared.pool.PoolEntry.TheVariants.{Utf8}
use Rattle.nr_prog.specs.Pool.{text_in, text_at}
use Rattle.nr_prog.specs.Members.{is_spelled}
use Rattle.nr_prog.specs.Seen.{is_pair}
use Rattle.nr_prog.specs.TextNumbers.{has_text, first_from, listed_number, number, number_in, numbers_of}
use Rattle.nr_prog.specs.Told.{found_in, told}
use Rattle.nr_prog.proofs.Members.{spelled_at}

same_text : (t b : List ℕ) → bytes_eq t b ≡ true → t ≡ b
same_text t b e = (bytes_decides t b).0 e

text_alike : (t : List ℕ) → bytes_eq t t ≡ true
text_alike t = (bytes_decides t t).1 refl

holds : (t : List ℕ) (e : PoolEntry) → has_text t e ≡ true → text_in e ≡ Some t
holds t (Utf8 b) h = ap (λ z. Some z) (sym (same_text t b h))
holds t e h = absurd cc

-- ---- the first index, entry by entry

step : (b : Bool) (n : ℕ) (r s more : Option ℕ) → r ≡ option_or s more → cond b (Some n) r ≡ option_or (cond b (Some n) s) more
step true n r s more h = refl
step false n r s more h = h

pub one_more : (n : ℕ) (xs : List PoolEntry) (i : ℕ) (d : PoolEntry) (t : List ℕ) → i < length xs
    → first_from n (take (suc i) xs) t ≡ option_or (first_from n (take i xs) t) (cond (has_text t (get_or xs i d)) (Some (n + i)) None)
unfolding first_from
one_more n [] i d t lt = absurd (omega arith)
one_more n (x ∷ xs) zero d t lt = let k : n ≡ n + 0 = omega arith in ap (λ m. cond (has_text t x) (Some m) None) k
one_more n (x ∷ xs) (suc i) d t lt =
    let k : (n + 1) + i ≡ n + suc i = omega arith in
    step (has_text t x) n (first_from (n + 1) (take (suc i) xs) t) (first_from (n + 1) (take i xs) t) (cond (has_text t (get_or xs i d)) (Some (n + suc i)) None)
    (one_more (n + 1) xs i d t (omega arith) ∙ ap (λ m. option_or (first_from (n + 1) (take i xs) t) (cond (has_text t (get_or xs i d)) (Some m) None)) k)

pick : (c : Bool) (n m : ℕ) (r s : Option ℕ) → unwrap_or r m ≡ unwrap_or s 0 → unwrap_or (cond c (Some n) r) m ≡ unwrap_or (cond c (Some n) s) 0
pick true n m r s h = refl
pick false n m r s h = h

-- the number of an entry's text, once those of the entries before were told
pub found_here : (n : ℕ) (xs : List PoolEntry) (i m : ℕ) (d : PoolEntry) (b : List ℕ) → i < length xs → get_or xs i d ≡ Utf8 b → m ≡ n + i
    → unwrap_or (first_from n (take i xs) b) m ≡ unwrap_or (first_from n xs b) 0
unfolding first_from
found_here n [] i m d b lt here is = absurd (omega arith)
found_here n (x ∷ xs) zero m d b lt here is =
    let yes : has_text b x ≡ true = ap (has_text b) here ∙ text_alike b in
    let k : m ≡ n = omega arith in
    k ∙ sym (ap (λ c. unwrap_or (cond c (Some n) (first_from (n + 1) xs b)) 0) yes)
found_here n (x ∷ xs) (suc i) m d b lt here is =
    pick (has_text b x) n m (first_from (n + 1) (take i xs) b) (first_from (n + 1) xs b) (found_here (n + 1) xs i m d b (omega arith) here (omega arith))

-- ---- what a number tells

found_by : (n : ℕ) (x : PoolEntry) (xs : List PoolEntry) (t : List ℕ) (m : ℕ) (b : Bool) → has_text t x ≡ b → cond b (Some n) (first_from (n + 1) xs t) ≡ Some m
    → (first_from (n + 1) xs t ≡ Some m → (n + 1 ≤ m) × (option_map_or text_in (slice_get xs (m - (n + 1))) None ≡ Some t))
    → (n ≤ m) × (option_map_or text_in (slice_get (x ∷ xs) (m - n)) None ≡ Some t)
found_by n x xs t m true h e more =
    let is : n ≡ m = cc in
    let k : 0 ≡ m - n = omega arith in
    (omega arith, subst (λ i. option_map_or text_in (slice_get (x ∷ xs) i) None ≡ Some t) k (holds t x h))
found_by n x xs t m false h e more =
    let r = more e in
    let le : n + 1 ≤ m = r.0 in
    let k : suc (m - (n + 1)) ≡ m - n = omega arith in
    (omega arith, subst (λ i. option_map_or text_in (slice_get (x ∷ xs) i) None ≡ Some t) k r.1)

found : (n : ℕ) (xs : List PoolEntry) (t : List ℕ) (m : ℕ) → first_from n xs t ≡ Some m → (n ≤ m) × (option_map_or text_in (slice_get xs (m - n)) None ≡ Some t)
unfolding first_from
found n [] t m e = absurd cc
found n (x ∷ xs) t m e = found_by n x xs t m (has_text t x) refl e (λ h. found (n + 1) xs t m h)

has_its : (t : List ℕ) (e : PoolEntry) → text_in e ≡ Some t → has_text t e ≡ true
has_its t (Utf8 b) h = let same : b ≡ t = cc in ap (bytes_eq t) same ∙ text_alike t
has_its t e h = absurd cc

first_by : (n : ℕ) (rest : Option ℕ) (b : Bool) → ((m : ℕ) × (rest ≡ Some m)) → (m : ℕ) × (cond b (Some n) rest ≡ Some m)
first_by n rest true more = (n, refl)
first_by n rest false more = more

has_first : (n : ℕ) (xs : List PoolEntry) (i : ℕ) (t : List ℕ) → option_map_or text_in (slice_get xs i) None ≡ Some t → (m : ℕ) × (first_from n xs t ≡ Some m)
unfolding first_from
has_first n [] zero t e = absurd cc
has_first n [] (suc i) t e = absurd cc
has_first n (x ∷ xs) zero t e = (n, ap (λ b. cond b (Some n) (first_from (n + 1) xs t)) (has_its t x e))
has_first n (x ∷ xs) (suc i) t e = first_by n (first_from (n + 1) xs t) (has_text t x) (has_first (n + 1) xs i t e)

agree : (a b : Bool) → (a ≡ true → b ≡ true) → (b ≡ true → a ≡ true) → a ≡ b
agree true b f g = sym (f refl)
agree false true f g = g refl
agree false false f g = refl

texts_by : (pool : List PoolEntry) (t s : List ℕ) (m : ℕ) (o : Option ℕ) → first_from 1 pool s ≡ Some m → first_from 1 pool t ≡ o → unwrap_or o 0 ≡ m → t ≡ s
texts_by pool t s m None e f is = let r = found 1 pool s m e in let le : 1 ≤ m = r.0 in absurd (omega arith)
texts_by pool t s m (Some k) e f is =
    let r = found 1 pool s m e in
    let q = found 1 pool t k f in
    let there : option_map_or text_in (slice_get pool (m - 1)) None ≡ Some s = r.1 in
    let here : option_map_or text_in (slice_get pool (m - 1)) None ≡ Some t = subst (λ j. option_map_or text_in (slice_get pool (j - 1)) None ≡ Some t) is q.1 in
    cc

pub number_tells : (pool : List PoolEntry) (t s : List ℕ) (i : ℕ) → text_at pool i ≡ Some s → eqb (number pool t) (number pool s) ≡ bytes_eq t s
unfolding number text_at
number_tells pool t s zero e = absurd cc
number_tells pool t s (suc i) e =
    let f = has_first 1 pool i s e in
    agree (eqb (number pool t) (number pool s)) (bytes_eq t s)
    (λ h. let same = eqb-true (number pool t) (number pool s) h ∙ ap (λ o. unwrap_or o 0) f.1 in
    ap (bytes_eq t) (sym (texts_by pool t s f.0 (first_from 1 pool t) f.1 refl same)) ∙ text_alike t)
    (λ h. eq-eqb (number pool t) (number pool s) (ap (number pool) (same_text t s h)))

-- a pair of numbers is that of the texts at two indices
pub pair_at : (pool : List PoolEntry) (x y : List ℕ) (n d a b : ℕ) (name desc : List ℕ) → text_at pool n ≡ Some name → text_at pool d ≡ Some desc
    → a ≡ number pool name → b ≡ number pool desc → is_pair (number pool x) (number pool y) a b ≡ is_spelled pool x y n d
pair_at pool x y n d a b name desc e f p q =
    (λ i. eqb (number pool x) (p i) && eqb (number pool y) (q i))
    ∙ (λ i. number_tells pool x name n e i && number_tells pool y desc d f i)
    ∙ sym (spelled_at pool x y n d name desc e f)

-- ---- the list of all numbers

number_given : (pool : List PoolEntry) (o : Option PoolEntry) (text : List ℕ) → option_map_or text_in o None ≡ Some text → unwrap_or (option_map (number_in pool) o) 0 ≡ number pool text
number_given pool (Some (Utf8 b)) text e = let same : b ≡ text = cc in ap (number pool) same
number_given pool (Some e) text h = absurd cc
number_given pool None text h = absurd cc

pub number_listed : (pool : List PoolEntry) (index : ℕ) (text : List ℕ) → text_at pool index ≡ Some text → listed_number (numbers_of pool) index ≡ number pool text
unfolding text_at
number_listed pool zero text e = absurd cc
number_listed pool (suc i) text e = ap (λ o. unwrap_or o 0) (slice_get-map (number_in pool) pool i) ∙ number_given pool (slice_get pool i) text e

-- ---- texts that were told

told_by : (f : List ℕ → Option ℕ) (bytes cs : List ℕ) (index : ℕ) (b : Bool) → bytes_eq bytes cs ≡ b → f bytes ≡ None
    → cond b (Some index) (f cs) ≡ option_or (f cs) (cond (bytes_eq cs bytes) (Some index) None)
told_by f bytes cs index true e none =
    let same = same_text bytes cs e in
    let here : f cs ≡ None = sym (ap f same) ∙ none in
    let yes : bytes_eq cs bytes ≡ true = ap (bytes_eq cs) same ∙ text_alike cs in
    sym ((λ i. option_or (here i) (cond (yes i) (Some index) None)))
told_by f bytes cs index false e none = kept (f cs) (bytes_eq cs bytes) index (λ h. let same = same_text cs bytes h in let yes : bytes_eq bytes cs ≡ true = ap (bytes_eq bytes) same ∙ text_alike bytes in absurd cc)
  where
    kept : (o : Option ℕ) (b : Bool) (index : ℕ) → (b ≡ true → ⊥) → o ≡ option_or o (cond b (Some index) None)
    kept (Some x) b index h = refl
    kept None true index h = absurd (h refl)
    kept None false index h = refl

-- a text that wasn't told is put in
pub told_more : (f : List ℕ → Option ℕ) (bytes cs : List ℕ) (index : ℕ) → f bytes ≡ None
    → cond (bytes_eq bytes cs) (Some index) (f cs) ≡ option_or (f cs) (cond (bytes_eq cs bytes) (Some index) None)
told_more f bytes cs index none = told_by f bytes cs index (bytes_eq bytes cs) refl none

pub told_on : (pool : List PoolEntry) (place index : ℕ) (e : PoolEntry) (old new : Option ℕ) (t : List ℕ) → place < length pool → e ≡ get_or pool place e → index ≡ place + 1
    → new ≡ option_or old (cond (has_text t e) (Some index) None) → old ≡ first_from 1 (take place pool) t → new ≡ first_from 1 (take (place + 1) pool) t
told_on pool place index e old new t lt here is h so_far =
    let k : index ≡ 1 + place = omega arith in
    h ∙ ap (λ o. option_or o (cond (has_text t e) (Some index) None)) so_far
    ∙ ap (λ m. option_or (first_from 1 (take place pool) t) (cond (has_text t e) (Some m) None)) k
    ∙ ap (λ x. option_or (first_from 1 (take place pool) t) (cond (has_text t x) (Some (1 + place)) None)) here
    ∙ sym (one_more 1 pool place e t lt) ∙ ap (λ n. first_from 1 (take n pool) t) (sym (add-one place))

number_at_place : (pool : List PoolEntry) (place index : ℕ) (e : PoolEntry) (f : BTreeMap (Bor (List ℕ)) ℕ) → place < length pool → e ≡ get_or pool place e → index ≡ place + 1
    → ((t : List ℕ) → told f t ≡ first_from 1 (take place pool) t) → found_in f index e ≡ number_in pool e
unfolding number
number_at_place pool place index (Utf8 b) f lt here is so_far =
    ap (λ o. unwrap_or o index) (so_far b) ∙ found_here 1 pool place index (Utf8 b) b lt (sym here) (omega arith)
number_at_place pool place index e f lt here is so_far = refl

pub numbers_on : (pool : List PoolEntry) (place index x : ℕ) (e : PoolEntry) (f : BTreeMap (Bor (List ℕ)) ℕ) (xs ys : List ℕ) → place < length pool → e ≡ get_or pool place e → index ≡ place + 1
    → ((t : List ℕ) → told f t ≡ first_from 1 (take place pool) t) → x ≡ found_in f index e
    → xs ≡ map (number_in pool) (take place pool) → ys ≡ xs ++ x ∷ [] → ys ≡ map (number_in pool) (take (place + 1) pool)
numbers_on pool place index x e f xs ys lt here is told_so is_x so_far more =
    let one : x ≡ number_in pool (get_or pool place e) = is_x ∙ number_at_place pool place index e f lt here is told_so ∙ ap (number_in pool) here in
    more ∙ (λ i. so_far i ++ one i ∷ []) ∙ sym (map-append (number_in pool) (take place pool) (get_or pool place e ∷ []))
    ∙ ap (map (number_in pool)) (sym (take_more pool place e lt))

pub told_none : (m : BTreeMap (Bor (List ℕ)) ℕ) → m.entries ≡ [] → (t : List ℕ) → told m t ≡ first_from 1 [] t
unfolding first_from
told_none m e t = ap (λ es. lookup (λ (k : Bor (List ℕ)). is_eq (slice_cmp nat_cmp t k.now)) es) e

pub on_ok : {A E : Type 0} (r : Result A E) (P : Type 0) → P → OnOk r P
on_ok (Ok x) P p = p
on_ok (Err e) P p = tt
