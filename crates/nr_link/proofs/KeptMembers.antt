-- Tables of members that are put together one by one.
use Rattle.std.proofs.Common.{◌≡◌, ℕ, zero, suc, ◌+◌, ◌-◌, ◌^◌, ◌<◌, ◌≤◌, cond, Bool, true, false, List, [], ◌∷◌, ◌++◌, length, get_or, map, take, find, refl, sym, ap, subst, ◌∙◌, arith}
use Rattle.std.specs.Prelude.{Option, Some, None, IfSome, slice_get}
use Rattle.std.specs.List.{position, range_with_len}
use Rattle.std.specs.Borrow.{Bor}
use Rattle.std.specs.Option.{option_map_or, option_or}
use Rattle.indexmap.specs.IndexSet.{IndexSet}
use Rattle.nr_prog.specs.declared.parts.ClassParts.{ClassParts}
use Rattle.std.proofs.lemmas.List.{get_or_default, length-map, length_push, length-take, take_all, map-append}
use Rattle.nr_names.specs.declared.table.Key.{Key}
use Rattle.nr_names.specs.declared.table.Table.{Table}
use Rattle.nr_names.specs.Numbers.{numbers_of, texts}
use Rattle.nr_names.specs.Tables.{Lists, has_key, place_in}
use Rattle.nr_names.proofs.Listing.{position_more}
use Rattle.nr_linked.specs.declared.program.tables.ProgramTables.{ProgramTables}
use Rattle.nr_link.specs.declared.lookup.Kept.{Kept}
use Rattle.nr_linked.specs.Slots.{slots_of}
use Rattle.nr_link.specs.Coded.{read_class}
use Rattle.nr_link.specs.Lookups.{AreKept, IsKept, ListsMethods, field_keys, slot_key}
use Rattle.nr_link.specs.Meanings.{meanings_of}
use Rattle.nr_link.proofs.Numbered.{more}

-- a table with one member more: it has the place of that where no earlier one has its key
abbrev pub Adds : Table → Table → ℕ → Option Key → Type 0
Adds old new place key = (k : Key) → place_in new k ≡ option_or (place_in old k) (cond (has_key k key) (Some place) None)

-- ---- numbers, from one on

module _ (key_at : ℕ → Option Key) where
  first_up : (k : Key) (i end : ℕ) → i < end → find (λ m. has_key k (key_at m)) (range_with_len i (end - i))
      ≡ cond (has_key k (key_at i)) (Some i) (find (λ m. has_key k (key_at m)) (range_with_len (i + 1) (end - (i + 1))))
  first_up k i end lt = ap (λ n. find (λ m. has_key k (key_at m)) (range_with_len i n)) longer
    where
      longer : end - i ≡ suc (end - (i + 1))
      longer = omega (arith, lt)

  pub goes_up : (i end : ℕ) (old new : Table) (key : Option Key) (all : List ℕ) → i < end → key ≡ key_at i → Adds old new i key
      → ((k : Key) → option_or (place_in old k) (find (λ m. has_key k (key_at m)) (range_with_len i (end - i))) ≡ find (λ m. has_key k (key_at m)) all)
      → (k : Key) → option_or (place_in new k) (find (λ m. has_key k (key_at m)) (range_with_len (i + 1) (end - (i + 1)))) ≡ find (λ m. has_key k (key_at m)) all
  goes_up i end old new key all lt e adds so_far k =
      ap (λ o. option_or o rest) (adds k ∙ ap (λ key. option_or (place_in old k) (cond (has_key k key) (Some i) None)) e)
      ∙ by_test (place_in old k) (has_key k (key_at i)) ∙ ap (λ o. option_or (place_in old k) o) (sym (first_up k i end lt)) ∙ so_far k
    where
      rest : Option ℕ
      rest = find (λ m. has_key k (key_at m)) (range_with_len (i + 1) (end - (i + 1)))

      by_test : (o : Option ℕ) (b : Bool) → option_or (option_or o (cond b (Some i) None)) rest ≡ option_or o (cond b (Some i) rest)
      by_test None true = refl
      by_test None false = refl
      by_test (Some n) b = refl

  pub all_up : (i end : ℕ) (t : Table) (all : List ℕ) → end ≤ i
      → ((k : Key) → option_or (place_in t k) (find (λ m. has_key k (key_at m)) (range_with_len i (end - i))) ≡ find (λ m. has_key k (key_at m)) all)
      → (k : Key) → place_in t k ≡ find (λ m. has_key k (key_at m)) all
  all_up i end t all le so_far k = kept (place_in t k) ∙ ap (λ n. option_or (place_in t k) (find (λ m. has_key k (key_at m)) (range_with_len i n))) (sym none) ∙ so_far k
    where
      kept : (o : Option ℕ) → o ≡ option_or o None
      kept None = refl
      kept (Some n) = refl

      none : end - i ≡ 0
      none = omega (arith, le)

  pub begins_up : (i end : ℕ) (t : Table) (all : List ℕ) → ((k : Key) → place_in t k ≡ None) → range_with_len i (end - i) ≡ all
      → (k : Key) → option_or (place_in t k) (find (λ m. has_key k (key_at m)) (range_with_len i (end - i))) ≡ find (λ m. has_key k (key_at m)) all
  begins_up i end t all empty is k = ap (λ o. option_or o (find (λ m. has_key k (key_at m)) (range_with_len i (end - i)))) (empty k) ∙ ap (find (λ m. has_key k (key_at m))) is

-- ---- items of a list

module _ {X : Type 0} (key_of : X → Option Key) where
  pub puts : (place : ℕ) (xs : List X) (x : X) (key : Option Key) (old new : Table) → place < length xs → x ≡ get_or xs place x → key ≡ key_of x → Adds old new place key
      → Lists old (map key_of (take place xs)) → Lists new (map key_of (take (place + 1) xs))
  puts place xs x key old new lt here e adds lists k =
      adds k ∙ (λ i. option_or (lists k i) (cond (has_key k ((e ∙ ap key_of here) i)) (Some (sym len i)) None))
      ∙ sym (position_more (has_key k) (map key_of (take place xs)) (key_of (get_or xs place x)))
      ∙ ap (position (has_key k)) (sym (ap (map key_of) (more xs place x lt) ∙ map-append key_of (take place xs) (get_or xs place x ∷ [])))
    where
      len : length (map key_of (take place xs)) ≡ place
      len = length-map (take place xs) key_of ∙ (let n = length-take place xs in omega (arith, n, lt))

  -- the same of an item that is read at its place
  pub puts_at : (place : ℕ) (xs : List X) (d : X) (key : Option Key) (old new : Table) → place < length xs → key ≡ key_of (get_or xs place d) → Adds old new place key
      → Lists old (map key_of (take place xs)) → Lists new (map key_of (take (place + 1) xs))
  puts_at place xs d key old new lt e adds lists = puts place xs (get_or xs place d) key old new lt (get_or_default xs place d (get_or xs place d) lt) e adds lists

  pub all_put : (place : ℕ) (xs : List X) (t : Table) → length xs ≤ place → Lists t (map key_of (take place xs)) → Lists t (map key_of xs)
  all_put place xs t le lists k = lists k ∙ ap (λ ys. position (has_key k) (map key_of ys)) (take_all place xs le)

-- ---- what is kept of each class

each_more : {X : Type 0} (Q : ℕ → X → Type 0) (xs : List X) (x : X) → ((c : ℕ) → IfSome (slice_get xs c) (Q c)) → Q (length xs) x → (c : ℕ) → IfSome (slice_get (xs ++ x ∷ []) c) (Q c)
each_more Q [] x each last zero = last
each_more Q [] x each last (suc c) = tt
each_more Q (y ∷ ys) x each last zero = each zero
each_more Q (y ∷ ys) x each last (suc c) = each_more (λ c. Q (suc c)) ys x (λ c. each (suc c)) last c

-- that of the first n classes
pub record KeptTo (P : ProgramTables) (known : List (List ℕ)) (all : List Kept) (n : ℕ) : Type 0 where
  pub len : length all ≡ n
  pub within : n ≤ length P.classes
  pub each : (c : ℕ) → IfSome (slice_get all c) (IsKept P known c)

pub keeps_none : (P : ProgramTables) (known : List (List ℕ)) → KeptTo P known [] 0
keeps_none P known = record { len = refl; within = omega arith; each = λ c. tt }

pub keeps_more : (P : ProgramTables) (known : List (List ℕ)) (all : List Kept) (k : Kept) (n : ℕ) → n < length P.classes → IsKept P known n k → KeptTo P known all n → KeptTo P known (all ++ k ∷ []) (n + 1)
keeps_more P known all k n lt kept to = record {
  len = length_push all k ∙ ap (λ m. m + 1) to.len;
  within = omega (arith, lt);
  each = each_more (IsKept P known) all k to.each (subst (λ n. IsKept P known n k) (sym to.len) kept);
}

pub keeps_all : (P : ProgramTables) (known : List (List ℕ)) (all : List Kept) (n : ℕ) → length P.classes ≤ n → KeptTo P known all n → AreKept P known all
keeps_all P known all n le to = record {
  len = omega (arith, le, to.len, to.within);
  each = to.each;
}

-- ---- the parts of what is kept of a class

pub few_texts : {S : Type 0} (set : IndexSet (Bor (List ℕ)) S) (n : ℕ) → n ≡ length set.keys → n ≤ 4294967295 → length (texts set) < 2 ^ 32
unfolding texts
few_texts set n len le = let e = length-map set.keys (λ (k : Bor (List ℕ)). k.now) in omega (arith, e, len, le)

module _ (P : ProgramTables) (known : List (List ℕ)) (c : ℕ) (k : Kept) (methods : ListsMethods P known c k.methods) (slots : Lists k.slots (map (slot_key known) (slots_of P c))) where
  pub kept_here : (parts : ClassParts) → Some parts ≡ read_class P c → k.meanings ≡ meanings_of P parts.pool → k.numbers ≡ numbers_of known parts.pool → Lists k.fields (field_keys known c parts) → IsKept P known c k
  kept_here parts here m n f = record {
    meanings = m ∙ ap (λ (o : Option ClassParts). option_map_or (λ (parts : ClassParts). meanings_of P parts.pool) o []) here;
    numbers = n ∙ ap (λ (o : Option ClassParts). option_map_or (λ (parts : ClassParts). numbers_of known parts.pool) o []) here;
    methods = methods;
    fields = λ key. f key ∙ ap (λ (o : Option ClassParts). position (has_key key) (option_map_or (field_keys known c) o [])) here;
    slots = slots;
  }

  pub kept_none : None ≡ read_class P c → k.meanings ≡ [] → k.numbers ≡ [] → ((key : Key) → place_in k.fields key ≡ None) → IsKept P known c k
  kept_none here m n f = record {
    meanings = m ∙ ap (λ (o : Option ClassParts). option_map_or (λ (parts : ClassParts). meanings_of P parts.pool) o []) here;
    numbers = n ∙ ap (λ (o : Option ClassParts). option_map_or (λ (parts : ClassParts). numbers_of known parts.pool) o []) here;
    methods = methods;
    fields = λ key. f key ∙ ap (λ (o : Option ClassParts). position (has_key key) (option_map_or (field_keys known c) o [])) here;
    slots = slots;
  }
