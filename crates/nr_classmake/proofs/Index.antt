-- An index beside a pool.
use Rattle.std.proofs.Common.{◌≡◌, ℕ, ◌+◌, ◌<◌, ◌^◌, Bool, true, false, cond, List, [], ◌∷◌, ◌++◌, length, take, Option, Some, None, inl, inr, refl, sym, ap, subst, ◌∙◌, arith, length-append, length-take}
use Rattle.std.specs.Ordering.{is_eq}
use Rattle.std.specs.BTreeMap.{BTreeMap, get, Updates}
use Rattle.std.proofs.lemmas.List.Elements.{All-nil, All-cons, All-append, All-take}
use Rattle.nr_prog.specs.declared.pool.PoolEntry.{PoolEntry}
use Rattle.nr_prog.specs.Pool.{text_len}
use Rattle.nr_classmake.specs.Places.{is_at, slot_of, HasShortTexts}
use Rattle.nr_classmake.specs.Keys.{Key, is_kept, key_in, order, IsIndexed}
use Rattle.nr_classmake.proofs.Keys.{same_key, one_key, equal}
use Rattle.nr_classmake.proofs.Slots.{there, nowhere, at_end, among_first}

abbrev pub IsWhole : BTreeMap Key ℕ → List PoolEntry → Type 0
IsWhole index pool = (length pool < 2 ^ 16) × HasShortTexts pool × IsIndexed index pool

-- ---- looking an entry up

found_if : (e : PoolEntry) (pool : List PoolEntry) (index : BTreeMap Key ℕ) (i : ℕ) (o : Option ℕ) → slot_of e pool ≡ o → IsIndexed index pool → is_kept e ≡ true
    → get order index (key_in e) ≡ Some i → is_at e pool i ≡ true → Some i ≡ slot_of e pool
found_if e pool index i None is indexed kept got at = absurd (nowhere e pool i at is)
found_if e pool index i (Some j) is indexed kept got at = sym got ∙ indexed.slots e j kept is ∙ sym is

pub found : (e : PoolEntry) (pool : List PoolEntry) (index : BTreeMap Key ℕ) (i : ℕ) → IsIndexed index pool → is_kept e ≡ true
    → get order index (key_in e) ≡ Some i → is_at e pool i ≡ true → Some i ≡ slot_of e pool
found e pool index i = found_if e pool index i (slot_of e pool) refl

absent_if : (e : PoolEntry) (pool : List PoolEntry) (index : BTreeMap Key ℕ) (i : ℕ) (o : Option ℕ) → slot_of e pool ≡ o → IsIndexed index pool → is_kept e ≡ true
    → get order index (key_in e) ≡ Some i → is_at e pool i ≡ false → None ≡ slot_of e pool
absent_if e pool index i None is indexed kept got at = sym is
absent_if e pool index i (Some j) is indexed kept got at =
    let g = indexed.slots e j kept is in
    let z : j ≡ i = cc in
    let t = subst (λ k. is_at e pool k ≡ true) z (there e pool j is) in
    absurd cc

pub absent : (e : PoolEntry) (pool : List PoolEntry) (index : BTreeMap Key ℕ) (i : ℕ) → IsIndexed index pool → is_kept e ≡ true
    → get order index (key_in e) ≡ Some i → is_at e pool i ≡ false → None ≡ slot_of e pool
absent e pool index i = absent_if e pool index i (slot_of e pool) refl

-- ---- adding an entry

kept_if : (b : Bool) (w v : Option ℕ) → (b ≡ true → ⊥) → cond b w v ≡ v
kept_if true w v h = absurd (h refl)
kept_if false w v h = refl

-- a new entry is put into the index first
pub noted : (e : PoolEntry) (pool : List PoolEntry) (old new : BTreeMap Key ℕ) (key : Key) (slot : ℕ) → IsWhole old pool → is_kept e ≡ true
    → key ≡ key_in e → slot_of e pool ≡ None → Updates order old new key (Some slot) → IsWhole new pool
noted e pool old new key slot whole kept is none updates = (
  whole.0,
  whole.1,
  record {
    slots = λ x i kept-x at.
        let others : is_eq (order key (key_in x)) ≡ true → ⊥ = λ tied.
        let one = one_key e x kept kept-x (sym is ∙ same_key key (key_in x) tied) in
        let z = subst (λ y. slot_of y pool ≡ None) one none in cc in
        updates.0 (key_in x) ∙ kept_if (is_eq (order key (key_in x))) (Some slot) (get order old (key_in x)) others ∙ whole.2.slots x i kept-x at;
  },
)

pub noted_slot : (e : PoolEntry) (old new : BTreeMap Key ℕ) (key : Key) (slot : ℕ) → key ≡ key_in e → Updates order old new key (Some slot) → get order new (key_in e) ≡ Some slot
noted_slot e old new key slot is updates = subst (λ k. get order new k ≡ Some slot) is updates.1

-- then at the end of the pool
pub pushed : (y : PoolEntry) (pool : List PoolEntry) (index : BTreeMap Key ℕ) → IsWhole index pool → length pool + 1 < 2 ^ 16 → text_len y < 2 ^ 16
    → (is_kept y ≡ true → get order index (key_in y) ≡ Some (length pool)) → IsWhole index (pool ++ y ∷ [])
pushed y pool index whole room short got = (
  omega (arith, length-append pool (y ∷ [])),
  All-append (λ e. text_len e < 2 ^ 16) pool (y ∷ []) whole.1 (All-cons (λ e. text_len e < 2 ^ 16) y [] short (All-nil (λ e. text_len e < 2 ^ 16))),
  record {
    slots = λ x i kept at.
        elim (at_end x y pool i at) [
          | inl l ↦ whole.2.slots x i kept l
          | inr r ↦
              let one = equal x y r.0 in
              let k = got (subst (λ e. is_kept e ≡ true) one kept) in
              subst (λ e. get order index (key_in e) ≡ Some i) (sym one) (k ∙ ap Some (sym r.1))
        ];
  },
)

pub cut : (n : ℕ) (pool : List PoolEntry) (index : BTreeMap Key ℕ) → IsWhole index pool → IsWhole index (take n pool)
cut n pool index whole = (
  omega (arith, length-take n pool),
  All-take (λ e. text_len e < 2 ^ 16) n pool whole.1,
  record { slots = λ x i kept at. whole.2.slots x i kept (among_first x n pool i at) },
)

-- what stands once an entry is noted and put at the end
pub noted_pushed : (e : PoolEntry) (pool seen : List PoolEntry) (old new : BTreeMap Key ℕ) (key : Key) (slot : ℕ) → IsWhole old pool → pool ≡ seen → is_kept e ≡ true
    → key ≡ key_in e → slot_of e seen ≡ None → Updates order old new key (Some slot) → slot ≡ length pool → length pool + 1 < 2 ^ 16 → text_len e < 2 ^ 16 → IsWhole new (pool ++ e ∷ [])
noted_pushed e pool seen old new key slot whole view kept is none updates len room short =
    let none' = subst (λ xs. slot_of e xs ≡ None) (sym view) none in
    pushed e pool new (noted e pool old new key slot whole kept is none' updates) room short (λ _. noted_slot e old new key slot is updates ∙ ap Some len)

pub noted_seen : (e : PoolEntry) (pool seen : List PoolEntry) (old new : BTreeMap Key ℕ) (key : Key) (slot : ℕ) → IsWhole old pool → pool ≡ seen → is_kept e ≡ true
    → key ≡ key_in e → slot_of e seen ≡ None → Updates order old new key (Some slot) → IsWhole new pool
noted_seen e pool seen old new key slot whole view kept is none updates =
    noted e pool old new key slot whole kept is (subst (λ xs. slot_of e xs ≡ None) (sym view) none) updates
