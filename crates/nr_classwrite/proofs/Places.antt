-- The entries of a pool that keeps the form are spelled one behind the other.
use Rattle.std.proofs.Common.{◌≡◌, ℕ, suc, ◌+◌, ◌-◌, ◌<◌, ◌^◌, Bool, true, false, List, [], ◌∷◌, ◌++◌, length, Some, refl, sym, ap, subst, ◌∙◌, arith}
use Rattle.std.specs.Prelude.{slice_get, IsTrue, All}
use Rattle.std.specs.Option.{option_map_or}
use Rattle.std.specs.List.{AllByRecursion, flat_map}
use Rattle.std.specs.Int.{w16, w32, w64, to_be_bytes, cast_unsigned}
use Rattle.std.proofs.lemmas.Int.{to_z-of_z}
use Rattle.std.proofs.lemmas.List.Elements.{All-head, All-tail}
use Rattle.nr_prog.specs.declared.pool.PoolEntry.{PoolEntry}
use Rattle.nr_prog.specs.declared.pool.PoolEntry.TheVariants.{Utf8, Integer, Float, Long, Double, Class, Str, FieldRef, MethodRef, InterfaceMethodRef, NameAndType, Unused}
use Rattle.nr_prog.specs.Pool.{entry_at, names, is_wide, is_unused, is_entry_formed, text_len}
use Rattle.nr_base.proofs.Lists.{made}
use Rattle.nr_classread.specs.PoolText.{pair, entry, entries}
use Rattle.nr_classwrite.specs.Fits.{EntryFits}
use Rattle.nr_classwrite.specs.Text.{one, two, four, eight, entry_text}

-- ---- an entry

pair_spelled : (a b : ℕ) → (a < 2 ^ 16) × (b < 2 ^ 16) → pair (a, b) (to_be_bytes w16 a ++ to_be_bytes w16 b)
pair_spelled a b r = record { value = a; front = to_be_bytes w16 a; back = to_be_bytes w16 b; first = (r.0, refl); second = made b (to_be_bytes w16 b) (r.1, refl); whole = refl }

entry_spelled : (e : PoolEntry) → (e ≡ Unused → ⊥) → text_len e < 2 ^ 16 → EntryFits e → entry e (entry_text e)
unfolding one two four eight
entry_spelled (Utf8 bytes) u s r = (to_be_bytes w16 (length bytes) ++ bytes, refl, record { value = length bytes; front = to_be_bytes w16 (length bytes); back = bytes; first = (s, refl); second = (refl, refl); whole = refl })
entry_spelled (Integer z) u s r = (cast_unsigned w32 z, sym (to_z-of_z w32 z r.0), (to_be_bytes w32 (cast_unsigned w32 z), refl, (r.1, refl)))
entry_spelled (Float bits) u s r = (to_be_bytes w32 bits, refl, (r, refl))
entry_spelled (Long z) u s r = (cast_unsigned w64 z, sym (to_z-of_z w64 z r.0), (to_be_bytes w64 (cast_unsigned w64 z), refl, (r.1, refl)))
entry_spelled (Double bits) u s r = (to_be_bytes w64 bits, refl, (r, refl))
entry_spelled (Class name) u s r = (to_be_bytes w16 name, refl, (r, refl))
entry_spelled (Str text) u s r = (to_be_bytes w16 text, refl, (r, refl))
entry_spelled (FieldRef a b) u s r = (to_be_bytes w16 a ++ to_be_bytes w16 b, refl, pair_spelled a b r)
entry_spelled (MethodRef a b) u s r = (to_be_bytes w16 a ++ to_be_bytes w16 b, refl, pair_spelled a b r)
entry_spelled (InterfaceMethodRef a b) u s r = (to_be_bytes w16 a ++ to_be_bytes w16 b, refl, pair_spelled a b r)
entry_spelled (NameAndType a b) u s r = (to_be_bytes w16 a ++ to_be_bytes w16 b, refl, pair_spelled a b r)
entry_spelled Unused u s r = absurd (u refl)

-- ---- the places of wide entries

abbrev Formed : List PoolEntry → Type 0
Formed pool = (index : ℕ) (e : PoolEntry) → entry_at pool index ≡ Some e → IsTrue (is_entry_formed pool index e)

-- the list is what stands in the pool from place n on; `b` tells whether the entry before is wide
record IsFrom (pool : List PoolEntry) (n : ℕ) (after : List PoolEntry) (b : Bool) : Type 0 where
  same : (k : ℕ) → slice_get pool (n + k) ≡ slice_get after k
  wide : names is_wide pool n ≡ b
  next : b ≡ true → names is_unused pool (suc n) ≡ true

named_at : (pool : List PoolEntry) (test : PoolEntry → Bool) (n : ℕ) (e : PoolEntry) → slice_get pool n ≡ Some e → names test pool (suc n) ≡ test e
named_at pool test n e at = ap (λ o. option_map_or test o false) at

wide_next : (pool : List PoolEntry) (index : ℕ) (e : PoolEntry) → is_wide e ≡ true → is_entry_formed pool index e ≡ true → names is_unused pool (index + 1) ≡ true
unfolding is_entry_formed
wide_next pool index (Long n) w f = f
wide_next pool index (Double bits) w f = f
wide_next pool index e w f = absurd cc

is_unused_one : (e : PoolEntry) → is_unused e ≡ true → e ≡ Unused
is_unused_one Unused h = refl
is_unused_one e h = absurd cc

not_unused : (pool : List PoolEntry) (n : ℕ) (e : PoolEntry) → names is_wide pool n ≡ false → is_entry_formed pool (suc n) e ≡ true → e ≡ Unused → ⊥
unfolding is_entry_formed
not_unused pool n e w f is =
    let before : suc n - 1 ≡ n = omega arith in
    let wide : names is_wide pool (suc n - 1) ≡ true = subst (λ z. is_entry_formed pool (suc n) z ≡ true) is f in
    let clash : false ≡ true = sym w ∙ ap (λ j. names is_wide pool j) (sym before) ∙ wide in
    absurd cc

at_place : (pool : List PoolEntry) (n : ℕ) (e : PoolEntry) (after : List PoolEntry) → ((k : ℕ) → slice_get pool (n + k) ≡ slice_get (e ∷ after) k) → slice_get pool n ≡ Some e
at_place pool n e after same = let j : n ≡ n + 0 = omega arith in ap (λ i. slice_get pool i) j ∙ same 0

step : (pool : List PoolEntry) (n : ℕ) (e : PoolEntry) (after : List PoolEntry) (b : Bool) → Formed pool → IsFrom pool n (e ∷ after) b → IsFrom pool (suc n) after (is_wide e)
step pool n e after b formed at =
    let here : slice_get pool n ≡ Some e = at_place pool n e after at.same in
    record {
      same = λ k. let j : suc n + k ≡ n + suc k = omega arith in ap (λ i. slice_get pool i) j ∙ at.same (suc k);
      wide = named_at pool is_wide n e here;
      next = λ w. let j : suc (suc n) ≡ suc n + 1 = omega arith in ap (λ i. names is_unused pool i) j ∙ wide_next pool (suc n) e w (formed (suc n) e here);
    }

entries_spelled : (pool : List PoolEntry) (n : ℕ) (after : List PoolEntry) (b : Bool) → Formed pool → IsFrom pool n after b → All (λ e. text_len e < 2 ^ 16) after → AllByRecursion EntryFits after → entries b after (flat_map entry_text after)
entries_spelled pool n [] true formed at short fits = refl
entries_spelled pool n [] false formed at short fits = refl
entries_spelled pool n (e ∷ after) true formed at short fits =
    let here : slice_get pool n ≡ Some e = at_place pool n e after at.same in
    let is : e ≡ Unused = is_unused_one e (sym (named_at pool is_unused n e here) ∙ at.next refl) in
    let more = entries_spelled pool (suc n) after (is_wide e) formed (step pool n e after true formed at) (All-tail (λ e. text_len e < 2 ^ 16) e after short) fits.1 in
    (is, unused_front e after is more)
  where
    unused_front : (e : PoolEntry) (after : List PoolEntry) → e ≡ Unused → entries (is_wide e) after (flat_map entry_text after) → entries false after (flat_map entry_text (e ∷ after))
    unused_front e after is more = rw is (rw is at more)
entries_spelled pool n (e ∷ after) false formed at short fits =
    let here : slice_get pool n ≡ Some e = at_place pool n e after at.same in
    let more = entries_spelled pool (suc n) after (is_wide e) formed (step pool n e after false formed at) (All-tail (λ e. text_len e < 2 ^ 16) e after short) fits.1 in
    (entry_text e, flat_map entry_text after, entry_spelled e (not_unused pool n e at.wide (formed (suc n) e here)) (All-head (λ e. text_len e < 2 ^ 16) e after short) fits.0, more, refl)

pub pool_entries : (pool : List PoolEntry) → Formed pool → All (λ e. text_len e < 2 ^ 16) pool → AllByRecursion EntryFits pool → entries false pool (flat_map entry_text pool)
pool_entries pool formed short fits = entries_spelled pool 0 pool false formed (record { same = λ k. let j : 0 + k ≡ k = omega arith in ap (λ i. slice_get pool i) j; wide = refl; next = λ e. absurd cc }) short fits
