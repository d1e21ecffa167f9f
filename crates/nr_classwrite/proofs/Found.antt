-- The index of a name names it.
use Rattle.std.proofs.Common.{◌≡◌, ℕ, suc, ◌+◌, ◌<◌, ◌^◌, Bool, true, false, cond, List, [], ◌∷◌, length, Some, None, refl, ap, ◌∙◌, arith}
use Rattle.std.specs.Prelude.{slice_get}
use Rattle.std.specs.Option.{option_map_or}
use Rattle.std.specs.Str.{bytes_eq}
use Rattle.nr_prog.specs.declared.pool.PoolEntry.{PoolEntry}
use Rattle.nr_prog.specs.declared.pool.PoolEntry.TheVariants.{Utf8}
use Rattle.nr_prog.specs.Pool.{entry_at, text_in, text_at}
use Rattle.nr_prog.specs.Members.{spells}
use Rattle.nr_classread.specs.AttributeText.{is_named}
use Rattle.nr_classwrite.specs.Names.{is_utf8_of, index_from, index_in}

record IsFound (n : ℕ) (test : PoolEntry → Bool) (xs : List PoolEntry) (index : ℕ) : Type 0 where
  place : ℕ
  is : index ≡ n + place
  lt : place < length xs
  entry : PoolEntry
  at : slice_get xs place ≡ Some entry
  passes : test entry ≡ true

found_in : (n : ℕ) (test : PoolEntry → Bool) (x : PoolEntry) (xs : List PoolEntry) (index : ℕ) (b : Bool) → test x ≡ b → cond b (Some n) (index_from (n + 1) test xs) ≡ Some index
    → (index_from (n + 1) test xs ≡ Some index → IsFound (n + 1) test xs index) → IsFound n test (x ∷ xs) index
found_in n test x xs index true h e more = let is : n ≡ index = cc in record { place = 0; is = omega (arith, is); lt = omega arith; entry = x; at = refl; passes = h }
found_in n test x xs index false h e more =
    let m = more e in
    record { place = suc m.place; is = omega (arith, m.is); lt = omega (arith, m.lt); entry = m.entry; at = m.at; passes = m.passes }

found : (n : ℕ) (test : PoolEntry → Bool) (xs : List PoolEntry) (index : ℕ) → index_from n test xs ≡ Some index → IsFound n test xs index
unfolding index_from
found n test [] index e = absurd cc
found n test (x ∷ xs) index e = found_in n test x xs index (test x) refl e (λ h. found (n + 1) test xs index h)

spelled : (text : List ℕ) (e : PoolEntry) → is_utf8_of text e ≡ true → option_map_or (bytes_eq text) (text_in e) false ≡ true
spelled text (Utf8 bytes) h = h
spelled text e h = absurd cc

at_index : (pool : List PoolEntry) (text : List ℕ) (index place : ℕ) (e : PoolEntry) → index ≡ suc place → slice_get pool place ≡ Some e → is_utf8_of text e ≡ true → is_named pool text index ≡ true
unfolding spells text_at
at_index pool text index place e is at h =
    ap (λ i. option_map_or (bytes_eq text) (option_map_or text_in (entry_at pool i) None) false) is
    ∙ ap (λ o. option_map_or (bytes_eq text) (option_map_or text_in o None) false) at ∙ spelled text e h

pub index_names : (pool : List PoolEntry) (text : List ℕ) (index : ℕ) → index_in pool text ≡ Some index → is_named pool text index ≡ true
index_names pool text index e =
    let f = found 1 (is_utf8_of text) pool index e in
    at_index pool text index f.place f.entry (omega (arith, f.is)) f.at f.passes

pub index_short : (pool : List PoolEntry) (text : List ℕ) (index : ℕ) → length pool < 2 ^ 16 → index_in pool text ≡ Some index → index < 2 ^ 16
index_short pool text index few e =
    let f = found 1 (is_utf8_of text) pool index e in
    omega (arith, f.is, f.lt)
