-- The units of an array, one behind the other.
use Rattle.std.proofs.Common.{◌≡◌, ℕ, zero, suc, ◌+◌, ◌<◌, ◌≤◌, List, [], ◌∷◌, ◌++◌, length, drop, map, refl, sym, ap, subst, ◌∙◌, arith, true, add-one}
use Rattle.std.specs.Prelude.{Err, Ok, OnErr, Result, ℤ, Option, Some, None, IfSome, IsSomeAnd, IsTrue, slice_get}
use Rattle.std.specs.FinMap.{get}
use Rattle.std.specs.Str.{encode_utf8_all}
use Rattle.std.proofs.lemmas.List.{append_assoc, length-append}
use Rattle.std.proofs.lemmas.Str.{encodes-append}
use Rattle.nr_optable.specs.Arithmetic.{to_char}
use Rattle.nr_linked.specs.Kinds.{is_array}
use Rattle.nr_model.specs.declared.value.Value.{Value}
use Rattle.nr_model.specs.declared.value.Value.TheVariants.{Int}
use Rattle.nr_model.specs.Heaps.{Heap, Obj}
use Rattle.nr_model.specs.Printing.{bytes_of_units, characters_after, completed, high_half, is_high_half}
use Rattle.nr_machine.specs.Prints.{AreInts, units_of}

-- the text so far, with what is left, is the whole
pub record Coded (vs : List Value) (text : List ℕ) (high : Option ℕ) (at : ℕ) : Type 0 where
  pub whole : text ++ encode_utf8_all (characters_after high (units_of (drop at vs))) ≡ bytes_of_units (units_of vs)

pub record Array (h : Heap) (a : ℕ) (count : ℕ) (text : List ℕ) (high : Option ℕ) (at : ℕ) : Type 0 where
  pub object : Obj
  pub there : get h a ≡ Some object
  pub ints : AreInts object.slots
  pub as_many : count ≡ length object.slots
  pub coded : Coded object.slots text high at
  pub half : IfSome high (λ h. is_high_half h ≡ true)

some_eq : {X : Type 0} {a b : X} → Some a ≡ Some b → a ≡ b
some_eq e = cc

one_on : (high : Option ℕ) (u : ℕ) (us : List ℕ) → characters_after high (u ∷ us) ≡ completed high u ++ characters_after (high_half u) us
one_on None u us = refl
one_on (Some h) u us = refl

drop_at : (vs : List Value) (at : ℕ) (v : Value) → slice_get vs at ≡ Some v → drop at vs ≡ v ∷ drop (suc at) vs
drop_at [] at v e = absurd cc
drop_at (x ∷ vs) zero v e = ap (λ v. v ∷ vs) cc
drop_at (x ∷ vs) (suc at) v e = drop_at vs at v e

drop_end : (vs : List Value) (n : ℕ) → length vs ≤ n → drop n vs ≡ []
drop_end [] zero l = refl
drop_end [] (suc n) l = refl
drop_end (v ∷ vs) zero l = absurd (omega (arith, l))
drop_end (v ∷ vs) (suc n) l = drop_end vs n (omega (arith, l))

module _ (vs : List Value) (text : List ℕ) (high : Option ℕ) (at : ℕ) (c : Coded vs text high at) where
  parts : (n : ℤ) → slice_get vs at ≡ Some (Int n) → text ++ (encode_utf8_all (completed high (to_char n)) ++ encode_utf8_all (characters_after (high_half (to_char n)) (units_of (drop (suc at) vs)))) ≡ bytes_of_units (units_of vs)
  parts n e =
      let u = to_char n in
      let d : characters_after high (units_of (drop at vs)) ≡ completed high u ++ characters_after (high_half u) (units_of (drop (suc at) vs))
      = ap (λ ys. characters_after high (units_of ys)) (drop_at vs at (Int n) e) ∙ one_on high u (units_of (drop (suc at) vs)) in
      ap (λ ys. text ++ ys) (sym (ap encode_utf8_all d ∙ encodes-append (completed high u) (characters_after (high_half u) (units_of (drop (suc at) vs))))) ∙ c.whole

  pub coded_on : (n : ℤ) → slice_get vs at ≡ Some (Int n) → (new : List ℕ) → new ≡ text ++ encode_utf8_all (completed high (to_char n)) → Coded vs new (high_half (to_char n)) (at + 1)
  coded_on n e new q = record {
    whole = subst (λ k. new ++ encode_utf8_all (characters_after (high_half (to_char n)) (units_of (drop k vs))) ≡ bytes_of_units (units_of vs)) (sym (add-one at))
        (ap (λ ys. ys ++ encode_utf8_all (characters_after (high_half (to_char n)) (units_of (drop (suc at) vs)))) q
        ∙ append_assoc text (encode_utf8_all (completed high (to_char n))) (encode_utf8_all (characters_after (high_half (to_char n)) (units_of (drop (suc at) vs)))) ∙ parts n e);
  }

  pub more_left : (n : ℤ) → slice_get vs at ≡ Some (Int n) → 0 < length (encode_utf8_all (completed high (to_char n))) → 0 < length (bytes_of_units (units_of vs))
  more_left n e l = omega (arith, l, ap length (parts n e), length-append text (encode_utf8_all (completed high (to_char n)) ++ encode_utf8_all (characters_after (high_half (to_char n)) (units_of (drop (suc at) vs)))), length-append (encode_utf8_all (completed high (to_char n))) (encode_utf8_all (characters_after (high_half (to_char n)) (units_of (drop (suc at) vs)))))

  at_end : length vs ≤ at → text ++ encode_utf8_all (characters_after high []) ≡ bytes_of_units (units_of vs)
  at_end l = ap (λ ys. text ++ encode_utf8_all (characters_after high (units_of ys))) (sym (drop_end vs at l)) ∙ c.whole

  pub coded_all : length vs ≤ at → (new : List ℕ) → new ≡ text ++ encode_utf8_all (characters_after high []) → new ≡ bytes_of_units (units_of vs)
  coded_all l new q = q ∙ at_end l

  pub last_left : length vs ≤ at → 0 < length (encode_utf8_all (characters_after high [])) → 0 < length (bytes_of_units (units_of vs))
  last_left l m = omega (arith, m, ap length (at_end l), length-append text (encode_utf8_all (characters_after high [])))

pub array_starts : (h : Heap) (a count : ℕ) (text : List ℕ) → IsSomeAnd (get h a) (λ o. IsTrue (is_array o.kind) × AreInts o.slots) → IsSomeAnd (get h a) (λ o. count ≡ length o.slots) → text ≡ [] → Array h a count text None 0
array_starts h a count text q c e = by (get h a) refl q c
  where
    by : (o : Option Obj) → get h a ≡ o → IsSomeAnd o (λ o. IsTrue (is_array o.kind) × AreInts o.slots) → IsSomeAnd o (λ o. count ≡ length o.slots) → Array h a count text None 0
    by None g q c = absurd q
    by (Some o) g q c = record { object = o; there = g; ints = q.1; as_many = c; coded = record { whole = ap (λ t. t ++ bytes_of_units (units_of o.slots)) e }; half = tt }

module _ (h : Heap) (a count : ℕ) (text : List ℕ) (high : Option ℕ) (at : ℕ) (y : Array h a count text high at) where
  -- what is read
  pub read_int : (v : Value) → at < count → IsSomeAnd (get h a) (λ o. slice_get o.slots at ≡ Some v) → (n : ℤ) × (v ≡ Int n)
  read_int v l r =
      let e : slice_get y.object.slots at ≡ Some v = subst (λ o. IsSomeAnd o (λ o. slice_get o.slots at ≡ Some v)) y.there r in
      let n = y.ints at (omega (arith, l, y.as_many)) in
      (n.0, some_eq (sym e ∙ n.1))

  pub slot_is : (n : ℤ) → IsSomeAnd (get h a) (λ o. slice_get o.slots at ≡ Some (Int n)) → slice_get y.object.slots at ≡ Some (Int n)
  slot_is n r = subst (λ o. IsSomeAnd o (λ o. slice_get o.slots at ≡ Some (Int n))) y.there r

  pub array_on : (n : ℤ) → IsSomeAnd (get h a) (λ o. slice_get o.slots at ≡ Some (Int n)) → (new : List ℕ) → new ≡ text ++ encode_utf8_all (completed high (to_char n)) → (next : Option ℕ) → next ≡ high_half (to_char n) → IfSome next (λ h. is_high_half h ≡ true)
      → Array h a count new next (at + 1)
  array_on n r new q next e half = record {
    object = y.object;
    there = y.there;
    ints = y.ints;
    as_many = y.as_many;
    coded = subst (λ x. Coded y.object.slots new x (at + 1)) (sym e) (coded_on y.object.slots text high at y.coded n (slot_is n r) new q);
    half = half;
  }

  pub array_whole : (Q : Obj → Type 0) → Q y.object → IsSomeAnd (get h a) Q
  array_whole Q q = subst (λ o. IsSomeAnd o Q) (sym y.there) q

pub on_err : {X E : Type 0} (r : Result X E) (Q : Type 0) → Q → OnErr r Q
on_err (Ok x) Q q = tt
on_err (Err e) Q q = q
