-- The rules of instructions on arrays (JVM Specification 6.5, each under its mnemonic). A rule is given what follows it.
use Rattle.std.specs.Prelude.{ℕ, zero, suc, ◌%◌, ℤ, pos, negsuc, Bool, true, false, ◌||◌, List, [], ◌∷◌, replicate, if◌then◌else◌}
use Rattle.std.specs.Int.{w8, w16, w32, int_wrap, cast_unsigned}
use Rattle.nr_optable.specs.declared.table.Letter.{Letter}
use Rattle.nr_optable.specs.declared.table.Letter.TheVariants as letters
use Rattle.nr_optable.specs.Arithmetic.{to_char}
use Rattle.nr_linked.specs.declared.program.built_in.BuiltIn.TheVariants.{ArrayStoreException, NegativeArraySizeException}
use Rattle.nr_linked.specs.declared.program.kind.Base.{Base}
use Rattle.nr_linked.specs.declared.program.kind.Base.TheVariants as bases
use Rattle.nr_linked.specs.declared.program.kind.Kind.{Kind}
use Rattle.nr_linked.specs.declared.program.tables.ProgramTables.{ProgramTables}
use Rattle.nr_linked.specs.ArrayKinds.{elements_of, is_element}
use Rattle.nr_linked.specs.Kinds.{array_of, element_of, is_array}
use Rattle.nr_linked.specs.Subtypes.{is_sub}
use Rattle.nr_model.specs.Scripts.{PlainInt, PlainLong, Script, Stuck, Push, PopInt, PopLong, Pick, Drop, AskNull, AskKind, ReadSlot, WriteSlot, Make}
use Rattle.nr_model.specs.Throws.{zero_of, throw_new, not_null, at_index, with_found, which}

-- ---- loads and stores

-- k of the components' kind and the index, where the reference at the depth isn't null and its array has the index
abbrev pub in_array : ProgramTables → ℕ → ℕ → ℤ → (Kind → ℕ → Script) → Script
in_array P code d i k = with_found (elements_of code) (λ elements. not_null P d (AskKind d (λ kind n.
    with_found (element_of kind) (λ e. which (is_element elements e) (at_index P n i (k e))))))

-- iaload, laload, aaload, baload, caload, saload
abbrev pub array_load : ProgramTables → ℕ → Script → Script
array_load P code k = PopInt (λ i. in_array P code 0 i (λ e j. ReadSlot j k))

-- what a place of a primitive kind keeps of an int: i2b, i2c and i2s by the kind, and the lowest bit for a boolean
abbrev pub narrowed : Base → ℤ → ℤ
narrowed bases.Bool n = pos (cast_unsigned w32 n % 2)
narrowed bases.Byte n = int_wrap w8 n
narrowed bases.Char n = pos (to_char n)
narrowed bases.Short n = int_wrap w16 n
narrowed base n = n

-- k, where the value at depth 0 may stand in an array of this kind of components
abbrev pub storable : ProgramTables → Kind → Script → Script
storable P e k = AskNull 0 (λ null. if null then k
    else AskKind 0 (λ kind n. if is_sub P kind e then k else throw_new P ArrayStoreException))

-- iastore, lastore, aastore, bastore, castore, sastore: by the letter of the value
abbrev pub array_store : ProgramTables → Letter → ℕ → Script → Script
array_store P letters.I code k = PopInt (λ v. PopInt (λ i. in_array P code 0 i (λ e j.
    Push (PlainInt (narrowed e.base v)) (WriteSlot j k))))
array_store P letters.J code k = PopLong (λ v. PopInt (λ i. in_array P code 0 i (λ e j.
    Push (PlainLong v) (WriteSlot j k))))
array_store P letter code k = Pick 1 (PopInt (λ i. in_array P code 2 i (λ e j.
    storable P e (Drop 1 (WriteSlot j k)))))

-- arraylength
abbrev pub array_length : ProgramTables → Script → Script
array_length P k = not_null P 0 (AskKind 0 (λ kind n. which (is_array kind) (Drop 0 (Push (PlainInt (pos n)) k))))

-- ---- new arrays

abbrev pub make_array : Kind → ℕ → Script → Script
make_array e n k = Make (array_of e) (replicate n (zero_of e)) k

-- newarray, anewarray: with these components
abbrev pub new_array : ProgramTables → Kind → Script → Script
new_array P e k = PopInt (λ n. of_count n)
  where
    of_count : ℤ → Script
    of_count (pos n) = make_array e n k
    of_count (negsuc n) = throw_new P NegativeArraySizeException

-- multianewarray: pops so many counts, the last on top, and throws where one is negative
abbrev pub with_counts : ProgramTables → ℕ → Bool → List ℕ → (List ℕ → Script) → Script
with_counts P zero negative ns k = if negative then throw_new P NegativeArraySizeException else k ns
with_counts P (suc d) negative ns k = PopInt (λ n. with_counts P d (negative || is_negative n) (count n ∷ ns) k)
  where
    is_negative : ℤ → Bool
    is_negative (pos n) = false
    is_negative (negsuc n) = true

    count : ℤ → ℕ
    count (pos n) = n
    count (negsuc n) = 0

-- puts what `make` makes into each slot below i of the topmost array
abbrev pub fill : ℕ → (Script → Script) → Script → Script
fill zero make k = k
fill (suc i) make k = Pick 0 (make (WriteSlot i (fill i make k)))

-- An array of the kind with these counts, from the outermost; below a count of 0 nothing is made. The dimensions
-- that have no count are null.
abbrev pub nested : Kind → List ℕ → Script → Script
nested kind [] k = Stuck
nested kind (n ∷ []) k = with_found (element_of kind) (λ e. make_array e n k)
nested kind (n ∷ m ∷ ns) k = with_found (element_of kind) (λ e. make_array e n (fill n (nested e (m ∷ ns)) k))

abbrev pub new_arrays : ProgramTables → Kind → ℕ → Script → Script
new_arrays P kind dims k = with_counts P dims false [] (λ ns. nested kind ns k)
