-- Rows whose bits are set one after the other.
use Rattle.std.proofs.Common.{◌≡◌, ℕ, zero, suc, ◌+◌, ◌<◌, ◌≤◌, ◌||◌, Bool, true, false, List, [], ◌∷◌, ◌++◌, length, map, get_or, drop, replicate, refl, sym, ap, ◌∙◌, arith, inl, inr, append_assoc, add-one, drop-cons}
use Rattle.std.specs.Prelude.{None, ◌==◌, slice_get, slice_set}
use Rattle.std.specs.List.{list_any, range_with_len}
use Rattle.std.proofs.lemmas.Bool.{cases_Bool, eqb-false, eqb-true}
use Rattle.std.proofs.lemmas.Grind.{get_or-set_at}
use Rattle.std.proofs.lemmas.List.{drop_all, ext_get_or, get_or-replicate, get_or-set_other, length-replicate, length-set}
use Rattle.std.proofs.lemmas.List.Folds.{list_any-append}
use Rattle.std.proofs.lemmas.List.FromFn.{get_or-map-range_with_len, length-map-range_with_len}
use Rattle.nr_linked.specs.declared.program.tables.ProgramTables.{ProgramTables}
use Rattle.nr_linkrules.specs.Reaches.{reaches_by, row_of, steps_up}
use Rattle.nr_link.specs.Marks.{set_all}
use Rattle.nr_link.proofs.Loops.{append_nil}

-- ---- one list behind the other

pub set_both : (bits : List Bool) (ns ms : List ℕ) → set_all (set_all bits ns) ms ≡ set_all bits (ns ++ ms)
set_both bits [] ms = refl
set_both bits (n ∷ ns) ms = set_both (slice_set bits n true) ns ms

-- the loop, of all of them
one : (i : ℕ) (ns : List ℕ) (d : ℕ) → i < length ns → drop i ns ≡ get_or ns i d ∷ drop (i + 1) ns
one i ns d lt = rw (drop-cons ns i d lt, add-one i) refl

pub sets_on : (i : ℕ) (ns : List ℕ) (bits : List Bool) (total : List Bool) (d : ℕ) → i < length ns → set_all bits (drop i ns) ≡ total
    → set_all (slice_set bits (get_or ns i d) true) (drop (i + 1) ns) ≡ total
sets_on i ns bits total d lt so_far = sym (ap (set_all bits) (one i ns d lt)) ∙ so_far

pub sets_all : (i : ℕ) (ns : List ℕ) (bits total : List Bool) → length ns ≤ i → set_all bits (drop i ns) ≡ total → bits ≡ total
sets_all i ns bits total le so_far = sym (ap (set_all bits) (drop_all i ns le)) ∙ so_far

-- past the end
pub set_none : (bits : List Bool) (n : ℕ) (b : Bool) → slice_get bits n ≡ None → slice_set bits n b ≡ bits
set_none [] n b e = refl
set_none (x ∷ xs) zero b e = absurd cc
set_none (x ∷ xs) (suc n) b e = ap (λ ys. x ∷ ys) (set_none xs n b e)

-- ---- rows

-- of n numbers those that are listed
abbrev listed : List ℕ → ℕ → Bool
listed cs d = list_any (λ s. s == d) cs

abbrev marks : ℕ → List ℕ → List Bool
marks n cs = map (listed cs) (range_with_len 0 n)

marks_length : (n : ℕ) (cs : List ℕ) → length (marks n cs) ≡ n
marks_length n cs = length-map-range_with_len (listed cs) 0 n

mark_at : (n : ℕ) (cs : List ℕ) (k : ℕ) → k < n → get_or (marks n cs) k false ≡ listed cs k
mark_at n cs k lt = get_or-map-range_with_len (listed cs) 0 n k k false lt (omega arith)

pub none_marked : (n : ℕ) → replicate n false ≡ marks n []
none_marked n = ext_get_or false (replicate n false) (marks n []) (length-replicate n false ∙ sym (marks_length n []))
    (λ k lt. let less : k < n = omega (arith, lt, length-replicate n false) in get_or-replicate n k false false less ∙ sym (mark_at n [] k less))

or_false : (b : Bool) → (b || false) ≡ b
or_false true = refl
or_false false = refl

or_true : (b : Bool) → (b || true) ≡ true
or_true true = refl
or_true false = refl

one_more : (cs : List ℕ) (s d : ℕ) → listed (cs ++ s ∷ []) d ≡ (listed cs d || (s == d))
one_more cs s d = list_any-append (λ s. s == d) cs (s ∷ []) ∙ ap (λ b. listed cs d || b) (or_false (s == d))

one_marked : (n s : ℕ) (cs : List ℕ) → slice_set (marks n cs) s true ≡ marks n (cs ++ s ∷ [])
one_marked n s cs = ext_get_or false (slice_set (marks n cs) s true) (marks n (cs ++ s ∷ [])) (set_length ∙ sym (marks_length n (cs ++ s ∷ [])))
    (λ k lt. at_place k (omega (arith, lt, set_length)))
  where
    set_length : length (slice_set (marks n cs) s true) ≡ n
    set_length = length-set (marks n cs) s true ∙ marks_length n cs

    after : (k : ℕ) → k < n → (b : Bool) → (s == k) ≡ b → get_or (marks n (cs ++ s ∷ [])) k false ≡ (listed cs k || b)
    after k lt b e = mark_at n (cs ++ s ∷ []) k lt ∙ one_more cs s k ∙ ap (λ b. listed cs k || b) e

    at_place : (k : ℕ) → k < n → get_or (slice_set (marks n cs) s true) k false ≡ get_or (marks n (cs ++ s ∷ [])) k false
    at_place k lt = elim (cases_Bool (s == k)) [
      | inl e ↦ let same = eqb-true s k e in
          get_or-set_at (marks n cs) s k true false (sym same) (omega (arith, same, lt, marks_length n cs))
          ∙ sym (after k lt true e ∙ or_true (listed cs k))
      | inr ne ↦
          get_or-set_other (marks n cs) s k true false (λ h. eqb-false s k ne (sym h)) ∙ mark_at n cs k lt
          ∙ sym (after k lt false ne ∙ or_false (listed cs k))
    ]

pub all_marked : (n : ℕ) (cs ss : List ℕ) → set_all (marks n cs) ss ≡ marks n (cs ++ ss)
all_marked n cs [] = ap (marks n) (sym (append_nil cs))
all_marked n cs (s ∷ ss) =
    ap (λ bits. set_all bits ss) (one_marked n s cs) ∙ all_marked n (cs ++ s ∷ []) ss
    ∙ ap (marks n) (append_assoc cs (s ∷ []) ss)

-- the row of a class, by what stands directly above it
pub first_marked : (P : ProgramTables) (c : ℕ) (bits : List Bool) → bits ≡ set_all (replicate (length P.classes) false) (c ∷ steps_up P c) → bits ≡ row_of P 0 c
unfolding row_of reaches_by
first_marked P c bits e =
    e ∙ ap (λ bits. set_all bits (c ∷ steps_up P c)) (none_marked (length P.classes)) ∙ all_marked (length P.classes) [] (c ∷ steps_up P c)
