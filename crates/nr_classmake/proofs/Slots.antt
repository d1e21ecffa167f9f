-- The first slot of an entry.
use Rattle.std.proofs.Common.{◌≡◌, ℕ, ◌<◌, Bool, true, false, cond, List, [], ◌∷◌, ◌++◌, length, take, Option, Some, None, ◌⊎◌, inl, inr, refl, sym, ap, subst, ◌∙◌, arith}
use Rattle.std.specs.Prelude.{suc, zero}
use Rattle.std.specs.Option.{option_map}
use Rattle.nr_prog.specs.declared.pool.PoolEntry.{PoolEntry}
use Rattle.nr_classmake.specs.Places.{is_same, is_at, slot_of}

there_step : (e x : PoolEntry) (pool : List PoolEntry) (i : ℕ) (b : Bool) → is_same e x ≡ b → (o : Option ℕ)
    → ((j : ℕ) → o ≡ Some j → is_at e pool j ≡ true) → cond b (Some zero) (option_map suc o) ≡ Some i → is_at e (x ∷ pool) i ≡ true
there_step e x pool i true same o below h = let z : zero ≡ i = cc in subst (λ j. is_at e (x ∷ pool) j ≡ true) z same
there_step e x pool i false same None below h = absurd cc
there_step e x pool i false same (Some j) below h = let z : suc j ≡ i = cc in subst (λ j. is_at e (x ∷ pool) j ≡ true) z (below j refl)

-- an equal entry stands there
pub there : (e : PoolEntry) (pool : List PoolEntry) (i : ℕ) → slot_of e pool ≡ Some i → is_at e pool i ≡ true
unfolding slot_of
there e [] i h = absurd cc
there e (x ∷ pool) i h = there_step e x pool i (is_same e x) refl (slot_of e pool) (there e pool) h

none_below : (b : Bool) (o : Option ℕ) → cond b (Some zero) (option_map suc o) ≡ None → o ≡ None
none_below true o h = absurd cc
none_below false None h = refl
none_below false (Some j) h = absurd cc

not_here : (b : Bool) (o : Option ℕ) → b ≡ true → cond b (Some zero) (option_map suc o) ≡ None → ⊥
not_here true o e h = cc
not_here false o e h = cc

pub nowhere : (e : PoolEntry) (pool : List PoolEntry) (i : ℕ) → is_at e pool i ≡ true → slot_of e pool ≡ None → ⊥
unfolding slot_of
nowhere e [] i h n = cc
nowhere e (x ∷ pool) zero h n = not_here (is_same e x) (slot_of e pool) h n
nowhere e (x ∷ pool) (suc i) h n = nowhere e pool i h (none_below (is_same e x) (slot_of e pool) n)

below_step : (n i : ℕ) (b : Bool) (o : Option ℕ) → ((j : ℕ) → o ≡ Some j → j < n) → cond b (Some zero) (option_map suc o) ≡ Some i → i < suc n
below_step n i true o below h = let z : zero ≡ i = cc in omega arith
below_step n i false None below h = absurd cc
below_step n i false (Some j) below h = let z : suc j ≡ i = cc in let l : j < n = below j refl in omega arith

pub below : (e : PoolEntry) (pool : List PoolEntry) (i : ℕ) → slot_of e pool ≡ Some i → i < length pool
unfolding slot_of
below e [] i h = absurd cc
below e (x ∷ pool) i h = below_step (length pool) i (is_same e x) (slot_of e pool) (below e pool) h

end_step : (i n : ℕ) (b same : Bool) (p o : Option ℕ) → ((j : ℕ) → p ≡ Some j → (o ≡ Some j) ⊎ ((same ≡ true) × (j ≡ n)))
    → cond b (Some zero) (option_map suc p) ≡ Some i → (cond b (Some zero) (option_map suc o) ≡ Some i) ⊎ ((same ≡ true) × (i ≡ suc n))
end_step i n true same p o below h = inl h
end_step i n false same None o below h = absurd cc
end_step i n false same (Some j) o below h =
    elim (below j refl) [ inl l ↦ inl (ap (option_map suc) l ∙ h) | inr r ↦ let z : suc j ≡ i = cc in inr (r.0, sym z ∙ ap suc r.1) ]

end_only : (b : Bool) (i : ℕ) → cond b (Some zero) (option_map suc None) ≡ Some i → (b ≡ true) × (i ≡ zero)
end_only true i h = (refl, cc)
end_only false i h = absurd cc

-- with an entry at the end, the slot is what it was, or the last one
pub at_end : (e y : PoolEntry) (pool : List PoolEntry) (i : ℕ) → slot_of e (pool ++ y ∷ []) ≡ Some i → (slot_of e pool ≡ Some i) ⊎ ((is_same e y ≡ true) × (i ≡ length pool))
unfolding slot_of
at_end e y [] i h = inr (end_only (is_same e y) i h)
at_end e y (x ∷ pool) i h = end_step i (length pool) (is_same e x) (is_same e y) (slot_of e (pool ++ y ∷ [])) (slot_of e pool) (at_end e y pool) h

taken_step : (i : ℕ) (b : Bool) (p o : Option ℕ) → ((j : ℕ) → p ≡ Some j → o ≡ Some j) → cond b (Some zero) (option_map suc p) ≡ Some i → cond b (Some zero) (option_map suc o) ≡ Some i
taken_step i true p o below h = h
taken_step i false None o below h = absurd cc
taken_step i false (Some j) o below h = ap (option_map suc) (below j refl) ∙ h

-- what stands among the first entries
pub among_first : (e : PoolEntry) (n : ℕ) (pool : List PoolEntry) (i : ℕ) → slot_of e (take n pool) ≡ Some i → slot_of e pool ≡ Some i
unfolding slot_of
among_first e zero [] i h = absurd cc
among_first e (suc n) [] i h = absurd cc
among_first e zero (x ∷ pool) i h = absurd cc
among_first e (suc n) (x ∷ pool) i h = taken_step i (is_same e x) (slot_of e (take n pool)) (slot_of e pool) (among_first e n pool) h
