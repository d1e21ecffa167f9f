-- A search among instructions at rising offsets finds what looking at each would find.
use Rattle.std.proofs.Common.{◌≡◌, ℕ, zero, suc, ◌<◌, ◌≤◌, Bool, true, false, eqb, List, [], ◌∷◌, length, get_or, eq-eqb, Err, refl, sym, ap, ◌∙◌, inl, inr, arith}
use Rattle.std.specs.Prelude.{Option, Some, None, slice_get, if◌then◌else◌}
use Rattle.std.specs.List.Sorted.{IsBinarySearchResult, IsNonDecreasingBy}
use Rattle.std.specs.Option.{option_map}
use Rattle.std.specs.Ordering.{nat_cmp, ordering_index}
use Rattle.std.proofs.lemmas.Cmp.{ranked}
use Rattle.std.proofs.lemmas.Bool.{cases_lt}
use Rattle.std.proofs.lemmas.Bool.Decides.{nat_tests}
use Rattle.nr_optable.specs.declared.table.Family.{Family}
use Rattle.nr_prog.specs.declared.body.instruction.Instr.{Instr}
use Rattle.nr_prog.specs.Offsets.{IsInOrder}
use Rattle.nr_linked.specs.declared.program.tables.Resolved.{Resolved}
use Rattle.nr_linked.specs.Sites.{Site, first_offset, site_among}
use Rattle.nr_verify_ops.specs.Sites.{family_and_found}

-- what stands beside the instruction at a place
abbrev pub beside : Instr → Resolved → Family × Resolved
beside i r = (i.row.family, r)

this_one : (z : Bool) (s : Site) (o : Option Site) → z ≡ true → option_map family_and_found (if z then Some s else o) ≡ Some (family_and_found s)
this_one true s o e = refl
this_one false s o e = absurd cc

other_one : (z : Bool) (s : Site) (o : Option Site) → z ≡ false → (if z then Some s else o) ≡ o
other_one true s o e = absurd cc
other_one false s o e = refl

in_order_behind : (x : Instr) (is : List Instr) → IsInOrder (x ∷ is) → IsInOrder is
in_order_behind x is up i j d l m = up (suc i) (suc j) d (omega arith) (omega arith)

-- where an instruction stands at the offset, what stands beside it is found
pub site_found : (t : ℕ) (is : List Instr) (rs : List Resolved) (k : ℕ) (d : Instr) → IsInOrder is → k < length is → (get_or is k d).at ≡ t
    → option_map (λ r. beside (get_or is k d) r) (slice_get rs k) ≡ option_map family_and_found (site_among is rs t)
site_found t [] rs k d up l e = absurd (omega arith)
site_found t (x ∷ is) [] zero d up l e = refl
site_found t (x ∷ is) [] (suc k) d up l e = refl
site_found t (x ∷ is) (r ∷ rs) zero d up l e = sym (this_one (eqb x.at t) _ (site_among is rs t) (eq-eqb x.at t e))
site_found t (x ∷ is) (r ∷ rs) (suc k) d up l e =
    let below : x.at < (get_or is k d).at = up 0 (suc k) d (omega arith) l in
    site_found t is rs k d (in_order_behind x is up) (omega arith) e
    ∙ ap (λ o. option_map family_and_found o) (sym (other_one (eqb x.at t) (record { instr = x; resolved = r; next = first_offset is }) (site_among is rs t) (grind (arith, nat_tests))))

-- where none stands there, none is found
none_found : (t : ℕ) (is : List Instr) (rs : List Resolved) → ((k : ℕ) (d : Instr) → k < length is → eqb (get_or is k d).at t ≡ false) → site_among is rs t ≡ None
none_found t [] rs h = refl
none_found t (x ∷ is) [] h = refl
none_found t (x ∷ is) (r ∷ rs) h =
    other_one (eqb x.at t) (record { instr = x; resolved = r; next = first_offset is }) (site_among is rs t) (h 0 x (omega arith)) ∙ none_found t is rs (λ k d l. h (suc k) d (omega arith))

module _ (is : List Instr) (up : IsInOrder is) (t : ℕ) where
  rises : IsNonDecreasingBy (λ (i : Instr). ordering_index (nat_cmp i.at t)) is
  rises i j d le within =
      let keys : (get_or is i d).at ≤ (get_or is j d).at = grind (arith, up i j d, λ (same : i ≡ j). ap (λ k. (get_or is k d).at) same) in
      grind (arith, nat_tests)

  absent : (i : ℕ) → IsBinarySearchResult (λ (i : Instr). nat_cmp i.at t) is (Err i) → (k : ℕ) (d : Instr) → k < length is → eqb (get_or is k d).at t ≡ false
  absent i parted k d within =
      elim (cases_lt k i) [
        | inl below ↦ let h = ranked (get_or is k d).at t _ (sym ((parted rises).0 k d (omega arith) below)) in grind (arith, nat_tests, h)
        | inr up ↦ let h = ranked (get_or is k d).at t _ (sym ((parted rises).1 k d up within)) in grind (arith, nat_tests, h)
      ]

  -- where the search finds none, there is none
  pub site_missed : (rs : List Resolved) (i : ℕ) → IsBinarySearchResult (λ (i : Instr). nat_cmp i.at t) is (Err i) → None ≡ option_map family_and_found (site_among is rs t)
  site_missed rs i parted = ap (λ o. option_map family_and_found o) (sym (none_found t is rs (λ k d l. absent i parted k d l)))
