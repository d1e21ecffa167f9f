-- The run of the method of the worked call, whatever the names of its arguments.
use Rattle.std.proofs.Common.{◌≡◌, ℕ, List, [], ◌∷◌, refl, ◌∙◌, arith}
use Rattle.std.specs.Prelude.{pos, Some, None, IsSomeAnd}
use Rattle.std.specs.Int.{int_wrap}
use Rattle.std.specs.Ordering.{nat_cmp}
use Rattle.std.specs.FinMap.{get, find}
use Rattle.nr_optable.specs.Rows.{all_rows}
use Rattle.nr_linked.specs.BuiltIns.{built_in_class}
use Rattle.nr_linked.specs.BuiltInTables.{built_in_infos, built_in_info}
use Rattle.nr_model.specs.declared.value.Value.{Value}
use Rattle.nr_model.specs.declared.value.Value.TheVariants.{Int, Ref}
use Rattle.nr_model.specs.Heaps.{Obj}
use Rattle.nr_model.specs.Scripts.{GoesTo, Gave, Runs}
use Rattle.nr_model.specs.States.{State}
use Rattle.nr_model.specs.Steps.{script_at, Step, Run}
use Rattle.nr_model.specs.Example.{example, rows, row, box, heap, start, end_with}
use Rattle.nr_model.proofs.ListedHeaps.{at as found}
use Rattle.nr_model.proofs.Examples.Machine.{frame_at, running, left_in, some_map, held}

abbrev int : ℕ → Value
int n = Int (pos n)

-- from a heap that has the array under a, with the rows d and e, and the box under c; the new row has the name x
module _ (es : List (ℕ × Obj)) (a d e c x : ℕ) where
  -- the heap after each write
  abbrev pub row_written : List (ℕ × Obj)
  row_written = (d, row 5) ∷ es

  abbrev pub row_made : List (ℕ × Obj)
  row_made = (x, row 0) ∷ row_written

  abbrev pub row_placed : List (ℕ × Obj)
  row_placed = (a, rows (x ∷ e ∷ [])) ∷ row_made

  abbrev pub box_written : List (ℕ × Obj)
  box_written = (c, box e 3) ∷ row_placed

  abbrev locals : List Value
  locals = Ref a ∷ Ref a ∷ Ref c ∷ []

  abbrev at : List (ℕ × Obj) → ℕ → List Value → State
  at es offset operands = running (heap es) (frame_at offset locals operands ∷ [])

  -- the instruction at an offset leads from heap and operands on to an offset, a heap and operands
  abbrev Goes : ℕ → List (ℕ × Obj) → List Value → ℕ → List (ℕ × Obj) → List Value → Type 0
  Goes o es us p fs vs = IsSomeAnd (script_at example 0 o) (λ sc. Runs sc (left_in (heap es) locals us []) (GoesTo p) (left_in (heap fs) locals vs []))

  goes : (o : ℕ) (es : List (ℕ × Obj)) (us : List Value) (p : ℕ) (fs : List (ℕ × Obj)) (vs : List Value) → Goes o es us p fs vs → Step example (at es o us) (at fs p vs)
  goes o es us p fs vs r = some_map (script_at example 0 o) _ _ (λ sc r. record { ending = GoesTo p; left = left_in (heap fs) locals vs []; runs = r; control = refl; heap = refl; printed = refl }) r

  module _ (array : find nat_cmp a es ≡ Some (rows (d ∷ e ∷ []))) (old_row : find nat_cmp d es ≡ Some (row 7)) (no_row : find nat_cmp x row_written ≡ None)
      (array_still : find nat_cmp a row_made ≡ Some (rows (d ∷ e ∷ []))) (new_row : find nat_cmp x row_made ≡ Some (row 0)) (old_box : find nat_cmp c row_placed ≡ Some (box e 1)) where
    array_at_first : get (heap es) a ≡ Some (rows (d ∷ e ∷ []))
    array_at_first = found es a ∙ array

    row_at_first : get (heap es) d ≡ Some (row 7)
    row_at_first = found es d ∙ old_row

    array_later : get (heap row_made) a ≡ Some (rows (d ∷ e ∷ []))
    array_later = found row_made a ∙ array_still

    box_at_first : get (heap row_placed) c ≡ Some (box e 1)
    box_at_first = found row_placed c ∙ old_box

    aload_0_at_0 : Step example (at es 0 []) (at es 1 (Ref a ∷ []))
    unfolding all_rows
    aload_0_at_0 = goes 0 es [] 1 es (Ref a ∷ []) (refl, refl)

    iconst_0_at_1 : Step example (at es 1 (Ref a ∷ [])) (at es 2 (int 0 ∷ Ref a ∷ []))
    unfolding all_rows
    iconst_0_at_1 = goes 1 es (Ref a ∷ []) 2 es (int 0 ∷ Ref a ∷ []) (refl, refl)

    aaload_at_2 : Step example (at es 2 (int 0 ∷ Ref a ∷ [])) (at es 3 (Ref d ∷ []))
    unfolding all_rows built_in_infos built_in_info built_in_class int_wrap
    aaload_at_2 = goes 2 es (int 0 ∷ Ref a ∷ []) 3 es (Ref d ∷ []) (held _ _ _ _ array_at_first (held _ _ _ _ array_at_first (refl, refl)))

    iconst_0_at_3 : Step example (at es 3 (Ref d ∷ [])) (at es 4 (int 0 ∷ Ref d ∷ []))
    unfolding all_rows
    iconst_0_at_3 = goes 3 es (Ref d ∷ []) 4 es (int 0 ∷ Ref d ∷ []) (refl, refl)

    iconst_5_at_4 : Step example (at es 4 (int 0 ∷ Ref d ∷ [])) (at es 5 (int 5 ∷ int 0 ∷ Ref d ∷ []))
    unfolding all_rows
    iconst_5_at_4 = goes 4 es (int 0 ∷ Ref d ∷ []) 5 es (int 5 ∷ int 0 ∷ Ref d ∷ []) (refl, refl)

    iastore_at_5 : Step example (at es 5 (int 5 ∷ int 0 ∷ Ref d ∷ [])) (at row_written 6 [])
    unfolding all_rows built_in_infos built_in_info built_in_class int_wrap
    iastore_at_5 = goes 5 es (int 5 ∷ int 0 ∷ Ref d ∷ []) 6 row_written [] (held _ _ _ _ row_at_first (held _ _ _ _ row_at_first (omega arith, (refl, refl))))

    aload_1_at_6 : Step example (at row_written 6 []) (at row_written 7 (Ref a ∷ []))
    unfolding all_rows
    aload_1_at_6 = goes 6 row_written [] 7 row_written (Ref a ∷ []) (refl, refl)

    iconst_0_at_7 : Step example (at row_written 7 (Ref a ∷ [])) (at row_written 8 (int 0 ∷ Ref a ∷ []))
    unfolding all_rows
    iconst_0_at_7 = goes 7 row_written (Ref a ∷ []) 8 row_written (int 0 ∷ Ref a ∷ []) (refl, refl)

    iconst_1_at_8 : Step example (at row_written 8 (int 0 ∷ Ref a ∷ [])) (at row_written 9 (int 1 ∷ int 0 ∷ Ref a ∷ []))
    unfolding all_rows
    iconst_1_at_8 = goes 8 row_written (int 0 ∷ Ref a ∷ []) 9 row_written (int 1 ∷ int 0 ∷ Ref a ∷ []) (refl, refl)

    newarray_at_9 : Step example (at row_written 9 (int 1 ∷ int 0 ∷ Ref a ∷ [])) (at row_made 11 (Ref x ∷ int 0 ∷ Ref a ∷ []))
    unfolding all_rows built_in_infos built_in_info built_in_class int_wrap
    newarray_at_9 = goes 9 row_written (int 1 ∷ int 0 ∷ Ref a ∷ []) 11 row_made (Ref x ∷ int 0 ∷ Ref a ∷ []) (x, found row_written x ∙ no_row, (refl, refl))

    aastore_at_11 : Step example (at row_made 11 (Ref x ∷ int 0 ∷ Ref a ∷ [])) (at row_placed 12 [])
    unfolding all_rows built_in_infos built_in_info built_in_class int_wrap
    aastore_at_11 = goes 11 row_made (Ref x ∷ int 0 ∷ Ref a ∷ []) 12 row_placed [] (held _ _ _ _ array_later (held _ _ _ _ (found row_made x ∙ new_row) (omega arith, held _ _ _ _ array_later (omega arith, (refl, refl)))))

    aload_2_at_12 : Step example (at row_placed 12 []) (at row_placed 13 (Ref c ∷ []))
    unfolding all_rows
    aload_2_at_12 = goes 12 row_placed [] 13 row_placed (Ref c ∷ []) (refl, refl)

    iconst_3_at_13 : Step example (at row_placed 13 (Ref c ∷ [])) (at row_placed 14 (int 3 ∷ Ref c ∷ []))
    unfolding all_rows
    iconst_3_at_13 = goes 13 row_placed (Ref c ∷ []) 14 row_placed (int 3 ∷ Ref c ∷ []) (refl, refl)

    putfield_at_14 : Step example (at row_placed 14 (int 3 ∷ Ref c ∷ [])) (at box_written 17 [])
    unfolding all_rows built_in_infos built_in_info built_in_class int_wrap
    putfield_at_14 = goes 14 row_placed (int 3 ∷ Ref c ∷ []) 17 box_written [] (held _ _ _ _ box_at_first (held _ _ _ _ box_at_first (omega arith, (refl, refl))))

    aload_2_at_17 : Step example (at box_written 17 []) (at box_written 18 (Ref c ∷ []))
    unfolding all_rows
    aload_2_at_17 = goes 17 box_written [] 18 box_written (Ref c ∷ []) (refl, refl)

    returns : Step example (at box_written 18 (Ref c ∷ [])) (end_with box_written c)
    unfolding all_rows
    returns = record { ending = Gave (Some (Ref c)); left = left_in (heap box_written) locals [] []; runs = (refl, refl); control = refl; heap = refl; printed = refl }

    pub whole : Run example (start es (Ref c ∷ Ref a ∷ Ref a ∷ [])) 16 (end_with box_written c)
    whole = (
      _,
      aload_0_at_0,
      (
        _,
        iconst_0_at_1,
        (
          _,
          aaload_at_2,
          (
            _,
            iconst_0_at_3,
            (
              _,
              iconst_5_at_4,
              (
                _,
                iastore_at_5,
                (
                  _,
                  aload_1_at_6,
                  (
                    _,
                    iconst_0_at_7,
                    (
                      _,
                      iconst_1_at_8,
                      (
                        _,
                        newarray_at_9,
                        (
                          _,
                          aastore_at_11,
                          (
                            _,
                            aload_2_at_12,
                            (
                              _,
                              iconst_3_at_13,
                              (
                                _,
                                putfield_at_14,
                                (
                                  _,
                                  aload_2_at_17,
                                  (_, returns, refl),
                                ),
                              ),
                            ),
                          ),
                        ),
                      ),
                    ),
                  ),
                ),
              ),
            ),
          ),
        ),
      ),
    )
