-- Frames, results and lists of values that agree: under a wider relation, and taken apart and put together.
use Rattle.std.proofs.Common.{ℕ, zero, suc, ◌-◌, List, [], ◌++◌, length, subst}
use Rattle.std.specs.Prelude.{Option, take, drop, reverse, replicate}
use Rattle.nr_model.specs.declared.value.Value.{Value}
use Rattle.nr_model.specs.declared.value.Value.TheVariants.{Null}
use Rattle.nr_model.specs.States.{Frame, Control}
use Rattle.nr_model.specs.Alike.{like_int, like_long, like_null, like_ref, AllLike, no_more, one_more, AlikeFrame, AlikeFrames, no_frame, one_frame, AlikeResult, no_result, one_result, AlikeControl, both_run, both_return, both_throw}
use Rattle.nr_linked.specs.declared.program.tables.MethodInfo.{MethodInfo}
use Rattle.nr_model.specs.Steps.{with_result, spread, first_locals}
use mathlib.Core.List.{reverse_aux}
use Rattle.nr_model.proofs.Heaps.{all_more, like_more}
use Rattle.nr_model.proofs.Pairing.{lengths}

module _ (R S : ℕ → ℕ → Type 0) (more : (x y : ℕ) → R x y → S x y) where
  pub result_more : (u v : Option Value) → AlikeResult R u v → AlikeResult S u v
  result_more u v no_result = no_result
  result_more u v (one_result l) = one_result (like_more R S more _ _ l)

  pub frame_more : (f g : Frame) → AlikeFrame R f g → AlikeFrame S f g
  frame_more f g a = record { method = a.method; offset = a.offset; locals = all_more R S more _ _ a.locals; operands = all_more R S more _ _ a.operands }

  pub frames_more : (fs gs : List Frame) → AlikeFrames R fs gs → AlikeFrames S fs gs
  frames_more fs gs no_frame = no_frame
  frames_more fs gs (one_frame a bs) = one_frame (frame_more _ _ a) (frames_more _ _ bs)

  pub control_more : (c d : Control) → AlikeControl R c d → AlikeControl S c d
  control_more c d (both_run bs) = both_run (frames_more _ _ bs)
  control_more c d (both_return l) = both_return (result_more _ _ l)
  control_more c d (both_throw l) = both_throw (like_more R S more _ _ l)

module _ (R : ℕ → ℕ → Type 0) where
  all_append : (us vs xs ys : List Value) → AllLike R us vs → AllLike R xs ys → AllLike R (us ++ xs) (vs ++ ys)
  all_append us vs xs ys no_more b = b
  all_append us vs xs ys (one_more l ls) b = one_more l (all_append _ _ _ _ ls b)

  all_onto : (us vs xs ys : List Value) → AllLike R us vs → AllLike R xs ys → AllLike R (reverse_aux us xs) (reverse_aux vs ys)
  all_onto us vs xs ys no_more b = b
  all_onto us vs xs ys (one_more l ls) b = all_onto _ _ _ _ ls (one_more l b)

  all_reverse : (us vs : List Value) → AllLike R us vs → AllLike R (reverse us) (reverse vs)
  all_reverse us vs a = all_onto us vs [] [] a no_more

  pub all_take : (n : ℕ) (us vs : List Value) → AllLike R us vs → AllLike R (take n us) (take n vs)
  all_take zero us vs no_more = no_more
  all_take (suc n) us vs no_more = no_more
  all_take zero us vs (one_more l ls) = no_more
  all_take (suc n) us vs (one_more l ls) = one_more l (all_take n _ _ ls)

  pub all_drop : (n : ℕ) (us vs : List Value) → AllLike R us vs → AllLike R (drop n us) (drop n vs)
  all_drop zero us vs no_more = no_more
  all_drop (suc n) us vs no_more = no_more
  all_drop zero us vs (one_more l ls) = one_more l ls
  all_drop (suc n) us vs (one_more l ls) = all_drop n _ _ ls

  all_nulls : (n : ℕ) → AllLike R (replicate n Null) (replicate n Null)
  all_nulls zero = no_more
  all_nulls (suc n) = one_more like_null (all_nulls n)

  all_spread : (us vs : List Value) → AllLike R us vs → AllLike R (spread us) (spread vs)
  all_spread us vs no_more = no_more
  all_spread us vs (one_more like_int ls) = one_more like_int (all_spread _ _ ls)
  all_spread us vs (one_more like_long ls) = one_more like_long (one_more like_null (all_spread _ _ ls))
  all_spread us vs (one_more like_null ls) = one_more like_null (all_spread _ _ ls)
  all_spread us vs (one_more (like_ref r) ls) = one_more (like_ref r) (all_spread _ _ ls)

  pub locals_like : (i : MethodInfo) (us vs : List Value) → AllLike R us vs → AllLike R (first_locals i us) (first_locals i vs)
  locals_like i us vs a =
      let s : AllLike R (spread (reverse us)) (spread (reverse vs)) = all_spread _ _ (all_reverse _ _ a) in
      all_append _ _ _ _ s (subst (λ n. AllLike R (replicate (i.max_locals - length (spread (reverse us))) Null) (replicate (i.max_locals - n) Null)) (lengths R _ _ s) (all_nulls _))

  pub result_on : (u v : Option Value) (us vs : List Value) → AlikeResult R u v → AllLike R us vs → AllLike R (with_result u us) (with_result v vs)
  result_on u v us vs no_result a = a
  result_on u v us vs (one_result l) a = one_more l a
