use Rattle.std.proofs.Common.{◌∷◌, [], pos, ap, get_or, sym, ◌∙◌, take, ◌+◌}
use Rattle.nr_model.specs.declared.value.Value.TheVariants.{Int, Long, Null}
use Rattle.nr_model.specs.Steps.{spread}
use Rattle.nr_machine.proofs.Spreads.{one_within, one_placed, two_within, two_placed, spread_one, kept}
use Rattle.nr_machine.proofs.stack.arguments.place_arguments.Goals as goal
use Rattle.nr_machine.proofs.stack.arguments.place_arguments.Goals.{in-Long, in_default}

pub bounds-locals-at : goal.bounds-locals-at
bounds-locals-at c = one_within c.args.args.now c.args.locals.now c.loop-arg.arg-index c.loop-arg.at (Int (pos 0)) c.loop-arg-test.true c.requires c.loop-arg.locals c.loop-arg.invariant.0 c.loop-arg.invariant.1

pub bounds-locals-at-in-Long : goal.bounds-locals-at-in-Long
bounds-locals-at-in-Long c = two_within c.args.args.now c.args.locals.now c.loop-arg.arg-index c.loop-arg.at (Int (pos 0)) c.loop-arg-test.true c.requires c.loop-arg.locals c.loop-arg.invariant.0 c.loop-arg.invariant.1
    (Long c.in-Long.field-0) Null (get_or c.args.args.now c.loop-arg.arg-index (Int (pos 0))) (ap (λ v. spread (v ∷ [])) c.in-Long.is)

pub loop-arg-preserved : goal.loop-arg-preserved
loop-arg-preserved c =
    let i = c.loop-arg.arg-index in
    let args = c.args.args.now in
    let init = c.args.locals.now in
    let v = get_or args i (Int (pos 0)) in
    elim c.match-arg.branch [
      | in-Long w ↦ kept (spread (take (i + 1) args)) init _ _ _ _ w.at-is w.locals-is
          (two_placed args init i c.loop-arg.at (Int (pos 0)) c.loop-arg-test.true c.requires c.loop-arg.locals c.loop-arg.invariant.0 c.loop-arg.invariant.1 v Null
          (ap (λ v. spread (v ∷ [])) w.in-Long.is ∙ ap (λ v. v ∷ Null ∷ []) (sym w.in-Long.is)))
      | in_default w ↦ kept (spread (take (i + 1) args)) init _ _ _ _ w.at-is w.locals-is
          (one_placed args init i c.loop-arg.at (Int (pos 0)) c.loop-arg-test.true c.requires c.loop-arg.locals c.loop-arg.invariant.0 c.loop-arg.invariant.1 v
          (spread_one v w.in_default.not-Long))
    ]
