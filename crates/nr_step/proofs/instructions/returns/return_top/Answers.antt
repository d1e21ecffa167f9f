use Rattle.std.proofs.Common.{List, refl, sym, subst, ℕ, Option}
use Rattle.std.specs.Prelude.{Some}
use Rattle.nr_model.specs.Rules.{first_letter}
use Rattle.nr_model.specs.Scripts.{Gave, ReturnTop, Runs}
use Rattle.nr_model.specs.Throws.{typed}
use Rattle.nr_model.specs.declared.value.Value.{Value}
use Rattle.nr_step.specs.Instructions.{doing}
use Rattle.nr_step.specs.Windows.{top_first, view, window}
use Rattle.nr_step.proofs.Returning.{gives, on_top, top_is}
use Rattle.nr_step.proofs.instructions.returns.return_top.Goals as goal

pub returns : goal.returns
returns c = λ told P own found h ls.
    let can = c.requires.can in
    let vs : List Value = top_first c.args.stack.now c.args.depth in
    let letter = first_letter c.args.i.now.row.pops in (
      refl,
      on_top vs (λ v us. Runs (typed letter ReturnTop) (view h ls vs) (Gave (Some v)) (view h ls us)) (λ v us. (n : Option ℕ) → Runs (doing P own c.args.i.now found n) (view h ls vs) (Gave (Some v)) (view h ls us))
          (λ v us r n. subst (λ sc. Runs sc (view h ls vs) (Gave (Some v)) (view h ls us)) (sym (top_is P own c.args.i.now found c.args.code c.requires.row c.requires.code n)) r)
          (gives letter can.3 h can.4 ls vs can.5.ending can.5.left (subst (λ sc. Runs sc (window can.3 can.4 c.args.stack.now c.args.depth) can.5.ending can.5.left) (top_is can.0 can.1 c.args.i.now can.2 c.args.code c.requires.row c.requires.code can.5.next) can.5.runs)),
    )
