use Rattle.std.proofs.Common.{◌≡◌, ◌+◌, ◌-◌, ◌++◌, ◌∙◌, ap, arith, length, List, replicate, subst, take, drop}
use Rattle.std.specs.Prelude.{IsOk}
use Rattle.nr_model.specs.declared.value.Value.{Value}
use Rattle.nr_model.specs.declared.value.Value.TheVariants.{Null}
use Rattle.nr_model.specs.Steps.{spread}
use Rattle.nr_machine.specs.CallStacks.{filled}
use Rattle.nr_machine.proofs.Pushes.{resized, passed_is, whole}
use Rattle.nr_machine.proofs.stack.arguments.push_window.Goals as goal

pub returns-clause-items : goal.returns-clause-items
returns-clause-items c =
    let vs = c.args.values.now.items in
    let slots = c.args.slots in
    let passed = c.pass_arguments.new.values in
    let r = c.resize.new.self.items in
    let n : c.len-end.result ≡ length vs = omega (arith, c.len-end.ensures, c.args.values.now.ok.0) in
    let more : c.len-end.result + slots - c.args.values.now.len ≡ slots = omega (arith, n, c.args.values.now.ok.0) in
    let ok : IsOk c.resize.result = c.resize.ensures.succeeds (omega (arith, n, c.requires.room)) in
    let grown : r ≡ vs ++ replicate slots Null
    = resized c.resize.result vs r (c.len-end.result + slots) c.args.values.now.len Null ok c.resize.ensures.items (omega (arith, c.args.values.now.ok.0)) (omega (arith, n, c.args.values.now.ok.0))
    ∙ ap (λ k. vs ++ replicate k Null) more in
    let seen : c.deref_mut.result.now ≡ vs ++ replicate slots Null = c.deref_mut.ensures.value ∙ grown in
    let is : passed ≡ vs ++ filled slots (spread (take c.args.count (drop c.args.first vs)))
    = passed_is vs slots c.args.first c.args.count c.requires.arguments c.requires.fits passed
    (subst (λ (xs : List Value). passed ≡ take (length vs) xs ++ (spread (take c.args.count (drop c.args.first xs)) ++ drop (length vs + length (spread (take c.args.count (drop c.args.first xs)))) xs)) seen
    (subst (λ m. passed ≡ take m c.deref_mut.result.now ++ (spread (take c.args.count (drop c.args.first c.deref_mut.result.now)) ++ drop (m + length (spread (take c.args.count (drop c.args.first c.deref_mut.result.now)))) c.deref_mut.result.now)) n c.pass_arguments.ensures)) in
    ap (λ xs. take c.resize.new.self.len (passed ++ drop (length passed) xs)) grown
    ∙ whole vs slots c.args.first c.args.count c.requires.arguments c.requires.fits c.resize.new.self.len passed
    (omega (arith, c.resize.new.self.ok.0, ap length grown)) is
