use Rattle.std.proofs.Common.{◌≡◌, ◌-◌, ◌++◌, ◌∙◌, ap, arith, length, replicate, take, drop}
use Rattle.std.proofs.lemmas.List.{length-replicate}
use Rattle.nr_model.specs.declared.value.Value.TheVariants.{Null}
use Rattle.nr_model.specs.Steps.{spread}
use Rattle.nr_machine.proofs.Pushes.{resized, first_window}
use Rattle.nr_machine.proofs.stack.arguments.push_first_window.Goals as goal

pub place_arguments-requires : goal.place_arguments-requires
place_arguments-requires c =
    let slots = c.args.slots in
    let none : c.args.values.now.len ≡ 0 = omega (arith, c.args.values.now.ok.0, ap length c.requires.empty) in
    let more : slots - c.args.values.now.len ≡ slots = omega (arith, none) in
    let grown : c.resize.new.self.items ≡ replicate slots Null
    = resized c.resize.result c.args.values.now.items c.resize.new.self.items slots c.args.values.now.len Null (c.resize.ensures.succeeds c.requires.room) c.resize.ensures.items (omega (arith, c.args.values.now.ok.0)) (omega (arith, none))
    ∙ ap (λ xs. xs ++ replicate (slots - c.args.values.now.len) Null) c.requires.empty ∙ ap (λ k. replicate k Null) more in
    let seen : c.deref_mut.result.now ≡ replicate slots Null = c.deref_mut.ensures.value ∙ grown in
    omega (arith, ap length seen, length-replicate slots Null, c.requires.fits)

pub returns-clause-items : goal.returns-clause-items
returns-clause-items c =
    let slots = c.args.slots in
    let none : c.args.values.now.len ≡ 0 = omega (arith, c.args.values.now.ok.0, ap length c.requires.empty) in
    let more : slots - c.args.values.now.len ≡ slots = omega (arith, none) in
    let grown : c.resize.new.self.items ≡ replicate slots Null
    = resized c.resize.result c.args.values.now.items c.resize.new.self.items slots c.args.values.now.len Null (c.resize.ensures.succeeds c.requires.room) c.resize.ensures.items (omega (arith, c.args.values.now.ok.0)) (omega (arith, none))
    ∙ ap (λ xs. xs ++ replicate (slots - c.args.values.now.len) Null) c.requires.empty ∙ ap (λ k. replicate k Null) more in
    let seen : c.deref_mut.result.now ≡ replicate slots Null = c.deref_mut.ensures.value ∙ grown in
    let placed = spread c.args.args.now in
    let n : c.resize.new.self.len ≡ slots = omega (arith, c.resize.new.self.ok.0, ap length grown, length-replicate slots Null) in
    ap (λ xs. take c.resize.new.self.len (c.place_arguments.new.locals ++ drop (length c.place_arguments.new.locals) xs)) grown
    ∙ first_window slots placed c.requires.fits c.resize.new.self.len c.place_arguments.new.locals n
    (c.place_arguments.ensures ∙ ap (λ xs. placed ++ drop (length placed) xs) seen)
