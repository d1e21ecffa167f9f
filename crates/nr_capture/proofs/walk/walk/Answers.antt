use Rattle.std.proofs.Common.{rules, ◌≡◌, ◌<◌, ◌^◌, true, false, sym, ◌∙◌}
use Rattle.nr_graph.specs.Pictures.{next_in}
use Rattle.nr_graph.specs.Walks.{is_met}
use Rattle.nr_capture.specs.Roots.{root_values}
use Rattle.nr_capture.proofs.Found.{next_inside, pushed_read}
use Rattle.nr_capture.proofs.Stands.{at_end, at_new, at_old, at_refused, refused_by, smaller_new}
use Rattle.nr_capture.proofs.walk.walk.Goals as goal

pub loop-name-preserved-then-is_listed : goal.loop-name-preserved-then-is_listed
loop-name-preserved-then-is_listed c =
    let met : is_met c.loop-name.names c.in-Some.name ≡ true = sym c.is_listed.ensures ∙ c.if-is_listed.true in
    at_old c.args.forms.now c.args.heap.now.objects (root_values c.args.roots.now) c.loop-name.stack.items _ c.in-Some.name c.loop-name.names c.loop-name.invariant c.in-Some.ensures.items met

pub returns-in-Err-clause-refused : goal.returns-in-Err-clause-refused
returns-in-Err-clause-refused c =
    let met : is_met c.loop-name.names c.in-Some.name ≡ false = sym c.is_listed.ensures ∙ c.if-is_listed.false in
    refused_by c.args.forms.now c.args.heap.now.objects (root_values c.args.roots.now) c.in-Some.name c.in-Err.fault c.in-Err.ensures.refused c.in-Err.ensures.err
    (at_refused c.args.forms.now c.args.heap.now.objects (root_values c.args.roots.now) c.loop-name.stack.items _ c.in-Some.name c.loop-name.names c.loop-name.invariant c.in-Some.ensures.items met)

pub loop-name-smaller : goal.loop-name-smaller
loop-name-smaller c =
    let P = c.args.forms.now in
    let h = c.args.heap.now.objects in
    let met : is_met c.loop-name.names c.in-Some.name ≡ false = sym c.is_listed.ensures ∙ c.if-is_listed.false in
    let below : c.in-Some.name < 2 ^ 32 = search rules in
    smaller_new (next_in P h) (2 ^ 32) c.in-Some.name c.loop-name.names c.add.new.self c.loop-name.stack.items _ c.push_names.new.stack.items c.in-Some.ensures.items met below c.in_ok-add.ensures.added
    (pushed_read P h c.in-Some.name c.in_ok-values.values.items c.as_slice.result.now _ c.push_names.new.stack.items c.in_ok-values.ensures c.as_slice.ensures.value c.in_ok-push_names.ensures)

pub loop-name-preserved : goal.loop-name-preserved
loop-name-preserved c =
    let P = c.args.forms.now in
    let h = c.args.heap.now.objects in
    let met : is_met c.loop-name.names c.in-Some.name ≡ false = sym c.is_listed.ensures ∙ c.if-is_listed.false in
    at_new P h (root_values c.args.roots.now) c.loop-name.stack.items _ c.push_names.new.stack.items c.in-Some.name c.loop-name.names c.add.new.self c.loop-name.invariant c.in-Some.ensures.items met
    c.in-Ok.ensures.ok c.in_ok-add.ensures.added (next_inside P h c.in-Some.name c.requires.typed)
    (pushed_read P h c.in-Some.name c.in_ok-values.values.items c.as_slice.result.now _ c.push_names.new.stack.items c.in_ok-values.ensures c.as_slice.ensures.value c.in_ok-push_names.ensures)

pub returns-clause-walked : goal.returns-clause-walked
returns-clause-walked c = at_end c.args.forms.now c.args.heap.now.objects (root_values c.args.roots.now) c.loop-name.stack.items c.loop-name.names c.loop-name.invariant (search rules)
