use Rattle.std.proofs.lemmas.List.{take_all}
use Rattle.nr_prog.specs.BodyText.{EachBody}
use Rattle.std.proofs.Common.{◌≤◌, ◌≡◌, ◌<◌, List, length, get_or, Ok, subst, ap, ◌∙◌, arith}
use Rattle.nr_prog.specs.declared.member.Method.{Method}
use Rattle.nr_prog.specs.declared.parts.ClassParts.{ClassParts}
use Rattle.std.proofs.lemmas.Result.{err_from_is_err_and}
use Rattle.nr_base.specs.Clauses.{Fails}
use Rattle.nr_code.specs.LoadFaults.{is_load_free}
use Rattle.nr_code.specs.Decoding.{bodies_of, body_step}
use Rattle.nr_instrs.proofs.Walks.{goes_on, fails_by}
use Rattle.nr_code.proofs.Sizes.{short_at, formed_at, one_more}
use Rattle.nr_code.proofs.Bodies.{next_body}
use Rattle.nr_code.proofs.load.read_all.Goals as goal

pub body_onto-requires-clause-short : goal.body_onto-requires-clause-short
body_onto-requires-clause-short c = short_at c.args.class.now c.loop-place.place c.method-item.result c.parts.ensures.formed c.parts.ensures.bounds c.requires (subst (λ (z : List Method). c.loop-place.place < length z) (c.as_slice-method-items.ensures ∙ ap (λ (p : ClassParts). p.methods) c.parts.ensures.parts) c.loop-place-test.true) (c.method-item.is ∙ ap (λ (z : List Method). get_or z c.loop-place.place c.method-item.result) (c.as_slice-method-items.ensures ∙ ap (λ (p : ClassParts). p.methods) c.parts.ensures.parts))

pub returns-in_err-body_onto-clause-exact : goal.returns-in_err-body_onto-clause-exact
unfolding bodies_of
returns-in_err-body_onto-clause-exact c =
    let p = err_from_is_err_and c.from_residual.result c.from_residual.ensures.1 in
    rw (p.1, p.2) (fails_by is_load_free (body_step c.args.class.now) c.loop-place.place c.loop-place.bodies c.args.class.now.methods c.method-item.result _ _
    (subst (λ (z : List Method). c.loop-place.place < length z) (c.as_slice-method-items.ensures ∙ ap (λ (p : ClassParts). p.methods) c.parts.ensures.parts) c.loop-place-test.true) (subst (λ z. Fails is_load_free c.in_err-body_onto.field-0.0 (body_step c.args.class.now c.loop-place.bodies z)) (c.method-item.is ∙ ap (λ (z : List Method). get_or z c.loop-place.place c.method-item.result) (c.as_slice-method-items.ensures ∙ ap (λ (p : ClassParts). p.methods) c.parts.ensures.parts)) c.in_err-body_onto.ensures.exact) c.loop-place.invariant.so_far)

pub loop-place-preserved : goal.loop-place-preserved
loop-place-preserved c = record {
  so_far = goes_on (body_step c.args.class.now) c.loop-place.place c.loop-place.bodies c.body_onto.new.bodies c.args.class.now.methods c.method-item.result _
      (subst (λ (z : List Method). c.loop-place.place < length z) (c.as_slice-method-items.ensures ∙ ap (λ (p : ClassParts). p.methods) c.parts.ensures.parts) c.loop-place-test.true) (subst (λ z. body_step c.args.class.now c.loop-place.bodies z ≡ Ok c.body_onto.new.bodies) (c.method-item.is ∙ ap (λ (z : List Method). get_or z c.loop-place.place c.method-item.result) (c.as_slice-method-items.ensures ∙ ap (λ (p : ClassParts). p.methods) c.parts.ensures.parts)) c.in_ok-body_onto.ensures.exact) c.loop-place.invariant.so_far;
  place = omega (arith, one_more c.args.class.now c.loop-place.bodies c.body_onto.new.bodies c.method-item.result c.in_ok-body_onto.ensures.exact, c.loop-place.invariant.place);
  each = next_body c.args.class.now c.loop-place.place c.method-item.result c.loop-place.bodies c.body_onto.new.bodies
      (subst (λ (z : List Method). c.loop-place.place < length z) (c.as_slice-method-items.ensures ∙ ap (λ (p : ClassParts). p.methods) c.parts.ensures.parts) c.loop-place-test.true) (c.method-item.is ∙ ap (λ (z : List Method). get_or z c.loop-place.place c.method-item.result) (c.as_slice-method-items.ensures ∙ ap (λ (p : ClassParts). p.methods) c.parts.ensures.parts))
      c.loop-place.invariant.each c.in_ok-body_onto.ensures.found;
}

pub body_onto-requires-clause-formed : goal.body_onto-requires-clause-formed
body_onto-requires-clause-formed c = formed_at c.args.class.now c.loop-place.place c.method-item.result c.parts.ensures.formed
    (subst (λ (z : List Method). c.loop-place.place < length z) (c.as_slice-method-items.ensures ∙ ap (λ (p : ClassParts). p.methods) c.parts.ensures.parts) c.loop-place-test.true) (c.method-item.is ∙ ap (λ (z : List Method). get_or z c.loop-place.place c.method-item.result) (c.as_slice-method-items.ensures ∙ ap (λ (p : ClassParts). p.methods) c.parts.ensures.parts))

pub returns-clause-found : goal.returns-clause-found
returns-clause-found c = subst (λ ms. EachBody c.args.class.now ms c.loop-place.bodies)
    (take_all c.loop-place.place c.args.class.now.methods (subst (λ (z : List Method). length z ≤ c.loop-place.place) (c.as_slice-method-items.ensures ∙ ap (λ (p : ClassParts). p.methods) c.parts.ensures.parts) c.loop-place-test.false))
    c.loop-place.invariant.each
