use Rattle.std.proofs.Common.{ap, ◌∙◌}
use Rattle.nr_base.specs.Clauses.{GivesWhole}
use Rattle.nr_prog.specs.declared.parts.ClassParts.{ClassParts}
use Rattle.nr_instrs.specs.Faults.{is_free}
use Rattle.nr_code.specs.Decoding.{body_of}
use Rattle.nr_code.proofs.Sizes.{is_at, sized_at, told}
use Rattle.nr_code.proofs.Bodies.{code_as, body_at}
use Rattle.nr_code.proofs.whole.decode.Goals as goal

pub decode_code-requires-clause-sized : goal.decode_code-requires-clause-sized
decode_code-requires-clause-sized c = sized_at c.args.class.now c.args.method c.in-Some.method.now c.in-Some-code.code c.parts.ensures.formed c.parts.ensures.bounds c.requires.maps
    (is_at c.args.class.now c.as_slice.result.now c.args.method c.from.result c.in-Some.method.now
    (c.as_slice.ensures ∙ ap (λ (p : ClassParts). p.methods) c.parts.ensures.parts) c.from.ensures c.in-Some.ensures.lookup.3.0 c.in-Some.ensures.lookup.1) c.in-Some-code.is

pub returns-clause-found : goal.returns-clause-found
returns-clause-found c = code_as c.args.class.now c.args.method c.in-Some.method.now c.in-Some-code.code c.decode_code.result
    (is_at c.args.class.now c.as_slice.result.now c.args.method c.from.result c.in-Some.method.now
    (c.as_slice.ensures ∙ ap (λ (p : ClassParts). p.methods) c.parts.ensures.parts) c.from.ensures c.in-Some.ensures.lookup.3.0 c.in-Some.ensures.lookup.1) c.in-Some-code.is c.decode_code.ensures.found

pub returns-clause-only : goal.returns-clause-only
returns-clause-only c = λ b is. c.decode_code.ensures.only b (body_at c.args.class.now c.args.method c.in-Some.method.now c.in-Some-code.code b
    (is_at c.args.class.now c.as_slice.result.now c.args.method c.from.result c.in-Some.method.now
    (c.as_slice.ensures ∙ ap (λ (p : ClassParts). p.methods) c.parts.ensures.parts) c.from.ensures c.in-Some.ensures.lookup.3.0 c.in-Some.ensures.lookup.1) c.in-Some-code.is is)

pub returns-clause-exact : goal.returns-clause-exact
returns-clause-exact c = told (λ m code. GivesWhole is_free c.decode_code.result (body_of c.args.class.now m code)) c.args.class.now c.args.method c.in-Some.method.now c.in-Some-code.code
    (is_at c.args.class.now c.as_slice.result.now c.args.method c.from.result c.in-Some.method.now
    (c.as_slice.ensures ∙ ap (λ (p : ClassParts). p.methods) c.parts.ensures.parts) c.from.ensures c.in-Some.ensures.lookup.3.0 c.in-Some.ensures.lookup.1) c.in-Some-code.is c.decode_code.ensures.exact
