use Rattle.std.proofs.Common.{ℕ, rules}
use Rattle.std.proofs.lemmas.List.Sorted.{answers_always}
use Rattle.nr_linked.specs.declared.program.types.VFrame.{VFrame}
use Rattle.nr_verify.proofs.Searching.{map_found, map_missed}
use Rattle.nr_verify.proofs.maps.map_at.Goals as goal

pub returns-in-Ok : goal.returns-in-Ok
returns-in-Ok c = map_found c.args.method.now c.args.at c.as_slice-maps.result.now c.as_slice-maps.ensures c.requires c.in-Ok.place c.index-maps-place.result c.in-Ok.ensures.bound
    (c.in-Ok.ensures.position (λ (e : ℕ × VFrame). e.0) (answers_always _ _ _ (λ f a r g called. search rules)) c.index-maps-place.result)

pub returns-in-Err : goal.returns-in-Err
returns-in-Err c = map_missed c.args.method.now c.args.at c.as_slice-maps.result.now c.as_slice-maps.ensures c.requires c.in-Err.field-0
    (c.in-Err.ensures.position (λ (e : ℕ × VFrame). e.0) (answers_always _ _ _ (λ f a r g called. search rules)))
