use Rattle.std.proofs.Common.{◌≡◌, ◌++◌, ◌<◌, ◌∙◌, ap, length, subst}
use Rattle.std.specs.Prelude.{IsSomeAnd, Some, slice_get, string_bytes}
use Rattle.std.specs.FinMap.{get}
use Rattle.std.specs.Str.{encode_utf8_all}
use Rattle.nr_optable.specs.Arithmetic.{to_char}
use Rattle.nr_model.specs.declared.value.Value.{Value}
use Rattle.nr_model.specs.declared.value.Value.TheVariants.{Int}
use Rattle.nr_model.specs.Printing.{bytes_of_units, completed, high_half}
use Rattle.nr_machine.specs.Prints.{unit_of, units_of}
use Rattle.nr_machine.proofs.Units.{array_on, array_whole, more_left, on_err, read_int, slot_is}
use Rattle.nr_machine.proofs.printing.text_of_chars.Goals as goal

pub unit_of-unit-requires : goal.unit_of-unit-requires
unit_of-unit-requires c =
    read_int c.args.heap.now.objects c.args.name c.in-Some.count (string_bytes c.loop-at.text) c.loop-at.high c.loop-at.at c.loop-at.invariant c.get_slot.result c.loop-at-test.true c.get_slot.ensures

pub returns-in_err-push_unit-clause-err : goal.returns-in_err-push_unit-clause-err
returns-in_err-push_unit-clause-err c =
    let h = c.args.heap.now.objects in
    let a = c.args.name in
    let count = c.in-Some.count in
    let text = string_bytes c.loop-at.text in
    let high = c.loop-at.high in
    let at = c.loop-at.at in
    let y = c.loop-at.invariant in
    let i = read_int h a count text high at y c.get_slot.result c.loop-at-test.true c.get_slot.ensures in
    let n = i.0 in
    let u : c.unit_of-unit.result ≡ to_char n = c.unit_of-unit.ensures ∙ ap unit_of i.1 in
    let r : IsSomeAnd (get h a) (λ o. slice_get o.slots at ≡ Some (Int n)) = subst (λ (v : Value). IsSomeAnd (get h a) (λ o. slice_get o.slots at ≡ Some v)) i.1 c.get_slot.ensures in
    let left : 0 < length (bytes_of_units (units_of y.object.slots)) = more_left y.object.slots text high at y.coded n (slot_is h a count text high at y n r) (subst (λ u. 0 < length (encode_utf8_all (completed high u))) u c.in_err-push_unit.ensures.err) in
    on_err c.from_residual.result (IsSomeAnd (get h a) (λ o. 0 < length (bytes_of_units (units_of o.slots)))) (array_whole h a count text high at y (λ o. 0 < length (bytes_of_units (units_of o.slots))) left)

pub loop-at-preserved : goal.loop-at-preserved
loop-at-preserved c =
    let h = c.args.heap.now.objects in
    let a = c.args.name in
    let text = string_bytes c.loop-at.text in
    let high = c.loop-at.high in
    let at = c.loop-at.at in
    let y = c.loop-at.invariant in
    let i = read_int h a c.in-Some.count text high at y c.get_slot.result c.loop-at-test.true c.get_slot.ensures in
    let n = i.0 in
    let u : c.unit_of-unit.result ≡ to_char n = c.unit_of-unit.ensures ∙ ap unit_of i.1 in
    let r : IsSomeAnd (get h a) (λ o. slice_get o.slots at ≡ Some (Int n)) = subst (λ (v : Value). IsSomeAnd (get h a) (λ o. slice_get o.slots at ≡ Some v)) i.1 c.get_slot.ensures in
    array_on h a c.in-Some.count text high at y n r (string_bytes c.push_unit.new.text) (c.in_ok-push_unit.ensures.ok ∙ ap (λ u. text ++ encode_utf8_all (completed high u)) u)
    c.high_half-high.result (c.high_half-high.ensures.half ∙ ap high_half u) c.high_half-high.ensures.is
