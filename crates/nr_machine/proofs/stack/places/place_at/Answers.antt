use Rattle.std.proofs.Common.{◌+◌, ◌-◌, ◌/◌, ◌<◌, length, arith, ap}
use Rattle.nr_prog.specs.declared.body.instruction.Instr.{Instr}
use Rattle.nr_machine.proofs.Rising.{stands_above, stands_below}
use Rattle.nr_machine.proofs.stack.places.place_at.Goals as goal

pub loop-low-preserved-then-at-offset-2 : goal.loop-low-preserved-then-at-offset-2
loop-low-preserved-then-at-offset-2 c =
    let inv = c.loop-low.invariant in
    let m = c.loop-low.low + (c.loop-low.high - c.loop-low.low) / 2 in
    let l : m < length c.args.code.now = omega (arith, inv.0, c.loop-low-test.true) in
    let up : m < inv.1 = stands_above c.args.code.now c.requires.order inv.1 c.args.offset m inv.4 c.index-code-middle.result _ l c.index-code-middle.is (omega (arith, ap (λ (x : Instr). x.at) c.index-code-middle.is, c.from-at.ensures, c.if-at-offset-2.true)) in
    (inv.0, inv.1, omega (arith, up), inv.3, inv.4)

pub loop-low-preserved : goal.loop-low-preserved
loop-low-preserved c =
    let inv = c.loop-low.invariant in
    let m = c.loop-low.low + (c.loop-low.high - c.loop-low.low) / 2 in
    let l : m < length c.args.code.now = omega (arith, inv.0, c.loop-low-test.true) in
    let more : c.args.offset < c.index-code-middle.result.at = omega (arith, ap (λ (x : Instr). x.at) c.index-code-middle.is, c.from-at.ensures, c.if-at-offset.false, c.if-at-offset-2.false) in
    let down : inv.1 < m = stands_below c.args.code.now c.requires.order inv.1 c.args.offset m inv.4 c.index-code-middle.result _ l c.index-code-middle.is more in
    (omega (arith, l), inv.1, inv.2, down, inv.4)
