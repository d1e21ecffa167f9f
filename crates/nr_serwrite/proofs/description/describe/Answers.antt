use Rattle.std.proofs.Common.{rules, ◌≡◌, Some, None, false, subst}
use Rattle.std.proofs.lemmas.Result.{on_ok_weaker}
use Rattle.nr_linked.specs.Facts.{ProgramFacts}
use Rattle.nr_serform.specs.Entries.{Class}
use Rattle.nr_serform.specs.Handles.{has}
use Rattle.nr_serwrite.proofs.Described.{climb_known, climb_on, climb_over, climbs_less}
use Rattle.nr_serwrite.proofs.description.describe.Goals as goal

pub returns-in-Some-find : goal.returns-in-Some-find
returns-in-Some-find c = on_ok_weaker c.put_handle.result (λ e.
    climb_known c.args.forms.now (Some c.args.kind) c.args.handles.now c.args.out.now c.in-Some.kind c.loop-next.next c.loop-next.handles c.loop-next.out c.put_handle.new.out c.in-Some-find.handle
    c.loop-next.invariant c.in-Some.is c.in-Some-find.ensures.1 c.in-Some-find.ensures.0 e) c.put_handle.ensures

pub loop-next-smaller : goal.loop-next-smaller
loop-next-smaller c =
    climbs_less c.args.forms.now (subst ProgramFacts c.program.ensures c.tables.ensures.facts) c.in-Some.kind c.loop-next.next c.described_super-next.result c.in-Some.is c.described_super-next.ensures

pub loop-next-preserved : goal.loop-next-preserved
loop-next-preserved c =
    let anew : has c.loop-next.handles (Class c.in-Some.kind) ≡ false = search rules in
    climb_on c.args.forms.now (Some c.args.kind) c.args.handles.now c.args.out.now c.in-Some.kind c.loop-next.next c.described_super-next.result c.loop-next.handles c.put_own.new.handles c.loop-next.out
    c.put_own.new.out c.loop-next.invariant c.in-Some.is anew c.in_ok-put_own.ensures.text c.in_ok-put_own.ensures.table c.described_super-next.ensures

pub returns : goal.returns
returns c = on_ok_weaker c.u8.result (λ e.
    let none : c.loop-next.next ≡ None = search rules in
    climb_over c.args.forms.now (Some c.args.kind) c.args.handles.now c.args.out.now c.loop-next.next c.loop-next.handles c.loop-next.out c.u8.new.self c.loop-next.invariant none e) c.u8.ensures.ok
