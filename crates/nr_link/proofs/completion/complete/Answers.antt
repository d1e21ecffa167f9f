use Rattle.std.proofs.Common.{ap, length, arith, ◌∙◌}
use Rattle.std.specs.Vec.Iter.{into_iter_items}
use Rattle.nr_link.proofs.Finishing.{leaves_on}
use Rattle.nr_link.proofs.completion.complete.Goals as goal

pub loop-info-preserved : goal.loop-info-preserved
loop-info-preserved c = record {
  so_far = leaves_on c.in-Some.info (into_iter_items c.loop-info.rest) (into_iter_items c.next.new.self) (into_iter_items c.loop-info.found) (into_iter_items c.next-in-Some.new.self) c.loop-info.completed c.push-in-None.new.self _
      c.in-Some.ensures.items c.in-None.ensures.items (c.loop-info.invariant.found_len ∙ c.in-None.ensures.cases.0) c.in_ok-push-in-None.ensures.ok c.loop-info.invariant.so_far;
  len = omega (arith, ap length c.in-Some.ensures.items, c.in-Some.ensures.len, c.loop-info.invariant.len);
  found_len = omega (arith, ap length c.in-None.ensures.items, c.in-None.ensures.len, c.loop-info.invariant.found_len);
}
