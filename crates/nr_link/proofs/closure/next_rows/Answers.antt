use Rattle.std.proofs.Common.{◌∙◌, ◌+◌, ap, length, arith}
use Rattle.std.specs.Vec.Iter.{into_iter_items}
use Rattle.nr_linkrules.specs.Reaches.{row_of}
use Rattle.nr_link.proofs.Rows.{all_left, others_left, parts_all, parts_grow}
use Rattle.nr_link.proofs.closure.next_rows.Goals as goal

pub loop-class-init : goal.loop-class-init
loop-class-init c = record {
  so_far = c.new-next.ensures;
  left = all_left c.args.tables.now c.args.by (into_iter_items c.into_iter-rest.result) (c.into_iter-rest.ensures.rest ∙ c.into_vec.ensures ∙ c.requires.rows);
  len = omega (arith, ap length c.into_iter-rest.ensures.rest, c.into_iter-rest.ensures.len);
}

pub loop-class-preserved : goal.loop-class-preserved
loop-class-preserved c = record {
  so_far = parts_grow c.args.tables.now (c.args.by + 1) c.loop-class.class c.loop-class.next c.push.new.self _ c.in_ok-push.ensures.ok c.in_ok-next_row.ensures.row c.loop-class.invariant.so_far;
  left = others_left (row_of c.args.tables.now c.args.by) c.loop-class.class (length c.args.tables.now.classes) c.in-Some.row (into_iter_items c.loop-class.rest) (into_iter_items c.next.new.self)
      (omega (arith, c.loop-class-test.true, c.len-class-end.ensures)) c.in-Some.ensures.items c.loop-class.invariant.left;
  len = omega (arith, ap length c.in-Some.ensures.items, c.in-Some.ensures.len, c.loop-class.invariant.len);
}

pub returns-clause-rows : goal.returns-clause-rows
returns-clause-rows c =
    parts_all c.args.tables.now (c.args.by + 1) c.loop-class.class c.loop-class.next
    (omega (arith, c.loop-class-test.false, c.loop-class.auto.class-end, c.len-class-end.ensures)) c.loop-class.invariant.so_far
