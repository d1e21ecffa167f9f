use Rattle.std.proofs.Common.{arith, ◌∙◌}
use Rattle.nr_cli.proofs.Loadings.{walks_at, listed_on, reads_on}
use Rattle.nr_cli.proofs.load.load_all.Goals as goal

pub loop-path-preserved : goal.loop-path-preserved
loop-path-preserved g c = record {
  len = c.in_default.ensures.len;
  readable = c.in_default.ensures.readable c.loop-path.invariant.readable;
  faults = omega (arith, c.in_default.ensures.faults, c.loop-path.invariant.faults);
  files = λ t. c.in_default.ensures.files t ∙ c.loop-path.invariant.files t;
  walk = λ t. walks_at _ _ _ _ _ _ _ c.path-item.result _ _ _ _ c.loop-path-test.true c.path-item.is c.deref.ensures (c.loop-path.invariant.files t) (c.in_default.ensures.ok t) (c.loop-path.invariant.walk t);
  calls = λ t. reads_on _ _ _ _ _ _ c.path-item.result _ _ _ _ _ _ _ c.loop-path-test.true c.path-item.is c.deref.ensures (c.loop-path.invariant.files t) (c.in_default.ensures.ok t) (c.in_default.ensures.once t) (c.loop-path.invariant.calls t);
  listed = λ e. listed_on c.args.dir.now (g.F.Folder.files c.args.folder.now) c.args.paths.now _ c.path-item.result c.loop-path-test.true c.path-item.is (c.loop-path.invariant.listed e);
}
