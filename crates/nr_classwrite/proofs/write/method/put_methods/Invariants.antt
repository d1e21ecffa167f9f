use Rattle.std.proofs.Common.{◌≡◌, ◌++◌, ◌<◌, ℕ, length, take, get_or}
use Rattle.std.specs.List.{flat_map}
use Rattle.nr_prog.specs.declared.member.Method.{Method}
use Rattle.nr_classwrite.specs.Fits.{MethodFits}
use Rattle.nr_classwrite.specs.Text.{two, method_text}
use Rattle.nr_classwrite.proofs.write.method.put_methods.Given as goal

abbrev pub invariant-loop-method : goal.invariant-loop-method
invariant-loop-method l = record {
  text : l.put ≡ l.fn.put ++ (two (length l.methods) ++ flat_map (method_text l.names) (take l.method-index l.methods));
  fits : (k : ℕ) (d : Method) → k < l.method-index → MethodFits (get_or l.methods k d);
}
