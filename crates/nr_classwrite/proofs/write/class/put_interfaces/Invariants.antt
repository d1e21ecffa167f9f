use Rattle.std.proofs.Common.{◌≡◌, ◌++◌, ◌<◌, ℕ, length, take, get_or}
use Rattle.std.specs.List.{flat_map}
use Rattle.nr_classwrite.specs.Fits.{IndexFits}
use Rattle.nr_classwrite.specs.Text.{two}
use Rattle.nr_classwrite.proofs.write.class.put_interfaces.Given as goal

abbrev pub invariant-loop-index : goal.invariant-loop-index
invariant-loop-index l = record {
  text : l.put ≡ l.fn.put ++ (two (length l.interfaces) ++ flat_map two (take l.index-index l.interfaces));
  fits : (k : ℕ) (d : ℕ) → k < l.index-index → IndexFits (get_or l.interfaces k d);
}
