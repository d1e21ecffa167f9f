use Rattle.std.proofs.Common.{◌≡◌, ◌++◌, ◌<◌, ℕ, length, take, get_or}
use Rattle.std.specs.List.{flat_map}
use Rattle.std.specs.Int.{w8, to_be_bytes}
use Rattle.nr_message.specs.declared.message.Arg.{Arg}
use Rattle.nr_message.specs.Whole.{IsArg}
use Rattle.nr_message.specs.Writing.{arg_text}
use Rattle.nr_message.proofs.write.call.put_args.Given as goal

abbrev pub invariant-loop-arg : goal.invariant-loop-arg
invariant-loop-arg l = record {
  text : l.put ≡ l.fn.put ++ (to_be_bytes w8 (length l.args) ++ flat_map arg_text (take l.arg-index l.args));
  fits : (k : ℕ) (d : Arg) → k < l.arg-index → IsArg (get_or l.args k d);
}
