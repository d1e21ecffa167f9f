use Rattle.std.proofs.Common.{◌≡◌, ◌++◌, ◌<◌, ℕ, length, take, get_or}
use Rattle.std.specs.List.{flat_map}
use Rattle.nr_prog.specs.declared.member.Handler.{Handler}
use Rattle.nr_classwrite.specs.Fits.{HandlerFits}
use Rattle.nr_classwrite.specs.Text.{two, handler_text}
use Rattle.nr_classwrite.proofs.write.code.put_handlers.Given as goal

abbrev pub invariant-loop-handler : goal.invariant-loop-handler
invariant-loop-handler l = record {
  text : l.put ≡ l.fn.put ++ (two (length l.handlers) ++ flat_map handler_text (take l.handler-index l.handlers));
  fits : (k : ℕ) (d : Handler) → k < l.handler-index → HandlerFits (get_or l.handlers k d);
}
