use Rattle.std.proofs.Common.{subst, sym, arith}
use Rattle.std.proofs.lemmas.List.Elements.{All-nil}
use Rattle.std.specs.Prelude.{◌<◌, ◌^◌}
use Rattle.nr_prog.specs.Pool.{text_len}
use Rattle.nr_classmake.specs.Places.{slot_of}
use Rattle.nr_classmake.proofs.Index.{IsWhole}
use Rattle.nr_classmake.proofs.pool.Pool.new.Goals as goal

pub invariant_of-result : goal.invariant_of-result
unfolding slot_of
invariant_of-result c = subst (λ xs. IsWhole c.new-2.result xs) (sym c.new.ensures.items) (omega arith, All-nil (λ e. text_len e < 2 ^ 16), record { slots = λ e i kept at. absurd cc })
