use Rattle.std.proofs.Common.{◌≡◌, ℕ, List, map, take}
use Rattle.nr_prog.specs.TextNumbers.{first_from, number_in}
use Rattle.nr_prog.specs.Told.{told}
use Rattle.nr_prog.proofs.form.texts.numbers.Given as goal

abbrev pub invariant-loop-place : goal.invariant-loop-place
invariant-loop-place l = record {
  told : (text : List ℕ) → told l.firsts text ≡ first_from 1 (take l.place l.pool) text;
  numbers : l.numbers ≡ map (number_in l.pool) (take l.place l.pool);
}
