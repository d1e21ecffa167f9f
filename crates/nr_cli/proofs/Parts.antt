-- A part of what an end of the program says.
use Rattle.std.proofs.Common.{◌≡◌, ◌≤◌, ◌++◌, ◌+◌, List, ℕ, length, min, ap, ◌∙◌, sym, inl, inr, arith}
use Rattle.std.specs.Prelude.{take}
use Rattle.std.proofs.Math.Seq.{take-append-add}
use Rattle.std.proofs.lemmas.List.{append_assoc, take-append-le, take_min}
use Rattle.nr_outside.specs.Bytes.{AddsPart}
use Rattle.nr_cli.specs.Ending.{SaysPart}

-- the same where the folder may have failed too
pub widened : (old new own : List ℕ) (F O : Type 0) → SaysPart old new own ⊥ O → SaysPart old new own F O
widened old new own F O (inl p) = inl p
widened old new own F O (inr (inl p)) = inr (inl p)
widened old new own F O (inr (inr (inl p))) = absurd p.0
widened old new own F O (inr (inr (inr p))) = inr (inr (inr p))

-- a part of a text is one of a longer text
pub longer : (old new text more : List ℕ) → AddsPart old new text → AddsPart old new (text ++ more)
longer old new text more p =
    let few : min p.count (length text) ≤ length text = omega arith in
    record {
      count = min p.count (length text);
      added = p.added ∙ ap (λ bytes. old ++ bytes) (sym (take-append-le (min p.count (length text)) text more few ∙ take_min p.count text));
    }

-- a part of a text that is added behind another is one of both
pub later : (old middle new text more : List ℕ) → middle ≡ old ++ text → AddsPart middle new more → AddsPart old new (text ++ more)
later old middle new text more whole p = record {
  count = length text + p.count;
  added = p.added ∙ ap (λ m. m ++ take p.count more) whole ∙ append_assoc old text (take p.count more) ∙ ap (λ bytes. old ++ bytes) (sym (take-append-add text more p.count));
}
