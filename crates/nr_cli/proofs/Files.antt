-- The first bytes of a file tell whether it is too long, and else they are the file.
use Rattle.std.proofs.Common.{◌≡◌, ◌⊎◌, ℕ, ◌<◌, List, length, take, Option, None, Some, Result, Ok, Err, Vec, refl, ap, ◌∙◌, arith, inl, inr}
use Rattle.std.specs.declared.alloc.Global.{Global}
use Rattle.std.proofs.lemmas.Bool.{cases_lt, lt-leb}
use Rattle.std.proofs.lemmas.List.{take_all, length-take}
use Rattle.nr_outside.specs.Folder.{Reads}
use Rattle.nr_cli.specs.Plan.{file_class, with_len, loaded_at}
use Rattle.nr_prog.specs.declared.body.loaded.Loaded.{Loaded}
use Rattle.nr_cli.specs.declared.ending.End.{End}
use Rattle.nr_cli.specs.declared.ending.End.TheVariants.{Memory, Folder}

-- a file that is cut off behind the limit is refused as the whole one, whatever its length
cut : (path bytes whole : List ℕ) → bytes ≡ take 1048577 whole → with_len (length bytes) (file_class path bytes) ≡ with_len (length whole) (file_class path whole)
cut path bytes whole e =
    elim (cases_lt 1048576 (length whole)) [
      | inl lt ↦
          let long : 1048576 < length bytes = omega (arith, ap length e, length-take 1048577 whole) in
          rw (lt-leb (length bytes) 1048576 long, lt-leb (length whole) 1048576 lt) refl
      | inr le ↦
          let same : bytes ≡ whole = e ∙ take_all 1048577 whole (omega arith) in
          ap (λ z. with_len (length z) (file_class path z)) same
    ]

class_read : (path : List ℕ) (file : Option (List ℕ)) (bytes : Vec ℕ Global) → Reads file 1048577 (Ok bytes) → with_len (length bytes.items) (file_class path bytes.items) ≡ loaded_at path file
class_read path None bytes h = absurd h
class_read path (Some whole) bytes h = cut path bytes.items whole h

pub loaded : (path : List ℕ) (file : Option (List ℕ)) (bytes : Vec ℕ Global) (slice : List ℕ) (r : Result (Loaded × ℕ) End) → Reads file 1048577 (Ok bytes) → slice ≡ bytes.items → (r ≡ Err Memory) ⊎ (r ≡ with_len (length slice) (file_class path slice)) → (r ≡ Err Memory) ⊎ (r ≡ Err Folder) ⊎ (r ≡ loaded_at path file)
loaded path file bytes slice r h same (inl e) = inl e
loaded path file bytes slice r h same (inr e) = inr (inr (e ∙ ap (λ z. with_len (length z) (file_class path z)) same ∙ class_read path file bytes h))
