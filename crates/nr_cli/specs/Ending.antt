-- How the program ends, and what it writes then. The project's own rules.
use Rattle.std.specs.Prelude.{◌≡◌, ℕ, List, [], ◌∷◌, ◌++◌, ◌⊎◌, codes}
use Rattle.std.specs.Fmt.{decimal}
use Rattle.nr_outside.specs.Bytes.{AddsPart}
use Rattle.nr_run.specs.Runs.{result_line}
use Rattle.nr_cli.specs.Spelling.{spelled, spelled_fault, spelled_limit}
use Rattle.nr_cli.specs.Refusals.{spelled_link}
use Rattle.nr_cli.specs.declared.ending.End.{End}
use Rattle.nr_cli.specs.declared.ending.End.TheVariants.{Words, Folder, Class, Link, Verify, Run, Memory}
use Rattle.nr_cli.specs.declared.ending.Stop.{Stop}
use Rattle.nr_cli.specs.declared.ending.Stop.TheVariants as stops

abbrev pub line : List ℕ → List ℕ
line text = codes "nrmi: " ++ text ++ 10 ∷ []

-- ---- of a run

abbrev pub stop_status : Stop → ℕ
stop_status (stops.Returned n) = 0
stop_status (stops.Thrown name) = 1
stop_status (stops.Budget n) = 9
stop_status (stops.Limit limit) = 10
stop_status stops.Memory = 12

-- behind what was printed
abbrev pub stop_result : Stop → List ℕ
stop_result (stops.Returned n) = result_line n
stop_result stop = []

abbrev pub stop_line : Stop → List ℕ
stop_line (stops.Returned n) = []
stop_line (stops.Thrown name) = line (codes "thrown " ++ spelled name)
stop_line (stops.Budget n) = line (codes "budget " ++ decimal n)
stop_line (stops.Limit limit) = line (codes "limit " ++ spelled_limit limit)
stop_line stops.Memory = line (codes "memory")

-- ---- of the program

abbrev pub status_of : End → ℕ
status_of Words = 2
status_of Folder = 3
status_of (Class path fault) = 4
status_of (Link fault) = 5
status_of (Verify fault) = 6
status_of (Run printed stop) = stop_status stop
status_of Memory = 12

abbrev pub printed_of : End → List ℕ
printed_of (Run printed stop) = printed
printed_of end = []

-- the line with the run's result, if it has one
abbrev pub result_of : End → List ℕ
result_of (Run printed stop) = stop_result stop
result_of end = []

-- what the run printed, and its result
abbrev pub out_of : End → List ℕ
out_of end = printed_of end ++ result_of end

-- a text is written by one call, and nothing by none
abbrev pub calls_for : List ℕ → ℕ
calls_for [] = 0
calls_for (b ∷ bs) = 1

abbrev pub err_of : End → List ℕ
err_of Words = line (codes "words")
err_of Folder = line (codes "folder")
err_of (Class path fault) = line (codes "class " ++ spelled path ++ codes " " ++ spelled_fault fault)
err_of (Link fault) = line (codes "link " ++ spelled_link fault)
err_of (Verify fault) = line (codes "verify " ++ fault)
err_of (Run printed stop) = stop_line stop
err_of Memory = line (codes "memory")

-- Some first bytes of one line are added to the sink for errors: of the end's own, or of one that tells what failed
-- besides, that memory ran out, or that the folder or the other sink failed.
abbrev pub SaysPart : List ℕ → List ℕ → List ℕ → Type 0 → Type 0 → Type 0
SaysPart old new own folder_failed out_failed =
    AddsPart old new own ⊎ AddsPart old new (line (codes "memory"))
    ⊎ (folder_failed × AddsPart old new (line (codes "folder"))) ⊎ (out_failed × AddsPart old new (line (codes "sink")))

-- The program ends so, but where a write failed or memory ran out: its status, and what it adds to the sinks that tell
-- what they hold.
pub record EndsAs (end : End) (status : ℕ) (out_tells : Type 0) (out out' : List ℕ) (err_tells : Type 0) (err err' : List ℕ) (folder_failed out_failed : Type 0) : Type 0 where
  pub own : (status ≡ status_of end) ⊎ (status ≡ 11) ⊎ (status ≡ 12)
  pub result : out_tells → (status ≡ 11 → ⊥) → (status ≡ 12 → ⊥) → out' ≡ out ++ out_of end
  pub part : out_tells → AddsPart out out' (out_of end)
  pub line : err_tells → (status ≡ 11 → ⊥) → (status ≡ 12 → ⊥) → err' ≡ err ++ err_of end
  pub said : err_tells → SaysPart err err' (err_of end) folder_failed out_failed
