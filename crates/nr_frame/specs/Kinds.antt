-- The kinds of frames (the project's own table).
use Rattle.std.specs.Prelude.{ℕ, Bool, ◌==◌, ◌||◌}
use Rattle.nr_frame.specs.declared.kind.Side.{Side}
use Rattle.nr_frame.specs.declared.kind.Side.TheVariants.{Client, Server}
use Rattle.nr_frame.specs.declared.kind.FrameKind.{FrameKind}
use Rattle.nr_frame.specs.declared.kind.FrameKind.TheVariants.{Hello, Call, Go, Reply}

-- the byte that stands for a kind
abbrev pub code_of : FrameKind → ℕ
code_of Hello = 1
code_of Call = 2
code_of Go = 3
code_of Reply = 4

-- the kinds that a side reads: a server Hello, Call and Go, a client Hello and Reply
abbrev pub reads_code : Side → ℕ → Bool
reads_code Server code = (code == 1) || ((code == 2) || (code == 3))
reads_code Client code = (code == 1) || (code == 4)
