-- The methods that no method below may hide.
use Rattle.std.specs.Prelude.{ℕ, List, [], ◌∷◌, length, Bool, false, not, ◌&&◌, ◌==◌, if◌then◌else◌}
use Rattle.std.specs.List.{filter, flat_map, list_any, range_with_len}
use Rattle.std.specs.Option.{option_map_or}
use Rattle.nr_linked.specs.declared.program.tables.MethodInfo.{MethodInfo}
use Rattle.nr_linked.specs.declared.program.tables.ProgramTables.{ProgramTables}
use Rattle.nr_prog.specs.Members.{is_static}
use Rattle.nr_linked.specs.Programs.{method_at, methods_of}
use Rattle.nr_linked.specs.Selection.{is_called, is_private}
use Rattle.nr_links.specs.Rules.{is_final}
use Rattle.nr_linkrules.specs.Reaches.{reaches}
use Rattle.nr_link.specs.declared.finals.Finals.{Finals}

-- final, and neither static nor private
abbrev pub is_open_final : MethodInfo → Bool
is_open_final i = not (is_static i.flags) && (not (is_private i.flags) && is_final i.flags)

abbrev pub is_open_final_at : ProgramTables → ℕ → Bool
is_open_final_at P m = option_map_or is_open_final (method_at P m) false

-- those of class d
abbrev pub finals_in : ProgramTables → ℕ → List ℕ
finals_in P d = filter (is_open_final_at P) (methods_of P d)

-- with their class, where there are any
abbrev pub some_finals : ℕ → List ℕ → List Finals
some_finals d ms = if not (length ms == 0) then record { «class» = d; methods = ms } ∷ [] else []

abbrev pub finals_with : ProgramTables → ℕ → List Finals
finals_with P d = some_finals d (finals_in P d)

-- of each class that has any
abbrev pub finals_of : ProgramTables → List Finals
finals_of P = flat_map (finals_with P) (range_with_len 0 (length P.classes))

-- method m has the name and the descriptor of method i
abbrev pub is_called_as : ProgramTables → MethodInfo → ℕ → Bool
is_called_as P i m = option_map_or (is_called i.name i.desc) (method_at P m) false

-- method i stands below those, and has the name and the descriptor of one of them
abbrev pub hides_one : ProgramTables → MethodInfo → Finals → Bool
hides_one P i f = not (f.«class» == i.«class») && (reaches P i.«class» f.«class» && list_any (is_called_as P i) f.methods)
