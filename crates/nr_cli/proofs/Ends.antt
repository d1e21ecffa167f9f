-- What is due is of itself neither want of memory nor a fault of the folder.
use Rattle.std.proofs.Common.{◌≡◌, ℕ, ◌-◌, Bool, true, false, cond, List, [], ◌∷◌, length, Option, Some, None, Result, Ok, Err, refl, sym, ap, subst}
use Rattle.std.specs.Prelude.{◌&&◌, nat_le, is_some, slice_get}
use Rattle.std.specs.Option.{option_map_or}
use Rattle.nr_outside.specs.Folder.{ToldFile, class_paths, file_at}
use Rattle.nr_prog.specs.declared.body.loaded.Loaded.{Loaded}
use Rattle.nr_instrs.specs.Checks.{then_on}
use Rattle.nr_linked.specs.declared.program.tables.MethodInfo.{MethodInfo}
use Rattle.nr_linked.specs.declared.program.tables.ProgramTables.{ProgramTables}
use Rattle.nr_linked.specs.TypingFaults.{MethodFault}
use Rattle.nr_linkrules.specs.declared.fault.LinkFault.{LinkFault}
use Rattle.nr_linkrules.specs.Completion.{linked_program}
use Rattle.nr_linkrules.specs.LinkFaults.{link_fault}
use Rattle.nr_linkrules.specs.Mains.{main_of}
use Rattle.nr_verify.specs.First.{program_fault}
use Rattle.nr_code.specs.Decoding.{loaded_of}
use Rattle.nr_code.specs.declared.fault.LoadFault.{LoadFault}
use Rattle.nr_code.specs.declared.fault.LoadFault.TheVariants as loads
use Rattle.nr_cli.specs.Words.{Command, command_of}
use Rattle.nr_cli.specs.Order.{in_byte_order}
use Rattle.nr_cli.specs.Programs.{found_in, linked_of, or_link, prepared, verified_of}
use Rattle.nr_cli.specs.Refusals.{spelled_verify, told_fault}
use Rattle.nr_cli.specs.Dues.{Due, IsEndOf, MainRun, Settled, stop_of}
use Rattle.nr_cli.specs.Plan.{fault_end, as_end, file_class, with_len, loaded_at, and_then_all, all_loaded, main_due, judged, last_end, folder_due, loaded_due, of_command, due_of, are_listed, NothingFailed}
use Rattle.nr_linkrules.specs.declared.fault.LinkFault.TheVariants as links
use Rattle.nr_cli.proofs.OwnFaults.{IsOwnFault, IsOwnFinding, IsOwnOption, links_own, main_own as own_main}
use Rattle.nr_cli.proofs.Listed.{sorted_paths}
use Rattle.nr_run.specs.declared.ran.Ran.{Ran}
use Rattle.nr_run.specs.declared.ran.RunEnd.{RunEnd}
use Rattle.nr_run.specs.declared.ran.RunEnd.TheVariants as runs
use Rattle.nr_run.specs.Runs.{EndsAs, RunEnds}
use Rattle.nr_cli.specs.declared.ending.LoadFault.TheVariants.{FileTooLong}
use Rattle.nr_cli.specs.declared.ending.End.{End}
use Rattle.nr_cli.specs.declared.ending.End.TheVariants.{Folder, Class, Link, Verify, Run, Memory}
use Rattle.nr_cli.specs.declared.ending.Stop.{Stop}
use Rattle.nr_cli.specs.declared.ending.Stop.TheVariants as stops

-- neither want of memory, nor a fault of the folder, nor of a run
abbrev pub IsOwn : End → Type 0
IsOwn Memory = ⊥
IsOwn Folder = ⊥
IsOwn (Link fault) = IsOwnFault fault
IsOwn (Run printed stop) = ⊥
IsOwn end = Unit {0}

-- a refusal, if it is one, is such an end
abbrev IsOwnErr : {A : Type 0} → Result A End → Type 0
IsOwnErr (Ok x) = Unit {0}
IsOwnErr (Err end) = IsOwn end

-- what is due, if it isn't a run, is such an end
abbrev pub IsOwnDue : Due → Type 0
IsOwnDue (Settled end) = IsOwn end
IsOwnDue (MainRun P m c) = Unit {0}

by : (b : Bool) (x y : Due) → IsOwnDue x → IsOwnDue y → IsOwnDue (cond b x y)
by true x y own other = own
by false x y own other = other

main_own : (c : Command) (r : Result (ProgramTables × ℕ) End) → IsOwnErr r → IsOwnDue (main_due c r)
main_own c (Ok x) own = tt
main_own c (Err end) own = own

-- ---- the program

then_own : {A B : Type 0} (r : Result A End) (f : A → Result B End) → IsOwnErr r → ((x : A) → IsOwnErr (f x)) → IsOwnErr (then_on r f)
then_own (Ok x) f own later = later x
then_own (Err end) f own later = own

linked : (P : ProgramTables) (fault : Option LinkFault) → IsOwnOption fault → IsOwnErr (option_map_or (λ f. Err (Link f)) fault (Ok P))
linked P None own = tt
linked P (Some f) own = own

found : {A : Type 0} (r : Result A LinkFault) → IsOwnFinding r → IsOwnErr (or_link r)
found (Ok x) own = tt
found (Err f) own = own

verified : (P : ProgramTables) (fault : Option (MethodInfo × MethodFault)) → IsOwnErr (option_map_or (λ r. Err (Verify (spelled_verify P (told_fault P r.0 r.1)))) fault (Ok P))
verified P None = tt
verified P (Some f) = tt

made : (classes : List Loaded) (name : List ℕ) → IsOwnErr (prepared classes name)
made classes name =
    then_own (linked_of classes) (λ P. then_on (found_in P name) (λ m. then_on (verified_of P) (λ Q. Ok (Q, m))))
    (linked (linked_program classes) (link_fault classes) (links_own classes))
    (λ P. then_own (found_in P name) (λ m. then_on (verified_of P) (λ Q. Ok (Q, m))) (found (main_of P name) (own_main P name))
    (λ m. then_own (verified_of P) (λ Q. Ok (Q, m)) (verified P (program_fault P)) (λ Q. tt)))

by_classes : (c : Command) (classes : List Loaded) → IsOwnDue (judged c classes)
by_classes c classes = main_own c (prepared classes c.main) (made classes c.main)

last : (c : Command) (path : Option (List ℕ)) → IsOwn (last_end c path)
last c None = tt
last c (Some path) = tt

by_length : (c : Command) (paths : List (List ℕ)) (len : ℕ) (classes : List Loaded) → IsOwnDue (folder_due c paths len classes)
by_length c paths len classes =
    by (nat_le len 67108864) (judged c classes) (Settled (last_end c (slice_get paths (length paths - 1))))
    (by_classes c classes) (last c (slice_get paths (length paths - 1)))

-- ---- class files that are read

refusal : (path : List ℕ) (fault : LoadFault) → (fault ≡ loads.NoMemory → ⊥) → IsOwn (fault_end path fault)
refusal path loads.NoMemory ne = ne refl
refusal path (loads.Class fault) ne = tt
refusal path (loads.Code method fault) ne = tt

as_read : (path : List ℕ) (r : Result Loaded LoadFault) → (r ≡ Err loads.NoMemory → ⊥) → IsOwnErr (as_end path r)
as_read path (Ok loaded) ne = tt
as_read path (Err fault) ne = refusal path fault (λ e. ne (ap Err e))

err_by : (b : Bool) (x y : Result Loaded End) → IsOwnErr x → IsOwnErr y → IsOwnErr (cond b x y)
err_by true x y own other = own
err_by false x y own other = other

with_bytes : (len : ℕ) (r : Result Loaded End) → IsOwnErr r → IsOwnErr (with_len len r)
with_bytes len (Ok class) own = tt
with_bytes len (Err end) own = own

one : (path : List ℕ) (file : Option (List ℕ)) → ((bytes : List ℕ) → loaded_of bytes ≡ Err loads.NoMemory → ⊥) → is_some file ≡ true → IsOwnErr (loaded_at path file)
one path None never e = absurd cc
one path (Some bytes) never e =
    with_bytes (length bytes) (file_class path bytes)
    (err_by (nat_le (length bytes) 1048576) (as_end path (loaded_of bytes)) (Err (Class path FileTooLong)) (as_read path (loaded_of bytes) (never bytes)) tt)

then_all : (r : Result (Loaded × ℕ) End) (others : Result (List Loaded × ℕ) End) → IsOwnErr r → IsOwnErr others → IsOwnErr (and_then_all r others)
then_all (Err end) others own later = own
then_all (Ok x) (Err end) own later = later
then_all (Ok x) (Ok y) own later = tt

both : (a b : Bool) → (a && b) ≡ true → (a ≡ true) × (b ≡ true)
both true b e = (refl, e)
both false b e = absurd cc

all_read : (dir : List ℕ) (files : List ToldFile) (paths : List (List ℕ)) → ((bytes : List ℕ) → loaded_of bytes ≡ Err loads.NoMemory → ⊥) → are_listed dir files paths ≡ true → IsOwnErr (all_loaded dir files paths)
all_read dir files [] never e = tt
all_read dir files (path ∷ paths) never e =
    let parts = both (is_some (file_at dir path files)) (are_listed dir files paths) e in
    then_all (loaded_at path (file_at dir path files)) (all_loaded dir files paths) (one path (file_at dir path files) never parts.0) (all_read dir files paths never parts.1)

by_loaded : (c : Command) (paths : List (List ℕ)) (all : Result (List Loaded × ℕ) End) → IsOwnErr all → IsOwnDue (loaded_due c paths all)
by_loaded c paths (Ok x) own = by_length c paths x.1 x.0
by_loaded c paths (Err end) own = own

by_command : (c : Option Command) (files : List ToldFile) → ((bytes : List ℕ) → loaded_of bytes ≡ Err loads.NoMemory → ⊥) → IsOwnDue (of_command c files)
by_command None files never = tt
by_command (Some c) files never =
    let paths = in_byte_order (class_paths c.dir files) in
    by_loaded c paths (all_loaded c.dir files paths) (all_read c.dir files paths never (sorted_paths c.dir files))

pub own_due : ((bytes : List ℕ) → loaded_of bytes ≡ Err loads.NoMemory → ⊥) → (words : List (List ℕ)) (files : List ToldFile) → IsOwnDue (due_of words files)
own_due never words files = by_command (command_of words) files never

-- ---- no end of what is due fails

-- an end that isn't of a run and isn't an own one isn't due
no_end : (end : End) → (IsOwn end → ⊥) → ((printed : List ℕ) (stop : Stop) → end ≡ Run printed stop → ⊥) → (due : Due) → IsOwnDue due → IsEndOf due end → ⊥
no_end end fails never (Settled other) own e = fails (subst (λ (z : End). IsOwn z) (sym e) own)
no_end end fails never (MainRun P m c) own e = never e.0.printed (stop_of P c.budget e.0.end) e.2

no_stop : (P : ProgramTables) (m : ℕ) (c : Command) (r : Ran) (e : RunEnd) → r.end ≡ e → RunEnds P m c.ints c.budget r → stops.Memory ≡ stop_of P c.budget e → ⊥
no_stop P m c r (runs.Returned n) e ends f = cc
no_stop P m c r (runs.Thrown k) e ends f = cc
no_stop P m c r runs.Budget e ends f = cc
no_stop P m c r (runs.Limit l) e ends f = cc
no_stop P m c r runs.NoMemory e ends f = subst (EndsAs ends.fate ends.state) e ends.ends

no_run : (printed : List ℕ) (due : Due) → IsOwnDue due → IsEndOf due (Run printed stops.Memory) → ⊥
no_run printed (Settled other) own e = subst (λ (z : End). IsOwn z) (sym e) own
no_run printed (MainRun P m c) own e = no_stop P m c e.0 e.0.end refl e.1 (same_stop printed e.0.printed stops.Memory (stop_of P c.budget e.0.end) e.2)
  where
    same_stop : (xs ys : List ℕ) (s t : Stop) → Run xs s ≡ Run ys t → s ≡ t
    same_stop xs ys s t e = cc

pub nothing_failed : ((bytes : List ℕ) → loaded_of bytes ≡ Err loads.NoMemory → ⊥) → (words : List (List ℕ)) (files : List ToldFile) → NothingFailed (due_of words files)
nothing_failed never words files =
    let own = own_due never words files in
    record {
      memory = no_end Memory (λ o. o) (λ printed stop e. cc) (due_of words files) own;
      link_memory = no_end (Link links.NoMemory) (λ o. o) (λ printed stop e. cc) (due_of words files) own;
      run_memory = λ printed. no_run printed (due_of words files) own;
      folder = no_end Folder (λ o. o) (λ printed stop e. cc) (due_of words files) own;
    }
