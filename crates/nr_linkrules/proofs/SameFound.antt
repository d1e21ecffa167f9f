-- What is found for instructions in programs of the same classes, whose methods have the same names, descriptors, flags and
-- classes, is the same.
use Rattle.std.proofs.Common.{◌≡◌, ℕ, Bool, false, List, map, refl, sym, ap, ◌∙◌, find}
use Rattle.std.specs.Prelude.{None, Ok, Err, codes, if◌then◌else◌}
use Rattle.std.specs.List.{flat_map}
use Rattle.std.specs.Str.{bytes_eq}
use Rattle.std.specs.Option.{option_map_or}
use Rattle.nr_optable.specs.declared.table.Family.{Family}
use Rattle.nr_optable.specs.declared.table.Family.TheVariants.{F32}
use Rattle.nr_prog.specs.declared.body.instruction.Instr.{Instr}
use Rattle.nr_prog.specs.declared.pool.PoolEntry.{PoolEntry}
use Rattle.nr_instrs.specs.Checks.{then_on}
use Rattle.nr_linked.specs.declared.program.kind.Kind.{Kind}
use Rattle.nr_linked.specs.declared.program.tables.MethodInfo.{MethodInfo}
use Rattle.nr_linked.specs.declared.program.tables.ProgramTables.{ProgramTables}
use Rattle.nr_linked.specs.declared.program.tables.Resolved.{Resolved}
use Rattle.nr_linked.specs.declared.program.tables.Resolved.TheVariants as resolved
use Rattle.nr_linked.specs.Kinds.{is_array}
use Rattle.nr_linked.specs.Programs.{methods_of}
use Rattle.nr_linked.specs.Selection.{is_called}
use Rattle.nr_links.specs.Found.{index_in}
use Rattle.nr_links.specs.Resolution.{class_with_members, classes_for, is_called_at, resolved_method}
use Rattle.nr_links.proofs.OneNames.{same_functions}
use Rattle.nr_linkrules.specs.declared.fault.LinkFault.TheVariants.{MemberKind}
use Rattle.nr_linkrules.specs.Outline.{bare_method}
use Rattle.nr_linkrules.specs.SiteRules.{Finding, Place, Search, by_member, callable, can_call, found_by, instr_found, kind_at, kind_named, method_found, method_in, method_of, no_method, on_entry, or_fault}
use Rattle.nr_linkrules.proofs.Alike.{bare_method_says, on_method}

abbrev with_methods : ProgramTables → List MethodInfo → ProgramTables
with_methods P methods = record P { methods = methods }

module _ (P : ProgramTables) (methods : List MethodInfo) (same : map bare_method P.methods ≡ map bare_method methods) where
  abbrev R : ProgramTables
  R = with_methods P methods

  called : (name desc : List ℕ) → is_called_at R name desc ≡ is_called_at P name desc
  called name desc = same_functions (is_called_at R name desc) (is_called_at P name desc) (on_method P R same (is_called name desc) false (bare_method_says (is_called name desc) (λ i. refl)))

  resolves : (c : ℕ) (name desc : List ℕ) → resolved_method R c name desc ≡ resolved_method P c name desc
  resolves c name desc = ap (λ test. find test (flat_map (methods_of P) (classes_for P c name))) (called name desc)

  method_alike : (k : Kind) (name desc : List ℕ) (c : ℕ) → method_of R k name desc c ≡ method_of P k name desc c
  method_alike k name desc c = ap (λ o. if Rattle.std.proofs.Common.◌&&◌ (is_array k) (bytes_eq name (codes "<init>")) then None else o) (resolves c name desc)

  call_alike : (p : Place) (code c m : ℕ) → callable R p code c m ≡ callable P p code c m
  call_alike p code c m =
      ap (λ b. if b then Ok (resolved.Method m c) else Err (MemberKind p.class_name p.method p.at)) (on_method P R same (can_call P p.own code c) false (bare_method_says (can_call P p.own code c) (λ i. refl)) m)

  in_alike : (p : Place) (code : ℕ) (name desc : List ℕ) (k : Kind) (c : ℕ) → method_in R p code name desc k c ≡ method_in P p code name desc k c
  in_alike p code name desc k c = λ i. then_on (or_fault (no_method p) (method_alike k name desc c i)) (same_functions (callable R p code c) (callable P p code c) (call_alike p code c) i)

  search_alike : (p : Place) (code : ℕ) → ◌≡◌ {A = Search} (method_found R p code) (method_found P p code)
  search_alike p code =
      same_functions (method_found R p code) (method_found P p code) (λ name.
      same_functions (method_found R p code name) (method_found P p code name) (λ desc.
      same_functions (method_found R p code name desc) (method_found P p code name desc) (λ k i.
      then_on (or_fault (no_method p) (class_with_members P k)) (same_functions (method_in R p code name desc k) (method_in P p code name desc k) (in_alike p code name desc k) i))))

  pub kind_alike : (pool : List PoolEntry) (index : ℕ) → kind_at R pool index ≡ kind_at P pool index
  unfolding kind_named
  kind_alike pool index = refl

  by_alike : (p : Place) (pool : List PoolEntry) (code index : ℕ) (f : Family) → found_by R p pool code index f ≡ found_by P p pool code index f
  unfolding kind_named
  by_alike p pool code index F32 = ap (λ (s : Search). on_entry (by_member P pool s) pool index) (search_alike p code)
  by_alike p pool code index f = refl

  pub found_alike : (place : ℕ → Place) (pool : List PoolEntry) (i : Instr) → instr_found R place pool i ≡ instr_found P place pool i
  unfolding instr_found
  found_alike place pool i =
      ap (λ (by : ℕ → Finding Resolved). option_map_or by (index_in i.args) (Ok resolved.Nothing))
      (same_functions (λ index. found_by R (place i.at) pool i.row.code index i.row.family) (λ index. found_by P (place i.at) pool i.row.code index i.row.family) (λ index. by_alike (place i.at) pool i.row.code index i.row.family))

-- the same of a program whose classes are said to be these
pub found_same : (P Q : ProgramTables) → P.classes ≡ Q.classes → map bare_method P.methods ≡ map bare_method Q.methods → (place : ℕ → Place) (pool : List PoolEntry) (i : Instr)
    → instr_found Q place pool i ≡ instr_found P place pool i
found_same P Q classes methods place pool i =
    (λ at. instr_found (record { classes = sym classes at; methods = Q.methods }) place pool i) ∙ found_alike P Q.methods methods place pool i

pub kind_same : (P Q : ProgramTables) → P.classes ≡ Q.classes → (pool : List PoolEntry) (index : ℕ) → kind_at Q pool index ≡ kind_at P pool index
unfolding kind_named
kind_same P Q classes pool index = λ at. kind_at (record { classes = sym classes at; methods = Q.methods }) pool index
