-- The contents of each StackMapTable of a file have a length in 32 bits.
use Rattle.std.proofs.Common.{ℕ, zero, suc, ◌<◌, ◌^◌, List, [], ◌∷◌, length, Option, Some, None, sym, subst}
use Rattle.std.specs.Prelude.{IfSome}
use Rattle.std.specs.List.{All}
use Rattle.std.proofs.lemmas.List.Elements.{All-nil, All-cons}
use Rattle.nr_base.specs.Grammar.{Times, Each}
use Rattle.nr_prog.specs.declared.pool.PoolEntry.{PoolEntry}
use Rattle.nr_prog.specs.declared.member.Code.{Code}
use Rattle.nr_prog.specs.declared.member.Method.{Method}
use Rattle.nr_prog.specs.declared.parts.ClassParts.{ClassParts}
use Rattle.nr_classread.specs.MemberText.{stack_map_table, code_contents, code, method}
use Rattle.nr_classread.specs.ClassText.{parts, class_file}
use Rattle.nr_code.specs.Bounds.{HasShortMaps, AreShort}

abbrev IsKeptShort : Option (List ℕ) → Type 0
IsKeptShort o = IfSome o (λ contents. length contents < 2 ^ 32)

table_short : (pool : List PoolEntry) (seen y : Option (List ℕ)) (text : List ℕ) → stack_map_table pool seen y text → IsKeptShort seen → IsKeptShort y
table_short pool None None text g short = short
table_short pool None (Some x) text g short = subst (λ (z : List ℕ). length z < 2 ^ 32) g.value g.attribute.length_fits
table_short pool (Some x) (Some y) text g short = subst (λ (z : List ℕ). length z < 2 ^ 32) (sym g.0) short
table_short pool (Some x) None text g short = absurd g

tables_short : (pool : List PoolEntry) (k : ℕ) (seen y : Option (List ℕ)) (text : List ℕ) → Times (stack_map_table pool) k seen y text → IsKeptShort seen → IsKeptShort y
tables_short pool zero seen y text t short = subst IsKeptShort (sym t.0) short
tables_short pool (suc k) seen y text t short = tables_short pool k t.value y t.back t.second (table_short pool seen t.value t.front t.first short)

contents_short : (pool : List PoolEntry) (c : Code) (text : List ℕ) → code_contents pool c text → HasShortMaps (Some c)
contents_short pool c text t =
    let h = t.second.second.second.second.second in
    let is = h.second.second.0 in
    subst (λ (z : Code). IsKeptShort z.maps) (sym is) (tables_short pool h.value None h.second.value h.second.front h.second.first tt)

code_short : (pool : List PoolEntry) (seen y : Option Code) (text : List ℕ) → code pool seen y text → HasShortMaps seen → HasShortMaps y
code_short pool None None text g short = short
code_short pool None (Some c) text g short = contents_short pool c g.contents g.value
code_short pool (Some b) (Some c) text g short = subst (λ z. HasShortMaps (Some z)) (sym g.0) short
code_short pool (Some b) None text g short = absurd g

codes_short : (pool : List PoolEntry) (k : ℕ) (seen y : Option Code) (text : List ℕ) → Times (code pool) k seen y text → HasShortMaps seen → HasShortMaps y
codes_short pool zero seen y text t short = subst HasShortMaps (sym t.0) short
codes_short pool (suc k) seen y text t short = codes_short pool k t.value y t.back t.second (code_short pool seen t.value t.front t.first short)

abbrev HasShort : Method → Type 0
HasShort m = HasShortMaps m.code

method_short : (pool : List PoolEntry) (m : Method) (text : List ℕ) → method pool m text → HasShort m
method_short pool m text t =
    let u = t.second.second.second in
    subst HasShort (sym u.second.second.0) (codes_short pool u.value None u.second.value u.second.front u.second.first tt)

methods_short : (pool : List PoolEntry) (ms : List Method) (text : List ℕ) → Each (method pool) ms text → All HasShort ms
methods_short pool [] text g = All-nil HasShort
methods_short pool (m ∷ ms) text g = All-cons HasShort m ms (method_short pool m g.0 g.2) (methods_short pool ms g.1 g.3)

parts_short : (c : ClassParts) (text : List ℕ) → parts c text → AreShort c
parts_short c text t =
    let p = t.first in
    let m = t.second.second.second.second.second.second in
    subst AreShort (sym m.second.0) (methods_short t.value m.value m.first.back m.first.second.1)

pub file_short : (c : ClassParts) (bytes : List ℕ) → class_file c bytes → AreShort c
file_short c bytes t =
    let p = t.second.second in
    subst AreShort (sym p.second.second.second.0) (parts_short p.value p.front p.first)
