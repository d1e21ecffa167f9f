-- The counts of a class file are numbers of 16 bits, so its parts are within the bounds of a class.
use Rattle.std.proofs.Common.{ℕ, zero, suc, ◌<◌, ◌≤◌, ◌^◌, Bool, true, false, List, [], ◌∷◌, length, Option, Some, None, sym, ap, subst, arith}
use Rattle.std.specs.List.{All}
use Rattle.std.proofs.lemmas.List.Elements.{All-nil, All-cons}
use Rattle.nr_base.specs.Grammar.{Times, Each}
use Rattle.nr_prog.specs.declared.pool.PoolEntry.{PoolEntry}
use Rattle.nr_prog.specs.declared.pool.PoolEntry.TheVariants.{Utf8}
use Rattle.nr_prog.specs.declared.member.Code.{Code}
use Rattle.nr_prog.specs.declared.member.Method.{Method}
use Rattle.nr_prog.specs.declared.parts.ClassParts.{ClassParts}
use Rattle.nr_prog.specs.Pool.{is_wide, text_len}
use Rattle.nr_prog.specs.Form.{handler_count, IsWithinBounds}
use Rattle.nr_classread.specs.PoolText.{entry, entries}
use Rattle.nr_classread.specs.MemberText.{code_contents, code, method}
use Rattle.nr_classread.specs.ClassText.{parts, class_file}

-- ---- texts of the pool

abbrev IsShort : PoolEntry → Type 0
IsShort e = text_len e < 2 ^ 16

entry_short : (e : PoolEntry) (text : List ℕ) → entry e text → IsShort e
entry_short (Utf8 bytes) text g = omega (arith, g.2.first.0, g.2.second.0)
entry_short e text g = omega arith

entries_short : (b : Bool) (es : List PoolEntry) (text : List ℕ) → entries b es text → All IsShort es
entries_short b [] text g = All-nil IsShort
entries_short true (e ∷ es) text g = All-cons IsShort e es (subst IsShort (sym g.0) (omega arith)) (entries_short false es text g.1)
entries_short false (e ∷ es) text g = All-cons IsShort e es (entry_short e g.0 g.2) (entries_short (is_wide e) es g.1 g.3)

-- ---- handlers

abbrev IsFew : Option Code → Type 0
IsFew c = handler_count c ≤ 2 ^ 16

contents_few : (pool : List PoolEntry) (c : Code) (text : List ℕ) → code_contents pool c text → IsFew (Some c)
contents_few pool c text t =
    let h = t.second.second.second.second in
    let is = h.second.second.second.0 in
    omega (arith, ap (λ (z : Code). length z.handlers) is, h.first.first.0, h.first.second.0)

code_few : (pool : List PoolEntry) (seen y : Option Code) (text : List ℕ) → code pool seen y text → IsFew seen → IsFew y
code_few pool None None text g few = few
code_few pool None (Some c) text g few = contents_few pool c g.contents g.value
code_few pool (Some b) (Some c) text g few = subst (λ z. IsFew (Some z)) (sym g.0) few
code_few pool (Some b) None text g few = absurd g

codes_few : (pool : List PoolEntry) (k : ℕ) (seen y : Option Code) (text : List ℕ) → Times (code pool) k seen y text → IsFew seen → IsFew y
codes_few pool zero seen y text t few = subst IsFew (sym t.0) few
codes_few pool (suc k) seen y text t few = codes_few pool k t.value y t.back t.second (code_few pool seen t.value t.front t.first few)

abbrev HasFew : Method → Type 0
HasFew m = IsFew m.code

method_few : (pool : List PoolEntry) (m : Method) (text : List ℕ) → method pool m text → HasFew m
method_few pool m text t =
    let u = t.second.second.second in
    subst HasFew (sym u.second.second.0) (codes_few pool u.value None u.second.value u.second.front u.second.first (omega arith))

methods_few : (pool : List PoolEntry) (ms : List Method) (text : List ℕ) → Each (method pool) ms text → All HasFew ms
methods_few pool [] text g = All-nil HasFew
methods_few pool (m ∷ ms) text g = All-cons HasFew m ms (method_few pool m g.0 g.2) (methods_few pool ms g.1 g.3)

-- ---- the file

parts_bounds : (c : ClassParts) (text : List ℕ) → parts c text → IsWithinBounds c
parts_bounds c text t =
    let p = t.first in
    let m = t.second.second.second.second.second.second in
    subst IsWithinBounds (sym m.second.0) (record {
      pool = omega (arith, p.first.0, p.second.0);
      texts = entries_short false t.value p.back p.second.1;
      methods = omega (arith, m.first.first.0, m.first.second.0);
      handlers = methods_few t.value m.value m.first.back m.first.second.1;
    })

pub file_bounds : (c : ClassParts) (bytes : List ℕ) → class_file c bytes → IsWithinBounds c
file_bounds c bytes t =
    let p = t.second.second in
    subst IsWithinBounds (sym p.second.second.second.0) (parts_bounds p.value p.front p.first)
