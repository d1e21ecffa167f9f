-- multianewarray: its rule, and the counts that it pops.
use Rattle.std.proofs.Common.{◌≡◌, ℕ, zero, suc, ◌+◌, ◌-◌, ◌<◌, ◌≤◌, ◌⊎◌, inl, inr, pos, negsuc, List, [], ◌∷◌, ◌++◌, length, Option, refl, sym, subst, ap, ◌∙◌, Bool, true, false, not, ◌||◌, ◌==◌, cond, arith, take, drop}
use Rattle.std.specs.Prelude.{reverse, slice_range, slice_index_or}
use Rattle.std.proofs.lemmas.List.{length-reverse, reverse-append}
use Rattle.std.proofs.lemmas.List.Edits.{between_more, length-between}
use Rattle.std.specs.List.{list_all, list_any}
use Rattle.nr_optable.specs.declared.table.Family.TheVariants.{F34}
use Rattle.nr_optable.specs.declared.table.Row.{Row}
use Rattle.nr_optable.specs.declared.table.Shape.{Shape}
use Rattle.nr_optable.specs.declared.table.Shape.TheVariants as shapes
use Rattle.nr_optable.specs.Rows.{all_rows}
use Rattle.nr_prog.specs.declared.body.instruction.Args.{Args}
use Rattle.nr_prog.specs.declared.body.instruction.Args.TheVariants as args
use Rattle.nr_prog.specs.declared.body.instruction.Instr.{Instr}
use Rattle.nr_linked.specs.declared.program.built_in.BuiltIn.TheVariants.{NegativeArraySizeException}
use Rattle.nr_linked.specs.declared.program.kind.Kind.{Kind}
use Rattle.nr_linked.specs.declared.program.tables.MethodInfo.{MethodInfo}
use Rattle.nr_linked.specs.declared.program.tables.ProgramTables.{ProgramTables}
use Rattle.nr_linked.specs.declared.program.tables.Resolved.{Resolved}
use Rattle.nr_linked.specs.declared.program.tables.Resolved.TheVariants as resolved
use Rattle.nr_linked.specs.TypingFacts.{SiteFacts, is_shaped}
use Rattle.nr_model.specs.declared.value.Value.{Value}
use Rattle.nr_model.specs.declared.value.Value.TheVariants.{Int, Long, Null, Ref}
use Rattle.nr_model.specs.ArrayRules.{nested, new_arrays, with_counts}
use Rattle.nr_model.specs.Heaps.{Heap}
use Rattle.nr_model.specs.Rules.{array_rule}
use Rattle.nr_model.specs.Scripts.{Ending, OnInt, Runs, Script, Within}
use Rattle.nr_model.specs.Throws.{onward, throw_new}
use Rattle.nr_step.specs.Instructions.{CanDo, IsRowOf, doing, site_of}
use Rattle.nr_step.specs.NestedArrays.{count_in, counts_in, is_negative}
use Rattle.nr_step.specs.Windows.{CanBegin, top_first, view}
use Rattle.nr_step.proofs.Families.{AllOf, rule_by}
use Rattle.nr_step.proofs.Going.{lt_or_ge}
use Rattle.nr_step.proofs.Rows.{IsRule, each_row}

-- ---- the rule

nests : AllOf (λ c. c == 197) F34
unfolding all_rows
nests = refl

abbrev is_Mul : Shape → Bool
is_Mul shapes.Mul = true
is_Mul shape = false

dims_arg : (s : Shape) (a : Args) → is_Mul s ≡ true → is_shaped s a ≡ true → (j : ℕ) × (n : ℕ) × (a ≡ args.Dims j n)
dims_arg shapes.Mul (args.Dims j n) p q = (j, n, refl)
dims_arg shapes.Mul a p q = absurd cc
dims_arg s a p q = absurd cc

dims_shapes : list_all (λ (r : Row). not (r.code == 197) || is_Mul r.shape) all_rows ≡ true
unfolding all_rows
dims_shapes = refl

pub dims_there : (P : ProgramTables) (own : ℕ) (i : Instr) (found : Resolved) (n : Option ℕ) → IsRowOf 197 i.row → SiteFacts P own (site_of i found n) → (j : ℕ) × (d : ℕ) × (i.args ≡ args.Dims j d)
dims_there P own i found n r site = dims_arg i.row.shape i.args (each_row (λ r. r.code == 197) (λ r. is_Mul r.shape) dims_shapes i.row r.listed (ap (λ c. c == 197) r.code)) site.shaped

nest_is : (P : ProgramTables) (own : MethodInfo) (i : Instr) (found : Resolved) (j d : ℕ) → IsRowOf 197 i.row → i.args ≡ args.Dims j d → (n : Option ℕ) → doing P own i found n ≡ array_rule P (args.Dims j d) found (onward n)
nest_is P own i found j d r a n = rule_by (λ c. c == 197) F34 nests P own i found 197 r refl n ∙ ap (λ a. array_rule P a found (onward n)) a

pub nest_rule : (P : ProgramTables) (own : MethodInfo) (i : Instr) (found : Resolved) (j d : ℕ) (k : Kind) → IsRowOf 197 i.row → i.args ≡ args.Dims j d → found ≡ resolved.Kind k → IsRule P own i found (new_arrays P k d)
nest_rule P own i found j d k r a f = λ n. nest_is P own i found j d r a n ∙ ap (λ f. array_rule P (args.Dims j d) f (onward n)) f

a_kind : (P : ProgramTables) (j d : ℕ) (found : Resolved) (k : Script) (w u : Within) (e : Ending) → Runs (array_rule P (args.Dims j d) found k) w e u → (x : Kind) × (found ≡ resolved.Kind x)
a_kind P j d (resolved.Kind x) k w u e r = (x, refl)
a_kind P j d found k w u e r = absurd r

pub nest_found : (P : ProgramTables) (own : MethodInfo) (i : Instr) (found : Resolved) (j d : ℕ) (w : Within) (room : ℕ) → IsRowOf 197 i.row → i.args ≡ args.Dims j d → CanDo P own i found w room → (x : Kind) × (found ≡ resolved.Kind x)
nest_found P own i found j d w room r a can =
    a_kind P j d found (onward can.next) w can.left can.ending (subst (λ sc. Runs sc w can.ending can.left) (nest_is P own i found j d r a can.next) can.runs)

-- ---- the counts, the topmost first

abbrev AllInts : List Value → Type 0
AllInts [] = Unit {0}
AllInts (v ∷ vs) = OnInt v (λ n. Unit {0}) × AllInts vs

-- what the pops gather
abbrev gathered : List ℕ → List Value → List ℕ
gathered ns [] = ns
gathered ns (v ∷ vs) = gathered (count_in v ∷ ns) vs

abbrev one_negative : Bool → List Value → Bool
one_negative b [] = b
one_negative b (v ∷ vs) = one_negative (b || is_negative v) vs

-- what is done with them
abbrev pub by_counts : ProgramTables → Bool → List ℕ → (List ℕ → Script) → Script
by_counts P negative ns k = cond negative (throw_new P NegativeArraySizeException) (k ns)

ints_popped : (P : ProgramTables) (vs rest : List Value) (b : Bool) (ns : List ℕ) (k : List ℕ → Script) (h : Heap) (ls : List Value) (e : Ending) (u : Within) → Runs (with_counts P (length vs) b ns k) (view h ls (vs ++ rest)) e u → AllInts vs
ints_popped P [] rest b ns k h ls e u r = tt
ints_popped P (Int (pos n) ∷ vs) rest b ns k h ls e u r = (tt, ints_popped P vs rest (b || false) (n ∷ ns) k h ls e u r)
ints_popped P (Int (negsuc n) ∷ vs) rest b ns k h ls e u r = (tt, ints_popped P vs rest (b || true) (0 ∷ ns) k h ls e u r)
ints_popped P (Long n ∷ vs) rest b ns k h ls e u r = absurd r
ints_popped P (Null ∷ vs) rest b ns k h ls e u r = absurd r
ints_popped P (Ref a ∷ vs) rest b ns k h ls e u r = absurd r

counts_from : (P : ProgramTables) (vs rest : List Value) (b : Bool) (ns : List ℕ) (k : List ℕ → Script) (h : Heap) (ls : List Value) (e : Ending) (u : Within) → Runs (with_counts P (length vs) b ns k) (view h ls (vs ++ rest)) e u
    → Runs (by_counts P (one_negative b vs) (gathered ns vs) k) (view h ls rest) e u
counts_from P [] rest b ns k h ls e u r = r
counts_from P (Int (pos n) ∷ vs) rest b ns k h ls e u r = counts_from P vs rest (b || false) (n ∷ ns) k h ls e u r
counts_from P (Int (negsuc n) ∷ vs) rest b ns k h ls e u r = counts_from P vs rest (b || true) (0 ∷ ns) k h ls e u r
counts_from P (Long n ∷ vs) rest b ns k h ls e u r = absurd r
counts_from P (Null ∷ vs) rest b ns k h ls e u r = absurd r
counts_from P (Ref a ∷ vs) rest b ns k h ls e u r = absurd r

counts_to : (P : ProgramTables) (vs rest : List Value) (b : Bool) (ns : List ℕ) (k : List ℕ → Script) (h : Heap) (ls : List Value) (e : Ending) (u : Within) → AllInts vs → Runs (by_counts P (one_negative b vs) (gathered ns vs) k) (view h ls rest) e u
    → Runs (with_counts P (length vs) b ns k) (view h ls (vs ++ rest)) e u
counts_to P [] rest b ns k h ls e u a r = r
counts_to P (Int (pos n) ∷ vs) rest b ns k h ls e u a r = counts_to P vs rest (b || false) (n ∷ ns) k h ls e u a.1 r
counts_to P (Int (negsuc n) ∷ vs) rest b ns k h ls e u a r = counts_to P vs rest (b || true) (0 ∷ ns) k h ls e u a.1 r
counts_to P (Long n ∷ vs) rest b ns k h ls e u a r = absurd a.0
counts_to P (Null ∷ vs) rest b ns k h ls e u a r = absurd a.0
counts_to P (Ref a ∷ vs) rest b ns k h ls e u a2 r = absurd a2.0

-- ---- the same from the outermost

gathered_more : (ns : List ℕ) (vs : List Value) (v : Value) → gathered ns (vs ++ (v ∷ [])) ≡ count_in v ∷ gathered ns vs
gathered_more ns [] v = refl
gathered_more ns (x ∷ vs) v = gathered_more (count_in x ∷ ns) vs v

negative_more : (b : Bool) (vs : List Value) (v : Value) → one_negative b (vs ++ (v ∷ [])) ≡ (one_negative b vs || is_negative v)
negative_more b [] v = refl
negative_more b (x ∷ vs) v = negative_more (b || is_negative x) vs v

or_turned : (a b : Bool) → (a || b) ≡ (b || a)
or_turned true true = refl
or_turned true false = refl
or_turned false true = refl
or_turned false false = refl

gathered_all : (xs : List Value) → gathered [] (reverse xs) ≡ counts_in xs
gathered_all [] = refl
gathered_all (x ∷ xs) = ap (gathered []) (reverse-append (x ∷ []) xs) ∙ gathered_more [] (reverse xs) x ∙ ap (λ ns. count_in x ∷ ns) (gathered_all xs)

negative_any : (xs : List Value) → one_negative false (reverse xs) ≡ list_any is_negative xs
negative_any [] = refl
negative_any (x ∷ xs) = ap (one_negative false) (reverse-append (x ∷ []) xs) ∙ negative_more false (reverse xs) x ∙ ap (λ b. b || is_negative x) (negative_any xs) ∙ or_turned (list_any is_negative xs) (is_negative x)

-- ---- as they stand in the stack

-- the counts, from the outermost
abbrev pub counts_at : List Value → ℕ → ℕ → List Value
counts_at stack b depth = slice_range stack b depth

none_at : (stack : List Value) (b : ℕ) → counts_at stack b b ≡ []
none_at stack b = let z : b - b ≡ 0 = omega arith in ap (λ n. take n (drop b stack)) z

on_top : (stack : List Value) (b depth : ℕ) → b ≤ depth → depth ≤ length stack → top_first stack depth ≡ reverse (counts_at stack b depth) ++ top_first stack b
on_top stack b zero l m =
    let z : b ≡ 0 = omega arith in
    subst (λ b. [] ≡ reverse (counts_at stack b 0) ++ top_first stack b) (sym z) (sym (ap (λ xs. reverse xs ++ []) (none_at stack 0)))
on_top stack b (suc j) l m = by (lt_or_ge j b) (λ k. on_top stack b j k (omega arith))
  where
    one_more : b ≤ j → counts_at stack b (suc j) ≡ counts_at stack b j ++ (slice_index_or stack j Null ∷ [])
    one_more k = let n : j + 1 ≡ suc j = omega arith in subst (λ n. counts_at stack b n ≡ counts_at stack b j ++ (slice_index_or stack j Null ∷ [])) n (between_more stack b j Null k (omega arith))

    by : (j < b) ⊎ (b ≤ j) → (b ≤ j → top_first stack j ≡ reverse (counts_at stack b j) ++ top_first stack b) → top_first stack (suc j) ≡ reverse (counts_at stack b (suc j)) ++ top_first stack b
    by (inl k) below =
        let z : b ≡ suc j = omega arith in
        subst (λ b. top_first stack (suc j) ≡ reverse (counts_at stack b (suc j)) ++ top_first stack b) (sym z) (sym (ap (λ xs. reverse xs ++ top_first stack (suc j)) (none_at stack (suc j))))
    by (inr k) below =
        ap (λ vs. slice_index_or stack j Null ∷ vs) (below k)
        ∙ sym (ap (λ xs. reverse xs ++ top_first stack b) (one_more k) ∙ ap (λ xs. xs ++ top_first stack b) (reverse-append (counts_at stack b j) (slice_index_or stack j Null ∷ [])))

how_many : (stack : List Value) (b d depth : ℕ) → b + d ≡ depth → depth ≤ length stack → length (reverse (counts_at stack b depth)) ≡ d
how_many stack b d depth e m = length-reverse (counts_at stack b depth) ∙ length-between stack b depth m ∙ omega (arith, e)

abbrev pub IntsAt : List Value → ℕ → ℕ → Type 0
IntsAt stack b depth = AllInts (reverse (counts_at stack b depth))

-- what is done with the counts that stand there
abbrev pub by_stack : ProgramTables → List Value → (List ℕ → Script) → Script
by_stack P xs k = by_counts P (list_any is_negative xs) (counts_in xs) k

pub ints_at : (P : ProgramTables) (stack : List Value) (b d depth : ℕ) (k : List ℕ → Script) (h : Heap) (ls : List Value) (e : Ending) (u : Within) → b + d ≡ depth → depth ≤ length stack
    → Runs (with_counts P d false [] k) (view h ls (top_first stack depth)) e u → IntsAt stack b depth
ints_at P stack b d depth k h ls e u q m r =
    let rs = reverse (counts_at stack b depth) in
    ints_popped P rs (top_first stack b) false [] k h ls e u
    (subst (λ n. Runs (with_counts P n false [] k) (view h ls (rs ++ top_first stack b)) e u) (sym (how_many stack b d depth q m))
    (subst (λ vs. Runs (with_counts P d false [] k) (view h ls vs) e u) (on_top stack b depth (omega (arith, q)) m) r))

pub from_counts : (P : ProgramTables) (stack : List Value) (b d depth : ℕ) (k : List ℕ → Script) (h : Heap) (ls : List Value) (e : Ending) (u : Within) → b + d ≡ depth → depth ≤ length stack
    → Runs (with_counts P d false [] k) (view h ls (top_first stack depth)) e u → Runs (by_stack P (counts_at stack b depth) k) (view h ls (top_first stack b)) e u
from_counts P stack b d depth k h ls e u q m r =
    let xs = counts_at stack b depth in
    let rs = reverse xs in
    subst (λ ns. Runs (by_counts P (list_any is_negative xs) ns k) (view h ls (top_first stack b)) e u) (gathered_all xs)
    (subst (λ c. Runs (by_counts P c (gathered [] rs) k) (view h ls (top_first stack b)) e u) (negative_any xs)
    (counts_from P rs (top_first stack b) false [] k h ls e u
    (subst (λ n. Runs (with_counts P n false [] k) (view h ls (rs ++ top_first stack b)) e u) (sym (how_many stack b d depth q m))
    (subst (λ vs. Runs (with_counts P d false [] k) (view h ls vs) e u) (on_top stack b depth (omega (arith, q)) m) r))))

pub to_counts : (P : ProgramTables) (stack : List Value) (b d depth : ℕ) (k : List ℕ → Script) (h : Heap) (ls : List Value) (e : Ending) (u : Within) → b + d ≡ depth → depth ≤ length stack → IntsAt stack b depth
    → Runs (by_stack P (counts_at stack b depth) k) (view h ls (top_first stack b)) e u → Runs (with_counts P d false [] k) (view h ls (top_first stack depth)) e u
to_counts P stack b d depth k h ls e u q m a r =
    let xs = counts_at stack b depth in
    let rs = reverse xs in
    subst (λ vs. Runs (with_counts P d false [] k) (view h ls vs) e u) (sym (on_top stack b depth (omega (arith, q)) m))
    (subst (λ n. Runs (with_counts P n false [] k) (view h ls (rs ++ top_first stack b)) e u) (how_many stack b d depth q m)
    (counts_to P rs (top_first stack b) false [] k h ls e u a
    (subst (λ c. Runs (by_counts P c (gathered [] rs) k) (view h ls (top_first stack b)) e u) (sym (negative_any xs))
    (subst (λ ns. Runs (by_counts P (list_any is_negative xs) ns k) (view h ls (top_first stack b)) e u) (sym (gathered_all xs)) r))))

-- ---- there are as many operands as counts

enough : (P : ProgramTables) (d : ℕ) (b : Bool) (ns : List ℕ) (k : List ℕ → Script) (h : Heap) (ls vs : List Value) (e : Ending) (u : Within) → Runs (with_counts P d b ns k) (view h ls vs) e u → d ≤ length vs
enough P zero b ns k h ls vs e u r = omega arith
enough P (suc d) b ns k h ls [] e u r = absurd r
enough P (suc d) b ns k h ls (Int (pos n) ∷ vs) e u r = let l = enough P d (b || false) (n ∷ ns) k h ls vs e u r in omega (arith, l)
enough P (suc d) b ns k h ls (Int (negsuc n) ∷ vs) e u r = let l = enough P d (b || true) (0 ∷ ns) k h ls vs e u r in omega (arith, l)
enough P (suc d) b ns k h ls (Long n ∷ vs) e u r = absurd r
enough P (suc d) b ns k h ls (Null ∷ vs) e u r = absurd r
enough P (suc d) b ns k h ls (Ref a ∷ vs) e u r = absurd r

tops_length : (stack : List Value) (d : ℕ) → length (top_first stack d) ≡ d
tops_length stack zero = refl
tops_length stack (suc d) = let e = tops_length stack d in omega (arith, e)

pub as_many : (P : ProgramTables) (kind : Kind) (d depth : ℕ) (stack : List Value) (h : Heap) (ls : List Value) → CanBegin (new_arrays P kind d) (view h ls (top_first stack depth)) → d ≤ depth
as_many P kind d depth stack h ls (k, e, u, r) = let l = enough P d false [] (λ ns. nested kind ns k) h ls (top_first stack depth) e u r in let n = tops_length stack depth in omega (arith, l, n)
