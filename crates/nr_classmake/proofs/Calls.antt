-- The class of a list of calls is what the calls make, one after another.
use Rattle.std.proofs.Common.{◌≡◌, ℕ, Bool, true, List, [], ◌∷◌, ◌++◌, Option, Some, None, refl, sym, ap, ◌∙◌, append_assoc}
use Rattle.std.specs.Prelude.{ℤ, codes}
use Rattle.std.specs.List.{flat_map, filter_map, cons_option}
use Rattle.std.proofs.lemmas.List.{append-nil}
use Rattle.std.proofs.lemmas.List.Sums.{fold_push}
use Rattle.nr_prog.specs.declared.parts.ClassParts.{ClassParts}
use Rattle.nr_classmake.specs.Making.{and_then, nothing, class_ref, is_long_desc, field, method}
use Rattle.nr_classmake.specs.Items.{Item, Text, ClassNamed, class_items, with_parts, place_of, pool_of}
use Rattle.nr_classmake.specs.Calls.{Call, Place, AddInterface, AddField, AddMethod, value_item, constant_items, constant_in, code_items, named, items_of, interface_in, field_in, method_in, class_of_calls}
use Rattle.nr_classmake.specs.Classes.{both, new_of, new_parts, placed, place_in, after_call, after}
use Rattle.nr_classmake.proofs.Items.{has}
use Rattle.nr_classmake.proofs.Once.{add, adds, once_by_adds}
use Rattle.nr_classmake.proofs.Pools.{IsClosed}
use Rattle.nr_classmake.proofs.Adding.{Follows, two_have, has_added, has_adds, place_adds, closed_adds, class_follows, class_laid, item_laid, item_has, field_laid, method_laid, call_follows}
use Rattle.nr_classmake.proofs.Steps.{goes_ok}

-- the class with the members of these calls behind its own, over the pool of these items
abbrev grown : List Item → List Call → ClassParts → ClassParts
grown items calls c = record c {
  pool = pool_of items;
  interfaces = c.interfaces ++ filter_map (interface_in items) calls;
  fields = c.fields ++ filter_map (field_in items) calls;
  methods = c.methods ++ filter_map (method_in items) calls;
}

-- ---- one call

call_laid : (items : List Item) (call : Call) (c : ClassParts) → IsClosed items → c.pool ≡ pool_of items → after_call call c ≡ grown (adds items (named call)) (call ∷ []) c
call_laid items (Place item) c closed is =
    let made = ap (placed item) is ∙ item_laid items item closed in
    λ i. record c { pool = (made i).0; interfaces = sym (append-nil c.interfaces) i; fields = sym (append-nil c.fields) i; methods = sym (append-nil c.methods) i }
call_laid items (AddInterface name) c closed is =
    let made = ap (class_ref name) is ∙ class_laid items name closed in
    λ i. record c { pool = (made i).0; interfaces = c.interfaces ++ (made i).1 ∷ []; fields = sym (append-nil c.fields) i; methods = sym (append-nil c.methods) i }
call_laid items (AddField flags name desc value) c closed is =
    let made = ap (field flags name desc value) is ∙ field_laid items flags name desc value closed in
    λ i. record c { pool = (made i).0; interfaces = sym (append-nil c.interfaces) i; fields = c.fields ++ (made i).1 ∷ []; methods = sym (append-nil c.methods) i }
call_laid items (AddMethod flags name desc code) c closed is =
    let made = ap (method name desc code) is ∙ method_laid items flags name desc code closed in
    λ i. record c {
      pool = (made i).0;
      interfaces = sym (append-nil c.interfaces) i;
      fields = sym (append-nil c.fields) i;
      methods = c.methods ++ record { flags = flags; name = (made i).1.0; desc = (made i).1.1; code = code } ∷ [];
    }

-- ---- what a call names stays where it is, whatever calls follow

interface_stays : (items raw : List Item) (call : Call) → interface_in (adds items (named call)) call ≡ interface_in (adds (adds items (named call)) raw) call
interface_stays items raw (Place item) = refl
interface_stays items raw (AddInterface name) = ap Some (sym (place_adds (ClassNamed name) (adds items (class_items name)) raw (has_added (ClassNamed name) (add (Text name) items))))
interface_stays items raw (AddField flags name desc value) = refl
interface_stays items raw (AddMethod flags name desc code) = refl

constant_stays : (items raw : List Item) (long : Bool) (value : Option ℤ)
    → constant_in (adds items (constant_items long value)) long value ≡ constant_in (adds (adds items (constant_items long value)) raw) long value
constant_stays items raw long None = refl
constant_stays items raw long (Some n) =
    sym (place_adds (value_item long n) (adds items (constant_items long (Some n))) raw (has_added (value_item long n) (add (Text (codes "ConstantValue")) items)))

field_stays : (items raw : List Item) (call : Call) → field_in (adds items (named call)) call ≡ field_in (adds (adds items (named call)) raw) call
field_stays items raw (Place item) = refl
field_stays items raw (AddInterface name) = refl
field_stays items raw (AddField flags name desc value) =
    let two = add (Text desc) (add (Text name) items) in
    let rest = constant_items (is_long_desc desc) value in
    let h = two_have items name desc in
    let p = sym (place_adds (Text name) (adds two rest) raw (has_adds (Text name) two rest h.0)) in
    let q = sym (place_adds (Text desc) (adds two rest) raw (has_adds (Text desc) two rest h.1)) in
    let k = constant_stays two raw (is_long_desc desc) value in
    λ i. Some (record { flags = flags; name = p i; desc = q i; constant = k i })
field_stays items raw (AddMethod flags name desc code) = refl

method_stays : (items raw : List Item) (call : Call) → method_in (adds items (named call)) call ≡ method_in (adds (adds items (named call)) raw) call
method_stays items raw (Place item) = refl
method_stays items raw (AddInterface name) = refl
method_stays items raw (AddField flags name desc value) = refl
method_stays items raw (AddMethod flags name desc code) =
    let two = add (Text desc) (add (Text name) items) in
    let rest = code_items code in
    let h = two_have items name desc in
    let p = sym (place_adds (Text name) (adds two rest) raw (has_adds (Text name) two rest h.0)) in
    let q = sym (place_adds (Text desc) (adds two rest) raw (has_adds (Text desc) two rest h.1)) in
    λ i. Some (record { flags = flags; name = p i; desc = q i; code = code })

-- ---- calls one after another

adds_both : (items a b : List Item) → adds items (a ++ b) ≡ adds (adds items a) b
adds_both items [] b = refl
adds_both items (x ∷ a) b = adds_both (add x items) a b

joined_if : {X : Type 0} (o : Option X) (ys : List X) → cons_option o [] ++ ys ≡ cons_option o ys
joined_if None ys = refl
joined_if (Some x) ys = refl

-- members of a call, and of those behind it
joined : {X : Type 0} (xs : List X) (h k : Call → Option X) (call : Call) (calls : List Call) → h call ≡ k call
    → (xs ++ filter_map h (call ∷ [])) ++ filter_map k calls ≡ xs ++ filter_map k (call ∷ calls)
joined xs h k call calls e =
    append_assoc xs (filter_map h (call ∷ [])) (filter_map k calls) ∙ ap (λ l. xs ++ l) (joined_if (h call) (filter_map k calls) ∙ ap (λ o. cons_option o (filter_map k calls)) e)

calls_laid : (calls : List Call) (items : List Item) (c : ClassParts) → IsClosed items → c.pool ≡ pool_of items → after calls c ≡ grown (adds items (flat_map named calls)) calls c
calls_laid [] items c closed is =
    λ i. record c { pool = is i; interfaces = sym (append-nil c.interfaces) i; fields = sym (append-nil c.fields) i; methods = sym (append-nil c.methods) i }
calls_laid (call ∷ calls) items c closed is =
    let one = adds items (named call) in
    let rest = flat_map named calls in
    let all = adds one rest in
    ap (after calls) (call_laid items call c closed is)
    ∙ calls_laid calls one (grown one (call ∷ []) c) (closed_adds items (named call) closed (call_follows items call)) refl
    ∙ (λ i. record c {
      pool = pool_of all;
      interfaces = joined c.interfaces (interface_in one) (interface_in all) call calls (interface_stays items rest call) i;
      fields = joined c.fields (field_in one) (field_in all) call calls (field_stays items rest call) i;
      methods = joined c.methods (method_in one) (method_in all) call calls (method_stays items rest call) i;
    })
    ∙ ap (λ l. grown l (call ∷ calls) c) (sym (adds_both items (named call) rest))

follow_both : (a b items : List Item) → Follows items a → Follows (adds items a) b → Follows items (a ++ b)
follow_both [] b items f g = g
follow_both (x ∷ a) b items f g = (f.0, follow_both a b (add x items) f.1 g)

calls_follow : (items : List Item) (calls : List Call) → Follows items (flat_map named calls)
calls_follow items [] = tt
calls_follow items (call ∷ calls) = follow_both (named call) (flat_map named calls) items (call_follows items call) (calls_follow (adds items (named call)) calls)

-- ---- from the first call on

abbrev start : List ℕ → List ℕ → List Item
start name super = adds [] (class_items name ++ class_items super)

nil_closed : IsClosed []
nil_closed = record { each = tt }

start_closed : (name super : List ℕ) → IsClosed (start name super)
start_closed name super =
    closed_adds (adds [] (class_items name)) (class_items super) (closed_adds [] (class_items name) nil_closed (class_follows [] name)) (class_follows (adds [] (class_items name)) super)

this_there : (name super : List ℕ) → has (ClassNamed name) (start name super) ≡ true
this_there name super = has_adds (ClassNamed name) (adds [] (class_items name)) (class_items super) (has_added (ClassNamed name) (add (Text name) []))

super_there : (name super : List ℕ) → has (ClassNamed super) (start name super) ≡ true
super_there name super = has_added (ClassNamed super) (add (Text super) (adds [] (class_items name)))

both_laid : (name super : List ℕ) → both name super (pool_of []) ≡ (pool_of (start name super), (place_of (ClassNamed name) (start name super), place_of (ClassNamed super) (start name super)))
both_laid name super =
    let one = adds [] (class_items name) in
    let two = start name super in
    goes_ok (class_ref name) (λ t. and_then (class_ref super) (λ s. nothing (t, s))) (pool_of []) (pool_of one) (place_of (ClassNamed name) one) (class_laid [] name nil_closed)
    ∙ goes_ok (class_ref super) (λ s. nothing (place_of (ClassNamed name) one, s)) (pool_of one) (pool_of two) (place_of (ClassNamed super) two) (class_laid one super (closed_adds [] (class_items name) nil_closed (class_follows [] name)))
    ∙ ap (λ t. (pool_of two, (t, place_of (ClassNamed super) two))) (sym (place_adds (ClassNamed name) one (class_items super) (has_added (ClassNamed name) (add (Text name) []))))

-- the class of calls, over items that have all that they name
abbrev class_over : List ℕ → List ℕ → ℕ → List Call → List Item → ClassParts
class_over name super flags calls items = record {
  pool = pool_of items;
  flags = flags;
  this_class = place_of (ClassNamed name) items;
  super_class = place_of (ClassNamed super) items;
  interfaces = filter_map (interface_in items) calls;
  fields = filter_map (field_in items) calls;
  methods = filter_map (method_in items) calls;
}

new_laid : (name super : List ℕ) (flags : ℕ) → new_parts name super flags ≡ class_over name super flags [] (start name super)
unfolding pool_of
new_laid name super flags = ap (λ m. new_of m flags) (both_laid name super)

abbrev raw_of : List ℕ → List ℕ → List Call → List Item
raw_of name super calls = class_items name ++ class_items super ++ flat_map named calls

after_laid : (name super : List ℕ) (flags : ℕ) (calls : List Call) → after calls (new_parts name super flags) ≡ class_over name super flags calls (adds [] (raw_of name super calls))
after_laid name super flags calls =
    let raw = flat_map named calls in
    let all = adds (start name super) raw in
    let p = sym (place_adds (ClassNamed name) (start name super) raw (this_there name super)) in
    let q = sym (place_adds (ClassNamed super) (start name super) raw (super_there name super)) in
    ap (after calls) (new_laid name super flags)
    ∙ calls_laid calls (start name super) (class_over name super flags [] (start name super)) (start_closed name super) refl
    ∙ (λ i. record (class_over name super flags calls all) { this_class = p i; super_class = q i })

pub class_made : (name super : List ℕ) (flags : ℕ) (calls : List Call) → after calls (new_parts name super flags) ≡ class_of_calls name super flags calls
class_made name super flags calls = after_laid name super flags calls ∙ ap (class_over name super flags calls) (once_by_adds (raw_of name super calls))

pub class_next : (name super : List ℕ) (flags : ℕ) (calls : List Call) (call : Call)
    → after_call call (class_of_calls name super flags calls) ≡ class_of_calls name super flags (calls ++ call ∷ [])
class_next name super flags calls call =
    ap (after_call call) (sym (class_made name super flags calls))
    ∙ sym (fold_push (λ c k. after_call k c) (new_parts name super flags) calls call)
    ∙ class_made name super flags (calls ++ call ∷ [])

-- ---- places that calls give

flat_map-append : (f : Call → List Item) (xs ys : List Call) → flat_map f (xs ++ ys) ≡ flat_map f xs ++ flat_map f ys
flat_map-append f [] ys = refl
flat_map-append f (x ∷ xs) ys = ap (λ l. f x ++ l) (flat_map-append f xs ys) ∙ sym (append_assoc (f x) (flat_map f xs) (flat_map f ys))

raw_more : (name super : List ℕ) (calls more : List Call) (item : Item)
    → adds [] (raw_of name super (calls ++ Place item ∷ more)) ≡ adds (adds (adds [] (raw_of name super calls)) (with_parts item)) (flat_map named more)
raw_more name super calls more item =
    ap (adds (start name super)) (flat_map-append named calls (Place item ∷ more))
    ∙ adds_both (start name super) (flat_map named calls) (with_parts item ++ flat_map named more)
    ∙ adds_both (adds (start name super) (flat_map named calls)) (with_parts item) (flat_map named more)

pub place_made : (name super : List ℕ) (flags : ℕ) (calls more : List Call) (item : Item)
    → place_in (class_of_calls name super flags calls) item ≡ place_of item (items_of name super (calls ++ Place item ∷ more))
place_made name super flags calls more item =
    let all = adds [] (raw_of name super calls) in
    let closed = closed_adds (start name super) (flat_map named calls) (start_closed name super) (calls_follow (start name super) calls) in
    ap (λ items. place_in (class_over name super flags calls items) item) (sym (once_by_adds (raw_of name super calls)))
    ∙ ap (λ m. m.1) (item_laid all item closed)
    ∙ sym (place_adds item (adds all (with_parts item)) (flat_map named more) (item_has all item))
    ∙ ap (place_of item) (sym (raw_more name super calls more item) ∙ once_by_adds (raw_of name super (calls ++ Place item ∷ more)))
