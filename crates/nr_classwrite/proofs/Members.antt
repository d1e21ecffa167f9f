-- What is written of fields and methods is their text.
use Rattle.std.proofs.Common.{◌≡◌, ℕ, ◌+◌, ◌*◌, ◌<◌, ◌^◌, Bool, true, false, cond, eqb, List, [], ◌∷◌, ◌++◌, length, Option, Some, None, refl, sym, ap, subst, ◌∙◌, append_assoc, length-append, arith}
use Rattle.std.specs.Prelude.{codes}
use Rattle.std.specs.List.{AllByRecursion, flat_map}
use Rattle.std.specs.Int.{w16, w32, to_be_bytes}
use Rattle.std.proofs.lemmas.Bool.{eqb-true}
use Rattle.std.proofs.lemmas.List.{append-nil}
use Rattle.nr_base.specs.Grammar.{give, Then, Times, Each}
use Rattle.nr_base.proofs.Lists.{made}
use Rattle.nr_prog.specs.declared.pool.PoolEntry.{PoolEntry}
use Rattle.nr_prog.specs.declared.member.Field.{Field}
use Rattle.nr_prog.specs.declared.member.Handler.{Handler}
use Rattle.nr_prog.specs.declared.member.Code.{Code}
use Rattle.nr_prog.specs.declared.member.Method.{Method}
use Rattle.nr_classread.specs.Numbers.{u2, u4}
use Rattle.nr_classread.specs.PoolText.{list}
use Rattle.nr_classread.specs.AttributeText.{is_named, IsAttribute, IsRead, attribute}
use Rattle.nr_classread.specs.MemberText.{constant_value, index_or_zero, field, handler, kept, stack_map_table, code_contents, code, method}
use Rattle.nr_classwrite.specs.declared.names.AttrNames.{AttrNames}
use Rattle.nr_classwrite.specs.Names.{or_zero}
use Rattle.nr_classwrite.specs.Faults.{maps_len, contents_len}
use Rattle.nr_classwrite.specs.Text.{two, four, list_text, attribute_text, field_text, handler_text, maps_text, contents_text, code_text, method_text}
use Rattle.nr_classwrite.specs.Fits.{FieldFits, HandlerFits, ContentsFit, CodeFits, MethodFits, HasRoom, IsRoomy, MapsFit}

-- one text behind the other
pub joined : {A B : Type 0} {G : A → List ℕ → Type 0} {H : A → B → List ℕ → Type 0} {y : B} (x : A) (a b : List ℕ) → G x a → H x y b → Then G H y (a ++ b)
joined x a b g h = record { value = x; front = a; back = b; first = g; second = h; whole = refl }

pub two_spelled : (n : ℕ) → n < 2 ^ 16 → u2 n (two n)
unfolding two
two_spelled n lt = (lt, refl)

pub four_spelled : (n : ℕ) → n < 2 ^ 32 → u4 n (four n)
unfolding four
four_spelled n lt = (lt, refl)

length-two : (n : ℕ) → length (two n) ≡ 2
unfolding two
length-two n = refl

length-four : (n : ℕ) → length (four n) ≡ 4
unfolding four
length-four n = refl

-- ---- lists

each_spelled : {A : Type 0} (G : A → List ℕ → Type 0) (text : A → List ℕ) (Fits : A → Type 0) → ((x : A) → Fits x → G x (text x)) → (xs : List A) → AllByRecursion Fits xs → Each G xs (flat_map text xs)
each_spelled G text Fits one [] fits = refl
each_spelled G text Fits one (x ∷ xs) fits = (text x, flat_map text xs, one x fits.0, each_spelled G text Fits one xs fits.1, refl)

pub list_spelled : {A : Type 0} (G : A → List ℕ → Type 0) (text : A → List ℕ) (Fits : A → Type 0) → ((x : A) → Fits x → G x (text x)) → (xs : List A) → length xs < 2 ^ 16 → AllByRecursion Fits xs → list G xs (list_text text xs)
list_spelled G text Fits one xs few fits = joined (length xs) (two (length xs)) (flat_map text xs) (two_spelled (length xs) few) (refl, each_spelled G text Fits one xs fits)

-- ---- attributes

is_attribute : (name len : ℕ) (contents : List ℕ) → name < 2 ^ 16 → len < 2 ^ 32 → length contents ≡ len → IsAttribute name contents (two name ++ (four len ++ contents))
unfolding two four
is_attribute name len contents n l size = record {
  name_fits = n;
  length_fits = omega (arith, l, size);
  whole = ap (λ z. to_be_bytes w16 name ++ (to_be_bytes w32 z ++ contents)) (sym size);
}

-- a count and the one attribute
pub one_spelled : {A B : Type 0} (pool : List PoolEntry) (known : List ℕ) (inside : A → List ℕ → Type 0) (f : Option A → B) (x : A) (name len : ℕ) (contents : List ℕ)
    → is_named pool known name ≡ true → name < 2 ^ 16 → len < 2 ^ 32 → length contents ≡ len → inside x contents
    → Then u2 (λ count. Then (Times (attribute pool known inside) count None) (λ y. give (f y))) (f (Some x)) (attribute_text name len ++ contents)
one_spelled pool known inside f x name len contents named n l size value =
    let text : List ℕ = two name ++ (four len ++ contents) in
    let grouped : attribute_text name len ++ contents ≡ two 1 ++ (two name ++ (four len ++ contents))
    = append_assoc (two 1) (two name ++ four len) contents ∙ ap (λ z. two 1 ++ z) (append_assoc (two name) (four len) contents) in
    let read : IsRead pool known inside x (two name ++ (four len ++ contents)) = record { name = name; contents = contents; attribute = is_attribute name len contents n l size; named = named; value = value } in
    subst (λ z. Then u2 (λ count. Then (Times (attribute pool known inside) count None) (λ y. give (f y))) (f (Some x)) z) (sym grouped)
    (joined 1 (two 1) (two name ++ (four len ++ contents)) (two_spelled 1 (omega arith))
    (made {f = f} (Some x) (two name ++ (four len ++ contents)) (record { value = Some x; front = two name ++ (four len ++ contents); back = []; first = read; second = (refl, refl); whole = sym (append-nil (two name ++ (four len ++ contents))) })))

-- the count 0
pub none_spelled : {A B : Type 0} (pool : List PoolEntry) (known : List ℕ) (inside : A → List ℕ → Type 0) (f : Option A → B)
    → Then u2 (λ count. Then (Times (attribute pool known inside) count None) (λ y. give (f y))) (f None) (two 0)
none_spelled pool known inside f =
    subst (λ z. Then u2 (λ count. Then (Times (attribute pool known inside) count None) (λ y. give (f y))) (f None) z) (append-nil (two 0))
    (joined 0 (two 0) [] (two_spelled 0 (omega arith)) (made {f = f} None [] (refl, refl)))

-- ---- fields

-- the index of a name that is needed
pub record IsIndex (pool : List PoolEntry) (known : List ℕ) (index : Option ℕ) : Type 0 where
  pub named : is_named pool known (or_zero index) ≡ true
  pub fits : or_zero index < 2 ^ 16

abbrev at_constant : Field → Option ℕ → Field
at_constant f constant = record { flags = f.flags; name = f.name; desc = f.desc; constant = index_or_zero constant }

constant_spelled : (pool : List PoolEntry) (names : AttrNames) (f : Field) (b : Bool) → eqb f.constant 0 ≡ b → (b ≡ false → IsIndex pool (codes "ConstantValue") names.constant) → f.constant < 2 ^ 16
    → Then u2 (λ count. Then (Times (constant_value pool) count None) (λ constant. give (at_constant f constant))) f (cond b (two 0) (attribute_text (or_zero names.constant) 2 ++ two f.constant))
constant_spelled pool names f true e index fits =
    let zero_is : f.constant ≡ 0 = eqb-true _ _ e in
    let same : at_constant f None ≡ f = ap (λ (z : ℕ). let g : Field = record { flags = f.flags; name = f.name; desc = f.desc; constant = z } in g) (sym zero_is) in
    subst (λ (z : Field). Then u2 (λ count. Then (Times (constant_value pool) count None) (λ constant. give (at_constant f constant))) z (two 0)) same
    (none_spelled pool (codes "ConstantValue") u2 (at_constant f))
constant_spelled pool names f false e index fits =
    let i = index refl in
    one_spelled pool (codes "ConstantValue") u2 (at_constant f) f.constant (or_zero names.constant) 2 (two f.constant) i.named i.fits (omega arith) (length-two f.constant) (two_spelled f.constant fits)

pub field_spelled : (pool : List PoolEntry) (names : AttrNames) (f : Field) → FieldFits f → (eqb f.constant 0 ≡ false → IsIndex pool (codes "ConstantValue") names.constant) → field pool f (field_text names f)
field_spelled pool names f h index =
    joined f.flags (two f.flags) _ (two_spelled f.flags h.flags)
    (joined f.name (two f.name) _ (two_spelled f.name h.name)
    (joined f.desc (two f.desc) _ (two_spelled f.desc h.desc)
    (constant_spelled pool names f (eqb f.constant 0) refl index h.constant)))

-- ---- code

handler_spelled : (h : Handler) → HandlerFits h → handler h (handler_text h)
handler_spelled h f =
    joined h.start (two h.start) _ (two_spelled h.start f.start)
    (joined h.end (two h.end) _ (two_spelled h.end f.end)
    (joined h.handler (two h.handler) _ (two_spelled h.handler f.handler)
    (made h.catch_type (two h.catch_type) (two_spelled h.catch_type f.catch_type))))

abbrev at_maps : Code → Option (List ℕ) → Code
at_maps c maps = record { max_stack = c.max_stack; max_locals = c.max_locals; bytes = c.bytes; handlers = c.handlers; maps = maps }

abbrev pub NeedsMaps : List PoolEntry → AttrNames → Option (List ℕ) → Type 0
NeedsMaps pool names None = Unit {0}
NeedsMaps pool names (Some maps) = IsIndex pool (codes "StackMapTable") names.maps

maps_spelled : (pool : List PoolEntry) (names : AttrNames) (c : Code) (maps : Option (List ℕ)) → MapsFit maps → NeedsMaps pool names maps
    → Then u2 (λ count. Then (Times (stack_map_table pool) count None) (λ z. give (at_maps c z))) (at_maps c maps) (maps_text names maps)
maps_spelled pool names c None fits index = none_spelled pool (codes "StackMapTable") kept (at_maps c)
maps_spelled pool names c (Some maps) fits index = one_spelled pool (codes "StackMapTable") kept (at_maps c) maps (or_zero names.maps) (length maps) maps index.named index.fits fits refl refl

contents_spelled : (pool : List PoolEntry) (names : AttrNames) (c : Code) → ContentsFit c → HasRoom c → MapsFit c.maps → NeedsMaps pool names c.maps → code_contents pool c (contents_text names c)
contents_spelled pool names c f room maps index =
    joined c.max_stack (two c.max_stack) _ (two_spelled c.max_stack f.stack)
    (joined c.max_locals (two c.max_locals) _ (two_spelled c.max_locals f.locals)
    (joined (length c.bytes) (four (length c.bytes)) _ (four_spelled (length c.bytes) room.bytes)
    (joined c.bytes c.bytes _ (refl, refl)
    (joined c.handlers (list_text handler_text c.handlers) _ (list_spelled handler handler_text HandlerFits handler_spelled c.handlers room.handlers f.handlers)
    (maps_spelled pool names c c.maps maps index)))))

-- ---- how long contents are

length-handlers : (hs : List Handler) → length (flat_map handler_text hs) ≡ 8 * length hs
length-handlers [] = refl
length-handlers (h ∷ hs) =
    omega (
      arith,
      length-append (handler_text h) (flat_map handler_text hs),
      length-handlers hs,
      length-append (two h.start) (two h.end ++ (two h.handler ++ two h.catch_type)),
      length-append (two h.end) (two h.handler ++ two h.catch_type),
      length-append (two h.handler) (two h.catch_type),
      length-two h.start,
      length-two h.end,
      length-two h.handler,
      length-two h.catch_type,
    )

length-maps : (names : AttrNames) (maps : Option (List ℕ)) → length (maps_text names maps) ≡ 2 + maps_len maps
length-maps names None = length-two 0
length-maps names (Some maps) =
    omega (
      arith,
      length-append (attribute_text (or_zero names.maps) (length maps)) maps,
      length-append (two 1) (two (or_zero names.maps) ++ four (length maps)),
      length-append (two (or_zero names.maps)) (four (length maps)),
      length-two 1,
      length-two (or_zero names.maps),
      length-four (length maps),
    )

length-contents : (names : AttrNames) (c : Code) → length (contents_text names c) ≡ contents_len c
length-contents names c =
    let handlers : List ℕ = list_text handler_text c.handlers in
    omega (
      arith,
      length-append (two c.max_stack) (two c.max_locals ++ (four (length c.bytes) ++ (c.bytes ++ (list_text handler_text c.handlers ++ maps_text names c.maps)))),
      length-append (two c.max_locals) (four (length c.bytes) ++ (c.bytes ++ (list_text handler_text c.handlers ++ maps_text names c.maps))),
      length-append (four (length c.bytes)) (c.bytes ++ (list_text handler_text c.handlers ++ maps_text names c.maps)),
      length-append c.bytes (list_text handler_text c.handlers ++ maps_text names c.maps),
      length-append (list_text handler_text c.handlers) (maps_text names c.maps),
      length-append (two (length c.handlers)) (flat_map handler_text c.handlers),
      length-two c.max_stack,
      length-two c.max_locals,
      length-four (length c.bytes),
      length-two (length c.handlers),
      length-handlers c.handlers,
      length-maps names c.maps,
    )

-- ---- methods

abbrev at_code : Method → Option Code → Method
at_code m c = record { flags = m.flags; name = m.name; desc = m.desc; code = c }

abbrev pub NeedsNames : List PoolEntry → AttrNames → Option Code → Type 0
NeedsNames pool names None = Unit {0}
NeedsNames pool names (Some c) = IsIndex pool (codes "Code") names.code × NeedsMaps pool names c.maps

code_spelled : (pool : List PoolEntry) (names : AttrNames) (m : Method) (c : Option Code) → CodeFits c → IsRoomy c → NeedsNames pool names c
    → Then u2 (λ count. Then (Times (code pool) count None) (λ z. give (at_code m z))) (at_code m c) (code_text names c)
code_spelled pool names m None fits room index = none_spelled pool (codes "Code") (code_contents pool) (at_code m)
code_spelled pool names m (Some c) fits room index =
    one_spelled pool (codes "Code") (code_contents pool) (at_code m) c (or_zero names.code) (contents_len c) (contents_text names c) index.0.named index.0.fits room.0.contents (length-contents names c)
    (contents_spelled pool names c fits room.0 room.2 index.1)

pub method_spelled : (pool : List PoolEntry) (names : AttrNames) (m : Method) → MethodFits m → IsRoomy m.code → NeedsNames pool names m.code → method pool m (method_text names m)
method_spelled pool names m h room index =
    joined m.flags (two m.flags) _ (two_spelled m.flags h.flags)
    (joined m.name (two m.name) _ (two_spelled m.name h.name)
    (joined m.desc (two m.desc) _ (two_spelled m.desc h.desc)
    (code_spelled pool names m m.code h.code room index)))
