-- What a class has that keeps the form and for which a file has room and names.
use Rattle.std.proofs.Common.{◌≡◌, ℕ, ◌<◌, ◌≤◌, ◌^◌, Bool, true, false, cond, ltb, leb, List, [], ◌∷◌, length, Option, Some, None, refl, arith}
use Rattle.std.specs.Prelude.{◌&&◌, All}
use Rattle.std.specs.Option.{option_or}
use Rattle.std.proofs.lemmas.Bool.{ltb-false, leb-true}
use Rattle.std.proofs.lemmas.List.Elements.{All-nil, All-cons}
use Rattle.nr_prog.specs.declared.member.Method.{Method}
use Rattle.nr_prog.specs.declared.member.Code.{Code}
use Rattle.nr_prog.specs.declared.parts.ClassParts.{ClassParts}
use Rattle.nr_prog.specs.Members.{is_plain, is_code_sized}
use Rattle.nr_prog.specs.Form.{IsFormed, IsWithinBounds, handler_count}
use Rattle.nr_classwrite.specs.declared.fault.Part.{Part}
use Rattle.nr_classwrite.specs.declared.fault.Part.TheVariants as parts
use Rattle.nr_classwrite.specs.declared.fault.WriteFault.{WriteFault}
use Rattle.nr_classwrite.specs.declared.fault.WriteFault.TheVariants as faults
use Rattle.nr_classwrite.specs.declared.names.AttrNames.{AttrNames}
use Rattle.nr_classwrite.specs.Names.{names_of}
use Rattle.nr_classwrite.specs.Faults.{first_fault, too_long, code_fault, attribute_fault, method_fault, class_fault, contents_len}
use Rattle.nr_classwrite.specs.Fits.{IsSmall, HasSmall, HasRoom, IsRoomy, MapsFit, HasCounts}

-- ---- none of some faults

pub neither : (a b : Option WriteFault) → option_or a b ≡ None → (a ≡ None) × (b ≡ None)
neither None b e = (refl, e)
neither (Some f) b e = absurd cc

not_over : (part : Part) (most n : ℕ) (b : Bool) → ltb most n ≡ b → cond b (Some (faults.TooLong part n)) None ≡ None → n ≤ most
not_over part most n true h e = absurd cc
not_over part most n false h e = ltb-false _ _ h

pub within_most : (part : Part) (most n : ℕ) → too_long part most n ≡ None → n ≤ most
within_most part most n e = not_over part most n (ltb most n) refl e

pub each_none : {X : Type 0} (fault : X → Option WriteFault) (xs : List X) → first_fault fault xs ≡ None → All (λ x. fault x ≡ None) xs
unfolding first_fault
each_none fault [] e = All-nil (λ x. fault x ≡ None)
each_none fault (x ∷ xs) e =
    let n = neither (fault x) (first_fault fault xs) e in
    All-cons (λ x. fault x ≡ None) x xs n.0 (each_none fault xs n.1)

-- ---- methods that keep the form

second : (a b : Bool) → (a && b) ≡ true → b ≡ true
second true b e = e
second false b e = absurd cc

sized_small : (code : Option Code) → is_code_sized code ≡ true → handler_count code ≤ 2 ^ 16 → HasSmall code
sized_small None e few = tt
sized_small (Some code) e few = record { bytes = leb-true _ _ (second (ltb 0 (length code.bytes)) (leb (length code.bytes) 65535) e); handlers = omega (arith, few) }

plain_sized : (m : Method) → is_plain m ≡ true → is_code_sized m.code ≡ true
unfolding is_plain
plain_sized m e = second _ (is_code_sized m.code) e

pub methods_small : (c : ClassParts) → IsFormed c → IsWithinBounds c → All (λ m. HasSmall m.code) c.methods
methods_small c formed bounds = λ k d lt. sized_small _ (plain_sized _ ((formed.methods k d lt).plain)) (bounds.handlers k d lt)

-- ---- room

maps_fit : (maps : Option (List ℕ)) (code : Code) → code.maps ≡ maps → contents_len code < 2 ^ 32 → MapsFit maps
maps_fit None code e lt = tt
maps_fit (Some maps) code e lt = let lt' = rw e at lt in omega (arith, lt')

has_room : (names : AttrNames) (code : Code) → code_fault names code ≡ None → IsSmall code → HasRoom code × IsSmall code × MapsFit code.maps
unfolding code_fault
has_room names code none small =
    let a = neither _ _ none in
    let b = neither _ _ a.1 in
    let c = neither _ _ b.1 in
    let d = neither _ _ c.1 in
    let contents = within_most parts.Attributes 4294967295 (contents_len code) b.0 in (
      record {
        contents = omega (arith, contents);
        bytes = omega (arith, within_most parts.Code 4294967295 (length code.bytes) c.0);
        handlers = omega (arith, within_most parts.Handlers 65535 (length code.handlers) d.0);
      },
      small,
      maps_fit code.maps code refl (omega (arith, contents)),
    )

roomy : (names : AttrNames) (code : Option Code) → attribute_fault names code ≡ None → HasSmall code → IsRoomy code
roomy names None none small = tt
roomy names (Some code) none small = has_room names code none small

pub counts : (c : ClassParts) → IsFormed c → IsWithinBounds c → class_fault c ≡ None → HasCounts c
unfolding class_fault
counts c formed bounds none =
    let a = neither _ _ none in
    let b = neither _ _ a.1 in
    let f = neither _ _ b.1 in
    let g = neither _ _ f.1 in
    let m = neither _ _ g.1 in
    let each = each_none (method_fault (names_of c.pool)) c.methods m.1 in
    let small = methods_small c formed bounds in
    record {
      pool = omega (arith, within_most parts.Pool 65534 (length c.pool) a.0);
      texts = bounds.texts;
      interfaces = omega (arith, within_most parts.Interfaces 65535 (length c.interfaces) b.0);
      fields = omega (arith, within_most parts.Fields 65535 (length c.fields) f.0);
      methods = omega (arith, within_most parts.Methods 65535 (length c.methods) m.0);
      code = λ k d lt. roomy (names_of c.pool) _ (each k d lt) (small k d lt);
    }
