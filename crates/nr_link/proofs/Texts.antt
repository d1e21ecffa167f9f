-- The names and descriptors of a class's methods are names.
use Rattle.std.proofs.Common.{◌≡◌, ℕ, List, refl}
use Rattle.std.specs.Prelude.{Option, Some, None, All, IsSomeAnd}
use Rattle.nr_base.specs.ModifiedUtf8.{IsModifiedUtf8}
use Rattle.nr_base.proofs.DescTexts.{desc_utf, method_utf}
use Rattle.nr_prog.specs.declared.member.Field.{Field}
use Rattle.nr_prog.specs.declared.member.Method.{Method}
use Rattle.nr_prog.specs.declared.parts.ClassParts.{ClassParts}
use Rattle.nr_prog.specs.declared.pool.PoolEntry.{PoolEntry}
use Rattle.nr_prog.specs.Form.{IsFieldFormed, IsFormed, IsMethodFormed}
use Rattle.nr_prog.specs.Legal.{IsFieldDesc, IsFieldText, IsMethodDesc, IsMethodText}
use Rattle.nr_prog.specs.Pool.{text_at}
use Rattle.nr_linkrules.specs.Outline.{some_text}
use Rattle.nr_link.specs.Entries.{HasFieldTexts, HasTexts}

has_texts : (pool : List PoolEntry) (m : Method) → IsMethodFormed pool m → HasTexts pool m
has_texts pool m h = record { name = of_name (text_at pool m.name) h.name; desc = of_desc (text_at pool m.desc) h.desc }
  where
    of_name : (t : Option (List ℕ)) → IsSomeAnd t IsMethodText → IsModifiedUtf8 (some_text t)
    of_name None h = absurd h
    of_name (Some text) h = h.0

    of_desc : (t : Option (List ℕ)) → IsSomeAnd t IsMethodDesc → IsModifiedUtf8 (some_text t)
    of_desc None h = absurd h
    of_desc (Some text) h = method_utf h.0 text h.1

pub have_texts : (c : ClassParts) → IsFormed c → All (HasTexts c.pool) c.methods
have_texts c h = each c.methods h.methods
  where
    each : (ms : List Method) → All (IsMethodFormed c.pool) ms → All (HasTexts c.pool) ms
    each ms all = λ k d lt. has_texts c.pool (Rattle.std.proofs.Common.get_or ms k d) (all k d lt)

-- ---- fields

has_field_texts : (pool : List PoolEntry) (f : Field) → IsFieldFormed pool f → HasFieldTexts pool f
has_field_texts pool f h = record { name = of_name (text_at pool f.name) h.name; desc = of_desc (text_at pool f.desc) h.desc }
  where
    of_name : (t : Option (List ℕ)) → IsSomeAnd t IsFieldText → IsModifiedUtf8 (some_text t)
    of_name None h = absurd h
    of_name (Some text) h = h.0

    of_desc : (t : Option (List ℕ)) → IsSomeAnd t IsFieldDesc → IsModifiedUtf8 (some_text t)
    of_desc None h = absurd h
    of_desc (Some text) h = desc_utf h.0 text h.1

pub have_field_texts : (c : ClassParts) → IsFormed c → All (HasFieldTexts c.pool) c.fields
have_field_texts c h = each c.fields h.fields
  where
    each : (fs : List Field) → All (IsFieldFormed c.pool) fs → All (HasFieldTexts c.pool) fs
    each fs all = λ k d lt. has_field_texts c.pool (Rattle.std.proofs.Common.get_or fs k d) (all k d lt)
