-- Local variables that are filled up with Top.
use Rattle.std.proofs.Common.{◌≡◌, ℕ, zero, suc, ◌<◌, ◌≤◌, List, [], ◌∷◌, ◌++◌, length, refl, ap, sym, ◌∙◌, arith, not, ◌&&◌, ◌||◌}
use Rattle.nr_linked.specs.declared.program.tables.MethodInfo.{MethodInfo}
use Rattle.nr_linked.specs.declared.program.tables.ProgramTables.{ProgramTables}
use Rattle.nr_linked.specs.declared.program.types.VFrame.{VFrame}
use Rattle.nr_linked.specs.declared.program.types.VType.{VType}
use Rattle.nr_linked.specs.declared.program.types.VType.TheVariants.{Top}
use Rattle.nr_linked.specs.TypingFrames.{TypeFrame, padded, turned, is_type_assignable, locals_fit, operands_fit, frame_fits}
use Rattle.nr_linked.specs.WellTyped.{mapped_frame}

pub padded_more : (n : ℕ) (ts : List VType) → length ts < n → padded n ts ≡ padded n (ts ++ Top ∷ [])
padded_more zero ts l = absurd (omega arith)
padded_more (suc n) [] l = refl
padded_more (suc n) (t ∷ ts) l = ap (λ ts. t ∷ ts) (padded_more n ts (omega arith))

pub padded_enough : (n : ℕ) (ts : List VType) → n ≤ length ts → padded n ts ≡ ts
padded_enough zero ts l = refl
padded_enough (suc n) [] l = absurd (omega arith)
padded_enough (suc n) (t ∷ ts) l = ap (λ ts. t ∷ ts) (padded_enough n ts (omega arith))

padded_fit : (P : ProgramTables) (n : ℕ) (ts us : List VType) → locals_fit P ts (padded n us) ≡ locals_fit P ts us
padded_fit P zero ts us = refl
padded_fit P (suc n) [] [] = padded_fit P n [] []
padded_fit P (suc n) (t ∷ ts) [] = padded_fit P n ts [] ∙ none ts
  where
    none : (ts : List VType) → locals_fit P ts [] ≡ locals_fit P (t ∷ ts) []
    none ts = refl
padded_fit P (suc n) [] (u ∷ us) = ap (λ z. is_type_assignable P Top u && z) (padded_fit P n [] us)
padded_fit P (suc n) (t ∷ ts) (u ∷ us) = ap (λ z. is_type_assignable P t u && z) (padded_fit P n ts us)

-- a frame fits a frame map's where it fits the frame as it stands there
pub map_fits : (P : ProgramTables) (f : TypeFrame) (m : MethodInfo) (v : VFrame) → frame_fits P f (mapped_frame m v) ≡ frame_fits P f (turned v)
map_fits P f m v = ap (λ z. z && (operands_fit P f.operands (turned v).operands && (not f.this_uninit || v.this_uninit))) (padded_fit P m.max_locals f.locals v.locals)

pub fit_padded : (P : ProgramTables) (n : ℕ) (ts us : List VType) → locals_fit P (padded n ts) us ≡ locals_fit P ts us
fit_padded P zero ts us = refl
fit_padded P (suc n) [] [] = refl
fit_padded P (suc n) (t ∷ ts) [] = refl
fit_padded P (suc n) [] (u ∷ us) = ap (λ z. is_type_assignable P Top u && z) (fit_padded P n [] us)
fit_padded P (suc n) (t ∷ ts) (u ∷ us) = ap (λ z. is_type_assignable P t u && z) (fit_padded P n ts us)

-- frames fit where they fit when they are filled up
pub mapped_fit : (P : ProgramTables) (m : MethodInfo) (v w : VFrame) → frame_fits P (turned v) (turned w) ≡ frame_fits P (mapped_frame m v) (mapped_frame m w)
mapped_fit P m v w = sym (map_fits P (mapped_frame m v) m w
    ∙ ap (λ z. z && (operands_fit P (turned v).operands (turned w).operands && (not v.this_uninit || w.this_uninit))) (fit_padded P m.max_locals v.locals w.locals))
