-- Attributes of which only the name is asked (JVMS 4.7).
use Rattle.std.proofs.Common.{◌≡◌, ℕ, ◌^◌, ◌<◌, List, ◌++◌, length, Result, Ok, refl, sym, ap, subst}
use Rattle.std.specs.Prelude.{IsSome}
use Rattle.std.specs.List.{AllByRecursion}
use Rattle.class_pool.specs.Pool.{Slots, utf8_at, is_utf8_at}
use Rattle.class_file.specs.declared.refusal.ReadRefusal.{ReadRefusal}
use Rattle.class_file.specs.declared.refusal.ReadRefusal.TheVariants.{BadShape}
use Rattle.class_file.specs.Layout.{u2, u4, counted, Attribute, attribute_bytes}
use Rattle.class_file.specs.Relation.{FitsU2, FitsAttribute, IsSkippable}
use Rattle.byte_read.specs.Reading.{◌>>=◌}
use Rattle.class_file.specs.Reading.{counted_at}
use Rattle.class_file.specs.ReadingMembers.{text_at, info_at, skip_at, skipped, skip_all_at}
use Rattle.byte_read.proofs.Steps.{under}
use Rattle.class_file.proofs.readers.Parts.{Reads, itself, u2_reads, u4_reads, slice_reads, first, last, tested, alike, reshaped}
use Rattle.class_file.proofs.readers.Lists.{counted_reads, split, merged}

pub text_reads : (pool : Slots) → Reads (text_at pool) u2 itself (λ index. FitsU2 index × IsSome (utf8_at pool index))
unfolding text_at
text_reads pool = tested u2_reads (λ index. is_utf8_at pool index) BadShape tt

-- bytes after their length
abbrev pub sized : List ℕ → List ℕ
sized info = u4 (length info) ++ info

pub info_reads : Reads info_at sized itself (λ info. length info < 2 ^ 32)
unfolding info_at
info_reads =
    reshaped (first u4_reads (λ size. slice_reads size)) (λ p. p.1)
    (λ p good. (ap (λ (n : ℕ). u4 n ++ p.1) (sym good.1), refl, subst (λ (n : ℕ). n < 2 ^ 32) (sym good.1) good.0))
    (λ info. (length info, info))
    (λ info good. (refl, refl, (good, refl)))

-- ---- attributes that are skipped

abbrev nothing : {A : Type 0} → A → Unit {0}
nothing a = tt

skipped_is : (pool : Slots) (before : Unit {0}) (bytes : List ℕ) → skipped pool before bytes ≡ (text_at pool bytes >>= λ name. info_at name.1 >>= λ info. Ok (tt, info.1))
unfolding skip_at
skipped_is pool before bytes =
    sym (under (text_at pool bytes) _ _ _ (λ name. under (info_at name.1) _ _ _ (λ info. refl)))

pub skip_reads : (pool : Slots) (before : Unit {0}) → Reads (skipped pool before) attribute_bytes nothing (λ a. FitsAttribute a × IsSkippable pool a)
skip_reads pool before =
    alike
    (reshaped (first (text_reads pool) (λ name. last info_reads nothing)) (λ p. record { name = p.0; info = p.1 })
    (λ p good. (refl, refl, (record { name = good.0.0; info = good.1 }, good.0.1)))
    (λ a. (a.name, a.info))
    (λ a good. (refl, refl, ((good.0.name, good.1), good.0.info))))
    (skipped_is pool before)

-- the attributes of a class, or of code
abbrev pub AreSkipped : Slots → List Attribute → Type 0
AreSkipped pool attributes = FitsU2 (length attributes) × AllByRecursion FitsAttribute attributes × AllByRecursion (IsSkippable pool) attributes

abbrev all_skipped : Slots → List ℕ → Result (Unit {0} × List ℕ) ReadRefusal
all_skipped pool bytes = counted_at (skipped pool) tt bytes

all_skipped_reads : (pool : Slots) → Reads (all_skipped pool) (counted attribute_bytes) nothing (AreSkipped pool)
all_skipped_reads pool =
    reshaped (counted_reads (skip_reads pool) tt) (λ attributes. attributes)
    (λ attributes good.
    let both = split FitsAttribute (IsSkippable pool) (λ before a. tt) tt attributes good.1 in
    (refl, refl, (good.0, both.0, both.1)))
    (λ attributes. attributes)
    (λ attributes good. (refl, refl, (good.0, merged FitsAttribute (IsSkippable pool) (λ before a. tt) tt attributes good.1 good.2)))

-- after what was read come attributes, which are skipped
pub skip_after : {A : Type 0} (pool : Slots) (value : A) → Reads (λ bytes. skip_all_at pool bytes >>= λ rest. Ok (value, rest)) (counted attribute_bytes) (λ attributes. value) (AreSkipped pool)
unfolding skip_all_at
skip_after pool value =
    alike (last (all_skipped_reads pool) (λ before. value)) (λ bytes. sym (under (all_skipped pool bytes) _ _ _ (λ x. refl)))
