-- Declared types of whole numbers: an int is kept in two cells, a small type in one; and all others are references.
use Rattle.std.proofs.Common.{◌≡◌, ℕ, ℤ, zero, suc, ◌≤◌, Bool, true, false, List, [], length, Ok, Err, if◌then◌else◌, refl, arith}
use Rattle.std.specs.Option.{ok_or}
use Rattle.class_pool.specs.declared.descriptor.Kind.{Kind}
use Rattle.class_pool.specs.declared.descriptor.Kind.TheVariants as kind
use Rattle.class_pool.specs.declared.types.TypeBase.{TypeBase}
use Rattle.class_pool.specs.declared.types.TypeBase.TheVariants as base
use Rattle.class_pool.specs.declared.types.TypeRef.{TypeRef}
use Rattle.class_pool.specs.Descriptors.{HasDims}
use Rattle.class_file.specs.declared.record.ClassFile.{ClassFile}
use Rattle.image_instr.specs.declared.insn.Kind.{Kind as Shape}
use Rattle.image_instr.specs.declared.insn.Kind.TheVariants as shapes
use Rattle.jvm_model.specs.ImageExpansion.{kind_in, read_as, write_as}
use Rattle.jvm_model.specs.State.{Whole}
use Rattle.mote_model.specs.SplitObjects.{size_of}
use Rattle.match_states.specs.MatchedFrames.{cells_of_shape}
use Rattle.class_tree.specs.Merge.{is_reference}
use Rattle.class_tree.specs.Set.{number_of}
use Rattle.body_form.specs.declared.types.VType.{VType}
use Rattle.body_form.specs.declared.types.VType.TheVariants as known
use Rattle.insn_form.specs.declared.ValueKind.TheVariants as value_kind
use Rattle.jvm_model.specs.declared.refusal.Cause.TheVariants.{Unresolved}
use Rattle.jvm_model.specs.Initialisers.{is_whole_kind, is_reference_kind}
use Rattle.jvm_model.specs.Resolution.{Resolved, and_then, base_named, kind_named, type_with}
use Rattle.jvm_model.specs.TypesFrames.{fits_in, fits_kind}
use Rattle.jvm_model.specs.TypesRules.{has_kind}

no_class : (files : List ClassFile) (found : Resolved ℕ) → fits_in files (and_then (λ of. Ok (type_with 0 of)) (and_then (λ (class : ℕ). Ok (base.Class class)) found)) known.Int ≡ true → ⊥
no_class files (Ok class) fits = cc
no_class files (Err why) fits = cc

no_array : (files : List ClassFile) (dims : ℕ) (found : Resolved TypeBase) → 1 ≤ dims → fits_in files (and_then (λ of. Ok (type_with dims of)) found) known.Int ≡ true → ⊥
no_array files zero found some fits = absurd (omega (arith, some))
no_array files (suc dims) (Ok of) some fits = cc
no_array files (suc dims) (Err why) some fits = cc

-- a whole number stands only where one is declared
int_declared : (files : List ClassFile) (of : Kind) → HasDims of → fits_kind files of known.Int ≡ true → is_whole_kind of ≡ true
int_declared files kind.Byte dims fits = refl
int_declared files kind.Char dims fits = refl
int_declared files kind.Short dims fits = refl
int_declared files kind.Int dims fits = refl
int_declared files kind.Boolean dims fits = refl
int_declared files kind.Long dims fits = cc
int_declared files kind.Float dims fits = cc
int_declared files kind.Double dims fits = cc
int_declared files (kind.Class name) dims fits = absurd (no_class files (ok_or (number_of files name) Unresolved) fits)
int_declared files (kind.Array count of) dims fits = absurd (no_array files count (base_named files of) dims.0 fits)

pub whole_declared : (files : List ClassFile) (of : Kind) (type : VType) → HasDims of → has_kind value_kind.Int type ≡ true → fits_kind files of type ≡ true → is_whole_kind of ≡ true
whole_declared files of known.Int dims has fits = int_declared files of dims fits
whole_declared files of type dims has fits = cc

-- a whole number is no reference
pub no_reference : (of : Kind) → is_whole_kind of ≡ true → is_reference_kind of ≡ false
no_reference kind.Byte whole = refl
no_reference kind.Char whole = refl
no_reference kind.Short whole = refl
no_reference kind.Int whole = refl
no_reference kind.Boolean whole = refl
no_reference of whole = cc

-- a reference is no whole number
pub no_number : (of : Kind) → is_reference_kind of ≡ true → is_whole_kind of ≡ false
no_number (kind.Class name) refers = refl
no_number (kind.Array dims of) refers = refl
no_number of refers = cc

-- what a number is kept in has as many cells as are moved
pub kept_size : (of : Kind) → is_whole_kind of ≡ true → (number : ℤ) → size_of (kind_in of) ≡ length (cells_of_shape (kind_in of) (Whole number))
kept_size kind.Byte whole number = refl
kept_size kind.Char whole number = refl
kept_size kind.Short whole number = refl
kept_size kind.Int whole number = refl
kept_size kind.Boolean whole number = refl
kept_size of whole number = absurd cc

-- ---- references

pub reference_kind : (of : Kind) → is_reference_kind of ≡ true → kind_in of ≡ shapes.Ref
reference_kind (kind.Class name) is = refl
reference_kind (kind.Array dims of) is = refl
reference_kind of is = absurd cc

pub reference_reads : (of : Kind) (shape : Shape) → is_reference_kind of ≡ true → read_as of shape ≡ []
reference_reads (kind.Class name) shape is = refl
reference_reads (kind.Array dims of) shape is = refl
reference_reads of shape is = absurd cc

pub reference_writes : (of : Kind) (shape : Shape) → is_reference_kind of ≡ true → write_as of shape ≡ []
reference_writes (kind.Class name) shape is = refl
reference_writes (kind.Array dims of) shape is = refl
reference_writes of shape is = absurd cc

-- ---- what is taken

pub whole_taken : (files : List ClassFile) (of : Kind) (type : VType) → is_whole_kind of ≡ true → fits_kind files of type ≡ true → has_kind value_kind.Int type ≡ true
whole_taken files kind.Byte type whole fits = fits
whole_taken files kind.Char type whole fits = fits
whole_taken files kind.Short type whole fits = fits
whole_taken files kind.Int type whole fits = fits
whole_taken files kind.Boolean type whole fits = fits
whole_taken files of type whole fits = absurd cc

neither : (refers : Bool) → (if refers then false else false) ≡ true → ⊥
neither true fits = cc
neither false fits = cc

no_top : (files : List ClassFile) (found : Resolved TypeRef) → fits_in files found known.Top ≡ true → ⊥
no_top files (Ok type) fits = neither (is_reference type.dims type.base) fits
no_top files (Err why) fits = cc

both_ways : (b : Bool) → b ≡ false → b ≡ true → ⊥
both_ways b differs is = cc

pub reference_taken : (files : List ClassFile) (of : Kind) (type : VType) → is_reference_kind of ≡ true → HasDims of → fits_kind files of type ≡ true → has_kind value_kind.Ref type ≡ true
reference_taken files of known.Top refers dims fits = absurd (no_top files (kind_named files of) fits)
reference_taken files of known.Int refers dims fits = absurd (both_ways (is_whole_kind of) (no_number of refers) (int_declared files of dims fits))
reference_taken files of known.Null refers dims fits = refl
reference_taken files of (known.Ref type) refers dims fits = refl
reference_taken files of (known.New pc) refers dims fits = refl
reference_taken files of known.This refers dims fits = refl
