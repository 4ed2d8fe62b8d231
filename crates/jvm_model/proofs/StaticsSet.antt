-- Each initial static is one that a write to its field keeps, and the last write counts.
use Rattle.std.proofs.Common.{◌≡◌, inl, inr, Bool, true, false, [], ◌∷◌, Option, Some, None, refl}
use Rattle.std.specs.Prelude.{if◌then◌else◌}
use Rattle.std.specs.Option.{option_or}
use Rattle.class_pool.specs.declared.descriptor.Kind.{Kind}
use Rattle.class_pool.specs.declared.descriptor.Kind.TheVariants as kind
use Rattle.class_tree.specs.Members.{is_called}
use Rattle.jvm_model.specs.Initialisers.{Pushed, Number, Null as PushedNull}
use Rattle.jvm_model.specs.InitialStatics.{kept, set_last, kind_of, last_write, IsKept, StaticsAreKept, LastWriteCounts}

-- ---- values

kept_is : (k : Kind) (pushed : Option Pushed) → IsKept k (kept k pushed)
kept_is kind.Byte (Some (Number number)) = inr (number, refl)
kept_is kind.Char (Some (Number number)) = inr (number, refl)
kept_is kind.Short (Some (Number number)) = inr (number, refl)
kept_is kind.Int (Some (Number number)) = inr (number, refl)
kept_is kind.Boolean (Some (Number number)) = inr (number, refl)
kept_is kind.Byte (Some PushedNull) = inl refl
kept_is kind.Char (Some PushedNull) = inl refl
kept_is kind.Short (Some PushedNull) = inl refl
kept_is kind.Int (Some PushedNull) = inl refl
kept_is kind.Boolean (Some PushedNull) = inl refl
kept_is kind.Byte None = inl refl
kept_is kind.Char None = inl refl
kept_is kind.Short None = inl refl
kept_is kind.Int None = inl refl
kept_is kind.Boolean None = inl refl
kept_is kind.Long (Some (Number number)) = refl
kept_is kind.Long (Some PushedNull) = refl
kept_is kind.Long None = refl
kept_is kind.Float (Some (Number number)) = refl
kept_is kind.Float (Some PushedNull) = refl
kept_is kind.Float None = refl
kept_is kind.Double (Some (Number number)) = refl
kept_is kind.Double (Some PushedNull) = refl
kept_is kind.Double None = refl
kept_is (kind.Class name) (Some (Number number)) = refl
kept_is (kind.Class name) (Some PushedNull) = refl
kept_is (kind.Class name) None = refl
kept_is (kind.Array dims of) (Some (Number number)) = refl
kept_is (kind.Array dims of) (Some PushedNull) = refl
kept_is (kind.Array dims of) None = refl

pub statics_kept : StaticsAreKept
statics_kept file field = kept_is (kind_of file.pool field) (set_last file field)

-- ---- writes

pub last_counts : LastWriteCounts
unfolding last_write
last_counts field [] named pushed = refl
last_counts field (write ∷ writes) named pushed = rw (last_counts field writes named pushed) (by_call (is_called named.name named.descriptor field))
  where
    by_call : (called : Bool)
        → option_or (if called then Some pushed else last_write field writes) (if is_called write.0.name write.0.descriptor field then Some write.1 else None)
        ≡ (if called then Some pushed else option_or (last_write field writes) (if is_called write.0.name write.0.descriptor field then Some write.1 else None))
    by_call true = refl
    by_call false = refl
