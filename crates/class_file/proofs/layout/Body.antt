-- What follows the magic is that of a layout.
use Rattle.std.proofs.Common.{◌≡◌, ℕ, cond, eqb, List, [], ◌++◌, length, Result, Ok, Err, refl, sym, ap, subst, ◌∙◌, append_assoc}
use Rattle.std.proofs.lemmas.Bool.{eqb-true, eqb-false}
use Rattle.std.proofs.lemmas.List.{nil_from_length}
use Rattle.class_pool.specs.Pool.{pool_bytes}
use Rattle.byte_read.proofs.Steps.{IsBytes, Takes, joined, bind_then, bind_fails_then, ok_is, no_failure, same_why, then_ok, then_err, under, done, chosen}
use Rattle.class_file.specs.declared.record.ClassFile.{ClassFile}
use Rattle.class_file.specs.declared.refusal.ReadRefusal.{ReadRefusal}
use Rattle.class_file.specs.declared.refusal.ReadRefusal.TheVariants.{TrailingBytes, Version}
use Rattle.class_file.specs.Layout.{u2, counted, attribute_bytes, member_bytes, Layout, record_of}
use Rattle.class_file.specs.Relation.{FitsLayout, IsRegular}
use Rattle.byte_read.specs.Reading.{◌>>=◌}
use Rattle.class_file.specs.ReadingClass.{capped, version_at, pool_at, class_head_at, members_at, body_of}
use Rattle.class_file.proofs.readers.Steps.{IsPartFault}
use Rattle.class_file.proofs.readers.Parts.{Taken}
use Rattle.class_file.proofs.layout.ClassParts.{Numbers, numbers_bytes, IsVersion, version_taken, version_again, IsOther, version_fails, version_refused, a_class_head, members_in, after_version, Suffix, after_bytes, IsAfter, after_reads, a_file}

-- ---- the layout

-- the encoding of a layout without the magic
abbrev pub body_bytes : Layout → List ℕ
body_bytes l =
    u2 l.minor ++ (u2 l.major ++ (pool_bytes l.pool
    ++ (u2 l.flags ++ (u2 l.this_class ++ (u2 l.super_class ++ (counted u2 l.interfaces
    ++ (counted member_bytes l.fields ++ (counted member_bytes l.methods ++ counted attribute_bytes l.attributes))))))))

pub record IsSound (l : Layout) : Type 0 where
  pub fits : FitsLayout l
  pub regular : IsRegular l

abbrev made : Numbers → Suffix → Layout
made v p =
    record {
      minor = v.0;
      major = v.1;
      pool = p.0;
      flags = p.1.0.flags;
      this_class = p.1.0.this_class;
      super_class = p.1.0.super_class;
      interfaces = p.1.0.interfaces;
      fields = p.1.1.0;
      methods = p.1.1.1.0;
      attributes = p.1.1.1.1;
    }

abbrev numbers_in : Layout → Numbers
numbers_in l = (l.minor, l.major)

abbrev after_in : Layout → Suffix
after_in l = (l.pool, (a_class_head l.flags l.this_class l.super_class l.interfaces, (l.fields, (l.methods, l.attributes))))

sound_made : (v : Numbers) (p : Suffix) → IsVersion v → IsAfter p → IsSound (made v p)
sound_made v p version is =
    let head = is.1.0 in
    let fields = is.1.1.0 in
    let methods = is.1.1.1.0 in
    let attributes = is.1.1.1.1 in
    record {
      fits =
          record {
            minor = version.0.0;
            major = version.0.1;
            flags = head.flags;
            this_class = head.this_class;
            super_class = head.super_class;
            interface_count = head.interface_count;
            interfaces = head.interfaces;
            field_count = fields.0;
            fields = fields.1;
            method_count = methods.0;
            methods = methods.1;
            attribute_count = attributes.0;
            attributes = attributes.1;
          };
      regular =
          record {
            first_version = version.1.0;
            last_version = version.1.1;
            is_pool = is.0;
            class_flags = head.flags_are;
            this_class = head.this_is;
            super_class = head.super_is;
            interfaces = head.interfaces_are;
            fields = fields.2;
            different_fields = fields.3;
            methods = methods.2;
            different_methods = methods.3;
            attributes = attributes.2;
          };
    }

version_of : (l : Layout) → IsSound l → IsVersion (numbers_in l)
version_of l sound = ((sound.fits.minor, sound.fits.major), (sound.regular.first_version, sound.regular.last_version))

after_of : (l : Layout) → IsSound l → IsAfter (after_in l)
after_of l sound =
    let fits = sound.fits in
    let rules = sound.regular in (
      rules.is_pool,
      (
        record {
          flags = fits.flags;
          flags_are = rules.class_flags;
          this_class = fits.this_class;
          this_is = rules.this_class;
          super_class = fits.super_class;
          super_is = rules.super_class;
          interface_count = fits.interface_count;
          interfaces = fits.interfaces;
          interfaces_are = rules.interfaces;
        },
        ((fits.field_count, fits.fields, rules.fields, rules.different_fields), ((fits.method_count, fits.methods, rules.methods, rules.different_methods), (fits.attribute_count, fits.attributes, rules.attributes))),
      ),
    )

-- ---- the parts, and what is after them

abbrev pub parts_of : List ℕ → Result (ClassFile × List ℕ) ReadRefusal
parts_of bytes = version_at bytes >>= λ version. after_version version.0 version.1

abbrev pub ended : ClassFile × List ℕ → Result ClassFile ReadRefusal
ended x = cond (eqb (length x.1) 0) (Ok x.0) (Err (TrailingBytes (capped (length x.1))))

pub body_is : (bytes : List ℕ) → body_of bytes ≡ (parts_of bytes >>= ended)
unfolding body_of
body_is bytes =
    under (version_at bytes) _ _ _ (λ version. under (pool_at version.1) _ _ _ (λ pool. under (class_head_at pool.0 pool.1) _ _ _ (λ head. under (members_at head.0.flags pool.0 head.1) _ _ _ (λ members. refl))))

pub parts_taken : (bytes : List ℕ) (x : ClassFile × List ℕ) → IsBytes bytes → parts_of bytes ≡ Ok x → Taken body_bytes record_of IsSound bytes x
parts_taken bytes x fits e =
    bind_then (version_at bytes) _ x e (λ v at_v e_x.
    let t = version_taken bytes v fits at_v in
    let o = (after_reads v.0).taken v.1 x t.takes.rest_fits e_x in
    let takes : Takes bytes (body_bytes (made t.part o.part)) x.1 = joined t.takes o.takes in
    record {
      part = made t.part o.part;
      takes = takes;
      good = sound_made t.part o.part t.good o.good;
      value_is = ap (λ (n : Numbers). a_file n o.part.0 o.part.1.0 (members_in o.part.1.1)) t.value_is ∙ o.value_is;
    })

pub parts_again : (l : Layout) (rest : List ℕ) → IsSound l → parts_of (body_bytes l ++ rest) ≡ Ok (record_of l, rest)
parts_again l rest sound =
    ap parts_of (append_assoc (numbers_bytes (numbers_in l)) (after_bytes (after_in l)) rest)
    ∙ then_ok _ (Ok (record_of l, rest)) (version_again (numbers_in l) (after_bytes (after_in l) ++ rest) (version_of l sound)) ((after_reads (numbers_in l)).again (after_in l) rest (after_of l sound))

-- a layout is read up to its end, and what is after it is told
pub body_again : (l : Layout) (rest : List ℕ) → IsSound l → body_of (body_bytes l ++ rest) ≡ ended (record_of l, rest)
body_again l rest sound = body_is (body_bytes l ++ rest) ∙ then_ok ended (ended (record_of l, rest)) (parts_again l rest sound) refl

-- ---- what is read is a layout

pub record IsBody (bytes tail : List ℕ) (file : ClassFile) : Type 0 where
  pub layout : Layout
  pub encoded : bytes ≡ body_bytes layout ++ tail
  pub sound : IsSound layout
  pub stands : file ≡ record_of layout

is_body : (bytes : List ℕ) (x : ClassFile × List ℕ) → IsBytes bytes → parts_of bytes ≡ Ok x → IsBody bytes x.1 x.0
is_body bytes x fits e =
    let t = parts_taken bytes x fits e in
    record { layout = t.part; encoded = t.takes.parts; sound = t.good; stands = sym t.value_is }

pub body_taken : (bytes : List ℕ) (file : ClassFile) → IsBytes bytes → body_of bytes ≡ Ok file → IsBody bytes [] file
body_taken bytes file fits e =
    bind_then (parts_of bytes) ended file (sym (body_is bytes) ∙ e) (λ x at_x e_file.
    chosen (eqb (length x.1) 0) (done x.0) (Err (TrailingBytes (capped (length x.1)))) (Ok file) e_file
    (λ none is.
    subst (λ (tail : List ℕ). IsBody bytes tail file) (nil_from_length x.1 (eqb-true _ _ none)) (subst (IsBody bytes x.1) (ok_is x.0 file is) (is_body bytes x fits at_x)))
    (λ some fails. absurd (no_failure file (TrailingBytes (capped (length x.1))) (sym fails))))

-- ---- how it fails

-- there is a class, and something after it
pub record IsTailed (bytes : List ℕ) (why : ReadRefusal) : Type 0 where
  pub tail : List ℕ
  pub file : ClassFile
  pub body : IsBody bytes tail file
  pub some : length tail ≡ 0 → ⊥
  pub why_is : TrailingBytes (capped (length tail)) ≡ why

tailed : (bytes : List ℕ) (x : ClassFile × List ℕ) (why : ReadRefusal) → IsBytes bytes → parts_of bytes ≡ Ok x → ended x ≡ Err why → IsTailed bytes why
tailed bytes x why fits at_x e =
    chosen (eqb (length x.1) 0) (done x.0) (Err (TrailingBytes (capped (length x.1)))) (Err why) e (λ none is. absurd (no_failure x.0 why is))
    (λ some fails. record { tail = x.1; file = x.0; body = is_body bytes x fits at_x; some = eqb-false _ _ some; why_is = same_why {A = ClassFile} (TrailingBytes (capped (length x.1))) why fails })

pub body_fails : (C : Type 0) (bytes : List ℕ) (why : ReadRefusal) → IsBytes bytes → body_of bytes ≡ Err why → (IsPartFault why → C) → ((major : ℕ) → Version major ≡ why → IsOther bytes major → C) → (IsTailed bytes why → C) → C
body_fails C bytes why fits e part other tail =
    bind_fails_then (parts_of bytes) ended why (sym (body_is bytes) ∙ e)
    (λ at_parts.
    bind_fails_then (version_at bytes) _ why at_parts (λ at_version. version_fails C bytes why fits at_version part other)
    (λ v at_v e_why. part ((after_reads v.0).fails v.1 why (version_taken bytes v fits at_v).takes.rest_fits e_why)))
    (λ x at_x e_why. tail (tailed bytes x why fits at_x e_why))

pub body_refused : (bytes : List ℕ) (major : ℕ) → IsOther bytes major → body_of bytes ≡ Err (Version major)
body_refused bytes major is = body_is bytes ∙ then_err ended (then_err _ (version_refused bytes major is))
