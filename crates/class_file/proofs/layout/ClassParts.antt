-- The parts of a class file in their order (JVMS 4.1).
use Rattle.std.proofs.Common.{◌≡◌, ◌⊎◌, ℕ, ◌<◌, ◌≤◌, Bool, true, false, cond, leb, ◌&&◌, List, [], ◌++◌, length, map, drop, Result, Ok, Err, refl, sym, ap, subst, ◌∙◌, arith, inl, inr}
use Rattle.std.specs.Prelude.{IsTrue}
use Rattle.std.specs.List.{AllByRecursion}
use Rattle.std.proofs.lemmas.Bool.{and_parts, and_from, and_cases, and_left, and_right, leb-true, leb-false, le-leb, lt-leb}
use Rattle.std.proofs.lemmas.List.{drop_at, map-id}
use Rattle.class_pool.specs.declared.refusal.PoolRefusal.{PoolRefusal}
use Rattle.class_pool.specs.declared.refusal.PoolRefusal.TheVariants.{Truncated as PoolTruncated, BadTag, BadIndex, BadUtf8, Memory as PoolMemory}
use Rattle.class_pool.specs.Pool.{Slots, pool_bytes, IsPool, IsPoolAt}
use Rattle.class_pool.specs.PoolRefused.{IsRefused}
use Rattle.class_pool.specs.PoolReading.{pool_from}
use Rattle.byte_read.proofs.Steps.{IsBytes, IsBytes-drop, Takes, bind_then, bind_fails_then, ok_is, no_failure, then_ok, under, passes, stops}
use Rattle.class_pool.proofs.constant_pool.Pools.{from_found, from_read, from_fails}
use Rattle.class_file.specs.declared.record.ClassFile.{ClassFile}
use Rattle.class_file.specs.declared.record.Member.{Member}
use Rattle.class_file.specs.declared.class.ClassHead.{ClassHead}
use Rattle.class_file.specs.declared.refusal.ReadRefusal.{ReadRefusal}
use Rattle.class_file.specs.declared.refusal.ReadRefusal.TheVariants.{Version, BadShape}
use Rattle.class_file.specs.Layout.{u2, counted, Attribute, attribute_bytes, MemberLayout, member_bytes, member_of}
use Rattle.class_file.specs.Relation.{FitsU2}
use Rattle.class_file.specs.Rules.{are_class_flags, names_class}
use Rattle.class_file.specs.Faults.{IsClassHead, class_head_bytes}
use Rattle.byte_read.specs.Reading.{◌>>=◌}
use Rattle.class_file.specs.Reading.{u2_at}
use Rattle.class_file.specs.ReadingClass.{version_at, of_pool, after_pool, pool_at, class_flags_at, class_index_at, interfaces_at, class_head_at, members_at}
use Rattle.class_file.proofs.readers.Steps.{is_fault, IsPartFault}
use Rattle.class_file.proofs.readers.Parts.{Taken, Reads, itself, u2_reads, first, last, tested, reshaped}
use Rattle.class_file.proofs.readers.Lists.{list_reads, pushed, split, merged}
use Rattle.class_file.proofs.layout.Attributes.{AreSkipped, skip_after}
use Rattle.class_file.proofs.layout.Members.{AreFields, fields_read, AreMethods, methods_read}

-- ---- the version

abbrev pub Numbers : Type 0
Numbers = ℕ × ℕ

abbrev numbers_at : List ℕ → Result (Numbers × List ℕ) ReadRefusal
numbers_at bytes = u2_at bytes >>= λ minor. u2_at minor.1 >>= λ major. Ok ((minor.0, major.0), major.1)

abbrev pub numbers_bytes : Numbers → List ℕ
numbers_bytes v = u2 v.0 ++ u2 v.1

abbrev numbers : ℕ → ℕ → Numbers
numbers minor major = (minor, major)

numbers_read : Reads numbers_at numbers_bytes itself (λ v. FitsU2 v.0 × FitsU2 v.1)
numbers_read = first u2_reads (λ minor. last u2_reads (λ major. numbers minor major))

abbrev in_time : ℕ → Bool
in_time major = leb 45 major && leb major 52

abbrev versed : Numbers × List ℕ → Result (Numbers × List ℕ) ReadRefusal
versed v = cond (in_time v.0.1) (Ok v) (Err (Version v.0.1))

version_is : (bytes : List ℕ) → version_at bytes ≡ (numbers_at bytes >>= versed)
unfolding version_at
version_is bytes = under (u2_at bytes) _ _ _ (λ minor. under (u2_at minor.1) _ _ _ (λ major. refl))

abbrev pub IsVersion : Numbers → Type 0
IsVersion v = (FitsU2 v.0 × FitsU2 v.1) × ((45 ≤ v.1) × (v.1 ≤ 52))

pub version_taken : (bytes : List ℕ) (x : Numbers × List ℕ) → IsBytes bytes → version_at bytes ≡ Ok x → Taken numbers_bytes itself IsVersion bytes x
version_taken bytes x fits e =
    bind_then (numbers_at bytes) versed x (sym (version_is bytes) ∙ e) (λ v at_v e_x.
    let t = numbers_read.taken bytes v fits at_v in
    let g = passes (in_time v.0.1) v x (Version v.0.1) e_x in
    let time = and_parts (leb 45 v.0.1) (leb v.0.1 52) g.0 in
    let within : (45 ≤ v.0.1) × (v.0.1 ≤ 52) = (leb-true _ _ time.0, leb-true _ _ time.1) in
    subst (Taken numbers_bytes itself IsVersion bytes) g.1
    (record { part = t.part; takes = t.takes; good = (t.good, subst (λ (n : Numbers). (45 ≤ n.1) × (n.1 ≤ 52)) (sym t.value_is) within); value_is = t.value_is }))

pub version_again : (v : Numbers) (rest : List ℕ) → IsVersion v → version_at (numbers_bytes v ++ rest) ≡ Ok (v, rest)
version_again v rest is =
    let test : in_time v.1 ≡ true = and_from (leb 45 v.1) (leb v.1 52) (le-leb _ _ is.1.0) (le-leb _ _ is.1.1) in
    version_is (numbers_bytes v ++ rest) ∙ then_ok versed (Ok (v, rest)) (numbers_read.again v rest is.0) (rw test refl)

-- the bytes begin with a version that is not one of 45 to 52
pub record IsOther (bytes : List ℕ) (major : ℕ) : Type 0 where
  pub minor : ℕ
  pub more : List ℕ
  pub fits : FitsU2 minor × FitsU2 major
  pub encoded : bytes ≡ numbers_bytes (minor, major) ++ more
  pub other : (major < 45) ⊎ (52 < major)

out_of_time : (major : ℕ) → in_time major ≡ false → (major < 45) ⊎ (52 < major)
out_of_time major e =
    elim (and_cases (leb 45 major) (leb major 52) e) [
      | inl early ↦ inl (leb-false _ _ early)
      | inr late ↦ inr (leb-false _ _ late)
    ]

not_in_time : (major : ℕ) → (major < 45) ⊎ (52 < major) → in_time major ≡ false
not_in_time major (inl early) = and_left (leb 45 major) (leb major 52) (lt-leb _ _ early)
not_in_time major (inr late) = and_right (leb 45 major) (leb major 52) (lt-leb _ _ late)

-- how the version fails
pub version_fails : (C : Type 0) (bytes : List ℕ) (why : ReadRefusal) → IsBytes bytes → version_at bytes ≡ Err why → (IsPartFault why → C) → ((major : ℕ) → Version major ≡ why → IsOther bytes major → C) → C
version_fails C bytes why fits e part other =
    bind_fails_then (numbers_at bytes) versed why (sym (version_is bytes) ∙ e) (λ at_why. part (numbers_read.fails bytes why fits at_why)) (λ v at_v e_why.
    let t = numbers_read.taken bytes v fits at_v in
    let g = stops (in_time v.0.1) v (Version v.0.1) why e_why in
    let good = subst (λ (n : Numbers). FitsU2 n.0 × FitsU2 n.1) t.value_is t.good in
    let encoded = subst (λ (n : Numbers). Takes bytes (numbers_bytes n) v.1) t.value_is t.takes in
    other v.0.1 g.1 (record { minor = v.0.0; more = v.1; fits = good; encoded = encoded.parts; other = out_of_time v.0.1 g.0 }))

pub version_refused : (bytes : List ℕ) (major : ℕ) → IsOther bytes major → version_at bytes ≡ Err (Version major)
version_refused bytes major is =
    let test : in_time major ≡ false = not_in_time major is.other in
    version_is bytes ∙ then_ok versed (Err (Version major)) (ap numbers_at is.encoded ∙ numbers_read.again (is.minor, major) is.more is.fits) (rw test refl)

-- ---- the pool

abbrev pool_read : Slots × List ℕ → Result (Slots × List ℕ) ReadRefusal
pool_read x = Ok x

after_ok : {C : Type 0} (bytes : List ℕ) (r : Result (Slots × ℕ) PoolRefusal) (x : Slots × List ℕ) → after_pool bytes r ≡ Ok x → ((y : Slots × ℕ) → r ≡ Ok y → (y.0, drop y.1 bytes) ≡ x → C) → C
after_ok bytes (Ok y) x e go = go y refl (ok_is (y.0, drop y.1 bytes) x e)
after_ok bytes (Err why) x e go = absurd (no_failure x (of_pool why) (sym e))

no_memory : (bytes : List ℕ) (d : PoolRefusal) → IsRefused bytes d → IsPartFault (of_pool d)
no_memory bytes PoolTruncated r = tt
no_memory bytes (BadTag index) r = tt
no_memory bytes (BadIndex index) r = tt
no_memory bytes (BadUtf8 index) r = tt
no_memory bytes PoolMemory r = absurd r

after_fails : (bytes : List ℕ) (r : Result (Slots × ℕ) PoolRefusal) (why : ReadRefusal) → ((d : PoolRefusal) → r ≡ Err d → IsRefused bytes d) → after_pool bytes r ≡ Err why → IsPartFault why
after_fails bytes (Ok y) why refused e = absurd (no_failure (y.0, drop y.1 bytes) why e)
after_fails bytes (Err d) why refused e = is_fault {A = Slots × List ℕ} (of_pool d) why (no_memory bytes d (refused d refl)) e

pool_taken : (bytes : List ℕ) (x : Slots × List ℕ) → IsBytes bytes → pool_at bytes ≡ Ok x → Taken pool_bytes itself IsPool bytes x
unfolding pool_at
pool_taken bytes x fits e =
    after_ok bytes (pool_from bytes 0) x e (λ y at_y same.
    let is = from_found bytes 0 y fits (omega arith) at_y in
    subst (Taken pool_bytes itself IsPool bytes) same (record { part = y.0; takes = record { parts = is.encoded; rest_fits = IsBytes-drop y.1 bytes fits }; good = is.is_pool; value_is = refl }))

pool_again : (pool : Slots) (rest : List ℕ) → IsPool pool → pool_at (pool_bytes pool ++ rest) ≡ Ok (pool, rest)
unfolding pool_at
pool_again pool rest is =
    let suffix : drop (length (pool_bytes pool)) (pool_bytes pool ++ rest) ≡ rest = drop_at (pool_bytes pool) rest (length (pool_bytes pool)) refl in
    let stands : IsPoolAt (pool_bytes pool ++ rest) 0 pool (length (pool_bytes pool)) =
    record { is_pool = is; encoded = ap (λ (t : List ℕ). pool_bytes pool ++ t) (sym suffix); ends = omega arith } in
    ap (after_pool (pool_bytes pool ++ rest)) (from_read (pool_bytes pool ++ rest) 0 pool (length (pool_bytes pool)) (omega arith) stands) ∙ ap (λ (t : List ℕ). pool_read (pool, t)) suffix

pool_fails : (bytes : List ℕ) (why : ReadRefusal) → IsBytes bytes → pool_at bytes ≡ Err why → IsPartFault why
unfolding pool_at
pool_fails bytes why fits e = after_fails bytes (pool_from bytes 0) why (λ d at_d. from_fails bytes 0 d fits at_d) e

pub pool_reads : Reads pool_at pool_bytes itself IsPool
pool_reads = record { taken = pool_taken; again = pool_again; fails = pool_fails }

-- ---- from the flags to the interfaces

flags_read : Reads class_flags_at u2 itself (λ flags. FitsU2 flags × IsTrue (are_class_flags flags))
unfolding class_flags_at
flags_read = tested u2_reads (λ flags. are_class_flags flags) BadShape tt

index_reads : (pool : Slots) → Reads (class_index_at pool) u2 itself (λ index. FitsU2 index × IsTrue (names_class pool index))
unfolding class_index_at
index_reads pool = tested u2_reads (λ index. names_class pool index) BadShape tt

abbrev AreInterfaces : Slots → List ℕ → Type 0
AreInterfaces pool indices = FitsU2 (length indices) × AllByRecursion FitsU2 indices × AllByRecursion (λ index. IsTrue (names_class pool index)) indices

interfaces_read : (pool : Slots) → Reads (interfaces_at pool) (counted u2) itself (AreInterfaces pool)
unfolding interfaces_at
interfaces_read pool =
    reshaped (list_reads (λ earlier. index_reads pool)) (λ indices. indices)
    (λ indices good.
    let each = split FitsU2 (λ index. IsTrue (names_class pool index)) (pushed itself) [] indices good.1 in
    (refl, sym (map-id indices), (good.0, each.0, each.1)))
    (λ indices. indices)
    (λ indices good. (refl, map-id indices, (good.0, merged FitsU2 (λ index. IsTrue (names_class pool index)) (pushed itself) [] indices good.1 good.2)))

abbrev pub a_class_head : ℕ → ℕ → ℕ → List ℕ → ClassHead
a_class_head flags this_class super_class interfaces = record { flags = flags; this_class = this_class; super_class = super_class; interfaces = interfaces }

pub class_head_reads : (pool : Slots) → Reads (class_head_at pool) class_head_bytes itself (IsClassHead pool)
unfolding class_head_at
class_head_reads pool =
    reshaped (first flags_read (λ flags. first (index_reads pool) (λ this_class. first (index_reads pool) (λ super_class. last (interfaces_read pool) (λ interfaces. a_class_head flags this_class super_class interfaces)))))
    (λ p. a_class_head p.0 p.1.0 p.1.1.0 p.1.1.1)
    (λ p good. (
      refl,
      refl,
      record {
        flags = good.0.0;
        flags_are = good.0.1;
        this_class = good.1.0.0;
        this_is = good.1.0.1;
        super_class = good.1.1.0.0;
        super_is = good.1.1.0.1;
        interface_count = good.1.1.1.0;
        interfaces = good.1.1.1.1;
        interfaces_are = good.1.1.1.2;
      },
    ))
    (λ head. (head.flags, (head.this_class, (head.super_class, head.interfaces))))
    (λ head good. (
      refl,
      refl,
      ((good.flags, good.flags_are), ((good.this_class, good.this_is), ((good.super_class, good.super_is), (good.interface_count, good.interfaces, good.interfaces_are)))),
    ))

-- ---- fields, methods and attributes

abbrev pub Rest : Type 0
Rest = List MemberLayout × (List MemberLayout × List Attribute)

abbrev pub rest_bytes : Rest → List ℕ
rest_bytes p = counted member_bytes p.0 ++ (counted member_bytes p.1.0 ++ counted attribute_bytes p.1.1)

abbrev pub members_in : Rest → List Member × List Member
members_in p = (map member_of p.0, map member_of p.1.0)

abbrev pub IsRest : ℕ → Slots → Rest → Type 0
IsRest class_flags pool p = AreFields class_flags pool p.0 × (AreMethods class_flags pool p.1.0 × AreSkipped pool p.1.1)

abbrev two : List Member → List Member → List Member × List Member
two fields methods = (fields, methods)

rest_reads : (class_flags : ℕ) (pool : Slots) → Reads (members_at class_flags pool) rest_bytes members_in (IsRest class_flags pool)
unfolding members_at
rest_reads class_flags pool = first (fields_read class_flags pool) (λ fields. first (methods_read class_flags pool) (λ methods. skip_after pool (two fields methods)))

-- ---- all after the version

abbrev pub a_file : Numbers → Slots → ClassHead → List Member × List Member → ClassFile
a_file version pool head members =
    record {
      minor = version.0;
      major = version.1;
      pool = pool;
      flags = head.flags;
      this_class = head.this_class;
      super_class = head.super_class;
      interfaces = head.interfaces;
      fields = members.0;
      methods = members.1;
    }

abbrev pub after_version : Numbers → List ℕ → Result (ClassFile × List ℕ) ReadRefusal
after_version version bytes = pool_at bytes >>= λ pool. class_head_at pool.0 pool.1 >>= λ head. members_at head.0.flags pool.0 head.1 >>= λ members. Ok (a_file version pool.0 head.0 members.0, members.1)

abbrev pub Suffix : Type 0
Suffix = Slots × (ClassHead × Rest)

abbrev pub after_bytes : Suffix → List ℕ
after_bytes p = pool_bytes p.0 ++ (class_head_bytes p.1.0 ++ rest_bytes p.1.1)

abbrev pub IsAfter : Suffix → Type 0
IsAfter p = IsPool p.0 × (IsClassHead p.0 p.1.0 × IsRest p.1.0.flags p.0 p.1.1)

pub after_reads : (version : Numbers) → Reads (after_version version) after_bytes (λ p. a_file version p.0 p.1.0 (members_in p.1.1)) IsAfter
after_reads version =
    first pool_reads (λ pool. first (class_head_reads pool) (λ head. last (rest_reads head.flags pool) (λ members. a_file version pool head members)))
