-- The records that the calls of a draft make.
use Rattle.std.proofs.Common.{◌≡◌, ℕ, List, [], Option, Some, None, sym, ap, ◌∙◌}
use Rattle.std.specs.Prelude.{IsSome}
use Rattle.class_pool.specs.declared.pool.Const.TheVariants.{Utf8, Class}
use Rattle.class_pool.specs.Pool.{Slots}
use Rattle.class_file.specs.declared.record.ClassFile.{ClassFile}
use Rattle.class_file.specs.declared.record.Member.{Member}
use Rattle.class_file.specs.declared.record.CodeAttr.{CodeAttr}
use Rattle.class_make.specs.Entries.{index_of, text_index, class_index, with_text, with_class}
use Rattle.class_make.specs.Draft.{new_class, member_in}
use Rattle.class_make.proofs.Slots.{index_is, index_stays, class_stays}

abbrev pub member_at : ℕ → ℕ → ℕ → Option CodeAttr → Member
member_at flags name descriptor code = record { flags = flags; name = name; descriptor = descriptor; constant = None; code = code }

-- a member whose texts were placed before another text was
pub member_placed : (pool new : Slots) (text name descriptor : List ℕ) (flags n d : ℕ) (code : Option CodeAttr) → new ≡ with_text pool text
    → index_of pool (Utf8 name) ≡ Some n → index_of pool (Utf8 descriptor) ≡ Some d → member_at flags n d code ≡ member_in new flags name descriptor code
member_placed pool new text name descriptor flags n d code placed named described =
    let name_stays : text_index (with_text pool text) name ≡ n = index_is (with_text pool text) (Utf8 name) n (index_stays pool (Utf8 text) (Utf8 name) n named) in
    let descriptor_stays : text_index (with_text pool text) descriptor ≡ d = index_is (with_text pool text) (Utf8 descriptor) d (index_stays pool (Utf8 text) (Utf8 descriptor) d described) in
    let name_is : text_index new name ≡ n = ap (λ (p : Slots). text_index p name) placed ∙ name_stays in
    let descriptor_is : text_index new descriptor ≡ d = ap (λ (p : Slots). text_index p descriptor) placed ∙ descriptor_stays in
    ap (λ (i : ℕ). member_at flags i d code) (sym name_is) ∙ ap (λ (i : ℕ). member_at flags (text_index new name) i code) (sym descriptor_is)

abbrev pub class_at : Slots → ℕ → ℕ → ClassFile
class_at pool this_class super_class =
    record {
      minor = 0;
      major = 52;
      pool = pool;
      flags = 33;
      this_class = this_class;
      super_class = super_class;
      interfaces = [];
      fields = [];
      methods = [];
    }

-- a class whose two names were placed
pub class_drafted : (start first second : Slots) (name parent : List ℕ) (i k : ℕ) → start ≡ [] → first ≡ with_class start name → IsSome (index_of first (Utf8 name))
    → index_of first (Class (text_index first name)) ≡ Some i → second ≡ with_class first parent → index_of second (Class (text_index second parent)) ≡ Some k
    → class_at second i k ≡ new_class name parent
class_drafted start first second name parent i k none first_is named i_is second_is k_is =
    let whole : second ≡ with_class (with_class [] name) parent = second_is ∙ ap (λ (p : Slots). with_class p parent) (first_is ∙ ap (λ (p : Slots). with_class p name) none) in
    let this_is : class_index second name ≡ i = ap (λ (p : Slots). class_index p name) second_is ∙ class_stays first name parent i named i_is in
    let super_is : class_index second parent ≡ k = index_is second (Class (text_index second parent)) k k_is in
    ap (λ (n : ℕ). class_at second n k) (sym this_is) ∙ ap (λ (n : ℕ). class_at second (class_index second name) n) (sym super_is)
    ∙ ap (λ (p : Slots). class_at p (class_index p name) (class_index p parent)) whole
