-- A method with code that is found by a name and a descriptor runs: it is a native, or has a body among those of the
-- set.
use Rattle.std.proofs.Common.{◌≡◌, inl, inr, ℕ, ◌-◌, ◌≤◌, Bool, true, false, ◌&&◌, ◌||◌, not, cond, List, [], map, slice_get, Option, Some, None, is_none, is_some, option_map, option_and_then, unwrap_or, refl, sym, ap, subst, ◌∙◌}
use Rattle.std.specs.List.{AllByRecursion}
use Rattle.std.specs.Option.{option_map_or}
use Rattle.std.specs.Str.{bytes_eq}
use Rattle.std.proofs.lemmas.Bool.{lt-ltb, le-ltb, cases_lt, false_from_ne_true}
use Rattle.std.proofs.lemmas.Slice.Eq.{bytes_eq-Decides}
use Rattle.std.proofs.lemmas.Option.{slice_get-map}
use Rattle.library.specs.Classes.{first_own}
use Rattle.library.specs.declared.natives.Native.{Native}
use Rattle.library.specs.declared.natives.Native.TheVariants as native
use Rattle.library.specs.Members.{methods_of as natives_of}
use Rattle.class_pool.specs.declared.descriptor.Descriptor.{Descriptor}
use Rattle.class_pool.specs.declared.descriptor.Kind.{Kind}
use Rattle.class_pool.specs.declared.types.MemberId.{MemberId}
use Rattle.class_pool.specs.Pool.{Slots, utf8_at}
use Rattle.class_pool.specs.DescriptorReading.{method_of}
use Rattle.class_file.specs.declared.record.ClassFile.{ClassFile}
use Rattle.class_file.specs.declared.record.CodeAttr.{CodeAttr}
use Rattle.class_file.specs.declared.record.Member.{Member}
use Rattle.class_file.specs.Rules.{is_static, is_private, is_abstract, is_public, is_final, is_interface, is_static_method, is_initialiser as is_initialiser_head, is_constructor as is_constructor_head, is_named}
use Rattle.class_file.specs.ReadingMembers.{head_in}
use Rattle.class_tree.specs.Set.{file_of, flags_of}
use Rattle.class_tree.specs.Members.{Declaration, in_file, in_library, methods_of}
use Rattle.body_form.specs.declared.op.MethodUse.{MethodUse}
use Rattle.jvm_model.specs.Bodies.{AreBodies}
use Rattle.jvm_model.specs.CodeInsns.{insns_in}
use Rattle.class_code.specs.Code.{decoded}
use Rattle.jvm_model.specs.Linking.{is_initialiser}
use Rattle.jvm_model.specs.MethodUses.{constructor_name, initialiser_name, has_code}
use Rattle.typed_machine.specs.TypedWorld.{World}
use Rattle.type_safety.specs.Facts.{result_of, is_construct, is_named_constructor, RunsBody, Runs}
use Rattle.type_safety.proofs.fitting.SetLists.{none_some, same_some, all_at, false_is_true}
use Rattle.type_safety.proofs.facts.ReadRules.{MethodRules, HasCode}
use Rattle.type_safety.proofs.facts.CodeRead.{IsRead, FitsMethod}
use Rattle.type_safety.proofs.facts.CodedBodies.{body_of, body_found}
use Rattle.type_safety.proofs.facts.CodeStanding.{stands_of_set}
use Rattle.type_safety.proofs.facts.Declared.{HasFile, file_at, rules_of}
use Rattle.type_safety.proofs.facts.LibraryMethods.{library_method, runs_native, no_natives}

-- ---- truth values

double_not : (b : Bool) → not (not b) ≡ b
double_not true = refl
double_not false = refl

not_static_abstract : (abstract private static final : Bool) → (not abstract || not (private || (static || final))) ≡ true → abstract ≡ true → (private ≡ false) × (static ≡ false)
not_static_abstract true true static final e a = absurd (let bad : false ≡ true = e in cc)
not_static_abstract true false true final e a = absurd (let bad : false ≡ true = e in cc)
not_static_abstract true false false final e a = (refl, refl)
not_static_abstract false private static final e a = absurd (let bad : false ≡ true = a in cc)

first_false : (a b : Bool) → (a || b) ≡ false → a ≡ false
first_false true b e = e
first_false false b e = refl

-- a constructor has no result
no_result : (constructor static abstract : Bool) (result : Option Kind) → (not constructor || (not static && (not abstract && is_none result))) ≡ true → constructor ≡ true → result ≡ None
no_result true true abstract result e c = absurd (let bad : false ≡ true = e in cc)
no_result true false true result e c = absurd (let bad : false ≡ true = e in cc)
no_result true false false None e c = refl
no_result true false false (Some kind) e c = absurd (let bad : false ≡ true = e in cc)
no_result false static abstract result e c = absurd (let bad : false ≡ true = c in cc)

native_void : (n : Native) → true ≡ is_construct n → result_of n ≡ None
native_void native.Construct e = refl
native_void native.Write e = refl
native_void native.Print e = refl
native_void native.Read e = absurd (let bad : true ≡ false = e in cc)

-- a name differs from another one both ways
pub other_way : (a b : List ℕ) → bytes_eq a b ≡ false → bytes_eq b a ≡ false
other_way a b e = false_from_ne_true (bytes_eq b a) (λ same. false_is_true (bytes_eq a b) ((bytes_eq-Decides a b).1 (sym ((bytes_eq-Decides b a).0 same))) e)

module _ (files : List ClassFile) where
  -- ---- a method as it stands in a file

  pub record IsMethodOf (class : ℕ) (at : ℕ) (declaration : Declaration) : Type 0 where
    pub has : HasFile files class
    pub method : Member
    pub there : slice_get has.file.methods at ≡ Some method
    pub is : in_file has.file.pool method ≡ declaration

  mapped : (file : ClassFile) (o : Option Member) (declaration : Declaration) → option_map (in_file file.pool) o ≡ Some declaration → (m : Member) × (o ≡ Some m) × (in_file file.pool m ≡ declaration)
  mapped file None declaration e = none_some declaration e
  mapped file (Some m) declaration e = (m, refl, same_some (in_file file.pool m) declaration e)

  pub own_file : (class : ℕ) → 32 ≤ class → file_of files class ≡ slice_get files (class - 32)
  own_file class le = ap (λ b. cond b None (slice_get files (class - first_own))) (le-ltb class first_own le)

  pub method_of_file : (class at : ℕ) (declaration : Declaration) → 32 ≤ class → slice_get (methods_of files class) at ≡ Some declaration → IsMethodOf class at declaration
  method_of_file class at declaration le e =
      by_file (file_of files class) refl
      (sym (ap (λ b. slice_get (cond b (map in_library (natives_of class)) (option_map_or (λ (file : ClassFile). map (in_file file.pool) file.methods) (file_of files class) [])) at) (le-ltb class first_own le)) ∙ e)
    where
      by_file : (o : Option ClassFile) → file_of files class ≡ o → slice_get (option_map_or (λ (file : ClassFile). map (in_file file.pool) file.methods) o []) at ≡ Some declaration → IsMethodOf class at declaration
      by_file None has is = none_some declaration is
      by_file (Some file) has is =
          let m = mapped file (slice_get file.methods at) declaration (sym (slice_get-map (in_file file.pool) file.methods at) ∙ is) in
          let there = file_at files class file has in
          let same : there.file ≡ file = same_some there.file file (sym there.is ∙ sym (own_file class le) ∙ has) in
          record { has = there; method = m.0; there = ap (λ (f : ClassFile). slice_get f.methods at) same ∙ m.1; is = ap (λ (f : ClassFile). in_file f.pool m.0) same ∙ m.2 }

  module _ (read : AllByRecursion IsRead files) where
    pub method_rules : (class at : ℕ) (declaration : Declaration) (stands : IsMethodOf class at declaration) → MethodRules stands.has.file.flags stands.has.file.pool stands.method
    method_rules class at declaration stands = all_at (MethodRules stands.has.file.flags stands.has.file.pool) stands.has.file.methods (rules_of files read class stands.has).methods at stands.method stands.there

    -- a method that is static or private is not abstract
    pub abstract_is : (class at : ℕ) (declaration : Declaration) → 32 ≤ class → slice_get (methods_of files class) at ≡ Some declaration → is_abstract declaration.flags ≡ true → (is_private declaration.flags ≡ false) × (is_static declaration.flags ≡ false)
    abstract_is class at declaration le e abstract =
        let stands = method_of_file class at declaration le e in
        let rules = method_rules class at declaration stands in
        let flags : stands.method.flags ≡ declaration.flags = ap (λ (d : Declaration). d.flags) stands.is in
        let both = not_static_abstract (is_abstract stands.method.flags) (is_private stands.method.flags) (is_static_method stands.has.file.pool (head_in stands.method)) (is_final stands.method.flags) rules.abstract_flags (ap is_abstract flags ∙ abstract) in
        (ap is_private (sym flags) ∙ both.0, ap is_static (sym flags) ∙ first_false (is_static stands.method.flags) (is_initialiser_head stands.has.file.pool (head_in stands.method)) both.1)

    -- a method that is not abstract has code
    pub has_code_where : (id : MemberId) (declaration : Declaration) → slice_get (methods_of files id.class) id.member ≡ Some declaration → is_abstract declaration.flags ≡ false → has_code files id ≡ true
    has_code_where id declaration e concrete =
        elim (cases_lt id.class first_own) [
          | inl library ↦ ap (λ b. b || option_map_or (λ (file : ClassFile). option_map_or (λ (m : Member). is_some m.code) (slice_get file.methods id.member) false) (file_of files id.class) false) (lt-ltb id.class first_own library)
          | inr own ↦
              let stands = method_of_file id.class id.member declaration own e in
              let rules = method_rules id.class id.member declaration stands in
              let flags : is_abstract stands.method.flags ≡ false = ap (λ (d : Declaration). is_abstract d.flags) stands.is ∙ concrete in
              let code = subst (λ b. HasCode b stands.method.code) flags rules.has_code in
              ap (λ b. b || option_map_or (λ (file : ClassFile). option_map_or (λ (m : Member). is_some m.code) (slice_get file.methods id.member) false) (file_of files id.class) false) (le-ltb id.class first_own own)
              ∙ ap (λ (o : Option ClassFile). option_map_or (λ (file : ClassFile). option_map_or (λ (m : Member). is_some m.code) (slice_get file.methods id.member) false) o false) (own_file id.class own ∙ stands.has.is)
              ∙ ap (λ (o : Option Member). option_map_or (λ (m : Member). is_some m.code) o false) stands.there
              ∙ ap (λ (o : Option CodeAttr). is_some o) code.1
        ]

    -- an interface's methods are public and abstract, but for its initialiser
    pub interface_method : (class at : ℕ) (declaration : Declaration) → 32 ≤ class → slice_get (methods_of files class) at ≡ Some declaration → is_interface (flags_of files class) ≡ true → bytes_eq initialiser_name declaration.name ≡ false
        → (is_abstract declaration.flags ≡ true) × (is_private declaration.flags ≡ false)
    interface_method class at declaration le e interface named =
        let stands = method_of_file class at declaration le e in
        let rules = method_rules class at declaration stands in
        let flags : stands.method.flags ≡ declaration.flags = ap (λ (d : Declaration). d.flags) stands.is in
        let both = by_rule (is_interface stands.has.file.flags) (is_initialiser_head stands.has.file.pool (head_in stands.method)) (is_public stands.method.flags) (is_abstract stands.method.flags) rules.of_interface (ap is_interface (sym stands.has.flags) ∙ interface)
        (other stands.has.file.pool (utf8_at stands.has.file.pool stands.method.name) (ap (λ (d : Declaration). bytes_eq initialiser_name d.name) stands.is ∙ named)) in
        (ap is_abstract (sym flags) ∙ both.1, ap is_private (sym flags) ∙ not_private (is_public stands.method.flags) (is_private stands.method.flags) _ rules.access both.0)
      where
        by_rule : (interface initialiser public abstract : Bool) → (not interface || (initialiser || (public && abstract))) ≡ true → interface ≡ true → initialiser ≡ false → (public ≡ true) × (abstract ≡ true)
        by_rule true true public abstract e i n = absurd (let bad : true ≡ false = n in cc)
        by_rule true false true true e i n = (refl, refl)
        by_rule true false true false e i n = absurd (let bad : false ≡ true = e in cc)
        by_rule true false false abstract e i n = absurd (let bad : false ≡ true = e in cc)
        by_rule false initialiser public abstract e i n = absurd (let bad : false ≡ true = i in cc)

        other : (pool : Slots) (o : Option (List ℕ)) → bytes_eq initialiser_name (unwrap_or o []) ≡ false → is_named initialiser_name o ≡ false
        other pool None e = refl
        other pool (Some name) e = other_way initialiser_name name e

        not_private : (public private rest : Bool) → (not (public && private) && rest) ≡ true → public ≡ true → private ≡ false
        not_private true true rest e p = absurd (let bad : false ≡ true = e in cc)
        not_private true false rest e p = refl
        not_private false private rest e p = absurd (let bad : false ≡ true = p in cc)

    -- ---- what runs

    -- the code of a method that has it
    code_there : (id : MemberId) (declaration : Declaration) (own : 32 ≤ id.class) (stands : IsMethodOf id.class id.member declaration) → has_code files id ≡ true → (code : CodeAttr) × (stands.method.code ≡ Some code)
    code_there id declaration own stands e =
        is_there stands.method.code
        (sym (ap (λ b. b || option_map_or (λ (file : ClassFile). option_map_or (λ (m : Member). is_some m.code) (slice_get file.methods id.member) false) (file_of files id.class) false) (le-ltb id.class first_own own)
        ∙ ap (λ (o : Option ClassFile). option_map_or (λ (file : ClassFile). option_map_or (λ (m : Member). is_some m.code) (slice_get file.methods id.member) false) o false) (own_file id.class own ∙ stands.has.is)
        ∙ ap (λ (o : Option Member). option_map_or (λ (m : Member). is_some m.code) o false) stands.there) ∙ e)
      where
        is_there : (o : Option CodeAttr) → is_some o ≡ true → (code : CodeAttr) × (o ≡ Some code)
        is_there None e = absurd (let bad : false ≡ true = e in cc)
        is_there (Some code) e = (code, refl)

    -- what a text says is the type that is found
    pub text_type : (o : Option (List ℕ)) (text : List ℕ) (type found : Descriptor) → unwrap_or o [] ≡ text → method_of text ≡ Some type → option_and_then method_of o ≡ Some found → found ≡ type
    text_type None text type found is e f = none_some found f
    text_type (Some t) text type found is e f = same_some found type (sym f ∙ ap method_of is ∙ e)

    no_initialiser : (o : Option (List ℕ)) (name : List ℕ) → unwrap_or o [] ≡ name → bytes_eq initialiser_name name ≡ false → option_map_or (bytes_eq initialiser_name) o false ≡ false
    no_initialiser None name is e = refl
    no_initialiser (Some n) name is e = ap (bytes_eq initialiser_name) is ∙ e

    named_constructor : (o : Option (List ℕ)) (name : List ℕ) → unwrap_or o [] ≡ name → bytes_eq name constructor_name ≡ true → is_named constructor_name o ≡ true
    named_constructor None name is e = absurd (let bad : [] ≡ constructor_name = is ∙ (bytes_eq-Decides name constructor_name).0 e in cc)
    named_constructor (Some n) name is e = ap (λ (m : List ℕ). bytes_eq m constructor_name) is ∙ e

-- a method that is declared with the name and the type that a call names
pub record IsCalled (files : List ClassFile) (id : MemberId) (used : MethodUse) (on_object : Bool) : Type 0 where
  pub declaration : Declaration
  pub there : slice_get (methods_of files id.class) id.member ≡ Some declaration
  pub name_is : declaration.name ≡ used.name
  pub type : method_of declaration.descriptor ≡ Some used.descriptor
  pub named : bytes_eq initialiser_name used.name ≡ false
  pub static : is_static declaration.flags ≡ not on_object

module _ (world : World) (read : AllByRecursion IsRead world.files) (are : AreBodies world.files world.bodies) where
  -- a method of the set's own classes with code runs a body
  pub runs_body : (id : MemberId) (used : MethodUse) (on_object : Bool) (called : IsCalled world.files id used on_object) → 32 ≤ id.class → has_code world.files id ≡ true → RunsBody world id used on_object
  runs_body id used on_object called own has =
      let stands = method_of_file world.files id.class id.member called.declaration own called.there in
      let code = code_there world.files read id called.declaration own stands has in
      let file = all_at IsRead world.files read (id.class - 32) stands.has.file stands.has.is in
      let fits = all_at FitsMethod stands.has.file.methods file.codes id.member stands.method stands.there code.0 code.1 in
      let decodes : insns_in (decoded code.0.code) ≡ Some fits.insns = ap insns_in fits.is in
      let names : unwrap_or (utf8_at stands.has.file.pool stands.method.name) [] ≡ used.name = ap (λ (d : Declaration). d.name) stands.is ∙ called.name_is in
      let plain : is_initialiser stands.has.file.pool stands.method ≡ false = no_initialiser world.files read (utf8_at stands.has.file.pool stands.method.name) used.name names called.named in
      let found = body_found world.files world.bodies are id own stands.has.file stands.has.is stands.method code.0 fits.insns stands.there plain code.1 decodes in
      let of = body_of world.files world.bodies are found.body found.there in
      let class : of.coded.class ≡ id.class = sym of.is.class ∙ found.class in
      let position : of.coded.position ≡ id.member = sym of.is.method ∙ found.method in
      let same_file : of.coded.file ≡ stands.has.file = same_some of.coded.file stands.has.file (sym of.stands.file ∙ ap (λ (n : ℕ). slice_get world.files (n - 32)) class ∙ stands.has.is) in
      let same_method : of.coded.method ≡ stands.method =
      same_some of.coded.method stands.method (sym of.stands.method ∙ ap (λ (n : ℕ). slice_get of.coded.file.methods n) position ∙ ap (λ (f : ClassFile). slice_get f.methods id.member) same_file ∙ stands.there) in
      let text : unwrap_or (utf8_at of.coded.file.pool of.coded.method.descriptor) [] ≡ called.declaration.descriptor =
      ap (λ (f : ClassFile). unwrap_or (utf8_at f.pool of.coded.method.descriptor) []) same_file ∙ ap (λ (m : Member). unwrap_or (utf8_at stands.has.file.pool m.descriptor) []) same_method ∙ ap (λ (d : Declaration). d.descriptor) stands.is in
      let type : record { params = found.body.params; result = found.body.result } ≡ used.descriptor =
      text_type world.files read (utf8_at of.coded.file.pool of.coded.method.descriptor) called.declaration.descriptor used.descriptor (record { params = found.body.params; result = found.body.result }) text called.type of.is.type in
      let flags : is_static of.coded.method.flags ≡ not on_object = ap (λ (m : Member). is_static m.flags) same_method ∙ ap (λ (d : Declaration). is_static d.flags) stands.is ∙ called.static in
      record {
        none = ap (λ (l : List Native). slice_get l id.member) (no_natives id.class own);
        body = found.body;
        found = found.found;
        of_set = stands_of_set world.files read of.coded found.body of.stands of.is;
        class = found.class;
        method = found.method;
        params = ap (λ (d : Descriptor). d.params) type;
        result = ap (λ (d : Descriptor). d.result) type;
        object = of.is.instance ∙ ap not flags ∙ double_not on_object;
        constructor =
            ap (λ (n : ℕ). option_map_or (λ (method : Declaration). bytes_eq method.name constructor_name) (slice_get (methods_of world.files n) found.body.method) false) found.class
            ∙ ap (λ (n : ℕ). option_map_or (λ (method : Declaration). bytes_eq method.name constructor_name) (slice_get (methods_of world.files id.class) n) false) found.method
            ∙ ap (λ (o : Option Declaration). option_map_or (λ (method : Declaration). bytes_eq method.name constructor_name) o false) called.there
            ∙ ap (λ (name : List ℕ). bytes_eq name constructor_name) called.name_is;
      }

  void_body : (id : MemberId) (used : MethodUse) (on_object : Bool) → IsCalled world.files id used on_object → 32 ≤ id.class → is_named_constructor used ≡ true → used.descriptor.result ≡ None
  void_body id used on_object called own named =
      let stands = method_of_file world.files id.class id.member called.declaration own called.there in
      let rules = method_rules world.files read id.class id.member called.declaration stands in
      let name : unwrap_or (utf8_at stands.has.file.pool stands.method.name) [] ≡ used.name = ap (λ (d : Declaration). d.name) stands.is ∙ called.name_is in
      let text : unwrap_or (utf8_at stands.has.file.pool stands.method.descriptor) [] ≡ called.declaration.descriptor = ap (λ (d : Declaration). d.descriptor) stands.is in
      let type : rules.type ≡ used.descriptor = text_type world.files read (utf8_at stands.has.file.pool stands.method.descriptor) called.declaration.descriptor used.descriptor rules.type text called.type rules.typed in
      ap (λ (d : Descriptor). d.result) (sym type)
      ∙ no_result (is_constructor_head stands.has.file.pool (head_in stands.method)) (is_static stands.method.flags) (is_abstract stands.method.flags) rules.type.result rules.constructor
      (named_constructor world.files read (utf8_at stands.has.file.pool stands.method.name) used.name name named)

  -- a constructor that a call names has no result
  pub constructor_void : (id : MemberId) (used : MethodUse) → IsCalled world.files id used true → is_named_constructor used ≡ true → used.descriptor.result ≡ None
  constructor_void id used called named =
      elim (cases_lt id.class 32) [
        | inl library ↦
            let found = library_method world.files id.class id.member called.declaration library called.there in
            let run = runs_native world id used true found.native found.there (ap (λ (d : Declaration). method_of d.descriptor) found.is ∙ called.type) (ap (λ (d : Declaration). is_static d.flags) found.is ∙ called.static) in
            run.result ∙ native_void run.found run.object
        | inr own ↦ void_body id used true called own named
      ]

  pub runs : (id : MemberId) (used : MethodUse) (on_object : Bool) → IsCalled world.files id used on_object → has_code world.files id ≡ true → Runs world id used on_object
  runs id used on_object called has =
      elim (cases_lt id.class 32) [
        | inl library ↦
            let found = library_method world.files id.class id.member called.declaration library called.there in
            inl (runs_native world id used on_object found.native found.there (ap (λ (d : Declaration). method_of d.descriptor) found.is ∙ called.type) (ap (λ (d : Declaration). is_static d.flags) found.is ∙ called.static))
        | inr own ↦ inr (runs_body id used on_object called own has)
      ]
