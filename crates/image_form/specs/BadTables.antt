-- What a bad entry of a table is, in words of the format: what comes before it is good, and nothing by the
-- rules begins where it is.
use Rattle.std.specs.Prelude.{◌≡◌, ◌⊎◌, ℕ, ◌^◌, ◌<◌, ◌≤◌, List, [], ◌∷◌, ◌++◌, length}
use Rattle.std.specs.List.{flat_map, AllByRecursion}
use Rattle.image_instr.specs.Insn.{u2}
use Rattle.image_instr.specs.declared.signature.Sig.{Sig}
use Rattle.image_form.specs.declared.record.TypeEntry.{TypeEntry}
use Rattle.image_form.specs.declared.record.Method.{Method}
use Rattle.image_form.specs.declared.refusal.FormRefusal.TheVariants.{BadTable}
use Rattle.image_form.specs.Format.{magic, counted, type_bytes, sig_bytes, method_bytes}
use Rattle.image_form.specs.Grammar.{EachAfter, Each, IsType, IsSelector, IsMethod, HasSignatures, IsMain, most_types, most_methods}
use Rattle.image_form.specs.Refused.{IsRefused}
pub use Rattle.byte_read.specs.Bytes.{AreBytes}

-- no such part begins with these bytes, whatever follows them
abbrev pub BeginsNone : {A : Type 0} → (A → List ℕ) → (A → Type 0) → List ℕ → Type 0
BeginsNone {A} bytes_of Is bytes = (part : A) (more suffix : List ℕ) → Is part → bytes ++ more ≡ bytes_of part ++ suffix → ⊥

-- a count of at most so many
abbrev pub AtMost : ℕ → ℕ → Type 0
AtMost most count = count ≤ most

-- ---- lists

-- after good items, fewer than the count, none by the rules begins; the index counts the items before
pub record HasBadItem {A : Type 0} (IsCount : ℕ → Type 0) (Is : List A → A → Type 0) (item_bytes : A → List ℕ) (bytes : List ℕ) (index : ℕ) : Type 0 where
  pub count : ℕ
  pub items : List A
  pub rest : List ℕ
  pub count_is : IsCount count
  pub fewer : length items < count
  pub index_is : index ≡ length items
  pub encoded : bytes ≡ u2 count ++ (flat_map item_bytes items ++ rest)
  pub are_good : EachAfter Is [] items
  pub none : BeginsNone item_bytes (Is items) rest

-- the list has a count that breaks its rule, at index 0, or an item that does
abbrev pub HasBadList : {A : Type 0} → (ℕ → Type 0) → (List A → A → Type 0) → (A → List ℕ) → List ℕ → ℕ → Type 0
HasBadList IsCount Is item_bytes bytes index = ((index ≡ 0) × BeginsNone u2 IsCount bytes) ⊎ HasBadItem IsCount Is item_bytes bytes index

-- ---- tables that are good

abbrev pub AreTypes : List TypeEntry → Type 0
AreTypes types = (length types ≤ most_types) × EachAfter IsType [] types

abbrev pub AreSelectors : List Sig → Type 0
AreSelectors selectors = (length selectors ≤ 16384) × Each IsSelector selectors

abbrev pub AreMethods : List TypeEntry → List Method → Type 0
AreMethods types methods = (length methods ≤ most_methods) × Each (IsMethod types) methods

abbrev pub AreCells : List ℕ → Type 0
AreCells cells = (length cells ≤ 16384) × Each (λ cell. cell < 2 ^ 16) cells

-- ---- the tables, one by one, in the bytes after the version

-- the types
abbrev pub HasBadType : List ℕ → ℕ → Type 0
HasBadType bytes index = HasBadList (AtMost most_types) IsType type_bytes bytes index

-- good types, and then the selectors
pub record HasBadSelector (bytes : List ℕ) (index : ℕ) : Type 0 where
  pub types : List TypeEntry
  pub rest : List ℕ
  pub are_types : AreTypes types
  pub encoded : bytes ≡ counted type_bytes types ++ rest
  pub bad : HasBadList (AtMost 16384) (λ before selector. IsSelector selector) sig_bytes rest index

-- good types and selectors, and then the methods
pub record HasBadMethod (bytes : List ℕ) (index : ℕ) : Type 0 where
  pub types : List TypeEntry
  pub selectors : List Sig
  pub rest : List ℕ
  pub are_types : AreTypes types
  pub are_selectors : AreSelectors selectors
  pub encoded : bytes ≡ counted type_bytes types ++ (counted sig_bytes selectors ++ rest)
  pub bad : HasBadList (AtMost most_methods) (λ before method. IsMethod types method) method_bytes rest index

-- the three tables, all good, and these bytes after them
pub record HasTablesThen (bytes : List ℕ) (types : List TypeEntry) (selectors : List Sig) (methods : List Method) (rest : List ℕ) : Type 0 where
  pub are_types : AreTypes types
  pub are_selectors : AreSelectors selectors
  pub are_methods : AreMethods types methods
  pub encoded : bytes ≡ counted type_bytes types ++ (counted sig_bytes selectors ++ (counted method_bytes methods ++ rest))

-- good tables, and then the count of the references, or after it that of the cells
pub record HasBadStatics (bytes : List ℕ) : Type 0 where
  pub types : List TypeEntry
  pub selectors : List Sig
  pub methods : List Method
  pub rest : List ℕ
  pub tables : HasTablesThen bytes types selectors methods rest
  pub bad : BeginsNone u2 (AtMost 16384) rest ⊎ ((refs : ℕ) × (after : List ℕ) × (refs ≤ 16384) × (rest ≡ u2 refs ++ after) × BeginsNone u2 (AtMost 16384) after)

-- the statics too are good, and these bytes after them
pub record HasStaticsThen (bytes : List ℕ) (types : List TypeEntry) (selectors : List Sig) (methods : List Method) (rest : List ℕ) : Type 0 where
  pub static_refs : ℕ
  pub static_cells : List ℕ
  pub few_refs : static_refs ≤ 16384
  pub are_cells : AreCells static_cells
  pub tables : HasTablesThen bytes types selectors methods (u2 static_refs ++ (counted u2 static_cells ++ rest))

-- good tables and statics, and then no id of a method that may be main
pub record HasBadMain (bytes : List ℕ) : Type 0 where
  pub types : List TypeEntry
  pub selectors : List Sig
  pub methods : List Method
  pub rest : List ℕ
  pub statics : HasStaticsThen bytes types selectors methods rest
  pub none : BeginsNone u2 (IsMain methods) rest

-- all parts are good, and the type at the index is the first with a row whose selector and method differ
pub record HasBadRows (bytes : List ℕ) (index : ℕ) : Type 0 where
  pub before : List TypeEntry
  pub entry : TypeEntry
  pub after : List TypeEntry
  pub selectors : List Sig
  pub methods : List Method
  pub main : ℕ
  pub rest : List ℕ
  pub statics : HasStaticsThen bytes (before ++ entry ∷ after) selectors methods (u2 main ++ rest)
  pub is_main : IsMain methods main
  pub matched : Each (HasSignatures selectors methods) before
  pub unmatched : HasSignatures selectors methods entry → ⊥
  pub index_is : index ≡ length before

-- which table it is: 0 types, 1 selectors, 2 methods, 3 statics, 4 main; after main the rows of the types
pub data IsBadTable (bytes : List ℕ) (table index : ℕ) : Type 0 where
  types : table ≡ 0 → HasBadType bytes index → IsBadTable bytes table index
  selectors : table ≡ 1 → HasBadSelector bytes index → IsBadTable bytes table index
  methods : table ≡ 2 → HasBadMethod bytes index → IsBadTable bytes table index
  statics : table ≡ 3 → index ≡ 0 → HasBadStatics bytes → IsBadTable bytes table index
  main : table ≡ 4 → index ≡ 0 → HasBadMain bytes → IsBadTable bytes table index
  rows : table ≡ 0 → HasBadRows bytes index → IsBadTable bytes table index

-- after the magic and version 1 the table has such an entry
pub record HasBadTable (bytes : List ℕ) (table index : ℕ) : Type 0 where
  pub rest : List ℕ
  pub encoded : bytes ≡ magic ++ (u2 1 ++ rest)
  pub bad : IsBadTable rest table index

-- bytes that are refused for an entry of a table have it, after good ones
abbrev pub BadTableIsOfEntry : Type 0
BadTableIsOfEntry = (bytes : List ℕ) (table index : ℕ) → AreBytes bytes → IsRefused bytes (BadTable table index) → HasBadTable bytes table index
