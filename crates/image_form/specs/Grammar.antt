-- Which images an infusion of version 1 may hold, and what it is to be encoded: each rule is a field.
use Rattle.std.specs.Prelude.{◌≡◌, ◌≢◌, ◌⊎◌, ℕ, ◌+◌, ◌-◌, ◌^◌, ◌<◌, ◌≤◌, ◌==◌, Bool, true, false, ◌||◌, IsTrue, nat_lt, List, [], ◌∷◌, ◌++◌, length, slice_get, Option, Some, None}
use Rattle.std.specs.List.{list_any}
use Rattle.library.specs.Classes.{first_own}
use Rattle.image_instr.specs.declared.signature.Sig.{Sig}
use Rattle.image_form.specs.declared.record.Image.{Image}
use Rattle.image_form.specs.declared.record.TypeEntry.{TypeEntry}
use Rattle.image_form.specs.declared.record.TypeEntry.TheVariants.{Class, RefArray, NumArray}
use Rattle.image_form.specs.declared.record.ClassEntry.{ClassEntry}
use Rattle.image_form.specs.declared.record.DispatchRow.{DispatchRow}
use Rattle.image_form.specs.declared.record.Method.{Method}
use Rattle.image_form.specs.declared.record.HandlerEntry.{HandlerEntry}
use Rattle.image_form.specs.Library.{signature, names_type, names_class, names_parent, names_interface, refs_of, nums_of, signature_in}
use Rattle.image_form.specs.Format.{encoding}

-- ---- lists

-- each of the items meets this with the items before it, where these stand before all of them
abbrev pub EachAfter : {A : Type 0} → (List A → A → Type 0) → List A → List A → Type 0
EachAfter P before [] = Unit {0}
EachAfter P before (item ∷ items) = P before item × EachAfter P (before ++ item ∷ []) items

-- each of the items meets this
abbrev pub Each : {A : Type 0} → (A → Type 0) → List A → Type 0
Each P items = EachAfter (λ before item. P item) [] items

-- ---- types

-- the selector is above that of a row, where there is one
abbrev pub is_above : Option DispatchRow → ℕ → Bool
is_above None selector = true
is_above (Some row) selector = nat_lt row.selector selector

-- a row: its selector is above that of the row before it
pub record IsRow (before : List DispatchRow) (row : DispatchRow) : Type 0 where
  pub selector_fits : row.selector < 2 ^ 16
  pub rises : IsTrue (is_above (slice_get before (length before - 1)) row.selector)
  pub method_fits : row.method < 2 ^ 16

-- the id of an interface
abbrev pub IsInterface : List TypeEntry → ℕ → Type 0
IsInterface types id = (id < 2 ^ 16) × IsTrue (names_interface types id)

-- a class or an interface after these types
pub record IsClass (types : List TypeEntry) (class : ClassEntry) : Type 0 where
  pub parent_fits : class.parent < 2 ^ 16
  pub parent_is : IsTrue (names_parent types class.parent)
  pub flags_are : class.flags ≤ 3
  pub refs_cover : refs_of types class.parent ≤ class.refs
  pub nums_cover : nums_of types class.parent ≤ class.nums
  pub object_fits : 2 + (class.refs + class.nums) ≤ 32767
  pub interfaces_fit : length class.interfaces < 2 ^ 16
  pub interfaces_are : Each (IsInterface types) class.interfaces
  pub rows_fit : length class.rows < 2 ^ 16
  pub rows_hold : (class.flags ≡ 0) ⊎ (class.rows ≡ [])
  pub rows_are : EachAfter IsRow [] class.rows
  pub name_fits : length class.name < 2 ^ 16

-- the entry is the array of elements of this type
abbrev pub is_ref_array : ℕ → TypeEntry → Bool
is_ref_array element (RefArray of) = of == element
is_ref_array element (Class class) = false
is_ref_array element (NumArray kind) = false

-- the entry is the array of whole numbers of this kind
abbrev pub is_num_array : ℕ → TypeEntry → Bool
is_num_array kind (NumArray other) = other == kind
is_num_array kind (Class class) = false
is_num_array kind (RefArray element) = false

-- the kinds of whole numbers: boolean, char, byte, short and int
abbrev pub is_kind : ℕ → Bool
is_kind kind = (kind == 4 || kind == 5) || (kind == 8 || (kind == 9 || kind == 10))

-- an array of elements of a type before it, and the first such array
pub record IsRefArray (types : List TypeEntry) (element : ℕ) : Type 0 where
  pub element_fits : element < 2 ^ 16
  pub element_is : IsTrue (names_type types element)
  pub is_first : list_any (is_ref_array element) types ≡ false

-- an array of whole numbers, and the first such array
pub record IsNumArray (types : List TypeEntry) (kind : ℕ) : Type 0 where
  pub kind_is : IsTrue (is_kind kind)
  pub is_first : list_any (is_num_array kind) types ≡ false

-- a type after these types
abbrev pub IsType : List TypeEntry → TypeEntry → Type 0
IsType types (Class class) = IsClass types class
IsType types (RefArray element) = IsRefArray types element
IsType types (NumArray kind) = IsNumArray types kind

-- ---- selectors and methods

-- a signature
pub record IsSignature (sig : Sig) : Type 0 where
  pub refs_fit : sig.refs < 2 ^ 8
  pub cells_fit : sig.cells < 2 ^ 16
  pub result_is : sig.result ≤ 3

-- a selector has a receiver
pub record IsSelector (sig : Sig) : Type 0 where
  pub has_receiver : 1 ≤ sig.refs
  pub sig_is : IsSignature sig

-- a handler of code over these types; 65,535 stands for any class
pub record IsHandler (types : List TypeEntry) (handler : HandlerEntry) : Type 0 where
  pub start_fits : handler.start < 2 ^ 16
  pub end_fits : handler.end < 2 ^ 16
  pub target_fits : handler.target < 2 ^ 16
  pub class_fits : handler.class < 2 ^ 16
  pub class_is : (handler.class ≡ 65535) ⊎ IsTrue (names_class types handler.class)

-- a method with code over these types; with the 4 cells of its header a frame has at most 32,767
pub record IsMethod (types : List TypeEntry) (method : Method) : Type 0 where
  pub sig_is : IsSignature method.sig
  pub refs_cover : method.sig.refs ≤ method.ref_locals
  pub cells_cover : method.sig.cells ≤ method.cell_locals
  pub locals_fit : method.ref_locals + method.cell_locals ≤ method.body
  pub body_fits : method.body ≤ 32763
  pub code_some : 1 ≤ length method.code
  pub code_fits : length method.code < 2 ^ 16
  pub handlers_fit : length method.handlers < 2 ^ 16
  pub handlers_are : Each (IsHandler types) method.handlers

-- ---- the image

-- the row's selector and its method are there and have one signature
pub record HasOneSignature (selectors : List Sig) (methods : List Method) (row : DispatchRow) : Type 0 where
  pub sig : Sig
  pub selector_is : slice_get selectors row.selector ≡ Some sig
  pub method_is : signature_in methods row.method ≡ Some sig

-- the rows of a class have their signatures
abbrev pub HasSignatures : List Sig → List Method → TypeEntry → Type 0
HasSignatures selectors methods (Class class) = Each (HasOneSignature selectors methods) class.rows
HasSignatures selectors methods (RefArray element) = Unit {0}
HasSignatures selectors methods (NumArray kind) = Unit {0}

-- main is a method of the image without arguments and result
pub record IsMain (methods : List Method) (main : ℕ) : Type 0 where
  pub method : Method
  pub main_fits : main < 2 ^ 16
  pub not_library : first_own ≤ main
  pub method_is : slice_get methods (main - first_own) ≡ Some method
  pub sig_is : method.sig ≡ signature 0 0 0

-- with the 32 ids of the library there are at most 4,096 types and 16,384 methods
abbrev pub most_types : ℕ
most_types = 4064

abbrev pub most_methods : ℕ
most_methods = 16352

-- an image of the grammar
pub record IsImage (image : Image) : Type 0 where
  pub version_is : image.version ≡ 1
  pub types_fit : length image.types ≤ most_types
  pub types_are : EachAfter IsType [] image.types
  pub selectors_fit : length image.selectors ≤ 16384
  pub selectors_are : Each IsSelector image.selectors
  pub methods_fit : length image.methods ≤ most_methods
  pub methods_are : Each (IsMethod image.types) image.methods
  pub static_refs_fit : image.static_refs ≤ 16384
  pub static_cells_fit : length image.static_cells ≤ 16384
  pub static_cells_are : Each (λ cell. cell < 2 ^ 16) image.static_cells
  pub main_is : IsMain image.methods image.main
  pub rows_are : Each (HasSignatures image.selectors image.methods) image.types

-- ---- its encoding

-- the image is of the grammar, and the bytes are its encoding
abbrev pub IsEncoded : List ℕ → Image → Type 0
IsEncoded bytes image = IsImage image × (bytes ≡ encoding image)

-- the encoding of an image is a proper prefix of the bytes
pub record IsFollowed (bytes : List ℕ) : Type 0 where
  pub image : Image
  pub suffix : List ℕ
  pub of_grammar : IsImage image
  pub encoded : bytes ≡ encoding image ++ suffix
  pub proper : suffix ≢ []
