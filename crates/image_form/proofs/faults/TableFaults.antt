-- What the entries of the tables are refused for: that bytes are missed, or a rule of their own place.
use Rattle.std.proofs.Common.{◌≡◌, ◌⊎◌, ℕ, ◌+◌, ◌-◌, ◌&&◌, ◌||◌, not, Bool, leb, eqb, List, [], length, refl, inl, inr}
use Rattle.std.specs.Prelude.{slice_get}
use Rattle.std.specs.List.{list_any}
use Rattle.image_instr.specs.declared.signature.Sig.{Sig}
use Rattle.image_form.specs.declared.record.TypeEntry.{TypeEntry}
use Rattle.image_form.specs.declared.record.TypeEntry.TheVariants.{Class, RefArray, NumArray}
use Rattle.image_form.specs.declared.record.DispatchRow.{DispatchRow}
use Rattle.image_form.specs.declared.record.Method.{Method}
use Rattle.image_form.specs.declared.record.HandlerEntry.{HandlerEntry}
use Rattle.image_form.specs.declared.refusal.FormRefusal.{FormRefusal}
use Rattle.image_form.specs.declared.refusal.FormRefusal.TheVariants.{Truncated}
use Rattle.image_form.specs.Library.{signature, names_type, names_class, names_parent, names_interface, refs_of, nums_of}
use Rattle.image_form.specs.Grammar.{is_above, is_ref_array, is_num_array, is_kind}
use Rattle.image_form.specs.Reading.{u1_at, u2_at, tested, in_types, in_selectors, in_methods, interface_at, interfaces_at, row_at, rows_at, name_at, refs_at, nums_at, class_at, element_at, kind_at, tagged_at, type_at, signature_at, selector_at, handler_at, handlers_at, code_at, frame_at, method_at}
use Rattle.image_form.proofs.faults.Raises.{Raises, failing, either, first, last, tested as tested_raises, u1_raises, u2_raises, slice_raises, items_raise}

-- bytes are missed, or this is the refusal
abbrev pub IsCutOr : FormRefusal → FormRefusal → Type 0
IsCutOr d why = (why ≡ Truncated) ⊎ (why ≡ d)

module _ (d : FormRefusal) where
  cut : IsCutOr d Truncated
  cut = inl refl

  own : IsCutOr d d
  own = inr refl

  pub u1_tested : (test : ℕ → Bool) → Raises (IsCutOr d) (λ bytes. tested test d (u1_at bytes))
  u1_tested test = tested_raises (u1_raises cut) test d own

  pub u2_tested : (test : ℕ → Bool) → Raises (IsCutOr d) (λ bytes. tested test d (u2_at bytes))
  u2_tested test = tested_raises (u2_raises cut) test d own

  -- a signature, and the length of a name
  signature_raises : (refs : ℕ) → Raises (IsCutOr d) (signature_at refs d)
  unfolding signature_at
  signature_raises refs = first (u2_raises cut) (λ cells. last (u1_tested (λ result. leb result 3)) (λ result. signature refs cells result))

  name_raises : Raises (IsCutOr d) name_at
  unfolding name_at
  name_raises = first (u2_raises cut) (λ size. slice_raises cut size)

-- ---- types

module _ (types : List TypeEntry) where
  abbrev this : FormRefusal
  this = in_types (length types)

  interface_raises : (before : List ℕ) → Raises (IsCutOr this) (interface_at types before)
  unfolding interface_at
  interface_raises before = u2_tested this (names_interface types)

  interfaces_raise : Raises (IsCutOr this) (interfaces_at types)
  unfolding interfaces_at
  interfaces_raise = first (u2_raises (cut this)) (λ count. items_raise interface_raises count [])

  row_raises : (before : List DispatchRow) → Raises (IsCutOr this) (row_at (length types) before)
  unfolding row_at
  row_raises before =
      first (u2_tested this (is_above (slice_get before (length before - 1)))) (λ selector. last (u2_raises (cut this)) (λ method. record { selector = selector; method = method }))

  rows_raise : (flags : ℕ) → Raises (IsCutOr this) (rows_at (length types) flags)
  unfolding rows_at
  rows_raise flags = first (u2_tested this (λ count. eqb flags 0 || eqb count 0)) (λ count. items_raise row_raises count [])

  refs_raise : (parent : ℕ) → Raises (IsCutOr this) (refs_at types parent)
  refs_raise parent = u2_tested this (leb (refs_of types parent))

  nums_raise : (parent refs : ℕ) → Raises (IsCutOr this) (nums_at types parent refs)
  nums_raise parent refs = u2_tested this (λ nums. leb (nums_of types parent) nums && leb (2 + (refs + nums)) 32767)

  class_raises : Raises (IsCutOr this) (class_at types)
  unfolding class_at
  class_raises =
      first (u2_tested this (names_parent types)) (λ parent.
      first (u1_tested this (λ flags. leb flags 3)) (λ flags.
      first (refs_raise parent) (λ refs.
      first (nums_raise parent refs) (λ nums.
      first interfaces_raise (λ interfaces.
      first (rows_raise flags) (λ rows.
      last (name_raises this) (λ name. record { parent = parent; flags = flags; refs = refs; nums = nums; interfaces = interfaces; rows = rows; name = name })))))))

  element_raises : Raises (IsCutOr this) (element_at types)
  unfolding element_at
  element_raises = u2_tested this (λ element. names_type types element && not (list_any (is_ref_array element) types))

  kind_raises : Raises (IsCutOr this) (kind_at types)
  unfolding kind_at
  kind_raises = u1_tested this (λ kind. is_kind kind && not (list_any (is_num_array kind) types))

  tagged_type_raises : (tag : ℕ) → Raises (IsCutOr this) (tagged_at types tag)
  unfolding tagged_at
  tagged_type_raises tag =
      either (eqb tag 0) (last class_raises (λ class. Class class))
      (either (eqb tag 1) (last element_raises (λ element. RefArray element))
      (either (eqb tag 2) (last kind_raises (λ kind. NumArray kind)) (failing this (own this))))

  pub type_raises : Raises (IsCutOr this) (type_at types)
  unfolding type_at
  type_raises = first (u1_raises (cut this)) tagged_type_raises

-- ---- selectors

pub selector_raises : (before : List Sig) → Raises (IsCutOr (in_selectors (length before))) (selector_at before)
unfolding selector_at
selector_raises before = first (u1_tested (in_selectors (length before)) (leb 1)) (λ refs. signature_raises (in_selectors (length before)) refs)

-- ---- methods

module _ (types : List TypeEntry) (index : ℕ) where
  abbrev here : FormRefusal
  here = in_methods index

  handler_raises : (before : List HandlerEntry) → Raises (IsCutOr here) (handler_at types index before)
  unfolding handler_at
  handler_raises before =
      first (u2_raises (cut here)) (λ start. first (u2_raises (cut here)) (λ end. first (u2_raises (cut here)) (λ target.
      last (u2_tested here (λ class. eqb class 65535 || names_class types class)) (λ class. record { start = start; end = end; target = target; class = class }))))

  handlers_raise : Raises (IsCutOr here) (handlers_at types index)
  unfolding handlers_at
  handlers_raise = first (u2_raises (cut here)) (λ count. items_raise handler_raises count [])

  code_raises : Raises (IsCutOr here) (code_at index)
  unfolding code_at
  code_raises = first (u2_tested here (leb 1)) (λ size. slice_raises (cut here) size)

  frame_raises : (sig : Sig) → Raises (IsCutOr here) (frame_at index sig)
  unfolding frame_at
  frame_raises sig =
      first (u2_tested here (leb sig.refs)) (λ ref_locals.
      first (u2_tested here (leb sig.cells)) (λ cell_locals.
      last (u2_tested here (λ body. leb (ref_locals + cell_locals) body && leb body 32763)) (λ body. (ref_locals, cell_locals, body))))

pub method_raises : (types : List TypeEntry) (before : List Method) → Raises (IsCutOr (in_methods (length before))) (method_at types before)
unfolding method_at
method_raises types before =
    let i = length before in
    first (u1_raises (cut (in_methods i))) (λ refs.
    first (signature_raises (in_methods i) refs) (λ sig.
    first (frame_raises types i sig) (λ frame.
    first (code_raises types i) (λ code.
    last (handlers_raise types i) (λ handlers.
    record { sig = sig; ref_locals = frame.0; cell_locals = frame.1; body = frame.2; code = code; handlers = handlers })))))
