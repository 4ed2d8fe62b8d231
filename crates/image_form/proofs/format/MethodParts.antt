-- The selectors and the methods of an image are read exactly.
use Rattle.std.proofs.Common.{◌≡◌, ◌⊎◌, ℕ, ◌+◌, ◌^◌, ◌<◌, ◌≤◌, Bool, true, ◌&&◌, ◌||◌, leb, eqb, List, [], ◌∷◌, ◌++◌, length, refl, ap, ◌∙◌, append_assoc, arith, inl, inr}
use Rattle.std.specs.Prelude.{IsTrue}
use Rattle.std.proofs.lemmas.Bool.{leb-true, le-leb, eqb-true, eq-eqb, and_parts, and_from, or_cases, or_left, or_right}
use Rattle.std.proofs.lemmas.List.{append-nil}
use Rattle.image_instr.specs.Insn.{u2}
use Rattle.image_instr.specs.declared.signature.Sig.{Sig}
use Rattle.image_form.specs.declared.record.TypeEntry.{TypeEntry}
use Rattle.image_form.specs.declared.record.Method.{Method}
use Rattle.image_form.specs.declared.record.HandlerEntry.{HandlerEntry}
use Rattle.image_form.specs.declared.refusal.FormRefusal.{FormRefusal}
use Rattle.image_form.specs.Format.{counted, sig_bytes, handler_bytes, method_bytes}
use Rattle.image_form.specs.Library.{signature, names_class}
use Rattle.image_form.specs.Grammar.{Each, IsSelector, IsHandler, IsMethod, most_methods}
use Rattle.image_form.specs.Reading.{u1_at, u2_at, tested, in_selectors, in_methods, signature_at, selector_at, selectors_at, handler_at, handlers_at, code_at, frame_at, method_at, methods_at}
use Rattle.image_form.proofs.format.Readers.{IsOfTables, Reads, Reads-as, made, field_reads, u1_reads, u2_reads, u1_tested, u2_tested, sized, sized_reads, counted_reads, most_reads}

-- ---- signatures and selectors

result_reads : (why : FormRefusal) → IsOfTables why → Reads ℕ (λ result. result ≤ 3) (λ result. result ∷ []) (λ bytes. tested (λ result. leb result 3) why (u1_at bytes))
result_reads why h = Reads-as (u1_tested (λ result. leb result 3) why h) (λ result g. leb-true _ _ g.1) (λ result g. (omega (arith, g), le-leb _ _ g)) (λ result. refl)

-- a signature with so many references, whose other numbers are within bounds
abbrev HasRefs : ℕ → Sig → Type 0
HasRefs refs sig = (sig.cells < 2 ^ 16) × ((sig.result ≤ 3) × (sig.refs ≡ refs))

-- the bytes after the count of references
abbrev after_refs : Sig → List ℕ
after_refs sig = u2 sig.cells ++ sig.result ∷ []

same_refs : (refs cells result : ℕ) (sig : Sig) → sig ≡ signature refs cells result → sig.refs ≡ refs
same_refs refs cells result sig e = ap (λ (s : Sig). s.refs) e

with_refs : (refs : ℕ) (sig : Sig) → sig.refs ≡ refs → sig ≡ signature refs sig.cells sig.result
with_refs refs sig e = ap (λ (n : ℕ). signature n sig.cells sig.result) e

signature_reads : (refs : ℕ) (why : FormRefusal) → IsOfTables why → Reads Sig (HasRefs refs) after_refs (signature_at refs why)
unfolding signature_at
signature_reads refs why h =
    Reads-as
    (field_reads (λ (sig : Sig). sig.cells) (λ cells sig g. ap (λ (s : Sig). s.cells) g.1) u2_reads (λ cells.
    field_reads (λ (sig : Sig). sig.result) (λ result sig g. ap (λ (s : Sig). s.result) g) (result_reads why h) (λ result. made (signature refs cells result))))
    (λ sig g. (g.0, (g.1.0, same_refs refs sig.cells sig.result sig g.1.1)))
    (λ sig g. (g.0, (g.1.0, with_refs refs sig g.1.1)))
    (λ sig. refl)

receiver_reads : (why : FormRefusal) → IsOfTables why → Reads ℕ (λ refs. (1 ≤ refs) × (refs < 2 ^ 8)) (λ refs. refs ∷ []) (λ bytes. tested (leb 1) why (u1_at bytes))
receiver_reads why h = Reads-as (u1_tested (leb 1) why h) (λ refs g. (leb-true _ _ g.1, g.0)) (λ refs g. (g.1, le-leb _ _ g.0)) (λ refs. refl)

pub selector_reads : (before : List Sig) → Reads Sig IsSelector sig_bytes (selector_at before)
unfolding selector_at
selector_reads before =
    Reads-as
    (field_reads (λ (sig : Sig). sig.refs) (λ refs sig g. g.1.1) (receiver_reads (in_selectors (length before)) tt) (λ refs. signature_reads refs (in_selectors (length before)) tt))
    (λ sig g. record { has_receiver = g.0.0; sig_is = record { refs_fit = g.0.1; cells_fit = g.1.0; result_is = g.1.1.0 } })
    (λ sig g. ((g.has_receiver, g.sig_is.refs_fit), (g.sig_is.cells_fit, (g.sig_is.result_is, refl))))
    (λ sig. refl)

pub selectors_reads : Reads (List Sig) (λ sigs. (length sigs ≤ 16384) × Each IsSelector sigs) (counted sig_bytes) selectors_at
unfolding selectors_at
selectors_reads = counted_reads selector_reads (most_reads 16384 (in_selectors 0) (omega arith) tt)

-- ---- handlers

abbrev class_test : List TypeEntry → ℕ → Bool
class_test types class = eqb class 65535 || names_class types class

class_passes : (types : List TypeEntry) (class : ℕ) → class_test types class ≡ true → (class ≡ 65535) ⊎ IsTrue (names_class types class)
class_passes types class e = elim (or_cases (eqb class 65535) (names_class types class) e) [ inl h ↦ inl (eqb-true _ _ h) | inr h ↦ inr h ]

class_tested : (types : List TypeEntry) (class : ℕ) → (class ≡ 65535) ⊎ IsTrue (names_class types class) → class_test types class ≡ true
class_tested types class (inl e) = or_left (eqb class 65535) (names_class types class) (eq-eqb _ _ e)
class_tested types class (inr e) = or_right (eqb class 65535) (names_class types class) e

abbrev the_handler : ℕ → ℕ → ℕ → ℕ → HandlerEntry
the_handler start end target class = record { start = start; end = end; target = target; class = class }

handler_reads : (types : List TypeEntry) (index : ℕ) (before : List HandlerEntry) → Reads HandlerEntry (IsHandler types) handler_bytes (handler_at types index before)
unfolding handler_at
handler_reads types index before =
    Reads-as
    (field_reads (λ (handler : HandlerEntry). handler.start) (λ start handler h. ap (λ (e : HandlerEntry). e.start) h.1.1.1) u2_reads (λ start.
    field_reads (λ (handler : HandlerEntry). handler.end) (λ end handler h. ap (λ (e : HandlerEntry). e.end) h.1.1) u2_reads (λ end.
    field_reads (λ (handler : HandlerEntry). handler.target) (λ target handler h. ap (λ (e : HandlerEntry). e.target) h.1) u2_reads (λ target.
    field_reads (λ (handler : HandlerEntry). handler.class) (λ class handler h. ap (λ (e : HandlerEntry). e.class) h) (u2_tested (class_test types) (in_methods index) tt) (λ class.
    made (the_handler start end target class))))))
    (λ handler h. record { start_fits = h.0; end_fits = h.1.0; target_fits = h.1.1.0; class_fits = h.1.1.1.0.0; class_is = class_passes types handler.class h.1.1.1.0.1 })
    (λ handler h. (h.start_fits, (h.end_fits, (h.target_fits, ((h.class_fits, class_tested types handler.class h.class_is), refl)))))
    (λ handler. refl)

handlers_reads : (types : List TypeEntry) (index : ℕ) → Reads (List HandlerEntry) (λ handlers. (length handlers < 2 ^ 16) × Each (IsHandler types) handlers) (counted handler_bytes) (handlers_at types index)
unfolding handlers_at
handlers_reads types index = counted_reads (handler_reads types index) u2_reads

-- ---- code and frames

code_reads : (index : ℕ) → Reads (List ℕ) (λ code. (length code < 2 ^ 16) × (1 ≤ length code)) sized (code_at index)
unfolding code_at
code_reads index =
    sized_reads {IsSize = λ size. (size < 2 ^ 16) × (1 ≤ size)} (Reads-as (u2_tested (leb 1) (in_methods index) tt) (λ size h. (h.0, leb-true _ _ h.1)) (λ size h. (h.0, le-leb _ _ h.1)) (λ size. refl))

-- the references and the cells of the locals, and the body
abbrev Frame : Type 0
Frame = ℕ × ℕ × ℕ

abbrev IsFrame : Sig → Frame → Type 0
IsFrame sig frame = (sig.refs ≤ frame.0) × (sig.cells ≤ frame.1) × (frame.0 + frame.1 ≤ frame.2) × (frame.2 ≤ 32763)

abbrev frame_bytes : Frame → List ℕ
frame_bytes frame = u2 frame.0 ++ (u2 frame.1 ++ u2 frame.2)

-- at least so many, in two bytes
least_reads : (least index : ℕ) → Reads ℕ (λ count. (count < 2 ^ 16) × (least ≤ count)) u2 (λ bytes. tested (leb least) (in_methods index) (u2_at bytes))
least_reads least index = Reads-as (u2_tested (leb least) (in_methods index) tt) (λ count h. (h.0, leb-true _ _ h.1)) (λ count h. (h.0, le-leb _ _ h.1)) (λ count. refl)

abbrev body_test : ℕ → ℕ → Bool
body_test locals body = leb locals body && leb body 32763

body_passes : (locals body : ℕ) → body_test locals body ≡ true → (locals ≤ body) × (body ≤ 32763)
body_passes locals body e =
    let p = and_parts (leb locals body) (leb body 32763) e in
    (leb-true _ _ p.0, leb-true _ _ p.1)

body_tested : (locals body : ℕ) → (locals ≤ body) × (body ≤ 32763) → (body < 2 ^ 16) × (body_test locals body ≡ true)
body_tested locals body h = (omega (arith, h.1), and_from (leb locals body) (leb body 32763) (le-leb _ _ h.0) (le-leb _ _ h.1))

body_reads : (locals index : ℕ) → Reads ℕ (λ body. (locals ≤ body) × (body ≤ 32763)) u2 (λ bytes. tested (body_test locals) (in_methods index) (u2_at bytes))
body_reads locals index = Reads-as (u2_tested (body_test locals) (in_methods index) tt) (λ body h. body_passes locals body h.1) (body_tested locals) (λ body. refl)

frame_reads : (index : ℕ) (sig : Sig) → Reads Frame (IsFrame sig) frame_bytes (frame_at index sig)
unfolding frame_at
frame_reads index sig =
    Reads-as
    (field_reads (λ (frame : Frame). frame.0) (λ refs frame h. ap (λ (f : Frame). f.0) h.1.1) (least_reads sig.refs index) (λ refs.
    field_reads (λ (frame : Frame). frame.1) (λ cells frame h. ap (λ (f : Frame). f.1) h.1) (least_reads sig.cells index) (λ cells.
    field_reads (λ (frame : Frame). frame.2) (λ body frame h. ap (λ (f : Frame). f.2) h) (body_reads (refs + cells) index) (λ body. made (refs, cells, body)))))
    (λ frame h. (h.0.1, h.1.0.1, h.1.1.0.0, h.1.1.0.1))
    (λ frame h. ((omega (arith, h.2, h.3), h.0), ((omega (arith, h.2, h.3), h.1), ((h.2, h.3), refl))))
    (λ frame. refl)

-- ---- methods

abbrev the_method : Sig → Frame → List ℕ → List HandlerEntry → Method
the_method sig frame code handlers = record { sig = sig; ref_locals = frame.0; cell_locals = frame.1; body = frame.2; code = code; handlers = handlers }

abbrev frame_of : Method → Frame
frame_of method = (method.ref_locals, method.cell_locals, method.body)

-- the bytes of a method, part by part as they are read
abbrev method_parts : Method → List ℕ
method_parts method = method.sig.refs ∷ [] ++ (after_refs method.sig ++ (frame_bytes (frame_of method) ++ (sized method.code ++ (counted handler_bytes method.handlers ++ []))))

method_parts_are : (method : Method) → method_parts method ≡ method_bytes method
method_parts_are method =
    let last : sized method.code ++ (counted handler_bytes method.handlers ++ []) ≡ u2 (length method.code) ++ (method.code ++ counted handler_bytes method.handlers) =
    ap (λ (handlers : List ℕ). sized method.code ++ handlers) (append-nil (counted handler_bytes method.handlers)) ∙ append_assoc (u2 (length method.code)) method.code (counted handler_bytes method.handlers)
    in
    ap (λ (text : List ℕ). sig_bytes method.sig ++ (u2 method.ref_locals ++ (u2 method.cell_locals ++ (u2 method.body ++ text)))) last

pub method_reads : (types : List TypeEntry) (before : List Method) → Reads Method (IsMethod types) method_bytes (method_at types before)
unfolding method_at
method_reads types before =
    Reads-as
    (field_reads (λ (method : Method). method.sig.refs) (λ refs method h. h.0.1.1) u1_reads (λ refs.
    field_reads (λ (method : Method). method.sig) (λ sig method h. ap (λ (m : Method). m.sig) h.1.1.1) (signature_reads refs (in_methods (length before)) tt) (λ sig.
    field_reads frame_of (λ frame method h. ap frame_of h.1.1) (frame_reads (length before) sig) (λ frame.
    field_reads (λ (method : Method). method.code) (λ code method h. ap (λ (m : Method). m.code) h.1) (code_reads (length before)) (λ code.
    field_reads (λ (method : Method). method.handlers) (λ handlers method h. ap (λ (m : Method). m.handlers) h) (handlers_reads types (length before)) (λ handlers.
    made (the_method sig frame code handlers)))))))
    (λ method h. record {
      sig_is = record { refs_fit = h.0; cells_fit = h.1.0.0; result_is = h.1.0.1.0 };
      refs_cover = h.1.1.0.0;
      cells_cover = h.1.1.0.1;
      locals_fit = h.1.1.0.2;
      body_fits = h.1.1.0.3;
      code_some = h.1.1.1.0.1;
      code_fits = h.1.1.1.0.0;
      handlers_fit = h.1.1.1.1.0.0;
      handlers_are = h.1.1.1.1.0.1;
    })
    (λ method h. (
      h.sig_is.refs_fit,
      (
        (h.sig_is.cells_fit, (h.sig_is.result_is, refl)),
        (
          (h.refs_cover, h.cells_cover, h.locals_fit, h.body_fits),
          ((h.code_fits, h.code_some), ((h.handlers_fit, h.handlers_are), refl)),
        ),
      ),
    ))
    method_parts_are

pub methods_reads : (types : List TypeEntry) → Reads (List Method) (λ methods. (length methods ≤ most_methods) × Each (IsMethod types) methods) (counted method_bytes) (methods_at types)
unfolding methods_at
methods_reads types = counted_reads (method_reads types) (most_reads most_methods (in_methods 0) (omega arith) tt)
