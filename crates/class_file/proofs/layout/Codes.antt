-- The Code attribute (JVMS 4.7.3).
use Rattle.std.proofs.Common.{◌≡◌, ℕ, ◌^◌, ◌<◌, cond, eqb, List, [], ◌++◌, length, Result, Ok, Err, refl, sym, ap, subst, ◌∙◌, append_assoc}
use Rattle.std.specs.Prelude.{IsTrue}
use Rattle.std.specs.List.{AllByRecursion}
use Rattle.std.proofs.lemmas.Bool.{eqb-true}
use Rattle.std.proofs.lemmas.List.{append-nil, nil_from_length, map-id}
use Rattle.byte_read.proofs.Steps.{IsBytes, Takes, bind_then, bind_fails_then, ok_is, no_failure, then_ok, under, passes, IsBytes-prefix, IsBytes-after}
use Rattle.class_pool.specs.Pool.{Slots}
use Rattle.class_file.specs.declared.record.CodeAttr.{CodeAttr}
use Rattle.class_file.specs.declared.record.HandlerRow.{HandlerRow}
use Rattle.class_file.specs.declared.refusal.ReadRefusal.{ReadRefusal}
use Rattle.class_file.specs.declared.refusal.ReadRefusal.TheVariants.{BadShape}
use Rattle.class_file.specs.Layout.{u2, u4, counted, Attribute, attribute_bytes, handler_bytes, code_info}
use Rattle.class_file.specs.Relation.{FitsU2, FitsHandler, FitsCode, IsRegularCode}
use Rattle.class_file.specs.Rules.{is_code_size, is_handler}
use Rattle.byte_read.specs.Reading.{◌>>=◌}
use Rattle.class_file.specs.Reading.{u2_at, u4_at, slice_at}
use Rattle.class_file.specs.ReadingMembers.{info_at, skip_all_at, handler_at, handlers_at, code_bytes_at, code_parts, as_shape, code_at}
use Rattle.class_file.proofs.readers.Steps.{is_fault, IsPartFault}
use Rattle.class_file.proofs.readers.Parts.{Taken, Reads, itself, u2_reads, u4_reads, slice_reads, first, tested, last_tested, alike, reshaped, test_first}
use Rattle.class_file.proofs.readers.Lists.{list_reads, pushed, split, merged}
use Rattle.class_file.proofs.layout.Attributes.{sized, info_reads, skip_after}

-- ---- the exception table

abbrev row : ℕ → ℕ → ℕ → ℕ → HandlerRow
row start end target catch_type = record { start = start; end = end; target = target; catch_type = catch_type }

handler_reads : (pool : Slots) (size : ℕ) → Reads (handler_at pool size) handler_bytes itself (λ r. FitsHandler r × IsTrue (is_handler pool size r))
unfolding handler_at
handler_reads pool size =
    reshaped
    (first u2_reads (λ start. first u2_reads (λ end. first u2_reads (λ target. last_tested u2_reads (λ catch_type. row start end target catch_type) (λ r. is_handler pool size r) BadShape tt))))
    (λ p. row p.0 p.1.0 p.1.1.0 p.1.1.1)
    (λ p good. (refl, refl, (record { start = good.0; end = good.1.0; target = good.1.1.0; catch_type = good.1.1.1.0 }, good.1.1.1.1)))
    (λ r. (r.start, (r.end, (r.target, r.catch_type))))
    (λ r good. (refl, refl, (good.0.start, (good.0.end, (good.0.target, (good.0.catch_type, good.1))))))

abbrev AreHandlers : Slots → ℕ → List HandlerRow → Type 0
AreHandlers pool size rows = FitsU2 (length rows) × AllByRecursion FitsHandler rows × AllByRecursion (λ r. IsTrue (is_handler pool size r)) rows

handlers_read : (pool : Slots) (size : ℕ) → Reads (handlers_at pool size) (counted handler_bytes) itself (AreHandlers pool size)
unfolding handlers_at
handlers_read pool size =
    reshaped (list_reads (λ earlier. handler_reads pool size)) (λ rows. rows)
    (λ rows good.
    let both = split FitsHandler (λ r. IsTrue (is_handler pool size r)) (pushed itself) [] rows good.1 in
    (refl, sym (map-id rows), (good.0, both.0, both.1)))
    (λ rows. rows)
    (λ rows good. (refl, map-id rows, (good.0, merged FitsHandler (λ r. IsTrue (is_handler pool size r)) (pushed itself) [] rows good.1 good.2)))

-- ---- the code

code_bytes_read : Reads code_bytes_at sized itself (λ code. (length code < 2 ^ 32) × IsTrue (is_code_size (length code)))
unfolding code_bytes_at
code_bytes_read =
    alike
    (reshaped (first (tested u4_reads (λ size. is_code_size size) BadShape tt) (λ size. slice_reads size)) (λ p. p.1)
    (λ p good. (ap (λ (n : ℕ). u4 n ++ p.1) (sym good.1), refl, subst (λ (n : ℕ). (n < 2 ^ 32) × IsTrue (is_code_size n)) (sym good.1) good.0))
    (λ code. (length code, code))
    (λ code good. (refl, refl, (good, refl))))
    (λ bytes. under (u4_at bytes) _ _ _ (λ size. test_first (is_code_size size.0) size (λ s. slice_at s.0 s.1) BadShape))

-- ---- the parts

abbrev code_record : ℕ → ℕ → List ℕ → List HandlerRow → CodeAttr
code_record max_stack max_locals code handlers = record { max_stack = max_stack; max_locals = max_locals; code = code; handlers = handlers }

-- the parts, and what follows them
abbrev parts_at : Slots → List ℕ → Result (CodeAttr × List ℕ) ReadRefusal
parts_at pool bytes =
    u2_at bytes >>= λ max_stack. u2_at max_stack.1 >>= λ max_locals. code_bytes_at max_locals.1 >>= λ code. handlers_at pool (length code.0) code.1 >>= λ handlers. skip_all_at pool handlers.1 >>= λ rest.
    Ok (code_record max_stack.0 max_locals.0 code.0 handlers.0, rest)

abbrev pub Inside : Type 0
Inside = CodeAttr × List Attribute

abbrev pub inside_bytes : Inside → List ℕ
inside_bytes p = code_info p.0 p.1

abbrev pub code_of : Inside → CodeAttr
code_of p = p.0

abbrev pub IsInside : Slots → Inside → Type 0
IsInside pool p = FitsCode p.0 p.1 × IsRegularCode pool p.0 p.1

parts_read : (pool : Slots) → Reads (parts_at pool) inside_bytes code_of (IsInside pool)
parts_read pool =
    reshaped
    (first u2_reads (λ max_stack. first u2_reads (λ max_locals. first code_bytes_read (λ code. first (handlers_read pool (length code)) (λ handlers. skip_after pool (code_record max_stack max_locals code handlers))))))
    (λ p. (code_record p.0 p.1.0 p.1.1.0 p.1.1.1.0, p.1.1.1.1))
    (λ p good. (
      ap (λ (t : List ℕ). u2 p.0 ++ (u2 p.1.0 ++ t)) (append_assoc (u4 (length p.1.1.0)) p.1.1.0 (counted handler_bytes p.1.1.1.0 ++ counted attribute_bytes p.1.1.1.1)),
      refl,
      (
        record { max_stack = good.0; max_locals = good.1.0; code = good.1.1.0.0; handlers = good.1.1.1.0.0; rows = good.1.1.1.0.1; inner_count = good.1.1.1.1.0; inner_fit = good.1.1.1.1.1 },
        record { size = good.1.1.0.1; handlers = good.1.1.1.0.2; inner_names = good.1.1.1.1.2 },
      ),
    ))
    (λ p. (p.0.max_stack, (p.0.max_locals, (p.0.code, (p.0.handlers, p.1)))))
    (λ p good. (
      ap (λ (t : List ℕ). u2 p.0.max_stack ++ (u2 p.0.max_locals ++ t)) (sym (append_assoc (u4 (length p.0.code)) p.0.code (counted handler_bytes p.0.handlers ++ counted attribute_bytes p.1))),
      refl,
      (good.0.max_stack, (good.0.max_locals, ((good.0.code, good.1.size), ((good.0.handlers, good.0.rows, good.1.handlers), (good.0.inner_count, good.0.inner_fit, good.1.inner_names))))),
    ))

-- nothing follows the parts
abbrev ended : CodeAttr × List ℕ → Result CodeAttr ReadRefusal
ended x = cond (eqb (length x.1) 0) (Ok x.0) (Err BadShape)

parts_end : (pool : Slots) (bytes : List ℕ) → code_parts pool bytes ≡ (parts_at pool bytes >>= ended)
unfolding code_parts
parts_end pool bytes =
    under (u2_at bytes) _ _ _ (λ max_stack. under (u2_at max_stack.1) _ _ _ (λ max_locals. under (code_bytes_at max_locals.1) _ _ _ (λ code. under (handlers_at pool (length code.0) code.1) _ _ _ (λ handlers.
    under (skip_all_at pool handlers.1) _ _ _ (λ rest. refl)))))

record Fills (pool : Slots) (bytes : List ℕ) (code : CodeAttr) : Type 0 where
  inside : Inside
  encoded : bytes ≡ inside_bytes inside
  good : IsInside pool inside
  code_is : code_of inside ≡ code

parts_fill : (pool : Slots) (bytes : List ℕ) (code : CodeAttr) → IsBytes bytes → code_parts pool bytes ≡ Ok code → Fills pool bytes code
parts_fill pool bytes code fits e =
    bind_then (parts_at pool bytes) ended code (sym (parts_end pool bytes) ∙ e) (λ x at_x e_code.
    let g = passes (eqb (length x.1) 0) x.0 code BadShape e_code in
    let t = (parts_read pool).taken bytes x fits at_x in
    let none : x.1 ≡ [] = nil_from_length x.1 (eqb-true _ _ g.0) in
    record {
      inside = t.part;
      encoded = t.takes.parts ∙ ap (λ (rest : List ℕ). inside_bytes t.part ++ rest) none ∙ append-nil (inside_bytes t.part);
      good = t.good;
      code_is = t.value_is ∙ g.1;
    })

parts_again : (pool : Slots) (inside : Inside) → IsInside pool inside → code_parts pool (inside_bytes inside) ≡ Ok (code_of inside)
parts_again pool inside good =
    parts_end pool (inside_bytes inside)
    ∙ then_ok ended (Ok (code_of inside)) (ap (parts_at pool) (sym (append-nil (inside_bytes inside))) ∙ (parts_read pool).again inside [] good) refl

-- ---- the attribute after its name

shape_ok : {A : Type 0} (r : Result A ReadRefusal) (x : A) → as_shape r ≡ Ok x → r ≡ Ok x
shape_ok (Ok y) x e = e
shape_ok (Err why) x e = absurd (no_failure x BadShape (sym e))

shape_fails : {A : Type 0} (r : Result A ReadRefusal) (why : ReadRefusal) → as_shape r ≡ Err why → IsPartFault why
shape_fails (Ok y) why e = absurd (no_failure y why e)
shape_fails {A = A} (Err d) why e = is_fault {A = A} BadShape why tt e

abbrev pub coded_bytes : Inside → List ℕ
coded_bytes p = sized (inside_bytes p)

abbrev pub IsCoded : Slots → Inside → Type 0
IsCoded pool p = (length (inside_bytes p) < 2 ^ 32) × IsInside pool p

-- the bytes after a length are some of all
info_fits : (bytes info rest : List ℕ) → IsBytes bytes → bytes ≡ sized info ++ rest → IsBytes info
info_fits bytes info rest fits e = IsBytes-after (u4 (length info)) info (IsBytes-prefix (sized info) rest (subst IsBytes e fits))

code_made : (pool : Slots) (bytes : List ℕ) (info : List ℕ × List ℕ) (code : CodeAttr) → IsBytes bytes → info_at bytes ≡ Ok info → code_parts pool info.0 ≡ Ok code → Taken coded_bytes code_of (IsCoded pool) bytes (code, info.1)
code_made pool bytes info code fits at_info e =
    let t = info_reads.taken bytes info fits at_info in
    let takes : Takes bytes (sized info.0) info.1 = subst (λ (i : List ℕ). Takes bytes (sized i) info.1) t.value_is t.takes in
    let short : length info.0 < 2 ^ 32 = subst (λ (i : List ℕ). length i < 2 ^ 32) t.value_is t.good in
    let f = parts_fill pool info.0 code (info_fits bytes info.0 info.1 fits takes.parts) e in
    record {
      part = f.inside;
      takes = subst (λ (i : List ℕ). Takes bytes (sized i) info.1) f.encoded takes;
      good = (subst (λ (i : List ℕ). length i < 2 ^ 32) f.encoded short, f.good);
      value_is = f.code_is;
    }

pub code_reads : (pool : Slots) → Reads (code_at pool) coded_bytes code_of (IsCoded pool)
unfolding code_at
code_reads pool =
    record {
      taken =
          λ bytes x fits e.
          bind_then (info_at bytes) _ x e (λ info at_info e_code.
          bind_then (as_shape (code_parts pool info.0)) _ x e_code (λ code at_code e_x.
          subst (Taken coded_bytes code_of (IsCoded pool) bytes) (ok_is (code, info.1) x e_x) (code_made pool bytes info code fits at_info (shape_ok (code_parts pool info.0) code at_code))));
      again =
          λ p rest good.
          then_ok _ (Ok (code_of p, rest)) (info_reads.again (inside_bytes p) rest good.0)
          (then_ok _ (Ok (code_of p, rest)) (ap as_shape (parts_again pool p good.1)) refl);
      fails =
          λ bytes why fits e.
          bind_fails_then (info_at bytes) _ why e (λ at_why. info_reads.fails bytes why fits at_why) (λ info at_info e_why.
          bind_fails_then (as_shape (code_parts pool info.0)) _ why e_why (λ at_why. shape_fails (code_parts pool info.0) why at_why)
          (λ code at_code e_done. absurd (no_failure (code, info.1) why e_done)));
    }
