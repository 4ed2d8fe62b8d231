-- The parts after the version are read exactly: tables, statics and main, and then the rows are matched.
use Rattle.std.proofs.Common.{◌≡◌, ℕ, ◌-◌, ◌^◌, ◌<◌, ◌≤◌, Bool, true, false, ◌&&◌, cond, ltb, eqb, List, [], ◌++◌, length, Option, Some, None, Result, Ok, refl, ap, subst, ◌∙◌, arith}
use Rattle.std.specs.Prelude.{slice_get}
use Rattle.std.proofs.lemmas.Bool.{ltb-false, le-ltb, eqb-true, and_parts}
use Rattle.image_instr.specs.Insn.{u2}
use Rattle.image_instr.specs.declared.signature.Sig.{Sig}
use Rattle.image_form.specs.declared.record.Image.{Image}
use Rattle.image_form.specs.declared.record.TypeEntry.{TypeEntry}
use Rattle.image_form.specs.declared.record.Method.{Method}
use Rattle.image_form.specs.declared.refusal.FormRefusal.{FormRefusal}
use Rattle.image_form.specs.Format.{counted, type_bytes, sig_bytes, method_bytes}
use Rattle.image_form.specs.Library.{signature}
use Rattle.image_form.specs.Grammar.{Each, EachAfter, IsType, IsSelector, IsMethod, HasSignatures, IsMain, IsImage, most_types, most_methods}
use Rattle.byte_read.specs.Reading.{◌>>=◌}
use Rattle.image_form.specs.Reading.{in_statics, in_main, static_refs_at, cell_at, static_cells_at, is_bare, names_main, main_at, first_unmatched, parts_at, matched}
use Rattle.byte_read.proofs.Steps.{IsBytes, then_ok, ok_is}
use Rattle.image_form.proofs.format.Readers.{Refuses, Taken, Reads, Reads-as, bound, refuses_then, made, field_reads, u2_reads, u2_tested, counted_reads, most_reads}
use Rattle.image_form.proofs.format.TypeParts.{types_reads}
use Rattle.image_form.proofs.format.MethodParts.{selectors_reads, methods_reads}
use Rattle.image_form.proofs.format.Matching.{same_sig, matched_from, matched_to}

-- ---- statics

pub static_refs_reads : Reads ℕ (λ count. count ≤ 16384) u2 static_refs_at
unfolding static_refs_at
static_refs_reads = most_reads 16384 in_statics (omega arith) tt

cell_reads : (before : List ℕ) → Reads ℕ (λ cell. cell < 2 ^ 16) u2 (cell_at before)
unfolding cell_at
cell_reads before = u2_reads

pub static_cells_reads : Reads (List ℕ) (λ cells. (length cells ≤ 16384) × Each (λ cell. cell < 2 ^ 16) cells) (counted u2) static_cells_at
unfolding static_cells_at
static_cells_reads = counted_reads cell_reads (most_reads 16384 in_statics (omega arith) tt)

-- ---- main

-- the method that is there, without arguments and result
record IsBare (place : Option Method) : Type 0 where
  method : Method
  slot_is : place ≡ Some method
  sig_is : method.sig ≡ signature 0 0 0

bare_from : (place : Option Method) → is_bare place ≡ true → IsBare place
bare_from (Some method) e =
    let p = and_parts (eqb method.sig.refs 0) (eqb method.sig.cells 0 && eqb method.sig.result 0) e in
    let q = and_parts (eqb method.sig.cells 0) (eqb method.sig.result 0) p.1 in
    record { method = method; slot_is = refl; sig_is = same_sig method.sig (signature 0 0 0) (eqb-true _ _ p.0) (eqb-true _ _ q.0) (eqb-true _ _ q.1) }
bare_from None e = absurd cc

bare_sig : (sig : Sig) → sig ≡ signature 0 0 0 → (eqb sig.refs 0 && (eqb sig.cells 0 && eqb sig.result 0)) ≡ true
bare_sig sig e = ap (λ (s : Sig). eqb s.refs 0 && (eqb s.cells 0 && eqb s.result 0)) e

above_library : (library named : Bool) → cond library false named ≡ true → (library ≡ false) × (named ≡ true)
above_library true named e = absurd cc
above_library false named e = (refl, e)

main_from : (methods : List Method) (main : ℕ) → main < 2 ^ 16 → names_main methods main ≡ true → IsMain methods main
main_from methods main lt e =
    let p = above_library (ltb main 32) (is_bare (slice_get methods (main - 32))) e in
    let b = bare_from (slice_get methods (main - 32)) p.1 in
    record { method = b.method; main_fits = lt; not_library = ltb-false _ _ p.0; method_is = b.slot_is; sig_is = b.sig_is }

main_to : (methods : List Method) (main : ℕ) → IsMain methods main → names_main methods main ≡ true
main_to methods main h =
    ap (λ (b : Bool). cond b false (is_bare (slice_get methods (main - 32)))) (le-ltb main 32 h.not_library) ∙ ap is_bare h.method_is ∙ bare_sig h.method.sig h.sig_is

pub main_reads : (methods : List Method) → Reads ℕ (IsMain methods) u2 (main_at methods)
unfolding main_at
main_reads methods = Reads-as (u2_tested (names_main methods) in_main tt) (λ main h. main_from methods main h.0 h.1) (λ main h. (h.main_fits, main_to methods main h)) (λ main. refl)

-- ---- all parts

-- the bytes after the version
abbrev pub part_bytes : Image → List ℕ
part_bytes image =
    counted type_bytes image.types ++ (counted sig_bytes image.selectors ++ (counted method_bytes image.methods ++ (u2 image.static_refs ++ (counted u2 image.static_cells ++ u2 image.main))))

-- an image of the grammar, but for what its rows name
pub record IsOfParts (image : Image) : Type 0 where
  pub version_is : image.version ≡ 1
  pub types : (length image.types ≤ most_types) × EachAfter IsType [] image.types
  pub selectors : (length image.selectors ≤ 16384) × Each IsSelector image.selectors
  pub methods : (length image.methods ≤ most_methods) × Each (IsMethod image.types) image.methods
  pub static_refs : image.static_refs ≤ 16384
  pub static_cells : (length image.static_cells ≤ 16384) × Each (λ cell. cell < 2 ^ 16) image.static_cells
  pub main : IsMain image.methods image.main

abbrev the_image : List TypeEntry → List Sig → List Method → ℕ → List ℕ → ℕ → Image
the_image types selectors methods static_refs static_cells main =
    record { version = 1; types = types; selectors = selectors; methods = methods; static_refs = static_refs; static_cells = static_cells; main = main }

parts_same : (image : Image) → image.version ≡ 1 → image ≡ the_image image.types image.selectors image.methods image.static_refs image.static_cells image.main
parts_same image e = ap (λ (n : ℕ). record { version = n; types = image.types; selectors = image.selectors; methods = image.methods; static_refs = image.static_refs; static_cells = image.static_cells; main = image.main }) e

parts_version : (image : Image) → image ≡ the_image image.types image.selectors image.methods image.static_refs image.static_cells image.main → image.version ≡ 1
parts_version image e = ap (λ (i : Image). i.version) e

parts_text : (image : Image) → counted type_bytes image.types ++ (counted sig_bytes image.selectors ++ (counted method_bytes image.methods ++ (u2 image.static_refs ++ (counted u2 image.static_cells ++ (u2 image.main ++ []))))) ≡ part_bytes image
parts_text image = refl

pub parts_reads : Reads Image IsOfParts part_bytes parts_at
unfolding parts_at
parts_reads =
    Reads-as
    (field_reads (λ (image : Image). image.types) (λ types image h. ap (λ (i : Image). i.types) h.1.1.1.1.1) types_reads (λ types.
    field_reads (λ (image : Image). image.selectors) (λ selectors image h. ap (λ (i : Image). i.selectors) h.1.1.1.1) selectors_reads (λ selectors.
    field_reads (λ (image : Image). image.methods) (λ methods image h. ap (λ (i : Image). i.methods) h.1.1.1) (methods_reads types) (λ methods.
    field_reads (λ (image : Image). image.static_refs) (λ static_refs image h. ap (λ (i : Image). i.static_refs) h.1.1) static_refs_reads (λ static_refs.
    field_reads (λ (image : Image). image.static_cells) (λ static_cells image h. ap (λ (i : Image). i.static_cells) h.1) static_cells_reads (λ static_cells.
    field_reads (λ (image : Image). image.main) (λ main image h. ap (λ (i : Image). i.main) h) (main_reads methods) (λ main.
    made (the_image types selectors methods static_refs static_cells main))))))))
    (λ image h. record {
      version_is = parts_version image h.1.1.1.1.1.1;
      types = h.0;
      selectors = h.1.0;
      methods = h.1.1.0;
      static_refs = h.1.1.1.0;
      static_cells = h.1.1.1.1.0;
      main = h.1.1.1.1.1.0;
    })
    (λ image h. (h.types, (h.selectors, (h.methods, (h.static_refs, (h.static_cells, (h.main, parts_same image h.version_is)))))))
    parts_text

-- ---- the image

is_image : (image : Image) → IsOfParts image → Each (HasSignatures image.selectors image.methods) image.types → IsImage image
is_image image h rows = record {
  version_is = h.version_is;
  types_fit = h.types.0;
  types_are = h.types.1;
  selectors_fit = h.selectors.0;
  selectors_are = h.selectors.1;
  methods_fit = h.methods.0;
  methods_are = h.methods.1;
  static_refs_fit = h.static_refs;
  static_cells_fit = h.static_cells.0;
  static_cells_are = h.static_cells.1;
  main_is = h.main;
  rows_are = rows;
}

of_parts : (image : Image) → IsImage image → IsOfParts image
of_parts image h = record {
  version_is = h.version_is;
  types = (h.types_fit, h.types_are);
  selectors = (h.selectors_fit, h.selectors_are);
  methods = (h.methods_fit, h.methods_are);
  static_refs = h.static_refs_fit;
  static_cells = (h.static_cells_fit, h.static_cells_are);
  main = h.main_is;
}

-- the first entry whose rows are not matched
abbrev pub unmatched_in : Image → Option ℕ
unmatched_in image = first_unmatched image.selectors image.methods 0 image.types

abbrev pub match_rows : Image × List ℕ → Result (Image × List ℕ) FormRefusal
match_rows part = matched (unmatched_in part.0) part

matched_parts : (place : Option ℕ) (part x : Image × List ℕ) → matched place part ≡ Ok x → (place ≡ None) × (part ≡ x)
matched_parts None part x e = (refl, ok_is part x e)
matched_parts (Some index) part x e = absurd cc

matched_refuses : (place : Option ℕ) (part : Image × List ℕ) → Refuses (matched place part)
matched_refuses None part = tt
matched_refuses (Some index) part = tt

image_again : (image : Image) (rest : List ℕ) → IsImage image → (parts_at (part_bytes image ++ rest) >>= match_rows) ≡ Ok (image, rest)
image_again image rest h =
    then_ok match_rows _ (parts_reads.again image rest (of_parts image h)) (ap (λ (place : Option ℕ). matched place (image, rest)) (matched_to image.selectors image.methods 0 [] image.types h.rows_are))

image_taken : (bytes : List ℕ) (x : Image × List ℕ) → IsBytes bytes → (parts_at bytes >>= match_rows) ≡ Ok x → Taken Image IsImage part_bytes bytes x
image_taken bytes x fits e =
    let b = bound (parts_at bytes) match_rows x e in
    let t = parts_reads.taken bytes b.first fits b.first_is in
    let m = matched_parts (unmatched_in b.first.0) b.first x b.then_is in
    subst (Taken Image IsImage part_bytes bytes) m.1 (record {
      is = is_image b.first.0 t.is (matched_from b.first.0.selectors b.first.0.methods 0 [] b.first.0.types m.0);
      parts = t.parts;
      rest_fits = t.rest_fits;
    })

pub image_reads : Reads Image IsImage part_bytes (λ bytes. parts_at bytes >>= match_rows)
image_reads = record {
  again = image_again;
  taken = image_taken;
  refuses = λ bytes. refuses_then (parts_at bytes) match_rows (parts_reads.refuses bytes) (λ part. matched_refuses (unmatched_in part.0) part);
}
