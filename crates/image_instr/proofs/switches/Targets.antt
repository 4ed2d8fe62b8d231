-- The search for a key among the targets in the code.
use Rattle.std.proofs.Common.{◌≡◌, ◌≢◌, ℕ, ℤ, pos, zero, suc, ◌+ℤ◌, ◌*◌, ◌<◌, Bool, true, false, cond, List, drop, refl, sym, ap, ◌∙◌, arith}
use Rattle.std.specs.Ordering.{int_eq}
use Rattle.std.proofs.lemmas.Int.{ints}
use Rattle.std.proofs.lemmas.List.{drop-drop}
use Rattle.std.proofs.lemmas.Bool.Decides.{Decides-int_eq}
use Rattle.byteorder.specs.Endian.{big_number}
use Rattle.image_instr.specs.Reading.{targets_in}
use Rattle.image_instr.specs.Switch.{target_in}

pub not_true : (test : Bool) → (test ≡ true → ⊥) → test ≡ false
not_true true h = absurd (h refl)
not_true false h = refl

-- ---- targets

pub targets-outside : (default count : ℕ) (low : ℤ) (bytes : List ℕ) (key : ℤ) → ((place : ℕ) → place < count → key ≢ low +ℤ pos place) → target_in default (targets_in low count bytes) key ≡ default
unfolding targets_in
targets-outside default zero low bytes key outside = refl
targets-outside default (suc count) low bytes key outside =
    let here : low +ℤ pos 0 ≡ low = omega (arith, ints) in
    let other : int_eq low key ≡ false = not_true (int_eq low key) (λ e. outside 0 (omega arith) (sym ((Decides-int_eq low key).0 e) ∙ sym here)) in
    ap (λ (b : Bool). cond b (big_number 2 bytes) (target_in default (targets_in (low +ℤ pos 1) count (drop 2 bytes)) key)) other
    ∙ targets-outside default count (low +ℤ pos 1) (drop 2 bytes) key (λ place lt e.
    let next : (low +ℤ pos 1) +ℤ pos place ≡ low +ℤ pos (suc place) = omega (arith, ints) in
    outside (suc place) (omega arith) (e ∙ next))

pub targets-at : (default count : ℕ) (low : ℤ) (bytes : List ℕ) (key : ℤ) (place : ℕ) → place < count → key ≡ low +ℤ pos place → target_in default (targets_in low count bytes) key ≡ big_number 2 (drop (2 * place) bytes)
unfolding targets_in
targets-at default zero low bytes key place lt e = absurd (omega arith)
targets-at default (suc count) low bytes key zero lt e =
    let here : low ≡ key = omega (arith, ints, e) in
    ap (λ (b : Bool). cond b (big_number 2 bytes) (target_in default (targets_in (low +ℤ pos 1) count (drop 2 bytes)) key)) ((Decides-int_eq low key).1 here)
targets-at default (suc count) low bytes key (suc place) lt e =
    let other : int_eq low key ≡ false = not_true (int_eq low key) (λ t. let same = (Decides-int_eq low key).0 t in omega (arith, ints, e, same)) in
    let next : key ≡ (low +ℤ pos 1) +ℤ pos place = omega (arith, ints, e) in
    ap (λ (b : Bool). cond b (big_number 2 bytes) (target_in default (targets_in (low +ℤ pos 1) count (drop 2 bytes)) key)) other
    ∙ targets-at default count (low +ℤ pos 1) (drop 2 bytes) key place (omega arith) next
    ∙ ap (big_number 2) (drop-drop (2 * place) 2 bytes ∙ ap (λ (n : ℕ). drop n bytes) (omega arith))
