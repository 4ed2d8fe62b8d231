-- Parts of a list of cells, read upwards and downwards.
use Rattle.std.proofs.Common.{◌≡◌, ℕ, ◌+◌, ◌-◌, ◌<◌, ◌≤◌, List, length, get_or, reverse, slice_range, sym, ◌∙◌, ap, arith}
use Rattle.std.proofs.lemmas.List.{length-reverse, get_or-reverse}
use Rattle.std.proofs.lemmas.List.Edits.{length-between, get_or-between}
use Rattle.std.proofs.lemmas.Grind.{same_number_lists}

-- a part of a list is what it reads as
pub read_up : (cells items : List ℕ) (base n : ℕ) → base + n ≤ length cells → length items ≡ n → ((k : ℕ) → k < n → get_or cells (base + k) 0 ≡ get_or items k 0) → slice_range cells base (base + n) ≡ items
read_up cells items base n within long same =
    let size : length (slice_range cells base (base + n)) ≡ n = length-between cells base (base + n) within ∙ omega arith in
    same_number_lists (slice_range cells base (base + n)) items (size ∙ sym long)
    (λ k below.
    let small : k < n = omega (arith, below, size) in
    get_or-between cells base (base + n) k 0 (omega arith) ∙ same k small)

-- the same, downwards
pub read_down : (cells items : List ℕ) (top n : ℕ) → n ≤ top → top ≤ length cells → length items ≡ n → ((k : ℕ) → k < n → get_or cells (top - 1 - k) 0 ≡ get_or items k 0) → reverse (slice_range cells (top - n) top) ≡ items
read_down cells items top n deep within long same =
    let part = slice_range cells (top - n) top in
    let size : length part ≡ n = length-between cells (top - n) top within ∙ omega arith in
    same_number_lists (reverse part) items (length-reverse part ∙ (size ∙ sym long))
    (λ k below.
    let small : k < length part = omega (arith, below, length-reverse part) in
    let at : get_or (reverse part) k 0 ≡ get_or part (length part - 1 - k) 0 = get_or-reverse part k 0 small in
    let inside : get_or part (length part - 1 - k) 0 ≡ get_or cells (top - n + (length part - 1 - k)) 0 =
    get_or-between cells (top - n) top (length part - 1 - k) 0 (omega (arith, small, size, deep)) in
    let place : top - n + (length part - 1 - k) ≡ top - 1 - k = omega (arith, small, size, deep) in
    at ∙ (inside ∙ (ap (λ i. get_or cells i 0) place ∙ same k (omega (arith, small, size)))))

pub length_up : (cells : List ℕ) (base n : ℕ) → base + n ≤ length cells → length (slice_range cells base (base + n)) ≡ n
length_up cells base n within = length-between cells base (base + n) within ∙ omega arith

pub length_down : (cells : List ℕ) (top n : ℕ) → n ≤ top → top ≤ length cells → length (reverse (slice_range cells (top - n) top)) ≡ n
length_down cells top n deep within =
    length-reverse (slice_range cells (top - n) top) ∙ (length-between cells (top - n) top within ∙ omega arith)

pub get_up : (cells : List ℕ) (base n k : ℕ) → k < n → get_or (slice_range cells base (base + n)) k 0 ≡ get_or cells (base + k) 0
get_up cells base n k small = get_or-between cells base (base + n) k 0 (omega arith)

pub get_down : (cells : List ℕ) (top n k : ℕ) → n ≤ top → top ≤ length cells → k < n → get_or (reverse (slice_range cells (top - n) top)) k 0 ≡ get_or cells (top - 1 - k) 0
get_down cells top n k deep within small =
    let part = slice_range cells (top - n) top in
    let size : length part ≡ n = length-between cells (top - n) top within ∙ omega arith in
    let at : get_or (reverse part) k 0 ≡ get_or part (length part - 1 - k) 0 = get_or-reverse part k 0 (omega (arith, small, size)) in
    let inside : get_or part (length part - 1 - k) 0 ≡ get_or cells (top - n + (length part - 1 - k)) 0 =
    get_or-between cells (top - n) top (length part - 1 - k) 0 (omega (arith, small, size, deep)) in
    let place : top - n + (length part - 1 - k) ≡ top - 1 - k = omega (arith, small, size, deep) in
    at ∙ (inside ∙ ap (λ i. get_or cells i 0) place)
