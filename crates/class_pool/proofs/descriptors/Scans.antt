-- Scanning a text byte by byte, as loops do.
use Rattle.std.proofs.Common.{◌≡◌, ◌≢◌, ℕ, suc, ◌+◌, ◌<◌, ◌≤◌, Bool, true, false, cond, List, ◌∷◌, length, get_or, drop, drop-cons, add-one, Option, Some, None, option_map, refl, sym, ap, ◌∙◌, arith}
use Rattle.std.proofs.lemmas.Bool.{ne_eqb, eq-eqb}
use Rattle.std.proofs.lemmas.List.{drop_all}
use Rattle.class_pool.specs.DescriptorReading.{◌>>=◌, after_byte, name_size, brackets}

-- the byte at i, and those after it
at_byte : (text : List ℕ) (i : ℕ) → i < length text → drop i text ≡ get_or text i 0 ∷ drop (i + 1) text
at_byte text i lt = drop-cons text i 0 lt ∙ ap (λ (n : ℕ). get_or text i 0 ∷ drop n text) (sym (add-one i))

-- ---- brackets

pub bracket : (text : List ℕ) (i : ℕ) → i < length text → get_or text i 0 ≡ 91 → brackets (drop i text) ≡ brackets (drop (i + 1) text) + 1
unfolding brackets
bracket text i lt is = ap brackets (at_byte text i lt) ∙ rw (eq-eqb (get_or text i 0) 91 is) (sym (add-one (brackets (drop (i + 1) text))))

pub no_bracket : (text : List ℕ) (i : ℕ) → i < length text → get_or text i 0 ≢ 91 → brackets (drop i text) ≡ 0
unfolding brackets
no_bracket text i lt not = ap brackets (at_byte text i lt) ∙ rw (ne_eqb (get_or text i 0) 91 not) refl

pub no_letter : (text : List ℕ) (i : ℕ) → length text ≤ i → brackets (drop i text) ≡ 0
unfolding brackets
no_letter text i le = rw (drop_all i text) refl

-- ---- names

-- the size of a name, counted from further ahead
abbrev pub ahead : ℕ → Option ℕ → Option ℕ
ahead size found = option_map (λ n. size + n) found

-- what the rest of a name adds to its first byte
abbrev pub with_byte : Option Bool → List ℕ → Option ℕ
with_byte next text = next >>= λ begins. option_map suc (name_size begins text)

pub name_step : (begins : Bool) (byte : ℕ) (text : List ℕ) → byte ≢ 59 → name_size begins (byte ∷ text) ≡ with_byte (after_byte begins byte) text
unfolding name_size
name_step begins byte text not = ap (λ (b : Bool). cond b (cond begins None (Some 0)) (with_byte (after_byte begins byte) text)) (ne_eqb byte 59 not)

pub name_stop : (begins : Bool) (byte : ℕ) (text : List ℕ) → byte ≡ 59 → name_size begins (byte ∷ text) ≡ cond begins None (Some 0)
unfolding name_size
name_stop begins byte text is = ap (λ (b : Bool). cond b (cond begins None (Some 0)) (with_byte (after_byte begins byte) text)) (eq-eqb byte 59 is)

no_size : (size : ℕ) (begins : Bool) → ahead size (cond begins None (Some 0)) ≡ cond begins None (Some size)
no_size size true = refl
no_size size false = ap (λ (n : ℕ). Some n) (omega arith)

-- the name ends here
pub name_stops : (begins : Bool) (text : List ℕ) (size i : ℕ) (total : Option ℕ) → i < length text → get_or text i 0 ≡ 59 → ahead size (name_size begins (drop i text)) ≡ total → total ≡ cond begins None (Some size)
name_stops begins text size i total lt is so_far =
    sym so_far ∙ ap (λ (t : List ℕ). ahead size (name_size begins t)) (at_byte text i lt) ∙ ap (ahead size) (name_stop begins (get_or text i 0) (drop (i + 1) text) is) ∙ no_size size begins

-- no name goes on so
pub name_none : (begins : Bool) (text : List ℕ) (size i : ℕ) (total : Option ℕ) → i < length text → get_or text i 0 ≢ 59 → after_byte begins (get_or text i 0) ≡ None → ahead size (name_size begins (drop i text)) ≡ total → total ≡ None
name_none begins text size i total lt not next so_far =
    sym so_far ∙ ap (λ (t : List ℕ). ahead size (name_size begins t)) (at_byte text i lt) ∙ ap (ahead size) (name_step begins (get_or text i 0) (drop (i + 1) text) not ∙ ap (λ (n : Option Bool). with_byte n (drop (i + 1) text)) next)

counted_on : (size : ℕ) (found : Option ℕ) → ahead size (option_map suc found) ≡ ahead (size + 1) found
counted_on size None = refl
counted_on size (Some n) = ap (λ (m : ℕ). Some m) (omega arith)

-- the name goes on
pub name_on : (begins next : Bool) (text : List ℕ) (size i : ℕ) (total : Option ℕ) → i < length text → get_or text i 0 ≢ 59 → after_byte begins (get_or text i 0) ≡ Some next → ahead size (name_size begins (drop i text)) ≡ total
    → ahead (size + 1) (name_size next (drop (i + 1) text)) ≡ total
name_on begins next text size i total lt not go so_far =
    let rest = drop (i + 1) text in
    let one : ahead size (name_size begins (drop i text)) ≡ ahead size (option_map suc (name_size next rest)) =
    ap (λ (t : List ℕ). ahead size (name_size begins t)) (at_byte text i lt) ∙ ap (ahead size) (name_step begins (get_or text i 0) rest not ∙ ap (λ (n : Option Bool). with_byte n rest) go) in
    sym (counted_on size (name_size next rest)) ∙ sym one ∙ so_far

-- the text ends within a name
pub name_end : (begins : Bool) (text : List ℕ) (size i : ℕ) (total : Option ℕ) → length text ≤ i → ahead size (name_size begins (drop i text)) ≡ total → total ≡ None
unfolding name_size
name_end begins text size i total le so_far =
    let one : name_size begins (drop i text) ≡ None = rw (drop_all i text) refl in
    sym so_far ∙ ap (ahead size) one
