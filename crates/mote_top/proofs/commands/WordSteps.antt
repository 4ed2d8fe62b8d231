-- What reading a word more makes of the parts of commands.
use Rattle.std.proofs.Common.{◌≡◌, ◌≢◌, ℕ, zero, suc, ◌+◌, ◌<◌, ◌≤◌, ◌^◌, List, [], ◌∷◌, ◌++◌, length, take, map, get_or, Option, Some, None, refl, sym, ap, subst, ◌∙◌, append_assoc, add-one, arith}
use Rattle.std.proofs.Math.ListN.{get_or-map}
use Rattle.std.proofs.Math.Seq.{take-suc}
use Rattle.std.proofs.lemmas.List.{length-map}
use Rattle.jvm_model.specs.Phases.{saturated}
use Rattle.std.specs.Prelude.{codes, decimal}
use Rattle.mote_top.specs.declared.words.Command.{Command}
use Rattle.mote_top.specs.declared.words.Given.{Given}
use Rattle.mote_top.specs.declared.words.Runs.{Runs}
use Rattle.mote_top.specs.declared.words.Runs.TheVariants.{Infusion, Classes}
use Rattle.mote_top.specs.declared.words.Part.{Part}
use Rattle.mote_top.specs.declared.words.Part.TheVariants as part
use Rattle.mote_top.specs.Words.{IsName, IsCommand, StopsAt, FaultsAt}
use Rattle.mote_top.specs.Parts.{NoneBegins, HasOptions, HasOption, HasClasses, HasOut, HasOutClasses, IsNamed, IsPart, IsPartOrNone, IsCommandOrNone}
use Rattle.mote_top.proofs.commands.WordParts.{part_begins, first_class, next_class, first_out_class, next_out_class, run_named, no_options}
use Rattle.mote_top.proofs.commands.WordFaults.{NextWord, NextStack, NextTicks, NextClass, next_word, stack_number, ticks_number, class_next, out_next, out_class_next, run_next, first_is, stops_at_word, stops_at_end}

-- no command begins with words and a word where none goes on with it
pub none_with : (words : List (List ℕ)) (word : List ℕ) → ((tail : List (List ℕ)) (c : Command) → IsCommand (words ++ (word ∷ tail)) c → ⊥) → NoneBegins (words ++ word ∷ [])
none_with words word none = λ more c is. none more c (subst (λ (ws : List (List ℕ)). IsCommand ws c) (append_assoc words (word ∷ []) more) is)

-- ---- after options

pub stack_step : (words : List (List ℕ)) (runs : Runs) (given : Given) (word : List ℕ) → word ≡ codes "--stack" → given.stack ≡ None → HasOptions words runs given → HasOption (words ++ word ∷ []) runs given (codes "--stack") × (given.stack ≡ None)
stack_step words runs given word is none o = (record { before = words; options = o; words_are = ap (λ (w : List ℕ). words ++ w ∷ []) is }, none)

pub ticks_step : (words : List (List ℕ)) (runs : Runs) (given : Given) (word : List ℕ) → word ≡ codes "--ticks" → given.ticks ≡ None → HasOptions words runs given → HasOption (words ++ word ∷ []) runs given (codes "--ticks") × (given.ticks ≡ None)
ticks_step words runs given word is none o = (record { before = words; options = o; words_are = ap (λ (w : List ℕ). words ++ w ∷ []) is }, none)

pub class_step : (words : List (List ℕ)) (runs : Runs) (given : Given) (word : List ℕ) → runs ≡ Classes → IsName word → HasOptions words runs given → HasClasses (words ++ word ∷ []) given
class_step words runs given word is name o = first_class words given word (subst (λ (r : Runs). HasOptions words r given) is o) name

pub no_step : (words : List (List ℕ)) (runs : Runs) (given : Given) (word : List ℕ) → (word ≡ codes "--stack" → given.stack ≡ None → ⊥) → (word ≡ codes "--ticks" → given.ticks ≡ None → ⊥) → (runs ≡ Classes → IsName word → ⊥)
    → HasOptions words runs given → NoneBegins (words ++ word ∷ [])
no_step words runs given word stack ticks class o = none_with words word (λ tail c is. by_next (next_word words runs given word tail c o is))
  where
    by_next : NextWord runs given word → ⊥
    by_next (NextStack is none) = stack is none
    by_next (NextTicks is none) = ticks is none
    by_next (NextClass is name) = class is name

-- ---- after --stack and --ticks

pub no_stack_step : (words : List (List ℕ)) (runs : Runs) (given : Given) (word : List ℕ) → ((cells : ℕ) → 64 ≤ cells → cells ≤ 32767 → word ≢ decimal cells) → HasOption words runs given (codes "--stack") → NoneBegins (words ++ word ∷ [])
no_stack_step words runs given word none o =
    none_with words word (λ tail c is. let n = stack_number words runs given word tail c o is in none n.cells n.least n.most n.word_is)

pub no_ticks_step : (words : List (List ℕ)) (runs : Runs) (given : Given) (word : List ℕ) → ((ticks : ℕ) → ticks < 2 ^ 64 → word ≢ decimal ticks) → HasOption words runs given (codes "--ticks") → NoneBegins (words ++ word ∷ [])
no_ticks_step words runs given word none o =
    none_with words word (λ tail c is. let n = ticks_number words runs given word tail c o is in none n.ticks n.fits n.word_is)

-- ---- names

named_step : (words : List (List ℕ)) (word : List ℕ) (wanted : Part) (result : Option Part) → IsNamed word wanted result → (IsName word → IsPart (words ++ word ∷ []) wanted) → ((tail : List (List ℕ)) (c : Command) → IsCommand (words ++ (word ∷ tail)) c → IsName word)
    → IsPartOrNone (words ++ word ∷ []) result
named_step words word wanted (Some p) (name, is) part only = subst (IsPart (words ++ word ∷ [])) (sym is) (part name)
named_step words word wanted None none part only = none_with words word (λ tail c is. none (only tail c is))

pub out_step : (words : List (List ℕ)) (word : List ℕ) (result : Option Part) → IsNamed word part.InfuseOut result → words ≡ codes "infuse" ∷ [] → IsPartOrNone (words ++ word ∷ []) result
out_step words word result named is =
    named_step words word part.InfuseOut result named (λ name. record { out = word; is_out = name; words_are = ap (λ (ws : List (List ℕ)). ws ++ word ∷ []) is }) (λ tail c whole. out_next words word tail c is whole)

pub first_out_step : (words : List (List ℕ)) (word : List ℕ) (result : Option Part) → IsNamed word part.InfuseClasses result → HasOut words [] → IsPartOrNone (words ++ word ∷ []) result
first_out_step words word result named out = named_step words word part.InfuseClasses result named (λ name. first_out_class words word out name) (λ tail c whole. out_class_next words [] word tail c out whole)

pub next_out_step : (words : List (List ℕ)) (word : List ℕ) (result : Option Part) → IsNamed word part.InfuseClasses result → HasOutClasses words → IsPartOrNone (words ++ word ∷ []) result
next_out_step words word result named c = named_step words word part.InfuseClasses result named (λ name. next_out_class words word c name) (λ tail x whole. out_class_next words c.classes word tail x c.out whole)

pub run_step : (words : List (List ℕ)) (word : List ℕ) (result : Option Part) → IsNamed word (part.Options Infusion no_options) result → words ≡ codes "run" ∷ [] → IsPartOrNone (words ++ word ∷ []) result
run_step words word result named is = named_step words word (part.Options Infusion no_options) result named (λ name. run_named words word is name) (λ tail c whole. run_next words word tail c is whole)

pub classes_step : (words : List (List ℕ)) (given : Given) (word : List ℕ) (result : Option Part) → IsNamed word (part.GoClasses given) result → HasClasses words given → IsPartOrNone (words ++ word ∷ []) result
classes_step words given word result named has = named_step words word (part.GoClasses given) result named (λ name. next_class words given word has name) (λ tail c whole. class_next words given word tail c has whole)

-- a name after the options of go
pub first_class_step : (words : List (List ℕ)) (runs : Runs) (given : Given) (word : List ℕ) (result : Option Part) → runs ≡ Classes → IsNamed word (part.GoClasses given) result → word ≢ codes "--stack" → word ≢ codes "--ticks" → HasOptions words runs given → IsPartOrNone (words ++ word ∷ []) result
first_class_step words runs given word result is named stack ticks o =
    named_step words word (part.GoClasses given) result named (λ name. class_step words runs given word is name o) (λ tail c whole. by_next (next_word words runs given word tail c o whole))
  where
    by_next : NextWord runs given word → IsName word
    by_next (NextStack same none) = absurd (stack same)
    by_next (NextTicks same none) = absurd (ticks same)
    by_next (NextClass same name) = name

-- ---- the first word

pub no_first : (word : List ℕ) → word ≢ codes "infuse" → word ≢ codes "run" → word ≢ codes "go" → NoneBegins (word ∷ [])
no_first word a b d = λ more c is. first_is word more c is a b d

-- ---- word by word

-- the words up to a place and the one there
pub word_more : {A : Type 0} (f : A → List ℕ) (xs : List A) (i : ℕ) (x : A) (text : List ℕ) → i < length xs → x ≡ get_or xs i x → text ≡ f x → take (i + 1) (map f xs) ≡ take i (map f xs) ++ text ∷ []
word_more f xs i x text less is same =
    ap (λ n. take n (map f xs)) (add-one i)
    ∙ take-suc (map f xs) i (f x) (subst (λ n. i < n) (sym (length-map xs f)) less)
    ∙ ap (λ (w : List ℕ). take i (map f xs) ++ w ∷ []) (get_or-map f xs i x ∙ ap f (sym is) ∙ sym same)

-- the word at a place makes a part of the words before it
pub part_more : (words before : List (List ℕ)) (more : List (List ℕ)) (p next : Part) → ((ws : List (List ℕ)) → IsPart ws p → IsPartOrNone (ws ++ more) (Some next)) → IsPart before p → words ≡ before ++ more → IsPart words next
part_more words before more p next step is parts = subst (λ (ws : List (List ℕ)). IsPart ws next) (sym parts) (step before is)

-- or no command begins with it
pub none_more : (words : List (List ℕ)) (place : ℕ) (more : List (List ℕ)) (p : Part) → place < length words → ((ws : List (List ℕ)) → IsPart ws p → IsPartOrNone (ws ++ more) None) → IsPart (take place words) p → take (place + 1) words ≡ take place words ++ more → StopsAt words place
none_more words place more p less step is parts =
    stops_at_word words place less (part_begins (take place words) p is) (subst NoneBegins (sym parts) (step (take place words) is))

-- all words are the part
pub all_words : (words : List (List ℕ)) (place : ℕ) (p : Part) → length words ≤ place → IsPart (take place words) p → IsPart words p
all_words words place p le is = subst (λ (ws : List (List ℕ)). IsPart ws p) (take_long words place le) is
  where
    take_long : (ws : List (List ℕ)) (n : ℕ) → length ws ≤ n → take n ws ≡ ws
    take_long [] zero le = refl
    take_long [] (suc n) le = refl
    take_long (w ∷ ws) zero le = absurd (omega (arith, le))
    take_long (w ∷ ws) (suc n) le = ap (λ (rest : List (List ℕ)). w ∷ rest) (take_long ws n (omega (arith, le)))

pub none_at_end : (words : List (List ℕ)) (p : Part) → IsPart words p → IsCommandOrNone words None → StopsAt words (length words)
none_at_end words p is none = stops_at_end words (part_begins words p is) none

pub fault_there : (words : List (List ℕ)) (at place : ℕ) → StopsAt words at → place ≡ saturated at → FaultsAt words place
fault_there words at place stops is = record { at = at; stops = stops; place_is = is }
