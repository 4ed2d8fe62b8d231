-- Words are one command at most.
use Rattle.std.proofs.Common.{◌≡◌, ℕ, ◌<◌, ◌+◌, ◌≤◌, List, [], ◌∷◌, ◌++◌, take, drop, inl, inr, refl, sym, ap, subst, ◌∙◌, append_assoc, take-append-drop, arith}
use Rattle.std.specs.Prelude.{codes}
use Rattle.std.proofs.lemmas.List.{append-nil, take-take}
use Rattle.std.proofs.lemmas.Bool.{cases_lt}
use Rattle.jvm_model.specs.Phases.{saturated}
use Rattle.mote_top.specs.declared.words.Command.TheVariants.{Infuse, Run, Go}
use Rattle.mote_top.specs.Words.{IsName, AreNames, Setting, AreOptions, option_words, infuse_of, run_of, go_of, class_place, opts_of, limits_of, IsCommand, Begins, StopsAt, FaultsAt}
use Rattle.mote_top.proofs.commands.OptionWords.{one_reading}
use Rattle.mote_top.proofs.commands.WordParts.{names_all}

-- ---- one place

begins_prefix : (words : List (List ℕ)) (p q : ℕ) → p ≤ q → Begins (take q words) → Begins (take p words)
begins_prefix words p q le b =
    let rest = drop p (take q words) in
    let parts : take q words ≡ take p words ++ rest = sym (take-append-drop p (take q words)) ∙ ap (λ (prefix : List (List ℕ)). prefix ++ rest) (take-take p q words le) in
    record {
      more = rest ++ b.more;
      command = b.command;
      whole = subst (λ (all : List (List ℕ)). IsCommand all b.command) (ap (λ (prefix : List (List ℕ)). prefix ++ b.more) parts ∙ append_assoc (take p words) rest b.more) b.whole;
    }

before_is_false : (words : List (List ℕ)) (p q : ℕ) → StopsAt words p → StopsAt words q → p < q → ⊥
before_is_false words p q a b lt = a.stops (omega (arith, b.within)) (begins_prefix words (p + 1) q (omega arith) b.begins)

one_stop : (words : List (List ℕ)) (p q : ℕ) → StopsAt words p → StopsAt words q → p ≡ q
one_stop words p q a b =
    elim (cases_lt p q) [
      | inl lt ↦ absurd (before_is_false words p q a b lt)
      | inr le ↦ elim (cases_lt q p) [ inl gt ↦ absurd (before_is_false words q p b a gt) | inr ge ↦ omega arith ]
    ]

-- the words are at fault at one place
pub one_slot : (words : List (List ℕ)) (p q : ℕ) → FaultsAt words p → FaultsAt words q → p ≡ q
one_slot words p q a b = a.place_is ∙ ap (λ n. saturated n) (one_stop words a.at b.at a.stops b.stops) ∙ sym b.place_is

-- ---- the commands

pub go_command : (words : List (List ℕ)) (settings : List Setting) (classes : List (List ℕ)) → words ≡ go_of settings classes → AreOptions settings → AreNames classes → IsCommand words (Go (opts_of settings) (class_place settings))
go_command words settings classes are options names = record { settings = settings; classes = classes; words_are = are; options = options; are_classes = names; opts_are = refl; first_is = refl }

pub run_command : (words : List (List ℕ)) (name : List ℕ) (settings : List Setting) → words ≡ run_of name settings → IsName name → AreOptions settings → IsCommand words (Run 1 (opts_of settings))
run_command words name settings are is_name options = record { name = name; settings = settings; words_are = are; is_name = is_name; options = options; name_is = refl; opts_are = refl }

pub infuse_command : (words : List (List ℕ)) (out : List ℕ) (classes : List (List ℕ)) → words ≡ infuse_of out classes → IsName out → AreNames classes → IsCommand words (Infuse 1 2)
infuse_command words out classes are is_out names = record { out_name = out; classes = classes; words_are = are; is_out = is_out; are_classes = names; out_is = refl; first_is = refl }

-- ---- one command

pub go_is_no_run : (settings : List Setting) (classes : List (List ℕ)) (other : List ℕ) (second : List Setting) → go_of settings classes ≡ run_of other second → ⊥
go_is_no_run settings classes other second e = cc

pub go_is_no_infuse : (settings : List Setting) (classes : List (List ℕ)) (out : List ℕ) (others : List (List ℕ)) → go_of settings classes ≡ infuse_of out others → ⊥
go_is_no_infuse settings classes out others e = cc

pub run_is_no_infuse : (name : List ℕ) (settings : List Setting) (out : List ℕ) (classes : List (List ℕ)) → run_of name settings ≡ infuse_of out classes → ⊥
run_is_no_infuse name settings out classes e = cc

pub one_infuse : (out : List ℕ) (classes : List (List ℕ)) (other : List ℕ) (others : List (List ℕ)) → infuse_of out classes ≡ infuse_of other others → (out ≡ other) × (classes ≡ others)
one_infuse out classes other others e = let a : out ≡ other = cc in let b : classes ≡ others = cc in (a, b)

tail_is : (a b : List ℕ) (xs ys : List (List ℕ)) → a ∷ xs ≡ b ∷ ys → xs ≡ ys
tail_is a b xs ys e = cc

-- the same words are the same names and options
pub one_go : (a b : List Setting) (classes others : List (List ℕ)) → AreOptions a → AreOptions b → AreNames classes → AreNames others → go_of a classes ≡ go_of b others → (classes ≡ others) × (limits_of a ≡ limits_of b)
one_go a b classes others x y names more e =
    let one = one_reading a b classes others x.fit y.fit (names_all classes names) (names_all others more) (tail_is (codes "go") (codes "go") (option_words a ++ classes) (option_words b ++ others) e) in
    (one.1, ap limits_of one.0)

name_is : (name other : List ℕ) (xs ys : List (List ℕ)) → codes "run" ∷ name ∷ xs ≡ codes "run" ∷ other ∷ ys → name ≡ other
name_is name other xs ys e = cc

options_are : (name other : List ℕ) (xs ys : List (List ℕ)) → codes "run" ∷ name ∷ xs ≡ codes "run" ∷ other ∷ ys → xs ≡ ys
options_are name other xs ys e = cc

pub one_run : (a b : List Setting) (name other : List ℕ) → AreOptions a → AreOptions b → run_of name a ≡ run_of other b → (name ≡ other) × (limits_of a ≡ limits_of b)
one_run a b name other x y e =
    let words : option_words a ++ [] ≡ option_words b ++ [] = append-nil (option_words a) ∙ options_are name other (option_words a) (option_words b) e ∙ sym (append-nil (option_words b)) in
    (name_is name other (option_words a) (option_words b) e, ap limits_of (one_reading a b [] [] x.fit y.fit tt tt words).0)
