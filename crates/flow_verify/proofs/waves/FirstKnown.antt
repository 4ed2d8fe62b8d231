-- What is known at first: the start frame at pc 0.
use Rattle.std.proofs.Common.{◌≡◌, ℕ, zero, suc, ◌<◌, ◌≤◌, ◌≢◌, ◌⊎◌, inl, inr, Bool, true, false, List, [], length, get_or, set, replicate, Option, Some, None, IfSome, nat_eq, if◌then◌else◌, option_map, refl, sym, ap, subst, ◌∙◌, arith, get_or-set_other, get_or-set_same}
use Rattle.std.specs.List.{AllByRecursion, Contains}
use Rattle.std.proofs.lemmas.Bool.{cases_eq, cases_lt}
use Rattle.std.proofs.lemmas.Bool.Decides.{Decides-eqb, nat_tests}
use Rattle.std.proofs.lemmas.List.{length-set, length-replicate, get_or_past}
use Rattle.class_file.specs.declared.record.ClassFile.{ClassFile}
use Rattle.class_tree.specs.Tree.{Gathers}
use Rattle.code_reach.specs.Reached.{RisesFrom}
use Rattle.body_form.specs.declared.body.Body.{Body}
use Rattle.body_form.specs.Flow.{Ops, IsStart, pc_at}
use Rattle.jvm_model.specs.TypesFrames.{start_frame}
use Rattle.jvm_model.specs.TypesNames.{IsOfSet}
use Rattle.jvm_model.specs.TypesRounds.{first_table}
use Rattle.type_order.specs.OrderLaws.{IsProper}
use Rattle.type_rounds.proofs.tables.Lists.{all_elements}
use Rattle.type_rounds.proofs.Rounds.{ordered}
use Rattle.type_table.specs.Changes.{IsFound}
use Rattle.type_table.specs.Frames.{Stored, IsFrame, frame_of}
use Rattle.type_table.specs.declared.store.FrameId.{FrameId}
use Rattle.flow_verify.specs.declared.frames.Frames.{Frames}
use Rattle.flow_verify.specs.declared.frames.Known.{Known}
use Rattle.flow_verify.specs.KnownFrames.{Entries, known_at, IsSound, AreListed}
use Rattle.flow_verify.specs.Merging.{IsListed}
use Rattle.flow_verify.specs.Starting.{entry_at_first, IsStored}
use Rattle.flow_verify.specs.Outcomes.{IsFirst}
use Rattle.flow_verify.proofs.waves.Positions.{one_position, start_here}

-- ---- no entries

no_entry : (n position : ℕ) → get_or (replicate {A = Option Known} n None) position None ≡ None
no_entry zero position = refl
no_entry (suc n) zero = refl
no_entry (suc n) (suc position) = no_entry n position

pub none_listed : (n round : ℕ) (entries : Entries) (wave : List ℕ) → entries ≡ replicate n None → AreListed round entries wave
none_listed n round entries wave is position =
    let P : Option Known → Type 0 = λ o. IfSome o (λ known. known.round ≡ round → Contains wave position) in
    subst P (sym (ap (λ (list : Entries). get_or list position None) is ∙ no_entry n position)) tt

-- ---- the entry at pc 0

module _ (ops : Ops) (stored : Stored) (id : FrameId) where
  abbrev entry : Known
  entry = record { frame = id; round = 0 }

  entry_there : (pc : ℕ) → pc ≡ 0 → entry_at_first id pc ≡ Some entry
  entry_there pc at = ap (λ b. if b then Some entry else None) ((Decides-eqb pc 0).1 at)

  entry_elsewhere : (pc : ℕ) → pc ≢ 0 → entry_at_first id pc ≡ None
  entry_elsewhere pc away = let test : nat_eq pc 0 ≡ false = grind (arith, nat_tests, away) in ap (λ b. if b then Some entry else None) test

  -- where no instruction is there
  pub stored_nowhere : (frames : Frames) (wave : List ℕ) (n : ℕ) → (IsStart ops 0 → ⊥) → frames.store ≡ stored → n ≡ length ops → frames.known.items ≡ replicate n None → wave ≡ [] → IsStored ops stored id frames wave
  stored_nowhere frames wave n none store count known empty =
      record {
        store = store;
        count = ap length known ∙ length-replicate n None ∙ count;
        entries = λ position within.
            ap (λ (list : Entries). get_or list position None) known ∙ no_entry n position ∙ sym (entry_elsewhere (pc_at ops position) (λ at. none (start_here ops position 0 within at)));
        within = subst (AllByRecursion (λ position. position < length ops)) (sym empty) tt;
        listed = λ position within at. absurd (none (start_here ops position 0 within at));
      }

  -- where one is
  module _ (rise : RisesFrom 0 ops) (place : ℕ) (there : place < length ops) (at : pc_at ops place ≡ 0) where
    only_place : (position : ℕ) → position < length ops → pc_at ops position ≡ 0 → position ≡ place
    only_place position within is = one_position ops rise position place within there (is ∙ sym at)

    entry_at : (n : ℕ) → n ≡ length ops → (position : ℕ) → position < length ops → get_or (set (replicate n None) place (Some entry)) position None ≡ entry_at_first id (pc_at ops position)
    entry_at n count position within =
        elim (cases_eq position place) [
          | inl same ↦
              let inside : place < length (replicate {A = Option Known} n None) = omega (arith, there, count, length-replicate {A = Option Known} n None) in
              ap (λ k. get_or (set (replicate n None) place (Some entry)) k None) same
              ∙ get_or-set_same (replicate n None) place (Some entry) None inside
              ∙ sym (entry_there (pc_at ops position) (ap (pc_at ops) same ∙ at))
          | inr away ↦
              get_or-set_other (replicate n None) place position (Some entry) None away
              ∙ no_entry n position
              ∙ sym (entry_elsewhere (pc_at ops position) (λ is. away (only_place position within is)))
        ]

    pub stored_here : (frames : Frames) (wave : List ℕ) (n : ℕ) → frames.store ≡ stored → n ≡ length ops → frames.known.items ≡ set (replicate n None) place (Some entry) → IsListed place [] wave
        → IsStored ops stored id frames wave
    stored_here frames wave n store count known listed =
        record {
          store = store;
          count = ap length known ∙ length-set (replicate n None) place (Some entry) ∙ length-replicate n None ∙ count;
          entries = λ position within. ap (λ (list : Entries). get_or list position None) known ∙ entry_at n count position within;
          within = all_elements (λ position. position < length ops) wave (λ position is. within_from position (listed.only position is));
          listed = λ position within is. subst (Contains wave) (sym (only_place position within is)) listed.has;
        }
      where
        within_from : (position : ℕ) → Contains [] position ⊎ (place ≡ position) → position < length ops
        within_from position (inl (k, less, is)) = absurd (omega (arith, less))
        within_from position (inr same) = subst (λ p. p < length ops) same there

-- ---- the first table

module _ (files : List ClassFile) (gathers : Gathers files None) (body : Body) (of_set : IsOfSet files body) (stored : Stored) (id : FrameId) (found : IsFound stored id (start_frame files body)) (frames : Frames) (wave : List ℕ) (is : IsStored body.ops stored id frames wave) where
  abbrev first : Known
  first = record { frame = id; round = 0 }

  abbrev entries : Entries
  entries = frames.known.items

  -- an entry is the first one, or there is none
  either_with : (o : Option Known) (b : Bool) → o ≡ (if b then Some first else None) → (o ≡ Some first) ⊎ (o ≡ None)
  either_with o true e = inl e
  either_with o false e = inr e

  either : (position : ℕ) → (get_or entries position None ≡ Some first) ⊎ (get_or entries position None ≡ None)
  either position =
      elim (cases_lt position (length body.ops)) [
        | inl within ↦ either_with (get_or entries position None) (nat_eq (pc_at body.ops position) 0) (is.entries position within)
        | inr past ↦ inr (get_or_past entries position None (omega (arith, past, is.count)))
      ]

  all_first : (P : Known → Type 0) → P first → (position : ℕ) → IfSome (get_or entries position None) P
  all_first P holds position =
      let Q : Option Known → Type 0 = λ o. IfSome o P in
      elim (either position) [
        | inl some ↦ subst Q (sym some) holds
        | inr none ↦ subst Q (sym none) tt
      ]

  frame_is : frame_of frames.store id ≡ start_frame files body
  frame_is = ap (λ (s : Stored). frame_of s id) is.store ∙ found.is

  sound : IsSound files frames.store id
  sound =
      record {
        there = subst (λ (s : Stored). IsFrame s id) (sym is.store) found.there;
        proper = subst (IsProper files) (sym frame_is) (ordered.start files gathers body of_set);
      }

  frame_if : (b : Bool) → option_map (λ (known : Known). frame_of frames.store known.frame) (if b then Some first else None) ≡ (if b then Some (start_frame files body) else None)
  frame_if true = ap Some frame_is
  frame_if false = refl

  frame_first : (position : ℕ) → position < length body.ops → known_at frames position ≡ first_table files body (pc_at body.ops position)
  frame_first position within = ap (option_map (λ (known : Known). frame_of frames.store known.frame)) (is.entries position within) ∙ frame_if (nat_eq (pc_at body.ops position) 0)

  listed_or_none : (position : ℕ) → position < length body.ops → Contains wave position ⊎ (known_at frames position ≡ None)
  listed_or_none position within =
      elim (cases_eq (pc_at body.ops position) 0) [
        | inl at ↦ inl (is.listed position within at)
        | inr away ↦
            inr (ap (option_map (λ (known : Known). frame_of frames.store known.frame)) (is.entries position within ∙ entry_elsewhere body.ops stored id (pc_at body.ops position) away))
      ]

  pub first_is : IsFirst files body frames wave
  first_is =
      record {
        kept = record { count = is.count; sound = all_first (λ known. IsSound files frames.store known.frame) sound; last = all_first (λ known. known.round ≤ 0) (omega arith) };
        same = frame_first;
        within = is.within;
        all = listed_or_none;
      }
