-- Frames that arrive one after another.
use Rattle.std.proofs.Common.{◌≡◌, ℕ, ◌<◌, ◌≢◌, ◌⊎◌, inl, inr, true, false, List, [], ◌∷◌, ◌++◌, length, Option, Some, None, nat_eq, refl, sym, ap, subst, ◌∙◌, arith}
use Rattle.std.specs.List.{Contains}
use Rattle.std.proofs.lemmas.Bool.{cases_Bool, cases_eq}
use Rattle.std.proofs.lemmas.Bool.Decides.{nat_tests}
use Rattle.std.proofs.lemmas.Option.{none-some, same_Some}
use Rattle.class_file.specs.declared.record.ClassFile.{ClassFile}
use Rattle.code_reach.specs.Reached.{RisesFrom}
use Rattle.body_form.specs.declared.types.VFrame.{VFrame}
use Rattle.body_form.specs.Flow.{Ops, pc_at}
use Rattle.jvm_model.specs.TypesRight.{Sent}
use Rattle.jvm_model.specs.TypesRounds.{Arrival, Clash, arrival_of, arrives, arrive_at}
use Rattle.type_rounds.proofs.tables.Arrivals.{arrive_none, arrive_here, arrive_elsewhere}
use Rattle.type_rounds.proofs.tables.Starts.{same_pc}
use Rattle.type_table.specs.Frames.{Grows, IsFrame, frame_of}
use Rattle.type_table.proofs.Growing.{frame_stays, grows_itself, grows_along}
use Rattle.flow_verify.specs.declared.frames.Arriving.{Arriving}
use Rattle.flow_verify.specs.declared.frames.Frames.{Frames}
use Rattle.flow_verify.specs.KnownFrames.{known_at, AreKept, AreListed}
use Rattle.flow_verify.specs.Lowest.{IsLowest, lower_of}
use Rattle.flow_verify.specs.Waves.{arrival_at, meaning_of, ClashesAt}
use Rattle.flow_verify.specs.Merging.{ArrivesAt, HasArrived, HaveArrived}
use Rattle.flow_verify.proofs.waves.Positions.{one_position}
use Rattle.flow_verify.proofs.waves.LowestPcs.{lowest_same, lowest_both}

-- ---- one frame more

no_clash : (o : Option VFrame) → arrival_of o ≡ Clash → ⊥
no_clash None e = cc
no_clash (Some frame) e = cc

module _ (files : List ClassFile) (pc : ℕ) where
  push_here : (a : Arrival) (sent : List Sent) (x : Sent) → nat_eq x.to pc ≡ true → arrive_at files pc a (sent ++ x ∷ []) ≡ arrives files (arrive_at files pc a sent) x.frame
  push_here a [] x is =
      arrive_here files pc a x [] is ∙ arrive_none files pc (arrives files a x.frame) ∙ ap (λ (b : Arrival). arrives files b x.frame) (sym (arrive_none files pc a))
  push_here a (y ∷ sent) x is =
      elim (cases_Bool (nat_eq y.to pc)) [
        | inl same ↦
            arrive_here files pc a y (sent ++ x ∷ []) same
            ∙ push_here (arrives files a y.frame) sent x is
            ∙ ap (λ (b : Arrival). arrives files b x.frame) (sym (arrive_here files pc a y sent same))
        | inr other ↦ arrive_elsewhere files pc a y (sent ++ x ∷ []) other ∙ push_here a sent x is ∙ ap (λ (b : Arrival). arrives files b x.frame) (sym (arrive_elsewhere files pc a y sent other))
      ]

  push_elsewhere : (a : Arrival) (sent : List Sent) (x : Sent) → nat_eq x.to pc ≡ false → arrive_at files pc a (sent ++ x ∷ []) ≡ arrive_at files pc a sent
  push_elsewhere a [] x is = arrive_elsewhere files pc a x [] is
  push_elsewhere a (y ∷ sent) x is =
      elim (cases_Bool (nat_eq y.to pc)) [
        | inl same ↦ arrive_here files pc a y (sent ++ x ∷ []) same ∙ push_elsewhere (arrives files a y.frame) sent x is ∙ sym (arrive_here files pc a y sent same)
        | inr other ↦ arrive_elsewhere files pc a y (sent ++ x ∷ []) other ∙ push_elsewhere a sent x is ∙ sym (arrive_elsewhere files pc a y sent other)
      ]

-- ---- none

pub none_arrived : (files : List ClassFile) (ops : Ops) (round : ℕ) (frames : Frames) → AreKept files (length ops) round frames.store frames.known.items → AreListed round frames.known.items []
    → HaveArrived files ops round [] frames frames [] None
none_arrived files ops round frames kept listed =
    record {
      grows = grows_itself frames.store;
      kept = kept;
      listed = listed;
      clashes = λ pc (position, within, at, clash).
          no_clash (known_at frames position) (sym (arrive_none files (pc_at ops position) (arrival_of (known_at frames position))) ∙ clash);
      merged = λ position within. inr (arrive_none files (pc_at ops position) (arrival_of (known_at frames position)));
      within = λ position (k, less, is). absurd (omega (arith, less));
      changed = λ position. inr refl;
    }

-- ---- one more

only_pc : (o : Option ℕ) → IsLowest (λ pc. o ≡ Some pc) o
only_pc None = λ pc e. none-some pc e
only_pc (Some low) = (refl, λ pc less e. let same : low ≡ pc = same_Some low pc e in omega (arith, less, same))

module _ (files : List ClassFile) (ops : Ops) (rise : RisesFrom 0 ops) (round : ℕ) (sent : List Sent) (first before after : Frames) (wave next : List ℕ) (low clash : Option ℕ) (arriving : Arriving) (so_far : HaveArrived files ops round sent first before wave low) (within : arriving.position < length ops) (there : IsFrame first.store arriving.frame) (one : HasArrived files ops arriving before after wave next clash) where
  abbrev place : ℕ
  place = arriving.position

  abbrev x : Sent
  x = meaning_of ops first.store arriving

  abbrev all : List Sent
  all = sent ++ x ∷ []

  abbrev At : List Sent → ℕ → Arrival
  At list position = arrival_at files ops first.store first.known.items list position

  frame_is : frame_of before.store arriving.frame ≡ x.frame
  frame_is = (frame_stays first.store before.store arriving.frame so_far.grows there).is

  here_at : At all place ≡ arrives files (At sent place) x.frame
  here_at = push_here files (pc_at ops place) (arrival_of (known_at first place)) sent x (same_pc (pc_at ops place))

  apart : (position : ℕ) → position < length ops → position ≢ place → nat_eq (pc_at ops place) (pc_at ops position) ≡ false
  apart position less away =
      let other : pc_at ops place ≢ pc_at ops position = λ same. away (sym (one_position ops rise place position within less same)) in
      grind (arith, nat_tests, other)

  other_at : (position : ℕ) → position < length ops → position ≢ place → At all position ≡ At sent position
  other_at position less away = push_elsewhere files (pc_at ops position) (arrival_of (known_at first position)) sent x (apart position less away)

  -- what arrives at the place
  met : ArrivesAt files (pc_at ops place) (known_at before place) x.frame (known_at after place) clash
  met = subst (λ (f : VFrame). ArrivesAt files (pc_at ops place) (known_at before place) f (known_at after place) clash) frame_is one.here

  after_clash : At sent place ≡ Clash → At all place ≡ Clash
  after_clash is = here_at ∙ ap (λ (a : Arrival). arrives files a x.frame) is

  after_known : At sent place ≡ arrival_of (known_at before place) → At all place ≡ arrives files (arrival_of (known_at before place)) x.frame
  after_known is = here_at ∙ ap (λ (a : Arrival). arrives files a x.frame) is

  -- ---- the place

  merged_with : (o : Option ℕ) → ArrivesAt files (pc_at ops place) (known_at before place) x.frame (known_at after place) o → At sent place ≡ arrival_of (known_at before place)
      → (At all place ≡ Clash) ⊎ (At all place ≡ arrival_of (known_at after place))
  merged_with None meets is = inr (after_known is ∙ meets)
  merged_with (Some pc) meets is = inl (after_known is ∙ meets.1)

  merged_here : (At all place ≡ Clash) ⊎ (At all place ≡ arrival_of (known_at after place))
  merged_here =
      elim (so_far.merged place within) [
        | inl clashed ↦ inl (after_clash clashed)
        | inr known ↦ merged_with clash met known
      ]

  merged_then : (position : ℕ) → position < length ops → (At all position ≡ Clash) ⊎ (At all position ≡ arrival_of (known_at after position))
  merged_then position less =
      elim (cases_eq position place) [
        | inl same ↦ subst (λ p. (At all p ≡ Clash) ⊎ (At all p ≡ arrival_of (known_at after p))) (sym same) merged_here
        | inr away ↦
            elim (so_far.merged position less) [
              | inl clashed ↦ inl (other_at position less away ∙ clashed)
              | inr known ↦ inr (other_at position less away ∙ known ∙ ap arrival_of (sym (one.others position away)))
            ]
      ]

  -- ---- clashes

  abbrev Clashes : List Sent → ℕ → Type 0
  Clashes list pc = ClashesAt files ops first.store first.known.items list pc

  abbrev Either : ℕ → Type 0
  Either pc = Clashes sent pc ⊎ (clash ≡ Some pc)

  still_clashes : (position : ℕ) → position < length ops → At sent position ≡ Clash → At all position ≡ Clash
  still_clashes position less is =
      elim (cases_eq position place) [
        | inl same ↦ subst (λ p. At all p ≡ Clash) (sym same) (after_clash (subst (λ p. At sent p ≡ Clash) same is))
        | inr away ↦ other_at position less away ∙ is
      ]

  new_clash : (o : Option ℕ) (pc : ℕ) → ArrivesAt files (pc_at ops place) (known_at before place) x.frame (known_at after place) o → o ≡ Some pc → Clashes all pc
  new_clash None pc meets e = absurd (none-some pc e)
  new_clash (Some low) pc meets e =
      let at : pc_at ops place ≡ pc = sym meets.0 ∙ same_Some low pc e in
      elim (so_far.merged place within) [
        | inl clashed ↦ (place, within, at, after_clash clashed)
        | inr known ↦ (place, within, at, after_known known ∙ meets.1)
      ]

  clash_to : (pc : ℕ) → Either pc → Clashes all pc
  clash_to pc (inl (position, less, at, is)) = (position, less, at, still_clashes position less is)
  clash_to pc (inr is) = new_clash clash pc met is

  from_place : (o : Option ℕ) → ArrivesAt files (pc_at ops place) (known_at before place) x.frame (known_at after place) o → At sent place ≡ arrival_of (known_at before place)
      → At all place ≡ Clash → o ≡ Some (pc_at ops place)
  from_place None meets is clashes = absurd (no_clash (known_at after place) (sym (after_known is ∙ meets) ∙ clashes))
  from_place (Some low) meets is clashes = ap Some meets.0

  clash_from : (pc : ℕ) → Clashes all pc → Either pc
  clash_from pc (position, less, at, is) =
      elim (cases_eq position place) [
        | inr away ↦ inl (position, less, at, sym (other_at position less away) ∙ is)
        | inl same ↦
            let is_place : At all place ≡ Clash = subst (λ p. At all p ≡ Clash) same is in
            let at_place : pc_at ops place ≡ pc = ap (pc_at ops) (sym same) ∙ at in
            elim (so_far.merged place within) [
              | inl clashed ↦ inl (place, within, at_place, clashed)
              | inr known ↦ inr (from_place clash met known is_place ∙ ap Some at_place)
            ]
      ]

  -- ---- the list

  changed_then : (position : ℕ) → Contains next position ⊎ (known_at after position ≡ known_at first position)
  changed_then position =
      elim (so_far.changed position) [
        | inl listed ↦ inl (one.keeps position listed)
        | inr same ↦
            elim (cases_eq position place) [
              | inr away ↦ inr (one.others position away ∙ same)
              | inl here ↦
                  elim one.changed [
                    | inl listed ↦ inl (subst (Contains next) (sym here) listed)
                    | inr stays ↦ inr (subst (λ p. known_at after p ≡ known_at before p) (sym here) stays ∙ same)
                  ]
            ]
      ]

  within_then : (position : ℕ) → Contains next position → position < length ops
  within_then position listed =
      elim (one.only position listed) [
        | inl earlier ↦ so_far.within position earlier
        | inr same ↦ subst (λ p. p < length ops) same within
      ]

  pub one_more : Grows before.store after.store → AreKept files (length ops) round after.store after.known.items → AreListed round after.known.items next
      → HaveArrived files ops round all first after next (lower_of low clash)
  one_more grows kept listed =
      record {
        grows = grows_along first.store before.store after.store so_far.grows grows;
        kept = kept;
        listed = listed;
        clashes = lowest_same Either (Clashes all) clash_to clash_from (lower_of low clash) (lowest_both (Clashes sent) (λ pc. clash ≡ Some pc) low clash so_far.clashes (only_pc clash));
        merged = merged_then;
        within = within_then;
        changed = changed_then;
      }
