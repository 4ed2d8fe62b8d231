-- A round is what its wave sends and what arrives of it.
use Rattle.std.proofs.Common.{◌≡◌, ℕ, ◌+◌, ◌<◌, ◌≤◌, ◌⊎◌, inl, inr, List, [], map, length, get_or, Option, Some, None, refl, sym, ap, subst, ◌∙◌, arith, add-one}
use Rattle.std.specs.List.{AllByRecursion, Contains, flat_map}
use Rattle.class_file.specs.declared.record.ClassFile.{ClassFile}
use Rattle.class_tree.specs.Tree.{Gathers}
use Rattle.body_form.specs.declared.body.Body.{Body}
use Rattle.body_form.specs.declared.types.VFrame.{VFrame}
use Rattle.body_form.specs.Flow.{pc_at}
use Rattle.jvm_model.specs.TypesNames.{IsOfSet}
use Rattle.jvm_model.specs.TypesRight.{Sent}
use Rattle.jvm_model.specs.TypesRounds.{arrival_of, arrive_at}
use Rattle.type_order.specs.OrderLaws.{IsProper}
use Rattle.type_rounds.proofs.tables.Lists.{all_map, all_both, all_elements, all_from}
use Rattle.type_table.specs.Frames.{Stored, Grows, frame_of}
use Rattle.flow_verify.specs.declared.frames.Arriving.{Arriving}
use Rattle.flow_verify.specs.declared.frames.Frames.{Frames}
use Rattle.flow_verify.specs.KnownFrames.{known_at, IsSound, AreKept}
use Rattle.flow_verify.specs.Lowest.{IsLowest, lower_of}
use Rattle.flow_verify.specs.Waves.{sent_at, sent_in, arrival_at, meaning_of, IsThere, Adds, UnruledIn, ClashesAt}
use Rattle.flow_verify.specs.Merging.{HaveArrived}
use Rattle.flow_verify.specs.Outcomes.{WaveFails, IsRound}
use Rattle.flow_verify.proofs.waves.LowestPcs.{lowest_same, lowest_both}
use Rattle.flow_verify.proofs.waves.Putting.{if_some, kept_still, known_still}
use Rattle.flow_verify.proofs.waves.WaveProper.{wave_proper}

no_lower : (a b : Option ℕ) → lower_of a b ≡ None → b ≡ None
no_lower None b e = e
no_lower (Some a) None e = refl
no_lower (Some a) (Some b) e = cc

module _ (files : List ClassFile) (gathers : Gathers files None) (body : Body) (of_set : IsOfSet files body) (round : ℕ) (frames : Frames) (kept : AreKept files (length body.ops) round frames.store frames.known.items) (wave : List ℕ) (within : AllByRecursion (λ position. position < length body.ops) wave) (mid : Stored) (grows : Grows frames.store mid) (arriving : List Arriving) (adds : Adds body.ops mid (flat_map (sent_at files body frames.store frames.known.items) wave) [] arriving) where
  abbrev sent : List Sent
  sent = sent_in files body frames.store frames.known.items wave

  abbrev then : Frames
  then = record { store = mid; known = frames.known }

  -- ---- what is sent

  pub kept_then : AreKept files (length body.ops) (round + 1) mid frames.known.items
  kept_then =
      let still = kept_still files (length body.ops) round frames.store mid grows frames.known.items kept in
      record {
        count = still.count;
        sound = still.sound;
        last = λ position. if_some (λ known. known.round ≤ round) (λ known. known.round ≤ round + 1) (get_or frames.known.items position None) (λ known le. omega (arith, le)) (still.last position);
      }

  all_there : AllByRecursion (IsThere body.ops mid) arriving
  all_there = subst (AllByRecursion (IsThere body.ops mid)) (sym adds.is) adds.there

  means : map (meaning_of body.ops mid) arriving ≡ sent
  means = ap (map (meaning_of body.ops mid)) adds.is ∙ adds.means

  pub all_within : AllByRecursion (λ one. one.position < length body.ops) arriving
  all_within = all_map (IsThere body.ops mid) (λ one. one.position < length body.ops) (λ one there. there.position) arriving all_there

  pub all_sound : AllByRecursion (λ one. IsSound files mid one.frame) arriving
  all_sound =
      let proper : AllByRecursion (λ x. IsProper files x.frame) (map (meaning_of body.ops mid) arriving) =
      subst (AllByRecursion (λ (x : Sent). IsProper files x.frame)) (sym means) (wave_proper files gathers body of_set frames.store frames.known.items kept.sound wave within)
      in
      all_both (IsThere body.ops mid) (λ one. IsProper files (frame_of mid one.frame)) (λ one. IsSound files mid one.frame) (λ one there is. record { there = there.frame; proper = is }) arriving all_there
      (all_from (λ (x : Sent). IsProper files x.frame) (meaning_of body.ops mid) arriving proper)

  -- ---- what arrives

  known_is : (position : ℕ) → known_at then position ≡ known_at frames position
  known_is = known_still files (length body.ops) round frames.store mid grows frames.known.items kept

  arrival_is : (position : ℕ) → arrival_at files body.ops mid frames.known.items (map (meaning_of body.ops mid) arriving) position ≡ arrival_at files body.ops frames.store frames.known.items sent position
  arrival_is position =
      ap (λ (list : List Sent). arrival_at files body.ops mid frames.known.items list position) means
      ∙ ap (λ (o : Option VFrame). arrive_at files (pc_at body.ops position) (arrival_of o) sent) (known_is position)

  module _ (after : Frames) (next : List ℕ) (failing clash : Option ℕ) (unruled : IsLowest (UnruledIn files body frames.store frames.known.items wave) failing) (arrived : HaveArrived files body.ops (round + 1) (map (meaning_of body.ops mid) arriving) then after next clash) where
    abbrev ClashesThen : ℕ → Type 0
    ClashesThen pc = ClashesAt files body.ops mid frames.known.items (map (meaning_of body.ops mid) arriving) pc

    fails_to : (pc : ℕ) → UnruledIn files body frames.store frames.known.items wave pc ⊎ ClashesThen pc → WaveFails files body frames wave pc
    fails_to pc (inl un) = inl un
    fails_to pc (inr (position, less, at, is)) = inr (position, less, at, sym (arrival_is position) ∙ is)

    fails_from : (pc : ℕ) → WaveFails files body frames wave pc → UnruledIn files body frames.store frames.known.items wave pc ⊎ ClashesThen pc
    fails_from pc (inl un) = inl un
    fails_from pc (inr (position, less, at, is)) = inr (position, less, at, arrival_is position ∙ is)

    merged_then : lower_of failing clash ≡ None → (position : ℕ) → position < length body.ops → arrival_at files body.ops frames.store frames.known.items sent position ≡ arrival_of (known_at after position)
    merged_then none position less =
        elim (arrived.merged position less) [
          | inl clashed ↦
              let free : IsLowest ClashesThen None = subst (IsLowest ClashesThen) (no_lower failing clash none) arrived.clashes in
              absurd (free (pc_at body.ops position) (position, less, refl, clashed))
          | inr known ↦ sym (arrival_is position) ∙ known
        ]

    changed_then : (position : ℕ) → Contains next position ⊎ (known_at after position ≡ known_at frames position)
    changed_then position =
        elim (arrived.changed position) [
          | inl listed ↦ inl listed
          | inr same ↦ inr (same ∙ known_is position)
        ]

    pub round_is : IsRound files body round frames after wave next (lower_of failing clash)
    round_is =
        record {
          kept = subst (λ n. AreKept files (length body.ops) n after.store after.known.items) (add-one round) arrived.kept;
          fails =
              lowest_same (λ pc. UnruledIn files body frames.store frames.known.items wave pc ⊎ ClashesThen pc) (WaveFails files body frames wave) fails_to fails_from (lower_of failing clash)
              (lowest_both (UnruledIn files body frames.store frames.known.items wave) ClashesThen failing clash unruled arrived.clashes);
          merged = merged_then;
          within = all_elements (λ position. position < length body.ops) next arrived.within;
          changed = λ position less. changed_then position;
        }
