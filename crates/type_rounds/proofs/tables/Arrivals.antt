-- What arrives at an instruction is the merge of what is sent there: it has what merges keep, and is above each.
use Rattle.std.proofs.Common.{◌≡◌, ℕ, true, false, inl, inr, List, [], ◌∷◌, Option, Some, None, nat_eq, if◌then◌else◌, refl, sym, ap, subst}
use Rattle.std.specs.List.{AllByRecursion}
use Rattle.std.proofs.lemmas.Bool.{cases_Bool, eqb-true, eqb-false}
use Rattle.class_file.specs.declared.record.ClassFile.{ClassFile}
use Rattle.class_tree.specs.Tree.{Gathers}
use Rattle.body_form.specs.declared.types.VFrame.{VFrame}
use Rattle.jvm_model.specs.TypesFrames.{merge_frames, IsAbove, IsKnownFrame}
use Rattle.jvm_model.specs.TypesRight.{Sent}
use Rattle.jvm_model.specs.TypesRounds.{Arrival, Nothing, Clash, Merged, or_clash, arrives, arrive_at, frame_in}
use Rattle.type_order.specs.OrderLaws.{IsProper}
use Rattle.type_rounds.proofs.tables.Ordered.{IsOrdered}

-- ---- step by step

module _ (files : List ClassFile) (pc : ℕ) (a : Arrival) where
  pub arrive_none : arrive_at files pc a [] ≡ a
  unfolding arrive_at
  arrive_none = refl

  pub arrive_here : (sent : Sent) (rest : List Sent) → nat_eq sent.to pc ≡ true → arrive_at files pc a (sent ∷ rest) ≡ arrive_at files pc (arrives files a sent.frame) rest
  unfolding arrive_at
  arrive_here sent rest e = ap (λ b. arrive_at files pc (if b then arrives files a sent.frame else a) rest) e

  pub arrive_elsewhere : (sent : Sent) (rest : List Sent) → nat_eq sent.to pc ≡ false → arrive_at files pc a (sent ∷ rest) ≡ arrive_at files pc a rest
  unfolding arrive_at
  arrive_elsewhere sent rest e = ap (λ b. arrive_at files pc (if b then arrives files a sent.frame else a) rest) e

-- ---- what merges keep

-- the frame that arrives, if one does, has P; where frames do not merge, something else holds
abbrev pub Holds : Type 0 → (VFrame → Type 0) → Arrival → Type 0
Holds clash P Nothing = Unit {0}
Holds clash P Clash = clash
Holds clash P (Merged frame) = P frame

pub frame_holds : (clash : Type 0) (P : VFrame → Type 0) (a : Arrival) (frame : VFrame) → Holds clash P a → frame_in a ≡ Some frame → P frame
frame_holds clash P Nothing frame h e = cc
frame_holds clash P Clash frame h e = cc
frame_holds clash P (Merged other) frame h e = let same : other ≡ frame = cc in subst P same h

module _ (files : List ClassFile) (clash : Type 0) (P : VFrame → Type 0) (joins : (f g : VFrame) → P f → P g → Holds clash P (or_clash (merge_frames files f g))) where
  one_more : (a : Arrival) (frame : VFrame) → Holds clash P a → P frame → Holds clash P (arrives files a frame)
  one_more Nothing frame h is = is
  one_more Clash frame h is = h
  one_more (Merged other) frame h is = joins other frame h is

  pub holds : (pc : ℕ) (a : Arrival) (arriving : List Sent) → Holds clash P a → AllByRecursion (λ sent. sent.to ≡ pc → P sent.frame) arriving → Holds clash P (arrive_at files pc a arriving)
  holds pc a [] h all = subst (Holds clash P) (sym (arrive_none files pc a)) h
  holds pc a (sent ∷ rest) h all =
      elim (cases_Bool (nat_eq sent.to pc)) [
        | inl same ↦
            subst (Holds clash P) (sym (arrive_here files pc a sent rest same))
            (holds pc (arrives files a sent.frame) rest (one_more a sent.frame h (all.0 (eqb-true sent.to pc same))) all.1)
        | inr other ↦ subst (Holds clash P) (sym (arrive_elsewhere files pc a sent rest other)) (holds pc a rest h all.1)
      ]

-- ---- above each frame

module _ (laws : IsOrdered) (files : List ClassFile) (gathers : Gathers files None) where
  abbrev pub ProperArrival : Arrival → Type 0
  ProperArrival a = Holds (Unit {0}) (IsProper files) a

  proper_with : (f g : VFrame) → IsProper files f → IsProper files g → (o : Option VFrame) → merge_frames files f g ≡ o → ProperArrival (or_clash o)
  proper_with f g first second None e = tt
  proper_with f g first second (Some h) e = laws.merged files gathers f g h first second e

  pub proper_merge : (f g : VFrame) → IsProper files f → IsProper files g → ProperArrival (or_clash (merge_frames files f g))
  proper_merge f g first second = proper_with f g first second (merge_frames files f g) refl

  -- a frame is below what arrived
  abbrev pub IsBelow : VFrame → Arrival → Type 0
  IsBelow frame Nothing = ⊥
  IsBelow frame Clash = Unit {0}
  IsBelow frame (Merged upper) = IsAbove files upper frame

  still_with : (frame other more : VFrame) → IsKnownFrame files frame → IsProper files other → IsProper files more → IsAbove files other frame
      → (o : Option VFrame) → merge_frames files other more ≡ o → IsBelow frame (or_clash o)
  still_with frame other more known first second below None e = tt
  still_with frame other more known first second below (Some h) e =
      let up = laws.above files gathers other more h first.known second.known e in
      laws.goes_on files gathers h other frame up.2 first.known known up.0 below

  still_below : (frame : VFrame) (a : Arrival) (more : VFrame) → IsKnownFrame files frame → ProperArrival a → IsProper files more → IsBelow frame a → IsBelow frame (arrives files a more)
  still_below frame Nothing more known first second below = absurd below
  still_below frame Clash more known first second below = tt
  still_below frame (Merged other) more known first second below = still_with frame other more known first second below (merge_frames files other more) refl

  newest_with : (other more : VFrame) → IsProper files other → IsProper files more → (o : Option VFrame) → merge_frames files other more ≡ o → IsBelow more (or_clash o)
  newest_with other more first second None e = tt
  newest_with other more first second (Some h) e = (laws.above files gathers other more h first.known second.known e).1

  newest_below : (a : Arrival) (more : VFrame) → ProperArrival a → IsProper files more → IsBelow more (arrives files a more)
  newest_below Nothing more first second = laws.itself files gathers more second
  newest_below Clash more first second = tt
  newest_below (Merged other) more first second = newest_with other more first second (merge_frames files other more) refl

  abbrev AllProper : List Sent → Type 0
  AllProper arriving = AllByRecursion (λ sent. IsProper files sent.frame) arriving

  pub first_below : (frame : VFrame) (pc : ℕ) (a : Arrival) (arriving : List Sent) → IsKnownFrame files frame → ProperArrival a → AllProper arriving → IsBelow frame a → IsBelow frame (arrive_at files pc a arriving)
  first_below frame pc a [] known proper all below = subst (IsBelow frame) (sym (arrive_none files pc a)) below
  first_below frame pc a (sent ∷ rest) known proper all below =
      elim (cases_Bool (nat_eq sent.to pc)) [
        | inl same ↦
            subst (IsBelow frame) (sym (arrive_here files pc a sent rest same))
            (first_below frame pc (arrives files a sent.frame) rest known (one_more files (Unit {0}) (IsProper files) proper_merge a sent.frame proper all.0) all.1 (still_below frame a sent.frame known proper all.0 below))
        | inr other ↦ subst (IsBelow frame) (sym (arrive_elsewhere files pc a sent rest other)) (first_below frame pc a rest known proper all.1 below)
      ]

  -- each frame that is sent to the pc is below what arrives there
  abbrev pub AllBelow : ℕ → Arrival → List Sent → Type 0
  AllBelow pc a arriving = AllByRecursion (λ sent. sent.to ≡ pc → IsBelow sent.frame a) arriving

  pub each_below : (pc : ℕ) (a : Arrival) (arriving : List Sent) → ProperArrival a → AllProper arriving → AllBelow pc (arrive_at files pc a arriving) arriving
  each_below pc a [] proper all = tt
  each_below pc a (sent ∷ rest) proper all =
      elim (cases_Bool (nat_eq sent.to pc)) [
        | inl same ↦
            let next = arrives files a sent.frame in
            let next_proper : ProperArrival next = one_more files (Unit {0}) (IsProper files) proper_merge a sent.frame proper all.0 in
            subst (λ end. AllBelow pc end (sent ∷ rest)) (sym (arrive_here files pc a sent rest same)) (
              (λ is. first_below sent.frame pc next rest (all.0).known next_proper all.1 (newest_below a sent.frame proper all.0)),
              each_below pc next rest next_proper all.1,
            )
        | inr other ↦
            subst (λ end. AllBelow pc end (sent ∷ rest)) (sym (arrive_elsewhere files pc a sent rest other)) (
              (λ is. absurd (eqb-false sent.to pc other is)),
              each_below pc a rest proper all.1,
            )
      ]
