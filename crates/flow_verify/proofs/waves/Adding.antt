-- Lists of frames that are sent grow by what is sent to instructions.
use Rattle.std.proofs.Common.{◌≡◌, ℕ, ◌+◌, ◌<◌, true, false, List, [], ◌∷◌, ◌++◌, map, filter, take, get_or, length, Option, Some, None, is_some, cond, refl, sym, ap, subst, ◌∙◌}
use Rattle.std.specs.List.{AllByRecursion}
use Rattle.std.proofs.lemmas.List.{append_assoc, append-nil, map-append, map_more}
use Rattle.std.proofs.lemmas.List.Elements.{filter-append}
use Rattle.body_form.specs.declared.op.Op.{Op}
use Rattle.body_form.specs.declared.types.VFrame.{VFrame}
use Rattle.body_form.specs.Flow.{Ops, IsStart, pc_at}
use Rattle.jvm_model.specs.TypesRules.{op_at}
use Rattle.jvm_model.specs.TypesRight.{Sent}
use Rattle.type_rounds.proofs.tables.Lists.{all_map, all_append}
use Rattle.type_rounds.proofs.tables.Starts.{op_is_start, start_has_op}
use Rattle.type_table.specs.Frames.{Stored, Grows, IsFrame, frame_of}
use Rattle.type_table.specs.declared.store.FrameId.{FrameId}
use Rattle.type_table.proofs.Growing.{frame_stays, grows_along, grows_itself}
use Rattle.flow_verify.specs.declared.frames.Arriving.{Arriving}
use Rattle.flow_verify.specs.Waves.{sent_with, is_received, meaning_of, IsThere, Adds}

module _ (ops : Ops) (stored : Stored) where
  pub adds_none : (old : List Arriving) → Adds ops stored [] old old
  adds_none old = record { more = []; is = sym (append-nil old); there = tt; means = refl }

  pub adds_more : (first second : List Sent) (old mid new : List Arriving) → Adds ops stored first old mid → Adds ops stored second mid new → Adds ops stored (first ++ second) old new
  adds_more first second old mid new a b =
      record {
        more = a.more ++ b.more;
        is = b.is ∙ ap (λ (list : List Arriving). list ++ b.more) a.is ∙ append_assoc old a.more b.more;
        there = all_append (IsThere ops stored) a.more b.more a.there b.there;
        means =
            map-append (meaning_of ops stored) a.more b.more
            ∙ ap (λ (list : List Sent). list ++ map (meaning_of ops stored) b.more) a.means
            ∙ ap (λ (list : List Sent). filter (is_received ops) first ++ list) b.means
            ∙ sym (filter-append (is_received ops) first second);
      }

  pub adds_mapped : (of : ℕ → Sent) (xs : List ℕ) (i : ℕ) (old mid new : List Arriving) → i < length xs → Adds ops stored (map of (take i xs)) old mid → Adds ops stored (of (get_or xs i 0) ∷ []) mid new
      → Adds ops stored (map of (take (i + 1) xs)) old new
  adds_mapped of xs i old mid new within first second =
      subst (λ (sent : List Sent). Adds ops stored sent old new) (sym (map_more of xs i 0 within)) (adds_more (map of (take i xs)) (of (get_or xs i 0) ∷ []) old mid new first second)

  -- ---- one frame

  received_at : (pc : ℕ) (frame : VFrame) → IsStart ops pc → is_received ops (record { to = pc; frame = frame }) ≡ true
  received_at pc frame start = let (instruction, op) = start_has_op ops pc start in ap (λ (o : Option Op). is_some o) op

  pub adds_one : (position pc : ℕ) (id : FrameId) (old new : List Arriving) → position < length ops → pc_at ops position ≡ pc → IsStart ops pc → IsFrame stored id
      → new ≡ old ++ record { position = position; frame = id } ∷ [] → Adds ops stored (sent_with (frame_of stored id) pc ∷ []) old new
  adds_one position pc id old new within at start there is =
      let sent : Sent = record { to = pc; frame = frame_of stored id } in
      let named : ℕ → Sent = λ p. record { to = p; frame = frame_of stored id } in
      record {
        more = record { position = position; frame = id } ∷ [];
        is = is;
        there = (record { position = within; frame = there }, tt);
        means = ap (λ p. named p ∷ []) at ∙ sym (ap (λ b. cond b (sent ∷ []) []) (received_at pc (frame_of stored id) start));
      }

  not_received : (pc : ℕ) (frame : VFrame) (o : Option Op) → op_at ops pc ≡ o → (IsStart ops pc → ⊥) → is_received ops (record { to = pc; frame = frame }) ≡ false
  not_received pc frame None op none = ap (λ (o : Option Op). is_some o) op
  not_received pc frame (Some instruction) op none = absurd (none (op_is_start ops pc instruction op))

  pub adds_nowhere : (pc : ℕ) (frame : VFrame) (old : List Arriving) → (IsStart ops pc → ⊥) → Adds ops stored (sent_with frame pc ∷ []) old old
  adds_nowhere pc frame old none =
      let sent : Sent = record { to = pc; frame = frame } in
      record {
        more = [];
        is = sym (append-nil old);
        there = tt;
        means = sym (ap (λ b. cond b (sent ∷ []) []) (not_received pc frame (op_at ops pc) refl none));
      }

-- ---- in a store that grows

module _ (ops : Ops) (old new : Stored) (grows : Grows old new) where
  pub there_still : (x : Arriving) → IsThere ops old x → IsThere ops new x
  there_still x there = record { position = there.position; frame = (frame_stays old new x.frame grows there.frame).there }

  meaning_still : (x : Arriving) → IsThere ops old x → meaning_of ops new x ≡ meaning_of ops old x
  meaning_still x there =
      let of : VFrame → Sent = λ f. record { to = pc_at ops x.position; frame = f } in
      ap of (frame_stays old new x.frame grows there.frame).is

  pub meanings_still : (xs : List Arriving) → AllByRecursion (IsThere ops old) xs → map (meaning_of ops new) xs ≡ map (meaning_of ops old) xs
  meanings_still [] all = refl
  meanings_still (x ∷ xs) all =
      ap (λ (y : Sent). y ∷ map (meaning_of ops new) xs) (meaning_still x all.0) ∙ ap (λ (ys : List Sent). meaning_of ops old x ∷ ys) (meanings_still xs all.1)

  pub adds_still : (sent : List Sent) (first second : List Arriving) → Adds ops old sent first second → Adds ops new sent first second
  adds_still sent first second adds =
      record {
        more = adds.more;
        is = adds.is;
        there = all_map (IsThere ops old) (IsThere ops new) there_still adds.more adds.there;
        means = meanings_still adds.more adds.there ∙ adds.means;
      }

-- ---- step by step

-- a store grows, and so does a list, by what is sent meanwhile
pub record Sends (ops : Ops) (old new : Stored) (sent : List Sent) (before after : List Arriving) : Type 0 where
  pub grows : Grows old new
  pub adds : Adds ops new sent before after

pub sends_none : (ops : Ops) (stored : Stored) (list : List Arriving) → Sends ops stored stored [] list list
sends_none ops stored list = record { grows = grows_itself stored; adds = adds_none ops stored list }

pub sends_more : (ops : Ops) (a b c : Stored) (first second : List Sent) (old mid new : List Arriving) → Sends ops a b first old mid → Sends ops b c second mid new → Sends ops a c (first ++ second) old new
sends_more ops a b c first second old mid new one two =
    record {
      grows = grows_along a b c one.grows two.grows;
      adds = adds_more ops c first second old mid new (adds_still ops b c two.grows first old mid one.adds) two.adds;
    }
