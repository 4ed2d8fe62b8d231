-- What follows from the promises.
use Rattle.std.proofs.Common.{◌≡◌, ◌≢◌, ℕ, List, Option, inl, inr, refl, sym, subst, ◌∙◌}
use Rattle.std.specs.FinMap.{insert}
use Rattle.host_face.specs.Shelf.{Files}
use Rattle.image_form.specs.Format.{encoding}
use Rattle.jvm_model.specs.declared.refusal.Refusal.{Refusal}
use Rattle.set_verdict.specs.Verdict.{IsRefused}
use Rattle.mote_top.specs.declared.status.Status.{Status}
use Rattle.mote_top.specs.declared.status.Status.TheVariants.{ConsoleFault, ShelfFault, Memory}
use Rattle.mote_top.specs.Words.{IsName, Setting, AreOptions, run_of, limits_of}
use Rattle.mote_top.specs.Call.{Call, After}
use Rattle.mote_top.specs.Headline.{RunsSet, InfusesTo, StoresInfusion, IsAnswer, HasCause, ChangesOwn, NoneRose}
use Rattle.mote_top.specs.Promises.{Promises}
use Rattle.mote_top.proofs.replies.Causes.{at_names}
use Rattle.mote_top.proofs.commands.Commands.{one_infuse}
use Rattle.mote_top.proofs.replies.SetLaws.{accepted_or_refused}
use Rattle.mote_top.proofs.replies.Stores.{kept_there}

pub stored_runs : (first second : Call) (between : After) (files : List (List ℕ)) (out : List ℕ) (settings : List Setting) → StoresInfusion first between files out
    → second.shelf.kept ≡ between.shelf.kept → second.words ≡ run_of out settings → IsName out → AreOptions settings → RunsSet second files (limits_of settings)
stored_runs first second between files out settings stored same words is_name options =
    inr (record {
      image = stored.image;
      is_image = stored.is_image;
      runs =
          record {
            kept = insert stored.kept out (encoding stored.image);
            tells = same ∙ stored.stored;
            settings = settings;
            name = out;
            command = words;
            is_name = is_name;
            options = options;
            limits_are = refl;
            found = kept_there stored.kept out (encoding stored.image);
          };
    })

-- what is kept did not change, where the set is refused
unchanged : (call : Call) (now : Option Files) (files : List (List ℕ)) (out : List ℕ) (refusal : Refusal) → InfusesTo call files out → IsRefused files refusal → ChangesOwn call.words call.shelf.kept now → now ≡ call.shelf.kept
unchanged call now files out refusal given refused (inl same) = same
unchanged call now files out refusal given refused (inr changes) =
    let one = one_infuse changes.out changes.classes out given.classes (sym changes.command ∙ given.command) in
    let same : changes.files ≡ files = at_names call.shelf.kept given.kept changes.classes given.classes changes.files files given.tells one.1 changes.found given.found in
    absurd (accepted_or_refused changes.files refusal changes.accepted (subst (λ (f : List (List ℕ)). IsRefused f refusal) (sym same) refused))

pub refused_keeps : (call : Call) (after : After) (files : List (List ℕ)) (out : List ℕ) (refusal : Refusal) → Promises call after → InfusesTo call files out → IsRefused files refusal → after.shelf.kept ≡ call.shelf.kept
refused_keeps call after files out refusal promises given refused = unchanged call after.shelf.kept files out refusal given refused promises.stays.shelf.kept

answers : (call : Call) (after : After) → NoneRose call after → (status : Status) → HasCause call after status → status ≢ Memory → IsAnswer status
answers call after none ConsoleFault cause other = none.console cause.rose
answers call after none (ShelfFault word) cause other = elim cause.rose [ inl store ↦ none.stores cause.name store.1 | inr load ↦ none.loads cause.name load.1 ]
answers call after none Memory cause other = other refl
answers call after none _ cause other = tt

pub answers_without_faults : (call : Call) (after : After) → Promises call after → NoneRose call after → after.status ≢ Memory → IsAnswer after.status
answers_without_faults call after promises none other = answers call after none after.status promises.faults other
