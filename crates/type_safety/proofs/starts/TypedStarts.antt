-- The state in which a run of typed code starts fits its types.
use Rattle.std.proofs.Common.{◌≡◌, ◌-◌, false, List, [], ◌++◌, length, replicate, None, refl, sym, subst}
use Rattle.body_form.specs.declared.body.Body.{Body}
use Rattle.body_form.specs.declared.types.VType.{VType}
use Rattle.body_form.specs.declared.types.VType.TheVariants as known
use Rattle.jvm_model.specs.Bodies.{AreEach}
use Rattle.jvm_model.specs.TypesFrames.{arguments_of, start_frame}
use Rattle.typed_machine.specs.TypedCalls.{frame_for}
use Rattle.typed_machine.specs.TypedWorld.{World}
use Rattle.type_safety.specs.Fitting.{LocalFits, FrameFits}
use Rattle.type_safety.specs.Safety.{IsSet}
use Rattle.type_safety.specs.Starts.{StartsFit}
use Rattle.type_safety.proofs.fitting.EachLists.{each_replicate}
use Rattle.type_safety.proofs.facts.CodeRead.{files_read}
use Rattle.type_safety.proofs.facts.PhaseFacts.{phases_give_facts}
use Rattle.type_safety.proofs.moves.Starting.{starting_fits}
use Rattle.type_safety.proofs.starts.EntryMethod.{entry_is, runs_main}
use Rattle.type_safety.proofs.starts.InitialValues.{initial_fits}

-- a static method without parameters starts without arguments
no_arguments : (world : World) (body : Body) → body.instance ≡ false → body.params ≡ [] → arguments_of world.files body ≡ []
no_arguments world body static params = rw static (rw params refl)

-- no local of a frame without arguments is set
unset_fits : (world : World) (body : Body) → body.instance ≡ false → body.params ≡ [] → FrameFits world [] body (frame_for world.main body []) (start_frame world.files body)
unset_fits world body static params =
    record {
      locals = subst (λ (types : List VType). AreEach (LocalFits world [] body) (replicate (body.max_locals - 0) None) (types ++ replicate (body.max_locals - length types) known.Top)) (sym (no_arguments world body static params))
          (each_replicate (LocalFits world [] body) (body.max_locals - 0) None known.Top refl);
      operands = tt;
    }

pub typed_starts : StartsFit
typed_starts files world tables is entry =
    let read = files_read 0 files world.files is.records is.codes in
    let main = runs_main world read is.bodies world.main (entry_is world.files world.main entry) in
    let set : IsSet world tables = record { closed = is.closed; facts = phases_give_facts files world tables is; types = is.types } in
    record {
      main = main.body;
      found = main.found;
      static = main.object;
      params = main.params;
      result = main.result;
      fits = λ answers. record {
        frames = (starting_fits world tables set [] tt (frame_for world.main main.body []) main.body main.found refl (unset_fits world main.body main.object main.params), refl);
        objects = tt;
        statics = initial_fits world is.closed read [];
      };
    }
