use Rattle.std.proofs.Common.{refl}
use Rattle.mote_core.proofs.mote.Mote.new.Goals as goal

pub returns-in-Ok-clause-ok : goal.returns-in-Ok-clause-ok
returns-in-Ok-clause-ok c =
    let sound = c.start.ensures.sound in
    let begun = c.in-Ok.ensures.begun in
    record {
      image_form = sound.image_is;
      image_is = refl;
      heap_is = refl;
      stands = λ method found fits.
          let stood = begun.fits method found fits in (
            stood.0,
            λ answers. record {
              sound = sound;
              reached = c.checked_images_are_safe.ensures.starts c.args.checked sound method found answers;
              pictures = stood.1 answers;
            },
          );
      wants = begun.wants;
      collections = begun.collections;
    }
