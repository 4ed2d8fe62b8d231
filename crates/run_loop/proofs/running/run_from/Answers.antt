use Rattle.std.proofs.Common.{refl, ◌∙◌}
use Rattle.run_loop.proofs.Coming.{coming_start, coming_on, measure_falls}
use Rattle.run_loop.proofs.Endings.{ran, goes_on_so}
use Rattle.run_loop.proofs.ReadBack.{seen}
use Rattle.run_loop.proofs.running.run_from.Goals as goal

pub loop-ending-init : goal.loop-ending-init
loop-ending-init g c =
    let C = g.C.Console in
    let stands = c.requires.1.1.0 in
    record { coming = coming_start C.left C.shown C.noted C.faults C.room g.start c.args.ticks stands.pictures.naming_is c.args.console.now c.args.mote.now stands; collections = refl }

pub returns-in-Ends-clause-ran : goal.returns-in-Ends-clause-ran
returns-in-Ends-clause-ran g c =
    let C = g.C.Console in
    let stands = c.requires.1.1.0 in
    let l = c.loop-ending in
    ran C.left C.shown C.noted C.faults C.room g.start c.args.ticks stands.pictures.naming_is c.requires.1.1.1 c.args.console.now l.console c.step.new.console l.mote c.step.new.mote l.left c.step.new.left l.invariant.coming
    c.in-Ends.ending c.in-Ends.ensures

pub loop-ending-smaller : goal.loop-ending-smaller
loop-ending-smaller g c =
    let C = g.C.Console in
    let stands = c.requires.1.1.0 in
    let l = c.loop-ending in
    let goes = goes_on_so C.left C.shown C.noted C.faults C.room (seen g.start l.mote) l.mote c.step.new.mote l.console c.step.new.console l.left c.step.new.left c.step.result c.in-On.is c.step.ensures in
    measure_falls C.left C.shown C.noted C.faults C.room g.start c.args.ticks stands.pictures.naming_is c.args.console.now l.console c.step.new.console l.mote c.step.new.mote l.left c.step.new.left l.invariant.coming goes

pub loop-ending-preserved : goal.loop-ending-preserved
loop-ending-preserved g c =
    let C = g.C.Console in
    let stands = c.requires.1.1.0 in
    let l = c.loop-ending in
    let goes = goes_on_so C.left C.shown C.noted C.faults C.room (seen g.start l.mote) l.mote c.step.new.mote l.console c.step.new.console l.left c.step.new.left c.step.result c.in-On.is c.step.ensures in
    record {
      coming = coming_on C.left C.shown C.noted C.faults C.room g.start c.args.ticks stands.pictures.naming_is c.args.console.now l.console c.step.new.console l.mote c.step.new.mote l.left c.step.new.left l.invariant.coming goes;
      collections = goes.collections ∙ l.invariant.collections;
    }
