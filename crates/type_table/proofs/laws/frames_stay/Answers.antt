-- The laws of stores, from the lemmas on growth and on lengths.
use Rattle.type_table.proofs.Growing.{frame_stays, grows_along, grows_itself}
use Rattle.type_table.proofs.Lengths.{frame_is_high, frame_is_wide}
use Rattle.type_table.proofs.laws.frames_stay.Goals as goal

pub returns : goal.returns
returns c = record { stay = frame_stays; goes_on = grows_along; stops = grows_itself; high = frame_is_high; wide = frame_is_wide }
