use Rattle.type_safety.proofs.SafeMoves.{facts_keep_safe}
use Rattle.type_safety.proofs.fitting.PartsHold.{are_parts}
use Rattle.type_safety.proofs.facts.PhaseFacts.{phases_give_facts}
use Rattle.type_safety.proofs.SafeRuns.{safe_runs}
use Rattle.type_safety.proofs.typed_code_is_safe.Goals as goal

pub returns-clause-safe : goal.returns-clause-safe
returns-clause-safe c = safe_runs

pub returns-clause-facts : goal.returns-clause-facts
returns-clause-facts c = phases_give_facts

pub returns-clause-moves : goal.returns-clause-moves
returns-clause-moves c = facts_keep_safe

pub returns-clause-parts : goal.returns-clause-parts
returns-clause-parts c = are_parts
