use Rattle.controller_machine.proofs.Events.{plays-are-events}
use Rattle.controller_machine.proofs.laws.plays_are_events.Goals as goal

pub returns : goal.returns
returns c = plays-are-events
