use Rattle.esc_rom.proofs.Driven.{once-lost}
use Rattle.esc_rom.proofs.driving.ask.Goals as goal

pub returns-in-Err-Lost-clause-asks : goal.returns-in-Err-Lost-clause-asks
returns-in-Err-Lost-clause-asks g c = once-lost c.fill.ensures c.in-Err-Lost.field-0-is c.in-Err-Lost.ensures.exchanges
