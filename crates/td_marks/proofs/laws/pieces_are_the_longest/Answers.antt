use Rattle.td_marks.proofs.Sets.{pieces_text, pieces_differ}
use Rattle.td_marks.proofs.laws.pieces_are_the_longest.Goals as goal

pub returns-clause-text : goal.returns-clause-text
returns-clause-text c = pieces_text

pub returns-clause-longest : goal.returns-clause-longest
returns-clause-longest c = pieces_differ
