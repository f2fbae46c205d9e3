-- `container::types_of` meets its contract: size and flag decide, and then the section's place.
use Rattle.header.specs.Answers.{header_in}
use Rattle.container.proofs.Parts.{types-unsized, types-unflagged, types-there}
use Rattle.container.proofs.types_of.Goals as goal

pub returns-then-types-eq0 : goal.returns-then-types-eq0
returns-then-types-eq0 c = types-unsized c.args.file.now (header_in c.args.header) c.if-types-eq0.true

pub returns-then-has_types : goal.returns-then-has_types
returns-then-has_types c = types-there c.args.file.now (header_in c.args.header) c.has_types.ensures c.if-has_types.true c.if-types-eq0.false c.types_at.ensures

pub returns : goal.returns
returns c = types-unflagged c.args.file.now (header_in c.args.header) c.has_types.ensures c.if-has_types.false
