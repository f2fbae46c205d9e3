-- `record::Container::get_str` meets its contract: what is picked from the constant is what the record's lookup answers.
use Rattle.std.proofs.Common.{ap, ◌∙◌}
use Rattle.base.specs.Section.{bytes_or}
use Rattle.record.proofs.Lookups.{string_picked}
use Rattle.record.proofs.Container.get_str.Goals as goal

pub returns : goal.returns
returns c = c.get_str.ensures ∙ ap (bytes_or _) (string_picked _ _ _)
