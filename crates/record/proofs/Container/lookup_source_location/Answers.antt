-- `record::Container::lookup_source_location` meets its contract: 10 or 15 where the record has no debug, else what the debug section answers.
use Rattle.record.proofs.Lookups.{debug_ok}
use Rattle.record.proofs.Container.lookup_source_location.Goals as goal

pub returns : goal.returns
returns c = debug_ok _ _ _ _ _ c.in_ok-debug_section.ensures c.lookup_source_location.ensures
