-- What the code's answers mean.
use Rattle.std.specs.Prelude.{Option, Some, None, Result, Ok, Err}
use Rattle.reading.specs.Places.{Next, ends, faulty, entry}
use Rattle.reading.specs.declared.Table.{Table}
use Rattle.format.specs.Record as record_of
use Rattle.base.specs.Error.{fault_of}
use Rattle.base.specs.declared.error.ContainerError.{ContainerError}
use Rattle.type_entries.specs.Answers.{fb_type_head_in}
use Rattle.type_entries.specs.declared.FbTypeDescriptor.{FbTypeDescriptor}
use Rattle.type_section.specs.Lookups.{FbTypeEntry}
use Rattle.type_section.specs.declared.TypeCounts.{TypeCounts}

abbrev pub type_counts_in : TypeCounts → record_of.TypeCounts
type_counts_in c = record { fb_types = c.fb_types; arrays = c.arrays; user_fbs = c.user_fbs }

-- FB types, each with the table of its fields

abbrev pub fb_type_entry_in : FbTypeDescriptor × Table → FbTypeEntry
fb_type_entry_in x = record { head = fb_type_head_in x.0; fields = x.1 }

abbrev pub fb_type_next_from : Result (Option (FbTypeDescriptor × Table × Table)) ContainerError → Next FbTypeEntry
fb_type_next_from (Err e) = faulty (fault_of e)
fb_type_next_from (Ok None) = ends
fb_type_next_from (Ok (Some x)) = entry (fb_type_entry_in (x.0, x.1)) x.2
