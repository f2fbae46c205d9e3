-- What the code's answers mean.
use Rattle.std.specs.Prelude.{ℕ, ◌+◌, ◌-◌, length}
use Rattle.reading.specs.Reader.{Reader, ◌>>=◌, give}
use Rattle.reading.specs.declared.Table.{Table}
use Rattle.format.specs.Debug.{Variable, FunctionName, StringLayout, SourceFile, Enumeration, enumeration}
use Rattle.format.specs.Parts.{Place, Keep}
use Rattle.format.specs.Lookups.{EnumerationHead}
use Rattle.base.specs.Digest.{digest_bytes}
use Rattle.base.specs.Section.{part_in}
use Rattle.debug_entries.specs.declared.variables.VariableEntry.{VariableEntry}
use Rattle.debug_entries.specs.declared.function_names.FunctionNameEntry.{FunctionNameEntry}
use Rattle.debug_entries.specs.declared.string_layouts.StringLayoutEntry.{StringLayoutEntry}
use Rattle.debug_entries.specs.declared.source_files.SourceFileEntry.{SourceFileEntry}
use Rattle.debug_entries.specs.declared.enumerations.EnumerationEntry.{EnumerationEntry}

-- Variables

abbrev pub variable_in : VariableEntry → Variable Place
variable_in v =
    record {
      index = v.var_index.0;
      function = v.function_id.0;
      section = v.var_section;
      type_tag = v.iec_type_tag;
      named = part_in v.name;
      type_name = part_in v.type_name;
    }

-- Function names

abbrev pub function_name_in : FunctionNameEntry → FunctionName Place
function_name_in v = record { id = v.function_id.0; named = part_in v.name }

-- String layouts

abbrev pub string_layout_in : StringLayoutEntry → StringLayout
string_layout_in v =
    record {
      variable = v.var_index.0;
      data_offset = v.data_offset;
      max_length = v.max_length;
    }

-- Source files

abbrev pub source_file_in : SourceFileEntry → SourceFile Place
source_file_in v = record { located = part_in v.path; hash = digest_bytes v.content_hash }

-- Enumerations: an answer has the head, which is the name and the number of values, and the table of the values' names

pub record EnumerationWithValues : Type 0 where
  pub head : EnumerationHead Place
  pub values : Table

-- the values' names follow the enumeration's name and a count of two bytes (document 01: "9 enumerations (name, value count 2, names)"), in a section
-- at `base` of the file
abbrev pub with_values : ℕ → EnumerationHead Place → EnumerationWithValues
with_values base h = record { head = h; values = record { at = h.named.offset + h.named.size + 2 - base; count = h.value_count } }

abbrev pub entry_of : ℕ → Enumeration Place → EnumerationWithValues
entry_of base e = with_values base (record { named = e.named; value_count = length e.values })

-- the reader of an enumeration, for such an answer
abbrev pub enumeration_entry : ℕ → Keep Place → Reader EnumerationWithValues
enumeration_entry base keep = do
  e ← enumeration keep
  give (entry_of base e)

abbrev pub enumeration_in : EnumerationEntry → EnumerationWithValues
enumeration_in v = record { head = record { named = part_in v.type_name; value_count = v.values.count }; values = v.values }
