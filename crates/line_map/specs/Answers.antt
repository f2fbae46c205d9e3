-- What the code's entries and answers mean.
use Rattle.std.specs.Prelude.{Option as Maybe, Some, None}
use Rattle.std.proofs.Math.Option.{Option, none, some}
use Rattle.format.specs.Debug.{Line}
use Rattle.line_map.specs.declared.LineMapEntry.{LineMapEntry}

abbrev pub line_in : LineMapEntry → Line
line_in e =
    record {
      function = e.function_id.0;
      offset = e.bytecode_offset;
      file = e.file_id.0;
      line = e.source_line.0;
      column = e.source_column.0;
    }

abbrev pub maybe_line : Maybe LineMapEntry → Option Line
maybe_line None = none
maybe_line (Some e) = some (line_in e)
