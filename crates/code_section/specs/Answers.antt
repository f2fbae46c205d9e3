-- What the code's entries mean.
use Rattle.format.specs.Code.{Function}
use Rattle.code_section.specs.declared.FuncEntry.{FuncEntry}

abbrev pub func_in : FuncEntry → Function
func_in f =
    record {
      id = f.function_id.0;
      offset = f.code_offset;
      size = f.code_length;
      max_stack_depth = f.max_stack_depth;
      locals = f.num_locals;
      parameters = f.num_params;
    }
