-- What the code's header means.
use Rattle.std.specs.Prelude.{ℕ, List}
use Rattle.format.specs.Header.{Directory, Runtime, Header}
use Rattle.base.specs.Digest.{digest_bytes}
use Rattle.base.specs.Section.{place_in}
use Rattle.header.specs.declared.FileHeader.{FileHeader}
use Rattle.header.specs.declared.SectionDirectory.{SectionDirectory}
use Rattle.header.specs.declared.RuntimeParameters.{RuntimeParameters}
use Rattle.header.specs.declared.Reserved.{Reserved}

abbrev pub directory_in : SectionDirectory → Directory
directory_in d =
    record {
      signature = place_in d.sig_section;
      debug_signature = place_in d.debug_sig;
      types = place_in d.type_section;
      tasks = place_in d.task_section;
      constants = place_in d.const_section;
      code = place_in d.code_section;
      debug = place_in d.debug_section;
    }

abbrev pub runtime_in : RuntimeParameters → Runtime
runtime_in r =
    record {
      max_stack_depth = r.max_stack_depth;
      max_call_depth = r.max_call_depth;
      variables = r.num_variables;
      data_region_bytes = r.data_region_bytes;
      temp_buffers = r.num_temp_bufs;
      max_temp_buffer_bytes = r.max_temp_buf_bytes;
      functions = r.num_functions;
      fb_types = r.num_fb_types;
      input_image_bytes = r.input_image_bytes;
      output_image_bytes = r.output_image_bytes;
      memory_image_bytes = r.memory_image_bytes;
    }

abbrev pub reserved_bytes : Reserved → List ℕ
reserved_bytes r = r.0

abbrev pub header_in : FileHeader → Header
header_in h =
    record {
      magic = h.magic;
      version = h.format_version;
      profile = h.profile;
      flags = h.flags;
      content_hash = digest_bytes h.content_hash;
      reserved_hash = digest_bytes h.reserved_hash_slot;
      debug_hash = digest_bytes h.debug_hash;
      layout_hash = digest_bytes h.layout_hash;
      directory = directory_in h.sections;
      runtime = runtime_in h.runtime;
      reserved = reserved_bytes h.reserved;
    }
